-- Opening a revision keeps the invariant between acts.
use Rattle.std.proofs.Common.{◌≡◌, ℕ, eqb, sym, ap, ◌∙◌, arith}
use Rattle.assurance.proofs.Each.{All-weaker}
use Rattle.std.proofs.lemmas.Bool.{cond_both, cond-false, eqb-true, ne_eqb}
use Rattle.assurance.proofs.Ideal.{updated, in_set, CoordinatorEntry, Open, SubordinateEntry, Active, Station, Plan, Run, Presumption, opened_station, upon_open}
use Rattle.assurance.proofs.Lasting.{upd_keep, Past, Inactive, Idle, Shut, Keeps, World, world, Grow, CoLegal, SubLegal, known_grows, comm_grows, abort_grows, legal_grows, co_grows, sub_grows, recs_grow}
use Rattle.assurance.proofs.SafeActs.{SafeSt, upd_same}

upd_other : {X : Type 0} (f : ℕ → X) (i : ℕ) (v : X) (j : ℕ) → (i ≡ j → ⊥) → updated f i v j ≡ f j
upd_other f i v j n = cond-false (eqb i j) v (f j) (ne_eqb i j n)

keeps_open : (n c all s : ℕ) (y : Station) → Keeps n y (opened_station n c all s y)
keeps_open n c all s y =
    record {
      got = λ k r h. h;
      doom = λ r l h. (h.0, cond_both (eqb c s) (updated y.coordinators n (Open all)) y.coordinators (λ (f : ℕ → CoordinatorEntry). Past (f r)) (λ _. rw (upd_other y.coordinators n (Open all) r (omega arith)) h.1) (λ _. h.1));
      veto = λ r l h. (h.0, cond_both (in_set all s) (updated y.subordinates n (Active c)) y.subordinates (λ (f : ℕ → SubordinateEntry). Inactive (f r)) (λ _. rw (upd_other y.subordinates n (Active c) r (omega arith)) h.1) (λ _. h.1));
      settled = λ r l h. (cond_both (in_set all s) (updated y.subordinates n (Active c)) y.subordinates (λ (f : ℕ → SubordinateEntry). Idle (f r)) (λ _. rw (upd_other y.subordinates n (Active c) r (omega arith)) h.0) (λ _. h.0), h.1);
      shut = λ r l h. cond_both (eqb c s) (updated y.coordinators n (Open all)) y.coordinators (λ (f : ℕ → CoordinatorEntry). Shut (f r)) (λ _. rw (upd_other y.coordinators n (Open all) r (omega arith)) h) (λ _. h);
    }

module _ (π : Presumption) (c all : ℕ) (st : Run) (h : SafeSt π st) where
  abbrev w : World
  w = world st

  abbrev v : World
  v = world (upon_open c all st)

  grow_open : Grow w v
  grow_open = record { more = omega arith; same = λ r l. upd_other st.plan st.count (record { coordinator = c; names = all }) r (omega arith); keep = λ s. keeps_open st.count c all s (st.station s) }

  planned : v.plan st.count ≡ record { coordinator = c; names = all }
  planned = upd_same st.plan st.count (record { coordinator = c; names = all })

  pub safe_open : SafeSt π (upon_open c all st)
  safe_open =
      record {
        msgs = All-weaker _ _ (λ m k. (known_grows π w v grow_open m.revision k.0, legal_grows π w v grow_open m.kind m.revision m.sender m.receiver k.0 k.1)) st.post h.msgs;
        installs = λ r t m. (known_grows π w v grow_open r (h.installs r t m).0, comm_grows π w v grow_open r (h.installs r t m).0 (h.installs r t m).1);
        drops = λ r t m. (known_grows π w v grow_open r (h.drops r t m).0, abort_grows π w v grow_open r (h.drops r t m).0 (h.drops r t m).1);
        recs = λ s. (recs_grow π w v grow_open s _ (h.recs s).0, recs_grow π w v grow_open s _ (h.recs s).1);
        cos = λ s r. cond_both (eqb c s) (updated (st.station s).coordinators st.count (Open all)) (st.station s).coordinators (λ (f : ℕ → CoordinatorEntry). CoLegal π v s r (f r))
            (λ e. upd_keep (λ q x. CoLegal π v s q x) (st.station s).coordinators st.count (Open all) (λ _. (omega arith, sym (ap (λ (p : Plan). p.coordinator) planned ∙ eqb-true c s e), sym (ap (λ (p : Plan). p.names) planned))) r (co_grows π w v grow_open s r ((st.station s).coordinators r) (h.cos s r)))
            (λ _. co_grows π w v grow_open s r ((st.station s).coordinators r) (h.cos s r));
        subs = λ s r. cond_both (in_set all s) (updated (st.station s).subordinates st.count (Active c)) (st.station s).subordinates (λ (f : ℕ → SubordinateEntry). SubLegal π v s r (f r))
            (λ e. upd_keep (λ q x. SubLegal π v s q x) (st.station s).subordinates st.count (Active c) (λ _. (omega arith, sym (ap (λ (p : Plan). p.coordinator) planned), rw planned e)) r (sub_grows π w v grow_open s r ((st.station s).subordinates r) (h.subs s r)))
            (λ _. sub_grows π w v grow_open s r ((st.station s).subordinates r) (h.subs s r));
      }
