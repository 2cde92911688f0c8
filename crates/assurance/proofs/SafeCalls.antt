-- YES, close, chase, inquire and restart keep the invariant between acts.
use Rattle.std.proofs.Common.{◌≡◌, ℕ, ◌<◌, true, false, not, ◌&&◌, ◌||◌, eqb, List, [], ◌∷◌, sym, refl, ap, ◌∙◌, subst, inl, inr, arith}
use Rattle.std.proofs.lemmas.Bool.{cond_both, true≢false, eqb-true, eq-eqb, ne_eqb, and_parts}
use Rattle.assurance.proofs.Ideal.{in_set, with_station, members, kI, kC, kA, kE, kp, kc, ka, Record, has, argument_of, Outcome, commit, abort, CoordinatorEntry, none, Open, Collecting, Announcing, SubordinateEntry, idle, Prepared, Station, MessageKind, PREPARE, COMMIT, INQUIRY, Run, Presumption, at_station, written_station, forced_station, set_coordinator, with_message, write, force, send, acts_done, stay, to_coordinator, turn, step, line, letter, send_each, await, commit_acts, upon_yes, upon_close, upon_chase, upon_inquire, doubtful, outcome_of, resumed, restarted_station, outcome_mail}
use Rattle.assurance.proofs.Lasting.{Got, Past, Inactive, Shut, Doom, Keeps, World, world, Grow, head, Named, Comm, Opened, Legal, CoLegal, SubLegal, opened_grows, recs_grow, reason_of}
use Rattle.assurance.proofs.SafeActs.{SafeSt, upd_same, here_in, keeps_co, grow_in, safe_in, safe_co_old}
use Rattle.assurance.proofs.SafeSteps.{Oks, safe_acts, safe_step, safe_step_mid}
use Rattle.assurance.proofs.Sets.{mem_add, mem_zero}
use Rattle.assurance.proofs.Claims.{Laws}
use Rattle.assurance.proofs.SafeRules.{has_legal, ready_oks, now_forced, forced_got, past_await, shut_await, Ready, told}
use Rattle.assurance.proofs.Rules.{all_sends}

module _ (π : Presumption) (𝓛 : Laws π) where
  pub oks_send : (k : MessageKind) (r s m : ℕ) (st : Run) → ((t : ℕ) → Legal π (world st) (letter k r s t)) → Oks π s (send_each k r s (members π.size m)) st
  oks_send k r s m st h = ready_oks π s (send_each k r s (members π.size m)) st (all_sends π (Ready π (world st) s) k r s m (λ t _. h t))

  after_sends : (Q : World → Type 0) (k : MessageKind) (r s : ℕ) (ts : List ℕ) (st : Run) → Q (world st) → Q (world (acts_done s (send_each k r s ts) st))
  after_sends Q k r s [] st q = q
  after_sends Q k r s (t ∷ ts) st q = after_sends Q k r s ts (with_message (letter k r s t) st) q

  joined : (r t ys : ℕ) (N : ℕ → Station) → Got kp r (N t) → ((u : ℕ) → in_set ys u ≡ true → Got kp r (N u)) → (u : ℕ) → in_set (with_station ys t) u ≡ true → Got kp r (N u)
  joined r t ys N here h u m = elim (mem_add ys t u m) [ inl i ↦ h u i | inr i ↦ rw i at here ]

  co_await : (o : Outcome) (a s r : ℕ) (w : World) → ((a ≡ 0 → ⊥) → CoLegal π w s r (Announcing o a)) → CoLegal π w s r (await o a)
  co_await o a s r w h = cond_both (eqb a 0) none (Announcing o a) (CoLegal π w s r) (λ _. tt) (λ z. h (λ e. true≢false (sym (eq-eqb _ _ e) ∙ z)))

  asked_all : (o : Outcome) (all r : ℕ) (w : World) → all ≡ (w.plan r).names → (t : ℕ) → in_set (π.ackers o all) t ≡ true → Named w r t × (π.acks o t ≡ true)
  asked_all o all r w e t m = let b = 𝓛.backer o all t m in (rw (← e) b.0, b.1)

  pub safe_yes : (r s t : ℕ) (e : CoordinatorEntry) (f k : ℕ) (st : Run) → SafeSt π st → Got kp r (st.station t) → (st.station s).coordinators r ≡ e → SafeSt π (upon_yes π r s t e f k st)
  safe_yes r s t (Collecting all ys) f k st h v e =
      cond_both (in_set all t) _ st (SafeSt π)
      (λ _. cond_both (eqb (with_station ys t) all) (step s (commit_acts π r s all) (to_coordinator r (await commit (π.ackers commit all))) f k st) (at_station s (set_coordinator r (Collecting all (with_station ys t))) st) (SafeSt π)
      (λ whole. decide (eqb-true (with_station ys t) all whole))
      (λ _. safe_co_old π st s h r (Collecting all (with_station ys t)) (λ p. rw e at p) tt (l.0, l.1, l.2, l.3, joined r t ys st.station v l.4)))
      (λ _. h)
    where
      l : CoLegal π (world st) s r (Collecting all ys)
      l = subst (λ w. CoLegal π (world st) s r w) e (h.cos s r)

      st2 : Run
      st2 = at_station s forced_station (at_station s (written_station (line kC r all)) st)

      c : Comm (world st2) r
      c = subst (λ (u : ℕ). Got kC r (st2.station u)) l.1 (subst (Got kC r) (sym (now_forced s (line kC r all) st)) (forced_got kC r all (st.station s)))

      lasting : (π.ackers commit all ≡ 0 → ⊥) → CoLegal π (world st2) s r (Announcing commit (π.ackers commit all))
      lasting z = (l.0, l.1, c, (λ t m a. inl (𝓛.acker commit all t (rw l.2 m) a)), (z, asked_all commit all r (world st2) l.2))

      decide : with_station ys t ≡ all → SafeSt π (step s (commit_acts π r s all) (to_coordinator r (await commit (π.ackers commit all))) f k st)
      decide w =
          safe_step π s (commit_acts π r s all) (to_coordinator r (await commit (π.ackers commit all))) f k st h
          ((λ q _ p. ne_eqb r q (λ i. rw (← i, e) at p), λ _ _ _. refl, (l.0, (l.1, l.2, λ u m. joined r t ys st.station v l.4 u (rw (w, l.2) m)))), (tt, oks_send COMMIT r s all st2 (λ t. (l.0, inl c))))
          (λ h'. safe_co_old π _ s h' r (await commit (π.ackers commit all)) (λ _. past_await commit (π.ackers commit all)) (shut_await commit (π.ackers commit all)) (after_sends (λ v. CoLegal π v s r (await commit (π.ackers commit all))) COMMIT r s (members π.size all) st2 (co_await commit (π.ackers commit all) s r (world st2) lasting)))
  safe_yes r s t x f k st h v e = h

  pub safe_chase : (r s : ℕ) (e : CoordinatorEntry) (f k : ℕ) (st : Run) → SafeSt π st → (st.station s).coordinators r ≡ e → SafeSt π (upon_chase π r s e f k st)
  safe_chase r s (Announcing o w) f k st h e = let c = subst (λ v. CoLegal π (world st) s r v) e (h.cos s r) in safe_step π s (send_each (outcome_mail o) r s (members π.size w)) stay f k st h (oks_send (outcome_mail o) r s w st (λ t. (c.0, told π 𝓛 o r s t (world st) (reason_of o (world st) r c.2)))) (λ h'. h')
  safe_chase r s x f k st h e = h

  pub safe_inquire : (r s : ℕ) (e : SubordinateEntry) (f k : ℕ) (st : Run) → SafeSt π st → (st.station s).subordinates r ≡ e → SafeSt π (upon_inquire π r s e f k st)
  safe_inquire r s (Prepared c) f k st h e = let q = subst (λ v. SubLegal π (world st) s r v) e (h.subs s r) in safe_step π s (send (letter INQUIRY r s c) ∷ []) stay f k st h ((q.0, (q.1, q.2)), tt) (λ h'. h')
  safe_inquire r s x f k st h e = h

  -- PREPAREs leave once the entry is Collecting
  collect : (r s all : ℕ) (u : Run) → SafeSt π u → r < u.count → s ≡ (u.plan r).coordinator → all ≡ (u.plan r).names → Opened π (world u) r → (Past ((u.station s).coordinators r) → ⊥) → SafeSt π (turn s (to_coordinator r (Collecting all 0)) u) × Oks π s (send_each PREPARE r s (members π.size all)) (turn s (to_coordinator r (Collecting all 0)) u)
  collect r s all u h known own whole opened live =
      let k = keeps_co u.count r (Collecting all 0) (u.station s) (λ p. absurd (live p)) tt in
      let g = grow_in π u s (set_coordinator r (Collecting all 0)) k in
      let now : Shut (((at_station s (set_coordinator r (Collecting all 0)) u).station s).coordinators r) = rw (here_in s (set_coordinator r (Collecting all 0)) u, upd_same (u.station s).coordinators r (Collecting all 0)) tt in (
        safe_co_old π u s h r (Collecting all 0) (λ p. absurd (live p)) tt (known, own, whole, opened, λ t m. absurd (true≢false (sym m ∙ mem_zero t))),
        oks_send PREPARE r s all (at_station s (set_coordinator r (Collecting all 0)) u) (λ t. (known, (opened_grows π (world u) (world (at_station s (set_coordinator r (Collecting all 0)) u)) g r known opened, subst (λ (x : ℕ). Shut (((at_station s (set_coordinator r (Collecting all 0)) u).station x).coordinators r)) own now))),
      )

  pub safe_close : (r s : ℕ) (e : CoordinatorEntry) (f k : ℕ) (st : Run) → SafeSt π st → (st.station s).coordinators r ≡ e → SafeSt π (upon_close π r s e f k st)
  safe_close r s (Open all) f k st h e =
      cond_both (π.opens all) (write (line kI r all) ∷ (force ∷ send_each PREPARE r s (members π.size all))) (send_each PREPARE r s (members π.size all)) (λ a. SafeSt π (step s a (to_coordinator r (Collecting all 0)) f k st))
      (λ _. let o2 : Oks π s (write (line kI r all) ∷ (force ∷ [])) st = ((λ _ _ _. refl, λ _ _ _. refl, (l.0, (l.1, l.2))), (tt, tt)) in
      let q = collect r s all st2 (safe_acts π s (write (line kI r all) ∷ (force ∷ [])) st h o2) l.0 l.1 l.2 (λ _. i) (λ q. rw e at (subst (λ (z : Station). Past (z.coordinators r)) (now_forced s (line kI r all) st) q)) in
      safe_step_mid π s (write (line kI r all) ∷ (force ∷ [])) (send_each PREPARE r s (members π.size all)) (to_coordinator r (Collecting all 0)) f k st h o2 q.0 q.1)
      (λ o. let q = collect r s all st h l.0 l.1 l.2 (never o) (λ p. rw e at p) in
      safe_step_mid π s [] (send_each PREPARE r s (members π.size all)) (to_coordinator r (Collecting all 0)) f k st h tt q.0 q.1)
    where
      l : CoLegal π (world st) s r (Open all)
      l = subst (λ w. CoLegal π (world st) s r w) e (h.cos s r)

      st2 : Run
      st2 = at_station s forced_station (at_station s (written_station (line kI r all)) st)

      i : Got kI r (head (world st2) r)
      i = subst (λ (u : ℕ). Got kI r (st2.station u)) l.1 (subst (Got kI r) (sym (now_forced s (line kI r all) st)) (forced_got kI r all (st.station s)))

      never : π.opens all ≡ false → Opened π (world st) r
      never o p = absurd (true≢false (sym p ∙ (ap π.opens (sym l.2) ∙ o)))
  safe_close r s x f k st h e = h

  past_resumed : (l : List Record) (r : ℕ) → Past (resumed π l r)
  past_resumed l r = grind arith

  shut_resumed : (l : List Record) (r : ℕ) → Shut (resumed π l r)
  shut_resumed l r = grind arith

  inactive_doubtful : (l : List Record) (r : ℕ) → Inactive (doubtful π l r)
  inactive_doubtful l r = grind arith

  -- restart: a station in the dark has nothing loose; one with nothing p-like stays settled
  keeps_restart : (n : ℕ) (y : Station) → y.loose ≡ [] → Keeps n y (restarted_station π y)
  keeps_restart n y b =
      record {
        got = λ k r h. h;
        doom = λ r l h. (h.0, past_resumed y.stable r);
        veto = λ r l h. (h.0, inactive_doubtful y.stable r);
        settled = λ r l h. (grind arith, h.1);
        shut = λ r l h. shut_resumed y.stable r;
      }

  pub safe_restart : (s : ℕ) (st : Run) → SafeSt π st → (st.station s).loose ≡ [] → SafeSt π (at_station s (restarted_station π) st)
  safe_restart s st h bare =
      safe_in π st s (restarted_station π) k h
      (recs_grow π (world st) w' g s (st.station s).stable (h.recs s).0, recs_grow π (world st) w' g s (st.station s).loose (h.recs s).1)
      (λ r. cond_both (has kE r l) none _ (CoLegal π w' s r) (λ _. tt) (λ _. coordinators r))
      (λ r. cond_both (has kp r l && not (has kc r l || has ka r l)) (Prepared (argument_of kp r l)) idle (SubLegal π w' s r) (λ b. let p = (and_parts (has kp r l) _ b).0 in let q = has_legal π (world st) s kp r l (h.recs s).0 p in (q.0, q.1.0, rw here p)) (λ _. tt))
    where
      l : List Record
      l = (st.station s).stable

      k : Keeps st.count (st.station s) (restarted_station π (st.station s))
      k = keeps_restart st.count (st.station s) bare

      w' : World
      w' = world (at_station s (restarted_station π) st)

      g : Grow (world st) w'
      g = grow_in π st s (restarted_station π) k

      here : w'.station s ≡ restarted_station π (st.station s)
      here = here_in s (restarted_station π) st

      doomed : (r : ℕ) → s ≡ (st.plan r).coordinator → has kC r l ≡ false → Doom r (head w' r)
      doomed r own c = subst (λ (u : ℕ). Doom r (w'.station u)) own (rw here ((c, rw bare refl), past_resumed l r))

      coordinators : (r : ℕ) → CoLegal π w' s r (outcome_of π l r)
      coordinators r =
          cond_both (has kC r l) _ _ (CoLegal π w' s r)
          (λ c. let q = has_legal π (world st) s kC r l (h.recs s).0 c in co_await commit (π.ackers commit (argument_of kC r l)) s r w' (λ z. (q.0, q.1.0, subst (λ (u : ℕ). Got kC r (w'.station u)) q.1.0 (rw here c), (λ t m a. inl (𝓛.acker commit _ t (rw q.1.1 m) a)), (z, asked_all commit (argument_of kC r l) r w' q.1.1))))
          (λ c. cond_both (has kA r l) _ _ (CoLegal π w' s r)
          (λ b. let q = has_legal π (world st) s kA r l (h.recs s).0 b in co_await abort (π.ackers abort (argument_of kA r l)) s r w' (λ z. (q.0, q.1.0, doomed r q.1.0 c, (λ t m a. inl (𝓛.acker abort _ t (rw q.1.1 m) a)), (z, asked_all abort (argument_of kA r l) r w' q.1.1))))
          (λ _. cond_both (has kI r l) _ none (CoLegal π w' s r)
          (λ b. let q = has_legal π (world st) s kI r l (h.recs s).0 b in co_await abort (π.ackers abort (argument_of kI r l)) s r w' (λ z. (q.0, q.1.0, doomed r q.1.0 c, (λ t m a. inl (𝓛.acker abort _ t (rw q.1.1 m) a)), (z, asked_all abort (argument_of kI r l) r w' q.1.1))))
          (λ _. tt)))
