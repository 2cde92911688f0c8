-- Each act alone keeps the invariant between acts, where its reason holds.
use Rattle.std.proofs.Common.{◌≡◌, ℕ, ◌<◌, true, false, eqb, ltb, ◌⊎◌, List, [], ◌∷◌, ◌++◌, length, take, sym, refl, ◌∙◌, subst, inl, inr, arith}
use Rattle.std.specs.List.{AllByRecursion}
use Rattle.assurance.proofs.Each.{All-push, All-append, All-take}
use Rattle.std.proofs.lemmas.Bool.Decides.{nat_tests}
use Rattle.std.proofs.lemmas.Bool.{or_from, or_left, cond_both, cond-false, cases_Bool, eqb-true}
use Rattle.assurance.proofs.Ideal.{updated, in_set, with_station, Kind, kC, kp, kc, ka, Record, is, has, CoordinatorEntry, SubordinateEntry, Active, Station, Message, Run, Presumption, at_station, written_station, forced_station, cut_station, set_coordinator, set_subordinate, with_message, marked_installed, marked_dropped}
use Rattle.assurance.proofs.Lasting.{upd_keep, has_append, has_take, Past, Inactive, Idle, Shut, Keeps, world, Grow, Comm, Abort, Legal, RecLegal, CoLegal, SubLegal, Safe, co_grows, sub_grows, recs_grow, safe_local}

pub upd_same : {X : Type 0} (f : ℕ → X) (i : ℕ) (v : X) → updated f i v i ≡ v
upd_same f i v = grind (arith, nat_tests)

pub upd_cases : {X : Type 0} (f : ℕ → X) (i : ℕ) (v : X) (j : ℕ) → (i ≡ j) ⊎ (updated f i v j ≡ f j)
upd_cases f i v j = elim (cases_Bool (eqb i j)) [ inl e ↦ inl (eqb-true i j e) | inr e ↦ inr (cond-false (eqb i j) v (f j) e) ]

pub idle_inactive : (e : SubordinateEntry) → Idle e → Inactive e
idle_inactive (Active c) h = h
idle_inactive e h = tt

pub no_push : (k : Kind) (r : ℕ) (x : Record) (l : List Record) → has k r l ≡ false → is k r x ≡ false → has k r (l ++ (x ∷ [])) ≡ false
no_push k r x l h e = has_append k r l (x ∷ []) ∙ or_from _ _ h (or_from _ _ e refl)

pub got_append : (k : Kind) (r : ℕ) (l m : List Record) → has k r l ≡ true → has k r (l ++ m) ≡ true
got_append k r l m h = has_append k r l m ∙ or_left _ _ h

pub no_append : (k : Kind) (r : ℕ) (l m : List Record) → has k r l ≡ false → has k r m ≡ false → has k r (l ++ m) ≡ false
no_append k r l m h i = has_append k r l m ∙ or_from _ _ h i

pub keeps_refl : (n : ℕ) (x : Station) → Keeps n x x
keeps_refl n x = record { got = λ k r h. h; doom = λ r l h. h; veto = λ r l h. h; settled = λ r l h. h; shut = λ r l h. h }

module _ (n : ℕ) where
  pub keeps_write : (x : Record) (y : Station) → ((r : ℕ) → r < n → Past (y.coordinators r) → is kC r x ≡ false) → ((r : ℕ) → r < n → Inactive (y.subordinates r) → is kp r x ≡ false) → Keeps n y (written_station x y)
  keeps_write x y c p =
      record {
        got = λ k r h. h;
        doom = λ r l h. ((h.0.0, no_push kC r x y.loose h.0.1 (c r l h.1)), h.1);
        veto = λ r l h. ((h.0.0, no_push kp r x y.loose h.0.1 (p r l h.1)), h.1);
        settled = λ r l h. (h.0, elim h.1 [ inl i ↦ inl (i.0, no_push kp r x y.loose i.1 (p r l (idle_inactive (y.subordinates r) h.0))) | inr i ↦ inr i ]);
        shut = λ r l h. h;
      }

  pub keeps_force : (y : Station) → Keeps n y (forced_station y)
  keeps_force y =
      record {
        got = λ k r h. got_append k r y.stable y.loose h;
        doom = λ r l h. ((no_append kC r y.stable y.loose h.0.0 h.0.1, refl), h.1);
        veto = λ r l h. ((no_append kp r y.stable y.loose h.0.0 h.0.1, refl), h.1);
        settled = λ r l h. (h.0, elim h.1 [ inl i ↦ inl (no_append kp r y.stable y.loose i.0 i.1, refl) | inr i ↦ inr (elim i [ inl j ↦ inl (got_append kc r y.stable y.loose j) | inr j ↦ inr (got_append ka r y.stable y.loose j) ]) ]);
        shut = λ r l h. h;
      }

  pub keeps_cut : (k : ℕ) (y : Station) → Keeps n y (cut_station k y)
  keeps_cut k y =
      record {
        got = λ c r h. got_append c r y.stable (take k y.loose) h;
        doom = λ r l h. ((no_append kC r y.stable (take k y.loose) h.0.0 (has_take kC r k y.loose h.0.1), refl), tt);
        veto = λ r l h. ((no_append kp r y.stable (take k y.loose) h.0.0 (has_take kp r k y.loose h.0.1), refl), tt);
        settled = λ r l h. (tt, elim h.1 [ inl i ↦ inl (no_append kp r y.stable (take k y.loose) i.0 (has_take kp r k y.loose i.1), refl) | inr i ↦ inr (elim i [ inl j ↦ inl (got_append kc r y.stable (take k y.loose) j) | inr j ↦ inr (got_append ka r y.stable (take k y.loose) j) ]) ]);
        shut = λ r l h. tt;
      }

  pub keeps_co : (r : ℕ) (e : CoordinatorEntry) (y : Station) → (Past (y.coordinators r) → Past e) → Shut e → Keeps n y (set_coordinator r e y)
  keeps_co r e y h z =
      record { got = λ k q d. d; doom = λ q l d. (d.0, upd_keep (λ _ v. Past v) y.coordinators r e h q d.1); veto = λ q l d. d; settled = λ q l d. d; shut = λ q l d. upd_keep (λ _ v. Shut v) y.coordinators r e (λ _. z) q d }

  pub keeps_sub : (r : ℕ) (e : SubordinateEntry) (y : Station) → (Inactive (y.subordinates r) → Inactive e) → (Idle (y.subordinates r) → Idle e) → Keeps n y (set_subordinate r e y)
  keeps_sub r e y h i =
      record { got = λ k q d. d; doom = λ q l d. d; veto = λ q l d. (d.0, upd_keep (λ _ v. Inactive v) y.subordinates r e h q d.1); settled = λ q l d. (upd_keep (λ _ v. Idle v) y.subordinates r e i q d.0, d.1); shut = λ q l d. d }

pub here_in : (s : ℕ) (g : Station → Station) (st : Run) → (at_station s g st).station s ≡ g (st.station s)
here_in s g st = upd_same st.station s (g (st.station s))

module _ (π : Presumption) where
  abbrev pub SafeSt : Run → Type 0
  SafeSt st = Safe π (world st) st.post st.installed_at st.dropped_at

  module _ (st : Run) (s : ℕ) (g : Station → Station) (k : Keeps st.count (st.station s) (g (st.station s))) where
    pub grow_in : Grow (world st) (world (at_station s g st))
    grow_in = record { more = omega arith; same = λ r l. refl; keep = λ t. upd_keep (λ u y. Keeps st.count (st.station u) y) st.station s (g (st.station s)) (λ _. k) t (keeps_refl st.count (st.station t)) }

    pub safe_in : SafeSt st → (let w = world (at_station s g st) in (AllByRecursion (RecLegal π w s) (g (st.station s)).stable × AllByRecursion (RecLegal π w s) (g (st.station s)).loose) → ((r : ℕ) → CoLegal π w s r ((g (st.station s)).coordinators r)) → ((r : ℕ) → SubLegal π w s r ((g (st.station s)).subordinates r)) → SafeSt (at_station s g st))
    safe_in h rs cs ss =
        safe_local π (world st) (world (at_station s g st)) grow_in st.post st.installed_at st.dropped_at s h (upd_cases st.station s (g (st.station s)))
        (subst (λ (x : Station). AllByRecursion (RecLegal π (world (at_station s g st)) s) x.stable × AllByRecursion (RecLegal π (world (at_station s g st)) s) x.loose) (sym (here_in s g st)) rs)
        (λ r. subst (λ (x : Station). CoLegal π (world (at_station s g st)) s r (x.coordinators r)) (sym (here_in s g st)) (cs r))
        (λ r. subst (λ (x : Station). SubLegal π (world (at_station s g st)) s r (x.subordinates r)) (sym (here_in s g st)) (ss r))

    grown_recs : (l : List Record) → AllByRecursion (RecLegal π (world st) s) l → AllByRecursion (RecLegal π (world (at_station s g st)) s) l
    grown_recs l h = recs_grow π (world st) (world (at_station s g st)) grow_in s l h

    grown_co : (r : ℕ) (e : CoordinatorEntry) → CoLegal π (world st) s r e → CoLegal π (world (at_station s g st)) s r e
    grown_co r e h = co_grows π (world st) (world (at_station s g st)) grow_in s r e h

    grown_sub : (r : ℕ) (e : SubordinateEntry) → SubLegal π (world st) s r e → SubLegal π (world (at_station s g st)) s r e
    grown_sub r e h = sub_grows π (world st) (world (at_station s g st)) grow_in s r e h

  module _ (st : Run) (s : ℕ) (h : SafeSt st) where
    pub safe_write : (x : Record) → ((r : ℕ) → r < st.count → Past ((st.station s).coordinators r) → is kC r x ≡ false) → ((r : ℕ) → r < st.count → Inactive ((st.station s).subordinates r) → is kp r x ≡ false) → RecLegal π (world st) s x → SafeSt (at_station s (written_station x) st)
    safe_write x c p l =
        let k = keeps_write st.count x (st.station s) c p in
        safe_in st s (written_station x) k h
        (grown_recs st s (written_station x) k (st.station s).stable (h.recs s).0, grown_recs st s (written_station x) k ((st.station s).loose ++ (x ∷ [])) (All-push _ (st.station s).loose x (h.recs s).1 l))
        (λ r. grown_co st s (written_station x) k r ((st.station s).coordinators r) (h.cos s r))
        (λ r. grown_sub st s (written_station x) k r ((st.station s).subordinates r) (h.subs s r))

    pub safe_force : SafeSt (at_station s forced_station st)
    safe_force =
        let k = keeps_force st.count (st.station s) in
        safe_in st s forced_station k h
        (grown_recs st s forced_station k ((st.station s).stable ++ (st.station s).loose) (All-append _ (st.station s).stable (st.station s).loose (h.recs s).0 (h.recs s).1), tt)
        (λ r. grown_co st s forced_station k r ((st.station s).coordinators r) (h.cos s r))
        (λ r. grown_sub st s forced_station k r ((st.station s).subordinates r) (h.subs s r))

    pub safe_cut : (k : ℕ) → SafeSt (at_station s (cut_station k) st)
    safe_cut n =
        let k = keeps_cut st.count n (st.station s) in
        safe_in st s (cut_station n) k h
        (grown_recs st s (cut_station n) k ((st.station s).stable ++ take n (st.station s).loose) (All-append _ (st.station s).stable (take n (st.station s).loose) (h.recs s).0 (All-take _ n (st.station s).loose (h.recs s).1)), tt)
        (λ r. tt)
        (λ r. tt)

    pub safe_co : (r : ℕ) (e : CoordinatorEntry) → (Past ((st.station s).coordinators r) → Past e) → Shut e → CoLegal π (world (at_station s (set_coordinator r e) st)) s r e → SafeSt (at_station s (set_coordinator r e) st)
    safe_co r e p z l =
        let k = keeps_co st.count r e (st.station s) p z in
        safe_in st s (set_coordinator r e) k h
        (grown_recs st s (set_coordinator r e) k (st.station s).stable (h.recs s).0, grown_recs st s (set_coordinator r e) k (st.station s).loose (h.recs s).1)
        (λ q. upd_keep (λ q v. CoLegal π (world (at_station s (set_coordinator r e) st)) s q v) (st.station s).coordinators r e (λ _. l) q (grown_co st s (set_coordinator r e) k q ((st.station s).coordinators q) (h.cos s q)))
        (λ q. grown_sub st s (set_coordinator r e) k q ((st.station s).subordinates q) (h.subs s q))

    pub safe_co_old : (r : ℕ) (e : CoordinatorEntry) → (Past ((st.station s).coordinators r) → Past e) → Shut e → CoLegal π (world st) s r e → SafeSt (at_station s (set_coordinator r e) st)
    safe_co_old r e p z l = safe_co r e p z (grown_co st s (set_coordinator r e) (keeps_co st.count r e (st.station s) p z) r e l)

    pub safe_sub : (r : ℕ) (e : SubordinateEntry) → (Inactive ((st.station s).subordinates r) → Inactive e) → (Idle ((st.station s).subordinates r) → Idle e) → SubLegal π (world st) s r e → SafeSt (at_station s (set_subordinate r e) st)
    safe_sub r e p i l =
        let k = keeps_sub st.count r e (st.station s) p i in
        safe_in st s (set_subordinate r e) k h
        (grown_recs st s (set_subordinate r e) k (st.station s).stable (h.recs s).0, grown_recs st s (set_subordinate r e) k (st.station s).loose (h.recs s).1)
        (λ q. grown_co st s (set_subordinate r e) k q ((st.station s).coordinators q) (h.cos s q))
        (λ q. upd_keep (λ q v. SubLegal π (world (at_station s (set_subordinate r e) st)) s q v) (st.station s).subordinates r e (λ _. grown_sub st s (set_subordinate r e) k r e l) q (grown_sub st s (set_subordinate r e) k q ((st.station s).subordinates q) (h.subs s q)))

  pub safe_send : (st : Run) (m : Message) → SafeSt st → Legal π (world st) m → SafeSt (with_message m st)
  safe_send st m h l =
      record {
        msgs = cond_both (ltb (length st.post) 64) (st.post ++ (m ∷ [])) st.post (λ p. AllByRecursion (Legal π (world st)) p) (λ _. All-push _ st.post m h.msgs l) (λ _. h.msgs);
        installs = h.installs;
        drops = h.drops;
        recs = h.recs;
        cos = h.cos;
        subs = h.subs;
      }

  pub safe_in_mark : (st : Run) (r s : ℕ) → SafeSt st → (r < st.count) × Comm (world st) r → SafeSt (marked_installed r s st)
  safe_in_mark st r s h c =
      record {
        msgs = h.msgs;
        installs = λ q. upd_keep (λ q v. (t : ℕ) → in_set v t ≡ true → (q < st.count) × Comm (world st) q) st.installed_at r (with_station (st.installed_at r) s) (λ _ t _. c) q (h.installs q);
        drops = h.drops;
        recs = h.recs;
        cos = h.cos;
        subs = h.subs;
      }

  pub safe_dr_mark : (st : Run) (r s : ℕ) → SafeSt st → (r < st.count) × Abort (world st) r → SafeSt (marked_dropped r s st)
  safe_dr_mark st r s h c =
      record {
        msgs = h.msgs;
        installs = h.installs;
        drops = λ q. upd_keep (λ q v. (t : ℕ) → in_set v t ≡ true → (q < st.count) × Abort (world st) q) st.dropped_at r (with_station (st.dropped_at r) s) (λ _ t _. c) q (h.drops q);
        recs = h.recs;
        cos = h.cos;
        subs = h.subs;
      }
