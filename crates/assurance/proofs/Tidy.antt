-- What holds of one station between steps is kept by cuts, restarts and the step of every rule.
use Rattle.std.proofs.Common.{◌≡◌, ℕ, Bool, true, false, cond, not, ◌&&◌, eqb, ◌⊎◌, List, [], ◌∷◌, ◌++◌, take, sym, refl, ap, ◌∙◌, subst, inl, inr, arith}
use Rattle.std.proofs.lemmas.Bool.Decides.{nat_tests}
use Rattle.std.proofs.lemmas.Bool.{cases_Bool, cond_both, true≢false, false≢true}
use Rattle.assurance.proofs.Ideal.{in_set, members, Kind, kI, kC, kA, kE, kp, kc, ka, has, argument_of, Outcome, commit, abort, CoordinatorEntry, none, Open, Collecting, Announcing, SubordinateEntry, idle, Prepared, Station, COMMIT, ABORT, PREPARE, Plan, Run, Presumption, Logging, not_at_all, unforced, forced, written_station, forced_station, cut_station, set_coordinator, set_subordinate, Act, write, force, Turn, to_subordinate, step, enforce_acts, outcome_mail, line, send_each, outcome_kind, await, logged, end_acts, force_if, ack_if, restarted_station}
use Rattle.assurance.proofs.Lasting.{has_append, No, Past, Inactive, Idle, world, CoLegal}
use Rattle.assurance.proofs.Sets.{mem_zero}
use Rattle.assurance.proofs.Claims.{Laws}
use Rattle.assurance.proofs.Local.{locals, turned_station, locals_append, locals_send, step_at, plan_step}
use Rattle.assurance.proofs.Rules.{Rule, vote, joins, decide, drop, enforce, confirm, less, finish, start, deny, press, acts_of, turn_of, Why, Did, by_did}
use Rattle.assurance.proofs.SafeActs.{SafeSt, upd_same}
use Rattle.assurance.proofs.SafeRules.{Has, IsNone, TidyS, past_await, written_got, forced_got}
use Rattle.journal.specs.Records.{letter_of}

-- the kinds whose argument is the set of the revision
abbrev pub Carries : Kind → Type 0
Carries kI = Unit {0}
Carries kC = Unit {0}
Carries kA = Unit {0}
Carries k = ⊥

module _ (π : Presumption) (P : ℕ → Plan) (s : ℕ) where
  pub tidy_cut : (k : ℕ) (y : Station) → TidyS π P s (cut_station k y)
  tidy_cut k y = grind (arith, nat_tests)

  -- a force
  tidy_force : (y : Station) → TidyS π P s y → TidyS π P s (forced_station y)
  tidy_force y h =
      record {
        fresh = λ q n. grind (arith, nat_tests, has_append, h.fresh q);
        live = λ q n. grind (arith, nat_tests, has_append, h.live q);
        calm = λ q. (refl, refl, refl);
        paid = λ o q f. refl;
        knows = λ p q i g. grind (arith, nat_tests, has_append, h.knows p q, h.calm q);
        ended = λ p q i g. grind (arith, nat_tests, has_append, h.ended p q i, h.calm q);
        dropt = λ p q i g z. grind (arith, nat_tests, has_append, h.dropt p q i, h.calm q);
        dark = λ _. refl;
      }

  -- a record that needs no force
  tidy_note : (x : Kind) (r a : ℕ) (y : Station) → y.power ≡ true → eqb (letter_of x) (letter_of kI) ≡ false → eqb (letter_of x) (letter_of kC) ≡ false → eqb (letter_of x) (letter_of kp) ≡ false → ((o : Outcome) → π.forces o s ≡ true → eqb (letter_of x) (letter_of (outcome_kind o)) ≡ false) → TidyS π P s y → TidyS π P s (written_station (line x r a) y)
  tidy_note x r a y on xI xC xp xo h =
      record {
        fresh = λ q n. grind (arith, nat_tests, has_append, h.fresh q);
        live = λ q n. grind (arith, nat_tests, has_append, h.live q);
        calm = λ q. grind (arith, nat_tests, has_append, h.calm q);
        paid = λ o q f. grind (arith, nat_tests, has_append, h.paid o q f, xo o f);
        knows = λ p q i g. grind (arith, nat_tests, has_append, h.knows p q);
        ended = λ p q i g t m k. grind (arith, nat_tests, has_append, h.ended p q);
        dropt = λ p q i g z t m k. grind (arith, nat_tests, has_append, h.dropt p q);
        dark = λ e. absurd (true≢false (sym on ∙ e));
      }

  -- a record that is forced at once
  tidy_put : (x : Kind) (r a : ℕ) (y : Station) → eqb (letter_of x) (letter_of kC) ≡ false → (eqb (letter_of x) (letter_of kp) ≡ true → Inactive (y.subordinates r) × (Idle (y.subordinates r) → ⊥)) → (eqb (letter_of x) (letter_of kI) ≡ true → IsNone (y.coordinators r) → ⊥) → TidyS π P s y → TidyS π P s (forced_station (written_station (line x r a) y))
  tidy_put x r a y xC xp xI h =
      record {
        fresh = λ q n. grind (arith, nat_tests, has_append, h.fresh q);
        live = λ q n. grind (arith, nat_tests, has_append, h.live q);
        calm = λ q. (refl, refl, refl);
        paid = λ o q f. refl;
        knows = λ p q i g. grind (arith, nat_tests, has_append, h.knows p q, h.calm q);
        ended = λ p q i g t m k. grind (arith, nat_tests, has_append, h.ended p q i, h.calm q);
        dropt = λ p q i g z t m k. grind (arith, nat_tests, has_append, h.dropt p q i, h.calm q);
        dark = λ _. refl;
      }

  abbrev Nobody : Outcome → ℕ → Type 0
  Nobody o r = (t : ℕ) → in_set (P r).names t ≡ true → π.acks o t ≡ true → ⊥

  -- the commit record, with the entry of a coordinator that has decided
  tidy_commit : (r a : ℕ) (e : CoordinatorEntry) (y : Station) → Past e → (IsNone e → Nobody commit r) → TidyS π P s y → TidyS π P s (set_coordinator r e (forced_station (written_station (line kC r a) y)))
  tidy_commit r a e y b n h =
      record {
        fresh = λ q n. grind (arith, nat_tests, has_append, h.fresh q);
        live = λ q n. grind (arith, nat_tests, has_append, h.live q);
        calm = λ q. (refl, refl, refl);
        paid = λ o q f. refl;
        knows = λ p q i g. grind (arith, nat_tests, has_append, h.knows p q, h.calm q);
        ended = λ p q i g t m k. grind (arith, nat_tests, has_append, h.ended p q, h.calm q, n);
        dropt = λ p q i g z t m k. grind (arith, nat_tests, has_append, h.dropt p q, h.calm q);
        dark = λ _. refl;
      }

  -- another entry of the coordinator
  tidy_co : (r : ℕ) (e : CoordinatorEntry) (y : Station) → ((Past e → ⊥) → No kC r y) → (IsNone e → Has kE r y ⊎ (No kC r y × Nobody abort r)) → TidyS π P s y → TidyS π P s (set_coordinator r e y)
  tidy_co r e y b n h =
      record {
        fresh = h.fresh;
        live = λ q l. grind (arith, nat_tests, h.live q);
        calm = h.calm;
        paid = h.paid;
        knows = h.knows;
        ended = λ p q i g t m k. grind (arith, nat_tests, h.ended p q, n);
        dropt = λ p q i g z t m k. grind (arith, nat_tests, h.dropt p q, n);
        dark = h.dark;
      }

  -- another entry of the subordinate
  tidy_sub : (r : ℕ) (e : SubordinateEntry) (y : Station) → Inactive e → (Idle e → Has kc r y ⊎ Has ka r y) → TidyS π P s y → TidyS π P s (set_subordinate r e y)
  tidy_sub r e y i n h =
      record {
        fresh = λ q l. grind (arith, nat_tests, h.fresh q);
        live = h.live;
        calm = h.calm;
        paid = h.paid;
        knows = λ p q i g. grind (arith, nat_tests, h.knows p q, n);
        ended = h.ended;
        dropt = h.dropt;
        dark = h.dark;
      }

  -- an entry that would await somebody is none only where an E stands
  ends : (o : Outcome) (a t : ℕ) → Laws π → in_set (π.ackers o a) t ≡ true → (q : ℕ) (y : Station) → IsNone (cond (has kE q y.stable) none (await o (π.ackers o a))) → Has kE q y
  ends o a t 𝓛 m q y n = grind (arith, nat_tests, mem_zero t)

  pub tidy_restart : (𝓛 : Laws π) (y : Station) → TidyS π P s y → y.power ≡ false → ((k : Kind) (q : ℕ) → Carries k → has k q y.stable ≡ true → argument_of k q y.stable ≡ (P q).names) → TidyS π P s (restarted_station π y)
  tidy_restart 𝓛 y h off args =
      let bare = h.dark off in
      record {
        fresh = λ q n. grind (arith, nat_tests);
        live = λ q n. grind (arith, nat_tests);
        calm = λ q. grind (arith, nat_tests);
        paid = λ o q f. rw bare refl;
        knows = λ p q i g. grind (arith, nat_tests);
        ended = λ p q i g t m k. (let a = args kC q tt g in let b = 𝓛.acker commit (P q).names t m k in let z = mem_zero t in ends commit (argument_of kC q y.stable) t 𝓛 (rw a b) q y (grind (arith, nat_tests)));
        dropt = λ p q i g z t m k. (elim (cases_Bool (has kA q y.stable)) [ inl hA ↦ ends abort (argument_of kA q y.stable) t 𝓛 (rw (args kA q tt hA) (𝓛.acker abort (P q).names t m k)) q y (grind (arith, nat_tests)) | inr hA ↦ ends abort (argument_of kI q y.stable) t 𝓛 (rw (args kI q tt g) (𝓛.acker abort (P q).names t m k)) q y (grind (arith, nat_tests)) ]);
        dark = λ p. grind arith;
      }

module _ (π : Presumption) (𝓛 : Laws π) (P : ℕ → Plan) (s : ℕ) where
  nobody : (o : Outcome) (r a : ℕ) → a ≡ (P r).names → π.ackers o a ≡ 0 → (t : ℕ) → in_set (P r).names t ≡ true → π.acks o t ≡ true → ⊥
  nobody o r a w z t m k =
      let q : in_set (π.ackers o a) t ≡ true = rw w (𝓛.acker o (P r).names t m k) in
      true≢false (sym (rw z at q) ∙ mem_zero t)

  none_await : (o : Outcome) (w : ℕ) → IsNone (await o w) → w ≡ 0
  none_await o w n = grind (arith, nat_tests)

  -- the record of an outcome, forced or not, and no entry
  forcedly : (o : Outcome) (r c : ℕ) (y : Station) → TidyS π P s y → TidyS π P s (set_subordinate r idle (forced_station (written_station (line (outcome_kind o) r c) y)))
  forcedly commit r c y h = tidy_sub π P s r idle (forced_station (written_station (line kc r c) y)) tt (λ _. inl (inl (forced_got kc r c y))) (tidy_put π P s kc r c y refl (λ z. absurd (false≢true z)) (λ z. absurd (false≢true z)) h)
  forcedly abort r c y h = tidy_sub π P s r idle (forced_station (written_station (line ka r c) y)) tt (λ _. inr (inl (forced_got ka r c y))) (tidy_put π P s ka r c y refl (λ z. absurd (false≢true z)) (λ z. absurd (false≢true z)) h)

  loosely : (o : Outcome) (r c : ℕ) (y : Station) → y.power ≡ true → π.forces o s ≡ false → TidyS π P s y → TidyS π P s (set_subordinate r idle (written_station (line (outcome_kind o) r c) y))
  loosely commit r c y on e h = tidy_sub π P s r idle (written_station (line kc r c) y) tt (λ _. inl (inr (written_got kc r c y.loose))) (tidy_note π P s kc r c y on refl refl refl (elim [ commit ↦ λ f. absurd (true≢false (sym f ∙ e)) | abort ↦ λ _. refl ]) h)
  loosely abort r c y on e h = tidy_sub π P s r idle (written_station (line ka r c) y) tt (λ _. inr (inr (written_got ka r c y.loose))) (tidy_note π P s ka r c y on refl refl refl (elim [ commit ↦ λ _. refl | abort ↦ λ f. absurd (true≢false (sym f ∙ e)) ]) h)

  enforced : (o : Outcome) (r c : ℕ) (F A : Bool) (t : ℕ) (y : Station) → π.forces o s ≡ F → y.power ≡ true → TidyS π P s y → TidyS π P s (set_subordinate r idle (locals (force_if π F (ack_if π A r s t)) (written_station (line (outcome_kind o) r c) y)))
  enforced o r c true true t y e on h = forcedly o r c y h
  enforced o r c true false t y e on h = forcedly o r c y h
  enforced o r c false true t y e on h = loosely o r c y on e h
  enforced o r c false false t y e on h = loosely o r c y on e h

  acked : (A : Bool) (r t : ℕ) (y : Station) → locals (ack_if π A r s t) y ≡ y
  acked true r t y = refl
  acked false r t y = refl

  -- a record that ends a revision, or logs its abort
  noted : (x : Kind) (r a : ℕ) (y : Station) → y.power ≡ true → (x ≡ kA) ⊎ (x ≡ kE) → TidyS π P s y → TidyS π P s (written_station (line x r a) y)
  noted x r a y on (inl e) h = subst (λ (k : Kind). TidyS π P s (written_station (line k r a) y)) (sym e) (tidy_note π P s kA r a y on refl refl refl (elim [ commit ↦ λ _. refl | abort ↦ λ _. refl ]) h)
  noted x r a y on (inr e) h = subst (λ (k : Kind). TidyS π P s (written_station (line k r a) y)) (sym e) (tidy_note π P s kE r a y on refl refl refl (elim [ commit ↦ λ _. refl | abort ↦ λ _. refl ]) h)

  -- an abort that is logged
  record Aborting (r : ℕ) (y : Station) : Type 0 where
    tidy : TidyS π P s y
    on : y.power ≡ true
    no : No kC r y

  aborting : (l : Logging) (r a : ℕ) (y : Station) → Aborting r y → Aborting r (locals (logged l (line kA r a)) y)
  aborting not_at_all r a y h = h
  aborting unforced r a y h = record { tidy = noted kA r a y h.on (inl refl) h.tidy; on = h.on; no = grind (arith, nat_tests, has_append, h.no) }
  aborting forced r a y h = record { tidy = tidy_force π P s (written_station (line kA r a) y) (noted kA r a y h.on (inl refl) h.tidy); on = h.on; no = grind (arith, nat_tests, has_append, h.no) }

  ended : (r all d : ℕ) (y : Station) → all ≡ (P r).names → Aborting r y → TidyS π P s (set_coordinator r (await abort (π.ackers abort d)) (locals (end_acts π r all d) y))
  ended r all d y w h =
      cond_both (not (eqb (π.ackers abort all) 0) && eqb (π.ackers abort d) 0) (write (line kE r 0) ∷ []) [] (λ (l : List Act). TidyS π P s (set_coordinator r (await abort (π.ackers abort d)) (locals l y)))
      (λ _. tidy_co π P s r (await abort (π.ackers abort d)) (written_station (line kE r 0) y) (λ b. absurd (b (past_await abort (π.ackers abort d)))) (λ _. inl (inr (written_got kE r 0 y.loose))) (noted kE r 0 y h.on (inr refl) h.tidy))
      (λ e. tidy_co π P s r (await abort (π.ackers abort d)) y (λ b. absurd (b (past_await abort (π.ackers abort d)))) (λ n. inr (h.no, nobody abort r all w (none (π.ackers abort all) (π.ackers abort d) e (none_await abort (π.ackers abort d) n)))) h.tidy)
    where
      none : (a b : ℕ) → (not (eqb a 0) && eqb b 0) ≡ false → b ≡ 0 → a ≡ 0
      none a b e z = grind (arith, nat_tests)

  tidy_rule : (u : Rule) (r t : ℕ) (y : Station) → Why π y r t u → y.power ≡ true → ((a z : ℕ) → (y.coordinators r ≡ Open a) ⊎ (y.coordinators r ≡ Collecting a z) → a ≡ (P r).names) → TidyS π P s y → TidyS π P s (turned_station (turn_of π u r) (locals (acts_of π u r s t) y))
  tidy_rule (vote c) r t y w on whole h =
      let e = upd_same y.subordinates r (Prepared c) in
      tidy_put π P s kp r c (set_subordinate r (Prepared c) y) refl (λ _. (subst Inactive (sym e) tt, λ i. subst Idle e i)) (λ z. absurd (false≢true z)) (tidy_sub π P s r (Prepared c) y tt (λ i. absurd i) h)
  tidy_rule (joins all ys) r t y w on whole h = tidy_co π P s r (Collecting all ys) y (λ _. h.live r (λ p. rw w.1 at p)) (λ i. absurd i) h
  tidy_rule (decide all) r t y w on whole h =
      subst (λ (x : Station). TidyS π P s (set_coordinator r (await commit (π.ackers commit all)) x)) (sym (locals_send COMMIT r s (members π.size all) (forced_station (written_station (line kC r all) y))))
      (tidy_commit π P s r all (await commit (π.ackers commit all)) y (past_await commit (π.ackers commit all)) (λ n. nobody commit r all (whole all w.0 (inr w.1)) (none_await commit (π.ackers commit all) n)) h)
  tidy_rule (drop all d) r t y w on whole h =
      let x = locals (logged (π.logs all) (line kA r all)) y in
      subst (λ (z : Station). TidyS π P s (set_coordinator r (await abort (π.ackers abort d)) z))
      (sym (locals_append (logged (π.logs all) (line kA r all)) (send_each ABORT r s (members π.size d) ++ end_acts π r all d) y ∙ (locals_append (send_each ABORT r s (members π.size d)) (end_acts π r all d) x ∙ ap (locals (end_acts π r all d)) (locals_send ABORT r s (members π.size d) x))))
      (ended r all d x (elim w [ inl e ↦ whole all 0 (inl e) | inr e ↦ whole all e.0 (inr e.1) ]) (aborting (π.logs all) r all y (record { tidy = h; on = on; no = h.live r (λ p. elim w [ inl e ↦ rw e at p | inr e ↦ rw e.1 at p ]) })))
  tidy_rule (enforce commit c) r t y w on whole h = enforced commit r c (π.forces commit s) (π.acks commit s) c y refl on h
  tidy_rule (enforce abort c) r t y w on whole h = enforced abort r c (π.forces abort s) (π.acks abort s) c y refl on h
  tidy_rule (confirm o) r t y w on whole h = subst (TidyS π P s) (sym (acked (π.acks o s) r t y)) h
  tidy_rule (less o a) r t y w on whole h = tidy_co π P s r (Announcing o a) y (λ b. absurd (b tt)) (λ i. absurd i) h
  tidy_rule finish r t y w on whole h = tidy_co π P s r none (written_station (line kE r 0) y) (λ b. absurd (b tt)) (λ _. inl (inr (written_got kE r 0 y.loose))) (noted kE r 0 y on (inr refl) h)
  tidy_rule (start all) r t y w on whole h =
      cond_both (π.opens all) (write (line kI r all) ∷ (force ∷ send_each PREPARE r s (members π.size all))) (send_each PREPARE r s (members π.size all)) (λ (l : List Act). TidyS π P s (set_coordinator r (Collecting all 0) (locals l y)))
      (λ _. subst (λ (x : Station). TidyS π P s (set_coordinator r (Collecting all 0) x)) (sym (locals_send PREPARE r s (members π.size all) (forced_station (written_station (line kI r all) y))))
      (tidy_put π P s kI r all (set_coordinator r (Collecting all 0) y) refl (λ z. absurd (false≢true z)) (λ _ i. subst IsNone (upd_same y.coordinators r (Collecting all 0)) i) collecting))
      (λ _. subst (λ (x : Station). TidyS π P s (set_coordinator r (Collecting all 0) x)) (sym (locals_send PREPARE r s (members π.size all) y)) collecting)
    where
      collecting : TidyS π P s (set_coordinator r (Collecting all 0) y)
      collecting = tidy_co π P s r (Collecting all 0) y (λ _. h.live r (λ p. rw w at p)) (λ i. absurd i) h
  tidy_rule (deny c) r t y w on whole h = enforced abort r c (π.forces abort s) false c y refl on h
  tidy_rule (press o a) r t y w on whole h = subst (TidyS π P s) (sym (locals_send (outcome_mail o) r s (members π.size a) y)) h
  tidy_rule u r t y w on whole h = h

-- every station of a run
module _ (π : Presumption) (𝓛 : Laws π) where
  abbrev pub Tidy : Run → Type 0
  Tidy st = (s : ℕ) → TidyS π st.plan s (st.station s)

  -- a step keeps it where its acts and its entry change do
  tidy_step : (s f k : ℕ) (l : List Act) (tn : Turn) (st : Run) → TidyS π st.plan s (turned_station tn (locals l (st.station s))) → Tidy st → Tidy (step s l tn f k st)
  tidy_step s f k l tn st d h =
      subst (λ (P : ℕ → Plan). (x : ℕ) → TidyS π P x ((step s l tn f k st).station x)) (sym (plan_step s l tn f k st).0)
      (step_at (TidyS π st.plan) s l tn f k st (tidy_cut π st.plan s k (locals (take f l) (st.station s))) d h)

  -- carrying an outcome out keeps it, under every fuse
  pub tidy_enforced : (o : Outcome) (r s c f k : ℕ) (st : Run) → Tidy st → (st.station s).power ≡ true → Tidy (step s (enforce_acts π o r s c) (to_subordinate r idle) f k st)
  tidy_enforced commit r s c f k st h on = tidy_step s f k (enforce_acts π commit r s c) (to_subordinate r idle) st (enforced π 𝓛 st.plan s commit r c (π.forces commit s) (π.acks commit s) c (st.station s) refl on (h s)) h
  tidy_enforced abort r s c f k st h on = tidy_step s f k (enforce_acts π abort r s c) (to_subordinate r idle) st (enforced π 𝓛 st.plan s abort r c (π.forces abort s) (π.acks abort s) c (st.station s) refl on (h s)) h

  pub tidy_did : (st : Run) (r s t f k : ℕ) (Q : Rule → Type 0) (v : Run) → (st.station s).power ≡ true → SafeSt π st → Did π st r s t f k Q v → Tidy st → Tidy v
  tidy_did st r s t f k Q v on safe d h =
      by_did π Tidy st r s t f k Q v d h (λ u w _. ruled u w)
    where
      whole : (a z : ℕ) → ((st.station s).coordinators r ≡ Open a) ⊎ ((st.station s).coordinators r ≡ Collecting a z) → a ≡ (st.plan r).names
      whole a z (inl e) = (subst (λ w. CoLegal π (world st) s r w) e (safe.cos s r)).2
      whole a z (inr e) = (subst (λ w. CoLegal π (world st) s r w) e (safe.cos s r)).2

      -- an outcome is carried out by the lemma above, every other rule by its own case
      ruled : (u : Rule) → Why π (st.station s) r t u → Tidy (step s (acts_of π u r s t) (turn_of π u r) f k st)
      ruled (enforce commit c) w = tidy_enforced commit r s c f k st h on
      ruled (enforce abort c) w = tidy_enforced abort r s c f k st h on
      ruled u w = tidy_step s f k (acts_of π u r s t) (turn_of π u r) st (tidy_rule π 𝓛 st.plan s u r t (st.station s) w on whole (h s)) h
