-- Each move of a station is a rule of the ideal run.
use Rattle.std.proofs.Common.{◌≡◌, ℕ, zero, suc, ◌+◌, ◌<◌, ◌≤◌, Bool, true, false, cond, ◌&&◌, ltb, ◌⊎◌, List, [], ◌∷◌, map, length, take, filter, sym, refl, ap, ◌∙◌, subst, inl, inr, arith}
use mathlib.Core.Path.{fun_ext}
use lib.Bits.{bit_or}
use Rattle.std.proofs.lemmas.Bool.Decides.{nat_tests}
use Rattle.std.proofs.lemmas.Bool.{cond-true, cond-false, cases_eq, true≢false, eq-eqb, ne_eqb}
use Rattle.std.specs.List.{AllByRecursion, range_with_len}
use Rattle.journal.specs.declared.records.Kind.TheVariants as kind
use Rattle.journal.specs.declared.records.Record.{Record}
use Rattle.presumption.specs.Answers.{Answers, Lawful}
use Rattle.presumption.specs.declared.outcome.Logging.{Logging}
use Rattle.presumption.specs.declared.outcome.Logging.TheVariants as logging
use Rattle.presumption.specs.declared.outcome.Outcome.{Outcome}
use Rattle.presumption.specs.declared.outcome.Outcome.TheVariants as outcome
use Rattle.station.specs.Acts.{Act, write, force, post}
use Rattle.station.specs.Sets.{of_bits, with_station, single}
use Rattle.station.specs.declared.coordinator.CoordinatorEntry.{CoordinatorEntry}
use Rattle.station.specs.declared.messages.MessageKind.{MessageKind}
use Rattle.station.specs.declared.messages.MessageKind.TheVariants as message
use Rattle.station.specs.declared.sets.StationSet.{StationSet}
use Rattle.station.specs.declared.subordinate.SubordinateEntry.{SubordinateEntry}
use Rattle.run.specs.State.{State}
use Rattle.stations.specs.Stations.{coordinator_at, subordinate_at}
use Rattle.stations.specs.declared.Turn.{Turn}
use Rattle.stations.specs.declared.Turn.TheVariants as turn
use Rattle.assurance.proofs.Ideal as ideal
use lib.Bits.{bit_xor}
use Rattle.run.specs.State.{stepped}
use Rattle.station.specs.Acts.{acts, letter, post_each, if_so, telling, mark, logged, line}
use Rattle.station.specs.Sets.{holds, empty, members, without_station}
use Rattle.station.specs.declared.steps.Step.{Step}
use Rattle.station.specs.declared.steps.Step.TheVariants as step
use Rattle.assurance.proofs.Each.{All-append}
use Rattle.assurance.specs.Writes.{Accepted}
use Rattle.assurance.proofs.Claims.{Laws}
use Rattle.assurance.proofs.Sets.{mem_zero}
use Rattle.assurance.proofs.SafeSteps.{turn_first}
use Rattle.assurance.proofs.Room.{records, room_rule}
use Rattle.assurance.proofs.Every.{Full, room_all}
use Rattle.assurance.proofs.Rules.{Rule, acts_of, turn_of, Why}
use Rattle.assurance.proofs.View.{co_as, turn_as, view, Shape}
use Rattle.assurance.proofs.Performed.{Logged, step_view, single_is}
use Rattle.assurance.proofs.Local.{locals}

-- a presumption of n stations, as the ideal run asks it
abbrev pub presumes : Answers → ℕ → ideal.Presumption
presumes π n =
    record {
      size = n;
      presumed = λ _. π.presumed;
      acks = λ o _. π.acknowledges o;
      forces = λ o _. π.forces o;
      opens = λ _. π.opens;
      logs = λ _. π.abort_logging;
      ackers = λ o all. cond (π.acknowledges o) all 0;
    }

apart : outcome.Commit ≡ outcome.Abort → ⊥
apart e = grind arith

pub laws : (π : Answers) → Lawful π → (n : ℕ) → 2 ≤ n → n ≤ 8 → Laws (presumes π n)
laws π h n two eight =
    record {
      commit_presumed = λ s e. h.unpresumed outcome.Abort (λ q. apart (sym e ∙ sym q));
      abort_presumed = λ s e. h.unpresumed outcome.Commit (λ q. apart (q ∙ e));
      opening = λ all s _ e. h.opening e;
      forcing = λ o s e. h.forcing o e;
      acker = λ o all s m a. subst (λ (b : Bool). ideal.in_set (cond b all 0) s ≡ true) (sym a) m;
      backer = λ o all s m. back (π.acknowledges o) all s m;
      some = two;
      small = omega arith;
    }
  where
    back : (b : Bool) (all s : ℕ) → ideal.in_set (cond b all 0) s ≡ true → (ideal.in_set all s ≡ true) × (b ≡ true)
    back true all s m = (m, refl)
    back false all s m = absurd (true≢false (sym m ∙ mem_zero s))

-- the members of a set whose stations are below n
none_kept : (p : ℕ → Bool) (n a k : ℕ) → ((t : ℕ) → n ≤ t → p t ≡ false) → n ≤ a → filter p (range_with_len a k) ≡ []
none_kept p n a zero h l = refl
none_kept p n a (suc k) h l = rw (h a l) (none_kept p n (a + 1) k h (omega arith))

same_kept : (p : ℕ → Bool) (n a m k : ℕ) → ((t : ℕ) → n ≤ t → p t ≡ false) → a + m ≡ n → m ≤ k → filter p (range_with_len a k) ≡ filter p (range_with_len a m)
same_kept p n a zero k h e l = none_kept p n a k h (omega arith)
same_kept p n a (suc m) zero h e l = absurd (omega arith)
same_kept p n a (suc m) (suc k) h e l = ap (λ (r : List ℕ). cond (p a) (a ∷ r) r) (same_kept p n (a + 1) m k h (omega arith) (omega arith))

-- its stations are below n
abbrev pub Within : ℕ → ℕ → Type 0
Within n m = (t : ℕ) → ideal.in_set m t ≡ true → t < n

pub members_as : (n : ℕ) (x : StationSet) → n ≤ 8 → Within n x.bits → members x ≡ ideal.members n x.bits
unfolding members ideal.members ideal.in_set
members_as n x l w = same_kept (ideal.in_set x.bits) n 0 n 8 (λ t q. out t q (ideal.in_set x.bits t) refl) (omega arith) l
  where
    out : (t : ℕ) → n ≤ t → (b : Bool) → ideal.in_set x.bits t ≡ b → b ≡ false
    out t q true e = absurd (omega (arith, w t e))
    out t q false e = refl

-- sets with one station more, or less
pub with_as : (x : StationSet) (t : ℕ) → t < 8 → (with_station x t).bits ≡ ideal.with_station x.bits t
unfolding ideal.with_station
with_as x t l = ap (bit_or x.bits) (single_is 0 t l)

pub without_as : (x : StationSet) (t : ℕ) → t < 8 → (without_station x t).bits ≡ ideal.without_station x.bits t
unfolding ideal.without_station ideal.in_set
without_as x t l = go (holds x t) ∙ ap (λ (k : ℕ). cond (holds x t) (bit_xor x.bits k) x.bits) (single_is 0 t l)
  where
    go : (b : Bool) → (cond b (of_bits (bit_xor x.bits (single t))) x).bits ≡ cond b (bit_xor x.bits (single t)) x.bits
    go true = refl
    go false = refl

-- posts to each of a set
sends_as : (k : MessageKind) (r s : ℕ) (ts : List ℕ) → map (λ t. post (letter k r s t)) ts ≡ ideal.send_each k r s ts
sends_as k r s [] = refl
sends_as k r s (t ∷ ts) = ap (λ (l : List ideal.Act). ideal.send (ideal.letter k r s t) ∷ l) (sends_as k r s ts)

pub each_as : (n : ℕ) (k : MessageKind) (r s : ℕ) (x : StationSet) → n ≤ 8 → Within n x.bits → post_each k r s x ≡ ideal.send_each k r s (ideal.members n x.bits)
each_as n k r s x l w = sends_as k r s (members x) ∙ ap (ideal.send_each k r s) (members_as n x l w)

-- the marks of a step are of its revision
logged_each : (c : ℕ) (k : MessageKind) (r s : ℕ) (ts : List ℕ) → AllByRecursion (Logged 0 c) (map (λ t. post (letter k r s t)) ts)
logged_each c k r s [] = tt
logged_each c k r s (t ∷ ts) = (tt, logged_each c k r s ts)

logged_if : (c : ℕ) (b : Bool) (l : List Act) → AllByRecursion (Logged 0 c) l → AllByRecursion (Logged 0 c) (if_so b l)
logged_if c true l h = h
logged_if c false l h = tt

logged_log : (c : ℕ) (l : Logging) (x : Record) → AllByRecursion (Logged 0 c) (logged l x)
logged_log c logging.NotAtAll x = tt
logged_log c logging.Unforced x = (tt, tt)
logged_log c logging.Forced x = (tt, (tt, tt))

logged_mark : (c : ℕ) (o : Outcome) (r : ℕ) → r < c → Logged 0 c (mark o r)
logged_mark c outcome.Commit r h = h
logged_mark c outcome.Abort r h = h

logged_acts : (π : Answers) (c s r : ℕ) (x : Step) → r < c → AllByRecursion (Logged 0 c) (acts π s r x)
logged_acts π c s r step.Rest h = tt
logged_acts π c s r (step.OpenVote x) h = All-append (Logged 0 c) (if_so π.opens (write (line kind.Opening r x.bits) ∷ force ∷ [])) _ (logged_if c π.opens _ (tt, (tt, tt))) (logged_each c message.Prepare r s (members x))
logged_acts π c s r (step.Prepare d t) h = (tt, (tt, (tt, tt)))
logged_acts π c s r (step.DecideCommit x) h = (tt, (tt, logged_each c message.Commit r s (members x)))
logged_acts π c s r (step.DecideAbort x y) h =
    All-append (Logged 0 c) (logged π.abort_logging (line kind.Abort r x.bits)) _ (logged_log c π.abort_logging _)
    (All-append (Logged 0 c) (post_each message.Abort r s y) _ (logged_each c message.Abort r s (members y)) (logged_if c (π.acknowledges outcome.Abort && empty y) _ (tt, tt)))
logged_acts π c s r (step.Enforce o d) h = (logged_mark c o r h, (tt, All-append (Logged 0 c) (if_so (π.forces o) (force ∷ [])) _ (logged_if c (π.forces o) _ (tt, tt)) (logged_if c (π.acknowledges o) _ (tt, tt))))
logged_acts π c s r (step.Acknowledge o t) h = logged_if c (π.acknowledges o) _ (tt, tt)
logged_acts π c s r (step.Chase k w) h = logged_each c (telling k.outcome) r s (members w)
logged_acts π c s r (step.Reject d) h = (h, (tt, logged_if c (π.forces outcome.Abort) _ (tt, tt)))
logged_acts π c s r z h = (tt, tt)

-- a turn that changes nothing
same_co : (n s r : ℕ) (st : State) → ideal.turn s (ideal.to_coordinator r (((view n st).station s).coordinators r)) (view n st) ≡ view n st
same_co n s r st = λ i. record { station = fun_ext at i; post = (view n st).post; plan = (view n st).plan; count = (view n st).count; installed_at = (view n st).installed_at; dropped_at = (view n st).dropped_at }
  where
    y : ideal.Station
    y = (view n st).station s

    again : (q : ℕ) → ideal.updated ((view n st).station s).coordinators r (((view n st).station s).coordinators r) q ≡ ((view n st).station s).coordinators q
    again q = elim (cases_eq r q) [ inl e ↦ cond-true _ _ _ (eq-eqb r q e) ∙ ap ((view n st).station s).coordinators e | inr e ↦ cond-false _ _ _ (ne_eqb r q e) ]

    here : ideal.set_coordinator r (((view n st).station s).coordinators r) ((view n st).station s) ≡ (view n st).station s
    here = ap (λ (f : ℕ → ideal.CoordinatorEntry). record { power = ((view n st).station s).power; stable = ((view n st).station s).stable; loose = ((view n st).station s).loose; coordinators = f; subordinates = ((view n st).station s).subordinates }) (fun_ext again)

    at : (t : ℕ) → ideal.updated (view n st).station s (ideal.set_coordinator r (((view n st).station s).coordinators r) ((view n st).station s)) t ≡ (view n st).station t
    at t = elim (cases_eq s t) [ inl e ↦ cond-true _ _ _ (eq-eqb s t e) ∙ (here ∙ ap (view n st).station e) | inr e ↦ cond-false _ _ _ (ne_eqb s t e) ]

same_sub : (n s r : ℕ) (st : State) → ideal.turn s (ideal.to_subordinate r (((view n st).station s).subordinates r)) (view n st) ≡ view n st
same_sub n s r st = λ i. record { station = fun_ext at i; post = (view n st).post; plan = (view n st).plan; count = (view n st).count; installed_at = (view n st).installed_at; dropped_at = (view n st).dropped_at }
  where
    again : (q : ℕ) → ideal.updated ((view n st).station s).subordinates r (((view n st).station s).subordinates r) q ≡ ((view n st).station s).subordinates q
    again q = elim (cases_eq r q) [ inl e ↦ cond-true _ _ _ (eq-eqb r q e) ∙ ap ((view n st).station s).subordinates e | inr e ↦ cond-false _ _ _ (ne_eqb r q e) ]

    here : ideal.set_subordinate r (((view n st).station s).subordinates r) ((view n st).station s) ≡ (view n st).station s
    here = ap (λ (f : ℕ → ideal.SubordinateEntry). record { power = ((view n st).station s).power; stable = ((view n st).station s).stable; loose = ((view n st).station s).loose; coordinators = ((view n st).station s).coordinators; subordinates = f }) (fun_ext again)

    at : (t : ℕ) → ideal.updated (view n st).station s (ideal.set_subordinate r (((view n st).station s).subordinates r) ((view n st).station s)) t ≡ (view n st).station t
    at t = elim (cases_eq s t) [ inl e ↦ cond-true _ _ _ (eq-eqb s t e) ∙ (here ∙ ap (view n st).station e) | inr e ↦ cond-false _ _ _ (ne_eqb s t e) ]

module _ (π : Answers) (𝓗 : Lawful π) (n : ℕ) (two : 2 ≤ n) (eight : n ≤ 8) where
  abbrev pub P : ideal.Presumption
  P = presumes π n

  -- a state that the argument is about
  pub record Good (st : State) : Type 0 where
    pub shape : Shape n st
    pub full : Full P (laws π 𝓗 n two eight) (view n st)

  -- a run's state becomes what the ideal run's does
  abbrev pub Becomes : State → ideal.Run → Type 0
  Becomes st v = (view n st ≡ v) × Shape n st

  -- a step makes it so, and none of its writes is refused
  abbrev pub Does : ℕ → ℕ → Step → Turn → ℕ → ℕ → State → ideal.Run → Type 0
  Does s r x tn f k st v = Becomes (stepped s r (acts π s r x) tn f k st) v × Accepted s (acts π s r x) st.store

  abbrev pub Turns : ℕ → ℕ → Turn → Rule → State → Type 0
  Turns s r tn u st = (turn_as r tn ≡ turn_of P u r) ⊎ ((ideal.stay ≡ turn_of P u r) × (ideal.turn s (turn_as r tn) (view n st) ≡ view n st))

  turns : (s r : ℕ) (l : List ideal.Act) (tn : Turn) (u : Rule) (f k : ℕ) (st : State) → Turns s r tn u st → ideal.step s l (turn_as r tn) f k (view n st) ≡ ideal.step s l (turn_of P u r) f k (view n st)
  turns s r l tn u f k st (inl e) = ap (λ (t : ideal.Turn). ideal.step s l t f k (view n st)) e
  turns s r l tn u f k st (inr e) =
      ap (λ (v : ideal.Run). cond (ltb f (length l)) (ideal.at_station s (ideal.cut_station k) (ideal.acts_done s (take f l) (view n st))) v) (turn_first s (turn_as r tn) l (view n st) ∙ ap (ideal.acts_done s l) e.1)
      ∙ ap (λ (t : ideal.Turn). ideal.step s l t f k (view n st)) e.0

  -- the entry stays as it was
  pub stays_co : (s r : ℕ) (u : Rule) (e : CoordinatorEntry) (st : State) → coordinator_at st.stations s r ≡ e → ideal.stay ≡ turn_of P u r → Turns s r (turn.Coordinator e) u st
  stays_co s r u e st q h = inr (h, subst (λ (c : ideal.CoordinatorEntry). ideal.turn s (ideal.to_coordinator r c) (view n st) ≡ view n st) (ap co_as q) (same_co n s r st))

  pub stays_sub : (s r : ℕ) (u : Rule) (e : SubordinateEntry) (st : State) → subordinate_at st.stations s r ≡ e → ideal.stay ≡ turn_of P u r → Turns s r (turn.Subordinate e) u st
  stays_sub s r u e st q h = inr (h, subst (λ (c : ideal.SubordinateEntry). ideal.turn s (ideal.to_subordinate r c) (view n st) ≡ view n st) q (same_sub n s r st))

  -- a step that is a rule's
  pub by_rule : (u : Rule) (x : Step) (tn : Turn) (r s t f k : ℕ) (st : State) → Good st → s < n → r < length st.store.log → Why P ((view n st).station s) r t u
      → (acts π s r x) ≡ acts_of P u r s t → Turns s r tn u st
      → Does s r x tn f k st (ideal.step s (acts_of P u r s t) (turn_of P u r) f k (view n st))
  by_rule u x tn r s t f k st g h l w a b =
      let q = step_view n s r (acts π s r x) tn f k st h (omega (arith, g.full.cap)) g.shape (logged_acts π (length st.store.log) s r x l)
      (subst (λ (m : List ideal.Act). records (locals m ((view n st).station s)) ≤ 160) (sym a) (room_rule P (laws π 𝓗 n two eight) u r s t (view n st) g.full l w)) in
      ((q.0 ∙ (ap (λ (m : List ideal.Act). ideal.step s m (turn_as r tn) f k (view n st)) a ∙ turns s r (acts_of P u r s t) tn u f k st b), q.1), q.2)

  -- nothing to do, and the entry stays
  rest : (tn : Turn) (r s f k : ℕ) (st : State) → Good st → s < n → r < length st.store.log → ideal.turn s (turn_as r tn) (view n st) ≡ view n st → Does s r step.Rest tn f k st (view n st)
  rest tn r s f k st g h l e =
      let q = step_view n s r [] tn f k st h (omega (arith, g.full.cap)) g.shape tt (room_all P (laws π 𝓗 n two eight) (view n st) g.full s) in
      ((q.0 ∙ (none (ltb f 0) (grind (arith, nat_tests)) ∙ e), q.1), q.2)
    where
      none : (b : Bool) → b ≡ false → cond b (ideal.at_station s (ideal.cut_station k) (ideal.acts_done s (take f []) (view n st))) (ideal.turn s (turn_as r tn) (view n st)) ≡ ideal.turn s (turn_as r tn) (view n st)
      none b z = rw z refl

  pub rest_co : (e : CoordinatorEntry) (r s f k : ℕ) (st : State) → Good st → s < n → r < length st.store.log → coordinator_at st.stations s r ≡ e → Does s r step.Rest (turn.Coordinator e) f k st (view n st)
  rest_co e r s f k st g h l q = rest (turn.Coordinator e) r s f k st g h l (subst (λ (c : ideal.CoordinatorEntry). ideal.turn s (ideal.to_coordinator r c) (view n st) ≡ view n st) (ap co_as q) (same_co n s r st))

  pub rest_sub : (e : SubordinateEntry) (r s f k : ℕ) (st : State) → Good st → s < n → r < length st.store.log → subordinate_at st.stations s r ≡ e → Does s r step.Rest (turn.Subordinate e) f k st (view n st)
  rest_sub e r s f k st g h l q = rest (turn.Subordinate e) r s f k st g h l (subst (λ (c : ideal.SubordinateEntry). ideal.turn s (ideal.to_subordinate r c) (view n st) ≡ view n st) q (same_sub n s r st))
