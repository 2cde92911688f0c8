-- Acts, turns, cuts and whole steps of a run do to its view what the ideal run does.
use Rattle.std.proofs.Common.{◌≡◌, ℕ, ◌^◌, ◌<◌, ◌≤◌, Bool, true, false, cond, eqb, ltb, List, [], ◌∷◌, ◌++◌, length, get_or, take, set, replicate, sym, refl, ap, ◌∙◌, subst, inl, inr, arith, length-append, length-set, get_or-set_other, get_or-set_same}
use mathlib.Core.Path.{fun_ext}
use lib.Bits.{bit_or}
use Rattle.std.proofs.lemmas.Bool.{cond-true, cases_eq, cases_lt, eq-eqb, lt-ltb}
use Rattle.std.proofs.lemmas.List.{get_or_past}
use Rattle.std.specs.List.{AllByRecursion}
use Rattle.journal.specs.Meaning.{Section, section, held, changed, write_answer, written, cut_to, put, force_all, keep_first}
use Rattle.journal.specs.declared.records.Record.{Record}
use Rattle.presumption.specs.declared.outcome.Outcome.{Outcome}
use Rattle.presumption.specs.declared.outcome.Outcome.TheVariants as outcome
use Rattle.station.specs.Acts.{Act, write, force, post, mark_installed, mark_dropped}
use Rattle.station.specs.Sets.{of_bits, single}
use Rattle.station.specs.declared.sets.StationSet.{StationSet}
use Rattle.actor.specs.Log.{row_at, row, mark_row, marked}
use Rattle.actor.specs.Store.{Store, store, done, all_done, journal_cut}
use Rattle.actor.specs.declared.log.Row.{Row}
use Rattle.run.specs.State.{State, with_store, with_stations, cut_off}
use Rattle.stations.specs.Stations.{station_at}
use Rattle.stations.specs.declared.Station.{Station}
use Rattle.stations.specs.declared.Turn.{Turn}
use Rattle.stations.specs.declared.Turn.TheVariants as turn
use Rattle.assurance.proofs.Ideal as ideal
use Rattle.run.specs.State.{stepped}
use Rattle.stations.specs.Stations.{no_entries, entries_for, turned, turn_station, blank, set_coordinator, set_subordinate, turn_entry}
use Rattle.actor.specs.Store.{burns}
use Rattle.assurance.proofs.Each.{All-take}
use lib.ListN.{get_or-replicate, length-replicate}
use Rattle.assurance.specs.Writes.{Accepts, Accepted}
use Rattle.assurance.proofs.Room.{records, grows, grows_take}
use Rattle.assurance.proofs.View.{co_as, turn_as, station_as, net_of, parts, view, Shape, fun_at, record_here, record_there, station_here, station_there, co_changed, sub_changed}
use Rattle.assurance.proofs.Local.{local, locals, at_act}

-- a write that there is room for
answers_0 : (j : List Section) (s : ℕ) → s < length j → held (section j s) < (section j s).capacity → write_answer j s ≡ 0
answers_0 j s h k = ok (ltb s (length j)) (ltb (held (section j s)) (section j s).capacity) (lt-ltb _ _ h) (lt-ltb _ _ k)
  where
    ok : (a b : Bool) → a ≡ true → b ≡ true → ◌≡◌ {A = ℕ} (cond a (cond b 0 12) 11) 0
    ok a b p q = rw (p, q) refl

written_is : (x : Record) (j : List Section) (s : ℕ) → s < length j → held (section j s) < (section j s).capacity → written x j s ≡ changed (put x) j s
written_is x j s h k = cond-true _ _ _ (ap (λ (a : ℕ). eqb a 0) (answers_0 j s h k))

-- what an act asks: room for a record, a row for a mark
abbrev pub Can : State → ℕ → Act → Type 0
Can st s (write x) = held (section st.store.journal s) < 160
Can st s force = Unit {0}
Can st s (post m) = Unit {0}
Can st s (mark_installed r) = r < length st.store.log
Can st s (mark_dropped r) = r < length st.store.log

module _ (n : ℕ) where
  -- a view with another journal, where one section has changed
  in_section : (f : Section → Section) (g : ideal.Station → ideal.Station) (s : ℕ) (st : State) → s < n → Shape n st
      → ((p : Section) (x : Station) → station_as n s (f p) x ≡ g (station_as n s p x))
      → net_of n (changed f st.store.journal s) st.stations ≡ ideal.updated (view n st).station s (g ((view n st).station s))
  in_section f g s st h k e =
      let j = st.store.journal in
      let xs = st.stations in
      fun_at (view n st).station (net_of n (changed f j s) xs) s (g ((view n st).station s))
      (ap (λ (p : Section). station_as n s p (station_at xs s)) (record_here j f s (omega (arith, k.journals))) ∙ e (section j s) (station_at xs s))
      (λ t d. ap (λ (p : Section). station_as n t p (station_at xs t)) (record_there j f s t d))

  pub single_is : (s : ℕ) → s < 8 → single s ≡ 2 ^ s
  single_is s h = cond-true (ltb s 8) _ _ (lt-ltb s 8 h)

  row_here : (o : Outcome) (r s : ℕ) (l : List Row) → r < length l → row_at (marked o r s l) r ≡ mark_row o s (row_at l r)
  row_here o r s l h = get_or-set_same l r (mark_row o s (row_at l r)) (row 0 (of_bits 0)) h

  row_there : (o : Outcome) (r s : ℕ) (l : List Row) (q : ℕ) → (r ≡ q → ⊥) → row_at (marked o r s l) q ≡ row_at l q
  row_there o r s l q e = get_or-set_other l r q (mark_row o s (row_at l r)) (row 0 (of_bits 0)) (λ z. e (sym z))

  -- a part of a row that a mark leaves as it was
  row_kept : {X : Type 0} (g : Row → X) (o : Outcome) (r s : ℕ) (l : List Row) → r < length l → g (mark_row o s (row_at l r)) ≡ g (row_at l r) → (q : ℕ) → g (row_at (marked o r s l) q) ≡ g (row_at l q)
  row_kept g o r s l h e q =
      elim (cases_eq r q) [
        | inl z ↦ subst (λ (k : ℕ). g (row_at (marked o r s l) k) ≡ g (row_at l k)) z (ap g (row_here o r s l h) ∙ e)
        | inr z ↦ ap g (row_there o r s l q z)
      ]

  pub act_view : (s : ℕ) (a : Act) (st : State) → s < n → Shape n st → Can st s a → view n (with_store (done s a st.store) st) ≡ ideal.act_done s a (view n st)
  unfolding done ideal.with_station
  act_view s (write x) st h k c =
      let j = st.store.journal in
      ap (λ (m : List Section). parts n m st.store.post st.store.log st.stations) (written_is x j s (omega (arith, k.journals)) (omega (arith, k.wide s h)))
      ∙ ap (λ (f : ℕ → ideal.Station). record { station = f; post = (view n st).post; plan = (view n st).plan; count = (view n st).count; installed_at = (view n st).installed_at; dropped_at = (view n st).dropped_at })
      (in_section (put x) (ideal.written_station x) s st h k (λ p y. refl))
  act_view s force st h k c =
      ap (λ (f : ℕ → ideal.Station). record { station = f; post = (view n st).post; plan = (view n st).plan; count = (view n st).count; installed_at = (view n st).installed_at; dropped_at = (view n st).dropped_at })
      (in_section force_all ideal.forced_station s st h k (λ p y. refl))
  act_view s (post m) st h k c = refl
  act_view s (mark_installed r) st h k c =
      let l = st.store.log in
      λ i. record {
        station = (view n st).station;
        post = (view n st).post;
        plan = fun_ext (row_kept (λ (x : Row). record { coordinator = x.coordinator; names = x.set.bits }) outcome.Commit r s l c refl) i;
        count = length-set l r (mark_row outcome.Commit s (row_at l r)) i;
        installed_at = fun_at (view n st).installed_at (λ q. (row_at (marked outcome.Commit r s l) q).installed.bits) r (bit_or ((view n st).installed_at r) (2 ^ s))
            (ap (λ (x : Row). x.installed.bits) (row_here outcome.Commit r s l c) ∙ ap (bit_or ((view n st).installed_at r)) (single_is s (omega (arith, k.small))))
            (λ q e. ap (λ (x : Row). x.installed.bits) (row_there outcome.Commit r s l q e)) i;
        dropped_at = fun_ext (row_kept (λ (x : Row). x.dropped.bits) outcome.Commit r s l c refl) i;
      }
  act_view s (mark_dropped r) st h k c =
      let l = st.store.log in
      λ i. record {
        station = (view n st).station;
        post = (view n st).post;
        plan = fun_ext (row_kept (λ (x : Row). record { coordinator = x.coordinator; names = x.set.bits }) outcome.Abort r s l c refl) i;
        count = length-set l r (mark_row outcome.Abort s (row_at l r)) i;
        installed_at = fun_ext (row_kept (λ (x : Row). x.installed.bits) outcome.Abort r s l c refl) i;
        dropped_at = fun_at (view n st).dropped_at (λ q. (row_at (marked outcome.Abort r s l) q).dropped.bits) r (bit_or ((view n st).dropped_at r) (2 ^ s))
            (ap (λ (x : Row). x.dropped.bits) (row_here outcome.Abort r s l c) ∙ ap (bit_or ((view n st).dropped_at r)) (single_is s (omega (arith, k.small))))
            (λ q e. ap (λ (x : Row). x.dropped.bits) (row_there outcome.Abort r s l q e)) i;
      }

  -- what an act leaves of the shape
  capacity_kept : (f : Section → Section) (j : List Section) (s t : ℕ) → s < length j → ((p : Section) → (f p).capacity ≡ p.capacity) → (section (changed f j s) t).capacity ≡ (section j t).capacity
  capacity_kept f j s t h e =
      elim (cases_eq s t) [
        | inl z ↦ subst (λ (k : ℕ). (section (changed f j s) k).capacity ≡ (section j k).capacity) z (ap (λ (p : Section). p.capacity) (record_here j f s h) ∙ e (section j s))
        | inr z ↦ ap (λ (p : Section). p.capacity) (record_there j f s t z)
      ]

  shape_section : (f : Section → Section) (s : ℕ) (st : State) → s < n → ((p : Section) → (f p).capacity ≡ p.capacity) → Shape n st → Shape n (with_store (store (changed f st.store.journal s) st.store.post st.store.log) st)
  shape_section f s st h e k =
      let j = st.store.journal in
      record {
        fit = k.fit;
        some = k.some;
        small = k.small;
        stations = k.stations;
        journals = length-set j s (f (section j s)) ∙ k.journals;
        wide = λ t l. omega (arith, k.wide t l, capacity_kept f j s t (omega (arith, k.journals)) e);
        entries = k.entries;
        sets = k.sets;
      }

  shape_mark : (o : Outcome) (r s : ℕ) (st : State) → r < length st.store.log → ((x : Row) → (mark_row o s x).set ≡ x.set) → Shape n st → Shape n (with_store (store st.store.journal st.store.post (marked o r s st.store.log)) st)
  shape_mark o r s st h e k =
      let l = st.store.log in
      record {
        fit = k.fit;
        some = k.some;
        small = k.small;
        stations = k.stations;
        journals = k.journals;
        wide = k.wide;
        entries = k.entries;
        sets = λ q b z. k.sets q (omega (arith, length-set l r (mark_row o s (row_at l r)))) (sym (row_kept (λ (x : Row). x.set.bits) o r s l h (ap (λ (x : StationSet). x.bits) (e (row_at l r))) q) ∙ z);
      }

  pub shape_act : (s : ℕ) (a : Act) (st : State) → s < n → Shape n st → Can st s a → Shape n (with_store (done s a st.store) st)
  unfolding done
  shape_act s (write x) st h k c =
      let w = st.store in
      subst (λ (m : List Section). Shape n (with_store (store m w.post w.log) st)) (sym (written_is x w.journal s (omega (arith, k.journals)) (omega (arith, k.wide s h)))) (shape_section (put x) s st h (λ p. refl) k)
  shape_act s force st h k c = shape_section force_all s st h (λ p. refl) k
  shape_act s (post m) st h k c = record { fit = k.fit; some = k.some; small = k.small; stations = k.stations; journals = k.journals; wide = k.wide; entries = k.entries; sets = k.sets }
  shape_act s (mark_installed r) st h k c = shape_mark outcome.Commit r s st c (λ x. refl) k
  shape_act s (mark_dropped r) st h k c = shape_mark outcome.Abort r s st c (λ x. refl) k

  -- the marks of a list of acts are for logged revisions
  abbrev pub Logged : ℕ → Act → Type 0
  Logged c (mark_installed r) = r < c
  Logged c (mark_dropped r) = r < c
  Logged c a = Unit {0}

  log_kept : (s : ℕ) (a : Act) (w : Store) → length (done s a w).log ≡ length w.log
  unfolding done
  log_kept s (mark_installed r) w = length-set w.log r _
  log_kept s (mark_dropped r) w = length-set w.log r _
  log_kept s a w = refl

  can : (s : ℕ) (a : Act) (l : List Act) (st : State) → Logged (length st.store.log) a → records (locals (a ∷ l) ((view n st).station s)) ≤ 160 → Can st s a
  can s (write x) l st g h =
      let y = (view n st).station s in
      omega (arith, grows l (ideal.written_station x y), length-append y.loose (x ∷ []), h)
  can s force l st g h = tt
  can s (post m) l st g h = tt
  can s (mark_installed r) l st g h = g
  can s (mark_dropped r) l st g h = g

  accepts : (s : ℕ) (a : Act) (st : State) → s < n → Shape n st → Can st s a → Accepts s a st.store
  accepts s (write x) st h k c = answers_0 st.store.journal s (omega (arith, k.journals)) (omega (arith, k.wide s h))
  accepts s a st h k c = tt

  -- a list of acts, every write of which is accepted
  pub acts_view : (s : ℕ) (l : List Act) (st : State) → s < n → Shape n st → AllByRecursion (Logged (length st.store.log)) l → records (locals l ((view n st).station s)) ≤ 160
      → (view n (with_store (all_done s l st.store) st) ≡ ideal.acts_done s l (view n st)) × Shape n (with_store (all_done s l st.store) st) × Accepted s l st.store
  unfolding all_done
  acts_view s [] st h k g b = (refl, record { fit = k.fit; some = k.some; small = k.small; stations = k.stations; journals = k.journals; wide = k.wide; entries = k.entries; sets = k.sets }, tt)
  acts_view s (a ∷ l) st h k g b =
      let c = can s a l st g.0 b in
      let u = with_store (done s a st.store) st in
      let e = act_view s a st h k c in
      let here : (view n u).station s ≡ local a ((view n st).station s) = ap (λ (v : ideal.Run). v.station s) e ∙ (at_act s s a (view n st) ∙ cond-true (eqb s s) _ _ (eq-eqb s s refl)) in
      let more = acts_view s l u h (shape_act s a st h k c)
      (subst (λ (c : ℕ). AllByRecursion (Logged c) l) (sym (log_kept s a st.store)) g.1)
      (subst (λ (y : ideal.Station). records (locals l y) ≤ 160) (sym here) b) in
      (more.0 ∙ ap (ideal.acts_done s l) e, more.1, (accepts s a st h k c, more.2))

  -- another entry of a station
  pub in_stations : (x : Station) (y : ideal.Station) (s : ℕ) (st : State) → s < n → Shape n st → station_as n s (section st.store.journal s) x ≡ y
      → net_of n st.store.journal (set st.stations s x) ≡ ideal.updated (view n st).station s y
  in_stations x y s st h k e =
      let j = st.store.journal in
      let xs = st.stations in
      fun_at (view n st).station (net_of n j (set xs s x)) s y
      (ap (λ (z : Station). station_as n s (section j s) z) (station_here xs x s (omega (arith, k.stations))) ∙ e)
      (λ t d. ap (λ (z : Station). station_as n t (section j t) z) (station_there xs x s t d))

  pub turn_view : (s r : ℕ) (tn : Turn) (st : State) → s < n → r < 32 → Shape n st → view n (with_stations (turn_entry s r tn st.stations) st) ≡ ideal.turn s (turn_as r tn) (view n st)
  turn_view s r (turn.Coordinator e) st h l k =
      let x = station_at st.stations s in
      let y = (view n st).station s in
      ap (λ (f : ℕ → ideal.Station). record { station = f; post = (view n st).post; plan = (view n st).plan; count = (view n st).count; installed_at = (view n st).installed_at; dropped_at = (view n st).dropped_at })
      (in_stations (set_coordinator r e x) (ideal.set_coordinator r (co_as e) y) s st h k (co_changed n s r (section st.store.journal s) x (omega (arith, k.entries s h)) e))
  turn_view s r (turn.Subordinate e) st h l k =
      let x = station_at st.stations s in
      let y = (view n st).station s in
      ap (λ (f : ℕ → ideal.Station). record { station = f; post = (view n st).post; plan = (view n st).plan; count = (view n st).count; installed_at = (view n st).installed_at; dropped_at = (view n st).dropped_at })
      (in_stations (set_subordinate r e x) (ideal.set_subordinate r e y) s st h k (sub_changed n s r (section st.store.journal s) x (omega (arith, k.entries s h)) e))

  -- a station put in another's place, with entries for every revision
  station_kept : {X : Type 0} (g : Station → X) (a : X) (xs : List Station) (x : Station) (s t : ℕ) → s < length xs → g x ≡ a → g (station_at xs t) ≡ a → g (station_at (set xs s x) t) ≡ a
  station_kept g a xs x s t h e q =
      elim (cases_eq s t) [
        | inl z ↦ subst (λ (k : ℕ). g (station_at (set xs s x) k) ≡ a) z (ap g (station_here xs x s h) ∙ e)
        | inr z ↦ ap g (station_there xs x s t z) ∙ q
      ]

  pub shape_station : (x : Station) (s : ℕ) (st : State) → s < n → length x.entries ≡ 32 → Shape n st → Shape n (with_stations (set st.stations s x) st)
  shape_station x s st h a k =
      record {
        fit = k.fit;
        some = k.some;
        small = k.small;
        stations = length-set st.stations s x ∙ k.stations;
        journals = k.journals;
        wide = k.wide;
        entries = λ t l. station_kept (λ (z : Station). length z.entries) 32 st.stations x s t (omega (arith, k.stations)) a (k.entries t l);
        sets = k.sets;
      }

  pub shape_turn : (s r : ℕ) (tn : Turn) (st : State) → s < n → Shape n st → Shape n (with_stations (turn_entry s r tn st.stations) st)
  shape_turn s r tn st h k = let x = station_at st.stations s in shape_station (turn_station r tn x) s st h (length-set x.entries r (turned tn (entries_for r x)) ∙ k.entries s h) k

  -- a list of the same entry, read anywhere
  pub same_entry : {X : Type 0} (c r : ℕ) (e : X) → get_or (replicate c e) r e ≡ e
  same_entry c r e = elim (cases_lt r c) [ inl l ↦ get_or-replicate c r e e l | inr l ↦ get_or_past (replicate c e) r e (omega (arith, length-replicate c e)) ]

  cut_station : (s k : ℕ) (p : Section) (x : Station) → s < n → station_as n s (keep_first k p) (blank false) ≡ ideal.cut_station k (station_as n s p x)
  unfolding blank
  cut_station s k p x h =
      λ i. record {
        power = cond-true (ltb s n) false true (lt-ltb s n h) i;
        stable = p.stable ++ take k p.unforced;
        loose = [];
        coordinators = λ r. co_as (same_entry 32 r no_entries i).coordinator;
        subordinates = λ r. (same_entry 32 r no_entries i).subordinate;
      }

  pub cut_view : (s k : ℕ) (st : State) → s < n → Shape n st → view n (cut_off s k st) ≡ ideal.at_station s (ideal.cut_station k) (view n st)
  unfolding journal_cut
  cut_view s k st h q =
      let j = st.store.journal in
      let xs = st.stations in
      ap (λ (f : ℕ → ideal.Station). record { station = f; post = (view n st).post; plan = (view n st).plan; count = (view n st).count; installed_at = (view n st).installed_at; dropped_at = (view n st).dropped_at })
      (fun_at (view n st).station (net_of n (cut_to k j s) (set xs s (blank false))) s (ideal.cut_station k ((view n st).station s))
      (ap (λ (z : Station). station_as n s (section (cut_to k j s) s) z) (station_here xs (blank false) s (omega (arith, q.stations)))
      ∙ (ap (λ (p : Section). station_as n s p (blank false)) (record_here j (keep_first k) s (omega (arith, q.journals)))
      ∙ cut_station s k (section j s) (station_at xs s) h))
      (λ t d. ap (λ (z : Station). station_as n t (section (cut_to k j s) t) z) (station_there xs (blank false) s t d)
      ∙ ap (λ (p : Section). station_as n t p (station_at xs t)) (record_there j (keep_first k) s t d)))

  pub blank_entries : (b : Bool) → length (blank b).entries ≡ 32
  unfolding blank
  blank_entries b = refl

  pub shape_cut : (s k : ℕ) (st : State) → s < n → Shape n st → Shape n (cut_off s k st)
  unfolding journal_cut
  shape_cut s k st h q = shape_station (blank false) s (with_store (journal_cut s k st.store) st) h (blank_entries false) (shape_section (keep_first k) s st h (λ p. refl) q)

  -- a whole step, under any fuse
  pub step_view : (s r : ℕ) (l : List Act) (tn : Turn) (f k : ℕ) (st : State) → s < n → r < 32 → Shape n st → AllByRecursion (Logged (length st.store.log)) l → records (locals l ((view n st).station s)) ≤ 160
      → (view n (stepped s r l tn f k st) ≡ ideal.step s l (turn_as r tn) f k (view n st)) × Shape n (stepped s r l tn f k st) × Accepted s l st.store
  unfolding stepped
  step_view s r l tn f k st h lr q g b = let p = go (burns f l) in (p.0, p.1, all_acts.2)
    where
      some_acts : (view n (with_store (all_done s (take f l) st.store) st) ≡ ideal.acts_done s (take f l) (view n st)) × Shape n (with_store (all_done s (take f l) st.store) st) × Accepted s (take f l) st.store
      some_acts = acts_view s (take f l) st h q (All-take _ f l g) (omega (arith, grows_take f l ((view n st).station s), b))

      all_acts : (view n (with_store (all_done s l st.store) st) ≡ ideal.acts_done s l (view n st)) × Shape n (with_store (all_done s l st.store) st) × Accepted s l st.store
      all_acts = acts_view s l st h q g b

      u : State
      u = with_store (all_done s (take f l) st.store) st

      v : State
      v = with_store (all_done s l st.store) st

      go : (c : Bool) → (view n (cond c (cut_off s k u) (with_stations (turn_entry s r tn v.stations) v)) ≡ cond c (ideal.at_station s (ideal.cut_station k) (ideal.acts_done s (take f l) (view n st))) (ideal.turn s (turn_as r tn) (ideal.acts_done s l (view n st)))) × Shape n (cond c (cut_off s k u) (with_stations (turn_entry s r tn v.stations) v))
      go true = (cut_view s k u h some_acts.1 ∙ ap (ideal.at_station s (ideal.cut_station k)) some_acts.0, shape_cut s k u h some_acts.1)
      go false = (turn_view s r tn v h lr all_acts.1 ∙ ap (ideal.turn s (turn_as r tn)) all_acts.0, shape_turn s r tn v h all_acts.1)
