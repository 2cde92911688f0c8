-- Opening a revision does to the view what the ideal run's open does.
use Rattle.std.proofs.Common.{◌≡◌, ℕ, zero, suc, ◌+◌, ◌/◌, ◌^◌, ◌<◌, ◌≤◌, Bool, true, false, cond, not, ◌&&◌, ◌||◌, eqb, ltb, List, [], ◌∷◌, ◌++◌, length, get_or, set, filter, sym, refl, ap, ◌∙◌, subst, inl, inr, one-mul, le-div_iff_mul-le, arith, length-set, get_or-set_other, get_or-set_same, set-set, pow_pos}
use mathlib.Core.Path.{fun_ext}
use Rattle.std.proofs.lemmas.Bool.Decides.{nat_tests}
use Rattle.std.proofs.lemmas.Bool.{cond-true, cond-false, cases_Bool, cases_eq, cases_lt, true≢false, eq-eqb, ne_eqb, and_parts, not-true, lt-ltb, le-ltb, ltb-true}
use Rattle.std.proofs.lemmas.List.{get_or_past, get_or_push, length_push, set_past}
use Rattle.std.specs.List.{AllByRecursion, range_with_len}
use Rattle.journal.specs.Meaning.{section}
use Rattle.presumption.specs.Answers.{Answers, Lawful}
use Rattle.station.specs.Sets.{of_bits}
use Rattle.station.specs.declared.sets.StationSet.{StationSet}
use Rattle.station.specs.declared.subordinate.SubordinateEntry.TheVariants as subordinate
use Rattle.actor.specs.Log.{row_at, row}
use Rattle.actor.specs.Store.{Store, store}
use Rattle.actor.specs.declared.log.Row.{Row}
use Rattle.run.specs.State.{State, with_stations}
use Rattle.stations.specs.Stations.{station_at, no_station, power_at}
use Rattle.stations.specs.declared.Entries.{Entries}
use Rattle.stations.specs.declared.Station.{Station}
use Rattle.stations.specs.declared.Turn.TheVariants as turn
use Rattle.assurance.proofs.Ideal as ideal
use Rattle.station.specs.Sets.{empty, members}
use Rattle.assurance.proofs.Sets.{mem_below}
use Rattle.assurance.proofs.View.{station_as, net_of, plan_of, parts, view, Shape, co_changed, sub_changed}
use native.Mathlib.Nat.{div-eq_of_lt}
use Rattle.station.specs.declared.coordinator.CoordinatorEntry.TheVariants.{Open}
use lib.ListN.{get_or-append}
use Rattle.run.specs.Answers.{answered}
use Rattle.run.specs.Calls.{reply, refuse, open_call, opened}
use Rattle.stations.specs.Stations.{no_entries, entries_for, turned, set_coordinator, set_subordinate, with_coordinator, with_subordinate, all_power, activated}
use Rattle.station.specs.Sets.{below}
use Rattle.actor.specs.Store.{with_row}
use Rattle.assurance.proofs.Rules.{members_below}
use Rattle.assurance.proofs.Moves.{presumes, Within, members_as, Good, Becomes}
use Rattle.assurance.proofs.Performed.{shape_turn}
use Rattle.assurance.proofs.View.{fun_at}
use Rattle.std.proofs.Math.Bool.{and_comm}

-- a station is among some
abbrev pub among : ℕ → List ℕ → Bool
among s [] = false
among s (m ∷ ms) = eqb m s || among s ms

not_before : (p : ℕ → Bool) (s a k : ℕ) → s < a → among s (filter p (range_with_len a k)) ≡ false
not_before p s a zero h = refl
not_before p s a (suc k) h = go (p a) (not_before p s (a + 1) k (omega arith))
  where
    go : (b : Bool) → among s (filter p (range_with_len (a + 1) k)) ≡ false → among s (cond b (a ∷ filter p (range_with_len (a + 1) k)) (filter p (range_with_len (a + 1) k))) ≡ false
    go true q = ap (λ (c : Bool). c || among s (filter p (range_with_len (a + 1) k))) (ne_eqb a s (λ e. omega arith)) ∙ q
    go false q = q

not_after : (p : ℕ → Bool) (s a k : ℕ) → a + k ≤ s → among s (filter p (range_with_len a k)) ≡ false
not_after p s a zero h = refl
not_after p s a (suc k) h = go (p a) (not_after p s (a + 1) k (omega arith))
  where
    go : (b : Bool) → among s (filter p (range_with_len (a + 1) k)) ≡ false → among s (cond b (a ∷ filter p (range_with_len (a + 1) k)) (filter p (range_with_len (a + 1) k))) ≡ false
    go true q = ap (λ (c : Bool). c || among s (filter p (range_with_len (a + 1) k))) (ne_eqb a s (λ e. omega arith)) ∙ q
    go false q = q

inside : (p : ℕ → Bool) (s a k : ℕ) → a ≤ s → s < a + k → among s (filter p (range_with_len a k)) ≡ p s
inside p s a zero h l = absurd (omega arith)
inside p s a (suc k) h l = elim (cases_eq a s) [ inl e ↦ here e (p a) refl (not_before p s (a + 1) k (omega arith)) | inr e ↦ there e (p a) (inside p s (a + 1) k (omega arith) (omega arith)) ]
  where
    here : a ≡ s → (b : Bool) → p a ≡ b → among s (filter p (range_with_len (a + 1) k)) ≡ false → among s (cond b (a ∷ filter p (range_with_len (a + 1) k)) (filter p (range_with_len (a + 1) k))) ≡ p s
    here e true q z = ap (λ (c : Bool). c || among s (filter p (range_with_len (a + 1) k))) (eq-eqb a s e) ∙ (sym q ∙ ap p e)
    here e false q z = z ∙ (sym q ∙ ap p e)

    there : (a ≡ s → ⊥) → (b : Bool) → among s (filter p (range_with_len (a + 1) k)) ≡ p s → among s (cond b (a ∷ filter p (range_with_len (a + 1) k)) (filter p (range_with_len (a + 1) k))) ≡ p s
    there e true q = ap (λ (c : Bool). c || among s (filter p (range_with_len (a + 1) k))) (ne_eqb a s e) ∙ q
    there e false q = q

pub among_members : (n m s : ℕ) → Within n m → among s (ideal.members n m) ≡ ideal.in_set m s
unfolding ideal.members
among_members n m s w =
    elim (cases_lt s n) [
      | inl l ↦ inside (ideal.in_set m) s 0 n (omega arith) (omega arith)
      | inr l ↦ not_after (ideal.in_set m) s 0 n (omega arith) ∙ sym (elim (cases_Bool (ideal.in_set m s)) [ inl e ↦ absurd (omega (arith, w s e)) | inr e ↦ e ])
    ]

-- stations made Active
abbrev F : ℕ → ℕ → Station → Station
F r c y = set_subordinate r (subordinate.Active c) y

twice : (r c : ℕ) (y : Station) → F r c (F r c y) ≡ F r c y
twice r c y =
    ap (λ (l : List Entries). record { power = y.power; entries = l })
    (elim (cases_lt r (length y.entries)) [
      | inl l ↦ ap (λ (e : Entries). set (F r c y).entries r (turned (turn.Subordinate (subordinate.Active c)) e)) (get_or-set_same y.entries r once no_entries l) ∙ set-set y.entries r once once
      | inr l ↦ ap (λ (es : List Entries). set es r (turned (turn.Subordinate (subordinate.Active c)) (get_or es r no_entries))) (set_past y.entries r once l)
    ])
  where
    once : Entries
    once = turned (turn.Subordinate (subordinate.Active c)) (entries_for r y)

activated_at : (r c s n : ℕ) (ms : List ℕ) (xs : List Station) → length xs ≡ n → AllByRecursion (λ (m : ℕ). m < n) ms → station_at (activated r c ms xs) s ≡ cond (among s ms) (F r c (station_at xs s)) (station_at xs s)
unfolding activated
activated_at r c s n [] xs e h = refl
activated_at r c s n (m ∷ ms) xs e h =
    activated_at r c s n ms (with_subordinate m r (subordinate.Active c) xs) (length-set xs m (F r c (station_at xs m)) ∙ e) h.1
    ∙ elim (cases_eq m s) [
      | inl q ↦ ap (λ (y : Station). cond (among s ms) (F r c y) y) (subst (λ (k : ℕ). station_at (set xs m (F r c (station_at xs m))) k ≡ F r c (station_at xs k)) q (get_or-set_same xs m (F r c (station_at xs m)) no_station (omega (arith, h.0))))
          ∙ (ap (λ (y : Station). cond (among s ms) y (F r c (station_at xs s))) (twice r c (station_at xs s)) ∙ (same (among s ms) (F r c (station_at xs s)) ∙ sym (ap (λ (b : Bool). cond (b || among s ms) (F r c (station_at xs s)) (station_at xs s)) (eq-eqb m s q))))
      | inr q ↦ ap (λ (y : Station). cond (among s ms) (F r c y) y) (get_or-set_other xs m s (F r c (station_at xs m)) no_station (λ z. q (sym z)))
          ∙ sym (ap (λ (b : Bool). cond (b || among s ms) (F r c (station_at xs s)) (station_at xs s)) (ne_eqb m s q))
    ]
  where
    same : (b : Bool) (y : Station) → cond b y y ≡ y
    same true y = refl
    same false y = refl

activated_shape : (n r c : ℕ) (ms : List ℕ) (u : State) → AllByRecursion (λ (m : ℕ). m < n) ms → Shape n u → Shape n (with_stations (activated r c ms u.stations) u)
unfolding activated
activated_shape n r c [] u h k = record { fit = k.fit; some = k.some; small = k.small; stations = k.stations; journals = k.journals; wide = k.wide; entries = k.entries; sets = k.sets }
activated_shape n r c (m ∷ ms) u h k = activated_shape n r c ms (with_stations (with_subordinate m r (subordinate.Active c) u.stations) u) h.1 (shape_turn n m r (turn.Subordinate (subordinate.Active c)) u h.0 k)

-- powers
pub powers : (n : ℕ) (st : State) (ms : List ℕ) → AllByRecursion (λ (m : ℕ). m < n) ms → ideal.all_powered ms (view n st) ≡ all_power st.stations ms
unfolding all_power
powers n st [] h = refl
powers n st (m ∷ ms) h = λ i. cond (lt-ltb m n h.0 i) (power_at st.stations m) true && powers n st ms h.1 i

-- a set of stations below n
below_as : (n m : ℕ) → eqb (m / 2 ^ n) 0 ≡ ltb m (2 ^ n)
below_as n m =
    elim (cases_lt m (2 ^ n)) [
      | inl l ↦ ap (λ (k : ℕ). eqb k 0) (div-eq_of_lt l) ∙ sym (lt-ltb _ _ l)
      | inr l ↦ (let q : 1 ≤ m / 2 ^ n = (le-div_iff_mul-le (pow_pos n)).1 (subst (λ (x : ℕ). x ≤ m) (sym (one-mul (2 ^ n))) l) in ne_eqb (m / 2 ^ n) 0 (λ z. omega arith) ∙ sym (le-ltb m (2 ^ n) l))
    ]

pub fits_as : (n c : ℕ) (x : StationSet) → (ltb c n && (not (empty x) && below x n)) ≡ ideal.fits n c x.bits
unfolding ideal.fits
fits_as n c x = ap (λ (b : Bool). ltb c n && (not (empty x) && b)) (below_as n x.bits) ∙ ap (λ (b : Bool). ltb c n && b) (and_comm (not (empty x)) (ltb x.bits (2 ^ n)))

-- a row more
row_far : (l : List Row) (x : Row) (q : ℕ) → (length l ≡ q → ⊥) → row_at (l ++ (x ∷ [])) q ≡ row_at l q
row_far l x q e =
    elim (cases_lt q (length l)) [
      | inl h ↦ get_or-append l (x ∷ []) (row 0 (of_bits 0)) q h
      | inr h ↦ get_or_past (l ++ (x ∷ [])) q (row 0 (of_bits 0)) (omega (arith, length_push l x, apart q h e)) ∙ sym (get_or_past l q (row 0 (of_bits 0)) h)
    ]
  where
    apart : (q : ℕ) → length l ≤ q → (length l ≡ q → ⊥) → length l < q
    apart q h e = grind (arith, nat_tests)

row_new : (l : List Row) (x : Row) → row_at (l ++ (x ∷ [])) (length l) ≡ x
row_new l x = get_or_push l x (row 0 (of_bits 0)) (length l) refl

row_old : (l : List Row) → row_at l (length l) ≡ row 0 (of_bits 0)
row_old l = get_or_past l (length l) (row 0 (of_bits 0)) (omega arith)

row_part : (f : Row → ℕ) (l : List Row) (x : Row) → f x ≡ f (row 0 (of_bits 0)) → (q : ℕ) → f (row_at (l ++ (x ∷ [])) q) ≡ f (row_at l q)
row_part f l x e q =
    elim (cases_eq (length l) q) [
      | inl z ↦ subst (λ (k : ℕ). f (row_at (l ++ (x ∷ [])) k) ≡ f (row_at l k)) z (ap f (row_new l x) ∙ (e ∙ sym (ap f (row_old l))))
      | inr z ↦ ap f (row_far l x q z)
    ]

module _ (π : Answers) (𝓗 : Lawful π) (n : ℕ) (two : 2 ≤ n) (eight : n ≤ 8) (st : State) (g : Good π 𝓗 n two eight st) (c : ℕ) (x : StationSet) where
  abbrev V : ideal.Run
  V = view n st

  abbrev Q : ideal.Presumption
  Q = presumes π n

  abbrev To : State → ideal.Run → Type 0
  To = Becomes π 𝓗 n two eight

  abbrev R : ℕ
  R = length st.store.log

  abbrev Xs : List Station
  Xs = with_coordinator c R (Open x) st.stations

  abbrev Y : State
  Y = with_stations (activated R c (members x) Xs) st

  module _ (h : c < n) (w : Within n x.bits) (l : R < 32) where
    ms_below : AllByRecursion (λ (m : ℕ). m < n) (members x)
    ms_below = subst (AllByRecursion (λ (m : ℕ). m < n)) (sym (members_as n x eight w)) (members_below n x.bits)

    among_is : (s : ℕ) → among s (members x) ≡ ideal.in_set x.bits s
    among_is s = ap (among s) (members_as n x eight w) ∙ among_members n x.bits s w

    abbrev G : Station → Station
    G y = set_coordinator R (Open x) y

    -- an entry more at a station that is there
    co_more : (s : ℕ) → s < n → station_as n s (section st.store.journal s) (G (station_at st.stations s)) ≡ ideal.set_coordinator R (ideal.Open x.bits) (V.station s)
    co_more s i = co_changed n s R (section st.store.journal s) (station_at st.stations s) (omega (arith, g.shape.entries s i)) (Open x)

    sub_more : (s : ℕ) → s < n → (y : Station) → length y.entries ≡ 32 → station_as n s (section st.store.journal s) (F R c y) ≡ ideal.set_subordinate R (ideal.Active c) (station_as n s (section st.store.journal s) y)
    sub_more s i y e = sub_changed n s R (section st.store.journal s) y (omega (arith, e)) (subordinate.Active c)

    first_at : (s : ℕ) → station_at Xs s ≡ cond (eqb c s) (G (station_at st.stations s)) (station_at st.stations s)
    first_at s =
        elim (cases_eq c s) [
          | inl e ↦ subst (λ (k : ℕ). station_at Xs k ≡ G (station_at st.stations k)) e (get_or-set_same st.stations c (G (station_at st.stations c)) no_station (omega (arith, g.shape.stations))) ∙ sym (cond-true (eqb c s) _ _ (eq-eqb c s e))
          | inr e ↦ get_or-set_other st.stations c s (G (station_at st.stations c)) no_station (λ z. e (sym z)) ∙ sym (cond-false (eqb c s) _ _ (ne_eqb c s e))
        ]

    net_open : (s : ℕ) → Y.stations ≡ Y.stations → net_of n st.store.journal Y.stations s ≡ ideal.opened_station R c x.bits s (V.station s)
    net_open s _ =
        ap (station_as n s (section st.store.journal s))
        (activated_at R c s n (members x) Xs (length-set st.stations c (G (station_at st.stations c)) ∙ g.shape.stations) ms_below
        ∙ (λ i. cond (among_is s i) (F R c (first_at s i)) (first_at s i)))
        ∙ elim (cases_lt s n) [ inl i ↦ near i (eqb c s) (ideal.in_set x.bits s) | inr i ↦ far i (eqb c s) (ideal.in_set x.bits s) (ne_eqb c s (λ e. omega arith)) (elim (cases_Bool (ideal.in_set x.bits s)) [ inl e ↦ absurd (omega (arith, w s e)) | inr e ↦ e ]) ]
      where
        near : s < n → (a b : Bool) → station_as n s (section st.store.journal s) (cond b (F R c (cond a (G (station_at st.stations s)) (station_at st.stations s))) (cond a (G (station_at st.stations s)) (station_at st.stations s)))
            ≡ record { power = (V.station s).power; stable = (V.station s).stable; loose = (V.station s).loose; coordinators = cond a (ideal.updated (V.station s).coordinators R (ideal.Open x.bits)) (V.station s).coordinators; subordinates = cond b (ideal.updated (V.station s).subordinates R (ideal.Active c)) (V.station s).subordinates }
        near i true true =
            let y = station_at st.stations s in
            sub_more s i (G y) (length-set y.entries R (turned (turn.Coordinator (Open x)) (entries_for R y)) ∙ g.shape.entries s i)
            ∙ ap (ideal.set_subordinate R (ideal.Active c)) (co_more s i)
        near i true false = co_more s i
        near i false true = sub_more s i (station_at st.stations s) (g.shape.entries s i)
        near i false false = refl

        far : n ≤ s → (a b : Bool) → a ≡ false → b ≡ false → station_as n s (section st.store.journal s) (cond b (F R c (cond a (G (station_at st.stations s)) (station_at st.stations s))) (cond a (G (station_at st.stations s)) (station_at st.stations s)))
            ≡ record { power = (V.station s).power; stable = (V.station s).stable; loose = (V.station s).loose; coordinators = cond a (ideal.updated (V.station s).coordinators R (ideal.Open x.bits)) (V.station s).coordinators; subordinates = cond b (ideal.updated (V.station s).subordinates R (ideal.Active c)) (V.station s).subordinates }
        far i true b p q = absurd (true≢false p)
        far i false true p q = absurd (true≢false q)
        far i false false p q = refl

    abbrev Log : List Row
    Log = st.store.log ++ (row c x ∷ [])

    whole : with_row c x st.store ≡ store st.store.journal st.store.post Log
    whole = cond-true (ltb R 32) _ _ (lt-ltb R 32 l)

    log_open : parts n st.store.journal st.store.post Log Y.stations ≡ ideal.upon_open c x.bits V
    log_open =
        λ i. record {
          station = fun_ext (λ s. net_open s refl) i;
          post = V.post;
          plan = fun_at V.plan (plan_of Log) R (record { coordinator = c; names = x.bits })
              (ap (λ (z : Row). record { coordinator = z.coordinator; names = z.set.bits }) (row_new st.store.log (row c x)))
              (λ q e. ap (λ (z : Row). record { coordinator = z.coordinator; names = z.set.bits }) (row_far st.store.log (row c x) q e)) i;
          count = one_more i;
          installed_at = fun_ext (row_part (λ (z : Row). z.installed.bits) st.store.log (row c x) refl) i;
          dropped_at = fun_ext (row_part (λ (z : Row). z.dropped.bits) st.store.log (row c x) refl) i;
        }
      where
        one_more : length Log ≡ suc R
        one_more = omega (arith, length_push st.store.log (row c x))

    opens : (x.bits ≡ 0 → ⊥) → To (opened c x st) (ideal.upon_open c x.bits V)
    opens some = (
      ap (λ (v : Store). parts n v.journal v.post v.log Y.stations) whole ∙ log_open,
      subst (λ (v : Store). Shape n (record { fit = st.fit; store = v; stations = Y.stations })) (sym whole)
          (let k = activated_shape n R c (members x) (with_stations Xs st) ms_below (shape_turn n c R (turn.Coordinator (Open x)) st h g.shape) in
          record {
            fit = k.fit;
            some = k.some;
            small = k.small;
            stations = k.stations;
            journals = k.journals;
            wide = k.wide;
            entries = k.entries;
            sets = λ q i z. elim (cases_eq R q) [
              | inl e ↦ some (sym (ap (λ (y : Row). y.set.bits) (subst (λ (m : ℕ). row_at Log m ≡ row c x) e (row_new st.store.log (row c x)))) ∙ z)
              | inr e ↦ k.sets q (below_one q i e) (sym (ap (λ (y : Row). y.set.bits) (row_far st.store.log (row c x) q e)) ∙ z)
            ];
          }),
    )
      where
        below_one : (q : ℕ) → q < length Log → (R ≡ q → ⊥) → q < R
        below_one q i e = let z = length_push st.store.log (row c x) in grind (arith, nat_tests)

  sized : ideal.fits n c x.bits ≡ true → (c < n) × (x.bits < 2 ^ n) × (x.bits ≡ 0 → ⊥)
  unfolding ideal.fits
  sized e = let p = and_parts (ltb c n) (ltb x.bits (2 ^ n) && not (eqb x.bits 0)) e in let q = and_parts (ltb x.bits (2 ^ n)) (not (eqb x.bits 0)) p.1 in (ltb-true _ _ p.0, ltb-true _ _ q.0, λ z. true≢false (sym (eq-eqb x.bits 0 z) ∙ not-true _ q.1))

  pub open_view : To (open_call c x st).state (ideal.call Q (ideal.open_revision c x.bits) V)
  open_view =
      subst (λ (m : ℕ). To (cond st.fit (cond (ltb c m && (not (empty x) && below x m)) (cond (power_at st.stations c && all_power st.stations (members x)) (cond (ltb R 32) (reply (answered R) (opened c x st)) (refuse 5 st)) (refuse 4 st)) (refuse 2 st)) (refuse 1 st)).state
      (cond (ideal.fits n c x.bits && (ltb R 32 && ((V.station c).power && ideal.all_powered (ideal.members n x.bits) V))) (ideal.upon_open c x.bits V) V)) (sym g.shape.stations)
      (go st.fit (ltb c n && (not (empty x) && below x n)) (power_at st.stations c && all_power st.stations (members x)) (ltb R 32) g.shape.fit refl refl refl)
    where
      go : (a b d e : Bool) → a ≡ true → (ltb c n && (not (empty x) && below x n)) ≡ b → (power_at st.stations c && all_power st.stations (members x)) ≡ d → ltb R 32 ≡ e
          → To (cond a (cond b (cond d (cond e (reply (answered R) (opened c x st)) (refuse 5 st)) (refuse 4 st)) (refuse 2 st)) (refuse 1 st)).state
          (cond (ideal.fits n c x.bits && (e && ((V.station c).power && ideal.all_powered (ideal.members n x.bits) V))) (ideal.upon_open c x.bits V) V)
      go false b d e p q r z = absurd (true≢false (sym p))
      go true false d e p q r z = (sym (ap (λ (m : Bool). cond (m && (e && ((V.station c).power && ideal.all_powered (ideal.members n x.bits) V))) (ideal.upon_open c x.bits V) V) (sym (fits_as n c x) ∙ q)), g.shape)
      go true true d e p q r z =
          let f : ideal.fits n c x.bits ≡ true = sym (fits_as n c x) ∙ q in
          let k = sized f in
          let w : Within n x.bits = λ t m. mem_below n x.bits t k.1 m in
          let on : ((V.station c).power && ideal.all_powered (ideal.members n x.bits) V) ≡ d =
          (λ i. cond (lt-ltb c n k.0 i) (power_at st.stations c) true && (powers n st (ideal.members n x.bits) (members_below n x.bits) ∙ ap (all_power st.stations) (sym (members_as n x eight w))) i) ∙ r in
          subst (λ (m : Bool). To (cond d (cond e (reply (answered R) (opened c x st)) (refuse 5 st)) (refuse 4 st)).state (cond (m && (e && ((V.station c).power && ideal.all_powered (ideal.members n x.bits) V))) (ideal.upon_open c x.bits V) V)) (sym f)
          (subst (λ (m : Bool). To (cond d (cond e (reply (answered R) (opened c x st)) (refuse 5 st)) (refuse 4 st)).state (cond (e && m) (ideal.upon_open c x.bits V) V)) (sym on)
          (last d e z k w))
        where
          last : (d e : Bool) → ltb R 32 ≡ e → (c < n) × (x.bits < 2 ^ n) × (x.bits ≡ 0 → ⊥) → Within n x.bits → To (cond d (cond e (reply (answered R) (opened c x st)) (refuse 5 st)) (refuse 4 st)).state (cond (e && d) (ideal.upon_open c x.bits V) V)
          last false false z k w = (refl, g.shape)
          last false true z k w = (refl, g.shape)
          last true false z k w = (refl, g.shape)
          last true true z k w = opens k.0 w (ltb-true _ _ z) k.2
