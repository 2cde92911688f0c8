-- What holds of the ideal run, said of a run.
use Rattle.std.proofs.Common.{◌≡◌, ℕ, zero, suc, ◌+◌, ◌*◌, ◌^◌, ◌<◌, ◌≤◌, Bool, true, false, cond, not, ◌&&◌, eqb, ltb, leb, ◌↔◌, List, [], ◌∷◌, map, length, Result, sym, refl, ap, ◌∙◌, subst, inl, inr, mul-le-mul_right, arith}
use Rattle.std.proofs.lemmas.Bool.{cond-true, cond-false, cases_lt, eqb-true, and_parts, ltb-true, leb-true, le-ltb, lt-ltb}
use Rattle.std.proofs.lemmas.List.{get_or_past, nil_from_length}
use Rattle.std.specs.List.{AllByRecursion, range_with_len}
use Rattle.journal.specs.Meaning.{Section, section, held, no_section}
use Rattle.journal.specs.declared.records.Kind.{Kind}
use Rattle.journal.specs.declared.records.Kind.TheVariants as kind
use Rattle.presumption.specs.Answers.{Answers, Lawful}
use Rattle.run.specs.State.{State, fits}
use Rattle.stations.specs.Stations.{station_at, no_station, power_at}
use Rattle.stations.specs.declared.Station.{Station}
use Rattle.assurance.proofs.Ideal as ideal
use Rattle.station.specs.Sets.{empty}
use Rattle.assurance.proofs.Sets.{mem_below}
use Rattle.assurance.proofs.Every.{doubt_is, is_doubt, Full}
use Rattle.assurance.proofs.Lasting.{world}
use Rattle.assurance.proofs.SafeRules.{has_legal}
use Rattle.assurance.proofs.View.{co_as, station_as, view}
use lib.ListN.{get_or-replicate, length-replicate}
use Rattle.assurance.proofs.Each.{All-weaker}
use Rattle.run.specs.Answers.{answered}
use Rattle.run.specs.Calls.{reply, refuse, coordinator_of}
use Rattle.assurance.specs.declared.calls.Call.{Call}
use Rattle.assurance.specs.declared.calls.Call.TheVariants.{Open, Close, Settle}
use Rattle.assurance.specs.Lists.{lasting, called, after_calls}
use Rattle.run.specs.Runs.{Shown}
use Rattle.run.specs.Settling.{settled}
use Rattle.assurance.specs.Played.{AllPerformed}
use Rattle.assurance.specs.declared.calls.Value.{Value}
use Rattle.run.specs.declared.refusals.Refusal.{Refusal}
use Rattle.run.specs.State.{ready, all_ready, fresh}
use Rattle.stations.specs.Stations.{no_entries, entries_for, blank, all_power}
use Rattle.stations.specs.declared.Entries.{Entries}
use Rattle.station.specs.Sets.{below}
use Rattle.assurance.proofs.Every.{full_new}
use Rattle.assurance.proofs.Rules.{counting_below}
use Rattle.assurance.proofs.Claims as told
use Rattle.assurance.proofs.Proved.{begin, together}
use Rattle.assurance.proofs.Moves.{presumes, laws, Within, members_as, Good}
use Rattle.assurance.proofs.Performed.{same_entry, blank_entries}
use Rattle.assurance.proofs.Opened.{fits_as}
use Rattle.assurance.proofs.Listed.{call_as, call_view, calls_view, settled_view}
use Rattle.assurance.proofs.Written.{unrefused}
use Rattle.assurance.proofs.Plainly.{settle_plainly}
use Rattle.assurance.proofs.View.{has_as}
use Rattle.assurance.specs.Outcomes.{InDoubt, Undecided, Dropped, Lacks, AllPowered, Agreed, Quiet, Settles, Sound, FourEach, OneOutcome}

fits_small : (n c a : ℕ) → ideal.fits n c a ≡ true → a < 2 ^ n
unfolding ideal.fits
fits_small n c a e = ltb-true _ _ (and_parts (ltb a (2 ^ n)) (not (eqb a 0)) (and_parts (ltb c n) (ltb a (2 ^ n) && not (eqb a 0)) e).1).0

pub record Blank (p : Section) : Type 0 where
  pub stable : p.stable ≡ []
  pub unforced : p.unforced ≡ []

ready_blank : (p : Section) → ready p ≡ true → Blank p × (160 ≤ p.capacity)
ready_blank p e =
    let a = and_parts (leb 160 p.capacity) (eqb (length p.stable) 0 && eqb (length p.unforced) 0) e in
    let b = and_parts (eqb (length p.stable) 0) (eqb (length p.unforced) 0) a.1 in
    (record { stable = nil_from_length p.stable (eqb-true _ _ b.0); unforced = nil_from_length p.unforced (eqb-true _ _ b.1) }, leb-true _ _ a.0)

ready_at : (m : List Section) (s : ℕ) → all_ready m ≡ true → s < length m → Blank (section m s) × (160 ≤ (section m s).capacity)
unfolding all_ready
ready_at [] s e h = absurd (omega arith)
ready_at (p ∷ m) zero e h = ready_blank p (and_parts (ready p) (all_ready m) e).0
ready_at (p ∷ m) (suc s) e h = ready_at m s (and_parts (ready p) (all_ready m) e).1 (omega arith)

blank_at : (m : List Section) (s : ℕ) → all_ready m ≡ true → Blank (section m s)
blank_at m s e =
    elim (cases_lt s (length m)) [
      | inl l ↦ (ready_at m s e l).0
      | inr l ↦ subst Blank (sym (get_or_past m s no_section l)) (record { stable = refl; unforced = refl })
    ]

blank_co : (r : ℕ) → co_as (entries_for r (blank true)).coordinator ≡ ideal.none
unfolding blank
blank_co r = ap (λ (z : Entries). co_as z.coordinator) (same_entry 0 32 r no_entries)

blank_sub : (r : ℕ) → (entries_for r (blank true)).subordinate ≡ ideal.idle
unfolding blank
blank_sub r = ap (λ (z : Entries). z.subordinate) (same_entry 0 32 r no_entries)

blank_power : (blank true).power ≡ true
unfolding blank
blank_power = refl

all_powered : (xs : List Station) (ms : List ℕ) → AllByRecursion (λ (s : ℕ). power_at xs s ≡ true) ms → all_power xs ms ≡ true
unfolding all_power
all_powered xs [] h = refl
all_powered xs (s ∷ ms) h = λ i. cond_and (h.0 i) (all_powered xs ms h.1 i)
  where
    cond_and : Bool → Bool → Bool
    cond_and a b = a && b

-- the bound at eight stations
eight : (n p l d : ℕ) → n ≤ 8 → d ≤ (2 * n + 2) * p + 5 * n * l → d ≤ 18 * p + 40 * l
eight n p l d h e =
    let a : 2 * n + 2 ≤ 18 = omega arith in
    let b : 5 * n ≤ 40 = omega arith in
    omega (arith, mul-le-mul_right p a, mul-le-mul_right l b, e)

module _ (π : Answers) (𝓗 : Lawful π) (m : List Section) (ok : fits m ≡ true) where
  abbrev n : ℕ
  n = length m

  sizes : (2 ≤ length m) × (length m ≤ 8) × (all_ready m ≡ true)
  sizes =
      let a = and_parts (leb 2 (length m)) (leb (length m) 8 && all_ready m) ok in
      let b = and_parts (leb (length m) 8) (all_ready m) a.1 in
      (leb-true _ _ a.0, leb-true _ _ b.0, b.1)

  abbrev Q : ideal.Presumption
  Q = presumes π n

  abbrev 𝓛 : told.Laws Q
  𝓛 = laws π 𝓗 n sizes.0 sizes.1

  abbrev Fine : State → Type 0
  Fine = Good π 𝓗 n sizes.0 sizes.1

  one_station : (s : ℕ) → s < n → station_at (fresh m).stations s ≡ blank true
  one_station s h = get_or-replicate n s (blank true) no_station h

  fresh_station : (s : ℕ) → station_as n s (section m s) (station_at (fresh m).stations s) ≡ told.up
  fresh_station s =
      elim (cases_lt s n) [
        | inl l ↦ ap (station_as n s (section m s)) (one_station s l) ∙ (λ i. record { power = on (ltb s n) i; stable = ((blank_at m s sizes.2).stable i); loose = ((blank_at m s sizes.2).unforced i); coordinators = λ r. blank_co r i; subordinates = λ r. blank_sub r i })
        | inr l ↦ ap (station_as n s (section m s)) (get_or_past (fresh m).stations s no_station (omega (arith, length-replicate n (blank true)))) ∙ (λ i. record { power = cond-false (ltb s n) false true (le-ltb s n l) i; stable = ((blank_at m s sizes.2).stable i); loose = ((blank_at m s sizes.2).unforced i); coordinators = λ r. ideal.none; subordinates = λ r. ideal.idle })
      ]
    where
      on : (b : Bool) → cond b (blank true).power true ≡ true
      on true = blank_power
      on false = refl

  fresh_view : view n (fresh m) ≡ told.new
  fresh_view = λ i. record { station = λ s. fresh_station s i; post = []; plan = λ r. record { coordinator = 0; names = 0 }; count = 0; installed_at = λ r. 0; dropped_at = λ r. 0 }

  fresh_good : Fine (fresh m)
  fresh_good =
      record {
        shape = record {
          fit = ok;
          some = sizes.0;
          small = sizes.1;
          stations = length-replicate n (blank true);
          journals = refl;
          wide = λ s l. (ready_at m s sizes.2 l).1;
          entries = λ s l. ap (λ (y : Station). length y.entries) (one_station s l) ∙ blank_entries 0 true;
          sets = λ r l. absurd (omega arith);
        };
        full = subst (Full Q 𝓛) (sym fresh_view) (full_new Q 𝓛 (begin Q 𝓛));
      }

  -- a state that calls have led to
  module _ (st : State) (g : Fine st) (known : told.Known Q (view n st)) where
    agreed : (r : ℕ) → Agreed st r
    unfolding ideal.in_set
    agreed r =
        let k = known.agreed r in
        record {
          one = λ s t a b. k.one s t a b;
          committed = λ s a. sym (has_as kind.Commit r (section st.store.journal (coordinator_of r st)).stable) ∙ k.recorded s a;
          prepared = λ s t a b. sym (has_as kind.Prepared r (section st.store.journal t).stable) ∙ k.prepared s t a b;
          uncommitted = λ s t a. (sym (has_as kind.Commit r (section st.store.journal t).stable) ∙ (k.never s t a).0, sym (has_as kind.Commit r (section st.store.journal t).unforced) ∙ (k.never s t a).1);
        }

    later : (more : List Call) (r s t : ℕ) → Dropped st r s → Lacks kind.Commit (after_calls π more st) r t
    unfolding ideal.in_set
    later more r s t d =
        let v = after_calls π more st in
        let e = (calls_view π 𝓗 n sizes.0 sizes.1 more st g).0 in
        let k = known.later (map (call_as π 𝓗 n sizes.0 sizes.1) more) r s t d in (
          sym (has_as kind.Commit r (section v.store.journal t).stable) ∙ (ap (λ (u : ideal.Run). ideal.has ideal.kC r (u.station t).stable) e ∙ k.0),
          sym (has_as kind.Commit r (section v.store.journal t).unforced) ∙ (ap (λ (u : ideal.Run). ideal.has ideal.kC r (u.station t).loose) e ∙ k.1),
        )

    room : (s : ℕ) → held (section st.store.journal s) ≤ 160
    room s = known.room s

    quiet : (v : State) → told.Quiet (view n v) → Quiet v
    unfolding ideal.in_set
    quiet v k =
        record {
          empty = k.posted;
          no_doubt = λ r s d. k.doubt r s d.0 d.1;
          no_vote = λ r s x y e. k.voting r s x.bits y.bits (ap co_as e);
          none_awaited = λ r s o w e. k.telling r s o w.bits (ap co_as e);
          installed = λ r s c d. k.everywhere r s (has_as kind.Commit r (section v.store.journal (coordinator_of r v)).stable ∙ c) d;
        }

    settles : AllPowered st → Settles π st
    settles on =
        let long = g.shape.stations in
        let k = known.settling (λ s l. power s l) in
        let e = (call_view π 𝓗 n sizes.0 sizes.1 Settle st g).0 in
        let d = (settled_view π 𝓗 n sizes.0 sizes.1 st g).made in
        let within : (settled π st).deliveries ≤ (2 * length st.stations + 2) * length st.store.post + 5 * length st.stations * length st.store.log =
        subst (λ (x : ℕ). (settled π st).deliveries ≤ (2 * x + 2) * length st.store.post + 5 * x * length st.store.log) (sym long)
        (subst (λ (x : ℕ). x ≤ (2 * n + 2) * length (view n st).post + 5 * n * length st.store.log) (sym d) k.1) in
        record {
          quiet = quiet (called π Settle st).state (subst told.Quiet (sym e) k.0);
          answers = λ i. (cond (g.shape.fit i) (cond (all_powered st.stations (range_with_len 0 (length st.stations)) (All-weaker _ _ (λ s l. on s l) (range_with_len 0 (length st.stations)) (counting_below 0 (length st.stations) (length st.stations) (omega arith))) i) (reply (answered (settled π st).deliveries) (settled π st).state) (refuse 4 st)) (refuse 1 st)).answer;
          bounded = within;
          at_most = eight (length st.stations) _ _ _ (omega (arith, long, sizes.1)) within;
        }
      where
        power : (s : ℕ) → s < n → ((view n st).station s).power ≡ true
        power s l = same (ltb s n) (on s (omega (arith, g.shape.stations)))
          where
            same : (b : Bool) → power_at st.stations s ≡ true → cond b (power_at st.stations s) true ≡ true
            same true q = q
            same false q = refl

    -- doubt, by the entry and by the journal
    abbrev V : ideal.Run
    V = view n st

    near : (r s : ℕ) → ideal.has ideal.kp r (V.station s).stable ≡ true → s < n
    near r s e = g.full.near.sets r s (has_legal Q (world V) s ideal.kp r (V.station s).stable (g.full.inv.safe.recs s).0 e).1.1

    back : (k : Kind) (r s : ℕ) → Lacks k st r s → (ideal.has k r (V.station s).stable ≡ false) × (ideal.has k r (V.station s).loose ≡ false)
    back k r s h = (has_as k r (section st.store.journal s).stable ∙ h.0, has_as k r (section st.store.journal s).unforced ∙ h.1)

    forth : (k : Kind) (r s : ℕ) → (ideal.has k r (V.station s).stable ≡ false) × (ideal.has k r (V.station s).loose ≡ false) → Lacks k st r s
    forth k r s h = (sym (has_as k r (section st.store.journal s).stable) ∙ h.0, sym (has_as k r (section st.store.journal s).unforced) ∙ h.1)

    powered_is : (s : ℕ) → s < n → (V.station s).power ≡ power_at st.stations s
    powered_is s l = cond-true (ltb s n) _ _ (lt-ltb s n l)

    doubt : (r s : ℕ) → InDoubt st r s ↔ Undecided st r s
    doubt r s = (
      λ d. let k = doubt_is Q 𝓛 V g.full r s d.0 d.1 in
          record {
            powered = sym (powered_is s (near r s k.1)) ∙ k.0;
            prepared = sym (has_as kind.Prepared r (section st.store.journal s).stable) ∙ k.1;
            no_commit = forth kind.Committed r s k.2;
            no_abort = forth kind.Aborted r s k.3;
          },
      λ u. let p : ideal.has ideal.kp r (V.station s).stable ≡ true = has_as kind.Prepared r (section st.store.journal s).stable ∙ u.prepared in
          let k = is_doubt Q 𝓛 V g.full r s (powered_is s (near r s p) ∙ u.powered) p (back kind.Committed r s u.no_commit) (back kind.Aborted r s u.no_abort) in
          (k.0, k.1),
    )

    sound : Sound π st
    sound = record { agreed = agreed; later = later; doubt = doubt; room = room; written = unrefused π 𝓗 n sizes.0 sizes.1 st g; steps = settle_plainly π st; settles = settles }

  pub all_sound : (cs : List Call) → Sound π (after_calls π cs (fresh m))
  all_sound cs =
      let q = calls_view π 𝓗 n sizes.0 sizes.1 cs (fresh m) fresh_good in
      let l = map (call_as π 𝓗 n sizes.0 sizes.1) cs in
      sound (after_calls π cs (fresh m)) q.1 (subst (told.Known Q) (sym (q.0 ∙ ap (ideal.calls Q l) fresh_view)) ((together Q 𝓛).always l))

  pub four_each : FourEach π m
  four_each c x e =
      let two_calls = Open c x ∷ Close 0 lasting ∷ [] in
      let f : ideal.fits n c x.bits ≡ true = sym (fits_as n c x) ∙ subst (λ (k : ℕ). (ltb c k && (not (empty x) && below x k)) ≡ true) (length-replicate n (blank true)) e in
      let q = calls_view π 𝓗 n sizes.0 sizes.1 two_calls (fresh m) fresh_good in
      let l = map (call_as π 𝓗 n sizes.0 sizes.1) two_calls in
      let d = (settled_view π 𝓗 n sizes.0 sizes.1 (after_calls π two_calls (fresh m)) q.1).made in
      let w : Within n x.bits = λ t z. mem_below n x.bits t (small f) z in
      subst (λ (k : ℕ). (settled π (after_calls π two_calls (fresh m))).deliveries ≤ 4 * k) (ap length (sym (members_as n x sizes.1 w)))
      (subst (λ (k : ℕ). k ≤ 4 * length (ideal.members n x.bits)) (sym (d ∙ ap (λ (u : ideal.Run). (ideal.settled Q u).made) (q.0 ∙ ap (ideal.calls Q l) fresh_view)))
      ((together Q 𝓛).once c x.bits f))
    where
      small : ideal.fits n c x.bits ≡ true → x.bits < 2 ^ n
      small f = fits_small n c x.bits f

pub one_outcome : OneOutcome
one_outcome π h m ok = (all_sound π h m ok, four_each π h m ok)

-- a list that was performed on a new run leaves a sound one
pub sound_performed : {P : Type 0} {asked : P → Answers} {cs : List Call} {run left : Shown P} {xs : List (Result Value Refusal)} {p : P} {m : List Section} → Lawful (asked p) → fits m ≡ true → run.presumption ≡ p → run.state ≡ fresh m → AllPerformed asked cs run left xs → Sound (asked p) left.state
sound_performed {asked = asked} {cs = cs} {p = p} {m = m} h ok same new d = rw (d.state, new, same) ((one_outcome (asked p) h m ok).0 cs)
