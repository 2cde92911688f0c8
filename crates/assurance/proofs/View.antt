-- A run seen as an ideal run: stations, entries and rows by their numbers, writes that always succeed.
use Rattle.std.proofs.Common.{◌≡◌, ℕ, ◌<◌, ◌≤◌, Bool, true, false, cond, ◌||◌, eqb, ltb, List, [], ◌∷◌, length, set, is_some, Some, sym, refl, ap, ◌∙◌, subst, inl, inr, get_or-set_other, get_or-set_same}
use mathlib.Core.Path.{fun_ext}
use Rattle.std.proofs.lemmas.Bool.{cond-true, cond-false, cases_eq, eq-eqb, ne_eqb}
use Rattle.journal.specs.Meaning.{Section, section, changed, no_section}
use Rattle.journal.specs.declared.records.Kind.{Kind}
use Rattle.journal.specs.declared.records.Record.{Record}
use Rattle.station.specs.Recovery.{is_of, first_record, has_record}
use Rattle.station.specs.declared.coordinator.CoordinatorEntry.{CoordinatorEntry}
use Rattle.station.specs.declared.coordinator.CoordinatorEntry.TheVariants as coordinator
use Rattle.station.specs.declared.messages.Message.{Message}
use Rattle.station.specs.declared.subordinate.SubordinateEntry.{SubordinateEntry}
use Rattle.actor.specs.Log.{row_at}
use Rattle.actor.specs.declared.log.Row.{Row}
use Rattle.run.specs.State.{State}
use Rattle.stations.specs.Stations.{no_entries, entries_for, turned, turn_station, set_coordinator, set_subordinate, station_at, no_station}
use Rattle.stations.specs.declared.Entries.{Entries}
use Rattle.stations.specs.declared.Station.{Station}
use Rattle.stations.specs.declared.Turn.{Turn}
use Rattle.stations.specs.declared.Turn.TheVariants as turn
use Rattle.assurance.proofs.Ideal as ideal

-- entries and turns in the words of the ideal run, with sets as numbers
abbrev pub co_as : CoordinatorEntry → ideal.CoordinatorEntry
co_as coordinator.None = ideal.none
co_as (coordinator.Open x) = ideal.Open x.bits
co_as (coordinator.Collecting x y) = ideal.Collecting x.bits y.bits
co_as (coordinator.Announcing o w) = ideal.Announcing o w.bits

abbrev pub turn_as : ℕ → Turn → ideal.Turn
turn_as r (turn.Coordinator e) = ideal.to_coordinator r (co_as e)
turn_as r (turn.Subordinate e) = ideal.to_subordinate r e

-- one station of n: a number past the last always has power
abbrev pub station_as : ℕ → ℕ → Section → Station → ideal.Station
station_as n s p x =
    record {
      power = cond (ltb s n) x.power true;
      stable = p.stable;
      loose = p.unforced;
      coordinators = λ r. co_as (entries_for r x).coordinator;
      subordinates = λ r. (entries_for r x).subordinate;
    }

abbrev pub net_of : ℕ → List Section → List Station → ℕ → ideal.Station
net_of n j xs s = station_as n s (section j s) (station_at xs s)

abbrev pub plan_of : List Row → ℕ → ideal.Plan
plan_of l r = record { coordinator = (row_at l r).coordinator; names = (row_at l r).set.bits }

abbrev pub parts : ℕ → List Section → List Message → List Row → List Station → ideal.Run
parts n j p l xs =
    record {
      station = net_of n j xs;
      post = p;
      plan = plan_of l;
      count = length l;
      installed_at = λ r. (row_at l r).installed.bits;
      dropped_at = λ r. (row_at l r).dropped.bits;
    }

-- the whole run
abbrev pub view : ℕ → State → ideal.Run
view n st = parts n st.store.journal st.store.post st.store.log st.stations

-- lists as long as they have to be, and sections wide enough
pub record Shape (n : ℕ) (st : State) : Type 0 where
  pub fit : st.fit ≡ true
  pub some : 2 ≤ n
  pub small : n ≤ 8
  pub stations : length st.stations ≡ n
  pub journals : length st.store.journal ≡ n
  pub wide : (s : ℕ) → s < n → 160 ≤ (section st.store.journal s).capacity
  pub entries : (s : ℕ) → s < n → length (station_at st.stations s).entries ≡ 32
  pub sets : (r : ℕ) → r < length st.store.log → (row_at st.store.log r).set.bits ≡ 0 → ⊥

-- a function changed at one place
pub fun_at : {X : Type 0} (f g : ℕ → X) (i : ℕ) (v : X) → g i ≡ v → ((j : ℕ) → (i ≡ j → ⊥) → g j ≡ f j) → g ≡ ideal.updated f i v
fun_at {X} f g i v here there =
    fun_ext (λ j. elim (cases_eq i j) [
      | inl e ↦ subst (λ (k : ℕ). g k ≡ v) e here ∙ sym (cond-true (eqb i j) v (f j) (eq-eqb i j e))
      | inr e ↦ there j e ∙ sym (cond-false (eqb i j) v (f j) (ne_eqb i j e))
    ])

pub record_here : (j : List Section) (f : Section → Section) (s : ℕ) → s < length j → section (changed f j s) s ≡ f (section j s)
record_here j f s h = get_or-set_same j s (f (section j s)) no_section h

pub record_there : (j : List Section) (f : Section → Section) (s t : ℕ) → (s ≡ t → ⊥) → section (changed f j s) t ≡ section j t
record_there j f s t e = get_or-set_other j s t (f (section j s)) no_section (λ q. e (sym q))

pub station_here : (xs : List Station) (x : Station) (s : ℕ) → s < length xs → station_at (set xs s x) s ≡ x
station_here xs x s h = get_or-set_same xs s x no_station h

pub station_there : (xs : List Station) (x : Station) (s t : ℕ) → (s ≡ t → ⊥) → station_at (set xs s x) t ≡ station_at xs t
station_there xs x s t e = get_or-set_other xs s t x no_station (λ q. e (sym q))

-- an entry that changes, read anywhere
module _ {X : Type 0} (g : Entries → X) (r : ℕ) (tn : Turn) (x : Station) (h : r < length x.entries) where
  entry_here : g (entries_for r (turn_station r tn x)) ≡ g (turned tn (entries_for r x))
  entry_here = ap g (get_or-set_same x.entries r (turned tn (entries_for r x)) no_entries h)

  entry_there : (q : ℕ) → (r ≡ q → ⊥) → g (entries_for q (turn_station r tn x)) ≡ g (entries_for q x)
  entry_there q e = ap g (get_or-set_other x.entries r q (turned tn (entries_for r x)) no_entries (λ z. e (sym z)))

  entries_changed : (v : X) → g (turned tn (entries_for r x)) ≡ v → (λ q. g (entries_for q (turn_station r tn x))) ≡ ideal.updated (λ q. g (entries_for q x)) r v
  entries_changed v e = fun_at (λ q. g (entries_for q x)) (λ q. g (entries_for q (turn_station r tn x))) r v (entry_here ∙ e) entry_there

  entries_kept : g (turned tn (entries_for r x)) ≡ g (entries_for r x) → ◌≡◌ {A = ℕ → X} (λ q. g (entries_for q (turn_station r tn x))) (λ q. g (entries_for q x))
  entries_kept e =
      fun_ext (λ q. elim (cases_eq r q) [
        | inl z ↦ subst (λ (k : ℕ). g (entries_for k (turn_station r tn x)) ≡ g (entries_for k x)) z (entry_here ∙ e)
        | inr z ↦ entry_there q z
      ])

module _ (n s r : ℕ) (p : Section) (x : Station) (h : r < length x.entries) where
  pub co_changed : (e : CoordinatorEntry) → station_as n s p (set_coordinator r e x) ≡ ideal.set_coordinator r (co_as e) (station_as n s p x)
  co_changed e =
      let y = station_as n s p x in
      λ i. record {
        power = y.power;
        stable = y.stable;
        loose = y.loose;
        coordinators = entries_changed (λ z. co_as z.coordinator) r (turn.Coordinator e) x h (co_as e) refl i;
        subordinates = entries_kept (λ z. z.subordinate) r (turn.Coordinator e) x h refl i;
      }

  pub sub_changed : (e : SubordinateEntry) → station_as n s p (set_subordinate r e x) ≡ ideal.set_subordinate r e (station_as n s p x)
  sub_changed e =
      let y = station_as n s p x in
      λ i. record {
        power = y.power;
        stable = y.stable;
        loose = y.loose;
        coordinators = entries_kept (λ z. co_as z.coordinator) r (turn.Subordinate e) x h refl i;
        subordinates = entries_changed (λ z. z.subordinate) r (turn.Subordinate e) x h e refl i;
      }

pub has_as : (k : Kind) (r : ℕ) (l : List Record) → ideal.has k r l ≡ has_record k r l
unfolding first_record
has_as k r [] = refl
has_as k r (x ∷ l) = ap (λ (b : Bool). is_of k r x || b) (has_as k r l) ∙ go (is_of k r x)
  where
    go : (b : Bool) → (b || has_record k r l) ≡ is_some (cond b (Some x) (first_record k r l))
    go true = refl
    go false = refl
