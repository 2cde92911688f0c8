-- What holds after any list of calls on a fresh run.
use Rattle.std.specs.Prelude.{◌≡◌, ℕ, ◌+◌, ◌*◌, ◌<◌, ◌≤◌, true, false, ◌↔◌, List, [], ◌∷◌, length, ◌≢◌}
use Rattle.actor.specs.Log.{row_at}
use Rattle.journal.specs.Meaning.{Section, section, held}
use Rattle.journal.specs.declared.records.Kind.{Kind}
use Rattle.journal.specs.declared.records.Kind.TheVariants as kind
use Rattle.presumption.specs.Answers.{Answers, Lawful}
use Rattle.presumption.specs.declared.outcome.Outcome.{Outcome}
use Rattle.run.specs.Answers.{answered}
use Rattle.run.specs.Calls.{coordinator_of, named?}
use Rattle.assurance.specs.declared.calls.Call.{Call}
use Rattle.assurance.specs.declared.calls.Call.TheVariants.{Open, Close, Settle}
use Rattle.assurance.specs.Lists.{lasting, called, after_calls}
use Rattle.run.specs.Settling.{settled}
use Rattle.run.specs.State.{State, least_capacity, fits, fresh}
use Rattle.stations.specs.Stations.{power_at, coordinator_at, subordinate_at}
use Rattle.station.specs.Recovery.{has_record}
use Rattle.station.specs.Sets.{holds, members}
use Rattle.station.specs.declared.coordinator.CoordinatorEntry.TheVariants as coordinator
use Rattle.station.specs.declared.sets.StationSet.{StationSet}
use Rattle.station.specs.declared.subordinate.SubordinateEntry.TheVariants as subordinate
use Rattle.std.specs.List.{AllByRecursion}
use Rattle.assurance.specs.Writes.{Unrefused, Plain}

-- Revision r is of station s.
abbrev pub Names : State → ℕ → ℕ → Type 0
Names st r s = holds (row_at st.store.log r).set s ≡ true

-- Station s has installed revision r.
abbrev pub Installed : State → ℕ → ℕ → Type 0
Installed st r s = holds (row_at st.store.log r).installed s ≡ true

-- Station s has dropped revision r.
abbrev pub Dropped : State → ℕ → ℕ → Type 0
Dropped st r s = holds (row_at st.store.log r).dropped s ≡ true

-- Station s has a stable record of a kind for revision r.
abbrev pub Stable : Kind → State → ℕ → ℕ → Type 0
Stable k st r s = has_record k r (section st.store.journal s).stable ≡ true

-- Station s has no such record, stable or unforced.
abbrev pub Lacks : Kind → State → ℕ → ℕ → Type 0
Lacks k st r s = (has_record k r (section st.store.journal s).stable ≡ false) × (has_record k r (section st.store.journal s).unforced ≡ false)

-- Revision r is committed: its coordinator has a stable C.
abbrev pub Committed : State → ℕ → Type 0
Committed st r = Stable kind.Commit st r (coordinator_of r st)

-- Station s is in doubt about revision r: its entry is Prepared.
abbrev pub InDoubt : State → ℕ → ℕ → Type 0
InDoubt st r s = (c : ℕ) × (subordinate_at st.stations s r ≡ subordinate.Prepared c)

-- What the journal says of a doubt: a stable p, and neither c nor a.
pub record Undecided (st : State) (r s : ℕ) : Type 0 where
  pub powered : power_at st.stations s ≡ true
  pub prepared : Stable kind.Prepared st r s
  pub no_commit : Lacks kind.Committed st r s
  pub no_abort : Lacks kind.Aborted st r s

-- Every station has power.
abbrev pub AllPowered : State → Type 0
AllPowered st = (s : ℕ) → s < length st.stations → power_at st.stations s ≡ true

-- The stations agree on revision r.
pub record Agreed (st : State) (r : ℕ) : Type 0 where
  -- No station installs what another drops.
  pub one : (s t : ℕ) → Installed st r s → Dropped st r t → ⊥
  -- What is installed anywhere is committed, and prepared at every station of it.
  pub committed : (s : ℕ) → Installed st r s → Committed st r
  pub prepared : (s t : ℕ) → Installed st r s → Names st r t → Stable kind.Prepared st r t
  -- What is dropped anywhere has no commit record at any station.
  pub uncommitted : (s t : ℕ) → Dropped st r s → Lacks kind.Commit st r t

-- Nothing is under way or in doubt.
pub record Quiet (st : State) : Type 0 where
  pub empty : st.store.post ≡ []
  pub no_doubt : (r s : ℕ) → InDoubt st r s → ⊥
  pub no_vote : (r s : ℕ) (set voters : StationSet) → coordinator_at st.stations s r ≡ coordinator.Collecting set voters → ⊥
  pub none_awaited : (r s : ℕ) (o : Outcome) (w : StationSet) → coordinator_at st.stations s r ≢ coordinator.Announcing o w
  -- A committed revision is installed at every station of it.
  pub installed : (r s : ℕ) → Committed st r → Names st r s → Installed st r s

-- What settling does where every station has power.
pub record Settles (π : Answers) (st : State) : Type 0 where
  pub quiet : Quiet (called π Settle st).state
  pub answers : (called π Settle st).answer ≡ answered (settled π st).deliveries
  -- It answers at most so many deliveries for n stations: 2n + 2 for each message and 5n for each revision.
  pub bounded : (settled π st).deliveries ≤ (2 * length st.stations + 2) * length st.store.post + 5 * length st.stations * length st.store.log
  -- A run has at most eight stations, so this is at most 18 for each message and 40 for each revision.
  pub at_most : (settled π st).deliveries ≤ 18 * length st.store.post + 40 * length st.store.log

-- What holds of a state that calls have led to.
pub record Sound (π : Answers) (st : State) : Type 0 where
  pub agreed : (r : ℕ) → Agreed st r
  -- What was dropped has no commit record at any later time.
  pub later : (more : List Call) (r s t : ℕ) → Dropped st r s → Lacks kind.Commit (after_calls π more st) r t
  -- A station is in doubt exactly where it has power and its journal says so.
  pub doubt : (r s : ℕ) → InDoubt st r s ↔ Undecided st r s
  -- No journal ever holds more records than a run asks room for.
  pub room : (s : ℕ) → held (section st.store.journal s) ≤ least_capacity
  -- No write of a step is refused for want of room.
  pub written : (c : Call) → Unrefused π st c
  -- Settling is a list of the other calls.
  pub steps : (more : List Call) × AllByRecursion Plain more × ((called π Settle st).state ≡ after_calls π more st)
  pub settles : AllPowered st → Settles π st

-- One revision opened, closed and settled takes at most four deliveries for each station of it.
abbrev pub FourEach : Answers → List Section → Type 0
FourEach π m =
    (c : ℕ) (set : StationSet) → (named? c set (fresh m)).1 ≡ true →
    (settled π (after_calls π (Open c set ∷ Close 0 lasting ∷ []) (fresh m))).deliveries ≤ 4 * length (members set)

-- Under every lawful presumption, on every journal that fits, after every list of calls.
abbrev pub OneOutcome : Type 0
OneOutcome =
    (π : Answers) → Lawful π → (m : List Section) → fits m ≡ true →
    ((cs : List Call) → Sound π (after_calls π cs (fresh m))) × FourEach π m
