-- The stations of a run, each with its power and its entries by revision.
use Rattle.std.specs.Prelude.{ℕ, Bool, true, false, List, [], ◌∷◌, map, replicate, slice_index_or, slice_set}
use Rattle.journal.specs.declared.records.Record.{Record}
use Rattle.presumption.specs.Answers.{Answers}
use Rattle.station.specs.Limits.{most_revisions}
use Rattle.station.specs.Recovery.{resumed_coordinator, resumed_subordinate}
use Rattle.stations.specs.declared.Entries.{Entries}
use Rattle.stations.specs.declared.Station.{Station}
use Rattle.stations.specs.declared.Turn.{Turn}
use Rattle.stations.specs.declared.Turn.TheVariants.{Coordinator, Subordinate}
use Rattle.std.specs.List.{list_all, range_with_len}
use Rattle.station.specs.declared.coordinator.CoordinatorEntry.{CoordinatorEntry}
use Rattle.station.specs.declared.coordinator.CoordinatorEntry.TheVariants as coordinator
use Rattle.station.specs.declared.subordinate.SubordinateEntry.{SubordinateEntry}
use Rattle.station.specs.declared.subordinate.SubordinateEntry.TheVariants as subordinate

-- Neither entry.
abbrev pub no_entries : Entries
no_entries = record { coordinator = coordinator.None; subordinate = subordinate.None }

-- A station without entries.
unfoldable pub blank : Bool → Station
blank power = record { power = power; entries = replicate most_revisions no_entries }

-- A station that is not there: it has no power.
abbrev pub no_station : Station
no_station = record { power = false; entries = [] }

-- A station by its number.
abbrev pub station_at : List Station → ℕ → Station
station_at xs s = slice_index_or xs s no_station

-- Station s has power.
abbrev pub power_at : List Station → ℕ → Bool
power_at xs s = (station_at xs s).power

-- A station's entries for revision r.
abbrev pub entries_for : ℕ → Station → Entries
entries_for r x = slice_index_or x.entries r no_entries

-- The entries of station s for revision r.
abbrev pub entries_at : List Station → ℕ → ℕ → Entries
entries_at xs s r = entries_for r (station_at xs s)

-- The coordinator entry of station s for revision r.
abbrev pub coordinator_at : List Station → ℕ → ℕ → CoordinatorEntry
coordinator_at xs s r = (entries_at xs s r).coordinator

-- The subordinate entry of station s for revision r.
abbrev pub subordinate_at : List Station → ℕ → ℕ → SubordinateEntry
subordinate_at xs s r = (entries_at xs s r).subordinate

-- Entries of which one has changed.
abbrev pub turned : Turn → Entries → Entries
turned (Coordinator e) x = record { coordinator = e; subordinate = x.subordinate }
turned (Subordinate e) x = record { coordinator = x.coordinator; subordinate = e }

-- A station with an entry for revision r changed.
abbrev pub turn_station : ℕ → Turn → Station → Station
turn_station r turn x = record { power = x.power; entries = slice_set x.entries r (turned turn (entries_for r x)) }

-- A station with another coordinator entry for revision r.
abbrev pub set_coordinator : ℕ → CoordinatorEntry → Station → Station
set_coordinator r e x = turn_station r (Coordinator e) x

-- A station with another subordinate entry for revision r.
abbrev pub set_subordinate : ℕ → SubordinateEntry → Station → Station
set_subordinate r e x = turn_station r (Subordinate e) x

-- An entry of station s for revision r changes.
abbrev pub turn_entry : ℕ → ℕ → Turn → List Station → List Station
turn_entry s r turn xs = slice_set xs s (turn_station r turn (station_at xs s))

-- Station s has another coordinator entry for revision r.
abbrev pub with_coordinator : ℕ → ℕ → CoordinatorEntry → List Station → List Station
with_coordinator s r e xs = turn_entry s r (Coordinator e) xs

-- Station s has another subordinate entry for revision r.
abbrev pub with_subordinate : ℕ → ℕ → SubordinateEntry → List Station → List Station
with_subordinate s r e xs = turn_entry s r (Subordinate e) xs

-- All these stations have power.
unfoldable pub all_power : List Station → List ℕ → Bool
all_power xs ss = list_all (power_at xs) ss

-- All these stations become Active for revision r, with coordinator c.
unfoldable pub activated : ℕ → ℕ → List ℕ → List Station → List Station
activated r c [] xs = xs
activated r c (s ∷ ss) xs = activated r c ss (with_subordinate s r (subordinate.Active c) xs)

-- The entries for revision r that stable records rebuild.
abbrev pub resumed : Answers → List Record → ℕ → Entries
resumed π xs r = record { coordinator = resumed_coordinator π r xs; subordinate = resumed_subordinate r xs }

-- A station whose power has returned: its stable records rebuild its entries.
unfoldable pub rebuilt : Answers → List Record → Station
rebuilt π xs = record { power = true; entries = map (resumed π xs) (range_with_len 0 most_revisions) }
