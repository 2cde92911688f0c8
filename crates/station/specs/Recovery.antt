-- Recovery: the entries that the stable records of a station rebuild.
use Rattle.std.specs.Prelude.{ℕ, Bool, cond, ◌&&◌, ◌||◌, List, is_some, Some, None, Option, ◌==◌}
use Rattle.std.specs.List.{find}
use Rattle.journal.specs.Meaning.{Section, section}
use Rattle.journal.specs.Records.{letter_of}
use Rattle.journal.specs.declared.records.Kind.{Kind}
use Rattle.journal.specs.declared.records.Kind.TheVariants as kind
use Rattle.journal.specs.declared.records.Record.{Record}
use Rattle.presumption.specs.Answers.{Answers}
use Rattle.presumption.specs.declared.outcome.Outcome.{Outcome}
use Rattle.presumption.specs.declared.outcome.Outcome.TheVariants.{Commit, Abort}
use Rattle.station.specs.declared.coordinator.CoordinatorEntry.{CoordinatorEntry}
use Rattle.station.specs.declared.coordinator.CoordinatorEntry.TheVariants as coordinator
use Rattle.station.specs.declared.sets.StationSet.{StationSet}
use Rattle.station.specs.declared.subordinate.SubordinateEntry.{SubordinateEntry}
use Rattle.station.specs.declared.subordinate.SubordinateEntry.TheVariants as subordinate
use Rattle.station.specs.Coordinator.{announcing}
use Rattle.station.specs.Sets.{of_bits}

-- The stable records of a station.
abbrev pub stable_records : List Section → ℕ → List Record
stable_records m s = (section m s).stable

-- The record is of that kind and for that revision.
abbrev pub is_of : Kind → ℕ → Record → Bool
is_of k r x = letter_of x.kind == letter_of k && x.revision == r

-- A record that may be there, if it is of that kind and for that revision.
abbrev pub matching : Kind → ℕ → Option Record → Option Record
matching k r None = None
matching k r (Some x) = cond (is_of k r x) (Some x) None

-- The first record of a kind for a revision, if there is one.
unfoldable pub first_record : Kind → ℕ → List Record → Option Record
first_record k r xs = find (is_of k r) xs

-- There is a record of that kind for that revision.
abbrev pub has_record : Kind → ℕ → List Record → Bool
has_record k r xs = is_some (first_record k r xs)

-- A prepared record leaves its station in doubt unless an outcome stands beside it.
abbrev pub doubt : Option Record → Bool → SubordinateEntry
doubt None ended = subordinate.None
doubt (Some p) ended = cond ended subordinate.None (subordinate.Prepared p.argument)

-- The subordinate's entry: a p without c or a gives Prepared.
abbrev pub resumed_subordinate : ℕ → List Record → SubordinateEntry
resumed_subordinate r xs = doubt (first_record kind.Prepared r xs) (has_record kind.Committed r xs || has_record kind.Aborted r xs)

-- The outcome that a record tells, for its whole set, or else another.
abbrev pub told_by : Outcome → Option Record → Option (Outcome × StationSet) → Option (Outcome × StationSet)
told_by o None other = other
told_by o (Some x) other = Some (o, of_bits x.argument)

-- The decision on record: commit by a C, else abort by an A, else abort by an I.
abbrev pub decision : ℕ → List Record → Option (Outcome × StationSet)
decision r xs =
    told_by Commit (first_record kind.Commit r xs)
    (told_by Abort (first_record kind.Abort r xs) (told_by Abort (first_record kind.Opening r xs) None))

-- The whole set of a decision is awaited, if its outcome is acknowledged.
abbrev pub announced : Answers → Option (Outcome × StationSet) → CoordinatorEntry
announced π None = coordinator.None
announced π (Some d) = announcing π d.0 d.1

-- The coordinator's entry: Announcing the decision on record, unless an E stands.
abbrev pub resumed_coordinator : Answers → ℕ → List Record → CoordinatorEntry
resumed_coordinator π r xs = cond (has_record kind.End r xs) coordinator.None (announced π (decision r xs))
