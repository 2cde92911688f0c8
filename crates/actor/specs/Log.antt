-- The as-run log: a row for each revision opened.
use Rattle.std.specs.Prelude.{ℕ, cond, List, length, set, Some, None, Option, nat_lt, slice_index_or, slice_set}
use Rattle.presumption.specs.declared.outcome.Outcome.{Outcome}
use Rattle.presumption.specs.declared.outcome.Outcome.TheVariants.{Commit, Abort}
use Rattle.actor.specs.declared.log.Row.{Row}
use Rattle.station.specs.Limits.{most_revisions}
use Rattle.station.specs.Sets.{of_bits, with_station}
use Rattle.station.specs.declared.sets.StationSet.{StationSet}

-- The number of the next revision, if there may be another.
abbrev pub new_number : List Row → Option ℕ
new_number rows = cond (nat_lt (length rows) most_revisions) (Some (length rows)) None

-- The row of a revision that was just opened: nowhere installed, nowhere dropped.
abbrev pub row : ℕ → StationSet → Row
row c set = record { coordinator = c; set = set; installed = of_bits 0; dropped = of_bits 0 }

-- A revision's row.
abbrev pub row_at : List Row → ℕ → Row
row_at rows r = slice_index_or rows r (row 0 (of_bits 0))

-- The outcome is marked at station s: installed or dropped there.
abbrev pub mark_row : Outcome → ℕ → Row → Row
mark_row Commit s x = record { coordinator = x.coordinator; set = x.set; installed = with_station x.installed s; dropped = x.dropped }
mark_row Abort s x = record { coordinator = x.coordinator; set = x.set; installed = x.installed; dropped = with_station x.dropped s }

-- The outcome of revision r is marked at station s.
abbrev pub marked : Outcome → ℕ → ℕ → List Row → List Row
marked o r s rows = slice_set rows r (mark_row o s (row_at rows r))
