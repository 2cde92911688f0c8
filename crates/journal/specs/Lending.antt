-- What a table ends as once one station's records, which it lent, are given back.
use Rattle.std.specs.Prelude.{ℕ, List, Option, slice_set}
use Rattle.std.specs.Borrow.{LendsIf, MutBor, Fml}
use Rattle.journal.specs.Meaning.{Section}
use Rattle.journal.specs.contracts.table.Table.{the_row as table_row}
use Rattle.journal.specs.contracts.table.StationRecords.{the_row as section_row}

-- The section of station s is the last one left there, and a table that lends none stays as it is.
abbrev pub LendsSection : MutBor (List Section) → ℕ → Option (MutBor Section) → Fml
LendsSection t s r = LendsIf table_row section_row t r (slice_set t.now s) t.now
