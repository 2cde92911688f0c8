-- What a table means.
use Rattle.std.specs.Prelude.{ℕ, cond, List, [], take, drop, replicate, nat_le}
use Rattle.journal.specs.Limits.{most_stations, table_records}
use Rattle.journal.specs.Meaning.{Section, section_of, served}
use Rattle.journal.specs.declared.records.Record.{Record}

-- One list of records as a table's section: the first n are stable.
abbrev pub split_at : ℕ → List Record → Section
split_at n xs = section_of table_records (take n xs) (drop n xs)

-- A new table for n stations: empty sections, and none where n is more than any journal serves.
abbrev pub table_of : ℕ → List Section
table_of n = cond (nat_le n most_stations) (replicate n (section_of table_records [] [])) []

-- How many records a table has room for at station s: none where it does not serve it.
abbrev pub table_room : List Section → ℕ → ℕ
table_room m s = cond (served m s) table_records 0
