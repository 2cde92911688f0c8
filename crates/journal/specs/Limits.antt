-- The sizes that journals keep to.
use Rattle.std.specs.Prelude.{ℕ}

-- A journal serves at most so many stations.
abbrev pub most_stations : ℕ
most_stations = 8

-- A table has room for so many records at each station.
abbrev pub table_records : ℕ
table_records = 160

-- The bytes of one record.
abbrev pub record_bytes : ℕ
record_bytes = 4
