-- Which bytes a journal is made of as they are found.
use Rattle.std.specs.Prelude.{ℕ, zero, suc, ◌+◌, ◌*◌, Bool, true, cond, ◌&&◌, List, drop, is_some, nat_le, nat_lt}
use Rattle.journal_bytes.specs.Layout.{counts_bytes, capacity_of, count_from, size_of, sections}
use Rattle.journal.specs.Bytes.{decoded}
use Rattle.journal.specs.Limits.{most_stations, record_bytes}
use Rattle.journal.specs.Meaning.{Section}
use Rattle.std.specs.List.{list_all, range_with_len}

-- The bytes begin with k records.
abbrev pub all_decode : List ℕ → ℕ → Bool
all_decode bs zero = true
all_decode bs (suc k) = is_some (decoded bs) && all_decode (drop record_bytes bs) k

-- How many records the section at `start` counts, stable and unforced ones.
abbrev pub counted : List ℕ → ℕ → ℕ
counted bs start = count_from bs start + count_from bs (start + 2)

-- A section is accepted if it counts no more records than it has room for, and each of them is one; always, if it is
-- too short for counts.
abbrev pub accepted : List ℕ → ℕ → ℕ → Bool
accepted bs start size =
    cond (nat_lt size counts_bytes) true
    (nat_le (counted bs start) (capacity_of size) && all_decode (drop (start + counts_bytes) bs) (counted bs start))

-- The k sections from section s on are accepted.
abbrev pub all_accepted : List ℕ → ℕ → ℕ → ℕ → Bool
all_accepted bs size s k = list_all (λ t. accepted bs (t * size) size) (range_with_len s k)

-- How many stations a journal serves that is made of these bytes for n: all of them or none.
abbrev pub served_in : List ℕ → ℕ → ℕ
served_in bs n = cond (nat_le n most_stations && all_accepted bs (size_of bs n) 0 n) n 0

-- What that journal means.
abbrev pub opened : List ℕ → ℕ → List Section
opened bs n = sections bs (served_in bs n)
