-- Where the sections of a journal lie in bytes, and what the bytes say.
use Rattle.std.specs.Prelude.{ℕ, ◌+◌, ◌-◌, ◌*◌, ◌/◌, min, List, map, length, slice_index}
use Rattle.journal.specs.Bytes.{record_from}
use Rattle.journal.specs.Limits.{record_bytes}
use Rattle.journal.specs.Meaning.{Section, section_of}
use Rattle.journal.specs.declared.records.Kind.TheVariants.{Opening}
use Rattle.journal.specs.declared.records.Record.{Record}
use Rattle.std.specs.List.{range_with_len}
use Rattle.std.specs.Option.{unwrap_or}

-- Only so many bytes count.
abbrev pub most_bytes : ℕ
most_bytes = 65536

-- Both counts of a section together take so many bytes.
abbrev pub counts_bytes : ℕ
counts_bytes = 4

-- How many bytes each of n sections has, where there are so many in all.
abbrev pub section_size : ℕ → ℕ → ℕ
section_size len n = min len most_bytes / n

-- How many records fit into a section behind its counts.
abbrev pub capacity_of : ℕ → ℕ
capacity_of size = (size - counts_bytes) / record_bytes

-- The number in two bytes, the high one first.
abbrev pub count_from : List ℕ → ℕ → ℕ
count_from bs p = slice_index bs p * 256 + slice_index bs (p + 1)

-- The stable count of the section of `size` bytes at `start`, as far as there is room for so many records.
abbrev pub stable_count : List ℕ → ℕ → ℕ → ℕ
stable_count bs start size = min (count_from bs start) (capacity_of size)

-- Its unforced count, as far as there is room behind the stable records.
abbrev pub unforced_count : List ℕ → ℕ → ℕ → ℕ
unforced_count bs start size = min (count_from bs (start + 2)) (capacity_of size - stable_count bs start size)

-- Where the record i of the section at `start` begins.
abbrev pub record_start : ℕ → ℕ → ℕ
record_start start i = start + counts_bytes + record_bytes * i

-- What bytes that are no record are read as. No journal has such bytes among its records (Laws.antt).
abbrev pub fallback : Record
fallback = record { kind = Opening; revision = 0; argument = 0 }

-- The record i of the section at `start`.
abbrev pub record_in : List ℕ → ℕ → ℕ → Record
record_in bs start i = unwrap_or (record_from bs (record_start start i)) fallback

-- So many of its records from the record i on.
abbrev pub records_in : List ℕ → ℕ → ℕ → ℕ → List Record
records_in bs start i k = map (record_in bs start) (range_with_len i k)

-- The section of `size` bytes at `start`: the stable records, then the unforced ones.
abbrev pub section_in : List ℕ → ℕ → ℕ → Section
section_in bs start size =
    section_of (capacity_of size)
    (records_in bs start 0 (stable_count bs start size))
    (records_in bs start (stable_count bs start size) (unforced_count bs start size))

-- The size of each section of n stations.
abbrev pub size_of : List ℕ → ℕ → ℕ
size_of bs n = section_size (length bs) n

-- Where the section of station s starts.
abbrev pub start_of : List ℕ → ℕ → ℕ → ℕ
start_of bs n s = s * size_of bs n

-- How many stable records it has.
abbrev pub stable_of : List ℕ → ℕ → ℕ → ℕ
stable_of bs n s = stable_count bs (start_of bs n s) (size_of bs n)

-- How many unforced ones.
abbrev pub unforced_of : List ℕ → ℕ → ℕ → ℕ
unforced_of bs n s = unforced_count bs (start_of bs n s) (size_of bs n)

-- How many records each section has room for.
abbrev pub room_of : List ℕ → ℕ → ℕ
room_of bs n = capacity_of (size_of bs n)

-- The sections of n stations, in the order of their numbers.
abbrev pub sections : List ℕ → ℕ → List Section
sections bs n = map (λ s. section_in bs (start_of bs n s) (size_of bs n)) (range_with_len 0 n)
