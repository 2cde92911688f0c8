-- Which bytes each call changes.
use Rattle.std.specs.Prelude.{ℕ, ◌+◌, ◌/◌, ◌%◌, min, cond, List, nat_lt, slice_set}
use Rattle.journal_bytes.specs.Layout.{record_start, start_of, stable_of, unforced_of, room_of}
use Rattle.journal.specs.Records.{letter_of}
use Rattle.journal.specs.declared.records.Record.{Record}

-- A number put into two bytes, the high one first.
abbrev pub put_count : List ℕ → ℕ → ℕ → List ℕ
put_count bs p v = slice_set (slice_set bs p (v / 256)) (p + 1) (v % 256)

-- A record put into four bytes.
abbrev pub put_record : List ℕ → ℕ → Record → List ℕ
put_record bs p x = slice_set (slice_set (slice_set (slice_set bs p (letter_of x.kind)) (p + 1) (x.revision / 256)) (p + 2) (x.revision % 256)) (p + 3) x.argument

-- A record put behind those of a section that counts n stable and k unforced ones, and counted.
abbrev pub record_added : List ℕ → ℕ → ℕ → ℕ → Record → List ℕ
record_added bs start n k x = put_count (put_record bs (record_start start (n + k)) x) (start + 2) (k + 1)

-- The counts of a section whose first n records are stable, and which holds no others.
abbrev pub first_kept : List ℕ → ℕ → ℕ → List ℕ
first_kept bs start n = put_count (put_count bs start n) (start + 2) 0

-- Write at station s of n: where it is served and has room, the bytes of the record and the unforced count.
abbrev pub bytes_written : Record → List ℕ → ℕ → ℕ → List ℕ
bytes_written x bs n s =
    cond (nat_lt s n)
    (cond (nat_lt (stable_of bs n s + unforced_of bs n s) (room_of bs n)) (record_added bs (start_of bs n s) (stable_of bs n s) (unforced_of bs n s) x) bs)
    bs

-- The first k records kept as stable at station s of n, and no others: where it is served and has room at all, the two
-- counts.
abbrev pub bytes_kept : ℕ → List ℕ → ℕ → ℕ → List ℕ
bytes_kept k bs n s = cond (nat_lt s n) (cond (nat_lt 0 (room_of bs n)) (first_kept bs (start_of bs n s) k) bs) bs

-- Force: all records are stable.
abbrev pub bytes_forced : List ℕ → ℕ → ℕ → List ℕ
bytes_forced bs n s = bytes_kept (stable_of bs n s + unforced_of bs n s) bs n s

-- Cut: the first k of the unforced ones are, or all if there are fewer.
abbrev pub bytes_cut : ℕ → List ℕ → ℕ → ℕ → List ℕ
bytes_cut k bs n s = bytes_kept (stable_of bs n s + min k (unforced_of bs n s)) bs n s
