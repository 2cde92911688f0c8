-- What a journal means, and what each call does to that.
use Rattle.std.specs.Prelude.{ℕ, ◌+◌, Bool, cond, List, [], ◌∷◌, ◌++◌, length, take, Ok, Err, Option, Result, ◌==◌, nat_lt, slice_index_or, slice_set}
use Rattle.journal.specs.declared.records.Record.{Record}
use Rattle.journal.specs.declared.refusals.Refusal.{Refusal}
use Rattle.journal.specs.declared.refusals.Refusal.TheVariants.{NotServed, Full, NotARecord}
use Rattle.std.specs.List.{slice_get}

-- The number of each refusal.
abbrev pub number : Refusal → ℕ
number NotServed = 11
number Full = 12
number NotARecord = 13

-- What a call that changes a journal answers: 0, or the number of its refusal.
abbrev pub answer_of : Result (Unit {0}) Refusal → ℕ
answer_of (Ok x) = 0
answer_of (Err e) = number e

-- One station's part of a journal: room for so many records, the stable ones, those not forced yet.
pub record Section : Type 0 where
  pub capacity : ℕ
  pub stable : List Record
  pub unforced : List Record

-- A section by its parts.
abbrev pub section_of : ℕ → List Record → List Record → Section
section_of n xs ys = record { capacity = n; stable = xs; unforced = ys }

-- The section of a station that is not served.
abbrev pub no_section : Section
no_section = section_of 0 [] []

-- A station's section in a journal, which is a list of sections.
abbrev pub section : List Section → ℕ → Section
section m s = slice_index_or m s no_section

-- Station s is served.
abbrev pub served : List Section → ℕ → Bool
served m s = nat_lt s (length m)

-- How many records both lists hold together.
abbrev pub held : Section → ℕ
held p = length p.stable + length p.unforced

-- There is room for one more record.
abbrev pub roomy : Section → Bool
roomy p = nat_lt (held p) p.capacity

-- A change of one station's section; at a station not served it changes nothing.
abbrev pub changed : (Section → Section) → List Section → ℕ → List Section
changed f m s = slice_set m s (f (section m s))

-- Force, cut: 11 where the station is not served.
abbrev pub served_answer : List Section → ℕ → ℕ
served_answer m s = cond (served m s) 0 11

-- What a write answers at a station that is served: 12 where its section is full.
abbrev pub room_answer : Section → ℕ
room_answer p = cond (roomy p) 0 12

-- Write: 11 where the station is not served, then 12 where its section is full.
abbrev pub write_answer : List Section → ℕ → ℕ
write_answer m s = cond (served m s) (room_answer (section m s)) 11

-- A record put at the end of the unforced list.
abbrev pub put : Record → Section → Section
put x p = section_of p.capacity p.stable (p.unforced ++ x ∷ [])

-- What a write makes of the section of a station that is served.
abbrev pub put_in : Record → Section → Section
put_in x p = cond (roomy p) (put x p) p

-- Write, which changes nothing where it is refused.
abbrev pub written : Record → List Section → ℕ → List Section
written x m s = cond (write_answer m s == 0) (changed (put x) m s) m

-- All unforced records become stable, in order.
abbrev pub force_all : Section → Section
force_all p = section_of p.capacity (p.stable ++ p.unforced) []

-- Force.
abbrev pub forced : List Section → ℕ → List Section
forced m s = changed force_all m s

-- The first k unforced records become stable, the rest are lost.
abbrev pub keep_first : ℕ → Section → Section
keep_first k p = section_of p.capacity (p.stable ++ take k p.unforced) []

-- Cut, with k records kept.
abbrev pub cut_to : ℕ → List Section → ℕ → List Section
cut_to k m s = changed (keep_first k) m s

-- Read: the stable record at a place, or none past the end.
abbrev pub record_at : List Section → ℕ → ℕ → Option Record
record_at m s i = slice_get (section m s).stable i
