-- A record in bytes: its kind's letter, its revision with the high byte first, its argument.
use Rattle.std.specs.Prelude.{◌≡◌, ℕ, ◌+◌, ◌*◌, ◌/◌, ◌%◌, cond, List, [], ◌∷◌, ◌++◌, length, drop, Some, None, Ok, Err, Option, Result, ◌≢◌, nat_lt, slice_index}
use Rattle.std.specs.Borrow.{Bor}
use Rattle.journal.specs.Limits.{record_bytes}
use Rattle.journal.specs.Meaning.{number}
use Rattle.journal.specs.Records.{letter_of, kind_of}
use Rattle.journal.specs.declared.records.Kind.{Kind}
use Rattle.journal.specs.declared.records.Record.{Record}
use Rattle.journal.specs.declared.refusals.Refusal.{Refusal}

-- The bytes of a record.
abbrev pub encoded : Record → List ℕ
encoded r = letter_of r.kind ∷ (r.revision / 256) ∷ (r.revision % 256) ∷ r.argument ∷ []

-- The record of a kind, the two bytes of a revision and an argument, if there is a kind.
abbrev pub record_of : Option Kind → ℕ → ℕ → ℕ → Option Record
record_of None high low argument = None
record_of (Some k) high low argument = Some (record { kind = k; revision = high * 256 + low; argument = argument })

-- The record whose bytes begin at the place p, if the byte there is a kind's letter.
abbrev pub record_from : List ℕ → ℕ → Option Record
record_from bs p = record_of (kind_of (slice_index bs p)) (slice_index bs (p + 1)) (slice_index bs (p + 2)) (slice_index bs (p + 3))

-- The record at the front of the bytes; none where they are too few.
abbrev pub decoded : List ℕ → Option Record
decoded bs = cond (nat_lt (length bs) record_bytes) None (record_from bs 0)

-- What decoding answers: the record at the front and the bytes behind it, or refusal 13.
abbrev pub Decodes : List ℕ → Result (Record × Bor (List ℕ)) Refusal → Type 0
Decodes bs (Ok x) = (decoded bs ≡ Some x.0) × (x.1.now ≡ drop record_bytes bs)
Decodes bs (Err e) = (decoded bs ≡ None) × (number e ≡ 13)

-- The bytes are those of the record and then the rest; where decoding is refused, no record and rest make them.
abbrev pub Splits : List ℕ → Result (Record × Bor (List ℕ)) Refusal → Type 0
Splits bs (Ok x) = bs ≡ encoded x.0 ++ x.1.now
Splits bs (Err e) = (r : Record) (rest : List ℕ) → bs ≢ encoded r ++ rest
