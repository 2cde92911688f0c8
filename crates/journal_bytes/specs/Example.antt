-- A journal of two stations over 33 bytes, worked out: sections of 16 bytes, room for 3 records each.
use Rattle.std.specs.Prelude.{◌≡◌, ℕ, ◌+◌, List, [], ◌∷◌, Some, None, slice_set}
use Rattle.journal_bytes.specs.Changes.{bytes_written, bytes_forced, bytes_cut}
use Rattle.journal_bytes.specs.Layout.{sections}
use Rattle.journal_bytes.specs.Opening.{served_in}
use Rattle.journal.specs.Meaning.{record_at}
use Rattle.journal.specs.declared.records.Kind.TheVariants.{Opening, Prepared}
use Rattle.journal.specs.declared.records.Record.{Record}

-- Station 0 has a stable I and a stable C, station 1 a stable p and an unforced c.
abbrev pub example : List ℕ
example =
    0 ∷ 2 ∷ 0 ∷ 0
    ∷ 0x49 ∷ 0 ∷ 0 ∷ 2
    ∷ 0x43 ∷ 0 ∷ 0 ∷ 2
    ∷ 0 ∷ 0 ∷ 0 ∷ 0
    ∷ 0 ∷ 1 ∷ 0 ∷ 1
    ∷ 0x70 ∷ 0 ∷ 0 ∷ 0
    ∷ 0x63 ∷ 0 ∷ 0 ∷ 0
    ∷ 0 ∷ 0 ∷ 0 ∷ 0
    ∷ 0 ∷ []

-- Bytes with others put over them, from the byte p on.
abbrev pub over : List ℕ → ℕ → List ℕ → List ℕ
over bs p [] = bs
over bs p (x ∷ xs) = over (slice_set bs p x) (p + 1) xs

-- An opening of revision 1 with the set {1}.
abbrev pub opening : Record
opening = record { kind = Opening; revision = 1; argument = 2 }

-- The prepared record that station 1 has.
abbrev pub prepared : Record
prepared = record { kind = Prepared; revision = 0; argument = 0 }

-- The bytes with that opening written at station 0.
abbrev pub example_written : List ℕ
example_written = over (over example 0 (0 ∷ 2 ∷ 0 ∷ 1 ∷ [])) 12 (0x49 ∷ 0 ∷ 1 ∷ 2 ∷ [])

-- Which bytes are taken, what each call makes of them, each taken by itself, and what is read.
pub record Example : Type 0 where
  pub taken : served_in example 2 ≡ 2
  pub not_a_record : served_in (slice_set example 24 0x64) 2 ≡ 0
  pub not_counted : served_in (slice_set example 28 0x64) 2 ≡ 2
  pub too_many : served_in (over example 16 (0 ∷ 2 ∷ 0 ∷ 2 ∷ [])) 2 ≡ 0
  pub forces : bytes_forced example 2 1 ≡ over example 16 (0 ∷ 2 ∷ 0 ∷ 0 ∷ [])
  pub keeps_none : bytes_cut 0 example 2 1 ≡ over example 16 (0 ∷ 1 ∷ 0 ∷ 0 ∷ [])
  pub keeps_all : bytes_cut 5 example 2 1 ≡ over example 16 (0 ∷ 2 ∷ 0 ∷ 0 ∷ [])
  pub writes : bytes_written opening example 2 0 ≡ example_written
  pub full : bytes_written opening example_written 2 0 ≡ example_written
  pub not_served : bytes_written opening example 2 2 ≡ example
  pub reads : record_at (sections example 2) 1 0 ≡ Some prepared
  pub reads_no_further : record_at (sections example 2) 1 1 ≡ None
