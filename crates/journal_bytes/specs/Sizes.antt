-- Sizes that callers count on, worked out.
use Rattle.std.specs.Prelude.{◌≡◌, ℕ, Bool, true, ◌&&◌, List, [], ◌∷◌, ◌==◌}
use Rattle.journal_bytes.specs.Layout.{section_size, capacity_of}

-- So many stations over so many bytes have sections of this size and this capacity.
pub record Row : Type 0 where
  pub stations : ℕ
  pub bytes : ℕ
  pub size : ℕ
  pub capacity : ℕ

-- One row, in that order.
abbrev pub row : ℕ → ℕ → ℕ → ℕ → Row
row n l z k = record { stations = n; bytes = l; size = z; capacity = k }

-- The rows: with 5,152 bytes eight stations have room for 160 records each, with one byte less for 159.
abbrev pub sizes : List Row
sizes =
    row 8 5152 644 160
    ∷ row 8 5151 643 159
    ∷ row 2 1288 644 160
    ∷ row 8 65536 8192 2047
    ∷ row 8 1000000 8192 2047
    ∷ row 1 65536 65536 16383
    ∷ row 2 33 16 3
    ∷ row 8 24 3 0
    ∷ []

-- Each row is what the layout gives.
abbrev pub right : List Row → Bool
right [] = true
right (x ∷ xs) = (section_size x.bytes x.stations == x.size && capacity_of x.size == x.capacity) && right xs

-- All rows are right.
abbrev pub Sizes : Type 0
Sizes = right sizes ≡ true
