-- How many bytes eight stations need.
use Rattle.std.specs.Prelude.{◌≡◌, ℕ, ◌-◌, false, List, length}
use Rattle.journal_bytes.specs.Layout.{section_size, capacity_of}
use Rattle.journal_bytes.specs.Opening.{opened}
use Rattle.run.specs.State.{least_capacity, fits}

-- So many bytes give each of eight stations the least capacity; over one byte less, whatever they hold, no run is fit.
pub record Enough (n : ℕ) : Type 0 where
  pub enough : capacity_of (section_size n 8) ≡ least_capacity
  pub short : (bs : List ℕ) → length bs ≡ n - 1 → fits (opened bs 8) ≡ false
