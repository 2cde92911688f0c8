-- What the code finds of a section before it reads or changes it.
use Rattle.std.specs.Prelude.{◌≡◌, ℕ, ◌+◌, ◌<◌, ◌≤◌, List, length, Ok, Err, Result}
use Rattle.journal_bytes.specs.Layout.{capacity_of, stable_count, unforced_count, size_of, start_of, sections}
use Rattle.journal_bytes.specs.declared.layout.Counts.{Counts}
use Rattle.journal.specs.Meaning.{section, no_section}
use Rattle.journal.specs.declared.refusals.Refusal.{Refusal}
use Rattle.journal.specs.declared.refusals.Refusal.TheVariants.{NotServed}

-- The counts of the section of `size` bytes at `start`.
pub record CountsOf (bs : List ℕ) (start size : ℕ) (c : Counts) : Type 0 where
  pub start_is : c.start ≡ start
  pub capacity_is : c.capacity ≡ capacity_of size
  pub stable_is : c.stable ≡ stable_count bs start size
  pub unforced_is : c.unforced ≡ unforced_count bs start size

-- The counts of the section of station s of n, which is served: the section lies within the bytes, and the counts are
-- those of the section that the journal means.
pub record FoundAt (bs : List ℕ) (n s : ℕ) (c : Counts) : Type 0 where
  pub served : s < n
  pub listed : s < length (sections bs n)
  pub within : start_of bs n s + size_of bs n ≤ length bs
  pub counts : CountsOf bs (start_of bs n s) (size_of bs n) c
  pub capacity_there : c.capacity ≡ (section (sections bs n) s).capacity
  pub stable_there : c.stable ≡ length (section (sections bs n) s).stable
  pub unforced_there : c.unforced ≡ length (section (sections bs n) s).unforced

-- They are found where the station is served.
abbrev pub Found : List ℕ → ℕ → ℕ → Result Counts Refusal → Type 0
Found bs n s (Ok c) = FoundAt bs n s c
Found bs n s (Err e) = (e ≡ NotServed) × (n ≤ s) × (length (sections bs n) ≤ s) × (no_section ≡ section (sections bs n) s)
