-- What holds of the bytes of every journal, from its making on and after every call.
use Rattle.std.specs.Prelude.{◌≡◌, ℕ, ◌+◌, ◌<◌, ◌≤◌, List, ◌++◌, length}
use Rattle.journal_bytes.specs.Layout.{counts_bytes, count_from, record_start, start_of, size_of, sections}
use Rattle.journal_bytes.specs.Opening.{served_in, opened}
use Rattle.journal.specs.Bytes.{record_from}
use Rattle.journal.specs.Meaning.{Section, section, held}
use Rattle.std.specs.List.{slice_get}

-- A section's lists are as long as the two counts say, and the record i of both together is the one that the bytes at
-- its place decode to: no record is missing, and none is made up.
pub record Exact (bs : List ℕ) (start : ℕ) (p : Section) : Type 0 where
  pub stable_exact : length p.stable ≡ count_from bs start
  pub unforced_exact : length p.unforced ≡ count_from bs (start + 2)
  pub records_exact : (i : ℕ) → i < held p → slice_get (p.stable ++ p.unforced) i ≡ record_from bs (record_start start i)

-- The bytes of a journal that serves n stations: a journal made of them again for n stations serves all n and has the
-- same sections, and each section that is long enough for counts is exact.
pub record Sound (bs : List ℕ) (n : ℕ) : Type 0 where
  pub again : served_in bs n ≡ n
  pub same : opened bs n ≡ sections bs n
  pub exact : (s : ℕ) → s < n → counts_bytes ≤ size_of bs n → Exact bs (start_of bs n s) (section (sections bs n) s)
