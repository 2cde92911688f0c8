-- What a join of two journals means, and what a station of it is.
use Rattle.std.specs.Prelude.{◌≡◌, ℕ, List, ◌++◌, take}
use Rattle.journal.specs.Limits.{most_stations}
use Rattle.journal.specs.Meaning.{Section, section, no_section, served_answer, write_answer, written, forced, cut_to}
use Rattle.journal.specs.declared.records.Record.{Record}

-- The sections of the first journal, then those of the second, as far as a journal goes.
unfoldable pub together : List Section → List Section → List Section
together a b = take most_stations (a ++ b)

-- Station t of the journal m is station s of a whole, and `whole c` is that whole once m has become c: both have the
-- same section, a call answers the same there, and what it makes of m it makes of the whole.
pub record Stands (m : List Section) (t : ℕ) (whole : List Section → List Section) (s : ℕ) : Type 0 where
  pub same_section : section m t ≡ section (whole m) s
  pub same_write : write_answer m t ≡ write_answer (whole m) s
  pub same_served : served_answer m t ≡ served_answer (whole m) s
  pub after_write : (x : Record) → whole (written x m t) ≡ written x (whole m) s
  pub after_force : whole (forced m t) ≡ forced (whole m) s
  pub after_cut : (k : ℕ) → whole (cut_to k m t) ≡ cut_to k (whole m) s

-- Station s is not served by m: it has no section, each call is refused with 11 and changes nothing.
pub record Missing (m : List Section) (s : ℕ) : Type 0 where
  pub no_records : no_section ≡ section m s
  pub write_refused : 11 ≡ write_answer m s
  pub refused : 11 ≡ served_answer m s
  pub after_write : (x : Record) → m ≡ written x m s
  pub after_force : m ≡ forced m s
  pub after_cut : (k : ℕ) → m ≡ cut_to k m s
