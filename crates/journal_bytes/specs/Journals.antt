-- What a byte journal means.
use Rattle.std.specs.Prelude.{◌≡◌, ℕ, List, [], ◌∷◌}
use Rattle.journal_bytes.specs.Laws.{Sound}
use Rattle.journal_bytes.specs.Layout.{sections}
use Rattle.journal_bytes.specs.declared.byte_journal.ByteJournal.{ByteJournal}
use Rattle.journal.specs.Meaning.{Section}

-- The bytes that it borrows, as they are.
abbrev pub journal_bytes : ByteJournal → List ℕ
journal_bytes j = j.bytes.now

-- How many stations it serves.
abbrev pub journal_stations : ByteJournal → ℕ
journal_stations j = j.stations

-- Its sections: what its bytes say.
abbrev pub journal_sections : ByteJournal → List Section
journal_sections j = sections (journal_bytes j) (journal_stations j)

-- It writes to the bytes that it borrows.
abbrev pub journal_lenders : ByteJournal → List ℕ
journal_lenders j = j.bytes.ghost_name ∷ []

-- Its bytes are a sound journal's.
abbrev pub JournalSound : ByteJournal → Type 0
JournalSound j = Sound (journal_bytes j) (journal_stations j)

-- What a call makes of the journal j: k, which serves as many stations, with the bytes bs, which are a sound journal's.
pub record Rewritten (j k : ByteJournal) (bs : List ℕ) : Type 0 where
  pub stations : journal_stations k ≡ journal_stations j
  pub bytes : journal_bytes k ≡ bs
  pub sound : JournalSound k
