use Rattle.std.proofs.Common.{rules}
use Rattle.journal_bytes.proofs.Sections.{length_sections}
use Rattle.journal_bytes.proofs.byte_journal.ByteJournalJournal.stations.Goals as goal

pub returns-clause-value : goal.returns-clause-value
returns-clause-value c = search (rules, length_sections)
