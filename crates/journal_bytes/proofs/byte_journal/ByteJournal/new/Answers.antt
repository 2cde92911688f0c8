use Rattle.std.proofs.Common.{rules}
use Rattle.journal_bytes.proofs.Keeping.{sound_from, served_again}
use Rattle.journal_bytes.proofs.byte_journal.ByteJournal.new.Goals as goal

pub returns-clause-sound : goal.returns-clause-sound
returns-clause-sound c = search (rules, sound_from, served_again)
