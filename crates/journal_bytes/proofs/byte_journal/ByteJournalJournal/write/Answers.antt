use Rattle.std.proofs.Common.{refl, arith}
use Rattle.journal_bytes.proofs.Keeping.{sound_from}
use Rattle.journal_bytes.proofs.Ways.{written_past, written_full, written_room, written_again, written_after, unchanged}
use Rattle.journal_bytes.proofs.byte_journal.ByteJournalJournal.write.Goals as goal

pub returns-in_err-counts-clause-bytes : goal.returns-in_err-counts-clause-bytes
returns-in_err-counts-clause-bytes c =
    let j = c.args.self.now in
    unchanged j _ (written_past j.bytes.now j.stations c.args.station c.in_err-counts.ensures.1 c.args.line)

pub returns-then-held-counts-clause-bytes : goal.returns-then-held-counts-clause-bytes
returns-then-held-counts-clause-bytes c =
    let j = c.args.self.now in
    unchanged j _ (written_full j.bytes.now j.stations c.args.station _ c.in_ok-counts.ensures c.args.line (omega arith))

pub invariant_of-self : goal.invariant_of-self
invariant_of-self c =
    let j = c.args.self.now in
    record { again = written_again j.bytes.now j.stations c.args.station _ c.in_ok-counts.ensures _ c.args.line (omega arith) c.add_record.ensures j.again }

pub returns-clause-after : goal.returns-clause-after
returns-clause-after c =
    let j = c.args.self.now in
    written_after j.bytes.now j.stations c.args.station _ c.in_ok-counts.ensures _ c.args.line (omega arith) c.add_record.ensures

pub returns-clause-bytes : goal.returns-clause-bytes
returns-clause-bytes c =
    let j = c.args.self.now in
    record {
      stations = refl;
      bytes = written_room j.bytes.now j.stations c.args.station _ c.in_ok-counts.ensures _ c.args.line (omega arith) c.add_record.ensures;
      sound = sound_from _ j.stations (written_again j.bytes.now j.stations c.args.station _ c.in_ok-counts.ensures _ c.args.line (omega arith) c.add_record.ensures j.again);
    }
