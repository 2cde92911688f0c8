use Rattle.std.proofs.Common.{sym, ◌∙◌}
use Rattle.journal_bytes.proofs.Ways.{found_ok, is_record, read_some}
use Rattle.journal_bytes.proofs.byte_journal.ByteJournalJournal.read.Goals as goal

pub record_from-requires-clause-record : goal.record_from-requires-clause-record
record_from-requires-clause-record c =
    let j = c.args.self.now in
    let f = found_ok j.bytes.now j.stations c.args.station _ c.in_ok-counts.counts c.counts.ensures (sym c.ok.ensures.value ∙ c.in_ok-counts.was) in
    rw c.record_start.ensures (is_record j.bytes.now j.stations c.args.station _ f c.args.place c.if-place-counts.false j.again)

pub returns : goal.returns
returns c =
    let j = c.args.self.now in
    let f = found_ok j.bytes.now j.stations c.args.station _ c.in_ok-counts.counts c.counts.ensures (sym c.ok.ensures.value ∙ c.in_ok-counts.was) in
    read_some j.bytes.now j.stations c.args.station _ f c.args.place c.if-place-counts.false _ (rw c.record_start.ensures at c.record_from.ensures)
