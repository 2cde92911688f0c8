use Rattle.std.proofs.Common.{refl, arith, rules}
use Rattle.journal_bytes.proofs.Keeping.{room_there}
use Rattle.journal_bytes.proofs.Sections.{length_sections, section_gone}
use Rattle.journal_bytes.proofs.Ways.{found}
use Rattle.journal_bytes.proofs.byte_journal.ByteJournal.counts.Goals as goal

pub returns-then-station-self : goal.returns-then-station-self
returns-then-station-self c =
    let bs = c.args.self.now.bytes.now in
    let n = c.args.self.now.stations in
    (refl, c.if-station-self.true, omega (arith, length_sections bs n), section_gone bs n c.args.station c.if-station-self.true)

pub of-requires-clause-room : goal.of-requires-clause-room
of-requires-clause-room c wide =
    let j = c.args.self.now in
    room_there j.bytes.now j.stations c.args.station _ _ j.again c.if-station-self.false c.section_size-size.ensures c.section_start-start.ensures wide

pub returns : goal.returns
returns c = search (rules, found)
