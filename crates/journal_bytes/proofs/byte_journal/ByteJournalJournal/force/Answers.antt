use Rattle.std.proofs.Common.{refl, arith}
use Rattle.journal_bytes.proofs.Keeping.{sound_from}
use Rattle.journal_bytes.proofs.Ways.{kept_past, kept_again, forced_bytes, forced_after, unchanged}
use Rattle.journal_bytes.proofs.byte_journal.ByteJournalJournal.force.Goals as goal

pub returns-in_err-counts-clause-bytes : goal.returns-in_err-counts-clause-bytes
returns-in_err-counts-clause-bytes c =
    let j = c.args.self.now in
    unchanged j _ (kept_past j.bytes.now j.stations c.args.station c.in_err-counts.ensures.1 _)

pub invariant_of-self : goal.invariant_of-self
invariant_of-self c =
    let j = c.args.self.now in
    record { again = kept_again j.bytes.now j.stations c.args.station _ c.in_ok-counts.ensures _ _ c.keep.ensures (omega arith) j.again }

pub returns-clause-after : goal.returns-clause-after
returns-clause-after c =
    let j = c.args.self.now in
    forced_after j.bytes.now j.stations c.args.station _ c.in_ok-counts.ensures _ _ c.keep.ensures (omega arith)

pub returns-clause-bytes : goal.returns-clause-bytes
returns-clause-bytes c =
    let j = c.args.self.now in
    record {
      stations = refl;
      bytes = forced_bytes j.bytes.now j.stations c.args.station _ c.in_ok-counts.ensures _ _ c.keep.ensures (omega arith);
      sound = sound_from _ j.stations (kept_again j.bytes.now j.stations c.args.station _ c.in_ok-counts.ensures _ _ c.keep.ensures (omega arith) j.again);
    }
