use Rattle.std.proofs.Common.{◌≡◌, ℕ, suc, ◌+◌, ◌≤◌, List, length, sym, refl, ◌∙◌, arith}
use Rattle.journal_bytes.proofs.layout.put_record.Goals as goal
use Rattle.journal_bytes.specs.Changes.{put_record}
use Rattle.journal.specs.Bytes.{encoded}
use Rattle.journal.specs.Limits.{record_bytes}
use Rattle.journal.specs.declared.records.Record.{Record}
use Rattle.std.proofs.lemmas.List.Edits.{sets-eq}
use Rattle.std.proofs.lemmas.Slice.{put_mid-paste}
use lib.Seq.{paste}

-- Four bytes put one by one are pasted over those that were there.
pasted : (bs : List ℕ) (p : ℕ) (x : Record) → p + record_bytes ≤ length bs → put_record bs p x ≡ paste bs p (encoded x) record_bytes
pasted bs p x h =
    let one : p + 1 ≡ suc p = omega arith in
    let two : p + 2 ≡ suc (suc p) = omega arith in
    let three : p + 3 ≡ suc (suc (suc p)) = omega arith in
    rw (one, two, three) (sets-eq (encoded x) bs p h)

pub returns : goal.returns
returns c =
    put_mid-paste c.args.at _ c.args.bytes.now _ (encoded c.args.line) record_bytes (c.copy_from_slice.ensures.after ∙ c.encode.ensures.bytes) (omega arith) refl
    ∙ sym (pasted c.args.bytes.now c.args.at c.args.line c.requires)
