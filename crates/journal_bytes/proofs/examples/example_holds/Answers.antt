use Rattle.std.proofs.Common.{refl}
use Rattle.journal_bytes.proofs.examples.example_holds.Goals as goal

pub returns : goal.returns
returns c = record {
  taken = refl;
  not_a_record = refl;
  not_counted = refl;
  too_many = refl;
  forces = refl;
  keeps_none = refl;
  keeps_all = refl;
  writes = refl;
  full = refl;
  not_served = refl;
  reads = refl;
  reads_no_further = refl;
}
