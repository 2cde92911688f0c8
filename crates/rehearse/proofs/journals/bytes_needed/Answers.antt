use Rattle.std.proofs.Common.{◌≡◌, false, ◌&&◌, leb, refl}
use Rattle.journal.specs.Limits.{most_stations}
use Rattle.journal_bytes.specs.Layout.{size_of, sections}
use Rattle.journal_bytes.specs.Opening.{all_accepted}
use Rattle.run.specs.State.{all_ready, fits}
use Rattle.std.proofs.Math.Bool.{and-false}
use Rattle.std.proofs.lemmas.Bool.{cond_both}
use Rattle.rehearse.proofs.journals.bytes_needed.Goals as goal

-- The bytes serve all eight stations, with too little room for the first, or none.
pub returns : goal.returns
unfolding all_ready
returns c =
    record {
      enough = refl;
      short = λ bs h.
          cond_both (leb 8 most_stations && all_accepted bs (size_of bs 8) 0 8) 8 0 (λ n. fits (sections bs n) ≡ false)
          (λ _. simp (h, and-false))
          (λ _. refl);
    }
