-- The five answers of a presumption, and the laws that they keep.
use Rattle.std.specs.Prelude.{◌≡◌, Bool, true, false}
use Rattle.presumption.specs.declared.outcome.Outcome.{Outcome}
use Rattle.presumption.specs.declared.outcome.Outcome.TheVariants.{Commit, Abort}
use Rattle.presumption.specs.declared.outcome.Logging.{Logging}
use Rattle.presumption.specs.declared.outcome.Logging.TheVariants.{NotAtAll, Unforced}

-- What a presumption answers: the outcome presumed, whether an opening record is forced, which outcomes
-- subordinates acknowledge, which of their outcome records they force, how the coordinator logs an abort.
pub record Answers : Type 0 where
  pub presumed : Outcome
  pub opens : Bool
  pub acknowledges : Outcome → Bool
  pub forces : Outcome → Bool
  pub abort_logging : Logging

-- The three laws. An outcome that is not presumed is acknowledged; where commit is presumed an opening record
-- is forced; the record of an acknowledged outcome is forced.
pub record Lawful (a : Answers) : Type 0 where
  pub unpresumed : (o : Outcome) → (o ≡ a.presumed → ⊥) → a.acknowledges o ≡ true
  pub opening : a.presumed ≡ Commit → a.opens ≡ true
  pub forcing : (o : Outcome) → a.acknowledges o ≡ true → a.forces o ≡ true

-- Of the outcomes, commit alone.
abbrev pub commit_only : Outcome → Bool
commit_only Commit = true
commit_only Abort = false

-- Of the outcomes, abort alone.
abbrev pub abort_only : Outcome → Bool
abort_only Commit = false
abort_only Abort = true

-- Presumed abort: commits are acknowledged and forced, an abort is logged without force.
abbrev pub abort_presumed : Answers
abort_presumed = record { presumed = Abort; opens = false; acknowledges = commit_only; forces = commit_only; abort_logging = Unforced }

-- Presumed commit: the vote is opened by a forced record, aborts are acknowledged and forced and not logged.
abbrev pub commit_presumed : Answers
commit_presumed = record { presumed = Commit; opens = true; acknowledges = abort_only; forces = abort_only; abort_logging = NotAtAll }
