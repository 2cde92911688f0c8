-- The answers of a third presumption.
use Rattle.std.specs.Prelude.{Bool, true}
use Rattle.presumption.specs.Answers.{Answers}
use Rattle.presumption.specs.declared.outcome.Outcome.{Outcome}
use Rattle.presumption.specs.declared.outcome.Outcome.TheVariants.{Commit, Abort}
use Rattle.presumption.specs.declared.outcome.Logging.TheVariants.{Forced}

-- Of the outcomes, both.
abbrev pub either : Outcome → Bool
either Commit = true
either Abort = true

-- Abort is presumed, yet the vote is opened by a forced record, both outcomes are acknowledged and forced, and an abort
-- is logged with force.
abbrev pub wary : Answers
wary = record { presumed = Abort; opens = true; acknowledges = either; forces = either; abort_logging = Forced }
