-- What a list of calls leads to.
use Rattle.std.specs.Prelude.{◌≡◌, List, [], ◌∷◌, map, IfOk, Result}
use Rattle.journal.specs.Meaning.{Section}
use Rattle.presumption.specs.Answers.{Answers}
use Rattle.run.specs.Runs.{Shown}
use Rattle.run.specs.State.{State, fresh}
use Rattle.run.specs.declared.refusals.Refusal.{Refusal}
use Rattle.assurance.specs.Lists.{called, after_calls, answers_of}
use Rattle.assurance.specs.Values.{reported, Suits}
use Rattle.assurance.specs.declared.calls.Call.{Call}
use Rattle.assurance.specs.declared.calls.Value.{Value}

-- Each value suits the call that answered it.
abbrev pub AllSuit : Answers → List Call → State → List (Result Value Refusal) → Type 0
AllSuit π [] st [] = Unit {0}
AllSuit π [] st (x ∷ xs) = ⊥
AllSuit π (c ∷ cs) st [] = ⊥
AllSuit π (c ∷ cs) st (x ∷ xs) = IfOk x (Suits c st) × AllSuit π cs (called π c st).state xs

-- A run that was just made, over a journal with that meaning.
abbrev pub new_run : {P : Type 0} → P → List Section → Shown P
new_run p m = record { presumption = p; state = fresh m }

-- The calls were made one after the other on a run, left another and answered so; its presumption stayed.
pub record AllPerformed {P : Type 0} (asked : P → Answers) (cs : List Call) (run left : Shown P) (xs : List (Result Value Refusal)) : Type 0 where
  pub presumption : left.presumption ≡ run.presumption
  pub state : left.state ≡ after_calls (asked run.presumption) cs run.state
  pub answers : map reported xs ≡ answers_of (asked run.presumption) cs run.state
  pub suits : AllSuit (asked run.presumption) cs run.state xs
