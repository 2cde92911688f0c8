-- What a run shows of itself, and what a call does to that.
use Rattle.std.specs.Prelude.{◌≡◌, List}
use Rattle.journal.specs.Meaning.{Section}
use Rattle.actor.specs.Actors.{store_of}
use Rattle.run.specs.Answers.{Answer}
use Rattle.run.specs.Calls.{Reply, reply}
use Rattle.run.specs.State.{State}
use Rattle.run.specs.declared.run.Run.{Run}

-- The presumption that a run works under, and its state.
pub record Shown (P : Type 0) : Type 0 where
  pub presumption : P
  pub state : State

-- The state of a run over a journal with that meaning.
abbrev pub seen : {J P : Type 0} → (J → List Section) → Run J P → State
seen meaning x = record { fit = x.fit; store = store_of meaning x.actor; stations = x.stations }

-- What a run over such a journal shows of itself.
abbrev pub shown : {J P : Type 0} → (J → List Section) → Run J P → Shown P
shown meaning x = record { presumption = x.presumption; state = seen meaning x }

-- A call of a run answers so and leaves it so; the presumption stays.
pub record LeadsTo {P : Type 0} (call : State → Reply) (old : Shown P) (answer : Answer) (new : Shown P) : Type 0 where
  pub reply : reply answer new.state ≡ call old.state
  pub presumes : new.presumption ≡ old.presumption
