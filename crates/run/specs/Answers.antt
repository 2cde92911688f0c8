-- What a call of a run answers.
use Rattle.std.specs.Prelude.{ℕ, Ok, Err, Result}
use Rattle.run.specs.declared.refusals.Refusal.{Refusal}
use Rattle.run.specs.declared.run.settling.Awaited.{Awaited}
use Rattle.run.specs.declared.refusals.Refusal.TheVariants.{Unfit, NoSuchStation, NotOpened, NoPower, TooManyRevisions, EntryForbids, NoMessage, NotDark}

-- The number of each refusal.
abbrev pub number : Refusal → ℕ
number Unfit = 1
number NoSuchStation = 2
number NotOpened = 3
number NoPower = 4
number TooManyRevisions = 5
number EntryForbids = 6
number NoMessage = 7
number NotDark = 8

-- A call is refused by a number, or answers a number.
pub data Answer : Type 0 where
  refused : ℕ → Answer
  answered : ℕ → Answer

-- What a call answers that counts its acts, or gives a revision's number.
abbrev pub answer_of : Result ℕ Refusal → Answer
answer_of (Ok n) = answered n
answer_of (Err e) = refused (number e)

-- What a call answers that has nothing to count: 0.
abbrev pub plain_answer : Result (Unit {0}) Refusal → Answer
plain_answer (Ok x) = answered 0
plain_answer (Err e) = refused (number e)

-- What awaited answers: how many stations there are.
abbrev pub awaited_answer : Result Awaited Refusal → Answer
awaited_answer (Ok a) = answered a.count
awaited_answer (Err e) = refused (number e)
