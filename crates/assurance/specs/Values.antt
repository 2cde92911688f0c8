-- What a call of a run answers, as a value.
use Rattle.std.specs.Prelude.{◌≡◌, ℕ, Ok, Err, Result}
use Rattle.run.specs.Answers.{Answer, refused, answered, number}
use Rattle.run.specs.Calls.{coordinator_entry}
use Rattle.run.specs.State.{State}
use Rattle.run.specs.declared.refusals.Refusal.{Refusal}
use Rattle.run.specs.declared.run.settling.Awaited.{Awaited}
use Rattle.station.specs.Coordinator.{unheard}
use Rattle.station.specs.Sets.{NamesOne}
use Rattle.assurance.specs.declared.calls.Call.{Call}
use Rattle.assurance.specs.declared.calls.Call.TheVariants as call
use Rattle.assurance.specs.declared.calls.Value.{Value}
use Rattle.assurance.specs.declared.calls.Value.TheVariants as value

-- The number of a value.
abbrev pub number_of : Value → ℕ
number_of (value.Revision n) = n
number_of (value.Acts n) = n
number_of value.Nothing = 0
number_of (value.Deliveries n) = n
number_of (value.Awaited a) = a.count

-- What a call answers, by its number.
abbrev pub reported : Result Value Refusal → Answer
reported (Ok v) = answered (number_of v)
reported (Err e) = refused (number e)

-- A count of acts.
abbrev pub CountsActs : Value → Type 0
CountsActs v = (n : ℕ) × (v ≡ value.Acts n)

-- The value is of the call's kind. One that names a station awaited names one that was not heard from.
abbrev pub Suits : Call → State → Value → Type 0
Suits (call.Open c set) st v = (n : ℕ) × (v ≡ value.Revision n)
Suits (call.Close r f) st v = CountsActs v
Suits (call.GiveUp r f) st v = CountsActs v
Suits (call.Chase r f) st v = CountsActs v
Suits (call.Reject r s f) st v = CountsActs v
Suits (call.Inquire r s f) st v = CountsActs v
Suits (call.Deliver i copy f) st v = CountsActs v
Suits (call.Lose i) st v = v ≡ value.Nothing
Suits (call.Cut s k) st v = v ≡ value.Nothing
Suits (call.Restart s) st v = v ≡ value.Nothing
Suits call.Settle st v = (n : ℕ) × (v ≡ value.Deliveries n)
Suits (call.Awaited r) st v = (a : Awaited) × (v ≡ value.Awaited a) × NamesOne a.station (unheard (coordinator_entry r st))
