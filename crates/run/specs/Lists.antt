-- The calls of a run as data, and lists of them.
use Rattle.std.specs.Prelude.{ℕ, Bool, List, [], ◌∷◌}
use Rattle.presumption.specs.Answers.{Answers}
use Rattle.run.specs.Calls.{Reply, open_call, close_call, give_up_call, chase_call, reject_call, inquire_call, deliver_call, lose_call, cut_call, restart_call}
use Rattle.run.specs.Settling.{settle_call}
use Rattle.run.specs.State.{State}
use Rattle.station.specs.declared.sets.StationSet.{StationSet}

-- The calls that can change a run, with their arguments: revision, station or place first, then fuse and kept records.
pub data Call : Type 0 where
  Open : ℕ → StationSet → Call
  Close GiveUp Chase : ℕ → ℕ → ℕ → Call
  Reject Inquire : ℕ → ℕ → ℕ → ℕ → Call
  Deliver : ℕ → Bool → ℕ → ℕ → Call
  Lose : ℕ → Call
  Cut : ℕ → ℕ → Call
  Restart : ℕ → Call
  Settle : Call

-- What a call leads to.
abbrev pub call : Answers → Call → State → Reply
call π (Open c set) st = open_call c set st
call π (Close r f k) st = close_call π r f k st
call π (GiveUp r f k) st = give_up_call π r f k st
call π (Chase r f k) st = chase_call π r f k st
call π (Reject r s f k) st = reject_call π r s f k st
call π (Inquire r s f k) st = inquire_call π r s f k st
call π (Deliver i copy f k) st = deliver_call π i copy f k st
call π (Lose i) st = lose_call i st
call π (Cut s k) st = cut_call s k st
call π (Restart s) st = restart_call π s st
call π Settle st = settle_call π st

-- The state after a list of calls, one after the other.
abbrev pub after_calls : Answers → List Call → State → State
after_calls π [] st = st
after_calls π (c ∷ cs) st = after_calls π cs (call π c st).state
