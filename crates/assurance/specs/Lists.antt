-- What a call leads to, and a list of calls.
use Rattle.std.specs.Prelude.{ℕ, List, [], ◌∷◌}
use Rattle.presumption.specs.Answers.{Answers}
use Rattle.actor.specs.declared.fuse.Fuse.{Fuse}
use Rattle.run.specs.Answers.{Answer}
use Rattle.run.specs.Calls.{Reply, open_call, close_call, give_up_call, chase_call, reject_call, inquire_call, deliver_call, lose_call, cut_call, restart_call, unheard_call}
use Rattle.run.specs.Settling.{long_fuse, settle_call}
use Rattle.run.specs.State.{State}
use Rattle.assurance.specs.declared.calls.Call.{Call}
use Rattle.assurance.specs.declared.calls.Call.TheVariants.{Open, Close, GiveUp, Chase, Reject, Inquire, Deliver, Lose, Cut, Restart, Settle, Awaited}

-- A fuse by its parts: so many acts, and then so many records kept.
abbrev pub fuse : ℕ → ℕ → Fuse
fuse n k = record { acts = n; kept = k }

-- A fuse that no step burns.
abbrev pub lasting : Fuse
lasting = fuse long_fuse 0

-- What a call leads to.
abbrev pub called : Answers → Call → State → Reply
called π (Open c set) st = open_call c set st
called π (Close r f) st = close_call π r f.acts f.kept st
called π (GiveUp r f) st = give_up_call π r f.acts f.kept st
called π (Chase r f) st = chase_call π r f.acts f.kept st
called π (Reject r s f) st = reject_call π r s f.acts f.kept st
called π (Inquire r s f) st = inquire_call π r s f.acts f.kept st
called π (Deliver i copy f) st = deliver_call π i copy f.acts f.kept st
called π (Lose i) st = lose_call i st
called π (Cut s k) st = cut_call s k st
called π (Restart s) st = restart_call π s st
called π Settle st = settle_call π st
called π (Awaited r) st = unheard_call r st

-- The state after a list of calls, one after the other.
abbrev pub after_calls : Answers → List Call → State → State
after_calls π [] st = st
after_calls π (c ∷ cs) st = after_calls π cs (called π c st).state

-- What each of them answers.
abbrev pub answers_of : Answers → List Call → State → List Answer
answers_of π [] st = []
answers_of π (c ∷ cs) st = (called π c st).answer ∷ answers_of π cs (called π c st).state
