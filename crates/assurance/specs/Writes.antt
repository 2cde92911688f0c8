-- What a call has its station write, and that the journal accepts it.
use Rattle.std.specs.Prelude.{◌≡◌, ℕ, List, [], ◌∷◌, Some, None, Option}
use Rattle.std.specs.List.{slice_get}
use Rattle.std.specs.Option.{option_map}
use Rattle.journal.specs.Meaning.{write_answer}
use Rattle.presumption.specs.Answers.{Answers}
use Rattle.actor.specs.Store.{Store, done}
use Rattle.run.specs.Calls.{coordinator_of, coordinator_entry, heard}
use Rattle.assurance.specs.declared.calls.Call.{Call}
use Rattle.assurance.specs.declared.calls.Call.TheVariants.{Open, Close, GiveUp, Chase, Reject, Inquire, Deliver, Lose, Cut, Restart, Settle, Awaited}
use Rattle.run.specs.State.{State}
use Rattle.stations.specs.Stations.{subordinate_at}
use Rattle.station.specs.Acts.{Act, write, force, post, mark_installed, mark_dropped, acts}
use Rattle.station.specs.Coordinator.{close_move, give_up_move, chase_move}
use Rattle.station.specs.Moves.{Move}
use Rattle.station.specs.Subordinate.{reject_move, inquire_move}
use Rattle.station.specs.declared.messages.Message.{Message}
use Rattle.station.specs.declared.steps.Step.{Step}

-- The journal answers 0 if station s does this act now: every act but a write asks nothing of it.
abbrev pub Accepts : ℕ → Act → Store → Type 0
Accepts s (write x) w = write_answer w.journal s ≡ 0
Accepts s force w = Unit {0}
Accepts s (post m) w = Unit {0}
Accepts s (mark_installed r) w = Unit {0}
Accepts s (mark_dropped r) w = Unit {0}

-- Each of these acts of station s is accepted, where those before it are done.
abbrev pub Accepted : ℕ → List Act → Store → Type 0
Accepted s [] w = Unit {0}
Accepted s (a ∷ more) w = Accepts s a w × Accepted s more (done s a w)

-- Who has to act, for which revision, and what the step is.
pub record Due : Type 0 where
  pub station : ℕ
  pub revision : ℕ
  pub step : Step

-- The step of a move of station s for revision r.
abbrev pub due_of : {E : Type 0} → ℕ → ℕ → Move E → Due
due_of s r m = record { station = s; revision = r; step = m.step }

-- The same, of the station that hears a message.
abbrev pub due_to : Answers → State → Message → Due
due_to π st m = due_of m.receiver m.revision (heard π st.stations m)

-- The step that a call has a station take, if the entry allows the call, or if a message waits there.
abbrev pub due : Answers → Call → State → Option Due
due π (Open c set) st = None
due π (Close r f) st = option_map (due_of (coordinator_of r st) r) (close_move (coordinator_entry r st))
due π (GiveUp r f) st = option_map (due_of (coordinator_of r st) r) (give_up_move π (coordinator_entry r st))
due π (Chase r f) st = option_map (due_of (coordinator_of r st) r) (chase_move (coordinator_entry r st))
due π (Reject r s f) st = option_map (due_of s r) (reject_move (subordinate_at st.stations s r))
due π (Inquire r s f) st = option_map (due_of s r) (inquire_move (subordinate_at st.stations s r))
due π (Deliver i copy f) st = option_map (due_to π st) (slice_get st.store.post i)
due π (Lose i) st = None
due π (Cut s k) st = None
due π (Restart s) st = None
due π Settle st = None
due π (Awaited r) st = None

-- No write of the step that a call asks for is refused.
abbrev pub Unrefused : Answers → State → Call → Type 0
Unrefused π st c = (d : Due) → due π c st ≡ Some d → Accepted d.station (acts π d.station d.revision d.step) st.store

-- Every call but Settle.
abbrev pub Plain : Call → Type 0
Plain (Open c set) = Unit {0}
Plain (Close r f) = Unit {0}
Plain (GiveUp r f) = Unit {0}
Plain (Chase r f) = Unit {0}
Plain (Reject r s f) = Unit {0}
Plain (Inquire r s f) = Unit {0}
Plain (Deliver i copy f) = Unit {0}
Plain (Lose i) = Unit {0}
Plain (Cut s k) = Unit {0}
Plain (Restart s) = Unit {0}
Plain Settle = ⊥
Plain (Awaited r) = Unit {0}
