-- The calls: the questions in their order, then what is done.
use Rattle.std.specs.Prelude.{◌≡◌, ℕ, min, Bool, cond, not, ◌&&◌, List, [], ◌∷◌, length, Some, None, Ok, Err, Option, Result, count_ones, nat_lt, slice_index_or}
use Rattle.presumption.specs.Answers.{Answers}
use Rattle.run.specs.Answers.{Answer, refused, answered, number}
use Rattle.actor.specs.Log.{row_at}
use Rattle.run.specs.State.{State, with_store, cut_off, stepped, restarted}
use Rattle.stations.specs.Stations.{power_at, all_power, coordinator_at, subordinate_at, with_coordinator, activated}
use Rattle.actor.specs.Store.{with_row, less}
use Rattle.run.specs.declared.refusals.Refusal.{Refusal}
use Rattle.stations.specs.declared.Station.{Station}
use Rattle.stations.specs.declared.Turn.{Turn}
use Rattle.stations.specs.declared.Turn.TheVariants.{Coordinator, Subordinate}
use Rattle.station.specs.Acts.{acts, letter}
use Rattle.station.specs.Coordinator.{coordinator_move, close_move, give_up_move, chase_move, unheard}
use Rattle.station.specs.Limits.{most_revisions}
use Rattle.station.specs.Messages.{for_subordinate}
use Rattle.station.specs.Moves.{Move, move}
use Rattle.station.specs.Sets.{empty, below, members}
use Rattle.station.specs.Subordinate.{subordinate_move, reject_move, inquire_move}
use Rattle.station.specs.declared.coordinator.CoordinatorEntry.{CoordinatorEntry}
use Rattle.station.specs.declared.coordinator.CoordinatorEntry.TheVariants.{Open}
use Rattle.station.specs.declared.messages.Message.{Message}
use Rattle.station.specs.declared.messages.MessageKind.TheVariants as message
use Rattle.station.specs.declared.sets.StationSet.{StationSet}
use Rattle.station.specs.declared.subordinate.SubordinateEntry.{SubordinateEntry}
use Rattle.std.specs.Option.{option_map}

-- What a call leads to: its answer, and the state that it leaves.
pub record Reply : Type 0 where
  pub answer : Answer
  pub state : State

-- A reply by its parts.
abbrev pub reply : Answer → State → Reply
reply a st = record { answer = a; state = st }

-- A refusal answers its number and changes nothing.
abbrev pub refuse : ℕ → State → Reply
refuse n st = reply (refused n) st

-- Questions, each with the number of its refusal: the first that is answered no refuses the call.
abbrev pub asked : List (ℕ × Bool) → State → Reply → Reply
asked [] st done = done
asked (q ∷ qs) st done = cond q.1 (asked qs st done) (refuse q.0 st)

-- What questions that were asked already leave of a call.
abbrev pub passed : {X : Type 0} → Result X Refusal → State → Reply → Reply
passed (Ok x) st done = done
passed (Err e) st done = refuse (number e) st

-- These questions are asked, and the first no is the refusal.
abbrev pub Asks : {X : Type 0} → List (ℕ × Bool) → Result X Refusal → State → Type 0
Asks qs r st = (done : Reply) → asked qs st done ≡ passed r st done

-- Is the run fit?
abbrev pub fit? : State → ℕ × Bool
fit? st = (1, st.fit)

-- Is there a station s?
abbrev pub there? : ℕ → State → ℕ × Bool
there? s st = (2, nat_lt s (length st.stations))

-- Is there a coordinator c, and are there all stations of the set, and some?
abbrev pub named? : ℕ → StationSet → State → ℕ × Bool
named? c set st = (2, nat_lt c (length st.stations) && (not (empty set) && below set (length st.stations)))

-- Was revision r opened?
abbrev pub opened? : ℕ → State → ℕ × Bool
opened? r st = (3, nat_lt r (length st.store.log))

-- Has station s power?
abbrev pub power? : ℕ → State → ℕ × Bool
power? s st = (4, power_at st.stations s)

-- Have the coordinator and the set power?
abbrev pub all_power? : ℕ → StationSet → State → ℕ × Bool
all_power? c set st = (4, power_at st.stations c && all_power st.stations (members set))

-- Can another revision be opened?
abbrev pub room? : State → ℕ × Bool
room? st = (5, nat_lt (length st.store.log) most_revisions)

-- Does a message wait at place i?
abbrev pub waits? : ℕ → State → ℕ × Bool
waits? i st = (7, nat_lt i (length st.store.post))

-- Is station s dark?
abbrev pub dark? : ℕ → State → ℕ × Bool
dark? s st = (8, not (power_at st.stations s))

-- Who coordinates revision r.
abbrev pub coordinator_of : ℕ → State → ℕ
coordinator_of r st = (row_at st.store.log r).coordinator

-- A move of station s for revision r under a fuse. It answers the acts done.
abbrev pub moved : Answers → ℕ → ℕ → Move Turn → ℕ → ℕ → State → Reply
moved π s r m f k st =
    reply (answered (min f (length (acts π s r m.step)))) (stepped s r (acts π s r m.step) m.next f k st)

-- Does the entry allow the call? If so, its move.
abbrev pub if_allowed : Answers → ℕ → ℕ → Option (Move Turn) → ℕ → ℕ → State → Reply
if_allowed π s r None f k st = refuse 6 st
if_allowed π s r (Some m) f k st = moved π s r m f k st

-- A move of the coordinator's entry, or of the subordinate's.
abbrev pub turning : {E : Type 0} → (E → Turn) → Move E → Move Turn
turning turn m = move m.step (turn m.next)

-- Open: the coordinator's entry becomes Open, each of the set Active, and the log has one row more.
abbrev pub opened : ℕ → StationSet → State → State
opened c set st =
    let r = length st.store.log in
    record {
      fit = st.fit;
      store = with_row c set st.store;
      stations = activated r c (members set) (with_coordinator c r (Open set) st.stations);
    }

-- Open: it answers the number of the new revision.
abbrev pub open_call : ℕ → StationSet → State → Reply
open_call c set st =
    asked (fit? st ∷ named? c set st ∷ all_power? c set st ∷ room? st ∷ []) st
    (reply (answered (length st.store.log)) (opened c set st))

-- What is asked of a call that only needs the revision to be opened.
abbrev pub opened_questions : ℕ → State → List (ℕ × Bool)
opened_questions r st = fit? st ∷ opened? r st ∷ []

-- What the coordinator of revision r is asked.
abbrev pub coordinator_questions : ℕ → State → List (ℕ × Bool)
coordinator_questions r st = fit? st ∷ opened? r st ∷ power? (coordinator_of r st) st ∷ []

-- A call that the coordinator of revision r carries out.
abbrev pub coordinator_call : Answers → ℕ → Option (Move CoordinatorEntry) → ℕ → ℕ → State → Reply
coordinator_call π r m f k st = asked (coordinator_questions r st) st (if_allowed π (coordinator_of r st) r (option_map (turning Coordinator) m) f k st)

-- The entry of the coordinator of revision r.
abbrev pub coordinator_entry : ℕ → State → CoordinatorEntry
coordinator_entry r st = coordinator_at st.stations (coordinator_of r st) r

-- Close revision r: its coordinator opens the vote.
abbrev pub close_call : Answers → ℕ → ℕ → ℕ → State → Reply
close_call π r f k st = coordinator_call π r (close_move (coordinator_entry r st)) f k st

-- Give up revision r: its coordinator decides abort.
abbrev pub give_up_call : Answers → ℕ → ℕ → ℕ → State → Reply
give_up_call π r f k st = coordinator_call π r (give_up_move π (coordinator_entry r st)) f k st

-- Chase revision r: its coordinator tells the outcome again to those awaited.
abbrev pub chase_call : Answers → ℕ → ℕ → ℕ → State → Reply
chase_call π r f k st = coordinator_call π r (chase_move (coordinator_entry r st)) f k st

-- What a subordinate s of revision r is asked.
abbrev pub subordinate_questions : ℕ → ℕ → State → List (ℕ × Bool)
subordinate_questions r s st = fit? st ∷ there? s st ∷ opened? r st ∷ power? s st ∷ []

-- A call that station s carries out as a subordinate of revision r.
abbrev pub subordinate_call : Answers → ℕ → ℕ → Option (Move SubordinateEntry) → ℕ → ℕ → State → Reply
subordinate_call π r s m f k st = asked (subordinate_questions r s st) st (if_allowed π s r (option_map (turning Subordinate) m) f k st)

-- Reject revision r at station s, before the vote.
abbrev pub reject_call : Answers → ℕ → ℕ → ℕ → ℕ → State → Reply
reject_call π r s f k st = subordinate_call π r s (reject_move (subordinate_at st.stations s r)) f k st

-- Inquire at station s about revision r, which it is in doubt about.
abbrev pub inquire_call : Answers → ℕ → ℕ → ℕ → ℕ → State → Reply
inquire_call π r s f k st = subordinate_call π r s (inquire_move (subordinate_at st.stations s r)) f k st

-- What the receiver of a message does: as a subordinate, or as the coordinator.
abbrev pub heard : Answers → List Station → Message → Move Turn
heard π xs m =
    cond (for_subordinate m.kind)
    (turning Subordinate (subordinate_move (subordinate_at xs m.receiver m.revision) m.kind m.sender))
    (turning Coordinator (coordinator_move π (coordinator_at xs m.receiver m.revision) m.kind m.sender))

-- A message is handed to its receiver; at a dark station it is lost.
abbrev pub handed : Answers → Message → ℕ → ℕ → State → Reply
handed π m f k st =
    cond (power_at st.stations m.receiver)
    (moved π m.receiver m.revision (heard π st.stations m) f k st)
    (reply (answered 0) st)

-- The message that waits at place i.
abbrev pub message_at : ℕ → State → Message
message_at i st = slice_index_or st.store.post i (letter message.Prepare 0 0 0)

-- The message at place i waits no longer.
abbrev pub removed : ℕ → State → State
removed i st = with_store (less i st.store) st

-- What is asked about the message at place i.
abbrev pub message_questions : ℕ → State → List (ℕ × Bool)
message_questions i st = fit? st ∷ waits? i st ∷ []

-- Deliver: the message is removed, unless a copy stays, and handed to its receiver.
abbrev pub deliver_call : Answers → ℕ → Bool → ℕ → ℕ → State → Reply
deliver_call π i copy f k st = asked (message_questions i st) st (handed π (message_at i st) f k (cond copy st (removed i st)))

-- Lose: the message at place i is removed, and nobody hears it.
abbrev pub lose_call : ℕ → State → Reply
lose_call i st = asked (message_questions i st) st (reply (answered 0) (removed i st))

-- Cut: the power fails at station s between two steps, with k records kept.
abbrev pub cut_call : ℕ → ℕ → State → Reply
cut_call s k st = asked (fit? st ∷ there? s st ∷ power? s st ∷ []) st (reply (answered 0) (cut_off s k st))

-- Restart: the power returns at station s.
abbrev pub restart_call : Answers → ℕ → State → Reply
restart_call π s st = asked (fit? st ∷ there? s st ∷ dark? s st ∷ []) st (reply (answered 0) (restarted π s st))

-- Awaited: how many stations the coordinator of revision r has not heard from.
abbrev pub unheard_call : ℕ → State → Reply
unheard_call r st = asked (opened_questions r st) st (reply (answered (count_ones (unheard (coordinator_entry r st)).bits)) st)
