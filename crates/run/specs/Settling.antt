-- Settling: the post is emptied, and each revision is brought to its end.
use Rattle.std.specs.Prelude.{◌≡◌, ℕ, zero, suc, ◌+◌, ◌*◌, Bool, true, false, cond, List, [], ◌∷◌, length, nat_lt}
use Rattle.journal.specs.Limits.{most_stations}
use Rattle.presumption.specs.Answers.{Answers}
use Rattle.run.specs.Answers.{answered}
use Rattle.run.specs.Calls.{Reply, reply, asked, fit?, opened?, coordinator_entry, deliver_call, give_up_call, chase_call, inquire_call}
use Rattle.run.specs.Runs.{Shown}
use Rattle.run.specs.State.{State}
use Rattle.stations.specs.Stations.{all_power, subordinate_at}
use Rattle.station.specs.Coordinator.{unheard}
use Rattle.station.specs.declared.coordinator.CoordinatorEntry.{CoordinatorEntry}
use Rattle.station.specs.declared.coordinator.CoordinatorEntry.TheVariants as coordinator
use Rattle.station.specs.declared.messages.Message.{Message}
use Rattle.station.specs.declared.messages.MessageKind.{MessageKind}
use Rattle.station.specs.declared.messages.MessageKind.TheVariants.{Prepare, Yes, No, Commit, Abort, Ack, Inquiry}
use Rattle.station.specs.declared.sets.StationSet.{StationSet}
use Rattle.station.specs.declared.subordinate.SubordinateEntry.{SubordinateEntry}
use Rattle.station.specs.declared.subordinate.SubordinateEntry.TheVariants as subordinate
use Rattle.std.specs.List.{range_with_len}

-- How far settling has come: the state, and the deliveries made.
pub record Progress : Type 0 where
  pub state : State
  pub deliveries : ℕ

-- A progress by its parts.
abbrev pub progress : State → ℕ → Progress
progress st n = record { state = st; deliveries = n }

-- A fuse that no step burns.
abbrev pub long_fuse : ℕ
long_fuse = 255

-- What a waiting message weighs among n stations: more than all that its delivery posts.
abbrev pub weight : ℕ → MessageKind → ℕ
weight n Prepare = 2 + 2 * n
weight n Yes = 1 + 2 * n
weight n No = 1 + 2 * n
weight n Commit = 2
weight n Abort = 2
weight n Ack = 1
weight n Inquiry = 3

-- What the messages weigh together: no more deliveries are needed to empty the post.
abbrev pub load : ℕ → List Message → ℕ
load n [] = 0
load n (m ∷ ms) = weight n m.kind + load n ms

-- The first message is delivered, and no copy stays.
abbrev pub first_delivered : Answers → Progress → Progress
first_delivered π x = progress (deliver_call π 0 false long_fuse 0 x.state).state (x.deliveries + 1)

-- The first message is delivered while one waits, at most k times.
unfoldable pub delivered : Answers → ℕ → Progress → Progress
delivered π zero x = x
delivered π (suc k) x = cond (nat_lt 0 (length x.state.store.post)) (delivered π k (first_delivered π x)) x

-- The first message is delivered until none waits: each delivery lowers the load of the post.
unfoldable pub drained : Answers → Progress → Progress
drained π x = delivered π (load most_stations x.state.store.post) x

-- A fit run in which no message waits.
pub record Drained (st : State) : Type 0 where
  pub fit : st.fit ≡ true
  pub empty : st.store.post ≡ []

-- A run does a part of settling with so many deliveries, and leaves no message waiting; the presumption stays.
pub record Settles {P : Type 0} (part : Progress → Progress) (old : Shown P) (deliveries : ℕ) (new : Shown P) : Type 0 where
  pub progress : progress new.state deliveries ≡ part (progress old.state 0)
  pub ready : Drained new.state
  pub presumes : new.presumption ≡ old.presumption

-- The coordinator gives up if it is Collecting, and chases if it is Announcing.
abbrev pub urged : Answers → CoordinatorEntry → ℕ → State → State
urged π coordinator.None r st = st
urged π (coordinator.Open set) r st = st
urged π (coordinator.Collecting set voters) r st = (give_up_call π r long_fuse 0 st).state
urged π (coordinator.Announcing o w) r st = (chase_call π r long_fuse 0 st).state

-- Station s inquires if it is Prepared.
abbrev pub inquired : Answers → SubordinateEntry → ℕ → ℕ → State → State
inquired π subordinate.None r s st = st
inquired π (subordinate.Active c) r s st = st
inquired π (subordinate.Prepared c) r s st = (inquire_call π r s long_fuse 0 st).state

-- The coordinator of revision r is urged.
abbrev pub urging : Answers → ℕ → Progress → Progress
urging π r x = progress (urged π (coordinator_entry r x.state) r x.state) x.deliveries

-- Station s inquires about revision r.
abbrev pub inquiring : Answers → ℕ → ℕ → Progress → Progress
inquiring π r s x = progress (inquired π (subordinate_at x.state.stations s r) r s x.state) x.deliveries

-- These stations inquire about revision r, and the post is emptied after each.
unfoldable pub resolved : Answers → ℕ → List ℕ → Progress → Progress
resolved π r [] x = x
resolved π r (s ∷ ss) x = resolved π r ss (drained π (inquiring π r s x))

-- Revision r is brought to its end.
unfoldable pub finished : Answers → ℕ → Progress → Progress
finished π r x = resolved π r (range_with_len 0 (length x.state.stations)) (drained π (urging π r x))

-- These revisions are, one after the other.
unfoldable pub all_finished : Answers → List ℕ → Progress → Progress
all_finished π [] x = x
all_finished π (r ∷ rs) x = all_finished π rs (finished π r x)

-- What settling leads to: first the post is emptied, then each revision is finished, ascending.
unfoldable pub settled : Answers → State → Progress
settled π st = all_finished π (range_with_len 0 (length st.store.log)) (drained π (progress st 0))

-- Have all stations power?
abbrev pub every_power? : State → ℕ × Bool
every_power? st = (4, all_power st.stations (range_with_len 0 (length st.stations)))

-- Settle, which answers the number of deliveries.
abbrev pub settle_call : Answers → State → Reply
settle_call π st = asked (fit? st ∷ every_power? st ∷ []) st (reply (answered (settled π st).deliveries) (settled π st).state)

-- Whom a coordinator awaits: those that have not voted yet, or have not acknowledged yet.
abbrev pub awaited : CoordinatorEntry → StationSet
awaited e = unheard e

-- The stations that revision r awaits, as a set's bits. How many there are the call `awaited` answers (`unheard_call`).
abbrev pub awaited_call : ℕ → State → Reply
awaited_call r st = asked (fit? st ∷ opened? r st ∷ []) st (reply (answered (awaited (coordinator_entry r st)).bits) st)
