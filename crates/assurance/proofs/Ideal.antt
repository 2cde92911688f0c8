-- The ideal run: stations by number, entries by revision, and writes that always succeed.
use Rattle.std.proofs.Common.{ℕ, zero, suc, ◌+◌, ◌/◌, ◌%◌, ◌^◌, Bool, true, false, cond, not, ◌&&◌, ◌||◌, eqb, ltb, List, [], ◌∷◌, ◌++◌, length, get_or, take, filter, drop}
use Rattle.std.specs.List.{range_with_len}
use lib.Bits.{bit_or, bit_xor}
use Rattle.station.specs.Recovery.{is_of}
pub use Rattle.journal.specs.declared.records.Kind.{Kind}
pub use Rattle.journal.specs.declared.records.Kind.TheVariants.{Opening as kI, Commit as kC, Abort as kA, End as kE, Prepared as kp, Committed as kc, Aborted as ka}
pub use Rattle.journal.specs.declared.records.Record.{Record}
pub use Rattle.presumption.specs.declared.outcome.Outcome.{Outcome}
pub use Rattle.presumption.specs.declared.outcome.Outcome.TheVariants.{Commit as commit, Abort as abort}
pub use Rattle.presumption.specs.declared.outcome.Logging.{Logging}
pub use Rattle.presumption.specs.declared.outcome.Logging.TheVariants.{NotAtAll as not_at_all, Unforced as unforced, Forced as forced}
pub use Rattle.station.specs.declared.subordinate.SubordinateEntry.{SubordinateEntry}
pub use Rattle.station.specs.declared.subordinate.SubordinateEntry.TheVariants.{None as idle, Active, Prepared}
pub use Rattle.station.specs.declared.messages.MessageKind.{MessageKind}
pub use Rattle.station.specs.declared.messages.MessageKind.TheVariants.{Prepare as PREPARE, Yes as YES, No as NO, Commit as COMMIT, Abort as ABORT, Ack as ACK, Inquiry as INQUIRY}
pub use Rattle.station.specs.declared.messages.Message.{Message}
pub use Rattle.station.specs.Acts.{Act, write, force, post as send, mark_installed as installed, mark_dropped as dropped, line, letter, telling as outcome_mail, outcome_kind, mark, logged}
pub use Rattle.run.specs.Settling.{weight as weigh, load}

-- a function with another value at one place
abbrev pub updated : {X : Type 0} → (ℕ → X) → ℕ → X → ℕ → X
updated f i v j = cond (eqb i j) v (f j)

-- sets of stations as numbers, a bit for each
unfoldable pub in_set : ℕ → ℕ → Bool
in_set m s = eqb (m / 2 ^ s % 2) 1

unfoldable pub with_station : ℕ → ℕ → ℕ
with_station m s = bit_or m (2 ^ s)

unfoldable pub without_station : ℕ → ℕ → ℕ
without_station m s = cond (in_set m s) (bit_xor m (2 ^ s)) m

unfoldable pub members : ℕ → ℕ → List ℕ
members n m = filter (in_set m) (range_with_len 0 n)

-- a record of that kind for that revision, in a list, and its argument
abbrev pub is : Kind → ℕ → Record → Bool
is k r x = is_of k r x

abbrev pub has : Kind → ℕ → List Record → Bool
has k r [] = false
has k r (x ∷ xs) = is k r x || has k r xs

abbrev pub argument_of : Kind → ℕ → List Record → ℕ
argument_of k r [] = 0
argument_of k r (x ∷ xs) = cond (is k r x) x.argument (argument_of k r xs)

-- entries of the coordinator, with sets as numbers
pub data CoordinatorEntry : Type 0 where
  none : CoordinatorEntry
  Open : ℕ → CoordinatorEntry
  Collecting : ℕ → ℕ → CoordinatorEntry
  Announcing : Outcome → ℕ → CoordinatorEntry

-- a station: loose records are not forced yet
pub record Station : Type 0 where
  pub power : Bool
  pub stable : List Record
  pub loose : List Record
  pub coordinators : ℕ → CoordinatorEntry
  pub subordinates : ℕ → SubordinateEntry

-- a revision as it was opened
pub record Plan : Type 0 where
  pub coordinator : ℕ
  pub names : ℕ

-- the whole run: stations, post, revisions, and where each is installed or dropped
pub record Run : Type 0 where
  pub station : ℕ → Station
  pub post : List Message
  pub plan : ℕ → Plan
  pub count : ℕ
  pub installed_at : ℕ → ℕ
  pub dropped_at : ℕ → ℕ

-- what stations presume, each for itself
pub record Presumption : Type 0 where
  pub size : ℕ
  pub presumed : ℕ → Outcome
  pub acks : Outcome → ℕ → Bool
  pub forces : Outcome → ℕ → Bool
  pub opens : ℕ → Bool
  pub logs : ℕ → Logging
  pub ackers : Outcome → ℕ → ℕ

-- one station changes
abbrev pub at_station : ℕ → (Station → Station) → Run → Run
at_station s g st = record { station = updated st.station s (g (st.station s)); post = st.post; plan = st.plan; count = st.count; installed_at = st.installed_at; dropped_at = st.dropped_at }

-- a record written, all forced, entries changed, power cut with k records kept
abbrev pub written_station : Record → Station → Station
written_station x y = record { power = y.power; stable = y.stable; loose = y.loose ++ (x ∷ []); coordinators = y.coordinators; subordinates = y.subordinates }

abbrev pub forced_station : Station → Station
forced_station y = record { power = y.power; stable = y.stable ++ y.loose; loose = []; coordinators = y.coordinators; subordinates = y.subordinates }

abbrev pub set_coordinator : ℕ → CoordinatorEntry → Station → Station
set_coordinator r e y = record { power = y.power; stable = y.stable; loose = y.loose; coordinators = updated y.coordinators r e; subordinates = y.subordinates }

abbrev pub set_subordinate : ℕ → SubordinateEntry → Station → Station
set_subordinate r e y = record { power = y.power; stable = y.stable; loose = y.loose; coordinators = y.coordinators; subordinates = updated y.subordinates r e }

abbrev pub cut_station : ℕ → Station → Station
cut_station k y = record { power = false; stable = y.stable ++ take k y.loose; loose = []; coordinators = λ _. none; subordinates = λ _. idle }

-- a message posted, unless 64 wait
abbrev pub with_message : Message → Run → Run
with_message m st = record { station = st.station; post = cond (ltb (length st.post) 64) (st.post ++ (m ∷ [])) st.post; plan = st.plan; count = st.count; installed_at = st.installed_at; dropped_at = st.dropped_at }

-- marks of station s for revision r
abbrev pub marked_installed : ℕ → ℕ → Run → Run
marked_installed r s st = record { station = st.station; post = st.post; plan = st.plan; count = st.count; installed_at = updated st.installed_at r (with_station (st.installed_at r) s); dropped_at = st.dropped_at }

abbrev pub marked_dropped : ℕ → ℕ → Run → Run
marked_dropped r s st = record { station = st.station; post = st.post; plan = st.plan; count = st.count; installed_at = st.installed_at; dropped_at = updated st.dropped_at r (with_station (st.dropped_at r) s) }

abbrev pub with_post : List Message → Run → Run
with_post p st = record { station = st.station; post = p; plan = st.plan; count = st.count; installed_at = st.installed_at; dropped_at = st.dropped_at }

-- acts of a station, one and many
abbrev pub act_done : ℕ → Act → Run → Run
act_done s (write x) st = at_station s (written_station x) st
act_done s force st = at_station s forced_station st
act_done s (send m) st = with_message m st
act_done s (installed r) st = marked_installed r s st
act_done s (dropped r) st = marked_dropped r s st

abbrev pub acts_done : ℕ → List Act → Run → Run
acts_done s [] st = st
acts_done s (a ∷ more) st = acts_done s more (act_done s a st)

-- what becomes of the entry when the acts are done
pub data Turn : Type 0 where
  stay : Turn
  to_coordinator : ℕ → CoordinatorEntry → Turn
  to_subordinate : ℕ → SubordinateEntry → Turn

abbrev pub turn : ℕ → Turn → Run → Run
turn s stay st = st
turn s (to_coordinator r e) st = at_station s (set_coordinator r e) st
turn s (to_subordinate r e) st = at_station s (set_subordinate r e) st

-- a step under a fuse: so many acts and then a cut, or all acts and then the turn
abbrev pub step : ℕ → List Act → Turn → ℕ → ℕ → Run → Run
step s acts t fuse kept st =
    cond (ltb fuse (length acts)) (at_station s (cut_station kept) (acts_done s (take fuse acts) st)) (turn s t (acts_done s acts st))

-- letters to many
abbrev pub send_each : MessageKind → ℕ → ℕ → List ℕ → List Act
send_each k r s [] = []
send_each k r s (t ∷ ts) = send (letter k r s t) ∷ send_each k r s ts

-- an entry that awaits somebody, or none
abbrev pub await : Outcome → ℕ → CoordinatorEntry
await o w = cond (eqb w 0) none (Announcing o w)

module _ (π : Presumption) where
  -- the acts of each kind of step
  abbrev pub close_acts : ℕ → ℕ → ℕ → List Act
  close_acts r s all = cond (π.opens all) (write (line kI r all) ∷ (force ∷ send_each PREPARE r s (members π.size all))) (send_each PREPARE r s (members π.size all))

  abbrev pub commit_acts : ℕ → ℕ → ℕ → List Act
  commit_acts r s all = write (line kC r all) ∷ (force ∷ send_each COMMIT r s (members π.size all))

  abbrev pub end_acts : ℕ → ℕ → ℕ → List Act
  end_acts r all d = cond (not (eqb (π.ackers abort all) 0) && eqb (π.ackers abort d) 0) (write (line kE r 0) ∷ []) []

  abbrev pub abort_acts : ℕ → ℕ → ℕ → ℕ → List Act
  abort_acts r s all d = logged (π.logs all) (line kA r all) ++ (send_each ABORT r s (members π.size d) ++ end_acts r all d)

  abbrev pub force_if : Bool → List Act → List Act
  force_if true l = force ∷ l
  force_if false l = l

  abbrev pub ack_if : Bool → ℕ → ℕ → ℕ → List Act
  ack_if true r s t = send (letter ACK r s t) ∷ []
  ack_if false r s t = []

  abbrev pub enforce_acts : Outcome → ℕ → ℕ → ℕ → List Act
  enforce_acts o r s c = mark o r ∷ (write (line (outcome_kind o) r c) ∷ force_if (π.forces o s) (ack_if (π.acks o s) r s c))

  abbrev pub reject_acts : ℕ → ℕ → ℕ → List Act
  reject_acts r s c = dropped r ∷ (write (line ka r c) ∷ force_if (π.forces abort s) [])

  abbrev pub prepare_acts : ℕ → ℕ → ℕ → ℕ → List Act
  prepare_acts r s t c = write (line kp r c) ∷ (force ∷ (send (letter YES r s t) ∷ []))

  -- what a station does upon each message
  abbrev pub upon_prepare : ℕ → ℕ → ℕ → SubordinateEntry → ℕ → ℕ → Run → Run
  upon_prepare r s t (Active c) f k st = step s (prepare_acts r s t c) (to_subordinate r (Prepared c)) f k st
  upon_prepare r s t (Prepared c) f k st = step s (send (letter YES r s t) ∷ []) stay f k st
  upon_prepare r s t idle f k st = step s (send (letter NO r s t) ∷ []) stay f k st

  abbrev pub upon_yes : ℕ → ℕ → ℕ → CoordinatorEntry → ℕ → ℕ → Run → Run
  upon_yes r s t (Collecting all ys) f k st =
      cond (in_set all t) (cond (eqb (with_station ys t) all) (step s (commit_acts r s all) (to_coordinator r (await commit (π.ackers commit all))) f k st) (at_station s (set_coordinator r (Collecting all (with_station ys t))) st)) st
  upon_yes r s t e f k st = st

  abbrev pub decide_abort : ℕ → ℕ → ℕ → ℕ → ℕ → ℕ → Run → Run
  decide_abort r s all d f k st = step s (abort_acts r s all d) (to_coordinator r (await abort (π.ackers abort d))) f k st

  abbrev pub upon_no : ℕ → ℕ → ℕ → CoordinatorEntry → ℕ → ℕ → Run → Run
  upon_no r s t (Collecting all ys) f k st = cond (in_set all t) (decide_abort r s all (without_station all t) f k st) st
  upon_no r s t e f k st = st

  abbrev pub upon_outcome : Outcome → ℕ → ℕ → ℕ → SubordinateEntry → ℕ → ℕ → Run → Run
  upon_outcome o r s t idle f k st = step s (ack_if (π.acks o s) r s t) stay f k st
  upon_outcome commit r s t (Active c) f k st = st
  upon_outcome abort r s t (Active c) f k st = step s (enforce_acts abort r s c) (to_subordinate r idle) f k st
  upon_outcome o r s t (Prepared c) f k st = step s (enforce_acts o r s c) (to_subordinate r idle) f k st

  abbrev pub upon_ack : ℕ → ℕ → ℕ → CoordinatorEntry → ℕ → ℕ → Run → Run
  upon_ack r s t (Announcing o w) f k st =
      cond (in_set w t) (cond (eqb (without_station w t) 0) (step s (write (line kE r 0) ∷ []) (to_coordinator r none) f k st) (at_station s (set_coordinator r (Announcing o (without_station w t))) st)) st
  upon_ack r s t e f k st = st

  abbrev pub upon_inquiry : ℕ → ℕ → ℕ → CoordinatorEntry → ℕ → ℕ → Run → Run
  upon_inquiry r s t none f k st = step s (send (letter (outcome_mail (π.presumed t)) r s t) ∷ []) stay f k st
  upon_inquiry r s t (Announcing o w) f k st = step s (send (letter (outcome_mail o) r s t) ∷ []) stay f k st
  upon_inquiry r s t e f k st = st

  -- what a station does upon each call
  abbrev pub upon_close : ℕ → ℕ → CoordinatorEntry → ℕ → ℕ → Run → Run
  upon_close r s (Open all) f k st = step s (close_acts r s all) (to_coordinator r (Collecting all 0)) f k st
  upon_close r s e f k st = st

  abbrev pub upon_give_up : ℕ → ℕ → CoordinatorEntry → ℕ → ℕ → Run → Run
  upon_give_up r s (Open all) f k st = decide_abort r s all all f k st
  upon_give_up r s (Collecting all ys) f k st = decide_abort r s all all f k st
  upon_give_up r s e f k st = st

  abbrev pub upon_reject : ℕ → ℕ → SubordinateEntry → ℕ → ℕ → Run → Run
  upon_reject r s (Active c) f k st = step s (reject_acts r s c) (to_subordinate r idle) f k st
  upon_reject r s e f k st = st

  abbrev pub upon_chase : ℕ → ℕ → CoordinatorEntry → ℕ → ℕ → Run → Run
  upon_chase r s (Announcing o w) f k st = step s (send_each (outcome_mail o) r s (members π.size w)) stay f k st
  upon_chase r s e f k st = st

  abbrev pub upon_inquire : ℕ → ℕ → SubordinateEntry → ℕ → ℕ → Run → Run
  upon_inquire r s (Prepared c) f k st = step s (send (letter INQUIRY r s c) ∷ []) stay f k st
  upon_inquire r s e f k st = st

  -- a message handed to station s from station t
  abbrev pub handed : MessageKind → ℕ → ℕ → ℕ → ℕ → ℕ → Run → Run
  handed PREPARE r s t f k st = upon_prepare r s t ((st.station s).subordinates r) f k st
  handed YES r s t f k st = upon_yes r s t ((st.station s).coordinators r) f k st
  handed NO r s t f k st = upon_no r s t ((st.station s).coordinators r) f k st
  handed COMMIT r s t f k st = upon_outcome commit r s t ((st.station s).subordinates r) f k st
  handed ABORT r s t f k st = upon_outcome abort r s t ((st.station s).subordinates r) f k st
  handed ACK r s t f k st = upon_ack r s t ((st.station s).coordinators r) f k st
  handed INQUIRY r s t f k st = upon_inquiry r s t ((st.station s).coordinators r) f k st

  -- entries rebuilt from stable records
  abbrev pub doubtful : List Record → ℕ → SubordinateEntry
  doubtful l r = cond (has kp r l && not (has kc r l || has ka r l)) (Prepared (argument_of kp r l)) idle

  abbrev pub outcome_of : List Record → ℕ → CoordinatorEntry
  outcome_of l r =
      cond (has kC r l) (await commit (π.ackers commit (argument_of kC r l))) (cond (has kA r l) (await abort (π.ackers abort (argument_of kA r l))) (cond (has kI r l) (await abort (π.ackers abort (argument_of kI r l))) none))

  abbrev pub resumed : List Record → ℕ → CoordinatorEntry
  resumed l r = cond (has kE r l) none (outcome_of l r)

  abbrev pub restarted_station : Station → Station
  restarted_station y = record { power = true; stable = y.stable; loose = y.loose; coordinators = resumed y.stable; subordinates = doubtful y.stable }

-- a revision opened
abbrev pub opened_station : ℕ → ℕ → ℕ → ℕ → Station → Station
opened_station r c all s y =
    record {
      power = y.power;
      stable = y.stable;
      loose = y.loose;
      coordinators = cond (eqb c s) (updated y.coordinators r (Open all)) y.coordinators;
      subordinates = cond (in_set all s) (updated y.subordinates r (Active c)) y.subordinates;
    }

abbrev pub upon_open : ℕ → ℕ → Run → Run
upon_open c all st =
    record {
      station = λ s. opened_station st.count c all s (st.station s);
      post = st.post;
      plan = updated st.plan st.count (record { coordinator = c; names = all });
      count = suc st.count;
      installed_at = st.installed_at;
      dropped_at = st.dropped_at;
    }

-- a list without the element at a place
abbrev pub drop_at : {X : Type 0} → ℕ → List X → List X
drop_at n xs = take n xs ++ drop (n + 1) xs

-- calls
pub data Call : Type 0 where
  open_revision : ℕ → ℕ → Call
  close give_up chase : ℕ → ℕ → ℕ → Call
  reject inquire : ℕ → ℕ → ℕ → ℕ → Call
  deliver : ℕ → Bool → ℕ → ℕ → Call
  lose : ℕ → Call
  cut : ℕ → ℕ → Call
  restart : ℕ → Call
  settle look : Call

-- settling: the run that is left, and the deliveries made
pub record Made : Type 0 where
  pub left : Run
  pub made : ℕ

abbrev pub all_powered : List ℕ → Run → Bool
all_powered [] st = true
all_powered (s ∷ l) st = (st.station s).power && all_powered l st

module _ (π : Presumption) where
  abbrev pub hand_first : Message → Run → Run
  hand_first m st = cond (st.station m.receiver).power (handed π m.kind m.revision m.receiver m.sender 255 0 st) st

  -- deliver the first message until none waits
  unfoldable pub drain : ℕ → List Message → Run → ℕ → Made
  drain zero p st k = record { left = st; made = k }
  drain (suc n) [] st k = record { left = st; made = k }
  drain (suc n) (m ∷ ms) st k = drain n (hand_first m (with_post ms st)).post (hand_first m (with_post ms st)) (suc k)

  unfoldable pub emptied : Run → ℕ → Made
  emptied st k = drain (load π.size st.post) st.post st k

  abbrev pub nudge : ℕ → ℕ → CoordinatorEntry → Run → Run
  nudge r s (Collecting all ys) st = upon_give_up π r s (Collecting all ys) 255 0 st
  nudge r s (Announcing o w) st = upon_chase π r s (Announcing o w) 255 0 st
  nudge r s e st = st

  -- give up if Collecting, chase if Announcing, at the coordinator
  abbrev pub urged : ℕ → Run → Run
  urged r st = let s = (st.plan r).coordinator in cond (st.station s).power (nudge r s ((st.station s).coordinators r) st) st

  -- inquire, if Prepared
  abbrev pub asked : ℕ → ℕ → Run → Run
  asked r s st = cond (st.station s).power (upon_inquire π r s ((st.station s).subordinates r) 255 0 st) st

  unfoldable pub inquire_all : ℕ → List ℕ → Run → ℕ → Made
  inquire_all r [] st k = record { left = st; made = k }
  inquire_all r (s ∷ ss) st k = let d = emptied (asked r s st) k in inquire_all r ss d.left d.made

  unfoldable pub revise : ℕ → Run → ℕ → Made
  revise r st k = let d = emptied (urged r st) k in inquire_all r (range_with_len 0 π.size) d.left d.made

  unfoldable pub revise_all : List ℕ → Run → ℕ → Made
  revise_all [] st k = record { left = st; made = k }
  revise_all (r ∷ rs) st k = let d = revise r st k in revise_all rs d.left d.made

  unfoldable pub settled : Run → Made
  settled st = let d = emptied st 0 in revise_all (range_with_len 0 st.count) d.left d.made

-- a coordinator and a set of the run's stations
unfoldable pub fits : ℕ → ℕ → ℕ → Bool
fits n c all = ltb c n && (ltb all (2 ^ n) && not (eqb all 0))

-- what each call leads to; where it is refused, nothing changes
abbrev pub call : Presumption → Call → Run → Run
call π (open_revision c all) st = cond (fits π.size c all && (ltb st.count 32 && ((st.station c).power && all_powered (members π.size all) st))) (upon_open c all st) st
call π (close r f k) st = let s = (st.plan r).coordinator in cond (st.station s).power (upon_close π r s ((st.station s).coordinators r) f k st) st
call π (give_up r f k) st = let s = (st.plan r).coordinator in cond (st.station s).power (upon_give_up π r s ((st.station s).coordinators r) f k st) st
call π (chase r f k) st = let s = (st.plan r).coordinator in cond (st.station s).power (upon_chase π r s ((st.station s).coordinators r) f k st) st
call π (reject r s f k) st = cond (ltb s π.size && (st.station s).power) (upon_reject π r s ((st.station s).subordinates r) f k st) st
call π (inquire r s f k) st = cond (ltb s π.size && (st.station s).power) (upon_inquire π r s ((st.station s).subordinates r) f k st) st
call π (deliver i copy f k) st =
    cond (ltb i (length st.post))
    (let m = get_or st.post i (letter PREPARE 0 0 0) in
    let u = with_post (cond copy st.post (drop_at i st.post)) st in
    cond (u.station m.receiver).power (handed π m.kind m.revision m.receiver m.sender f k u) u)
    st
call π (lose i) st = with_post (drop_at i st.post) st
call π (cut s k) st = cond (ltb s π.size && (st.station s).power) (at_station s (cut_station k) st) st
call π (restart s) st = cond (ltb s π.size && not (st.station s).power) (at_station s (restarted_station π) st) st
call π settle st = cond (all_powered (range_with_len 0 π.size) st) (settled π st).left st
call π look st = st

abbrev pub calls : Presumption → List Call → Run → Run
calls π [] st = st
calls π (c ∷ cs) st = calls π cs (call π c st)
