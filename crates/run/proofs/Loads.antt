-- Each delivery lowers the load of the post, in every state of a fit run.
use Rattle.std.proofs.Common.{◌≡◌, ℕ, zero, suc, ◌+◌, ◌*◌, ◌<◌, ◌≤◌, Bool, true, false, cond, ltb, List, [], ◌∷◌, ◌++◌, map, length, get_or, take, refl, ◌∙◌, arith}
use Rattle.actor.specs.Post.{posted, without}
use Rattle.actor.specs.Store.{Store, done, all_done, journal_cut}
use Rattle.presumption.specs.Answers.{Answers}
use Rattle.presumption.specs.declared.outcome.Logging.{Logging}
use Rattle.presumption.specs.declared.outcome.Outcome.{Outcome}
use Rattle.journal.specs.declared.records.Record.{Record}
use Rattle.run.specs.Calls.{Reply, asked, if_allowed, turning, heard, handed, message_at, removed, deliver_call}
use Rattle.run.specs.Settling.{Progress, weight, load, first_delivered, delivered, drained, urged, inquired}
use Rattle.run.specs.State.{State, stepped}
use Rattle.stations.specs.declared.Station.{Station}
use Rattle.stations.specs.declared.Turn.{Turn}
use Rattle.stations.specs.declared.Turn.TheVariants as turn
use Rattle.std.specs.Option.{option_map}
use Rattle.station.specs.Acts.{Act, write, force, post, mark_installed, mark_dropped, acts, letter, post_each, if_so, telling, logged, mark}
use Rattle.station.specs.Coordinator.{coordinator_move, give_up_move, chase_move}
use Rattle.station.specs.Sets.{holds, members}
use Rattle.station.specs.Subordinate.{subordinate_move, inquire_move}
use Rattle.station.specs.declared.coordinator.CoordinatorEntry.{CoordinatorEntry}
use Rattle.station.specs.declared.messages.Message.{Message}
use Rattle.station.specs.declared.messages.MessageKind.{MessageKind}
use Rattle.station.specs.declared.messages.MessageKind.TheVariants as message
use Rattle.station.specs.declared.sets.StationSet.{StationSet}
use Rattle.station.specs.declared.steps.Step.TheVariants as step
use Rattle.station.specs.declared.subordinate.SubordinateEntry.{SubordinateEntry}
use Rattle.std.proofs.lemmas.List.FromFn.{length-range_with_len}
use Rattle.std.proofs.lemmas.List.Sums.{length-filter, count_by-le-length}
use Rattle.std.proofs.lemmas.Bool.Decides.{nat_tests}
use Rattle.std.specs.List.{range_with_len}

-- what acts post
abbrev act_weight : Act → ℕ
act_weight (write x) = 0
act_weight force = 0
act_weight (post m) = weight 8 m.kind
act_weight (mark_installed r) = 0
act_weight (mark_dropped r) = 0

abbrev acts_weight : List Act → ℕ
acts_weight [] = 0
acts_weight (a ∷ l) = act_weight a + acts_weight l

pub weight_some : (k : MessageKind) → 1 ≤ weight 8 k
weight_some k = grind arith

pub weight_most : (k : MessageKind) → weight 8 k ≤ 18
weight_most k = grind arith

acts_join : (l m : List Act) → acts_weight (l ++ m) ≡ acts_weight l + acts_weight m
acts_join [] m = omega arith
acts_join (a ∷ l) m = omega (arith, acts_join l m)

acts_take : (f : ℕ) (l : List Act) → acts_weight (take f l) ≤ acts_weight l
acts_take zero l = omega arith
acts_take (suc f) [] = omega arith
acts_take (suc f) (a ∷ l) = omega (arith, acts_take f l)

load_push : (p : List Message) (m : Message) → load 8 (p ++ (m ∷ [])) ≡ load 8 p + weight 8 m.kind
load_push [] m = omega arith
load_push (x ∷ p) m = omega (arith, load_push p m)

load_first : (p : List Message) → 0 < length p → load 8 (without 0 p) + weight 8 (get_or p 0 (letter message.Prepare 0 0 0)).kind ≡ load 8 p
load_first [] h = absurd (omega arith)
load_first (m ∷ p) h = omega arith

load_posted : (m : Message) (p : List Message) → load 8 (posted m p) ≤ load 8 p + weight 8 m.kind
load_posted m p = grind (arith, load_push)

load_act : (s : ℕ) (a : Act) (w : Store) → load 8 (done s a w).post ≤ load 8 w.post + act_weight a
unfolding done
load_act s a w = grind (arith, load_posted)

load_acts : (s : ℕ) (l : List Act) (w : Store) → load 8 (all_done s l w).post ≤ load 8 w.post + acts_weight l
unfolding all_done
load_acts s [] w = omega arith
load_acts s (a ∷ l) w = omega (arith, load_acts s l (done s a w), load_act s a w)

load_step : (s r : ℕ) (l : List Act) (turn : Turn) (f k : ℕ) (st : State) → load 8 (stepped s r l turn f k st).store.post ≤ load 8 st.store.post + acts_weight l
unfolding stepped journal_cut
load_step s r l turn f k st = grind (arith, load_acts s (take f l) st.store, load_acts s l st.store, acts_take f l)

fit_step : (s r : ℕ) (l : List Act) (turn : Turn) (f k : ℕ) (st : State) → (stepped s r l turn f k st).fit ≡ st.fit
unfolding stepped
fit_step s r l turn f k st = grind arith

-- posts to a set: at most eight
each_weight : (k : MessageKind) (r s : ℕ) (ts : List ℕ) → weight 8 k ≡ 2 → acts_weight (map (λ t. post (letter k r s t)) ts) ≡ 2 * length ts
each_weight k r s [] e = omega arith
each_weight k r s (t ∷ ts) e = omega (arith, each_weight k r s ts e)

few_members : (x : StationSet) → length (members x) ≤ 8
unfolding members
few_members x = omega (arith, length-filter (holds x) (range_with_len 0 8), count_by-le-length (holds x) (range_with_len 0 8), length-range_with_len 0 8)

set_weight : (k : MessageKind) (r s : ℕ) (x : StationSet) → weight 8 k ≡ 2 → acts_weight (post_each k r s x) ≤ 16
set_weight k r s x e = omega (arith, each_weight k r s (members x) e, few_members x)

if_weight : (b : Bool) (l : List Act) → acts_weight (if_so b l) ≤ acts_weight l
if_weight b l = grind arith

log_weight : (l : Logging) (x : Record) → acts_weight (logged l x) ≡ 0
log_weight l x = grind arith

mark_weight : (o : Outcome) (r : ℕ) → act_weight (mark o r) ≡ 0
mark_weight o r = grind arith

telling_weight : (o : Outcome) → weight 8 (telling o) ≡ 2
telling_weight o = grind arith

module _ (π : Answers) (s r t : ℕ) where
  enforce_weight : (o : Outcome) (c : ℕ) → acts_weight (acts π s r (step.Enforce o c)) ≤ 1
  enforce_weight o c = grind (arith, mark_weight, acts_join, if_weight)

  acknowledge_weight : (o : Outcome) (c : ℕ) → acts_weight (acts π s r (step.Acknowledge o c)) ≤ 1
  acknowledge_weight o c = grind (arith, if_weight)

  commit_weight : (x : StationSet) → acts_weight (acts π s r (step.DecideCommit x)) ≤ 16
  commit_weight x = grind (arith, set_weight)

  abort_weight : (x y : StationSet) → acts_weight (acts π s r (step.DecideAbort x y)) ≤ 16
  abort_weight x y = grind (arith, acts_join, log_weight, set_weight, if_weight)

  subordinate_weight : (e : SubordinateEntry) (k : MessageKind) → acts_weight (acts π s r (subordinate_move e k t).step) < weight 8 k
  subordinate_weight e k = grind (arith, enforce_weight, acknowledge_weight)

  coordinator_weight : (e : CoordinatorEntry) (k : MessageKind) → acts_weight (acts π s r (coordinator_move π e k t).step) < weight 8 k
  coordinator_weight e k = grind (arith, commit_weight, abort_weight, telling_weight)

  heard_weight : (xs : List Station) (k : MessageKind) → acts_weight (acts π s r (heard π xs (letter k r t s)).step) < weight 8 k
  heard_weight xs k = grind (arith, subordinate_weight, coordinator_weight)

module _ (π : Answers) where
  -- a message handed over posts less than it weighs
  load_handed : (m : Message) (f k : ℕ) (st : State) → load 8 (handed π m f k st).state.store.post < load 8 st.store.post + weight 8 m.kind
  load_handed m f k st = grind (arith, load_step, heard_weight, weight_some)

  fit_handed : (m : Message) (f k : ℕ) (st : State) → (handed π m f k st).state.fit ≡ st.fit
  fit_handed m f k st = grind (arith, fit_step)

  -- the first message, delivered where the run is fit
  pub first_is : (st : State) (f k : ℕ) → st.fit ≡ true → 0 < length st.store.post → deliver_call π 0 false f k st ≡ handed π (message_at 0 st) f k (removed 0 st)
  first_is st f k e h = grind (arith, nat_tests)

  pub load_falls : (st : State) (f k : ℕ) → st.fit ≡ true → 0 < length st.store.post → load 8 (deliver_call π 0 false f k st).state.store.post < load 8 st.store.post
  load_falls st f k e h = rw (first_is st f k e h) (grind (arith, load_handed (message_at 0 st) f k (removed 0 st), load_first))

  pub fit_first : (st : State) (f k : ℕ) → st.fit ≡ true → 0 < length st.store.post → (deliver_call π 0 false f k st).state.fit ≡ true
  fit_first st f k e h = rw (first_is st f k e h) (fit_handed (message_at 0 st) f k (removed 0 st) ∙ e)

  -- while one waits, as often as the load allows: none is left
  pub delivered_empties : (k : ℕ) (x : Progress) → x.state.fit ≡ true → load 8 x.state.store.post ≤ k → (delivered π k x).state.store.post ≡ []
  unfolding delivered
  delivered_empties zero x e h = none x.state.store.post h
    where
      none : (p : List Message) → load 8 p ≤ 0 → p ≡ []
      none [] h = refl
      none (m ∷ p) h = absurd (omega (arith, weight_some m.kind))
  delivered_empties (suc k) x e h = go (ltb 0 (length x.state.store.post)) refl (λ i. delivered_empties k (first_delivered π x) (fit_first x.state 255 0 e i) (omega (arith, load_falls x.state 255 0 e i)))
    where
      go : (b : Bool) → ltb 0 (length x.state.store.post) ≡ b → (0 < length x.state.store.post → (delivered π k (first_delivered π x)).state.store.post ≡ []) → (cond b (delivered π k (first_delivered π x)) x).state.store.post ≡ []
      go true q more = more (grind (arith, nat_tests))
      go false q more = nothing x.state.store.post q
        where
          nothing : (p : List Message) → ltb 0 (length p) ≡ false → p ≡ []
          nothing [] q = refl
          nothing (m ∷ p) q = absurd (grind (arith, nat_tests))

  -- a drained post is empty, in every state of a fit run
  pub drained_empties : (x : Progress) → x.state.fit ≡ true → (drained π x).state.store.post ≡ []
  unfolding drained
  drained_empties x e = delivered_empties (load 8 x.state.store.post) x e (omega arith)

-- one state after another: as fit, and heavier by at most n
pub record Light (n : ℕ) (st v : State) : Type 0 where
  pub fit : v.fit ≡ st.fit
  pub weighs : load 8 v.store.post ≤ load 8 st.store.post + n

module _ (π : Answers) (st : State) where
  light_asked : (n : ℕ) (qs : List (ℕ × Bool)) (done : Reply) → Light n st done.state → Light n st (asked qs st done).state
  light_asked n [] done h = h
  light_asked n (q ∷ qs) done h = grind (arith, light_asked n qs done h)

  light_given_up : (s r f k : ℕ) (e : CoordinatorEntry) → Light 16 st (if_allowed π s r (option_map (turning turn.Coordinator) (give_up_move π e)) f k st).state
  light_given_up s r f k e = grind (arith, fit_step, load_step, abort_weight)

  light_chased : (s r f k : ℕ) (e : CoordinatorEntry) → Light 16 st (if_allowed π s r (option_map (turning turn.Coordinator) (chase_move e)) f k st).state
  light_chased s r f k e = grind (arith, fit_step, load_step, set_weight, telling_weight)

  light_inquired : (s r f k : ℕ) (e : SubordinateEntry) → Light 3 st (if_allowed π s r (option_map (turning turn.Subordinate) (inquire_move e)) f k st).state
  light_inquired s r f k e = grind (arith, fit_step, load_step)

  -- to urge a coordinator adds at most 16, an inquiry 3
  pub light_urged : (e : CoordinatorEntry) (r : ℕ) → Light 16 st (urged π e r st)
  light_urged e r = grind (arith, light_asked, light_given_up, light_chased)

  pub light_inquiring : (e : SubordinateEntry) (r s : ℕ) → Light 3 st (inquired π e r s st)
  light_inquiring e r s = grind (arith, light_asked, light_inquired)
