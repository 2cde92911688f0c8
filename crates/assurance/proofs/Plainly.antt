-- Settling is nothing but deliveries, give-ups, chases and inquiries.
use Rattle.std.proofs.Common.{◌≡◌, ℕ, zero, suc, Bool, true, false, cond, ltb, List, [], ◌∷◌, ◌++◌, length, sym, refl, ap, ◌∙◌}
use Rattle.std.specs.List.{AllByRecursion, range_with_len}
use Rattle.assurance.proofs.Each.{All-append}
use Rattle.presumption.specs.Answers.{Answers}
use Rattle.run.specs.Answers.{answered}
use Rattle.run.specs.Calls.{reply, refuse, coordinator_entry}
use Rattle.assurance.specs.declared.calls.Call.{Call}
use Rattle.assurance.specs.declared.calls.Call.TheVariants.{GiveUp, Chase, Inquire, Deliver, Settle}
use Rattle.assurance.specs.Lists.{lasting, called, after_calls}
use Rattle.run.specs.Settling.{Progress, progress, first_delivered, delivered, drained, urged, inquired, urging, inquiring, resolved, finished, all_finished, settled, load}
use Rattle.run.specs.State.{State}
use Rattle.stations.specs.Stations.{all_power, subordinate_at}
use Rattle.station.specs.declared.coordinator.CoordinatorEntry.{CoordinatorEntry}
use Rattle.station.specs.declared.coordinator.CoordinatorEntry.TheVariants as coordinator
use Rattle.station.specs.declared.subordinate.SubordinateEntry.{SubordinateEntry}
use Rattle.station.specs.declared.subordinate.SubordinateEntry.TheVariants as subordinate
use Rattle.assurance.specs.Writes.{Plain}

module _ (π : Answers) where
  -- plain calls lead from one state to another
  abbrev pub Leads : State → State → Type 0
  Leads st u = (more : List Call) × AllByRecursion Plain more × (u ≡ after_calls π more st)

  after_both : (a b : List Call) (st : State) → after_calls π (a ++ b) st ≡ after_calls π b (after_calls π a st)
  after_both [] b st = refl
  after_both (c ∷ a) b st = after_both a b (called π c st).state

  stays : (st : State) → Leads st st
  stays st = ([], tt, refl)

  by_call : (c : Call) → Plain c → (st : State) → Leads st (called π c st).state
  by_call c p st = (c ∷ [], (p, tt), refl)

  onward : (st u v : State) → Leads st u → Leads u v → Leads st v
  onward st u v a b = (a.0 ++ b.0, All-append Plain a.0 b.0 a.1 b.1, b.2 ∙ (ap (after_calls π b.0) a.2 ∙ sym (after_both a.0 b.0 st)))

  delivers : (k : ℕ) (x : Progress) → Leads x.state (delivered π k x).state
  unfolding delivered
  delivers zero x = stays x.state
  delivers (suc k) x = go (delivers k (first_delivered π x)) (ltb 0 (length x.state.store.post))
    where
      go : Leads (first_delivered π x).state (delivered π k (first_delivered π x)).state → (b : Bool) → Leads x.state (cond b (delivered π k (first_delivered π x)) x).state
      go more true = onward x.state (first_delivered π x).state (delivered π k (first_delivered π x)).state (by_call (Deliver 0 false lasting) tt x.state) more
      go more false = stays x.state

  drains : (x : Progress) → Leads x.state (drained π x).state
  unfolding drained
  drains x = delivers (load 8 x.state.store.post) x

  urges : (e : CoordinatorEntry) (r : ℕ) (st : State) → Leads st (urged π e r st)
  urges (coordinator.Collecting a y) r st = by_call (GiveUp r lasting) tt st
  urges (coordinator.Announcing o w) r st = by_call (Chase r lasting) tt st
  urges e r st = stays st

  inquires : (e : SubordinateEntry) (r s : ℕ) (st : State) → Leads st (inquired π e r s st)
  inquires (subordinate.Prepared c) r s st = by_call (Inquire r s lasting) tt st
  inquires e r s st = stays st

  -- a progress, then the post emptied
  then_drains : (x y : Progress) → Leads x.state y.state → Leads x.state (drained π y).state
  then_drains x y h = onward x.state y.state (drained π y).state h (drains y)

  resolves : (r : ℕ) (ss : List ℕ) (x : Progress) → Leads x.state (resolved π r ss x).state
  unfolding resolved
  resolves r [] x = stays x.state
  resolves r (s ∷ ss) x =
      let y = drained π (inquiring π r s x) in
      onward x.state y.state (resolved π r ss y).state (then_drains x (inquiring π r s x) (inquires (subordinate_at x.state.stations s r) r s x.state)) (resolves r ss y)

  finishes : (r : ℕ) (x : Progress) → Leads x.state (finished π r x).state
  unfolding finished
  finishes r x =
      let y = drained π (urging π r x) in
      onward x.state y.state (finished π r x).state (then_drains x (urging π r x) (urges (coordinator_entry r x.state) r x.state)) (resolves r (range_with_len 0 (length x.state.stations)) y)

  all_finish : (rs : List ℕ) (x : Progress) → Leads x.state (all_finished π rs x).state
  unfolding all_finished
  all_finish [] x = stays x.state
  all_finish (r ∷ rs) x = onward x.state (finished π r x).state (all_finished π rs (finished π r x)).state (finishes r x) (all_finish rs (finished π r x))

  settling : (st : State) → Leads st (settled π st).state
  unfolding settled
  settling st = onward st (drained π (progress st 0)).state (settled π st).state (drains (progress st 0)) (all_finish (range_with_len 0 (length st.store.log)) (drained π (progress st 0)))

  pub settle_plainly : (st : State) → Leads st (called π Settle st).state
  settle_plainly st = go st.fit (all_power st.stations (range_with_len 0 (length st.stations)))
    where
      go : (a b : Bool) → Leads st (cond a (cond b (reply (answered (settled π st).deliveries) (settled π st).state) (refuse 4 st)) (refuse 1 st)).state
      go false b = stays st
      go true false = stays st
      go true true = settling st
