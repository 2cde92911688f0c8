-- Settling does to the view what the ideal run's settling does, delivery by delivery.
use Rattle.std.proofs.Common.{◌≡◌, ℕ, zero, suc, ◌+◌, ◌<◌, ◌≤◌, Bool, true, false, cond, ◌&&◌, ltb, List, [], ◌∷◌, map, length, get_or, sym, refl, ap, ◌∙◌, subst, arith}
use Rattle.std.proofs.lemmas.Bool.{cond-true, true≢false, lt-ltb}
use Rattle.std.specs.List.{AllByRecursion, range_with_len}
use Rattle.presumption.specs.Answers.{Answers, Lawful}
use Rattle.station.specs.declared.coordinator.CoordinatorEntry.{CoordinatorEntry}
use Rattle.station.specs.declared.coordinator.CoordinatorEntry.TheVariants as coordinator
use Rattle.station.specs.declared.messages.Message.{Message}
use Rattle.station.specs.declared.messages.MessageKind.{MessageKind}
use Rattle.station.specs.declared.messages.MessageKind.TheVariants as message
use Rattle.station.specs.declared.subordinate.SubordinateEntry.{SubordinateEntry}
use Rattle.station.specs.declared.subordinate.SubordinateEntry.TheVariants as subordinate
use Rattle.run.specs.State.{State}
use Rattle.stations.specs.Stations.{subordinate_at}
use Rattle.assurance.proofs.Ideal as ideal
use Rattle.assurance.proofs.Every.{Full}
use Rattle.assurance.proofs.Loads.{same_drain}
use Rattle.assurance.proofs.View.{co_as, view}
use Rattle.run.specs.Answers.{answered}
use Rattle.run.specs.Calls.{reply, refuse, coordinator_of, coordinator_entry}
use Rattle.assurance.specs.declared.calls.Call.{Call}
use Rattle.assurance.specs.declared.calls.Call.TheVariants as calls
use Rattle.assurance.specs.Lists.{called, after_calls}
use Rattle.run.specs.Settling.{Progress, progress, weight, load, first_delivered, delivered, drained, urged, inquired, urging, inquiring, resolved, finished, all_finished, settled, settle_call}
use Rattle.stations.specs.Stations.{all_power}
use Rattle.assurance.proofs.Every.{full_call, full_urged, full_asked}
use Rattle.assurance.proofs.Rules.{counting_below}
use Rattle.assurance.proofs.Moves.{presumes, laws, Good, Becomes}
use Rattle.assurance.proofs.Called.{close_view, give_up_view, chase_view, reject_view, inquire_view, deliver_view, lose_view, awaited_view, cut_call_view, restart_view}
use Rattle.assurance.proofs.Opened.{open_view, powers}

weight_more : (n : ℕ) (k : MessageKind) → n ≤ 8 → weight n k ≤ weight 8 k
weight_more n message.Prepare h = omega arith
weight_more n m h = omega arith

load_more : (n : ℕ) (p : List Message) → n ≤ 8 → load n p ≤ load 8 p
load_more n [] h = omega arith
load_more n (m ∷ p) h = omega (arith, weight_more n m.kind h, load_more n p h)

module _ (π : Answers) (𝓗 : Lawful π) (n : ℕ) (two : 2 ≤ n) (eight : n ≤ 8) where
  abbrev Q : ideal.Presumption
  Q = presumes π n

  abbrev To : State → ideal.Run → Type 0
  To = Becomes π 𝓗 n two eight

  abbrev Fine : State → Type 0
  Fine = Good π 𝓗 n two eight

  -- what a call leaves is good again
  pub next_good : (st u : State) (c : ideal.Call) → Fine st → To u (ideal.call Q c (view n st)) → Fine u
  next_good st u c g t = record { shape = t.1; full = subst (Full Q (laws π 𝓗 n two eight)) (sym t.0) (full_call Q (laws π 𝓗 n two eight) c (view n st) g.full) }

  -- the first message of the ideal run
  first_is : (v : ideal.Run) (m : ideal.Message) (ms : List ideal.Message) → v.post ≡ m ∷ ms → ideal.call Q (ideal.deliver 0 false 255 0) v ≡ ideal.hand_first Q m (ideal.with_post ms v)
  first_is v m ms e =
      ap (λ (p : List ideal.Message). cond (ltb 0 (length p)) (pass (get_or p 0 (ideal.letter ideal.PREPARE 0 0 0)) (ideal.with_post (ideal.drop_at 0 p) v)) v) e
      ∙ cond-true (ltb 0 (length (m ∷ ms))) _ _ (lt-ltb 0 (length (m ∷ ms)) (omega arith))
    where
      pass : ideal.Message → ideal.Run → ideal.Run
      pass m u = cond (u.station m.receiver).power (ideal.handed Q m.kind m.revision m.receiver m.sender 255 0 u) u

  -- the same state, good, and as many deliveries
  pub record Same (x : Progress) (d : ideal.Made) : Type 0 where
    pub good : Fine x.state
    pub left : view n x.state ≡ d.left
    pub made : x.deliveries ≡ d.made

  moved_same : (x : Progress) (d e : ideal.Made) → Same x d → d ≡ e → Same x e
  moved_same x d e s q = subst (Same x) q s

  delivered_view : (k : ℕ) (x : Progress) → Fine x.state → Same (delivered π k x) (ideal.drain Q k (view n x.state).post (view n x.state) x.deliveries)
  unfolding delivered ideal.drain
  delivered_view zero x g = record { good = g; left = refl; made = refl }
  delivered_view (suc k) x g = go (λ y h. delivered_view k y h) x.state.store.post refl
    where
      go : ((y : Progress) → Fine y.state → Same (delivered π k y) (ideal.drain Q k (view n y.state).post (view n y.state) y.deliveries)) → (p : List Message) → x.state.store.post ≡ p → Same (cond (ltb 0 (length p)) (delivered π k (first_delivered π x)) x) (ideal.drain Q (suc k) p (view n x.state) x.deliveries)
      go more [] e = record { good = g; left = refl; made = refl }
      go more (m ∷ ms) e =
          let t = deliver_view π 𝓗 n two eight x.state g 0 false 255 0 in
          let q : view n (first_delivered π x).state ≡ ideal.hand_first Q m (ideal.with_post ms (view n x.state)) = t.0 ∙ first_is (view n x.state) m ms e in
          let one : x.deliveries + 1 ≡ suc x.deliveries = omega arith in
          subst (λ (y : Progress). Same y (ideal.drain Q (suc k) (m ∷ ms) (view n x.state) x.deliveries)) (sym (cond-true (ltb 0 (length (m ∷ ms))) (delivered π k (first_delivered π x)) x (lt-ltb 0 (length (m ∷ ms)) (omega arith))))
          (moved_same _ _ _ (more (first_delivered π x) (next_good x.state _ (ideal.deliver 0 false 255 0) g t)) (λ i. ideal.drain Q k (q i).post (q i) (one i)))

  drained_view : (x : Progress) → Fine x.state → Same (drained π x) (ideal.emptied Q (view n x.state) x.deliveries)
  unfolding drained ideal.emptied
  drained_view x g =
      let p = x.state.store.post in
      let v = view n x.state in
      moved_same _ _ _ (delivered_view (load 8 p) x g) (same_drain Q (laws π 𝓗 n two eight) (load 8 p) (load n p) v.post v x.deliveries (load_more n p eight) (omega arith))

  -- from progress that is the same
  drained_same : (x : Progress) (v : ideal.Run) (k : ℕ) → Fine x.state → view n x.state ≡ v → x.deliveries ≡ k → Same (drained π x) (ideal.emptied Q v k)
  drained_same x v k g e q = moved_same _ _ _ (drained_view x g) (λ i. ideal.emptied Q (e i) (q i))

  same_cond : (b : Bool) (v : ideal.Run) → cond b v v ≡ v
  same_cond true v = refl
  same_cond false v = refl

  urged_view : (r : ℕ) (st : State) → Fine st → To (urged π (coordinator_entry r st) r st) (ideal.urged Q r (view n st))
  urged_view r st g = go (coordinator_entry r st) refl
    where
      go : (e : CoordinatorEntry) → coordinator_entry r st ≡ e → To (urged π e r st) (cond ((view n st).station (coordinator_of r st)).power (ideal.nudge Q r (coordinator_of r st) (((view n st).station (coordinator_of r st)).coordinators r) (view n st)) (view n st))
      go (coordinator.Collecting x y) q =
          let t = give_up_view π 𝓗 n two eight st g r 255 0 in (
            t.0 ∙ (ap (λ (c : CoordinatorEntry). cond ((view n st).station (coordinator_of r st)).power (ideal.upon_give_up Q r (coordinator_of r st) (co_as c) 255 0 (view n st)) (view n st)) q
                ∙ sym (ap (λ (c : CoordinatorEntry). cond ((view n st).station (coordinator_of r st)).power (ideal.nudge Q r (coordinator_of r st) (co_as c) (view n st)) (view n st)) q)),
            t.1,
          )
      go (coordinator.Announcing o w) q =
          let t = chase_view π 𝓗 n two eight st g r 255 0 in (
            t.0 ∙ (ap (λ (c : CoordinatorEntry). cond ((view n st).station (coordinator_of r st)).power (ideal.upon_chase Q r (coordinator_of r st) (co_as c) 255 0 (view n st)) (view n st)) q
                ∙ sym (ap (λ (c : CoordinatorEntry). cond ((view n st).station (coordinator_of r st)).power (ideal.nudge Q r (coordinator_of r st) (co_as c) (view n st)) (view n st)) q)),
            t.1,
          )
      go e q = (sym (ap (λ (c : CoordinatorEntry). cond ((view n st).station (coordinator_of r st)).power (ideal.nudge Q r (coordinator_of r st) (co_as c) (view n st)) (view n st)) q ∙ same_cond _ (view n st)), g.shape)

  inquired_view : (r s : ℕ) (st : State) → s < n → Fine st → To (inquired π (subordinate_at st.stations s r) r s st) (ideal.asked Q r s (view n st))
  inquired_view r s st l g = go (subordinate_at st.stations s r) refl
    where
      go : (e : SubordinateEntry) → subordinate_at st.stations s r ≡ e → To (inquired π e r s st) (cond ((view n st).station s).power (ideal.upon_inquire Q r s (((view n st).station s).subordinates r) 255 0 (view n st)) (view n st))
      go subordinate.None q = (sym (ap (λ (c : SubordinateEntry). cond ((view n st).station s).power (ideal.upon_inquire Q r s c 255 0 (view n st)) (view n st)) q ∙ same_cond _ (view n st)), g.shape)
      go (subordinate.Active c) q = (sym (ap (λ (c : SubordinateEntry). cond ((view n st).station s).power (ideal.upon_inquire Q r s c 255 0 (view n st)) (view n st)) q ∙ same_cond _ (view n st)), g.shape)
      go (subordinate.Prepared c) q =
          let t = inquire_view π 𝓗 n two eight st g r s 255 0 in
          (t.0 ∙ ap (λ (b : Bool). cond (b && ((view n st).station s).power) (ideal.upon_inquire Q r s (((view n st).station s).subordinates r) 255 0 (view n st)) (view n st)) (lt-ltb s n l), t.1)

  fine_urged : (r : ℕ) (st u : State) → Fine st → To u (ideal.urged Q r (view n st)) → Fine u
  fine_urged r st u g t = record { shape = t.1; full = subst (Full Q (laws π 𝓗 n two eight)) (sym t.0) (full_urged Q (laws π 𝓗 n two eight) r (view n st) g.full) }

  fine_asked : (r s : ℕ) (st u : State) → s < n → Fine st → To u (ideal.asked Q r s (view n st)) → Fine u
  fine_asked r s st u l g t = record { shape = t.1; full = subst (Full Q (laws π 𝓗 n two eight)) (sym t.0) (full_asked Q (laws π 𝓗 n two eight) r s (view n st) l g.full) }

  resolved_view : (r : ℕ) (ss : List ℕ) → AllByRecursion (λ (s : ℕ). s < n) ss → (x : Progress) (v : ideal.Run) (k : ℕ) → Fine x.state → view n x.state ≡ v → x.deliveries ≡ k → Same (resolved π r ss x) (ideal.inquire_all Q r ss v k)
  unfolding resolved ideal.inquire_all
  resolved_view r [] h x v k g e q = record { good = g; left = e; made = q }
  resolved_view r (s ∷ ss) h x v k g e q =
      let t = inquired_view r s x.state h.0 g in
      let d = drained_same (inquiring π r s x) (ideal.asked Q r s v) k (fine_asked r s x.state _ h.0 g t) (t.0 ∙ ap (ideal.asked Q r s) e) q in
      resolved_view r ss h.1 (drained π (inquiring π r s x)) _ _ d.good d.left d.made

  finished_view : (r : ℕ) (x : Progress) (v : ideal.Run) (k : ℕ) → Fine x.state → view n x.state ≡ v → x.deliveries ≡ k → Same (finished π r x) (ideal.revise Q r v k)
  unfolding finished ideal.revise
  finished_view r x v k g e q =
      let t = urged_view r x.state g in
      let d = drained_same (urging π r x) (ideal.urged Q r v) k (fine_urged r x.state _ g t) (t.0 ∙ ap (ideal.urged Q r) e) q in
      subst (λ (m : ℕ). Same (resolved π r (range_with_len 0 m) (drained π (urging π r x))) (ideal.inquire_all Q r (range_with_len 0 n) (ideal.emptied Q (ideal.urged Q r v) k).left (ideal.emptied Q (ideal.urged Q r v) k).made)) (sym g.shape.stations)
      (resolved_view r (range_with_len 0 n) (counting_below 0 n n (omega arith)) (drained π (urging π r x)) _ _ d.good d.left d.made)

  all_finished_view : (rs : List ℕ) (x : Progress) (v : ideal.Run) (k : ℕ) → Fine x.state → view n x.state ≡ v → x.deliveries ≡ k → Same (all_finished π rs x) (ideal.revise_all Q rs v k)
  unfolding all_finished ideal.revise_all
  all_finished_view [] x v k g e q = record { good = g; left = e; made = q }
  all_finished_view (r ∷ rs) x v k g e q = let d = finished_view r x v k g e q in all_finished_view rs (finished π r x) _ _ d.good d.left d.made

  -- all of settling
  pub settled_view : (st : State) → Fine st → Same (settled π st) (ideal.settled Q (view n st))
  unfolding settled ideal.settled
  settled_view st g = let d = drained_view (progress st 0) g in all_finished_view (range_with_len 0 (length st.store.log)) (drained π (progress st 0)) _ _ d.good d.left d.made

  settle_view : (st : State) → Fine st → To (settle_call π st).state (ideal.call Q ideal.settle (view n st))
  settle_view st g =
      subst (λ (m : ℕ). To (cond st.fit (cond (all_power st.stations (range_with_len 0 m)) (reply (answered (settled π st).deliveries) (settled π st).state) (refuse 4 st)) (refuse 1 st)).state (ideal.call Q ideal.settle (view n st))) (sym g.shape.stations)
      (subst (λ (b : Bool). To (cond st.fit (cond (all_power st.stations (range_with_len 0 n)) (reply (answered (settled π st).deliveries) (settled π st).state) (refuse 4 st)) (refuse 1 st)).state (cond b (ideal.settled Q (view n st)).left (view n st))) (sym (powers n st (range_with_len 0 n) (counting_below 0 n n (omega arith))))
      (go st.fit (all_power st.stations (range_with_len 0 n)) g.shape.fit))
    where
      go : (a b : Bool) → a ≡ true → To (cond a (cond b (reply (answered (settled π st).deliveries) (settled π st).state) (refuse 4 st)) (refuse 1 st)).state (cond b (ideal.settled Q (view n st)).left (view n st))
      go false b e = absurd (true≢false (sym e))
      go true false e = (refl, g.shape)
      go true true e = let d = settled_view st g in (d.left, d.good.shape)

  -- every call
  abbrev pub call_as : Call → ideal.Call
  call_as (calls.Open c x) = ideal.open_revision c x.bits
  call_as (calls.Close r f) = ideal.close r f.acts f.kept
  call_as (calls.GiveUp r f) = ideal.give_up r f.acts f.kept
  call_as (calls.Chase r f) = ideal.chase r f.acts f.kept
  call_as (calls.Reject r s f) = ideal.reject r s f.acts f.kept
  call_as (calls.Inquire r s f) = ideal.inquire r s f.acts f.kept
  call_as (calls.Deliver i copy f) = ideal.deliver i copy f.acts f.kept
  call_as (calls.Lose i) = ideal.lose i
  call_as (calls.Cut s k) = ideal.cut s k
  call_as (calls.Restart s) = ideal.restart s
  call_as calls.Settle = ideal.settle
  call_as (calls.Awaited r) = ideal.look

  pub call_view : (c : Call) (st : State) → Fine st → To (called π c st).state (ideal.call Q (call_as c) (view n st))
  call_view (calls.Open c x) st g = open_view π 𝓗 n two eight st g c x
  call_view (calls.Close r f) st g = close_view π 𝓗 n two eight st g r f.acts f.kept
  call_view (calls.GiveUp r f) st g = give_up_view π 𝓗 n two eight st g r f.acts f.kept
  call_view (calls.Chase r f) st g = chase_view π 𝓗 n two eight st g r f.acts f.kept
  call_view (calls.Reject r s f) st g = reject_view π 𝓗 n two eight st g r s f.acts f.kept
  call_view (calls.Inquire r s f) st g = inquire_view π 𝓗 n two eight st g r s f.acts f.kept
  call_view (calls.Deliver i copy f) st g = deliver_view π 𝓗 n two eight st g i copy f.acts f.kept
  call_view (calls.Lose i) st g = lose_view π 𝓗 n two eight st g i
  call_view (calls.Cut s k) st g = cut_call_view π 𝓗 n two eight st g s k
  call_view (calls.Restart s) st g = restart_view π 𝓗 n two eight st g s
  call_view calls.Settle st g = settle_view st g
  call_view (calls.Awaited r) st g = awaited_view π 𝓗 n two eight st g r

  -- every list of calls
  pub calls_view : (cs : List Call) (st : State) → Fine st → (view n (after_calls π cs st) ≡ ideal.calls Q (map call_as cs) (view n st)) × Fine (after_calls π cs st)
  calls_view [] st g = (refl, g)
  calls_view (c ∷ cs) st g =
      let t = call_view c st g in
      let q = calls_view cs (called π c st).state (next_good st _ (call_as c) g t) in
      (q.0 ∙ ap (ideal.calls Q (map call_as cs)) t.0, q.1)
