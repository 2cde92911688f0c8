-- A message that a station hears, and a call that it carries out, do to the view what the ideal run does.
use Rattle.std.proofs.Common.{◌≡◌, ℕ, ◌<◌, ◌≤◌, Bool, true, false, cond, not, ◌&&◌, eqb, List, [], ◌∷◌, ◌++◌, length, sym, refl, ap, ◌∙◌, subst, inl, inr, arith}
use Rattle.std.proofs.lemmas.Bool.{cond-true, cond-false, ne_eqb}
use Rattle.journal.specs.declared.records.Kind.TheVariants as kind
use Rattle.presumption.specs.Answers.{Answers, Lawful}
use Rattle.presumption.specs.declared.outcome.Outcome.{Outcome}
use Rattle.presumption.specs.declared.outcome.Outcome.TheVariants as outcome
use Rattle.station.specs.Acts.{Act, write, force, post, mark_dropped}
use Rattle.station.specs.Sets.{of_bits, with_station}
use Rattle.station.specs.declared.coordinator.CoordinatorEntry.{CoordinatorEntry}
use Rattle.station.specs.declared.coordinator.CoordinatorEntry.TheVariants as coordinator
use Rattle.station.specs.declared.messages.MessageKind.{MessageKind}
use Rattle.station.specs.declared.messages.MessageKind.TheVariants as message
use Rattle.station.specs.declared.sets.StationSet.{StationSet}
use Rattle.station.specs.declared.subordinate.SubordinateEntry.{SubordinateEntry}
use Rattle.station.specs.declared.subordinate.SubordinateEntry.TheVariants as subordinate
use Rattle.run.specs.State.{State}
use Rattle.stations.specs.Stations.{coordinator_at, subordinate_at}
use Rattle.stations.specs.declared.Turn.{Turn}
use Rattle.stations.specs.declared.Turn.TheVariants as turn
use Rattle.assurance.proofs.Ideal as ideal
use Rattle.station.specs.Acts.{acts, letter, post_each, if_so, telling, logged, open_vote, abort, acknowledge, enforce, reject, line}
use Rattle.station.specs.Coordinator.{announcing, decide_commit, decide_abort, counted, awaiting, known}
use Rattle.station.specs.Sets.{holds, empty, without_station}
use Rattle.station.specs.declared.steps.Step.{Step}
use Rattle.station.specs.declared.steps.Step.TheVariants as step
use Rattle.assurance.proofs.Sets.{del_back}
use Rattle.assurance.proofs.Rules.{Rule, acts_of, turn_of, Why}
use Rattle.assurance.proofs.Rules as rule
use Rattle.assurance.proofs.View.{co_as, view}
use Rattle.run.specs.Calls.{heard}
use Rattle.station.specs.Moves.{Move}
use Rattle.station.specs.Coordinator.{on_yes, on_no, on_ack, on_inquiry}
use Rattle.station.specs.Subordinate.{on_prepare, on_commit, on_abort}
use Rattle.assurance.proofs.Lasting.{world, CoLegal, SubLegal}
use Rattle.assurance.proofs.Moves.{presumes, Within, with_as, without_as, each_as, Good, Does, Turns, stays_co, stays_sub, by_rule, rest_co, rest_sub}

module _ (π : Answers) (𝓗 : Lawful π) (n : ℕ) (two : 2 ≤ n) (eight : n ≤ 8) (st : State) (g : Good π 𝓗 n two eight st) where
  abbrev V : ideal.Run
  V = view n st

  abbrev Q : ideal.Presumption
  Q = presumes π n

  pub co_legal : (s r : ℕ) (e : CoordinatorEntry) → coordinator_at st.stations s r ≡ e → CoLegal Q (world V) s r (co_as e)
  co_legal s r e q = subst (λ (c : ideal.CoordinatorEntry). CoLegal Q (world V) s r c) (ap co_as q) (g.full.inv.safe.cos s r)

  pub sub_legal : (s r : ℕ) (e : SubordinateEntry) → subordinate_at st.stations s r ≡ e → SubLegal Q (world V) s r e
  sub_legal s r e q = subst (λ (c : ideal.SubordinateEntry). SubLegal Q (world V) s r c) q (g.full.inv.safe.subs s r)

  pub names_within : (r a : ℕ) → a ≡ (V.plan r).names → Within n a
  names_within r a e t m = g.full.near.sets r t (subst (λ (b : ℕ). ideal.in_set b t ≡ true) e m)

  names_some : (r a : ℕ) → r < length st.store.log → a ≡ (V.plan r).names → a ≡ 0 → ⊥
  names_some r a l e z = g.shape.sets r l (sym e ∙ z)

  pub awaited_within : (s r : ℕ) (o : Outcome) (w : StationSet) → coordinator_at st.stations s r ≡ coordinator.Announcing o w → Within n w.bits
  awaited_within s r o w q t m = g.full.near.sets r t ((co_legal s r (coordinator.Announcing o w) q).4.1 t m).0

  -- who is awaited after a decision
  pub await_all : (o : Outcome) (x : StationSet) → (x.bits ≡ 0 → ⊥) → co_as (announcing π o x) ≡ ideal.await o (Q.ackers o x.bits)
  await_all o x h = go (π.acknowledges o)
    where
      go : (b : Bool) → co_as (cond b (coordinator.Announcing o x) coordinator.None) ≡ cond (eqb (cond b x.bits 0) 0) ideal.none (ideal.Announcing o (cond b x.bits 0))
      go true = sym (cond-false (eqb x.bits 0) _ _ (ne_eqb x.bits 0 h))
      go false = refl

  await_some : (x : StationSet) → co_as (cond (empty x) coordinator.None (announcing π outcome.Abort x)) ≡ ideal.await ideal.abort (Q.ackers ideal.abort x.bits)
  await_some x = go (π.acknowledges outcome.Abort) (eqb x.bits 0) refl
    where
      go : (b c : Bool) → eqb x.bits 0 ≡ c → co_as (cond c coordinator.None (cond b (coordinator.Announcing outcome.Abort x) coordinator.None)) ≡ cond (eqb (cond b x.bits 0) 0) ideal.none (ideal.Announcing ideal.abort (cond b x.bits 0))
      go true true e = sym (cond-true (eqb x.bits 0) _ _ e)
      go true false e = sym (cond-false (eqb x.bits 0) _ _ e)
      go false true e = refl
      go false false e = refl

  -- the acts of decisions, in the ideal run's words
  open_acts : (r s : ℕ) (x : StationSet) → Within n x.bits → open_vote π s r x ≡ ideal.close_acts Q r s x.bits
  open_acts r s x w = go π.opens
    where
      go : (b : Bool) → (if_so b (write (line kind.Opening r x.bits) ∷ force ∷ []) ++ post_each message.Prepare r s x)
          ≡ cond b (ideal.write (ideal.line ideal.kI r x.bits) ∷ (ideal.force ∷ ideal.send_each ideal.PREPARE r s (ideal.members n x.bits))) (ideal.send_each ideal.PREPARE r s (ideal.members n x.bits))
      go true = ap (λ (l : List ideal.Act). ideal.write (ideal.line ideal.kI r x.bits) ∷ (ideal.force ∷ l)) (each_as n message.Prepare r s x eight w)
      go false = each_as n message.Prepare r s x eight w

  abort_acts : (r s : ℕ) (x y : StationSet) → (x.bits ≡ 0 → ⊥) → Within n y.bits → abort π s r x y ≡ ideal.abort_acts Q r s x.bits y.bits
  abort_acts r s x y h w = λ i. logged π.abort_logging (line kind.Abort r x.bits) ++ (each_as n message.Abort r s y eight w i ++ go (π.acknowledges outcome.Abort) i)
    where
      go : (b : Bool) → if_so (b && empty y) (write (line kind.End r 0) ∷ []) ≡ cond (not (eqb (cond b x.bits 0) 0) && eqb (cond b y.bits 0) 0) (ideal.write (ideal.line ideal.kE r 0) ∷ []) []
      go true = ap (λ (c : Bool). cond (not c && eqb y.bits 0) (ideal.write (ideal.line ideal.kE r 0) ∷ []) []) (sym (ne_eqb x.bits 0 h))
      go false = refl

  acknowledge_acts : (o : Outcome) (r s t : ℕ) → acknowledge π s r o t ≡ ideal.ack_if Q (Q.acks o s) r s t
  acknowledge_acts o r s t = go (π.acknowledges o)
    where
      go : (b : Bool) → (if_so b (post (letter message.Ack r s t) ∷ [])) ≡ ideal.ack_if Q b r s t
      go true = refl
      go false = refl

  force_acts : (b : Bool) (l : List Act) (m : List ideal.Act) → l ≡ m → (if_so b (force ∷ []) ++ l) ≡ ideal.force_if Q b m
  force_acts true l m e = ap (λ (k : List ideal.Act). ideal.force ∷ k) e
  force_acts false l m e = e

  enforce_acts : (o : Outcome) (r s c : ℕ) → enforce π s r o c ≡ ideal.enforce_acts Q o r s c
  enforce_acts outcome.Commit r s c = ap (λ (k : List ideal.Act). ideal.installed r ∷ (ideal.write (ideal.line ideal.kc r c) ∷ k)) (force_acts (π.forces outcome.Commit) (acknowledge π s r outcome.Commit c) _ (acknowledge_acts outcome.Commit r s c))
  enforce_acts outcome.Abort r s c = ap (λ (k : List ideal.Act). ideal.dropped r ∷ (ideal.write (ideal.line ideal.ka r c) ∷ k)) (force_acts (π.forces outcome.Abort) (acknowledge π s r outcome.Abort c) _ (acknowledge_acts outcome.Abort r s c))

  reject_acts : (r s c : ℕ) → reject π r c ≡ ideal.reject_acts Q r s c
  reject_acts r s c = go (π.forces outcome.Abort)
    where
      go : (b : Bool) → (mark_dropped r ∷ write (line kind.Aborted r c) ∷ if_so b (force ∷ [])) ≡ ideal.dropped r ∷ (ideal.write (ideal.line ideal.ka r c) ∷ ideal.force_if Q b [])
      go true = refl
      go false = refl

  module _ (r s t f k : ℕ) (h : s < n) (l : r < length st.store.log) where
    abbrev Makes : Step → Turn → ideal.Run → Type 0
    Makes x tn v = Does π 𝓗 n two eight s r x tn f k st v

    ruled : (u : Rule) (x : Step) (tn : Turn) → Why Q (V.station s) r t u → (acts π s r x) ≡ acts_of Q u r s t → Turns π 𝓗 n two eight s r tn u st → Makes x tn (ideal.step s (acts_of Q u r s t) (turn_of Q u r) f k V)
    ruled u x tn = by_rule π 𝓗 n two eight u x tn r s t f k st g h l

    still_co : (e : CoordinatorEntry) → coordinator_at st.stations s r ≡ e → Makes step.Rest (turn.Coordinator e) V
    still_co e = rest_co π 𝓗 n two eight e r s f k st g h l

    still_sub : (e : SubordinateEntry) → subordinate_at st.stations s r ≡ e → Makes step.Rest (turn.Subordinate e) V
    still_sub e = rest_sub π 𝓗 n two eight e r s f k st g h l

    on_prepare_view : (e : SubordinateEntry) → subordinate_at st.stations s r ≡ e → Makes (on_prepare e t).step (turn.Subordinate (on_prepare e t).next) (ideal.upon_prepare Q r s t e f k V)
    on_prepare_view subordinate.None q = ruled rule.refuse (step.VoteNo t) (turn.Subordinate subordinate.None) tt refl (stays_sub π 𝓗 n two eight s r rule.refuse subordinate.None st q refl)
    on_prepare_view (subordinate.Active c) q = ruled (rule.vote c) (step.Prepare c t) (turn.Subordinate (subordinate.Prepared c)) q refl (inl refl)
    on_prepare_view (subordinate.Prepared c) q = ruled rule.again (step.RepeatYes (record { coordinator = c }) t) (turn.Subordinate (subordinate.Prepared c)) tt refl (stays_sub π 𝓗 n two eight s r rule.again (subordinate.Prepared c) st q refl)

    on_commit_view : (e : SubordinateEntry) → subordinate_at st.stations s r ≡ e → Makes (on_commit e t).step (turn.Subordinate (on_commit e t).next) (ideal.upon_outcome Q ideal.commit r s t e f k V)
    on_commit_view subordinate.None q = ruled (rule.confirm ideal.commit) (step.Acknowledge outcome.Commit t) (turn.Subordinate subordinate.None) tt (acknowledge_acts outcome.Commit r s t) (stays_sub π 𝓗 n two eight s r (rule.confirm ideal.commit) subordinate.None st q refl)
    on_commit_view (subordinate.Active c) q = still_sub (subordinate.Active c) q
    on_commit_view (subordinate.Prepared c) q = ruled (rule.enforce ideal.commit c) (step.Enforce outcome.Commit c) (turn.Subordinate subordinate.None) (inl q) (enforce_acts outcome.Commit r s c) (inl refl)

    on_abort_view : (e : SubordinateEntry) → subordinate_at st.stations s r ≡ e → Makes (on_abort e t).step (turn.Subordinate (on_abort e t).next) (ideal.upon_outcome Q ideal.abort r s t e f k V)
    on_abort_view subordinate.None q = ruled (rule.confirm ideal.abort) (step.Acknowledge outcome.Abort t) (turn.Subordinate subordinate.None) tt (acknowledge_acts outcome.Abort r s t) (stays_sub π 𝓗 n two eight s r (rule.confirm ideal.abort) subordinate.None st q refl)
    on_abort_view (subordinate.Active c) q = ruled (rule.enforce ideal.abort c) (step.Enforce outcome.Abort c) (turn.Subordinate subordinate.None) (inr q) (enforce_acts outcome.Abort r s c) (inl refl)
    on_abort_view (subordinate.Prepared c) q = ruled (rule.enforce ideal.abort c) (step.Enforce outcome.Abort c) (turn.Subordinate subordinate.None) (inl q) (enforce_acts outcome.Abort r s c) (inl refl)

    -- a turn to an entry, with no acts
    just : (u : Rule) (e : CoordinatorEntry) (c : ideal.CoordinatorEntry) → Why Q (V.station s) r t u → [] ≡ acts_of Q u r s t → ideal.to_coordinator r c ≡ turn_of Q u r → co_as e ≡ c → Makes step.Rest (turn.Coordinator e) (ideal.at_station s (ideal.set_coordinator r c) V)
    just u e c w a b z =
        let q = ruled u step.Rest (turn.Coordinator e) w a (inl (ap (ideal.to_coordinator r) z ∙ b)) in
        ((q.0.0 ∙ ((λ i. ideal.step s (sym a i) (sym b i) f k V) ∙ sym (rule.bare Q s (ideal.to_coordinator r c) f k V)), q.0.1), q.1)

    on_yes_view : (e : CoordinatorEntry) → t < n → coordinator_at st.stations s r ≡ e → Makes (on_yes π e t).step (turn.Coordinator (on_yes π e t).next) (ideal.upon_yes Q r s t (co_as e) f k V)
    unfolding ideal.in_set
    on_yes_view (coordinator.Collecting x y) lt q = go (holds x t)
      where
        more : (b : Bool) → Makes (cond b (decide_commit π x) (record { step = step.Rest; next = coordinator.Collecting x (with_station y t) })).step (turn.Coordinator (cond b (decide_commit π x) (record { step = step.Rest; next = coordinator.Collecting x (with_station y t) })).next)
            (cond b (ideal.step s (ideal.commit_acts Q r s x.bits) (ideal.to_coordinator r (ideal.await ideal.commit (Q.ackers ideal.commit x.bits))) f k V) (ideal.at_station s (ideal.set_coordinator r (ideal.Collecting x.bits (ideal.with_station y.bits t))) V))
        more true = ruled (rule.decide x.bits) (step.DecideCommit x) (turn.Coordinator (announcing π outcome.Commit x)) (y.bits, ap co_as q)
            (ap (λ (m : List ideal.Act). ideal.write (ideal.line ideal.kC r x.bits) ∷ (ideal.force ∷ m)) (each_as n message.Commit r s x eight (names_within r x.bits (co_legal s r (coordinator.Collecting x y) q).2)))
            (inl (ap (ideal.to_coordinator r) (await_all outcome.Commit x (names_some r x.bits l (co_legal s r (coordinator.Collecting x y) q).2))))
        more false = just (rule.joins x.bits (ideal.with_station y.bits t)) (coordinator.Collecting x (with_station y t)) (ideal.Collecting x.bits (ideal.with_station y.bits t)) (y.bits, ap co_as q) refl refl (ap (ideal.Collecting x.bits) (with_as y t (omega arith)))

        go : (b : Bool) → Makes (cond b (counted π x (with_station y t)) (record { step = step.Rest; next = coordinator.Collecting x y })).step (turn.Coordinator (cond b (counted π x (with_station y t)) (record { step = step.Rest; next = coordinator.Collecting x y })).next)
            (cond b (cond (eqb (ideal.with_station y.bits t) x.bits) (ideal.step s (ideal.commit_acts Q r s x.bits) (ideal.to_coordinator r (ideal.await ideal.commit (Q.ackers ideal.commit x.bits))) f k V) (ideal.at_station s (ideal.set_coordinator r (ideal.Collecting x.bits (ideal.with_station y.bits t))) V)) V)
        go true = subst (λ (c : ℕ). Makes (cond (eqb (with_station y t).bits x.bits) (decide_commit π x) (record { step = step.Rest; next = coordinator.Collecting x (with_station y t) })).step (turn.Coordinator (cond (eqb (with_station y t).bits x.bits) (decide_commit π x) (record { step = step.Rest; next = coordinator.Collecting x (with_station y t) })).next)
            (cond (eqb c x.bits) (ideal.step s (ideal.commit_acts Q r s x.bits) (ideal.to_coordinator r (ideal.await ideal.commit (Q.ackers ideal.commit x.bits))) f k V) (ideal.at_station s (ideal.set_coordinator r (ideal.Collecting x.bits (ideal.with_station y.bits t))) V))) (with_as y t (omega arith)) (more (eqb (with_station y t).bits x.bits))
        go false = still_co (coordinator.Collecting x y) q
    on_yes_view e lt q = still_co e q

    -- the decision to abort, for those told
    decided : (x y : StationSet) (d : ℕ) → Why Q (V.station s) r t (rule.drop x.bits d) → x.bits ≡ (V.plan r).names → Within n y.bits → y.bits ≡ d
        → Makes (decide_abort π x y).step (turn.Coordinator (decide_abort π x y).next) (ideal.decide_abort Q r s x.bits d f k V)
    decided x y d w e i z =
        ruled (rule.drop x.bits d) (step.DecideAbort x y) (turn.Coordinator (decide_abort π x y).next) w
        (abort_acts r s x y (names_some r x.bits l e) i ∙ ap (ideal.abort_acts Q r s x.bits) z)
        (inl (ap (ideal.to_coordinator r) (await_some y ∙ ap (λ (m : ℕ). ideal.await ideal.abort (Q.ackers ideal.abort m)) z)))

    on_no_view : (e : CoordinatorEntry) → t < n → coordinator_at st.stations s r ≡ e → Makes (on_no π e t).step (turn.Coordinator (on_no π e t).next) (ideal.upon_no Q r s t (co_as e) f k V)
    unfolding ideal.in_set
    on_no_view (coordinator.Collecting x y) lt q = go (holds x t)
      where
        same : x.bits ≡ (V.plan r).names
        same = (co_legal s r (coordinator.Collecting x y) q).2

        less : (without_station x t).bits ≡ ideal.without_station x.bits t
        less = without_as x t (omega arith)

        go : (b : Bool) → Makes (cond b (decide_abort π x (without_station x t)) (record { step = step.Rest; next = coordinator.Collecting x y })).step (turn.Coordinator (cond b (decide_abort π x (without_station x t)) (record { step = step.Rest; next = coordinator.Collecting x y })).next)
            (cond b (ideal.decide_abort Q r s x.bits (ideal.without_station x.bits t) f k V) V)
        go true = decided x (without_station x t) (ideal.without_station x.bits t) (inr (y.bits, ap co_as q)) same
            (λ u m. names_within r x.bits same u (del_back x.bits t u (subst (λ (c : ℕ). ideal.in_set c u ≡ true) less m))) less
        go false = still_co (coordinator.Collecting x y) q
    on_no_view e lt q = still_co e q

    on_ack_view : (e : CoordinatorEntry) → t < n → coordinator_at st.stations s r ≡ e → Makes (on_ack e t).step (turn.Coordinator (on_ack e t).next) (ideal.upon_ack Q r s t (co_as e) f k V)
    unfolding ideal.in_set
    on_ack_view (coordinator.Announcing o w) lt q = go (holds w t)
      where
        less : (without_station w t).bits ≡ ideal.without_station w.bits t
        less = without_as w t (omega arith)

        more : (b : Bool) → Makes (cond {A = Move CoordinatorEntry} b (record { step = step.End; next = coordinator.None }) (record { step = step.Rest; next = coordinator.Announcing o (without_station w t) })).step (turn.Coordinator (cond {A = Move CoordinatorEntry} b (record { step = step.End; next = coordinator.None }) (record { step = step.Rest; next = coordinator.Announcing o (without_station w t) })).next)
            (cond b (ideal.step s (ideal.write (ideal.line ideal.kE r 0) ∷ []) (ideal.to_coordinator r ideal.none) f k V) (ideal.at_station s (ideal.set_coordinator r (ideal.Announcing o (ideal.without_station w.bits t))) V))
        more true = ruled rule.finish step.End (turn.Coordinator coordinator.None) (o, w.bits, ap co_as q) refl (inl refl)
        more false = just (rule.less o (ideal.without_station w.bits t)) (coordinator.Announcing o (without_station w t)) (ideal.Announcing o (ideal.without_station w.bits t)) (w.bits, ap co_as q) refl refl (ap (ideal.Announcing o) less)

        go : (b : Bool) → Makes (cond b (awaiting o (without_station w t)) (record { step = step.Rest; next = coordinator.Announcing o w })).step (turn.Coordinator (cond b (awaiting o (without_station w t)) (record { step = step.Rest; next = coordinator.Announcing o w })).next)
            (cond b (cond (eqb (ideal.without_station w.bits t) 0) (ideal.step s (ideal.write (ideal.line ideal.kE r 0) ∷ []) (ideal.to_coordinator r ideal.none) f k V) (ideal.at_station s (ideal.set_coordinator r (ideal.Announcing o (ideal.without_station w.bits t))) V)) V)
        go true = subst (λ (c : ℕ). Makes (cond {A = Move CoordinatorEntry} (eqb (without_station w t).bits 0) (record { step = step.End; next = coordinator.None }) (record { step = step.Rest; next = coordinator.Announcing o (without_station w t) })).step (turn.Coordinator (cond {A = Move CoordinatorEntry} (eqb (without_station w t).bits 0) (record { step = step.End; next = coordinator.None }) (record { step = step.Rest; next = coordinator.Announcing o (without_station w t) })).next)
            (cond (eqb c 0) (ideal.step s (ideal.write (ideal.line ideal.kE r 0) ∷ []) (ideal.to_coordinator r ideal.none) f k V) (ideal.at_station s (ideal.set_coordinator r (ideal.Announcing o (ideal.without_station w.bits t))) V))) less (more (eqb (without_station w t).bits 0))
        go false = still_co (coordinator.Announcing o w) q
    on_ack_view e lt q = still_co e q

    on_inquiry_view : (e : CoordinatorEntry) → coordinator_at st.stations s r ≡ e → Makes (on_inquiry π e t).step (turn.Coordinator (on_inquiry π e t).next) (ideal.upon_inquiry Q r s t (co_as e) f k V)
    on_inquiry_view coordinator.None q = ruled (rule.answer π.presumed) (step.Tell (known π.presumed) t) (turn.Coordinator coordinator.None) tt refl (stays_co π 𝓗 n two eight s r (rule.answer π.presumed) coordinator.None st q refl)
    on_inquiry_view (coordinator.Announcing o w) q = ruled (rule.answer o) (step.Tell (known o) t) (turn.Coordinator (coordinator.Announcing o w)) tt refl (stays_co π 𝓗 n two eight s r (rule.answer o) (coordinator.Announcing o w) st q refl)
    on_inquiry_view e q = still_co e q

    -- a message that is heard
    pub heard_view : (m : MessageKind) → t < n → Makes (heard π st.stations (letter m r t s)).step (heard π st.stations (letter m r t s)).next (ideal.handed Q m r s t f k V)
    heard_view message.Prepare lt = on_prepare_view (subordinate_at st.stations s r) refl
    heard_view message.Yes lt = on_yes_view (coordinator_at st.stations s r) lt refl
    heard_view message.No lt = on_no_view (coordinator_at st.stations s r) lt refl
    heard_view message.Commit lt = on_commit_view (subordinate_at st.stations s r) refl
    heard_view message.Abort lt = on_abort_view (subordinate_at st.stations s r) refl
    heard_view message.Ack lt = on_ack_view (coordinator_at st.stations s r) lt refl
    heard_view message.Inquiry lt = on_inquiry_view (coordinator_at st.stations s r) refl

  -- what a station carries out when it is called
  module _ (r s f k : ℕ) (h : s < n) (l : r < length st.store.log) where
    pub closes : (x : StationSet) → coordinator_at st.stations s r ≡ coordinator.Open x
        → Makes r s s f k h l (step.OpenVote x) (turn.Coordinator (coordinator.Collecting x (of_bits 0))) (ideal.upon_close Q r s (ideal.Open x.bits) f k V)
    closes x q = ruled r s s f k h l (rule.start x.bits) (step.OpenVote x) (turn.Coordinator (coordinator.Collecting x (of_bits 0))) (ap co_as q) (open_acts r s x (names_within r x.bits (co_legal s r (coordinator.Open x) q).2)) (inl refl)

    pub gives_up_open : (x : StationSet) → coordinator_at st.stations s r ≡ coordinator.Open x
        → Makes r s s f k h l (decide_abort π x x).step (turn.Coordinator (decide_abort π x x).next) (ideal.upon_give_up Q r s (ideal.Open x.bits) f k V)
    gives_up_open x q = decided r s s f k h l x x x.bits (inl (ap co_as q)) (co_legal s r (coordinator.Open x) q).2 (names_within r x.bits (co_legal s r (coordinator.Open x) q).2) refl

    pub gives_up : (x y : StationSet) → coordinator_at st.stations s r ≡ coordinator.Collecting x y
        → Makes r s s f k h l (decide_abort π x x).step (turn.Coordinator (decide_abort π x x).next) (ideal.upon_give_up Q r s (ideal.Collecting x.bits y.bits) f k V)
    gives_up x y q = decided r s s f k h l x x x.bits (inr (y.bits, ap co_as q)) (co_legal s r (coordinator.Collecting x y) q).2 (names_within r x.bits (co_legal s r (coordinator.Collecting x y) q).2) refl

    pub chases : (o : Outcome) (w : StationSet) → coordinator_at st.stations s r ≡ coordinator.Announcing o w
        → Makes r s s f k h l (step.Chase (known o) w) (turn.Coordinator (coordinator.Announcing o w)) (ideal.upon_chase Q r s (ideal.Announcing o w.bits) f k V)
    chases o w q = ruled r s s f k h l (rule.press o w.bits) (step.Chase (known o) w) (turn.Coordinator (coordinator.Announcing o w)) (ap co_as q)
        (each_as n (telling o) r s w eight (awaited_within s r o w q))
        (stays_co π 𝓗 n two eight s r (rule.press o w.bits) (coordinator.Announcing o w) st q refl)

    pub rejects : (c : ℕ) → subordinate_at st.stations s r ≡ subordinate.Active c
        → Makes r s s f k h l (step.Reject c) (turn.Subordinate subordinate.None) (ideal.upon_reject Q r s (ideal.Active c) f k V)
    rejects c q = ruled r s s f k h l (rule.deny c) (step.Reject c) (turn.Subordinate subordinate.None) q (reject_acts r s c) (inl refl)

    pub inquires : (c : ℕ) → subordinate_at st.stations s r ≡ subordinate.Prepared c
        → Makes r s s f k h l (step.Inquire c) (turn.Subordinate (subordinate.Prepared c)) (ideal.upon_inquire Q r s (ideal.Prepared c) f k V)
    inquires c q = ruled r s s f k h l (rule.asks c) (step.Inquire c) (turn.Subordinate (subordinate.Prepared c)) q refl (stays_sub π 𝓗 n two eight s r (rule.asks c) (subordinate.Prepared c) st q refl)
