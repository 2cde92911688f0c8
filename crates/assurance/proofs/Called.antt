-- Each call does to the view what the ideal run's call does.
use Rattle.std.proofs.Common.{◌≡◌, ℕ, ◌+◌, ◌<◌, ◌≤◌, Bool, true, false, cond, not, ◌&&◌, ◌||◌, ltb, List, [], ◌∷◌, length, get_or, Some, None, Option, sym, refl, ap, ◌∙◌, subst, inl, inr, arith, take_all}
use mathlib.Core.Path.{fun_ext}
use lib.Count.{ones}
use Rattle.std.proofs.lemmas.Bool.{cond-true, cond-false, cases_Bool, cases_lt, true≢false, lt-ltb, ltb-true, ltb-false}
use Rattle.std.proofs.lemmas.List.{get_or_past, drop_all, append-nil}
use Rattle.journal.specs.Meaning.{section}
use Rattle.journal.specs.declared.records.Kind.{Kind}
use Rattle.journal.specs.declared.records.Kind.TheVariants as kind
use Rattle.journal.specs.declared.records.Record.{Record}
use Rattle.presumption.specs.Answers.{Answers, Lawful}
use Rattle.presumption.specs.declared.outcome.Outcome.{Outcome}
use Rattle.presumption.specs.declared.outcome.Outcome.TheVariants as outcome
use Rattle.station.specs.Recovery.{first_record}
use Rattle.station.specs.Sets.{of_bits}
use Rattle.station.specs.declared.coordinator.CoordinatorEntry.{CoordinatorEntry}
use Rattle.station.specs.declared.coordinator.CoordinatorEntry.TheVariants as coordinator
use Rattle.station.specs.declared.messages.Message.{Message}
use Rattle.station.specs.declared.messages.MessageKind.TheVariants as message
use Rattle.station.specs.declared.subordinate.SubordinateEntry.{SubordinateEntry}
use Rattle.station.specs.declared.subordinate.SubordinateEntry.TheVariants as subordinate
use Rattle.run.specs.State.{State, cut_off}
use Rattle.stations.specs.Stations.{no_entries, entries_for, resumed, rebuilt, power_at, coordinator_at, subordinate_at}
use Rattle.stations.specs.declared.Entries.{Entries}
use Rattle.stations.specs.declared.Turn.TheVariants as turn
use Rattle.assurance.proofs.Ideal as ideal
use Rattle.station.specs.Acts.{letter}
use Rattle.station.specs.Coordinator.{announcing, close_move, give_up_move, chase_move, unheard}
use Rattle.assurance.proofs.Every.{Full}
use Rattle.assurance.proofs.View.{co_as, station_as, view}
use Rattle.assurance.proofs.Each.{All-get_or}
use Rattle.std.proofs.lemmas.List.FromFn.{length-map-range_with_len, get_or-map-range_with_len}
use Rattle.run.specs.Answers.{answered}
use Rattle.run.specs.Calls.{reply, refuse, moved, if_allowed, coordinator_of, coordinator_call, coordinator_entry, close_call, give_up_call, chase_call, subordinate_call, reject_call, inquire_call, heard, handed, message_at, removed, deliver_call, lose_call, cut_call, restart_call, unheard_call, turning}
use Rattle.run.specs.State.{restarted}
use Rattle.station.specs.Moves.{Move}
use Rattle.station.specs.Recovery.{resumed_coordinator, resumed_subordinate, doubt, told_by, decision, announced}
use Rattle.station.specs.Subordinate.{reject_move, inquire_move}
use Rattle.std.specs.Option.{option_map}
use Rattle.assurance.proofs.Lasting.{world}
use Rattle.assurance.proofs.Every.{full_call}
use Rattle.assurance.proofs.SafeRules.{has_legal}
use Rattle.assurance.proofs.Moves.{presumes, laws, Good, Becomes}
use Rattle.assurance.proofs.Performed.{cut_view, shape_cut, in_stations, shape_station}
use Rattle.assurance.proofs.Heard.{co_legal, sub_legal, await_all, heard_view, closes, gives_up_open, gives_up, chases, rejects, inquires}
use Rattle.assurance.proofs.View.{has_as}
use Rattle.assurance.proofs.Tidy.{Carries}
use Rattle.assurance.proofs.Invariant.{args_of}

past : {X : Type 0} (i : ℕ) (l : List X) → length l ≤ i → ideal.drop_at i l ≡ l
past i l h = rw (take_all i l h, drop_all (i + 1) l (omega arith)) (append-nil l)

-- a message handed to its receiver
module _ (π : Answers) (𝓗 : Lawful π) (n : ℕ) (two : 2 ≤ n) (eight : n ≤ 8) where
  pub handed_view : (u : State) → Good π 𝓗 n two eight u → (m : Message) → m.receiver < n → m.sender < n → m.revision < length u.store.log → (f k : ℕ)
      → Becomes π 𝓗 n two eight (handed π m f k u).state (cond ((view n u).station m.receiver).power (ideal.handed (presumes π n) m.kind m.revision m.receiver m.sender f k (view n u)) (view n u))
  handed_view u gu m a b c f k = go (power_at u.stations m.receiver)
    where
      here : ltb m.receiver n ≡ true
      here = lt-ltb _ n a

      go : (p : Bool) → Becomes π 𝓗 n two eight (cond p (moved π m.receiver m.revision (heard π u.stations m) f k u) (reply (answered 0) u)).state
          (cond (cond (ltb m.receiver n) p true) (ideal.handed (presumes π n) m.kind m.revision m.receiver m.sender f k (view n u)) (view n u))
      go true =
          let q = (heard_view π 𝓗 n two eight u gu m.revision m.receiver m.sender f k a c m.kind b).0 in
          (q.0 ∙ sym (ap (λ (d : Bool). cond (cond d true true) (ideal.handed (presumes π n) m.kind m.revision m.receiver m.sender f k (view n u)) (view n u)) here), q.1)
      go false = (sym (ap (λ (d : Bool). cond (cond d false true) (ideal.handed (presumes π n) m.kind m.revision m.receiver m.sender f k (view n u)) (view n u)) here), gu.shape)

-- the first record of a kind, and what the ideal run makes of it
abbrev Finds : Kind → ℕ → List Record → Option Record → Type 0
Finds k r l None = ideal.has k r l ≡ false
Finds k r l (Some x) = (ideal.has k r l ≡ true) × (ideal.argument_of k r l ≡ x.argument)

finds : (k : Kind) (r : ℕ) (l : List Record) → Finds k r l (first_record k r l)
unfolding first_record
finds k r [] = refl
finds k r (x ∷ l) = go (ideal.is k r x) refl (first_record k r l) (finds k r l)
  where
    go : (b : Bool) → ideal.is k r x ≡ b → (o : Option Record) → Finds k r l o → Finds k r (x ∷ l) (cond b (Some x) o)
    go true e o h = (ap (λ (c : Bool). c || ideal.has k r l) e, cond-true (ideal.is k r x) x.argument (ideal.argument_of k r l) e)
    go false e None h = ap (λ (c : Bool). c || ideal.has k r l) e ∙ h
    go false e (Some y) h = (ap (λ (c : Bool). c || ideal.has k r l) e ∙ h.0, cond-false (ideal.is k r x) x.argument (ideal.argument_of k r l) e ∙ h.1)

module _ (π : Answers) (𝓗 : Lawful π) (n : ℕ) (two : 2 ≤ n) (eight : n ≤ 8) (st : State) (g : Good π 𝓗 n two eight st) where
  abbrev V : ideal.Run
  V = view n st

  abbrev Q : ideal.Presumption
  Q = presumes π n

  abbrev To : State → ideal.Run → Type 0
  To = Becomes π 𝓗 n two eight

  unchanged : (v : ideal.Run) → v ≡ V → To st v
  unchanged v e = (sym e, g.shape)

  moved_to : (u : State) (v w : ideal.Run) → To u v → v ≡ w → To u w
  moved_to u v w t e = (t.0 ∙ e, t.1)

  -- no entry for a revision that was not opened
  no_co : (s r : ℕ) → length st.store.log ≤ r → coordinator_at st.stations s r ≡ coordinator.None
  no_co s r h = go (coordinator_at st.stations s r) refl
    where
      go : (e : CoordinatorEntry) → coordinator_at st.stations s r ≡ e → e ≡ coordinator.None
      go coordinator.None q = refl
      go (coordinator.Open x) q = absurd (omega (arith, (co_legal π 𝓗 n two eight st g s r (coordinator.Open x) q).0))
      go (coordinator.Collecting x y) q = absurd (omega (arith, (co_legal π 𝓗 n two eight st g s r (coordinator.Collecting x y) q).0))
      go (coordinator.Announcing o w) q = absurd (omega (arith, (co_legal π 𝓗 n two eight st g s r (coordinator.Announcing o w) q).0))

  no_sub : (s r : ℕ) → length st.store.log ≤ r → subordinate_at st.stations s r ≡ subordinate.None
  no_sub s r h = go (subordinate_at st.stations s r) refl
    where
      go : (e : SubordinateEntry) → subordinate_at st.stations s r ≡ e → e ≡ subordinate.None
      go subordinate.None q = refl
      go e q = absurd (omega (arith, (sub_legal π 𝓗 n two eight st g s r e q).0))

  -- a call that the coordinator carries out
  by_coordinator : (r f k : ℕ) (m : Option (Move CoordinatorEntry)) (w : ideal.Run)
      → (r < length st.store.log → To (if_allowed π (coordinator_of r st) r (option_map (turning turn.Coordinator) m) f k st).state w)
      → (length st.store.log ≤ r → w ≡ V)
      → To (coordinator_call π r m f k st).state (cond (V.station (coordinator_of r st)).power w V)
  by_coordinator r f k m w yes_so not_so = go st.fit (ltb r (length st.store.log)) (power_at st.stations (coordinator_of r st)) g.shape.fit refl
    where
      s : ℕ
      s = coordinator_of r st

      here : ltb (coordinator_of r st) n ≡ true
      here = lt-ltb _ n (g.full.near.plans r)

      go : (a b c : Bool) → a ≡ true → ltb r (length st.store.log) ≡ b
          → To (cond a (cond b (cond c (if_allowed π (coordinator_of r st) r (option_map (turning turn.Coordinator) m) f k st) (refuse 4 st)) (refuse 3 st)) (refuse 1 st)).state (cond (cond (ltb (coordinator_of r st) n) c true) w V)
      go false b c e q = absurd (true≢false (sym e))
      go true false c e q = unchanged _ (same (cond (ltb (coordinator_of r st) n) c true) (not_so (ltb-false _ _ q)))
        where
          same : (d : Bool) → w ≡ V → cond d w V ≡ V
          same true z = z
          same false z = refl
      go true true false e q = unchanged _ (ap (λ (d : Bool). cond (cond d false true) w V) here)
      go true true true e q = moved_to _ w _ (yes_so (ltb-true _ _ q)) (sym (ap (λ (d : Bool). cond (cond d true true) w V) here))

  pub close_view : (r f k : ℕ) → To (close_call π r f k st).state (ideal.call Q (ideal.close r f k) V)
  close_view r f k =
      by_coordinator r f k (close_move (coordinator_entry r st)) (ideal.upon_close Q r (coordinator_of r st) ((V.station (coordinator_of r st)).coordinators r) f k V)
      (λ l. go l (coordinator_entry r st) refl)
      (λ l. ap (λ (e : CoordinatorEntry). ideal.upon_close Q r (coordinator_of r st) (co_as e) f k V) (no_co (coordinator_of r st) r l))
    where
      go : r < length st.store.log → (e : CoordinatorEntry) → coordinator_entry r st ≡ e → To (if_allowed π (coordinator_of r st) r (option_map (turning turn.Coordinator) (close_move e)) f k st).state (ideal.upon_close Q r (coordinator_of r st) (co_as e) f k V)
      go l (coordinator.Open x) q = (closes π 𝓗 n two eight st g r (coordinator_of r st) f k (g.full.near.plans r) l x q).0
      go l e q = unchanged V refl

  pub give_up_view : (r f k : ℕ) → To (give_up_call π r f k st).state (ideal.call Q (ideal.give_up r f k) V)
  give_up_view r f k =
      by_coordinator r f k (give_up_move π (coordinator_entry r st)) (ideal.upon_give_up Q r (coordinator_of r st) ((V.station (coordinator_of r st)).coordinators r) f k V)
      (λ l. go l (coordinator_entry r st) refl)
      (λ l. ap (λ (e : CoordinatorEntry). ideal.upon_give_up Q r (coordinator_of r st) (co_as e) f k V) (no_co (coordinator_of r st) r l))
    where
      go : r < length st.store.log → (e : CoordinatorEntry) → coordinator_entry r st ≡ e → To (if_allowed π (coordinator_of r st) r (option_map (turning turn.Coordinator) (give_up_move π e)) f k st).state (ideal.upon_give_up Q r (coordinator_of r st) (co_as e) f k V)
      go l (coordinator.Open x) q = (gives_up_open π 𝓗 n two eight st g r (coordinator_of r st) f k (g.full.near.plans r) l x q).0
      go l (coordinator.Collecting x y) q = (gives_up π 𝓗 n two eight st g r (coordinator_of r st) f k (g.full.near.plans r) l x y q).0
      go l e q = unchanged V refl

  pub chase_view : (r f k : ℕ) → To (chase_call π r f k st).state (ideal.call Q (ideal.chase r f k) V)
  chase_view r f k =
      by_coordinator r f k (chase_move (coordinator_entry r st)) (ideal.upon_chase Q r (coordinator_of r st) ((V.station (coordinator_of r st)).coordinators r) f k V)
      (λ l. go l (coordinator_entry r st) refl)
      (λ l. ap (λ (e : CoordinatorEntry). ideal.upon_chase Q r (coordinator_of r st) (co_as e) f k V) (no_co (coordinator_of r st) r l))
    where
      go : r < length st.store.log → (e : CoordinatorEntry) → coordinator_entry r st ≡ e → To (if_allowed π (coordinator_of r st) r (option_map (turning turn.Coordinator) (chase_move e)) f k st).state (ideal.upon_chase Q r (coordinator_of r st) (co_as e) f k V)
      go l (coordinator.Announcing o w) q = (chases π 𝓗 n two eight st g r (coordinator_of r st) f k (g.full.near.plans r) l o w q).0
      go l e q = unchanged V refl

  -- a call that a subordinate carries out
  by_subordinate : (r s f k : ℕ) (m : Option (Move SubordinateEntry)) (w : ideal.Run)
      → (s < n → r < length st.store.log → To (if_allowed π s r (option_map (turning turn.Subordinate) m) f k st).state w)
      → (length st.store.log ≤ r → w ≡ V)
      → To (subordinate_call π r s m f k st).state (cond (ltb s n && (V.station s).power) w V)
  by_subordinate r s f k m w yes_so not_so =
      subst (λ (c : ℕ). To (cond st.fit (cond (ltb s c) (cond (ltb r (length st.store.log)) (cond (power_at st.stations s) (if_allowed π s r (option_map (turning turn.Subordinate) m) f k st) (refuse 4 st)) (refuse 3 st)) (refuse 2 st)) (refuse 1 st)).state (cond (ltb s n && (V.station s).power) w V)) (sym g.shape.stations)
      (go st.fit (ltb s n) (ltb r (length st.store.log)) (power_at st.stations s) g.shape.fit refl refl)
    where
      go : (a b c d : Bool) → a ≡ true → ltb s n ≡ b → ltb r (length st.store.log) ≡ c
          → To (cond a (cond b (cond c (cond d (if_allowed π s r (option_map (turning turn.Subordinate) m) f k st) (refuse 4 st)) (refuse 3 st)) (refuse 2 st)) (refuse 1 st)).state (cond (b && cond b d true) w V)
      go false b c d e p q = absurd (true≢false (sym e))
      go true false c d e p q = unchanged _ refl
      go true true false true e p q = unchanged _ (not_so (ltb-false _ _ q))
      go true true false false e p q = unchanged _ refl
      go true true true false e p q = unchanged _ refl
      go true true true true e p q = yes_so (ltb-true _ _ p) (ltb-true _ _ q)

  pub reject_view : (r s f k : ℕ) → To (reject_call π r s f k st).state (ideal.call Q (ideal.reject r s f k) V)
  reject_view r s f k =
      by_subordinate r s f k (reject_move (subordinate_at st.stations s r)) (ideal.upon_reject Q r s ((V.station s).subordinates r) f k V)
      (λ h l. go h l (subordinate_at st.stations s r) refl)
      (λ l. ap (λ (e : SubordinateEntry). ideal.upon_reject Q r s e f k V) (no_sub s r l))
    where
      go : s < n → r < length st.store.log → (e : SubordinateEntry) → subordinate_at st.stations s r ≡ e → To (if_allowed π s r (option_map (turning turn.Subordinate) (reject_move e)) f k st).state (ideal.upon_reject Q r s e f k V)
      go h l (subordinate.Active c) q = (rejects π 𝓗 n two eight st g r s f k h l c q).0
      go h l e q = unchanged V refl

  pub inquire_view : (r s f k : ℕ) → To (inquire_call π r s f k st).state (ideal.call Q (ideal.inquire r s f k) V)
  inquire_view r s f k =
      by_subordinate r s f k (inquire_move (subordinate_at st.stations s r)) (ideal.upon_inquire Q r s ((V.station s).subordinates r) f k V)
      (λ h l. go h l (subordinate_at st.stations s r) refl)
      (λ l. ap (λ (e : SubordinateEntry). ideal.upon_inquire Q r s e f k V) (no_sub s r l))
    where
      go : s < n → r < length st.store.log → (e : SubordinateEntry) → subordinate_at st.stations s r ≡ e → To (if_allowed π s r (option_map (turning turn.Subordinate) (inquire_move e)) f k st).state (ideal.upon_inquire Q r s e f k V)
      go h l (subordinate.Prepared c) q = (inquires π 𝓗 n two eight st g r s f k h l c q).0
      go h l e q = unchanged V refl

  -- deliveries and losses
  left_view : (i : ℕ) (copy : Bool) → view n (cond copy st (removed i st)) ≡ ideal.with_post (cond copy V.post (ideal.drop_at i V.post)) V
  left_view i true = refl
  left_view i false = refl

  left_good : (i : ℕ) (copy : Bool) → Good π 𝓗 n two eight (cond copy st (removed i st))
  left_good i true = g
  left_good i false =
      record {
        shape = record { fit = g.shape.fit; some = g.shape.some; small = g.shape.small; stations = g.shape.stations; journals = g.shape.journals; wide = g.shape.wide; entries = g.shape.entries; sets = g.shape.sets };
        full = subst (Full Q (laws π 𝓗 n two eight)) (sym (left_view i false)) (full_call Q (laws π 𝓗 n two eight) (ideal.lose i) V g.full);
      }

  left_log : (i : ℕ) (copy : Bool) → length (cond copy st (removed i st)).store.log ≡ length st.store.log
  left_log i true = refl
  left_log i false = refl

  abbrev Passes : ℕ → ℕ → ideal.Message → ideal.Run → ideal.Run
  Passes f k m u = cond (u.station m.receiver).power (ideal.handed Q m.kind m.revision m.receiver m.sender f k u) u

  delivers : (i : ℕ) (copy : Bool) (f k : ℕ) → i < length st.store.post → To (handed π (message_at i st) f k (cond copy st (removed i st))).state (Passes f k (message_at i st) (ideal.with_post (cond copy V.post (ideal.drop_at i V.post)) V))
  delivers i copy f k lt =
      let m = message_at i st in
      let legal = All-get_or _ V.post i (letter message.Prepare 0 0 0) lt g.full.inv.safe.msgs in
      let near = All-get_or _ V.post i (letter message.Prepare 0 0 0) lt g.full.near.posts in
      moved_to (handed π m f k (cond copy st (removed i st))).state (Passes f k m (view n (cond copy st (removed i st)))) _
      (handed_view π 𝓗 n two eight (cond copy st (removed i st)) (left_good i copy) m near.1 near.0 (subst (λ (c : ℕ). m.revision < c) (sym (left_log i copy)) legal.0) f k)
      (ap (Passes f k m) (left_view i copy))

  pub deliver_view : (i : ℕ) (copy : Bool) (f k : ℕ) → To (deliver_call π i copy f k st).state (ideal.call Q (ideal.deliver i copy f k) V)
  deliver_view i copy f k =
      go st.fit (ltb i (length st.store.post)) g.shape.fit refl
    where
      go : (a b : Bool) → a ≡ true → ltb i (length st.store.post) ≡ b
          → To (cond a (cond b (handed π (message_at i st) f k (cond copy st (removed i st))) (refuse 7 st)) (refuse 1 st)).state (cond b (Passes f k (get_or V.post i (ideal.letter ideal.PREPARE 0 0 0)) (ideal.with_post (cond copy V.post (ideal.drop_at i V.post)) V)) V)
      go false b e q = absurd (true≢false (sym e))
      go true false e q = unchanged V refl
      go true true e q = delivers i copy f k (ltb-true _ _ q)

  pub lose_view : (i : ℕ) → To (lose_call i st).state (ideal.call Q (ideal.lose i) V)
  lose_view i = go st.fit (ltb i (length st.store.post)) g.shape.fit refl
    where
      go : (a b : Bool) → a ≡ true → ltb i (length st.store.post) ≡ b → To (cond a (cond b (reply (answered 0) (removed i st)) (refuse 7 st)) (refuse 1 st)).state (ideal.with_post (ideal.drop_at i V.post) V)
      go false b e q = absurd (true≢false (sym e))
      go true false e q = unchanged _ (ap (λ (l : List ideal.Message). ideal.with_post l V) (past i V.post (omega (arith, ltb-false i (length st.store.post) q))))
      go true true e q = (left_view i false, (left_good i false).shape)

  -- a question changes nothing
  pub awaited_view : (r : ℕ) → To (unheard_call r st).state (ideal.call Q ideal.look V)
  awaited_view r = go st.fit (ltb r (length st.store.log))
    where
      go : (a b : Bool) → To (cond a (cond b (reply (answered (ones (unheard (coordinator_entry r st)).bits)) st) (refuse 3 st)) (refuse 1 st)).state V
      go false b = unchanged V refl
      go true false = unchanged V refl
      go true true = unchanged V refl

  -- cuts and restarts
  pub cut_call_view : (s k : ℕ) → To (cut_call s k st).state (ideal.call Q (ideal.cut s k) V)
  cut_call_view s k =
      subst (λ (c : ℕ). To (cond st.fit (cond (ltb s c) (cond (power_at st.stations s) (reply (answered 0) (cut_off s k st)) (refuse 4 st)) (refuse 2 st)) (refuse 1 st)).state (cond (ltb s n && (V.station s).power) (ideal.at_station s (ideal.cut_station k) V) V)) (sym g.shape.stations)
      (go st.fit (ltb s n) (power_at st.stations s) g.shape.fit refl)
    where
      go : (a b c : Bool) → a ≡ true → ltb s n ≡ b → To (cond a (cond b (cond c (reply (answered 0) (cut_off s k st)) (refuse 4 st)) (refuse 2 st)) (refuse 1 st)).state (cond (b && cond b c true) (ideal.at_station s (ideal.cut_station k) V) V)
      go false b c e q = absurd (true≢false (sym e))
      go true false c e q = unchanged V refl
      go true true false e q = unchanged V refl
      go true true true e q = (cut_view n s k st (ltb-true _ _ q) g.shape, shape_cut n s k st (ltb-true _ _ q) g.shape)

  module _ (s : ℕ) (h : s < n) where
    abbrev L : List Record
    L = (section st.store.journal s).stable

    abbrev M : List ideal.Record
    M = L

    abbrev Told : ideal.Kind → ideal.Outcome → ℕ → ideal.CoordinatorEntry
    Told k o r = ideal.await o (Q.ackers o (ideal.argument_of k r M))

    set_of : (k : Kind) (r a : ℕ) → Carries k → ideal.has k r M ≡ true → ideal.argument_of k r M ≡ a → a ≡ 0 → ⊥
    set_of k r a c e q z = g.shape.sets r (has_legal Q (world V) s k r M (g.full.inv.safe.recs s).0 e).0 (sym (args_of Q (laws π 𝓗 n two eight) s V g.full.inv.safe k r c e) ∙ (q ∙ z))

    told : (k : Kind) (o : Outcome) (r : ℕ) (x : Record) → Carries k → Finds k r L (Some x) → co_as (announcing π o (of_bits x.argument)) ≡ Told k o r
    told k o r x c f = await_all π 𝓗 n two eight st g o (of_bits x.argument) (set_of k r x.argument c f.0 f.1) ∙ ap (λ (a : ℕ). ideal.await o (Q.ackers o a)) (sym f.1)

    resumed_co : (r : ℕ) → co_as (resumed_coordinator π r L) ≡ ideal.resumed Q M r
    resumed_co r = ap (λ (b : Bool). co_as (cond b coordinator.None (announced π (decision r L)))) (sym (has_as kind.End r L)) ∙ go (ideal.has ideal.kE r M) (first_record kind.Commit r L) (first_record kind.Abort r L) (first_record kind.Opening r L) (finds kind.Commit r L) (finds kind.Abort r L) (finds kind.Opening r L)
      where
        go : (b : Bool) (c a i : Option Record) → Finds kind.Commit r L c → Finds kind.Abort r L a → Finds kind.Opening r L i
            → co_as (cond b coordinator.None (announced π (told_by outcome.Commit c (told_by outcome.Abort a (told_by outcome.Abort i None))))) ≡ cond b ideal.none (ideal.outcome_of Q M r)
        go true c a i fc fa fi = refl
        go false (Some x) a i fc fa fi = told kind.Commit outcome.Commit r x tt fc ∙ sym (cond-true (ideal.has ideal.kC r M) _ _ fc.0)
        go false None (Some x) i fc fa fi = told kind.Abort outcome.Abort r x tt fa ∙ sym (cond-false (ideal.has ideal.kC r M) _ _ fc ∙ cond-true (ideal.has ideal.kA r M) _ _ fa.0)
        go false None None (Some x) fc fa fi = told kind.Opening outcome.Abort r x tt fi ∙ sym (cond-false (ideal.has ideal.kC r M) _ _ fc ∙ (cond-false (ideal.has ideal.kA r M) _ _ fa ∙ cond-true (ideal.has ideal.kI r M) _ _ fi.0))
        go false None None None fc fa fi = sym (cond-false (ideal.has ideal.kC r M) _ _ fc ∙ (cond-false (ideal.has ideal.kA r M) _ _ fa ∙ cond-false (ideal.has ideal.kI r M) _ _ fi))

    resumed_sub : (r : ℕ) → (resumed_subordinate r L) ≡ ideal.doubtful Q M r
    resumed_sub r = (λ i. (doubt (first_record kind.Prepared r L) (sym (has_as kind.Committed r L) i || sym (has_as kind.Aborted r L) i))) ∙ go (first_record kind.Prepared r L) (ideal.has ideal.kc r M || ideal.has ideal.ka r M) (finds kind.Prepared r L)
      where
        go : (o : Option Record) (b : Bool) → Finds kind.Prepared r L o → (doubt o b) ≡ cond (ideal.has ideal.kp r M && not b) (ideal.Prepared (ideal.argument_of ideal.kp r M)) ideal.idle
        go None b f = ap (λ (c : Bool). cond (c && not b) (ideal.Prepared (ideal.argument_of ideal.kp r M)) ideal.idle) (sym f)
        go (Some x) true f = ap (λ (c : Bool). cond (c && false) (ideal.Prepared (ideal.argument_of ideal.kp r M)) ideal.idle) (sym f.0)
        go (Some x) false f = λ i. cond (sym f.0 i && true) (ideal.Prepared (sym f.1 i)) ideal.idle

    -- no record is for a revision past the last
    none_past : (r : ℕ) → 32 ≤ r → (k : ideal.Kind) → ideal.has k r M ≡ false
    none_past r b k = elim (cases_Bool (ideal.has k r M)) [ inl e ↦ absurd (omega (arith, (has_legal Q (world V) s k r M (g.full.inv.safe.recs s).0 e).0, g.full.cap)) | inr e ↦ e ]

    co_past : (r : ℕ) → 32 ≤ r → ideal.none ≡ ideal.resumed Q M r
    co_past r b = let z = none_past r b in sym (cond-false (ideal.has ideal.kE r M) _ _ (z ideal.kE) ∙ (cond-false (ideal.has ideal.kC r M) _ _ (z ideal.kC) ∙ (cond-false (ideal.has ideal.kA r M) _ _ (z ideal.kA) ∙ cond-false (ideal.has ideal.kI r M) _ _ (z ideal.kI))))

    sub_past : (r : ℕ) → 32 ≤ r → ideal.idle ≡ ideal.doubtful Q M r
    sub_past r b = ap (λ (c : Bool). cond (c && not (ideal.has ideal.kc r M || ideal.has ideal.ka r M)) (ideal.Prepared (ideal.argument_of ideal.kp r M)) ideal.idle) (sym (none_past r b ideal.kp))

    rebuilt_entries : length (rebuilt π L).entries ≡ 32
    unfolding rebuilt
    rebuilt_entries = length-map-range_with_len (resumed π L) 0 32

    rebuilt_at : (r : ℕ) → r < 32 → entries_for r (rebuilt π L) ≡ resumed π L r
    unfolding rebuilt
    rebuilt_at r l = get_or-map-range_with_len (resumed π L) 0 32 r r no_entries l (omega arith)

    rebuilt_past : (r : ℕ) → 32 ≤ r → entries_for r (rebuilt π L) ≡ no_entries
    rebuilt_past r l = get_or_past (rebuilt π L).entries r no_entries (omega (arith, rebuilt_entries))

    rebuilt_as : station_as n s (section st.store.journal s) (rebuilt π L) ≡ ideal.restarted_station Q (V.station s)
    unfolding rebuilt
    rebuilt_as =
        λ i. record {
          power = ap (λ (c : Bool). cond c true true) (lt-ltb s n h) i;
          stable = M;
          loose = (V.station s).loose;
          coordinators = fun_ext (λ r. elim (cases_lt r 32) [
            | inl l ↦ ap (λ (z : Entries). co_as z.coordinator) (rebuilt_at r l) ∙ resumed_co r
            | inr l ↦ ap (λ (z : Entries). co_as z.coordinator) (rebuilt_past r l) ∙ co_past r l
          ]) i;
          subordinates = fun_ext (λ r. elim (cases_lt r 32) [
            | inl l ↦ ap (λ (z : Entries). z.subordinate) (rebuilt_at r l) ∙ resumed_sub r
            | inr l ↦ ap (λ (z : Entries). z.subordinate) (rebuilt_past r l) ∙ sub_past r l
          ]) i;
        }

    restarts : To (restarted π s st) (ideal.at_station s (ideal.restarted_station Q) V)
    restarts = (
      ap (λ (f : ℕ → ideal.Station). record { station = f; post = V.post; plan = V.plan; count = V.count; installed_at = V.installed_at; dropped_at = V.dropped_at }) (in_stations n (rebuilt π L) (ideal.restarted_station Q (V.station s)) s st h g.shape rebuilt_as),
      shape_station n (rebuilt π L) s st h rebuilt_entries g.shape,
    )

  pub restart_view : (s : ℕ) → To (restart_call π s st).state (ideal.call Q (ideal.restart s) V)
  restart_view s =
      subst (λ (c : ℕ). To (cond st.fit (cond (ltb s c) (cond (not (power_at st.stations s)) (reply (answered 0) (restarted π s st)) (refuse 8 st)) (refuse 2 st)) (refuse 1 st)).state (cond (ltb s n && not (V.station s).power) (ideal.at_station s (ideal.restarted_station Q) V) V)) (sym g.shape.stations)
      (go st.fit (ltb s n) (power_at st.stations s) g.shape.fit refl)
    where
      go : (a b c : Bool) → a ≡ true → ltb s n ≡ b → To (cond a (cond b (cond (not c) (reply (answered 0) (restarted π s st)) (refuse 8 st)) (refuse 2 st)) (refuse 1 st)).state (cond (b && not (cond b c true)) (ideal.at_station s (ideal.restarted_station Q) V) V)
      go false b c e q = absurd (true≢false (sym e))
      go true false c e q = unchanged V refl
      go true true true e q = unchanged V refl
      go true true false e q = restarts s (ltb-true _ _ q)
