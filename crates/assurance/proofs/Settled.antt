-- Settling brings each revision to its end, one after the other.
use Rattle.std.proofs.Common.{◌≡◌, ℕ, ◌<◌, ◌≤◌, true, not, ◌&&◌, eqb, ◌⊎◌, List, [], ◌∷◌, ◌++◌, length, sym, refl, ap, ◌∙◌, subst, inl, inr, arith}
use Rattle.std.specs.List.{AllByRecursion, range_with_len}
use Rattle.std.proofs.lemmas.Bool.{cond_both, cond-true, cases_eq, true≢false, cases_lt}
use Rattle.assurance.proofs.Ideal.{in_set, members, kC, kA, kE, kp, ka, Record, Outcome, commit, abort, CoordinatorEntry, none, Open, Collecting, Announcing, SubordinateEntry, idle, Active, Prepared, MessageKind, ABORT, ACK, INQUIRY, Message, Plan, Run, Presumption, Logging, not_at_all, with_post, Act, write, acts_done, Turn, stay, to_coordinator, turn, line, letter, send_each, outcome_mail, await, logged, end_acts, abort_acts, upon_outcome, upon_ack, upon_inquiry, upon_inquire, handed, hand_first, emptied, nudge, urged, asked, inquire_all, revise, revise_all, settled}
use Rattle.assurance.proofs.Lasting.{Got, Shut, world, head, Named, Comm, CoLegal, SubLegal}
use Rattle.assurance.proofs.Claims.{Laws}
use Rattle.assurance.proofs.SafeActs.{SafeSt}
use Rattle.assurance.proofs.SafeRules.{IsNone, has_legal, there_legal, excl}
use Rattle.assurance.proofs.Invariant.{Inv, inv_first, inv_asked, inv_urged}
use Rattle.assurance.proofs.Rules.{drop, press, For, did_handed, did_nudge, did_inquire, whole, few_members}
use Rattle.assurance.proofs.Loads.{empty, keeps_emptied}
use Rattle.assurance.proofs.Whole.{On, Aside, aside_trans, Sure, Rested, co_moved, co_now, on_did, aside_did, on_first, first_on}
use Rattle.assurance.proofs.Ranges.{Marked}
use Rattle.assurance.proofs.UnderWay.{Elem, elem_counting, elem_members, letters, letters_append, letters_sends, room_post, post_acts, post_turn, Pend, CoPend, Mild, Tri, Mid, mid_rested, mild_sends, in_sends, told, out_post, own_sub}
use Rattle.std.proofs.lemmas.List.{append-nil}

module _ (π : Presumption) (𝓛 : Laws π) where
  pub tri_of : (r c : ℕ) (v : Run) (p : List Message) (e : CoordinatorEntry) → v.post ≡ p → (v.station c).coordinators r ≡ e → AllByRecursion (Mild r c) p → length p ≤ π.size → CoPend r c e p → Tri π 𝓛 r c v
  tri_of r c v p e a b m l h = (rw a m, rw a l, rw a (subst (λ (x : CoordinatorEntry). CoPend r c x p) (sym b) h))

  letters_log : (l : Logging) (x : Record) → letters (logged l x) ≡ []
  letters_log not_at_all x = refl
  letters_log y x = refl

  letters_end : (r all d : ℕ) → letters (end_acts π r all d) ≡ []
  letters_end r all d = cond_both (not (eqb (π.ackers abort all) 0) && eqb (π.ackers abort d) 0) (write (line kE r 0) ∷ []) [] (λ (l : List Act). letters l ≡ []) (λ _. refl) (λ _. refl)

  letters_abort : (r s all d : ℕ) → letters (abort_acts π r s all d) ≡ letters (send_each ABORT r s (members π.size d))
  letters_abort r s all d =
      letters_append (logged (π.logs all) (line kA r all)) (send_each ABORT r s (members π.size d) ++ end_acts π r all d)
      ∙ (ap (λ (p : List Message). p ++ letters (send_each ABORT r s (members π.size d) ++ end_acts π r all d)) (letters_log (π.logs all) (line kA r all))
      ∙ (letters_append (send_each ABORT r s (members π.size d)) (end_acts π r all d)
      ∙ (ap (λ (p : List Message). letters (send_each ABORT r s (members π.size d)) ++ p) (letters_end r all d)
      ∙ append-nil (letters (send_each ABORT r s (members π.size d))))))

  pub few_sends : (k : MessageKind) (r s m : ℕ) → length (letters (send_each k r s (members π.size m))) ≤ π.size
  few_sends k r s m = omega (arith, letters_sends k r s (members π.size m), few_members π.size m)

  -- give up or chase: from an empty post
  module _ (r c : ℕ) (st : Run) (h : SafeSt π st) (sets : (t : ℕ) → in_set (st.plan r).names t ≡ true → t < π.size) (bare : st.post ≡ []) where
    sent : (s : ℕ) (l : List Act) (tn : Turn) → length (letters l) ≤ π.size → (turn s tn (acts_done s l st)).post ≡ letters l
    sent s l tn b = post_turn s tn (acts_done s l st) ∙ (post_acts s l st (rw bare (omega (arith, 𝓛.small))) ∙ ap (λ (p : List Message). p ++ letters l) bare)

    pend_sent : (o : Outcome) (w v : ℕ) → ((u : ℕ) → in_set w u ≡ true → in_set v u ≡ true) → ((u : ℕ) → in_set w u ≡ true → in_set (st.plan r).names u ≡ true) → Pend w o r c (letters (send_each (outcome_mail o) r c (members π.size v)))
    pend_sent o w v a b u m = inl (in_sends (outcome_mail o) r c u (members π.size v) (elem_members π.size v u (a u m) (sets u (b u m))))

    asked_of : (o : Outcome) (w : ℕ) → (st.station c).coordinators r ≡ Announcing o w → (u : ℕ) → in_set w u ≡ true → in_set (st.plan r).names u ≡ true
    asked_of o w e u m = ((subst (λ x. CoLegal π (world st) c r x) e (h.cos c r)).4.1 u m).0

    tri_nudge : (e : CoordinatorEntry) → (st.station c).coordinators r ≡ e → Tri π 𝓛 r c (nudge π r c e st)
    tri_nudge (Announcing o w) e =
        subst (Tri π 𝓛 r c) (sym (whole π 𝓛 (press o w) r c c st))
        (tri_of r c (turn c stay (acts_done c (send_each (outcome_mail o) r c (members π.size w)) st)) (letters (send_each (outcome_mail o) r c (members π.size w))) (Announcing o w) (sent c (send_each (outcome_mail o) r c (members π.size w)) stay (few_sends (outcome_mail o) r c w)) (co_moved c (send_each (outcome_mail o) r c (members π.size w)) stay st tt c r ∙ e) (mild_sends o r c (members π.size w)) (few_sends (outcome_mail o) r c w) (pend_sent o w w (λ u m. m) (asked_of o w e)))
    tri_nudge (Collecting all ys) e =
        let l = subst (λ x. CoLegal π (world st) c r x) e (h.cos c r) in
        let few : length (letters (abort_acts π r c all all)) ≤ π.size = rw (letters_abort r c all all) (few_sends ABORT r c all) in
        subst (Tri π 𝓛 r c) (sym (whole π 𝓛 (drop all all) r c c st))
        (tri_of r c (turn c (to_coordinator r (await abort (π.ackers abort all))) (acts_done c (abort_acts π r c all all) st)) (letters (send_each ABORT r c (members π.size all))) (await abort (π.ackers abort all)) (sent c (abort_acts π r c all all) (to_coordinator r (await abort (π.ackers abort all))) few ∙ letters_abort r c all all) (co_now c r (await abort (π.ackers abort all)) (abort_acts π r c all all) st) (mild_sends abort r c (members π.size all)) (few_sends ABORT r c all)
        (cond_both (eqb (π.ackers abort all) 0) none (Announcing abort (π.ackers abort all)) (λ (x : CoordinatorEntry). CoPend r c x (letters (send_each ABORT r c (members π.size all)))) (λ _. tt) (λ _. pend_sent abort (π.ackers abort all) all (λ u m. (𝓛.backer abort all u m).0) (λ u m. rw (← l.2) (𝓛.backer abort all u m).0))))
    tri_nudge v e = tri_of r c st [] v bare e tt (omega arith) tt

  mid_urged : (r : ℕ) (st : Run) → Inv π 𝓛 st → On st → ((t : ℕ) → in_set (st.plan r).names t ≡ true → t < π.size) → st.post ≡ [] → Mid π 𝓛 r (st.plan r).coordinator st (urged π r st)
  mid_urged r st h on sets bare =
      let c = (st.plan r).coordinator in
      let d = did_nudge π r c st ((st.station c).coordinators r) refl in
      let e : urged π r st ≡ nudge π r c ((st.station c).coordinators r) st = cond-true (st.station c).power _ _ (on c) in
      let side = aside_did π 𝓛 st r c c _ _ d in
      record {
        inv = inv_urged π 𝓛 r st h;
        on = rw e (on_did π 𝓛 st r c c _ _ d on);
        own = rw e (ap (λ (f : ℕ → Plan). (f r).coordinator) side.plan);
        side = rw e side;
        tri = rw e (tri_nudge r c st h.safe sets bare ((st.station c).coordinators r) refl);
      }

  -- one station asks
  abbrev head_of : List Message → Message
  head_of [] = letter ACK 0 0 0
  head_of (m ∷ l) = m

  abbrev tail_of : List Message → List Message
  tail_of [] = []
  tail_of (m ∷ l) = l

  pub full : (m : Message) (l : List Message) → m ∷ l ≡ [] → ⊥
  full m l e = grind arith

  module _ (st0 st1 : Run) (r c s : ℕ) where
    abbrev Stages : Run → Type 0
    Stages v = ((v.post ≡ letter INQUIRY r s c ∷ []) × IsNone ((st1.station c).coordinators r)) ⊎ (((o : Outcome) × (v.post ≡ letter (outcome_mail o) r c s ∷ [])) ⊎ (((v.post ≡ letter ACK r s c ∷ []) × Sure ((v.station s).subordinates r)) ⊎ ((v.post ≡ []) × Sure ((v.station s).subordinates r))))

    abbrev Parts : Run → Type 0
    Parts v = ((v.station c).coordinators r ≡ (st1.station c).coordinators r) × ((t : ℕ) → Sure ((st1.station t).subordinates r) → Sure ((v.station t).subordinates r)) × Stages v

    record Stage (v : Run) : Type 0 where
      inv : Inv π 𝓛 v
      on : On v
      own : (v.plan r).coordinator ≡ c
      side : Aside r st0 v
      parts : Parts v

    on_inquiry : (st : Run) (e : CoordinatorEntry) → (st.station c).coordinators r ≡ e → IsNone e → (st.station c).coordinators r ≡ (st1.station c).coordinators r → ((t : ℕ) → Sure ((st1.station t).subordinates r) → Sure ((st.station t).subordinates r)) → Parts (upon_inquiry π r c s e 255 0 (with_post [] st))
    on_inquiry st none e n a b = (a, b, inr (inl (π.presumed s, refl)))
    on_inquiry st v e n a b = absurd n

    on_ack : (st : Run) (e : CoordinatorEntry) → (st.station c).coordinators r ≡ e → Rested e → (st.station c).coordinators r ≡ (st1.station c).coordinators r → ((t : ℕ) → Sure ((st1.station t).subordinates r) → Sure ((st.station t).subordinates r)) → Sure ((st.station s).subordinates r) → Parts (upon_ack π r c s e 255 0 (with_post [] st))
    on_ack st (Collecting x y) e n a b q = absurd n
    on_ack st (Announcing o w) e n a b q = absurd n
    on_ack st v e n a b q = (a, b, inr (inr (inr (refl, q))))

    on_out : (o : Outcome) (st : Run) → SafeSt π st → (st.plan r).coordinator ≡ c → (st.station c).coordinators r ≡ (st1.station c).coordinators r → ((t : ℕ) → Sure ((st1.station t).subordinates r) → Sure ((st.station t).subordinates r)) → Parts (upon_outcome π o r s c ((st.station s).subordinates r) 255 0 (with_post [] st))
    on_out o st h own a b =
        let t = told π 𝓛 o r s c ((st.station s).subordinates r) (with_post [] st) refl in
        let p = out_post π 𝓛 o r s c ((st.station s).subordinates r) (with_post [] st) (omega arith) (subst (λ (x : ℕ). Rattle.assurance.proofs.UnderWay.OwnC ((st.station s).subordinates r) x) own (own_sub π 𝓛 st h s r ((st.station s).subordinates r) refl)) in
        (t.cos c r ∙ a, (λ x q. t.sures x r (b x q)), inr (inr (elim p [ inl e ↦ inl (e, t.sure) | inr e ↦ inr (e.1, t.sure) ])))

    handed_out : (o : Outcome) (st : Run) → handed π (outcome_mail o) r s c 255 0 (with_post [] st) ≡ upon_outcome π o r s c ((st.station s).subordinates r) 255 0 (with_post [] st)
    handed_out commit st = refl
    handed_out abort st = refl

    -- a delivery of a message of revision r, alone in the post
    one : (k : MessageKind) (x y : ℕ) (st : Run) → st.post ≡ letter k r x y ∷ [] → Stage st → Parts (handed π k r y x 255 0 (with_post [] st)) → Stage (hand_first π (letter k r x y) (with_post [] st))
    one k x y st e h p =
        let side : Aside r (with_post [] st) (handed π k r y x 255 0 (with_post [] st)) = aside_did π 𝓛 (with_post [] st) r y x (λ u. For π u k) _ (did_handed π k r y x 255 0 (with_post [] st)) in
        let f = first_on π 𝓛 (letter k r x y) [] st h.on in
        record {
          inv = inv_first π 𝓛 (letter k r x y) [] st (sym e) h.inv;
          on = on_first π 𝓛 (letter k r x y) [] st h.on;
          own = rw f (ap (λ (g : ℕ → Plan). (g r).coordinator) side.plan ∙ h.own);
          side = rw f (aside_trans r st0 st _ h.side (record { plan = side.plan; count = side.count; cos = side.cos; subs = side.subs }));
          parts = rw f p;
        }

    alone : (x m : Message) (ms : List Message) (st : Run) → m ∷ ms ≡ st.post → st.post ≡ x ∷ [] → Stage (hand_first π x (with_post [] st)) → Stage (hand_first π m (with_post ms st))
    alone x m ms st e p h =
        subst (λ (y : Message). Stage (hand_first π y (with_post ms st))) (sym (ap head_of (e ∙ p)))
        (subst (λ (l : List Message). Stage (hand_first π x (with_post l st))) (sym (ap tail_of (e ∙ p))) h)

    stage_first : Rested ((st1.station c).coordinators r) → (m : Message) (ms : List Message) (st : Run) → m ∷ ms ≡ st.post → Stage st → Stage (hand_first π m (with_post ms st))
    stage_first rest m ms st e h =
        elim h.parts.2 [
          | inl q ↦ alone (letter INQUIRY r s c) m ms st e q.0 (one INQUIRY s c st q.0 h (on_inquiry st ((st.station c).coordinators r) refl (subst IsNone (sym h.parts.0) q.1) h.parts.0 h.parts.1))
          | inr q ↦ elim q [
            | inl q ↦ alone (letter (outcome_mail q.0) r c s) m ms st e q.1 (one (outcome_mail q.0) c s st q.1 h (subst Parts (sym (handed_out q.0 st)) (on_out q.0 st h.inv.safe h.own h.parts.0 h.parts.1)))
            | inr q ↦ elim q [
              | inl q ↦ alone (letter ACK r s c) m ms st e q.0 (one ACK s c st q.0 h (on_ack st ((st.station c).coordinators r) refl (subst Rested (sym h.parts.0) rest) h.parts.0 h.parts.1 q.1))
              | inr q ↦ absurd (full m ms (e ∙ q.0))
            ]
          ]
        ]

    stage_sure : (v : Run) → Stage v → v.post ≡ [] → Sure ((v.station s).subordinates r)
    stage_sure v h e =
        elim h.parts.2 [
          | inl q ↦ absurd (full _ [] (sym q.0 ∙ e))
          | inr q ↦ elim q [ inl q ↦ absurd (full _ [] (sym q.1 ∙ e)) | inr q ↦ elim q [ inl q ↦ q.1 | inr q ↦ q.1 ] ]
        ]

  pub record Base (st0 : Run) (r c : ℕ) (st : Run) : Type 0 where
    pub inv : Inv π 𝓛 st
    pub on : On st
    pub own : (st.plan r).coordinator ≡ c
    pub side : Aside r st0 st
    pub bare : st.post ≡ []
    pub rest : Rested ((st.station c).coordinators r)

  -- who is prepared has a coordinator that has closed
  closed : (e : CoordinatorEntry) → Rested e → Shut e → IsNone e
  closed none a b = tt
  closed (Open x) a b = absurd b
  closed e a b = absurd a

  ask_stage : (st0 : Run) (r c s : ℕ) (st : Run) → Base st0 r c st → Stage st0 st r c s (asked π r s st)
  ask_stage st0 r c s st h =
      let e : asked π r s st ≡ upon_inquire π r s ((st.station s).subordinates r) 255 0 st = cond-true (st.station s).power _ _ (h.on s) in
      let d = did_inquire π r s 255 0 st ((st.station s).subordinates r) refl in
      let side = aside_did π 𝓛 st r s s _ _ d in
      record {
        inv = inv_asked π 𝓛 r s st h.inv;
        on = rw e (on_did π 𝓛 st r s s _ _ d h.on);
        own = rw e (ap (λ (g : ℕ → Plan). (g r).coordinator) side.plan ∙ h.own);
        side = rw e (aside_trans r st0 st _ h.side side);
        parts = rw e (go ((st.station s).subordinates r) refl);
      }
    where
      go : (x : SubordinateEntry) → (st.station s).subordinates r ≡ x → Parts st0 st r c s (upon_inquire π r s x 255 0 st)
      go (Prepared d) e =
          let l = subst (λ x. SubLegal π (world st) s r x) e (h.inv.safe.subs s r) in
          let p = has_legal π (world st) s kp r (st.station s).stable (h.inv.safe.recs s).0 l.2 in
          let n : IsNone ((st.station c).coordinators r) = closed ((st.station c).coordinators r) h.rest (subst (λ (x : ℕ). Shut ((st.station x).coordinators r)) h.own p.1.3) in
          (refl, (λ t q. q), inl (room_post (letter INQUIRY r s d) st (rw h.bare (omega arith)) ∙ (ap (λ (l : List Message). l ++ (letter INQUIRY r s d ∷ [])) h.bare ∙ ap (λ (x : ℕ). letter INQUIRY r s x ∷ []) (l.1 ∙ h.own)), n))
      go v e = (refl, (λ t q. q), inr (inr (inr (h.bare, subst Sure (sym e) tt))))

  ask_one : (st0 : Run) (r c s : ℕ) (st : Run) (k : ℕ) → Base st0 r c st → (let v = (emptied π (asked π r s st) k).left in Base st0 r c v × ((t : ℕ) → Sure ((st.station t).subordinates r) → Sure ((v.station t).subordinates r)) × Sure ((v.station s).subordinates r))
  ask_one st0 r c s st k h =
      let g = keeps_emptied π 𝓛 (Stage st0 st r c s) (stage_first st0 st r c s h.rest) (asked π r s st) k (ask_stage st0 r c s st h) in
      let e = (empty π 𝓛 (asked π r s st) k).0 in
      (record { inv = g.inv; on = g.on; own = g.own; side = g.side; bare = e; rest = subst Rested (sym g.parts.0) h.rest }, g.parts.1, stage_sure st0 st r c s _ g e)

  ask_all : (st0 : Run) (r c : ℕ) (ss : List ℕ) (st : Run) (k : ℕ) → Base st0 r c st → (let v = (inquire_all π r ss st k).left in Base st0 r c v × ((t : ℕ) → Sure ((st.station t).subordinates r) → Sure ((v.station t).subordinates r)) × ((t : ℕ) → Elem t ss → Sure ((v.station t).subordinates r)))
  unfolding inquire_all
  ask_all st0 r c [] st k h = (h, (λ t q. q), λ t q. absurd q)
  ask_all st0 r c (s ∷ ss) st k h =
      let d = emptied π (asked π r s st) k in
      let a = ask_one st0 r c s st k h in
      let b = ask_all st0 r c ss d.left d.made a.0 in
      (b.0, (λ t q. b.1 t (a.1 t q)), λ t q. elim q [ inl i ↦ b.1 t (subst (λ (x : ℕ). Sure ((d.left.station x).subordinates r)) i a.2) | inr i ↦ b.2 t i ])

  abbrev pub Done : ℕ → Run → Type 0
  Done r v = Rested ((v.station (v.plan r).coordinator).coordinators r) × ((t : ℕ) → Sure ((v.station t).subordinates r))

  pub record After (st : Run) : Type 0 where
    pub inv : Inv π 𝓛 st
    pub on : On st
    pub bare : st.post ≡ []
    pub sets : (r t : ℕ) → in_set (st.plan r).names t ≡ true → t < π.size

  pub sure_far : (st : Run) → SafeSt π st → (r t : ℕ) → (in_set (st.plan r).names t ≡ true → ⊥) → Sure ((st.station t).subordinates r)
  sure_far st h r t n = go ((st.station t).subordinates r) refl
    where
      go : (e : SubordinateEntry) → (st.station t).subordinates r ≡ e → Sure e
      go (Prepared d) e = n (has_legal π (world st) t kp r (st.station t).stable (h.recs t).0 (subst (λ x. SubLegal π (world st) t r x) e (h.subs t r)).2).1.1
      go v e = tt

  revised : (r : ℕ) (st : Run) (k : ℕ) → After st → (let v = (revise π r st k).left in After v × Done r v × Aside r st v)
  unfolding revise
  revised r st k h =
      let c = (st.plan r).coordinator in
      let m = mid_rested π 𝓛 r c st (urged π r st) k (mid_urged r st h.inv h.on (h.sets r) h.bare) in
      let d = emptied π (urged π r st) k in
      let b = ask_all st r c (range_with_len 0 π.size) d.left d.made (record { inv = m.1.inv; on = m.1.on; own = m.1.own; side = m.1.side; bare = (empty π 𝓛 (urged π r st) k).0; rest = m.0 }) in (
        record { inv = b.0.inv; on = b.0.on; bare = b.0.bare; sets = λ q t i. h.sets q t (subst (λ (g : ℕ → Plan). in_set (g q).names t ≡ true) b.0.side.plan i) },
        (
          subst (λ (x : ℕ). Rested (((inquire_all π r (range_with_len 0 π.size) d.left d.made).left.station x).coordinators r)) (sym b.0.own) b.0.rest,
          λ t. elim (cases_lt t π.size) [ inl i ↦ b.2 t (elem_counting 0 π.size t (omega arith) (omega arith)) | inr i ↦ sure_far _ b.0.inv.safe r t (λ q. (let z = h.sets r t (subst (λ (g : ℕ → Plan). in_set (g r).names t ≡ true) b.0.side.plan q) in omega arith)) ],
        ),
        b.0.side,
      )

  done_aside : (q r : ℕ) (st v : Run) → (q ≡ r → ⊥) → Aside r st v → Done q st → Done q v
  done_aside q r st v n a h = (
    subst (λ (g : ℕ → Plan). Rested ((v.station (g q).coordinator).coordinators q)) (sym a.plan) (subst Rested (sym (a.cos (st.plan q).coordinator q n)) h.0),
    λ t. subst Sure (sym (a.subs t q n)) (h.1 t),
  )

  revises : (rs : List ℕ) (st : Run) (k : ℕ) → After st → (let v = (revise_all π rs st k).left in After v × ((q : ℕ) → Done q st ⊎ Elem q rs → Done q v) × (v.count ≡ st.count))
  unfolding revise_all
  revises [] st k h = (h, (λ q d. elim d [ inl i ↦ i | inr i ↦ absurd i ]), refl)
  revises (r ∷ rs) st k h =
      let d = revise π r st k in
      let a = revised r st k h in
      let b = revises rs d.left d.made a.0 in (
        b.0,
        (λ q i. elim (cases_eq q r) [
          | inl e ↦ b.1 q (inl (subst (λ (x : ℕ). Done x d.left) (sym e) a.1))
          | inr e ↦ elim i [ inl j ↦ b.1 q (inl (done_aside q r st d.left e a.2 j)) | inr j ↦ elim j [ inl k ↦ absurd (e (sym k)) | inr k ↦ b.1 q (inr k) ] ]
        ]),
        b.2 ∙ a.2.count,
      )

  same_first : (st0 : Run) (m : Message) (ms : List Message) (st : Run) → m ∷ ms ≡ st.post → (st.plan ≡ st0.plan) × (st.count ≡ st0.count) × On st → ((hand_first π m (with_post ms st)).plan ≡ st0.plan) × ((hand_first π m (with_post ms st)).count ≡ st0.count) × On (hand_first π m (with_post ms st))
  same_first st0 m ms st e h =
      let a = aside_did π 𝓛 (with_post ms st) m.revision m.receiver m.sender (λ u. For π u m.kind) _ (did_handed π m.kind m.revision m.receiver m.sender 255 0 (with_post ms st)) in
      (rw (first_on π 𝓛 m ms st h.2) (a.plan ∙ h.0), rw (first_on π 𝓛 m ms st h.2) (a.count ∙ h.1), on_first π 𝓛 m ms st h.2)

  -- the end of a settle
  pub settles : (st : Run) → Inv π 𝓛 st → On st → ((r t : ℕ) → in_set (st.plan r).names t ≡ true → t < π.size) → (let v = (settled π st).left in After v × ((r : ℕ) → r < st.count → Done r v) × (v.count ≡ st.count))
  unfolding settled
  settles st h on sets =
      let d = emptied π st 0 in
      let s = keeps_emptied π 𝓛 (λ (v : Run). (v.plan ≡ st.plan) × (v.count ≡ st.count) × On v) (same_first st) st 0 (refl, refl, on) in
      let b = revises (range_with_len 0 st.count) d.left d.made (record { inv = keeps_emptied π 𝓛 (Inv π 𝓛) (inv_first π 𝓛) st 0 h; on = s.2; bare = (empty π 𝓛 st 0).0; sets = λ r t i. sets r t (subst (λ (g : ℕ → Plan). in_set (g r).names t ≡ true) s.0 i) }) in
      (b.0, (λ r l. b.1 r (inr (elem_counting 0 st.count r (omega arith) (omega arith)))), b.2 ∙ s.1)

  -- no entry of any station awaits anything
  pub rest_all : (v : Run) → Inv π 𝓛 v → ((r : ℕ) → r < v.count → Done r v) → (r s : ℕ) → Rested ((v.station s).coordinators r) × Sure ((v.station s).subordinates r)
  rest_all v h done r s = (go ((v.station s).coordinators r) refl, go2 ((v.station s).subordinates r) refl)
    where
      at : r < v.count → s ≡ (v.plan r).coordinator → Rested ((v.station s).coordinators r)
      at l e = subst (λ (x : ℕ). Rested ((v.station x).coordinators r)) (sym e) (done r l).0

      go : (e : CoordinatorEntry) → (v.station s).coordinators r ≡ e → Rested e
      go none e = tt
      go (Open a) e = tt
      go (Collecting a y) e = let l = subst (λ x. CoLegal π (world v) s r x) e (h.safe.cos s r) in subst Rested e (at l.0 l.1)
      go (Announcing o w) e = let l = subst (λ x. CoLegal π (world v) s r x) e (h.safe.cos s r) in subst Rested e (at l.0 l.1)

      go2 : (e : SubordinateEntry) → (v.station s).subordinates r ≡ e → Sure e
      go2 (Prepared d) e = let l = subst (λ x. SubLegal π (world v) s r x) e (h.safe.subs s r) in subst Sure e ((done r l.0).1 s)
      go2 a e = tt

  -- a committed revision is installed at every station of its set
  pub installed_all : (v : Run) → Inv π 𝓛 v → On v → Marked v → ((r s : ℕ) → Sure ((v.station s).subordinates r)) → (r t : ℕ) → Comm (world v) r → Named (world v) r t → in_set (v.installed_at r) t ≡ true
  installed_all v h on mk sure r t c n = go ((v.station t).subordinates r) refl (sure r t)
    where
      p : Got kp r (v.station t)
      p = (has_legal π (world v) (v.plan r).coordinator kC r (head (world v) r).stable (h.safe.recs (v.plan r).coordinator).0 c).1.2 t n

      go : (e : SubordinateEntry) → (v.station t).subordinates r ≡ e → Sure e → in_set (v.installed_at r) t ≡ true
      go idle e q = elim ((h.tidy t).knows (on t) r (rw e tt) p) [ inl k ↦ mk t r k | inr k ↦ absurd (excl π v h.safe r c (there_legal π (world v) t ka r (h.safe.recs t) k).2) ]
      go (Active d) e q = absurd (true≢false (sym p ∙ ((h.tidy t).fresh r (λ i. rw e at i)).0))
      go (Prepared d) e q = absurd q
