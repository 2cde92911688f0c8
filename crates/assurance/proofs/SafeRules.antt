-- What holds of one station between steps, and the steps that messages, giving up and rejecting lead to.
use Rattle.std.proofs.Common.{◌≡◌, ℕ, ◌<◌, Bool, true, false, eqb, ◌⊎◌, List, [], ◌∷◌, ◌++◌, sym, refl, ap, ◌∙◌, subst, inl, inr, arith, Some}
use Rattle.std.specs.List.{AllByRecursion}
use Rattle.assurance.proofs.Each.{All-weaker, All-append}
use Rattle.std.proofs.lemmas.Bool.{or_cases, or_left, or_right, cond_both, cond-true, cond-false, cases_Bool, true≢false, eqb-true, eq-eqb, ne_eqb, and_parts}
use Rattle.assurance.proofs.Ideal.{in_set, without_station, members, Kind, kI, kC, kA, kE, kp, kc, ka, Record, is, has, argument_of, Outcome, commit, abort, CoordinatorEntry, none, Open, Collecting, Announcing, SubordinateEntry, idle, Active, Prepared, Station, PREPARE, YES, NO, ABORT, ACK, INQUIRY, Plan, Run, Presumption, at_station, written_station, forced_station, set_coordinator, set_subordinate, marked_installed, marked_dropped, Act, write, force, send, installed, dropped, act_done, stay, to_coordinator, to_subordinate, step, line, letter, send_each, outcome_mail, outcome_kind, await, logged, end_acts, abort_acts, force_if, ack_if, enforce_acts, reject_acts, prepare_acts, upon_prepare, decide_abort, upon_no, upon_outcome, upon_ack, upon_inquiry, upon_give_up, upon_reject}
use Rattle.assurance.proofs.Lasting.{has_append, Got, No, Past, Inactive, Idle, Shut, Doom, Veto, Settled, World, world, Grow, head, Named, Comm, Abort, Heard, Asked, AllSettled, LegalOf, Legal, RecOf, RecLegal, CoLegal, SubLegal, known_grows, comm_grows, abort_grows, legal_grows, rec_grows, Decided, Reason, reason_of, reason_grows}
use Rattle.assurance.proofs.Sets.{mem_del, mem_zero, del_back}
use Rattle.assurance.proofs.Claims.{Laws}
use Rattle.assurance.proofs.SafeActs.{SafeSt, upd_same, here_in, keeps_refl, keeps_write, keeps_force, keeps_co, keeps_sub, grow_in, safe_co, safe_co_old, safe_sub}
use Rattle.assurance.proofs.SafeSteps.{OkAct, Oks, safe_step, safe_step_first, in_in}
use Rattle.assurance.proofs.Rules.{all_log, all_end, all_sends}
use Rattle.journal.specs.Records.{letter_of, kind_of}

abbrev pub Has : Kind → ℕ → Station → Type 0
Has k r x = (has k r x.stable ≡ true) ⊎ (has k r x.loose ≡ true)

abbrev pub IsNone : CoordinatorEntry → Type 0
IsNone none = Unit {0}
IsNone e = ⊥

-- who awaits somebody, or nobody, has decided
pub past_await : (o : Outcome) (a : ℕ) → Past (await o a)
past_await o a = cond_both (eqb a 0) none (Announcing o a) Past (λ _. tt) (λ _. tt)

pub shut_await : (o : Outcome) (a : ℕ) → Shut (await o a)
shut_await o a = cond_both (eqb a 0) none (Announcing o a) Shut (λ _. tt) (λ _. tt)

-- what holds of a station's own journal and entries between steps
pub record TidyS (π : Presumption) (P : ℕ → Plan) (s : ℕ) (x : Station) : Type 0 where
  pub fresh : (r : ℕ) → (Inactive (x.subordinates r) → ⊥) → No kp r x
  pub live : (r : ℕ) → (Past (x.coordinators r) → ⊥) → No kC r x
  pub calm : (r : ℕ) → (has kC r x.loose ≡ false) × (has kp r x.loose ≡ false) × (has kI r x.loose ≡ false)
  pub paid : (o : Outcome) (r : ℕ) → π.forces o s ≡ true → has (outcome_kind o) r x.loose ≡ false
  pub knows : x.power ≡ true → (r : ℕ) → Idle (x.subordinates r) → Got kp r x → Has kc r x ⊎ Has ka r x
  pub ended : x.power ≡ true → (r : ℕ) → IsNone (x.coordinators r) → Got kC r x → (t : ℕ) → in_set (P r).names t ≡ true → π.acks commit t ≡ true → Has kE r x
  pub dropt : x.power ≡ true → (r : ℕ) → IsNone (x.coordinators r) → Got kI r x → has kC r x.stable ≡ false → (t : ℕ) → in_set (P r).names t ≡ true → π.acks abort t ≡ true → Has kE r x
  pub dark : x.power ≡ false → x.loose ≡ []

-- a kind is known by its letter
named : (k : Kind) → kind_of (letter_of k) ≡ Some k
named kI = refl
named k = refl

same_letter : (a b : Kind) → letter_of a ≡ letter_of b → a ≡ b
same_letter a b e = let p = named a in let q = named b in cc

pub is_that : (k : Kind) (r : ℕ) (x : Record) → is k r x ≡ true → (x.kind ≡ k) × (x.revision ≡ r)
is_that k r x h = let b = and_parts _ _ h in (same_letter x.kind k (eqb-true _ _ b.0), eqb-true _ _ b.1)

module _ (π : Presumption) (w : World) (s : ℕ) where
  -- a record that is there is legal
  pub has_legal : (k : Kind) (r : ℕ) (l : List Record) → AllByRecursion (RecLegal π w s) l → has k r l ≡ true → (r < w.count) × RecOf π w s k r (argument_of k r l)
  has_legal k r [] h e = absurd (true≢false (sym e))
  has_legal k r (x ∷ l) h e =
      elim (cases_Bool (is k r x)) [
        | inl i ↦ (let v = is_that k r x i in rw (cond-true (is k r x) x.argument (argument_of k r l) i) (subst (λ q. (q < w.count) × RecOf π w s k q x.argument) v.1 (subst (λ j. (x.revision < w.count) × RecOf π w s j x.revision x.argument) v.0 h.0)))
        | inr i ↦ (rw (cond-false (is k r x) x.argument (argument_of k r l) i) (has_legal k r l h.1 (elim (or_cases (is k r x) (has k r l) e) [ inl j ↦ absurd (true≢false (sym j ∙ i)) | inr j ↦ j ])))
      ]

  pub there_legal : (k : Kind) (r : ℕ) → AllByRecursion (RecLegal π w s) (w.station s).stable × AllByRecursion (RecLegal π w s) (w.station s).loose → Has k r (w.station s) → (a : ℕ) × (r < w.count) × RecOf π w s k r a
  there_legal k r h (inl e) = let q = has_legal k r (w.station s).stable h.0 e in (argument_of k r (w.station s).stable, q.0, q.1)
  there_legal k r h (inr e) = let q = has_legal k r (w.station s).loose h.1 e in (argument_of k r (w.station s).loose, q.0, q.1)

module _ (π : Presumption) (st : Run) (h : SafeSt π st) where
  pub excl : (r : ℕ) → Comm (world st) r → Abort (world st) r → ⊥
  excl r c (inl d) = true≢false (sym c ∙ d.0.0)
  excl r c (inr v) =
      let q = has_legal π (world st) (st.plan r).coordinator kC r (head (world st) r).stable (h.recs (st.plan r).coordinator).0 c in
      true≢false (sym (q.1.2 v.0 v.1) ∙ v.2.0.0)

-- acts whose reasons last
module _ (π : Presumption) where
  abbrev pub Ready : World → ℕ → Act → Type 0
  Ready w s (write x) = ((r : ℕ) → is kC r x ≡ false) × ((r : ℕ) → is kp r x ≡ false) × RecLegal π w s x
  Ready w s force = Unit {0}
  Ready w s (send m) = Legal π w m
  Ready w s (installed r) = (r < w.count) × Comm w r
  Ready w s (dropped r) = (r < w.count) × Abort w r

  pub ready_grows : (w v : World) → Grow w v → (s : ℕ) (a : Act) → Ready w s a → Ready v s a
  ready_grows w v g s (write x) h = (h.0, h.1, (known_grows π w v g x.revision h.2.0, rec_grows π w v g s x.kind x.revision x.argument h.2.0 h.2.1))
  ready_grows w v g s force h = tt
  ready_grows w v g s (send m) h = (known_grows π w v g m.revision h.0, legal_grows π w v g m.kind m.revision m.sender m.receiver h.0 h.1)
  ready_grows w v g s (installed r) h = (known_grows π w v g r h.0, comm_grows π w v g r h.0 h.1)
  ready_grows w v g s (dropped r) h = (known_grows π w v g r h.0, abort_grows π w v g r h.0 h.1)

  grow_refl : (w : World) → Grow w w
  grow_refl w = record { more = omega arith; same = λ r l. refl; keep = λ s. keeps_refl w.count (w.station s) }

  pub ready_act : (s : ℕ) (a : Act) (st : Run) → Ready (world st) s a → Grow (world st) (world (act_done s a st))
  ready_act s (write x) st h = grow_in π st s (written_station x) (keeps_write st.count x (st.station s) (λ r _ _. h.0 r) (λ r _ _. h.1 r))
  ready_act s force st h = grow_in π st s forced_station (keeps_force st.count (st.station s))
  ready_act s a st h = grow_refl (world st)

  ready_ok : (s : ℕ) (a : Act) (st : Run) → Ready (world st) s a → OkAct π s a st
  ready_ok s (write x) st h = (λ r _ _. h.0 r, λ r _ _. h.1 r, h.2)
  ready_ok s force st h = tt
  ready_ok s a st h = h

  pub ready_oks : (s : ℕ) (l : List Act) (st : Run) → AllByRecursion (Ready (world st) s) l → Oks π s l st
  ready_oks s [] st h = tt
  ready_oks s (a ∷ l) st h = (ready_ok s a st h.0, ready_oks s l (act_done s a st) (All-weaker _ _ (λ b. ready_grows (world st) (world (act_done s a st)) (ready_act s a st h.0) s b) l h.1))

-- INQUIRY
module _ (π : Presumption) (𝓛 : Laws π) where
  -- where an E stands, the outcome is the one asked for, or whoever asks is settled
  by_end : (q o : Outcome) (r t : ℕ) (w : World) → Named w r t → ((p : Outcome) → (p ≡ q → ⊥) → π.acks p t ≡ true) → Decided o w r → AllSettled π o w r → Reason q w r ⊎ Settled r (w.station t)
  by_end commit commit r t w n a d h = inl d
  by_end abort abort r t w n a d h = inl (inl d)
  by_end q o r t w n a d h = inr (h t n (a o (λ e. grind arith)))

  answered : (o : Outcome) (r s t : ℕ) (st : Run) → SafeSt π st → TidyS π st.plan s (st.station s) → (st.station s).power ≡ true → IsNone ((st.station s).coordinators r) → Past ((st.station s).coordinators r) → Legal π (world st) (letter INQUIRY r t s) → π.presumed t ≡ o → Legal π (world st) (letter (outcome_mail o) r s t)
  answered commit r s t st h y on e p l q =
      let own = has_legal π (world st) t kp r (st.station t).stable (h.recs t).0 l.1.1 in
      let opened : Got kI r (st.station s) = rw l.1.0 (own.1.2 (𝓛.opening (st.plan r).names t own.1.1 q)) in
      elim (cases_Bool (has kC r (st.station s).stable)) [
        | inl c ↦ (l.0, inl (subst (λ (u : ℕ). Got kC r (st.station u)) l.1.0 c))
        | inr c ↦ (let E = y.dropt on r e opened c t own.1.1 (𝓛.commit_presumed t q) in
            let k = there_legal π (world st) s kE r (h.recs s) E in
            (l.0, by_end commit k.2.1.0 r t (world st) own.1.1 (elim [ commit ↦ λ n. absurd (n refl) | abort ↦ λ _. 𝓛.commit_presumed t q ]) k.2.1.1 k.2.1.2))
      ]
  answered abort r s t st h y on e p l q =
      let own = has_legal π (world st) t kp r (st.station t).stable (h.recs t).0 l.1.1 in
      elim (cases_Bool (has kC r (st.station s).stable)) [
        | inl c ↦ (let E = y.ended on r e c t own.1.1 (𝓛.abort_presumed t q) in
            let k = there_legal π (world st) s kE r (h.recs s) E in
            (l.0, by_end abort k.2.1.0 r t (world st) own.1.1 (elim [ commit ↦ λ _. 𝓛.abort_presumed t q | abort ↦ λ n. absurd (n refl) ]) k.2.1.1 k.2.1.2))
        | inr c ↦ (l.0, inl (inl (subst (λ (u : ℕ). Doom r (st.station u)) l.1.0 ((c, (y.calm r).0), p))))
      ]

  -- an outcome that has its reason may be told
  pub told : (o : Outcome) (r s t : ℕ) (w : World) → Reason o w r → LegalOf π w (outcome_mail o) r s t
  told commit r s t w h = inl h
  told abort r s t w h = inl h

  pub safe_inquiry : (r s t : ℕ) (e : CoordinatorEntry) (f k : ℕ) (st : Run) → SafeSt π st → TidyS π st.plan s (st.station s) → (st.station s).power ≡ true → Legal π (world st) (letter INQUIRY r t s) → (st.station s).coordinators r ≡ e → SafeSt π (upon_inquiry π r s t e f k st)
  safe_inquiry r s t none f k st h y on l e =
      safe_step π s (send (letter (outcome_mail (π.presumed t)) r s t) ∷ []) stay f k st h (answered (π.presumed t) r s t st h y on (rw e tt) (rw e tt) l refl, tt) (λ h'. h')
  safe_inquiry r s t (Open a) f k st h y on l e = h
  safe_inquiry r s t (Collecting a ys) f k st h y on l e = h
  safe_inquiry r s t (Announcing o w) f k st h y on l e =
      let c = subst (λ v. CoLegal π (world st) s r v) e (h.cos s r) in
      safe_step π s (send (letter (outcome_mail o) r s t) ∷ []) stay f k st h ((c.0, told o r s t (world st) (reason_of o (world st) r c.2)), tt) (λ h'. h')

  -- ACK at Announcing
  ended_all : (o : Outcome) (r t w : ℕ) (v : World) → Heard π o v r w → Settled r (v.station t) → without_station w t ≡ 0 → AllSettled π o v r
  ended_all o r t w v h k z u m a =
      elim (h u m a) [
        | inl i ↦ elim (mem_del w t u i) [ inl j ↦ absurd (true≢false (sym (rw z at j) ∙ mem_zero u)) | inr j ↦ rw j at k ]
        | inr i ↦ i
      ]

  heard_less : (o : Outcome) (r t w : ℕ) (v : World) → Heard π o v r w → Settled r (v.station t) → Heard π o v r (without_station w t)
  heard_less o r t w v h k u m a =
      elim (h u m a) [
        | inl i ↦ elim (mem_del w t u i) [ inl j ↦ inl j | inr j ↦ inr (rw j at k) ]
        | inr i ↦ inr i
      ]

  asked_less : (o : Outcome) (r t w : ℕ) (v : World) → Asked π o v r w → eqb (without_station w t) 0 ≡ false → Asked π o v r (without_station w t)
  asked_less o r t w v h z = (λ e. true≢false (sym (eq-eqb _ _ e) ∙ z), λ u m. h.1 u (del_back w t u m))

  pub safe_ack : (r s t : ℕ) (e : CoordinatorEntry) (f k : ℕ) (st : Run) → SafeSt π st → Settled r (st.station t) → (st.station s).coordinators r ≡ e → SafeSt π (upon_ack π r s t e f k st)
  safe_ack r s t (Announcing o w) f k st h l e =
      let c = subst (λ v. CoLegal π (world st) s r v) e (h.cos s r) in
      cond_both (in_set w t) _ st (SafeSt π)
      (λ _. cond_both (eqb (without_station w t) 0) (step s (write (line kE r 0) ∷ []) (to_coordinator r none) f k st) (at_station s (set_coordinator r (Announcing o (without_station w t))) st) (SafeSt π)
      (λ z. safe_step π s (write (line kE r 0) ∷ []) (to_coordinator r none) f k st h ((λ _ _ _. refl, λ _ _ _. refl, (c.0, (c.1, (o, c.2, ended_all o r t w (world st) c.3 l (eqb-true _ _ z))))), tt) (λ h'. safe_co_old π _ s h' r none (λ _. tt) tt tt))
      (λ z. safe_co_old π st s h r (Announcing o (without_station w t)) (λ _. tt) tt (c.0, c.1, c.2, heard_less o r t w (world st) c.3 l, asked_less o r t w (world st) c.4 z)))
      (λ _. h)
  safe_ack r s t x f k st h l e = h

  -- an outcome at a station with no entry: what it has there is stable
  quiet : (o : Outcome) (r s : ℕ) (st : Run) → SafeSt π st → TidyS π st.plan s (st.station s) → (st.station s).power ≡ true → Idle ((st.station s).subordinates r) → π.acks o s ≡ true → Reason o (world st) r ⊎ Settled r (st.station s) → Settled r (st.station s)
  quiet o r s st h y on i a (inr k) = k
  quiet o r s st h y on i a (inl k) =
      (i, elim (cases_Bool (has kp r (st.station s).stable)) [ inl p ↦ inr (held o (y.paid o r (𝓛.forcing o s a)) k (y.knows on r i p)) | inr p ↦ inl (p, (y.calm r).1) ])
    where
      held : (o : Outcome) → has (outcome_kind o) r (st.station s).loose ≡ false → Reason o (world st) r → Has kc r (st.station s) ⊎ Has ka r (st.station s) → Got kc r (st.station s) ⊎ Got ka r (st.station s)
      held o n k (inl (inl c)) = inl c
      held o n k (inr (inl c)) = inr c
      held commit n k (inl (inr c)) = absurd (true≢false (sym c ∙ n))
      held commit n k (inr (inr c)) = absurd (excl π st h r k (there_legal π (world st) s ka r (h.recs s) (inr c)).2)
      held abort n k (inl (inr c)) = absurd (excl π st h r (there_legal π (world st) s kc r (h.recs s) (inr c)).2 k)
      held abort n k (inr (inr c)) = absurd (true≢false (sym c ∙ n))

  -- decide abort for d: whoever acknowledges and is not in d is settled
  module _ (r s all d : ℕ) (f k : ℕ) (st : Run) (h : SafeSt π st) (known : r < st.count) (own : s ≡ (st.plan r).coordinator) (whole : all ≡ (st.plan r).names) (no : No kC r (st.station s)) (rest : (t : ℕ) → Named (world st) r t → π.acks abort t ≡ true → (in_set d t ≡ true) ⊎ Settled r (st.station t)) (part : (t : ℕ) → in_set d t ≡ true → in_set all t ≡ true) where
    abbrev aw : CoordinatorEntry
    aw = await abort (π.ackers abort d)

    st0 : Run
    st0 = at_station s (set_coordinator r aw) st

    g0 : Grow (world st) (world st0)
    unfolding st0
    g0 = grow_in π st s (set_coordinator r aw) (keeps_co st.count r aw (st.station s) (λ _. past_await abort (π.ackers abort d)) (shut_await abort (π.ackers abort d)))

    doomed : Doom r (head (world st0) r)
    unfolding st0
    doomed = subst (λ (u : ℕ). Doom r (st0.station u)) own (rw (here_in s (set_coordinator r aw) st) (no, rw (upd_same (st.station s).coordinators r aw) (past_await abort (π.ackers abort d))))

    rest0 : (t : ℕ) → Named (world st0) r t → π.acks abort t ≡ true → (in_set d t ≡ true) ⊎ Settled r (st0.station t)
    unfolding st0
    rest0 t m a = elim (rest t m a) [ inl i ↦ inl i | inr i ↦ inr ((g0.keep t).settled r known i) ]

    heard0 : Heard π abort (world st0) r (π.ackers abort d)
    heard0 t m a = elim (rest0 t m a) [ inl i ↦ inl (𝓛.acker abort d t i a) | inr i ↦ inr i ]

    safe0 : SafeSt π st0
    unfolding st0
    safe0 = safe_co π st s h r aw (λ _. past_await abort (π.ackers abort d)) (shut_await abort (π.ackers abort d)) (cond_both (eqb (π.ackers abort d) 0) none (Announcing abort (π.ackers abort d)) (CoLegal π (world st0) s r) (λ _. tt) (λ z. (known, own, doomed, heard0, (λ e. true≢false (sym (eq-eqb _ _ e) ∙ z), λ u m. (let b = 𝓛.backer abort d u m in (rw (← whole) (part u b.0), b.1))))))

    a_ready : AllByRecursion (Ready π (world st0) s) (logged (π.logs all) (line kA r all))
    unfolding st0
    a_ready = all_log π (Ready π (world st0) s) (π.logs all) (line kA r all) (λ _. refl, λ _. refl, (known, (own, whole))) tt

    e_ready : AllByRecursion (Ready π (world st0) s) (end_acts π r all d)
    unfolding st0
    e_ready = all_end π (Ready π (world st0) s) r all d (λ z. (λ _. refl, λ _. refl, (known, (own, (abort, doomed, λ t m a. elim (heard0 t m a) [ inl i ↦ absurd (true≢false (sym (rw z at i) ∙ mem_zero t)) | inr i ↦ i ])))))

    pub safe_decide : SafeSt π (decide_abort π r s all d f k st)
    unfolding st0
    safe_decide =
        safe_step_first π s (abort_acts π r s all d) (to_coordinator r aw) f k st safe0
        (ready_oks π s (abort_acts π r s all d) st0 (All-append _ (logged (π.logs all) (line kA r all)) _ a_ready (All-append _ (send_each ABORT r s (members π.size d)) _ (all_sends π (Ready π (world st0) s) ABORT r s d (λ t _. (known, inl (inl doomed)))) e_ready)))

pub is_own : (k : Kind) (r a : ℕ) → is k r (line k r a) ≡ true
is_own kI r a = eq-eqb r r refl
is_own k r a = eq-eqb r r refl

pub written_got : (k : Kind) (r a : ℕ) (l : List Record) → has k r (l ++ (line k r a ∷ [])) ≡ true
written_got k r a l = has_append k r l (line k r a ∷ []) ∙ or_right _ _ (or_left _ _ (is_own k r a))

pub forced_got : (k : Kind) (r a : ℕ) (y : Station) → Got k r (forced_station (written_station (line k r a) y))
forced_got k r a y = has_append k r y.stable (y.loose ++ (line k r a ∷ [])) ∙ or_right _ _ (written_got k r a y.loose)

pub now_forced : (s : ℕ) (x : Record) (st : Run) → (at_station s forced_station (at_station s (written_station x) st)).station s ≡ forced_station (written_station x (st.station s))
now_forced s x st = ap (λ (u : Run). u.station s) (in_in s forced_station (written_station x) st) ∙ here_in s (λ y. forced_station (written_station x y)) st

module _ (π : Presumption) (𝓛 : Laws π) where
  -- to enforce an outcome that has its reason
  settled_now : (o : Outcome) (r c s : ℕ) (st : Run) → Idle ((st.station s).subordinates r) → Settled r ((at_station s forced_station (at_station s (written_station (line (outcome_kind o) r c)) st)).station s)
  settled_now commit r c s st i = subst (Settled r) (sym (now_forced s (line kc r c) st)) (i, inr (inl (forced_got kc r c (st.station s))))
  settled_now abort r c s st i = subst (Settled r) (sym (now_forced s (line ka r c) st)) (i, inr (inr (forced_got ka r c (st.station s))))

  oks_tail : (o : Outcome) (r s c : ℕ) (st : Run) → r < st.count → Idle ((st.station s).subordinates r) → (F A : Bool) → (A ≡ true → F ≡ true) → Oks π s (force_if π F (ack_if π A r s c)) (at_station s (written_station (line (outcome_kind o) r c)) st)
  oks_tail o r s c st l i true true law = (tt, ((l, settled_now o r c s st i), tt))
  oks_tail o r s c st l i true false law = (tt, tt)
  oks_tail o r s c st l i false true law = absurd (true≢false (sym (law refl)))
  oks_tail o r s c st l i false false law = tt

  oks_enforce : (o : Outcome) (r s c : ℕ) (st : Run) → r < st.count → Idle ((st.station s).subordinates r) → Reason o (world st) r → Oks π s (enforce_acts π o r s c) st
  oks_enforce commit r s c st l i h = ((l, h), ((λ _ _ _. refl, λ _ _ _. refl, (l, h)), oks_tail commit r s c (marked_installed r s st) l i (π.forces commit s) (π.acks commit s) (𝓛.forcing commit s)))
  oks_enforce abort r s c st l i h = ((l, h), ((λ _ _ _. refl, λ _ _ _. refl, (l, h)), oks_tail abort r s c (marked_dropped r s st) l i (π.forces abort s) (π.acks abort s) (𝓛.forcing abort s)))

  pub safe_enforce : (o : Outcome) (r s c f k : ℕ) (st : Run) → SafeSt π st → r < st.count → Reason o (world st) r → SafeSt π (step s (enforce_acts π o r s c) (to_subordinate r idle) f k st)
  safe_enforce o r s c f k st h l q =
      let g0 = grow_in π st s (set_subordinate r idle) (keeps_sub st.count r idle (st.station s) (λ _. tt) (λ _. tt)) in
      let i : Idle (((at_station s (set_subordinate r idle) st).station s).subordinates r) = rw (here_in s (set_subordinate r idle) st, upd_same (st.station s).subordinates r idle) tt in
      safe_step_first π s (enforce_acts π o r s c) (to_subordinate r idle) f k st (safe_sub π st s h r idle (λ _. tt) (λ _. tt) tt)
      (oks_enforce o r s c (at_station s (set_subordinate r idle) st) l i (reason_grows π (world st) (world (at_station s (set_subordinate r idle) st)) g0 o r l q))

  ack_ok : (A : Bool) (r s t : ℕ) (st : Run) → (A ≡ true → Legal π (world st) (letter ACK r s t)) → Oks π s (ack_if π A r s t) st
  ack_ok true r s t st h = (h refl, tt)
  ack_ok false r s t st h = tt

  pub safe_outcome : (o : Outcome) (r s t : ℕ) (e : SubordinateEntry) (f k : ℕ) (st : Run) → SafeSt π st → TidyS π st.plan s (st.station s) → (st.station s).power ≡ true → r < st.count → Reason o (world st) r ⊎ Settled r (st.station s) → (st.station s).subordinates r ≡ e → SafeSt π (upon_outcome π o r s t e f k st)
  safe_outcome o r s t idle f k st h y on known l e = safe_step π s (ack_if π (π.acks o s) r s t) stay f k st h (ack_ok (π.acks o s) r s t st (λ a. (known, quiet π 𝓛 o r s st h y on (rw e tt) a l))) (λ h'. h')
  safe_outcome commit r s t (Active c) f k st h y on known l e = h
  safe_outcome abort r s t (Active c) f k st h y on known l e = safe_enforce abort r s c f k st h known (elim l [ inl q ↦ q | inr q ↦ absurd (rw e at q.0) ])
  safe_outcome o r s t (Prepared c) f k st h y on known l e = safe_enforce o r s c f k st h known (elim l [ inl q ↦ q | inr q ↦ absurd (rw e at q.0) ])

  -- PREPARE: a station with no entry says NO, and is settled if it acknowledges aborts, unless the revision is committed
  pub safe_prepare : (r s t : ℕ) (e : SubordinateEntry) (f k : ℕ) (st : Run) → SafeSt π st → TidyS π st.plan s (st.station s) → (st.station s).power ≡ true → Legal π (world st) (letter PREPARE r t s) → (st.station s).subordinates r ≡ e → SafeSt π (upon_prepare π r s t e f k st)
  safe_prepare r s t idle f k st h y on l e =
      safe_step π s (send (letter NO r s t) ∷ []) stay f k st h ((l.0, no_says), tt) (λ h'. h')
    where
      i : Idle ((st.station s).subordinates r)
      i = rw e tt

      no_says : LegalOf π (world st) NO r s t
      no_says =
          elim (cases_Bool (has kp r (st.station s).stable)) [
            | inl p ↦ elim (y.knows on r i p) [
              | inl c ↦ inr (there_legal π (world st) s kc r (h.recs s) c).2
              | inr c ↦ inl (λ a. quiet π 𝓛 abort r s st h y on i a (inl (there_legal π (world st) s ka r (h.recs s) c).2))
            ]
            | inr p ↦ inl (λ a. (i, inl (p, (y.calm r).1)))
          ]
  safe_prepare r s t (Prepared c) f k st h y on l e =
      let q = subst (λ v. SubLegal π (world st) s r v) e (h.subs s r) in
      safe_step π s (send (letter YES r s t) ∷ []) stay f k st h ((l.0, q.2), tt) (λ h'. h')
  safe_prepare r s t (Active c) f k st h y on l e =
      let q = subst (λ v. SubLegal π (world st) s r v) e (h.subs s r) in
      let got : Got kp r ((at_station s forced_station (at_station s (written_station (line kp r c)) st)).station s) = subst (Got kp r) (sym (now_forced s (line kp r c) st)) (forced_got kp r c (st.station s)) in
      safe_step π s (prepare_acts π r s t c) (to_subordinate r (Prepared c)) f k st h
      ((λ _ _ _. refl, λ u _ v. ne_eqb r u (λ p. rw (← p, e) at v), (l.0, (q.1, q.2, l.1.0, l.1.1))), (tt, ((l.0, got), tt)))
      (λ h'. safe_sub π _ s h' r (Prepared c) (λ _. tt) (λ i. rw e at (subst (λ (z : Station). Idle (z.subordinates r)) (now_forced s (line kp r c) st) i)) (l.0, q.1, got))

  -- give up, and NO
  pub safe_give_up : (r s : ℕ) (e : CoordinatorEntry) (f k : ℕ) (st : Run) → SafeSt π st → TidyS π st.plan s (st.station s) → (st.station s).coordinators r ≡ e → SafeSt π (upon_give_up π r s e f k st)
  safe_give_up r s (Open all) f k st h y e =
      let c = subst (λ v. CoLegal π (world st) s r v) e (h.cos s r) in
      safe_decide π 𝓛 r s all all f k st h c.0 c.1 c.2 (y.live r (λ i. rw e at i)) (λ t m a. inl (rw c.2 m)) (λ t m. m)
  safe_give_up r s (Collecting all ys) f k st h y e =
      let c = subst (λ v. CoLegal π (world st) s r v) e (h.cos s r) in
      safe_decide π 𝓛 r s all all f k st h c.0 c.1 c.2 (y.live r (λ i. rw e at i)) (λ t m a. inl (rw c.2 m)) (λ t m. m)
  safe_give_up r s x f k st h y e = h

  pub safe_no : (r s t : ℕ) (e : CoordinatorEntry) (f k : ℕ) (st : Run) → SafeSt π st → TidyS π st.plan s (st.station s) → Legal π (world st) (letter NO r t s) → (st.station s).coordinators r ≡ e → SafeSt π (upon_no π r s t e f k st)
  safe_no r s t (Collecting all ys) f k st h y l e =
      let c = subst (λ v. CoLegal π (world st) s r v) e (h.cos s r) in
      let n = y.live r (λ i. rw e at i) in
      cond_both (in_set all t) (decide_abort π r s all (without_station all t) f k st) st (SafeSt π)
      (λ _. safe_decide π 𝓛 r s all (without_station all t) f k st h c.0 c.1 c.2 n
      (λ u m a. elim (mem_del all t u (rw c.2 m)) [
        | inl i ↦ inl i
        | inr i ↦ inr (elim l.1 [ inl q ↦ rw i at (q (rw i a)) | inr q ↦ absurd (true≢false (sym (rw c.1 q) ∙ n.0)) ])
      ]) (del_back all t))
      (λ _. h)
  safe_no r s t x f k st h y l e = h

  -- reject
  pub safe_reject : (r s : ℕ) (e : SubordinateEntry) (f k : ℕ) (st : Run) → SafeSt π st → TidyS π st.plan s (st.station s) → (st.station s).subordinates r ≡ e → SafeSt π (upon_reject π r s e f k st)
  safe_reject r s (Active c) f k st h y e =
      let q = subst (λ v. SubLegal π (world st) s r v) e (h.subs s r) in
      let v : Veto r ((at_station s (set_subordinate r idle) st).station s) = rw (here_in s (set_subordinate r idle) st) (y.fresh r (λ i. rw e at i), rw (upd_same (st.station s).subordinates r idle) tt) in
      safe_step_first π s (reject_acts π r s c) (to_subordinate r idle) f k st (safe_sub π st s h r idle (λ _. tt) (λ _. tt) tt)
      ((q.0, inr (s, q.2, v)), ((λ _ _ _. refl, λ _ _ _. refl, (q.0, inr (s, q.2, v))), tail (π.forces abort s) _))
    where
      tail : (b : Bool) (u : Run) → Oks π s (force_if π b []) u
      tail true u = (tt, tt)
      tail false u = tt
  safe_reject r s x f k st h y e = h
