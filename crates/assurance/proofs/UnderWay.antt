-- Whoever is awaited has the outcome, or its own ACK, under way.
use Rattle.std.proofs.Common.{◌≡◌, ℕ, zero, suc, ◌+◌, ◌<◌, ◌≤◌, Bool, true, false, eqb, ltb, ◌⊎◌, List, [], ◌∷◌, ◌++◌, length, filter, sym, refl, ap, ◌∙◌, subst, inl, inr, arith, length-append, append_assoc}
use Rattle.std.specs.List.{AllByRecursion, range_with_len}
use Rattle.assurance.proofs.Each.{All-push}
use Rattle.std.proofs.lemmas.Bool.{cond_both, cond-true, cases_eq, true≢false, lt-ltb}
use Rattle.assurance.proofs.Ideal.{in_set, without_station, members, kC, kE, Outcome, commit, abort, CoordinatorEntry, none, Open, Collecting, Announcing, SubordinateEntry, idle, Active, Prepared, MessageKind, COMMIT, ABORT, ACK, Message, Plan, Run, Presumption, at_station, set_coordinator, with_message, with_post, Act, write, send, act_done, acts_done, Turn, stay, to_coordinator, to_subordinate, turn, step, line, letter, send_each, outcome_mail, outcome_kind, mark, force_if, ack_if, enforce_acts, upon_outcome, upon_ack, handed, hand_first, emptied}
use Rattle.assurance.proofs.Lasting.{World, world, head, CoLegal, SubLegal}
use Rattle.assurance.proofs.Sets.{del_self, del_back, mem_none}
use Rattle.assurance.proofs.Claims.{Laws}
use Rattle.assurance.proofs.SafeActs.{SafeSt}
use Rattle.assurance.proofs.SafeRules.{TidyS, has_legal}
use Rattle.assurance.proofs.Invariant.{Inv, inv_first}
use Rattle.assurance.proofs.Rules.{Rule, enforce, confirm, acts_of, turn_of, For, did_handed, whole}
use Rattle.assurance.proofs.Loads.{empty, keeps_emptied}
use Rattle.assurance.proofs.Whole.{On, Aside, aside_trans, Sure, Rested, Calm, NoCo, co_moved, sure_moved, idle_moved, co_now, aside_did, on_first, first_on}
use Rattle.std.proofs.lemmas.List.{append-nil}

-- a message waits
abbrev pub In : Message → List Message → Type 0
In m [] = ⊥
In m (x ∷ l) = (x ≡ m) ⊎ In m l

pub in_left : (m : Message) (l k : List Message) → In m l → In m (l ++ k)
in_left m [] k h = absurd h
in_left m (x ∷ l) k (inl e) = inl e
in_left m (x ∷ l) k (inr e) = inr (in_left m l k e)

pub in_last : (m : Message) (l : List Message) → In m (l ++ (m ∷ []))
in_last m [] = inl refl
in_last m (x ∷ l) = inr (in_last m l)

-- a number in a list
abbrev pub Elem : ℕ → List ℕ → Type 0
Elem u [] = ⊥
Elem u (x ∷ l) = (x ≡ u) ⊎ Elem u l

pub elem_counting : (a n u : ℕ) → a ≤ u → u < a + n → Elem u (range_with_len a n)
elem_counting a zero u h k = absurd (omega arith)
elem_counting a (suc n) u h k = elim (cases_eq a u) [ inl e ↦ inl e | inr e ↦ inr (elem_counting (a + 1) n u (omega arith) (omega arith)) ]

elem_kept : (p : ℕ → Bool) (u : ℕ) (l : List ℕ) → Elem u l → p u ≡ true → Elem u (filter p l)
elem_kept p u [] h k = absurd h
elem_kept p u (x ∷ l) (inl e) k = cond_both (p x) (x ∷ filter p l) (filter p l) (Elem u) (λ _. inl e) (λ z. absurd (true≢false (sym (subst (λ (y : ℕ). p y ≡ true) (sym e) k) ∙ z)))
elem_kept p u (x ∷ l) (inr h) k = cond_both (p x) (x ∷ filter p l) (filter p l) (Elem u) (λ _. inr (elem_kept p u l h k)) (λ _. elem_kept p u l h k)

pub elem_members : (n m u : ℕ) → in_set m u ≡ true → u < n → Elem u (members n m)
unfolding members
elem_members n m u h l = elem_kept (in_set m) u (range_with_len 0 n) (elem_counting 0 n u (omega arith) (omega arith)) h

-- what acts post
abbrev pub letters : List Act → List Message
letters [] = []
letters (send m ∷ l) = m ∷ letters l
letters (a ∷ l) = letters l

pub room_post : (m : Message) (st : Run) → length st.post < 64 → (with_message m st).post ≡ st.post ++ (m ∷ [])
room_post m st h = cond-true (ltb (length st.post) 64) (st.post ++ (m ∷ [])) st.post (lt-ltb (length st.post) 64 h)

pub post_acts : (s : ℕ) (l : List Act) (st : Run) → length st.post + length (letters l) ≤ 64 → (acts_done s l st).post ≡ st.post ++ letters l
post_acts s [] st h = sym (append-nil st.post)
post_acts s (send m ∷ l) st h =
    let e = room_post m st (omega arith) in
    post_acts s l (with_message m st) (rw e (omega (arith, length-append st.post (m ∷ [])))) ∙ (ap (λ (p : List Message). p ++ letters l) e ∙ append_assoc st.post (m ∷ []) (letters l))
post_acts s (a ∷ l) st h = post_acts s l (act_done s a st) h

pub post_turn : (s : ℕ) (tn : Turn) (st : Run) → (turn s tn st).post ≡ st.post
post_turn s stay st = refl
post_turn s tn st = refl

pub letters_append : (l m : List Act) → letters (l ++ m) ≡ letters l ++ letters m
letters_append [] m = refl
letters_append (send x ∷ l) m = ap (λ (j : List Message). x ∷ j) (letters_append l m)
letters_append (a ∷ l) m = letters_append l m

pub letters_sends : (k : MessageKind) (r s : ℕ) (ts : List ℕ) → length (letters (send_each k r s ts)) ≡ length ts
letters_sends k r s [] = refl
letters_sends k r s (t ∷ ts) = ap suc (letters_sends k r s ts)

pub in_sends : (k : MessageKind) (r s u : ℕ) (ts : List ℕ) → Elem u ts → In (letter k r s u) (letters (send_each k r s ts))
in_sends k r s u [] h = absurd h
in_sends k r s u (t ∷ ts) (inl e) = inl (ap (letter k r s) e)
in_sends k r s u (t ∷ ts) (inr h) = inr (in_sends k r s u ts h)

-- whoever is awaited has the outcome, or its ACK, under way
abbrev pub Pend : ℕ → Outcome → ℕ → ℕ → List Message → Type 0
Pend w o r c l = (u : ℕ) → in_set w u ≡ true → In (letter (outcome_mail o) r c u) l ⊎ In (letter ACK r u c) l

abbrev pub CoPend : ℕ → ℕ → CoordinatorEntry → List Message → Type 0
CoPend r c (Collecting a y) l = ⊥
CoPend r c (Announcing o w) l = Pend w o r c l
CoPend r c e l = Unit {0}

-- only outcomes from the coordinator and ACKs to it
abbrev pub MildOf : ℕ → ℕ → MessageKind → ℕ → ℕ → ℕ → Type 0
MildOf r c COMMIT q s t = (q ≡ r) × (s ≡ c)
MildOf r c ABORT q s t = (q ≡ r) × (s ≡ c)
MildOf r c ACK q s t = (q ≡ r) × (t ≡ c)
MildOf r c m q s t = ⊥

abbrev pub Mild : ℕ → ℕ → Message → Type 0
Mild r c m = MildOf r c m.kind m.revision m.sender m.receiver

mild_outcome : (o : Outcome) (r c u : ℕ) → MildOf r c (outcome_mail o) r c u
mild_outcome commit r c u = (refl, refl)
mild_outcome abort r c u = (refl, refl)

pub mild_sends : (o : Outcome) (r c : ℕ) (ts : List ℕ) → AllByRecursion (Mild r c) (letters (send_each (outcome_mail o) r c ts))
mild_sends o r c [] = tt
mild_sends o r c (t ∷ ts) = (mild_outcome o r c t, mild_sends o r c ts)

pub not_ack : (o : Outcome) → outcome_mail o ≡ ACK → ⊥
not_ack commit e = grind arith
not_ack abort e = grind arith

same_outcome : (a b : Outcome) → outcome_mail a ≡ outcome_mail b → a ≡ b
same_outcome commit commit e = refl
same_outcome commit abort e = absurd (grind arith)
same_outcome abort commit e = absurd (grind arith)
same_outcome abort abort e = refl

abbrev pub Heeds : Outcome → SubordinateEntry → Type 0
Heeds commit idle = Unit {0}
Heeds commit (Active c) = ⊥
Heeds commit (Prepared c) = Unit {0}
Heeds abort e = Unit {0}

abbrev pub OwnC : SubordinateEntry → ℕ → Type 0
OwnC idle c = Unit {0}
OwnC (Active d) c = d ≡ c
OwnC (Prepared d) c = d ≡ c

module _ (π : Presumption) (𝓛 : Laws π) where
  -- an outcome is answered by ACK, or not at all
  abbrev pub Answered : Outcome → ℕ → ℕ → ℕ → List Message → SubordinateEntry → List Message → Type 0
  Answered o r s c ms e p = (p ≡ ms ++ (letter ACK r s c ∷ [])) ⊎ ((π.acks o s ≡ true → Heeds o e → ⊥) × (p ≡ ms))

  ack_post : (o : Outcome) (A : Bool) (r s c : ℕ) (e : SubordinateEntry) (st : Run) → π.acks o s ≡ A → length st.post < 64 → Answered o r s c st.post e (step s (ack_if π A r s c) stay 255 0 st).post
  ack_post o true r s c e st a h = inl (room_post (letter ACK r s c) st h)
  ack_post o false r s c e st a h = inr ((λ b _. true≢false (sym b ∙ a)), refl)

  enforce_post : (o : Outcome) (F A : Bool) (r s c : ℕ) (e : SubordinateEntry) (st : Run) → π.acks o s ≡ A → length st.post < 64 → Answered o r s c st.post e (step s (mark o r ∷ (write (line (outcome_kind o) r c) ∷ force_if π F (ack_if π A r s c))) (to_subordinate r idle) 255 0 st).post
  enforce_post commit true true r s c e st a h = inl (room_post (letter ACK r s c) st h)
  enforce_post commit true false r s c e st a h = inr ((λ b _. true≢false (sym b ∙ a)), refl)
  enforce_post commit false true r s c e st a h = inl (room_post (letter ACK r s c) st h)
  enforce_post commit false false r s c e st a h = inr ((λ b _. true≢false (sym b ∙ a)), refl)
  enforce_post abort true true r s c e st a h = inl (room_post (letter ACK r s c) st h)
  enforce_post abort true false r s c e st a h = inr ((λ b _. true≢false (sym b ∙ a)), refl)
  enforce_post abort false true r s c e st a h = inl (room_post (letter ACK r s c) st h)
  enforce_post abort false false r s c e st a h = inr ((λ b _. true≢false (sym b ∙ a)), refl)

  pub out_post : (o : Outcome) (r s c : ℕ) (e : SubordinateEntry) (st : Run) → length st.post < 64 → OwnC e c → Answered o r s c st.post e (upon_outcome π o r s c e 255 0 st).post
  out_post commit r s c idle st h w = ack_post commit (π.acks commit s) r s c idle st refl h
  out_post abort r s c idle st h w = ack_post abort (π.acks abort s) r s c idle st refl h
  out_post commit r s c (Active d) st h w = inr ((λ _ b. b), refl)
  out_post abort r s c (Active d) st h w = subst (λ (x : ℕ). Answered abort r s x st.post (Active d) (step s (enforce_acts π abort r s d) (to_subordinate r idle) 255 0 st).post) w (enforce_post abort (π.forces abort s) (π.acks abort s) r s d (Active d) st refl h)
  out_post commit r s c (Prepared d) st h w = subst (λ (x : ℕ). Answered commit r s x st.post (Prepared d) (step s (enforce_acts π commit r s d) (to_subordinate r idle) 255 0 st).post) w (enforce_post commit (π.forces commit s) (π.acks commit s) r s d (Prepared d) st refl h)
  out_post abort r s c (Prepared d) st h w = subst (λ (x : ℕ). Answered abort r s x st.post (Prepared d) (step s (enforce_acts π abort r s d) (to_subordinate r idle) 255 0 st).post) w (enforce_post abort (π.forces abort s) (π.acks abort s) r s d (Prepared d) st refl h)

  -- an outcome changes no coordinator entry, makes nobody doubtful, and leaves its receiver sure
  pub record Told (s r : ℕ) (st v : Run) : Type 0 where
    pub cos : (t q : ℕ) → (v.station t).coordinators q ≡ (st.station t).coordinators q
    pub sures : (t q : ℕ) → Sure ((st.station t).subordinates q) → Sure ((v.station t).subordinates q)
    pub sure : Sure ((v.station s).subordinates r)

  told_rule : (u : Rule) (s r t : ℕ) (st : Run) → NoCo (turn_of π u r) → Calm (turn_of π u r) → Sure (((turn s (turn_of π u r) (acts_done s (acts_of π u r s t) st)).station s).subordinates r) → Told s r st (step s (acts_of π u r s t) (turn_of π u r) 255 0 st)
  told_rule u s r t st n c h = subst (Told s r st) (sym (whole π 𝓛 u r s t st)) (record { cos = co_moved s (acts_of π u r s t) (turn_of π u r) st n; sures = sure_moved s (acts_of π u r s t) (turn_of π u r) st c; sure = h })

  pub told : (o : Outcome) (r s c : ℕ) (e : SubordinateEntry) (st : Run) → (st.station s).subordinates r ≡ e → Told s r st (upon_outcome π o r s c e 255 0 st)
  told commit r s c idle st e = told_rule (confirm commit) s r c st tt tt (sure_moved s (acts_of π (confirm commit) r s c) stay st tt s r (subst Sure (sym e) tt))
  told abort r s c idle st e = told_rule (confirm abort) s r c st tt tt (sure_moved s (acts_of π (confirm abort) r s c) stay st tt s r (subst Sure (sym e) tt))
  told commit r s c (Active d) st e = record { cos = λ t q. refl; sures = λ t q h. h; sure = subst Sure (sym e) tt }
  told abort r s c (Active d) st e = told_rule (enforce abort d) s r c st tt tt (subst Sure (sym (idle_moved s r (acts_of π (enforce abort d) r s c) st)) tt)
  told commit r s c (Prepared d) st e = told_rule (enforce commit d) s r c st tt tt (subst Sure (sym (idle_moved s r (acts_of π (enforce commit d) r s c) st)) tt)
  told abort r s c (Prepared d) st e = told_rule (enforce abort d) s r c st tt tt (subst Sure (sym (idle_moved s r (acts_of π (enforce abort d) r s c) st)) tt)

  pub own_sub : (st : Run) → SafeSt π st → (s r : ℕ) (e : SubordinateEntry) → (st.station s).subordinates r ≡ e → OwnC e (st.plan r).coordinator
  own_sub st h s r idle e = tt
  own_sub st h s r x e = (subst (λ v. SubLegal π (world st) s r v) e (h.subs s r)).1

  module _ (r c : ℕ) where
    abbrev pub Tri : Run → Type 0
    Tri v = AllByRecursion (Mild r c) v.post × (length v.post ≤ π.size) × CoPend r c ((v.station c).coordinators r) v.post

    module _ (ms : List Message) (st : Run) (h : SafeSt π st) (ty : (s : ℕ) → TidyS π st.plan s (st.station s)) (own : (st.plan r).coordinator ≡ c) (mild : AllByRecursion (Mild r c) ms) (few : length ms < π.size) where
      core_ack : (t : ℕ) (e : CoordinatorEntry) → (st.station c).coordinators r ≡ e → CoPend r c e (letter ACK r t c ∷ ms) → Tri (upon_ack π r c t e 255 0 (with_post ms st))
      core_ack t (Collecting a ys) e p = absurd p
      core_ack t (Announcing o w) e p =
          cond_both (in_set w t) _ (with_post ms st) Tri
          (λ _. cond_both (eqb (without_station w t) 0) (step c (write (line kE r 0) ∷ []) (to_coordinator r none) 255 0 (with_post ms st)) (at_station c (set_coordinator r (Announcing o (without_station w t))) (with_post ms st)) Tri
          (λ _. (mild, omega arith, subst (λ (x : CoordinatorEntry). CoPend r c x ms) (sym (co_now c r none (write (line kE r 0) ∷ []) (with_post ms st))) tt))
          (λ _. (mild, omega arith, subst (λ (x : CoordinatorEntry). CoPend r c x ms) (sym (co_now c r (Announcing o (without_station w t)) [] (with_post ms st))) (λ u m. other u (del_back w t u m) (λ i. true≢false (sym m ∙ subst (λ (x : ℕ). in_set (without_station w t) x ≡ false) i (del_self w t)))))))
          (λ n. (mild, omega arith, subst (λ (x : CoordinatorEntry). CoPend r c x ms) (sym e) (λ u m. other u m (λ i. true≢false (sym m ∙ subst (λ (x : ℕ). in_set w x ≡ false) i n)))))
        where
          other : (u : ℕ) → in_set w u ≡ true → (t ≡ u → ⊥) → In (letter (outcome_mail o) r c u) ms ⊎ In (letter ACK r u c) ms
          other u m n =
              elim (p u m) [
                | inl i ↦ elim i [ inl q ↦ absurd (not_ack o (sym (ap (λ (x : Message). x.kind) q))) | inr q ↦ inl q ]
                | inr i ↦ elim i [ inl q ↦ absurd (n (ap (λ (x : Message). x.sender) q)) | inr q ↦ inr q ]
              ]
      core_ack t v e p = (mild, omega arith, subst (λ (x : CoordinatorEntry). CoPend r c x ms) (sym e) tt)

      core_out : (o : Outcome) (s : ℕ) → CoPend r c ((st.station c).coordinators r) (letter (outcome_mail o) r c s ∷ ms) → Tri (upon_outcome π o r s c ((st.station s).subordinates r) 255 0 (with_post ms st))
      core_out o s p = (mild_after, few_after, subst (λ (x : CoordinatorEntry). CoPend r c x v.post) (sym (t.cos c r)) (pend_after ((st.station c).coordinators r) refl p))
        where
          v : Run
          v = upon_outcome π o r s c ((st.station s).subordinates r) 255 0 (with_post ms st)

          t : Told s r (with_post ms st) v
          t = told o r s c ((st.station s).subordinates r) (with_post ms st) refl

          a : Answered o r s c ms ((st.station s).subordinates r) v.post
          a = out_post o r s c ((st.station s).subordinates r) (with_post ms st) (omega (arith, 𝓛.small)) (subst (λ (x : ℕ). OwnC ((st.station s).subordinates r) x) own (own_sub st h s r ((st.station s).subordinates r) refl))

          mild_after : AllByRecursion (Mild r c) v.post
          mild_after = elim a [ inl e ↦ rw e (All-push _ ms (letter ACK r s c) mild (refl, refl)) | inr e ↦ rw e.1 mild ]

          few_after : length v.post ≤ π.size
          few_after = elim a [ inl e ↦ rw e (omega (arith, length-append ms (letter ACK r s c ∷ []))) | inr e ↦ rw e.1 (omega arith) ]

          heeds : (o : Outcome) (e : SubordinateEntry) (w : ℕ) → (st.station s).subordinates r ≡ e → (st.station c).coordinators r ≡ Announcing o w → in_set w s ≡ true → Heeds o e
          heeds commit idle w e k m = tt
          heeds abort e w q k m = tt
          heeds commit (Prepared d) w e k m = tt
          heeds commit (Active d) w e k m =
              let l = subst (λ x. CoLegal π (world st) c r x) k (h.cos c r) in
              let q = has_legal π (world st) (st.plan r).coordinator kC r (head (world st) r).stable (h.recs (st.plan r).coordinator).0 l.2 in
              true≢false (sym (q.1.2 s (l.4.1 s m).0) ∙ ((ty s).fresh r (λ i. rw e at i)).0)

          pend_ann : (o' : Outcome) (w : ℕ) → (st.station c).coordinators r ≡ Announcing o' w → Pend w o' r c (letter (outcome_mail o) r c s ∷ ms) → Pend w o' r c v.post
          pend_ann o' w e p u m =
              elim (p u m) [
                | inl i ↦ elim i [ inl q ↦ inr (acked (ap (λ (x : Message). x.receiver) q) (same_outcome o o' (ap (λ (x : Message). x.kind) q))) | inr q ↦ inl (kept (letter (outcome_mail o') r c u) q) ]
                | inr i ↦ elim i [ inl q ↦ absurd (not_ack o (ap (λ (x : Message). x.kind) q)) | inr q ↦ inr (kept (letter ACK r u c) q) ]
              ]
            where
              kept : (x : Message) → In x ms → In x v.post
              kept x i = elim a [ inl e ↦ rw e (in_left x ms (letter ACK r s c ∷ []) i) | inr e ↦ rw e.1 i ]

              lawful : (o' : Outcome) → (st.station c).coordinators r ≡ Announcing o' w → π.acks o' u ≡ true
              lawful o k = ((subst (λ x. CoLegal π (world st) c r x) k (h.cos c r)).4.1 u m).1

              acked : s ≡ u → o ≡ o' → In (letter ACK r u c) v.post
              acked i j = elim a [
                | inl k ↦ rw k (subst (λ (x : ℕ). In (letter ACK r x c) (ms ++ (letter ACK r s c ∷ []))) i (in_last (letter ACK r s c) ms))
                | inr k ↦ absurd (k.0 (subst₂' (lawful o' e)) (heeds o ((st.station s).subordinates r) w refl (subst (λ (x : Outcome). (st.station c).coordinators r ≡ Announcing x w) (sym j) e) (subst (λ (x : ℕ). in_set w x ≡ true) (sym i) m)))
              ]
                where
                  subst₂' : π.acks o' u ≡ true → π.acks o s ≡ true
                  subst₂' q = subst (λ (x : Outcome). π.acks x s ≡ true) (sym j) (subst (λ (x : ℕ). π.acks o' x ≡ true) (sym i) q)

          pend_after : (e : CoordinatorEntry) → (st.station c).coordinators r ≡ e → CoPend r c e (letter (outcome_mail o) r c s ∷ ms) → CoPend r c e v.post
          pend_after (Collecting x y) e p = p
          pend_after (Announcing o' w) e p = pend_ann o' w e p
          pend_after v e p = tt

      pub core : (k : MessageKind) (q s t : ℕ) → MildOf r c k q t s → CoPend r c ((st.station c).coordinators r) (letter k q t s ∷ ms) → Tri (handed π k q s t 255 0 (with_post ms st))
      core ACK q s t e p = subst (λ (x : ℕ). Tri (handed π ACK x s t 255 0 (with_post ms st))) (sym e.0) (subst (λ (x : ℕ). Tri (handed π ACK r x t 255 0 (with_post ms st))) (sym e.1) (core_ack t ((st.station c).coordinators r) refl (subst (λ (x : ℕ). CoPend r c ((st.station c).coordinators r) (letter ACK r t x ∷ ms)) e.1 (subst (λ (x : ℕ). CoPend r c ((st.station c).coordinators r) (letter ACK x t s ∷ ms)) e.0 p))))
      core COMMIT q s t e p = subst (λ (x : ℕ). Tri (handed π COMMIT x s t 255 0 (with_post ms st))) (sym e.0) (subst (λ (x : ℕ). Tri (handed π COMMIT r s x 255 0 (with_post ms st))) (sym e.1) (core_out commit s (subst (λ (x : ℕ). CoPend r c ((st.station c).coordinators r) (letter COMMIT r x s ∷ ms)) e.1 (subst (λ (x : ℕ). CoPend r c ((st.station c).coordinators r) (letter COMMIT x t s ∷ ms)) e.0 p))))
      core ABORT q s t e p = subst (λ (x : ℕ). Tri (handed π ABORT x s t 255 0 (with_post ms st))) (sym e.0) (subst (λ (x : ℕ). Tri (handed π ABORT r s x 255 0 (with_post ms st))) (sym e.1) (core_out abort s (subst (λ (x : ℕ). CoPend r c ((st.station c).coordinators r) (letter ABORT r x s ∷ ms)) e.1 (subst (λ (x : ℕ). CoPend r c ((st.station c).coordinators r) (letter ABORT x t s ∷ ms)) e.0 p))))
      core m q s t e p = absurd e

    pub record Mid (st0 st : Run) : Type 0 where
      pub inv : Inv π 𝓛 st
      pub on : On st
      pub own : (st.plan r).coordinator ≡ c
      pub side : Aside r st0 st
      pub tri : Tri st

    pub rev_of : (k : MessageKind) (q s t : ℕ) → MildOf r c k q s t → q ≡ r
    rev_of COMMIT q s t h = h.0
    rev_of ABORT q s t h = h.0
    rev_of ACK q s t h = h.0
    rev_of m q s t h = absurd h

    aside_post : (ms : List Message) (st v : Run) → Aside r (with_post ms st) v → Aside r st v
    aside_post ms st v h = record { plan = h.plan; count = h.count; cos = h.cos; subs = h.subs }

    pub mid_first : (st0 : Run) (m : Message) (ms : List Message) (st : Run) → m ∷ ms ≡ st.post → Mid st0 st → Mid st0 (hand_first π m (with_post ms st))
    mid_first st0 m ms st e h =
        let a : Tri (with_post (m ∷ ms) st) = subst (λ (p : List Message). AllByRecursion (Mild r c) p × (length p ≤ π.size) × CoPend r c ((st.station c).coordinators r) p) (sym e) h.tri in
        let side : Aside r st (handed π m.kind m.revision m.receiver m.sender 255 0 (with_post ms st)) = aside_post ms st _ (subst (λ (x : ℕ). Aside x (with_post ms st) (handed π m.kind m.revision m.receiver m.sender 255 0 (with_post ms st))) (rev_of m.kind m.revision m.sender m.receiver a.0.0) (aside_did π 𝓛 (with_post ms st) m.revision m.receiver m.sender (λ u. For π u m.kind) _ (did_handed π m.kind m.revision m.receiver m.sender 255 0 (with_post ms st)))) in
        record {
          inv = inv_first π 𝓛 m ms st e h.inv;
          on = on_first π 𝓛 m ms st h.on;
          own = rw (first_on π 𝓛 m ms st h.on) (ap (λ (f : ℕ → Plan). (f r).coordinator) side.plan ∙ h.own);
          side = rw (first_on π 𝓛 m ms st h.on) (aside_trans r st0 st _ h.side side);
          tri = rw (first_on π 𝓛 m ms st h.on) (core ms st h.inv.safe h.inv.tidy h.own a.0.1 (omega (arith, a.1)) m.kind m.revision m.receiver m.sender a.0.0 a.2);
        }

    -- when nothing waits nobody is awaited
    pub rest_of : (w : World) (e : CoordinatorEntry) → CoLegal π w c r e → CoPend r c e [] → Rested e
    rest_of w none l p = tt
    rest_of w (Open a) l p = tt
    rest_of w (Collecting a y) l p = p
    rest_of w (Announcing o x) l p = l.4.0 (mem_none x (λ u m. elim (p u m) [ inl i ↦ i | inr i ↦ i ]))

    pub mid_rested : (st0 st : Run) (k : ℕ) → Mid st0 st → Rested (((emptied π st k).left.station c).coordinators r) × Mid st0 (emptied π st k).left
    mid_rested st0 st k h =
        let g = keeps_emptied π 𝓛 (Mid st0) (mid_first st0) st k h in
        let e = (empty π 𝓛 st k).0 in
        (rest_of (world (emptied π st k).left) (((emptied π st k).left.station c).coordinators r) (g.inv.safe.cos c r) (subst (λ (p : List Message). CoPend r c (((emptied π st k).left.station c).coordinators r) p) e g.tri.2), g)
