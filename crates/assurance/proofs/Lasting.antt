-- Facts about one station that last, and the invariant that holds between acts: whatever is present has its lasting reason.
use Rattle.std.proofs.Common.{◌≡◌, ℕ, zero, suc, ◌<◌, ◌≤◌, true, false, ◌||◌, eqb, ◌⊎◌, List, [], ◌∷◌, ◌++◌, take, sym, refl, subst, inl, inr, arith}
use Rattle.std.specs.List.{AllByRecursion}
use Rattle.assurance.proofs.Each.{All-weaker}
use Rattle.std.proofs.lemmas.Bool.{or_parts, or_from, cond_both, eqb-true}
use Rattle.assurance.proofs.Ideal.{updated, in_set, Kind, kI, kC, kA, kE, kp, kc, ka, Record, is, has, Outcome, commit, abort, CoordinatorEntry, none, Open, Collecting, Announcing, SubordinateEntry, idle, Active, Prepared, Station, MessageKind, PREPARE, YES, NO, COMMIT, ABORT, ACK, INQUIRY, Message, Plan, Run, Presumption}

pub upd_keep : {X : Type 0} (Q : ℕ → X → Type 0) (f : ℕ → X) (i : ℕ) (v : X) → (Q i (f i) → Q i v) → (j : ℕ) → Q j (f j) → Q j (updated f i v j)
upd_keep Q f i v h j q = cond_both (eqb i j) v (f j) (Q j) (λ e. let k : i ≡ j = eqb-true i j e in rw k at (h (rw k q))) (λ _. q)

pub has_append : (k : Kind) (r : ℕ) (xs ys : List Record) → has k r (xs ++ ys) ≡ (has k r xs || has k r ys)
has_append k r [] ys = refl
has_append k r (x ∷ xs) ys = elim (is k r x) as (λ b. (b || has k r (xs ++ ys)) ≡ ((b || has k r xs) || has k r ys)) [ true ↦ refl | false ↦ has_append k r xs ys ]

pub has_take : (k : Kind) (r n : ℕ) (xs : List Record) → has k r xs ≡ false → has k r (take n xs) ≡ false
has_take k r zero xs h = refl
has_take k r (suc n) [] h = refl
has_take k r (suc n) (x ∷ xs) h = let q = or_parts (is k r x) (has k r xs) h in or_from _ _ q.0 (has_take k r n xs q.1)

-- what one station shows
abbrev pub Got : Kind → ℕ → Station → Type 0
Got k r x = has k r x.stable ≡ true

abbrev pub No : Kind → ℕ → Station → Type 0
No k r x = (has k r x.stable ≡ false) × (has k r x.loose ≡ false)

abbrev pub Past : CoordinatorEntry → Type 0
Past (Open a) = ⊥
Past (Collecting a y) = ⊥
Past e = Unit {0}

abbrev pub Shut : CoordinatorEntry → Type 0
Shut (Open a) = ⊥
Shut e = Unit {0}

abbrev pub Inactive : SubordinateEntry → Type 0
Inactive (Active c) = ⊥
Inactive e = Unit {0}

abbrev pub Idle : SubordinateEntry → Type 0
Idle idle = Unit {0}
Idle e = ⊥

abbrev pub Doom : ℕ → Station → Type 0
Doom r x = No kC r x × Past (x.coordinators r)

abbrev pub Veto : ℕ → Station → Type 0
Veto r x = No kp r x × Inactive (x.subordinates r)

abbrev pub Settled : ℕ → Station → Type 0
Settled r x = Idle (x.subordinates r) × (No kp r x ⊎ (Got kc r x ⊎ Got ka r x))

pub record Keeps (n : ℕ) (x y : Station) : Type 0 where
  pub got : (k : Kind) (r : ℕ) → Got k r x → Got k r y
  pub doom : (r : ℕ) → r < n → Doom r x → Doom r y
  pub veto : (r : ℕ) → r < n → Veto r x → Veto r y
  pub settled : (r : ℕ) → r < n → Settled r x → Settled r y
  pub shut : (r : ℕ) → r < n → Shut (x.coordinators r) → Shut (y.coordinators r)

pub record World : Type 0 where
  pub plan : ℕ → Plan
  pub count : ℕ
  pub station : ℕ → Station

abbrev pub world : Run → World
world st = record { plan = st.plan; count = st.count; station = st.station }

pub record Grow (w v : World) : Type 0 where
  pub more : w.count ≤ v.count
  pub same : (r : ℕ) → r < w.count → v.plan r ≡ w.plan r
  pub keep : (s : ℕ) → Keeps w.count (w.station s) (v.station s)

-- facts of a revision
abbrev pub head : World → ℕ → Station
head w r = w.station (w.plan r).coordinator

abbrev pub Named : World → ℕ → ℕ → Type 0
Named w r t = in_set (w.plan r).names t ≡ true

abbrev pub Comm : World → ℕ → Type 0
Comm w r = Got kC r (head w r)

abbrev pub Abort : World → ℕ → Type 0
Abort w r = Doom r (head w r) ⊎ ((t : ℕ) × Named w r t × Veto r (w.station t))

-- what a decision rests on, and what telling it rests on
abbrev pub Decided : Outcome → World → ℕ → Type 0
Decided commit w r = Comm w r
Decided abort w r = Doom r (head w r)

abbrev pub Reason : Outcome → World → ℕ → Type 0
Reason commit w r = Comm w r
Reason abort w r = Abort w r

pub reason_of : (o : Outcome) (w : World) (r : ℕ) → Decided o w r → Reason o w r
reason_of commit w r h = h
reason_of abort w r h = inl h

abbrev pub AllPrep : World → ℕ → Type 0
AllPrep w r = (t : ℕ) → Named w r t → Got kp r (w.station t)

module _ (π : Presumption) where
  abbrev pub Opened : World → ℕ → Type 0
  Opened w r = π.opens (w.plan r).names ≡ true → Got kI r (head w r)

  abbrev pub Heard : Outcome → World → ℕ → ℕ → Type 0
  Heard o w r a = (t : ℕ) → Named w r t → π.acks o t ≡ true → (in_set a t ≡ true) ⊎ Settled r (w.station t)

  -- who is awaited: somebody, and only such as acknowledge
  abbrev pub Asked : Outcome → World → ℕ → ℕ → Type 0
  Asked o w r a = (a ≡ 0 → ⊥) × ((t : ℕ) → in_set a t ≡ true → Named w r t × (π.acks o t ≡ true))

  abbrev pub AllSettled : Outcome → World → ℕ → Type 0
  AllSettled o w r = (t : ℕ) → Named w r t → π.acks o t ≡ true → Settled r (w.station t)

  abbrev pub LegalOf : World → MessageKind → ℕ → ℕ → ℕ → Type 0
  LegalOf w PREPARE r s t = Opened w r × Shut ((head w r).coordinators r)
  LegalOf w YES r s t = Got kp r (w.station s)
  LegalOf w NO r s t = (π.acks abort s ≡ true → Settled r (w.station s)) ⊎ Comm w r
  LegalOf w COMMIT r s t = Comm w r ⊎ Settled r (w.station t)
  LegalOf w ABORT r s t = Abort w r ⊎ Settled r (w.station t)
  LegalOf w ACK r s t = Settled r (w.station s)
  LegalOf w INQUIRY r s t = (t ≡ (w.plan r).coordinator) × Got kp r (w.station s)

  abbrev pub Legal : World → Message → Type 0
  Legal w m = (m.revision < w.count) × LegalOf w m.kind m.revision m.sender m.receiver

  abbrev pub RecOf : World → ℕ → Kind → ℕ → ℕ → Type 0
  RecOf w s kI r a = (s ≡ (w.plan r).coordinator) × (a ≡ (w.plan r).names)
  RecOf w s kC r a = (s ≡ (w.plan r).coordinator) × (a ≡ (w.plan r).names) × AllPrep w r
  RecOf w s kA r a = (s ≡ (w.plan r).coordinator) × (a ≡ (w.plan r).names)
  RecOf w s kE r a = (s ≡ (w.plan r).coordinator) × ((o : Outcome) × Decided o w r × AllSettled o w r)
  RecOf w s kp r a = (a ≡ (w.plan r).coordinator) × Named w r s × Opened w r × Shut ((head w r).coordinators r)
  RecOf w s kc r a = Comm w r
  RecOf w s ka r a = Abort w r

  abbrev pub RecLegal : World → ℕ → Record → Type 0
  RecLegal w s x = (x.revision < w.count) × RecOf w s x.kind x.revision x.argument

  abbrev pub CoLegal : World → ℕ → ℕ → CoordinatorEntry → Type 0
  CoLegal w s r none = Unit {0}
  CoLegal w s r (Open a) = (r < w.count) × (s ≡ (w.plan r).coordinator) × (a ≡ (w.plan r).names)
  CoLegal w s r (Collecting a y) = (r < w.count) × (s ≡ (w.plan r).coordinator) × (a ≡ (w.plan r).names) × Opened w r × ((t : ℕ) → in_set y t ≡ true → Got kp r (w.station t))
  CoLegal w s r (Announcing o a) = (r < w.count) × (s ≡ (w.plan r).coordinator) × Decided o w r × Heard o w r a × Asked o w r a

  abbrev pub SubLegal : World → ℕ → ℕ → SubordinateEntry → Type 0
  SubLegal w s r idle = Unit {0}
  SubLegal w s r (Active c) = (r < w.count) × (c ≡ (w.plan r).coordinator) × Named w r s
  SubLegal w s r (Prepared c) = (r < w.count) × (c ≡ (w.plan r).coordinator) × Got kp r (w.station s)

  pub record Safe (w : World) (post : List Message) (installed_at dropped_at : ℕ → ℕ) : Type 0 where
    pub msgs : AllByRecursion (Legal w) post
    pub installs : (r s : ℕ) → in_set (installed_at r) s ≡ true → (r < w.count) × Comm w r
    pub drops : (r s : ℕ) → in_set (dropped_at r) s ≡ true → (r < w.count) × Abort w r
    pub recs : (s : ℕ) → AllByRecursion (RecLegal w s) (w.station s).stable × AllByRecursion (RecLegal w s) (w.station s).loose
    pub cos : (s r : ℕ) → CoLegal w s r ((w.station s).coordinators r)
    pub subs : (s r : ℕ) → SubLegal w s r ((w.station s).subordinates r)

  module _ (w v : World) (g : Grow w v) where
    pub known_grows : (r : ℕ) → r < w.count → r < v.count
    known_grows r h = omega (arith, g.more)

    at_head : (Q : Station → Type 0) (r : ℕ) → r < w.count → Q (v.station (w.plan r).coordinator) → Q (head v r)
    at_head Q r l q = subst (λ (p : Plan). Q (v.station p.coordinator)) (sym (g.same r l)) q

    pub comm_grows : (r : ℕ) → r < w.count → Comm w r → Comm v r
    comm_grows r l h = at_head (Got kC r) r l ((g.keep _).got kC r h)

    pub doom_grows : (r : ℕ) → r < w.count → Doom r (head w r) → Doom r (head v r)
    doom_grows r l h = at_head (Doom r) r l ((g.keep _).doom r l h)

    pub abort_grows : (r : ℕ) → r < w.count → Abort w r → Abort v r
    abort_grows r l (inl d) = inl (doom_grows r l d)
    abort_grows r l (inr d) = inr (d.0, rw (g.same r l) d.1, (g.keep _).veto r l d.2)

    pub decided_grows : (o : Outcome) (r : ℕ) → r < w.count → Decided o w r → Decided o v r
    decided_grows commit r l h = comm_grows r l h
    decided_grows abort r l h = doom_grows r l h

    pub reason_grows : (o : Outcome) (r : ℕ) → r < w.count → Reason o w r → Reason o v r
    reason_grows commit r l h = comm_grows r l h
    reason_grows abort r l h = abort_grows r l h

    pub opened_grows : (r : ℕ) → r < w.count → Opened w r → Opened v r
    opened_grows r l h o = at_head (Got kI r) r l ((g.keep _).got kI r (h (rw (g.same r l) at o)))

    pub shut_grows : (r : ℕ) → r < w.count → Shut ((head w r).coordinators r) → Shut ((head v r).coordinators r)
    shut_grows r l h = at_head (λ (x : Station). Shut (x.coordinators r)) r l ((g.keep _).shut r l h)

    pub asked_grows : (o : Outcome) (r a : ℕ) → r < w.count → Asked o w r a → Asked o v r a
    asked_grows o r a l h = (h.0, rw (g.same r l) h.1)

    pub heard_grows : (o : Outcome) (r a : ℕ) → r < w.count → Heard o w r a → Heard o v r a
    heard_grows o r a l h = rw (g.same r l) (λ t m k. elim (h t m k) [ inl i ↦ inl i | inr i ↦ inr ((g.keep t).settled r l i) ])

    pub settled_grows : (o : Outcome) (r : ℕ) → r < w.count → AllSettled o w r → AllSettled o v r
    settled_grows o r l h = rw (g.same r l) (λ t m k. (g.keep t).settled r l (h t m k))

    pub legal_grows : (k : MessageKind) (r s t : ℕ) → r < w.count → LegalOf w k r s t → LegalOf v k r s t
    legal_grows PREPARE r s t l h = (opened_grows r l h.0, shut_grows r l h.1)
    legal_grows YES r s t l h = (g.keep s).got kp r h
    legal_grows NO r s t l (inl h) = inl (λ k. (g.keep s).settled r l (h k))
    legal_grows NO r s t l (inr h) = inr (comm_grows r l h)
    legal_grows COMMIT r s t l (inl h) = inl (comm_grows r l h)
    legal_grows COMMIT r s t l (inr h) = inr ((g.keep t).settled r l h)
    legal_grows ABORT r s t l (inl h) = inl (abort_grows r l h)
    legal_grows ABORT r s t l (inr h) = inr ((g.keep t).settled r l h)
    legal_grows ACK r s t l h = (g.keep s).settled r l h
    legal_grows INQUIRY r s t l h = (rw (g.same r l) h.0, (g.keep s).got kp r h.1)

    pub rec_grows : (s : ℕ) (k : Kind) (r a : ℕ) → r < w.count → RecOf w s k r a → RecOf v s k r a
    rec_grows s kI r a l h = rw (g.same r l) h
    rec_grows s kC r a l h = rw (g.same r l) (h.0, h.1, λ t m. (g.keep t).got kp r (h.2 t m))
    rec_grows s kA r a l h = rw (g.same r l) h
    rec_grows s kE r a l h = (rw (g.same r l) h.0, (h.1.0, decided_grows h.1.0 r l h.1.1, settled_grows h.1.0 r l h.1.2))
    rec_grows s kp r a l h = (rw (g.same r l) h.0, rw (g.same r l) h.1, opened_grows r l h.2, shut_grows r l h.3)
    rec_grows s kc r a l h = comm_grows r l h
    rec_grows s ka r a l h = abort_grows r l h

    pub co_grows : (s r : ℕ) (e : CoordinatorEntry) → CoLegal w s r e → CoLegal v s r e
    co_grows s r none h = tt
    co_grows s r (Open a) h = (known_grows r h.0, rw (g.same r h.0) h.1, rw (g.same r h.0) h.2)
    co_grows s r (Collecting a y) h = (known_grows r h.0, rw (g.same r h.0) h.1, rw (g.same r h.0) h.2, opened_grows r h.0 h.3, λ t m. (g.keep t).got kp r (h.4 t m))
    co_grows s r (Announcing o a) h = (known_grows r h.0, rw (g.same r h.0) h.1, decided_grows o r h.0 h.2, heard_grows o r a h.0 h.3, asked_grows o r a h.0 h.4)

    pub sub_grows : (s r : ℕ) (e : SubordinateEntry) → SubLegal w s r e → SubLegal v s r e
    sub_grows s r idle h = tt
    sub_grows s r (Active c) h = (known_grows r h.0, rw (g.same r h.0) h.1, rw (g.same r h.0) h.2)
    sub_grows s r (Prepared c) h = (known_grows r h.0, rw (g.same r h.0) h.1, (g.keep s).got kp r h.2)

    pub recs_grow : (s : ℕ) (l : List Record) → AllByRecursion (RecLegal w s) l → AllByRecursion (RecLegal v s) l
    recs_grow s l h = All-weaker _ _ (λ x k. (known_grows x.revision k.0, rec_grows s x.kind x.revision x.argument k.0 k.1)) l h

    pub safe_local : (post : List Message) (installed_at dropped_at : ℕ → ℕ) (s : ℕ) → Safe w post installed_at dropped_at → ((t : ℕ) → (s ≡ t) ⊎ (v.station t ≡ w.station t)) → (AllByRecursion (RecLegal v s) (v.station s).stable × AllByRecursion (RecLegal v s) (v.station s).loose) → ((r : ℕ) → CoLegal v s r ((v.station s).coordinators r)) → ((r : ℕ) → SubLegal v s r ((v.station s).subordinates r)) → Safe v post installed_at dropped_at
    safe_local post installed_at dropped_at s h other rs cs ss =
        record {
          msgs = All-weaker _ _ (λ m k. (known_grows m.revision k.0, legal_grows m.kind m.revision m.sender m.receiver k.0 k.1)) post h.msgs;
          installs = λ r t m. (known_grows r (h.installs r t m).0, comm_grows r (h.installs r t m).0 (h.installs r t m).1);
          drops = λ r t m. (known_grows r (h.drops r t m).0, abort_grows r (h.drops r t m).0 (h.drops r t m).1);
          recs = λ t. recs t (other t);
          cos = λ t r. cos t r (other t);
          subs = λ t r. subs t r (other t);
        }
      where
        recs : (t : ℕ) → (s ≡ t) ⊎ (v.station t ≡ w.station t) → AllByRecursion (RecLegal v t) (v.station t).stable × AllByRecursion (RecLegal v t) (v.station t).loose
        recs t (inl e) = subst (λ (u : ℕ). AllByRecursion (RecLegal v u) (v.station u).stable × AllByRecursion (RecLegal v u) (v.station u).loose) e rs
        recs t (inr e) = subst (λ (x : Station). AllByRecursion (RecLegal v t) x.stable × AllByRecursion (RecLegal v t) x.loose) (sym e) (recs_grow t _ (h.recs t).0, recs_grow t _ (h.recs t).1)

        cos : (t r : ℕ) → (s ≡ t) ⊎ (v.station t ≡ w.station t) → CoLegal v t r ((v.station t).coordinators r)
        cos t r (inl e) = subst (λ (u : ℕ). CoLegal v u r ((v.station u).coordinators r)) e (cs r)
        cos t r (inr e) = subst (λ (x : Station). CoLegal v t r (x.coordinators r)) (sym e) (co_grows t r ((w.station t).coordinators r) (h.cos t r))

        subs : (t r : ℕ) → (s ≡ t) ⊎ (v.station t ≡ w.station t) → SubLegal v t r ((v.station t).subordinates r)
        subs t r (inl e) = subst (λ (u : ℕ). SubLegal v u r ((v.station u).subordinates r)) e (ss r)
        subs t r (inr e) = subst (λ (x : Station). SubLegal v t r (x.subordinates r)) (sym e) (sub_grows t r ((w.station t).subordinates r) (h.subs t r))
