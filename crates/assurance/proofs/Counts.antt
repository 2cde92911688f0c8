-- At most one record of each of five sorts for each revision at each station.
use Rattle.std.proofs.Common.{◌≡◌, ℕ, zero, suc, ◌+◌, ◌*◌, ◌<◌, ◌≤◌, Bool, true, false, not, ◌&&◌, ◌||◌, eqb, List, [], ◌∷◌, ◌++◌, length, take, sym, refl, inl, inr, arith}
use Rattle.std.specs.List.{AllByRecursion, sum_by}
use Rattle.std.proofs.lemmas.List.Sums.{sum_by-cons, sum_by-append, sum_by-take-le}
use Rattle.std.proofs.lemmas.Bool.Decides.{nat_tests}
use Rattle.std.proofs.lemmas.Bool.{or_parts, cond_both, cases_Bool, cases_eq}
use Rattle.assurance.proofs.Ideal.{updated, members, Kind, kI, kC, kA, kE, kp, kc, ka, Record, is, has, Outcome, commit, abort, CoordinatorEntry, none, Open, Collecting, Announcing, SubordinateEntry, idle, Active, Prepared, Station, MessageKind, PREPARE, COMMIT, ABORT, Run, Presumption, Logging, not_at_all, written_station, forced_station, cut_station, Act, write, force, installed, dropped, Turn, stay, to_coordinator, to_subordinate, line, send_each, outcome_mail, outcome_kind, await, logged, end_acts, abort_acts, force_if, ack_if, restarted_station, opened_station}
use Rattle.assurance.proofs.Lasting.{No}
use Rattle.assurance.proofs.Claims.{Laws}
use Rattle.assurance.proofs.Local.{locals, turned_station, same_locals, step_at}
use Rattle.assurance.proofs.Rules.{Rule, vote, joins, decide, drop, enforce, confirm, less, finish, start, deny, press, acts_of, turn_of, Why, Did, by_did, all_sends, all_tail}

abbrev pub one : Bool → ℕ
one true = 1
one false = 0

-- the sorts: I, a decision, E, p, an outcome
pub data Sort : Type 0 where
  opening decision ending preparing ended : Sort

abbrev pub rank : Sort → ℕ
rank opening = 0
rank decision = 1
rank ending = 2
rank preparing = 3
rank ended = 4

abbrev pub sort_of : Kind → Sort
sort_of kI = opening
sort_of kC = decision
sort_of kA = decision
sort_of kE = ending
sort_of kp = preparing
sort_of kc = ended
sort_of ka = ended

-- how many records of a sort for a revision
abbrev pub counts : Sort → ℕ → Record → ℕ
counts g r x = one (eqb (rank (sort_of x.kind)) (rank g) && eqb x.revision r)

abbrev pub total : Sort → ℕ → Station → ℕ
total g r y = sum_by (counts g r) y.stable + sum_by (counts g r) y.loose

-- how many the entries may still write
abbrev pub left_of : Sort → CoordinatorEntry → SubordinateEntry → ℕ
left_of opening (Open a) e = 1
left_of decision (Open a) e = 1
left_of decision (Collecting a y) e = 1
left_of ending (Open a) e = 1
left_of ending (Collecting a y) e = 1
left_of ending (Announcing o w) e = 1
left_of preparing c (Active d) = 1
left_of ended c (Active d) = 1
left_of ended c (Prepared d) = 1
left_of g c e = 0

abbrev pub left : Sort → ℕ → Station → ℕ
left g r y = left_of g (y.coordinators r) (y.subordinates r)

abbrev pub FewS : Station → Type 0
FewS y = (g : Sort) (r : ℕ) → total g r y + left g r y ≤ 1

-- how many an act writes
abbrev pub writes : Sort → ℕ → Act → ℕ
writes g r (write x) = counts g r x
writes g r a = 0

abbrev pub wrote : Sort → ℕ → List Act → ℕ
wrote g r l = sum_by (writes g r) l

total_locals : (g : Sort) (r : ℕ) (l : List Act) (y : Station) → total g r (locals l y) ≡ total g r y + wrote g r l
total_locals g r [] y = omega arith
total_locals g r (write x ∷ l) y = omega (arith, total_locals g r l (written_station x y), sum_by-append (counts g r) y.loose (x ∷ []), sum_by-cons (writes g r) (write x) l)
total_locals g r (force ∷ l) y = omega (arith, total_locals g r l (forced_station y), sum_by-append (counts g r) y.stable y.loose, sum_by-cons (writes g r) force l)
total_locals g r (a ∷ l) y = omega (arith, total_locals g r l y, sum_by-cons (writes g r) a l)

total_turn : (g : Sort) (r : ℕ) (tn : Turn) (y : Station) → total g r (turned_station tn y) ≡ total g r y
total_turn g r stay y = refl
total_turn g r tn y = refl

total_cut : (g : Sort) (r n : ℕ) (y : Station) → total g r (cut_station n y) ≤ total g r y
total_cut g r n y = omega (arith, sum_by-append (counts g r) y.stable (take n y.loose), sum_by-take-le (counts g r) y.loose n)

left_after : (g : Sort) (r : ℕ) (l : List Act) (tn : Turn) (y : Station) → left g r (turned_station tn (locals l y)) ≡ left g r (turned_station tn y)
left_after g r l stay y = λ i. left_of g ((same_locals l y).1 i r) ((same_locals l y).2 i r)
left_after g r l (to_coordinator q e) y = λ i. left_of g (updated ((same_locals l y).1 i) q e r) ((same_locals l y).2 i r)
left_after g r l (to_subordinate q e) y = λ i. left_of g ((same_locals l y).1 i r) (updated ((same_locals l y).2 i) q e r)

-- a step writes no more than its entry gives up
abbrev pub Debit : List Act → Turn → Station → Type 0
Debit l tn y = (g : Sort) (q : ℕ) → wrote g q l + left g q (turned_station tn y) ≤ left g q y

pub few_after : (l : List Act) (tn : Turn) (y : Station) → FewS y → Debit l tn y → FewS (turned_station tn (locals l y))
few_after l tn y h d g q = omega (arith, h g q, d g q, total_turn g q tn (locals l y), total_locals g q l y, left_after g q l tn y)

pub left_none : (g : Sort) → left_of g none idle ≡ 0
left_none opening = refl
left_none g = refl

pub few_cut : (n : ℕ) (y : Station) → FewS y → FewS (cut_station n y)
few_cut n y h g q = omega (arith, h g q, total_cut g q n y, left_none g)

few_part : (n f : ℕ) (l : List Act) (tn : Turn) (y : Station) → FewS y → Debit l tn y → FewS (cut_station n (locals (take f l) y))
few_part n f l tn y h d g q = omega (arith, h g q, d g q, total_cut g q n (locals (take f l) y), total_locals g q (take f l) y, sum_by-take-le (writes g q) l f, left_none g)

-- acts that write nothing of a sort
wrote_none : (g : Sort) (q : ℕ) (l : List Act) → AllByRecursion (λ a. writes g q a ≡ 0) l → wrote g q l ≡ 0
wrote_none g q [] h = refl
wrote_none g q (a ∷ l) h = omega (arith, h.0, wrote_none g q l h.1, sum_by-cons (writes g q) a l)

module _ (π : Presumption) (𝓛 : Laws π) where
  wrote_sends : (g : Sort) (q : ℕ) (k : MessageKind) (r s m : ℕ) → wrote g q (send_each k r s (members π.size m)) ≡ 0
  wrote_sends g q k r s m = wrote_none g q (send_each k r s (members π.size m)) (all_sends π (λ a. writes g q a ≡ 0) k r s m (λ _ _. refl))

  wrote_tail : (g : Sort) (q : ℕ) (F A : Bool) (r s t : ℕ) → wrote g q (force_if π F (ack_if π A r s t)) ≡ 0
  wrote_tail g q F A r s t = wrote_none g q (force_if π F (ack_if π A r s t)) (all_tail π (λ a. writes g q a ≡ 0) F A r s t refl refl)

  wrote_log : (g : Sort) (q : ℕ) (l : Logging) (x : Record) → wrote g q (logged l x) ≤ counts g q x
  wrote_log g q not_at_all x = omega arith
  wrote_log g q l x = omega arith

  -- an E is written, or somebody is awaited
  wrote_end : (g : Sort) (q r all d : ℕ) → wrote g q (end_acts π r all d) ≤ counts g q (line kE r 0)
  wrote_end g q r all d = cond_both (not (eqb (π.ackers abort all) 0) && eqb (π.ackers abort d) 0) (write (line kE r 0) ∷ []) [] (λ (l : List Act). wrote g q l ≤ counts g q (line kE r 0)) (λ _. omega arith) (λ _. omega arith)

  end_await : (q r all d : ℕ) (e : SubordinateEntry) → wrote ending q (end_acts π r all d) + left_of ending (await abort (π.ackers abort d)) e ≤ 1
  end_await q r all d e = grind (arith, nat_tests)

  await_left : (o : Outcome) (w : ℕ) (e : SubordinateEntry) → (left_of opening (await o w) e ≡ 0) × (left_of decision (await o w) e ≡ 0) × (left_of ending (await o w) e ≤ 1)
  await_left o w e = grind (arith, nat_tests)

  wrote_drop : (g : Sort) (q r s all d : ℕ) → wrote g q (abort_acts π r s all d) ≡ wrote g q (logged (π.logs all) (line kA r all)) + wrote g q (end_acts π r all d)
  wrote_drop g q r s all d = omega (arith, sum_by-append (writes g q) (logged (π.logs all) (line kA r all)) (send_each ABORT r s (members π.size d) ++ end_acts π r all d), sum_by-append (writes g q) (send_each ABORT r s (members π.size d)) (end_acts π r all d), wrote_sends g q ABORT r s d)

  -- nothing written and nothing turned
  debit_quiet : (l : List Act) (y : Station) → ((g : Sort) (q : ℕ) → wrote g q l ≡ 0) → Debit l stay y
  debit_quiet l y h g q = omega (arith, h g q)

  debit_drop : (r s all d : ℕ) (y : Station) → ((e : SubordinateEntry) → (left_of decision (y.coordinators r) e ≡ 1) × (left_of ending (y.coordinators r) e ≡ 1)) → Debit (abort_acts π r s all d) (to_coordinator r (await abort (π.ackers abort d))) y
  debit_drop r s all d y b g q =
      let w = wrote_drop g q r s all d in
      let u = wrote_log g q (π.logs all) (line kA r all) in
      let v = wrote_end g q r all d in
      let z = end_await q r all d (y.subordinates q) in
      let x = await_left abort (π.ackers abort d) (y.subordinates q) in
      let n = b (y.subordinates q) in
      grind (arith, nat_tests)

  sort_outcome : (o : Outcome) → sort_of (outcome_kind o) ≡ ended
  sort_outcome commit = refl
  sort_outcome abort = refl

  debit_enforce : (o : Outcome) (r c : ℕ) (l : List Act) (m : Act) (y : Station) → ((g : Sort) (q : ℕ) → wrote g q l ≡ 0) → ((g : Sort) (q : ℕ) → writes g q m ≡ 0) → ((e : CoordinatorEntry) → left_of ended e (y.subordinates r) ≡ 1) → Debit (m ∷ (write (line (outcome_kind o) r c) ∷ l)) (to_subordinate r idle) y
  debit_enforce o r c l m y h k b g q =
      let e = sort_outcome o in
      let u = sum_by-cons (writes g q) m (write (line (outcome_kind o) r c) ∷ l) in
      let v = sum_by-cons (writes g q) (write (line (outcome_kind o) r c)) l in
      let w = h g q in
      let x = k g q in
      let n = b (y.coordinators q) in
      grind (arith, nat_tests)

  pub debit_rule : (u : Rule) (r s t : ℕ) (y : Station) → Why π y r t u → Debit (acts_of π u r s t) (turn_of π u r) y
  debit_rule (vote c) r s t y w g q = grind (arith, nat_tests)
  debit_rule (joins all ys) r s t y w g q = let e = w.1 in grind (arith, nat_tests)
  debit_rule (decide all) r s t y w g q =
      let e = w.1 in
      let a = wrote_sends g q COMMIT r s all in
      let z = await_left commit (π.ackers commit all) (y.subordinates q) in
      let u = sum_by-cons (writes g q) (write (line kC r all)) (force ∷ send_each COMMIT r s (members π.size all)) in
      let v = sum_by-cons (writes g q) force (send_each COMMIT r s (members π.size all)) in
      grind (arith, nat_tests)
  debit_rule (drop all d) r s t y w g q = debit_drop r s all d y (λ e. elim w [ inl i ↦ rw i (refl, refl) | inr i ↦ rw i.1 (refl, refl) ]) g q
  debit_rule (enforce commit c) r s t y w g q = debit_enforce commit r c (force_if π (π.forces commit s) (ack_if π (π.acks commit s) r s c)) (installed r) y (λ g q. wrote_tail g q (π.forces commit s) (π.acks commit s) r s c) (λ g q. refl) (λ e. elim w [ inl i ↦ rw i refl | inr i ↦ rw i refl ]) g q
  debit_rule (enforce abort c) r s t y w g q = debit_enforce abort r c (force_if π (π.forces abort s) (ack_if π (π.acks abort s) r s c)) (dropped r) y (λ g q. wrote_tail g q (π.forces abort s) (π.acks abort s) r s c) (λ g q. refl) (λ e. elim w [ inl i ↦ rw i refl | inr i ↦ rw i refl ]) g q
  debit_rule (confirm o) r s t y w g q = debit_quiet (ack_if π (π.acks o s) r s t) y (λ g q. wrote_tail g q false (π.acks o s) r s t) g q
  debit_rule (less o v) r s t y w g q = let e = w.1 in grind (arith, nat_tests)
  debit_rule finish r s t y w g q = let e = w.2 in grind (arith, nat_tests)
  debit_rule (start all) r s t y w g q =
      let a = wrote_sends g q PREPARE r s all in
      let u = sum_by-cons (writes g q) (write (line kI r all)) (force ∷ send_each PREPARE r s (members π.size all)) in
      let v = sum_by-cons (writes g q) force (send_each PREPARE r s (members π.size all)) in
      cond_both (π.opens all) (write (line kI r all) ∷ (force ∷ send_each PREPARE r s (members π.size all))) (send_each PREPARE r s (members π.size all)) (λ (l : List Act). wrote g q l + left g q (turned_station (to_coordinator r (Collecting all 0)) y) ≤ left g q y)
      (λ _. grind (arith, nat_tests))
      (λ _. grind (arith, nat_tests))
  debit_rule (deny c) r s t y w g q = debit_enforce abort r c (force_if π (π.forces abort s) []) (dropped r) y (λ g q. wrote_tail g q (π.forces abort s) false r s s) (λ g q. refl) (λ e. rw w refl) g q
  debit_rule (press o v) r s t y w g q = debit_quiet (send_each (outcome_mail o) r s (members π.size v)) y (λ g q. wrote_sends g q (outcome_mail o) r s v) g q
  debit_rule u r s t y w g q = omega arith

  abbrev pub Few : Run → Type 0
  Few st = (s : ℕ) → FewS (st.station s)

  pub few_did : (st : Run) (r s t f k : ℕ) (P : Rule → Type 0) (v : Run) → Did π st r s t f k P v → Few st → Few v
  few_did st r s t f k P v d h =
      by_did π Few st r s t f k P v d h
      (λ u w _. (let l = acts_of π u r s t in
      let tn = turn_of π u r in
      let d = debit_rule u r s t (st.station s) w in
      step_at (λ _. FewS) s l tn f k st (few_part k f l tn (st.station s) (h s) d) (few_after l tn (st.station s) (h s) d) h))

  -- a sort of which no kind is there
  none_there : (g : Sort) (r : ℕ) (l : List Record) → ((k : Kind) → rank (sort_of k) ≡ rank g → has k r l ≡ false) → sum_by (counts g r) l ≡ 0
  none_there g r [] h = refl
  none_there g r (x ∷ l) h =
      let k = none_there g r l (λ k e. (or_parts (is k r x) (has k r l) (h k e)).1) in
      let n = h x.kind in
      let c = sum_by-cons (counts g r) x l in
      grind (arith, nat_tests)

  ending_kind : (k : Kind) (r : ℕ) (l : List Record) → has kE r l ≡ false → rank (sort_of k) ≡ 2 → has k r l ≡ false
  ending_kind kE r l h e = h
  ending_kind k r l h e = absurd (omega arith)

  ended_kind : (k : Kind) (r : ℕ) (l : List Record) → (has kc r l || has ka r l) ≡ false → rank (sort_of k) ≡ 4 → has k r l ≡ false
  ended_kind kc r l h e = (or_parts (has kc r l) (has ka r l) h).0
  ended_kind ka r l h e = (or_parts (has kc r l) (has ka r l) h).1
  ended_kind k r l h e = absurd (omega arith)

  pub few_restart : (y : Station) → y.loose ≡ [] → FewS y → FewS (restarted_station π y)
  few_restart y b h ending q =
      elim (cases_Bool (has kE q y.stable)) [
        | inl e ↦ (let a = h ending q in let z : left ending q (restarted_station π y) ≡ 0 = grind arith in omega arith)
        | inr e ↦ (let a = none_there ending q y.stable (λ k z. ending_kind k q y.stable e z) in let c : sum_by (counts ending q) y.loose ≡ 0 = rw b refl in let z : left ending q (restarted_station π y) ≤ 1 = grind arith in omega arith)
      ]
  few_restart y b h ended q =
      elim (cases_Bool (has kc q y.stable || has ka q y.stable)) [
        | inl e ↦ (let a = h ended q in let z : left ended q (restarted_station π y) ≡ 0 = grind arith in omega arith)
        | inr e ↦ (let a = none_there ended q y.stable (λ k z. ended_kind k q y.stable e z) in let c : sum_by (counts ended q) y.loose ≡ 0 = rw b refl in let z : left ended q (restarted_station π y) ≤ 1 = grind arith in omega arith)
      ]
  few_restart y b h g q = let a = h g q in let z : left g q (restarted_station π y) ≡ 0 = grind arith in omega arith

  pub few_open : (n c all s : ℕ) (y : Station) → ((k : Kind) → No k n y) → FewS y → FewS (opened_station n c all s y)
  few_open n c all s y nil h g q =
      let a = h g q in
      let u = none_there g n y.stable (λ k _. (nil k).0) in
      let v = none_there g n y.loose (λ k _. (nil k).1) in
      elim (cases_eq n q) [ inl e ↦ grind (arith, nat_tests) | inr e ↦ grind (arith, nat_tests) ]

-- the bound on a station's records
abbrev below : ℕ → (ℕ → ℕ) → ℕ
below zero f = 0
below (suc n) f = f n + below n f

abbrev of_rev : ℕ → List Record → ℕ
of_rev r [] = 0
of_rev r (x ∷ l) = one (eqb x.revision r) + of_rev r l

below_add : (n : ℕ) (f g : ℕ → ℕ) → below n (λ r. f r + g r) ≡ below n f + below n g
below_add zero f g = omega arith
below_add (suc n) f g = omega (arith, below_add n f g)

below_none : (n q : ℕ) → n ≤ q → below n (λ r. one (eqb q r)) ≡ 0
below_none zero q h = refl
below_none (suc n) q h = let k = below_none n q (omega arith) in grind (arith, nat_tests)

below_one : (n q : ℕ) → q < n → below n (λ r. one (eqb q r)) ≡ 1
below_one zero q h = absurd (omega arith)
below_one (suc n) q h = elim (cases_eq q n) [ inl e ↦ (let k = below_none n q (omega arith) in grind (arith, nat_tests)) | inr e ↦ (let k = below_one n q (omega arith) in grind (arith, nat_tests)) ]

below_zero : (n : ℕ) → below n (λ r. 0) ≡ 0
below_zero zero = refl
below_zero (suc n) = omega (arith, below_zero n)

counted : (n : ℕ) (l : List Record) → AllByRecursion (λ x. x.revision < n) l → length l ≡ below n (λ r. of_rev r l)
counted n [] h = sym (below_zero n)
counted n (x ∷ l) h = omega (arith, counted n l h.1, below_add n (λ r. one (eqb x.revision r)) (λ r. of_rev r l), below_one n x.revision h.0)

below_le : (n m : ℕ) (f : ℕ → ℕ) → ((r : ℕ) → r < n → f r ≤ m) → below n f ≤ n * m
below_le zero m f h = omega arith
below_le (suc n) m f h = omega (arith, h n (omega arith), below_le n m f (λ r l. h r (omega arith)))

-- each record is of one sort
all_sorts : (r : ℕ) (l : List Record) → of_rev r l ≤ sum_by (counts opening r) l + sum_by (counts decision r) l + sum_by (counts ending r) l + sum_by (counts preparing r) l + sum_by (counts ended r) l
all_sorts r [] = omega arith
all_sorts r (x ∷ l) =
    let h = all_sorts r l in
    let a = sum_by-cons (counts opening r) x l in
    let b = sum_by-cons (counts decision r) x l in
    let c = sum_by-cons (counts ending r) x l in
    let d = sum_by-cons (counts preparing r) x l in
    let e = sum_by-cons (counts ended r) x l in
    grind (arith, nat_tests)

-- at most five for each revision
pub room : (n : ℕ) (y : Station) → AllByRecursion (λ x. x.revision < n) y.stable → AllByRecursion (λ x. x.revision < n) y.loose → FewS y → length y.stable + length y.loose ≤ n * 5
room n y a b h =
    omega (
      arith,
      counted n y.stable a,
      counted n y.loose b,
      below_add n (λ r. of_rev r y.stable) (λ r. of_rev r y.loose),
      below_le n 5 (λ r. of_rev r y.stable + of_rev r y.loose) (λ r _. omega (arith, all_sorts r y.stable, all_sorts r y.loose, h opening r, h decision r, h ending r, h preparing r, h ended r)),
    )
