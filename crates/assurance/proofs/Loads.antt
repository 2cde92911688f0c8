-- Each delivery lowers the load of the post, so emptying it ends; how many deliveries settling makes.
use Rattle.std.proofs.Common.{◌≡◌, ℕ, zero, suc, ◌+◌, ◌*◌, ◌<◌, ◌≤◌, Bool, true, false, not, ◌&&◌, eqb, ltb, List, [], ◌∷◌, ◌++◌, length, take, sym, refl, ap, arith}
use Rattle.std.proofs.lemmas.Bool.{cond_both}
use Rattle.assurance.proofs.Ideal.{members, kA, kE, Record, Outcome, commit, abort, CoordinatorEntry, Collecting, Announcing, SubordinateEntry, Prepared, MessageKind, PREPARE, COMMIT, ABORT, INQUIRY, Message, Run, Presumption, Logging, not_at_all, at_station, cut_station, with_message, with_post, Act, write, send, act_done, acts_done, Turn, stay, to_coordinator, turn, step, line, letter, send_each, outcome_mail, await, logged, end_acts, abort_acts, force_if, ack_if, enforce_acts, upon_inquire, handed, weigh, load, hand_first, drain, emptied, nudge, urged, asked, inquire_all, revise, revise_all, settled}
use Rattle.std.proofs.lemmas.List.FromFn.{length-range_with_len}
use Rattle.std.specs.List.{range_with_len, sum_by}
use Rattle.assurance.proofs.Claims.{Laws}
use Rattle.assurance.proofs.Rules.{Rule, decide, drop, enforce, confirm, answer, start, deny, press, asks, acts_of, turn_of, For, by_did, did_handed, few_members}
use Rattle.std.proofs.lemmas.List.Sums.{sum_by-cons, sum_by-append, sum_by-take-le}

-- what waits weighs, in messages of each kind
pub load_append : (n : ℕ) (l m : List Message) → load n (l ++ m) ≡ load n l + load n m
load_append n [] m = omega arith
load_append n (x ∷ l) m = omega (arith, load_append n l m)

pub weigh_some : (n : ℕ) (m : MessageKind) → 0 < weigh n m
weigh_some n PREPARE = omega arith
weigh_some n m = omega arith

weigh_most : (n : ℕ) (m : MessageKind) → 1 ≤ n → weigh n m ≤ 2 * n + 2
weigh_most n PREPARE h = omega arith
weigh_most n m h = omega arith

pub load_most : (n : ℕ) (l : List Message) → 1 ≤ n → load n l ≤ (2 * n + 2) * length l
load_most n [] h = omega arith
load_most n (m ∷ l) h = omega (arith, weigh_most n m.kind h, load_most n l h)

-- what an act posts weighs, and what a list of acts does
abbrev posts : ℕ → Act → ℕ
posts n (send m) = weigh n m.kind
posts n a = 0

abbrev pub posted : ℕ → List Act → ℕ
posted n l = sum_by (posts n) l

load_send : (n : ℕ) (m : Message) (st : Run) → load n (with_message m st).post ≤ weigh n m.kind + load n st.post
load_send n m st = cond_both (ltb (length st.post) 64) (st.post ++ (m ∷ [])) st.post (λ p. load n p ≤ weigh n m.kind + load n st.post) (λ _. omega (arith, load_append n st.post (m ∷ []))) (λ _. omega arith)

load_act : (n s : ℕ) (a : Act) (st : Run) → load n (act_done s a st).post ≤ posts n a + load n st.post
load_act n s (send m) st = load_send n m st
load_act n s a st = omega arith

load_acts : (n s : ℕ) (l : List Act) (st : Run) → load n (acts_done s l st).post ≤ posted n l + load n st.post
load_acts n s [] st = omega arith
load_acts n s (a ∷ l) st = omega (arith, load_acts n s l (act_done s a st), load_act n s a st, sum_by-cons (posts n) a l)

load_turn : (n s : ℕ) (t : Turn) (st : Run) → load n (turn s t st).post ≤ load n st.post
load_turn n s stay st = omega arith
load_turn n s tn st = omega arith

pub load_step : (n s : ℕ) (l : List Act) (t : Turn) (f k : ℕ) (st : Run) → load n (step s l t f k st).post ≤ posted n l + load n st.post
load_step n s l t f k st =
    cond_both (ltb f (length l)) (at_station s (cut_station k) (acts_done s (take f l) st)) (turn s t (acts_done s l st)) (λ (u : Run). load n u.post ≤ posted n l + load n st.post)
    (λ _. omega (arith, load_acts n s (take f l) st, sum_by-take-le (posts n) l f))
    (λ _. omega (arith, load_acts n s l st, load_turn n s t (acts_done s l st)))

posted_send : (n : ℕ) (k : MessageKind) (r s : ℕ) (ts : List ℕ) → posted n (send_each k r s ts) ≡ length ts * weigh n k
posted_send n k r s [] = omega arith
posted_send n k r s (t ∷ ts) = omega (arith, posted_send n k r s ts, sum_by-cons (posts n) (send (letter k r s t)) (send_each k r s ts))

module _ (π : Presumption) (𝓛 : Laws π) where
  posted_tail : (n : ℕ) (F A : Bool) (r s c : ℕ) → posted n (force_if π F (ack_if π A r s c)) ≤ 1
  posted_tail n true true r s c = omega arith
  posted_tail n true false r s c = omega arith
  posted_tail n false true r s c = omega arith
  posted_tail n false false r s c = omega arith

  posted_log : (n : ℕ) (l : Logging) (x : Record) → posted n (logged l x) ≡ 0
  posted_log n not_at_all x = refl
  posted_log n y x = refl

  posted_end : (n r all d : ℕ) → posted n (end_acts π r all d) ≡ 0
  posted_end n r all d = cond_both (not (eqb (π.ackers abort all) 0) && eqb (π.ackers abort d) 0) (write (line kE r 0) ∷ []) [] (λ (l : List Act). posted n l ≡ 0) (λ _. refl) (λ _. refl)

  weigh_outcome : (n : ℕ) (o : Outcome) → weigh n (outcome_mail o) ≡ 2
  weigh_outcome n commit = refl
  weigh_outcome n abort = refl

  posted_enforce : (n : ℕ) (o : Outcome) (r s c : ℕ) → posted n (enforce_acts π o r s c) ≤ 1
  posted_enforce n commit r s c = posted_tail n (π.forces commit s) (π.acks commit s) r s c
  posted_enforce n abort r s c = posted_tail n (π.forces abort s) (π.acks abort s) r s c

  posted_drop : (r s all d : ℕ) → posted π.size (abort_acts π r s all d) ≤ 2 * π.size
  posted_drop r s all d =
      let n = π.size in
      omega (arith, sum_by-append (posts n) (logged (π.logs all) (line kA r all)) (send_each ABORT r s (members n d) ++ end_acts π r all d), sum_by-append (posts n) (send_each ABORT r s (members n d)) (end_acts π r all d), posted_log n (π.logs all) (line kA r all), posted_end n r all d, posted_send n ABORT r s (members n d), few_members n d)

  posted_rule : (u : Rule) (m : MessageKind) (r s t : ℕ) → For π u m → posted π.size (acts_of π u r s t) < weigh π.size m
  posted_rule (decide all) m r s t e = rw (← e) (omega (arith, posted_send π.size COMMIT r s (members π.size all), few_members π.size all))
  posted_rule (drop all d) m r s t e = rw (← e) (omega (arith, posted_drop r s all d))
  posted_rule (enforce o c) m r s t e = rw (← e) (omega (arith, weigh_outcome π.size o, posted_enforce π.size o r s c))
  posted_rule (confirm o) m r s t e = rw (← e) (omega (arith, weigh_outcome π.size o, posted_tail π.size false (π.acks o s) r s t))
  posted_rule (answer o) m r s t e = rw (← e) (omega (arith, weigh_outcome π.size o))
  posted_rule (start all) m r s t e = absurd e
  posted_rule (deny c) m r s t e = absurd e
  posted_rule (press o w) m r s t e = absurd e
  posted_rule (asks c) m r s t e = absurd e
  posted_rule u m r s t e = rw (← e) (omega arith)

  -- each delivery lowers the load
  pub load_handed : (m : MessageKind) (r s t f k : ℕ) (st : Run) → load π.size (handed π m r s t f k st).post < weigh π.size m + load π.size st.post
  load_handed m r s t f k st =
      by_did π (λ (v : Run). load π.size v.post < weigh π.size m + load π.size st.post) st r s t f k (λ u. For π u m) (handed π m r s t f k st) (did_handed π m r s t f k st)
      (omega (arith, weigh_some π.size m))
      (λ u w e. omega (arith, load_step π.size s (acts_of π u r s t) (turn_of π u r) f k st, posted_rule u m r s t e))

  load_first : (m : Message) (st : Run) → load π.size (hand_first π m st).post < weigh π.size m.kind + load π.size st.post
  load_first m st =
      cond_both (st.station m.receiver).power (handed π m.kind m.revision m.receiver m.sender 255 0 st) st (λ (u : Run). load π.size u.post < weigh π.size m.kind + load π.size st.post)
      (λ _. load_handed m.kind m.revision m.receiver m.sender 255 0 st)
      (λ _. omega (arith, weigh_some π.size m.kind))

  drained : (fuel : ℕ) (p : List Message) (st : Run) (k : ℕ) → p ≡ st.post → load π.size p ≤ fuel → ((drain π fuel p st k).left.post ≡ []) × ((drain π fuel p st k).made ≤ k + load π.size p)
  unfolding drain
  drained zero [] st k e h = (sym e, omega arith)
  drained zero (m ∷ ms) st k e h = absurd (omega (arith, weigh_some π.size m.kind, h))
  drained (suc fuel) [] st k e h = (sym e, omega arith)
  drained (suc fuel) (m ∷ ms) st k e h =
      let u = hand_first π m (with_post ms st) in
      let l = load_first m (with_post ms st) in
      let q = drained fuel u.post u (suc k) refl (omega arith) in
      (q.0, omega (arith, q.1))

  -- more fuel than the load changes nothing
  pub same_drain : (f g : ℕ) (p : List Message) (st : Run) (k : ℕ) → load π.size p ≤ f → load π.size p ≤ g → drain π f p st k ≡ drain π g p st k
  unfolding drain
  same_drain zero zero [] st k a b = refl
  same_drain zero (suc g) [] st k a b = refl
  same_drain zero zero (m ∷ ms) st k a b = refl
  same_drain zero (suc g) (m ∷ ms) st k a b = absurd (omega (arith, weigh_some π.size m.kind))
  same_drain (suc f) zero [] st k a b = refl
  same_drain (suc f) (suc g) [] st k a b = refl
  same_drain (suc f) zero (m ∷ ms) st k a b = absurd (omega (arith, weigh_some π.size m.kind))
  same_drain (suc f) (suc g) (m ∷ ms) st k a b =
      let u = hand_first π m (with_post ms st) in
      let l = load_first m (with_post ms st) in
      same_drain f g u.post u (suc k) (omega arith) (omega arith)

  -- emptied: nothing waits, and the deliveries are no more than the load
  pub empty : (st : Run) (k : ℕ) → ((emptied π st k).left.post ≡ []) × ((emptied π st k).made ≤ k + load π.size st.post)
  unfolding emptied
  empty st k = drained (load π.size st.post) st.post st k refl (omega arith)

  -- what each delivery keeps, emptying keeps
  drain_keeps : (Q : Run → Type 0) → ((m : Message) (ms : List Message) (st : Run) → m ∷ ms ≡ st.post → Q st → Q (hand_first π m (with_post ms st))) → (n : ℕ) (p : List Message) (st : Run) (k : ℕ) → p ≡ st.post → Q st → Q (drain π n p st k).left
  unfolding drain
  drain_keeps Q each zero p st k e q = q
  drain_keeps Q each (suc n) [] st k e q = q
  drain_keeps Q each (suc n) (m ∷ ms) st k e q = drain_keeps Q each n (hand_first π m (with_post ms st)).post (hand_first π m (with_post ms st)) (suc k) refl (each m ms st e q)

  pub keeps_emptied : (Q : Run → Type 0) → ((m : Message) (ms : List Message) (st : Run) → m ∷ ms ≡ st.post → Q st → Q (hand_first π m (with_post ms st))) → (st : Run) (k : ℕ) → Q st → Q (emptied π st k).left
  unfolding emptied
  keeps_emptied Q each st k q = drain_keeps Q each (load π.size st.post) st.post st k refl q

  -- what urging posts
  pub load_urged : (r : ℕ) (st : Run) → load π.size (urged π r st).post ≤ 2 * π.size + load π.size st.post
  load_urged r st = cond_both (st.station (st.plan r).coordinator).power _ st (λ (u : Run). load π.size u.post ≤ 2 * π.size + load π.size st.post) (λ _. go ((st.station (st.plan r).coordinator).coordinators r)) (λ _. omega arith)
    where
      s : ℕ
      s = (st.plan r).coordinator

      go : (e : CoordinatorEntry) → load π.size (nudge π r (st.plan r).coordinator e st).post ≤ 2 * π.size + load π.size st.post
      go (Collecting all ys) = omega (arith, load_step π.size (st.plan r).coordinator (abort_acts π r (st.plan r).coordinator all all) (to_coordinator r (await abort (π.ackers abort all))) 255 0 st, posted_drop r (st.plan r).coordinator all all)
      go (Announcing o w) = omega (arith, load_step π.size (st.plan r).coordinator (send_each (outcome_mail o) r (st.plan r).coordinator (members π.size w)) stay 255 0 st, posted_send π.size (outcome_mail o) r (st.plan r).coordinator (members π.size w), few_members π.size w, ap (λ (x : ℕ). length (members π.size w) * x) (weigh_outcome π.size o))
      go e = omega arith

  pub load_asked : (r s : ℕ) (st : Run) → load π.size (asked π r s st).post ≤ 3 + load π.size st.post
  load_asked r s st = cond_both (st.station s).power (upon_inquire π r s ((st.station s).subordinates r) 255 0 st) st (λ (u : Run). load π.size u.post ≤ 3 + load π.size st.post) (λ _. go ((st.station s).subordinates r)) (λ _. omega arith)
    where
      go : (e : SubordinateEntry) → load π.size (upon_inquire π r s e 255 0 st).post ≤ 3 + load π.size st.post
      go (Prepared c) = omega (arith, load_step π.size s (send (letter INQUIRY r s c) ∷ []) stay 255 0 st)
      go e = omega arith

  -- the count of deliveries
  made_asks : (r : ℕ) (ss : List ℕ) (st : Run) (k : ℕ) → st.post ≡ [] → ((inquire_all π r ss st k).left.post ≡ []) × ((inquire_all π r ss st k).made ≤ k + 3 * length ss)
  unfolding inquire_all
  made_asks r [] st k e = (e, omega arith)
  made_asks r (s ∷ ss) st k e =
      let d = emptied π (asked π r s st) k in
      let b = empty (asked π r s st) k in
      let q = made_asks r ss d.left d.made b.0 in
      let z : load π.size st.post ≡ 0 = rw e refl in
      (q.0, omega (arith, q.1, b.1, load_asked r s st, z))

  made_revise : (r : ℕ) (st : Run) (k : ℕ) → st.post ≡ [] → ((revise π r st k).left.post ≡ []) × ((revise π r st k).made ≤ k + 5 * π.size)
  unfolding revise
  made_revise r st k e =
      let d = emptied π (urged π r st) k in
      let b = empty (urged π r st) k in
      let q = made_asks r (range_with_len 0 π.size) d.left d.made b.0 in
      let z : load π.size st.post ≡ 0 = rw e refl in
      (q.0, omega (arith, q.1, b.1, load_urged r st, z, length-range_with_len 0 π.size))

  made_revises : (rs : List ℕ) (st : Run) (k : ℕ) → st.post ≡ [] → ((revise_all π rs st k).left.post ≡ []) × ((revise_all π rs st k).made ≤ k + 5 * π.size * length rs)
  unfolding revise_all
  made_revises [] st k e = (e, omega arith)
  made_revises (r ∷ rs) st k e =
      let d = revise π r st k in
      let b = made_revise r st k e in
      let q = made_revises rs d.left d.made b.0 in
      (q.0, omega (arith, q.1, b.1))

  pub made_settled : (st : Run) → ((settled π st).left.post ≡ []) × ((settled π st).made ≤ (2 * π.size + 2) * length st.post + 5 * π.size * st.count)
  unfolding settled
  made_settled st =
      let d = emptied π st 0 in
      let b = empty st 0 in
      let q = made_revises (range_with_len 0 st.count) d.left d.made b.0 in
      (q.0, omega (arith, q.1, b.1, load_most π.size st.post (omega (arith, 𝓛.some)), ap (λ (x : ℕ). 5 * π.size * x) (length-range_with_len 0 st.count)))
