-- Every step of a station is one of fifteen rules.
use Rattle.std.proofs.Common.{◌≡◌, ℕ, zero, suc, ◌+◌, ◌<◌, ◌≤◌, Bool, true, false, not, ◌&&◌, eqb, ltb, ◌⊎◌, List, [], ◌∷◌, ◌++◌, length, sym, refl, ap, subst, inl, inr, arith, length-append}
use Rattle.std.specs.List.{AllByRecursion, range_with_len}
use Rattle.std.proofs.lemmas.Bool.Decides.{nat_tests}
use Rattle.std.proofs.lemmas.Bool.{cond_both, cond-false, le-ltb, eqb-true, and_parts}
use Rattle.assurance.proofs.Ideal.{in_set, with_station, without_station, members, kI, kA, kE, Record, Outcome, commit, abort, CoordinatorEntry, none, Open, Collecting, Announcing, SubordinateEntry, idle, Active, Prepared, Station, MessageKind, PREPARE, YES, NO, COMMIT, ABORT, ACK, INQUIRY, Run, Presumption, Logging, not_at_all, at_station, set_coordinator, Act, write, force, send, acts_done, Turn, stay, to_coordinator, to_subordinate, turn, step, line, letter, send_each, outcome_mail, await, logged, close_acts, commit_acts, end_acts, abort_acts, force_if, ack_if, enforce_acts, reject_acts, prepare_acts, upon_prepare, upon_yes, decide_abort, upon_no, upon_outcome, upon_ack, upon_inquiry, upon_close, upon_give_up, upon_reject, upon_chase, upon_inquire, handed, nudge, Kind, kC, kp, kc, ka, outcome_kind, unforced, forced, installed, dropped}
use Rattle.assurance.proofs.Each.{All-filter, All-weaker, All-append}
use Rattle.std.proofs.lemmas.List.Sums.{length-filter, count_by-le-length}
use Rattle.std.proofs.lemmas.List.FromFn.{length-range_with_len}
use Rattle.assurance.proofs.Claims.{Laws}

-- every step of a station is one of these rules
pub data Rule : Type 0 where
  vote : ℕ → Rule
  again refuse : Rule
  joins : ℕ → ℕ → Rule
  decide : ℕ → Rule
  drop : ℕ → ℕ → Rule
  enforce : Outcome → ℕ → Rule
  confirm : Outcome → Rule
  less : Outcome → ℕ → Rule
  finish : Rule
  answer : Outcome → Rule
  start : ℕ → Rule
  deny : ℕ → Rule
  press : Outcome → ℕ → Rule
  asks : ℕ → Rule

module _ (π : Presumption) where
  abbrev pub acts_of : Rule → ℕ → ℕ → ℕ → List Act
  acts_of (vote c) r s t = prepare_acts π r s t c
  acts_of again r s t = send (letter YES r s t) ∷ []
  acts_of refuse r s t = send (letter NO r s t) ∷ []
  acts_of (joins all ys) r s t = []
  acts_of (decide all) r s t = commit_acts π r s all
  acts_of (drop all d) r s t = abort_acts π r s all d
  acts_of (enforce o c) r s t = enforce_acts π o r s c
  acts_of (confirm o) r s t = ack_if π (π.acks o s) r s t
  acts_of (less o w) r s t = []
  acts_of finish r s t = write (line kE r 0) ∷ []
  acts_of (answer o) r s t = send (letter (outcome_mail o) r s t) ∷ []
  acts_of (start all) r s t = close_acts π r s all
  acts_of (deny c) r s t = reject_acts π r s c
  acts_of (press o w) r s t = send_each (outcome_mail o) r s (members π.size w)
  acts_of (asks c) r s t = send (letter INQUIRY r s c) ∷ []

  abbrev pub turn_of : Rule → ℕ → Turn
  turn_of (vote c) r = to_subordinate r (Prepared c)
  turn_of (joins all ys) r = to_coordinator r (Collecting all ys)
  turn_of (decide all) r = to_coordinator r (await commit (π.ackers commit all))
  turn_of (drop all d) r = to_coordinator r (await abort (π.ackers abort d))
  turn_of (enforce o c) r = to_subordinate r idle
  turn_of (less o w) r = to_coordinator r (Announcing o w)
  turn_of finish r = to_coordinator r none
  turn_of (start all) r = to_coordinator r (Collecting all 0)
  turn_of (deny c) r = to_subordinate r idle
  turn_of u r = stay

  -- when a rule is applied
  abbrev pub Why : Station → ℕ → ℕ → Rule → Type 0
  Why y r t (vote c) = y.subordinates r ≡ Active c
  Why y r t (joins all ys) = (zs : ℕ) × (y.coordinators r ≡ Collecting all zs)
  Why y r t (decide all) = (zs : ℕ) × (y.coordinators r ≡ Collecting all zs)
  Why y r t (drop all d) = (y.coordinators r ≡ Open all) ⊎ ((zs : ℕ) × (y.coordinators r ≡ Collecting all zs))
  Why y r t (enforce o c) = (y.subordinates r ≡ Prepared c) ⊎ (y.subordinates r ≡ Active c)
  Why y r t (less o w) = (v : ℕ) × (y.coordinators r ≡ Announcing o v)
  Why y r t finish = (o : Outcome) × (v : ℕ) × (y.coordinators r ≡ Announcing o v)
  Why y r t (start all) = y.coordinators r ≡ Open all
  Why y r t (deny c) = y.subordinates r ≡ Active c
  Why y r t (press o w) = y.coordinators r ≡ Announcing o w
  Why y r t (asks c) = y.subordinates r ≡ Prepared c
  Why y r t u = Unit {0}

  -- the records that a rule writes
  abbrev pub Writes : Rule → Kind → Type 0
  Writes (vote c) k = k ≡ kp
  Writes (decide all) k = k ≡ kC
  Writes (drop all d) k = (k ≡ kA) ⊎ (k ≡ kE)
  Writes (enforce o c) k = k ≡ outcome_kind o
  Writes finish k = k ≡ kE
  Writes (start all) k = k ≡ kI
  Writes (deny c) k = k ≡ ka
  Writes u k = ⊥

  -- whom a rule posts to: the coordinator that the entry names, or who asked, or stations of the run
  abbrev pub Tells : Rule → ℕ → ℕ → Type 0
  Tells (enforce o c) t x = x ≡ c
  Tells (asks c) t x = x ≡ c
  Tells u t x = (x ≡ t) ⊎ (x < π.size)

  -- the message that a rule answers
  abbrev pub For : Rule → MessageKind → Type 0
  For (vote c) m = PREPARE ≡ m
  For again m = PREPARE ≡ m
  For refuse m = PREPARE ≡ m
  For (joins all ys) m = YES ≡ m
  For (decide all) m = YES ≡ m
  For (drop all d) m = NO ≡ m
  For (enforce o c) m = outcome_mail o ≡ m
  For (confirm o) m = outcome_mail o ≡ m
  For (less o w) m = ACK ≡ m
  For finish m = ACK ≡ m
  For (answer o) m = INQUIRY ≡ m
  For u m = ⊥

  abbrev pub Did : Run → ℕ → ℕ → ℕ → ℕ → ℕ → (Rule → Type 0) → Run → Type 0
  Did st r s t f k P v = (v ≡ st) ⊎ ((u : Rule) × Why (st.station s) r t u × P u × (v ≡ step s (acts_of u r s t) (turn_of u r) f k st))

  pub bare : (s : ℕ) (tn : Turn) (f k : ℕ) (st : Run) → turn s tn st ≡ step s [] tn f k st
  bare s tn f k st = grind (arith, nat_tests)

  pub did_handed : (m : MessageKind) (r s t f k : ℕ) (st : Run) → Did st r s t f k (λ u. For u m) (handed π m r s t f k st)
  did_handed PREPARE r s t f k st = go ((st.station s).subordinates r) refl
    where
      go : (e : SubordinateEntry) → (st.station s).subordinates r ≡ e → Did st r s t f k (λ u. For u PREPARE) (upon_prepare π r s t e f k st)
      go idle e = inr (refuse, tt, refl, refl)
      go (Active c) e = inr (vote c, e, refl, refl)
      go (Prepared c) e = inr (again, tt, refl, refl)
  did_handed YES r s t f k st = go ((st.station s).coordinators r) refl
    where
      go : (e : CoordinatorEntry) → (st.station s).coordinators r ≡ e → Did st r s t f k (λ u. For u YES) (upon_yes π r s t e f k st)
      go (Collecting all ys) e =
          cond_both (in_set all t) _ st (Did st r s t f k (λ u. For u YES))
          (λ _. cond_both (eqb (with_station ys t) all) (step s (commit_acts π r s all) (to_coordinator r (await commit (π.ackers commit all))) f k st) (at_station s (set_coordinator r (Collecting all (with_station ys t))) st) (Did st r s t f k (λ u. For u YES))
          (λ _. inr (decide all, (ys, e), refl, refl))
          (λ _. inr (joins all (with_station ys t), (ys, e), refl, bare s (to_coordinator r (Collecting all (with_station ys t))) f k st)))
          (λ _. inl refl)
      go x e = inl refl
  did_handed NO r s t f k st = go ((st.station s).coordinators r) refl
    where
      go : (e : CoordinatorEntry) → (st.station s).coordinators r ≡ e → Did st r s t f k (λ u. For u NO) (upon_no π r s t e f k st)
      go (Collecting all ys) e = cond_both (in_set all t) (decide_abort π r s all (without_station all t) f k st) st (Did st r s t f k (λ u. For u NO)) (λ _. inr (drop all (without_station all t), inr (ys, e), refl, refl)) (λ _. inl refl)
      go x e = inl refl
  did_handed COMMIT r s t f k st = go ((st.station s).subordinates r) refl
    where
      go : (e : SubordinateEntry) → (st.station s).subordinates r ≡ e → Did st r s t f k (λ u. For u COMMIT) (upon_outcome π commit r s t e f k st)
      go idle e = inr (confirm commit, tt, refl, refl)
      go (Active c) e = inl refl
      go (Prepared c) e = inr (enforce commit c, inl e, refl, refl)
  did_handed ABORT r s t f k st = go ((st.station s).subordinates r) refl
    where
      go : (e : SubordinateEntry) → (st.station s).subordinates r ≡ e → Did st r s t f k (λ u. For u ABORT) (upon_outcome π abort r s t e f k st)
      go idle e = inr (confirm abort, tt, refl, refl)
      go (Active c) e = inr (enforce abort c, inr e, refl, refl)
      go (Prepared c) e = inr (enforce abort c, inl e, refl, refl)
  did_handed ACK r s t f k st = go ((st.station s).coordinators r) refl
    where
      go : (e : CoordinatorEntry) → (st.station s).coordinators r ≡ e → Did st r s t f k (λ u. For u ACK) (upon_ack π r s t e f k st)
      go (Announcing o w) e =
          cond_both (in_set w t) _ st (Did st r s t f k (λ u. For u ACK))
          (λ _. cond_both (eqb (without_station w t) 0) (step s (write (line kE r 0) ∷ []) (to_coordinator r none) f k st) (at_station s (set_coordinator r (Announcing o (without_station w t))) st) (Did st r s t f k (λ u. For u ACK))
          (λ _. inr (finish, (o, w, e), refl, refl))
          (λ _. inr (less o (without_station w t), (w, e), refl, bare s (to_coordinator r (Announcing o (without_station w t))) f k st)))
          (λ _. inl refl)
      go x e = inl refl
  did_handed INQUIRY r s t f k st = go ((st.station s).coordinators r) refl
    where
      go : (e : CoordinatorEntry) → (st.station s).coordinators r ≡ e → Did st r s t f k (λ u. For u INQUIRY) (upon_inquiry π r s t e f k st)
      go none e = inr (answer (π.presumed t), tt, refl, refl)
      go (Announcing o w) e = inr (answer o, tt, refl, refl)
      go x e = inl refl

  abbrev pub Any : Rule → Type 0
  Any u = Unit {0}

  pub did_close : (r s f k : ℕ) (st : Run) (e : CoordinatorEntry) → (st.station s).coordinators r ≡ e → Did st r s s f k Any (upon_close π r s e f k st)
  did_close r s f k st (Open all) e = inr (start all, e, tt, refl)
  did_close r s f k st x e = inl refl

  pub did_give_up : (r s f k : ℕ) (st : Run) (e : CoordinatorEntry) → (st.station s).coordinators r ≡ e → Did st r s s f k Any (upon_give_up π r s e f k st)
  did_give_up r s f k st (Open all) e = inr (drop all all, inl e, tt, refl)
  did_give_up r s f k st (Collecting all ys) e = inr (drop all all, inr (ys, e), tt, refl)
  did_give_up r s f k st x e = inl refl

  pub did_chase : (r s f k : ℕ) (st : Run) (e : CoordinatorEntry) → (st.station s).coordinators r ≡ e → Did st r s s f k Any (upon_chase π r s e f k st)
  did_chase r s f k st (Announcing o w) e = inr (press o w, e, tt, refl)
  did_chase r s f k st x e = inl refl

  pub did_nudge : (r s : ℕ) (st : Run) (e : CoordinatorEntry) → (st.station s).coordinators r ≡ e → Did st r s s 255 0 Any (nudge π r s e st)
  did_nudge r s st (Collecting all ys) e = did_give_up r s 255 0 st (Collecting all ys) e
  did_nudge r s st (Announcing o w) e = did_chase r s 255 0 st (Announcing o w) e
  did_nudge r s st x e = inl refl

  pub did_reject : (r s f k : ℕ) (st : Run) (e : SubordinateEntry) → (st.station s).subordinates r ≡ e → Did st r s s f k Any (upon_reject π r s e f k st)
  did_reject r s f k st (Active c) e = inr (deny c, e, tt, refl)
  did_reject r s f k st x e = inl refl

  pub did_inquire : (r s f k : ℕ) (st : Run) (e : SubordinateEntry) → (st.station s).subordinates r ≡ e → Did st r s s f k Any (upon_inquire π r s e f k st)
  did_inquire r s f k st (Prepared c) e = inr (asks c, e, tt, refl)
  did_inquire r s f k st x e = inl refl

  -- a predicate that every step keeps, every call but open, lose, cut, restart keeps
  pub by_did : (Q : Run → Type 0) (st : Run) (r s t f k : ℕ) (P : Rule → Type 0) (v : Run) → Did st r s t f k P v → Q st → ((u : Rule) → Why (st.station s) r t u → P u → Q (step s (acts_of u r s t) (turn_of u r) f k st)) → Q v
  by_did Q st r s t f k P v (inl e) q each = subst Q (sym e) q
  by_did Q st r s t f k P v (inr d) q each = subst Q (sym d.3) (each d.0 d.1 d.2)

-- the members of a set, as a list
pub few_members : (n m : ℕ) → length (members n m) ≤ n
unfolding members
few_members n m = omega (arith, length-filter (in_set m) (range_with_len 0 n), count_by-le-length (in_set m) (range_with_len 0 n), length-range_with_len 0 n)

pub counting_below : (a n b : ℕ) → a + n ≤ b → AllByRecursion (λ u. u < b) (range_with_len a n)
counting_below a zero b h = tt
counting_below a (suc n) b h = (omega arith, counting_below (a + 1) n b (omega arith))

pub members_below : (n m : ℕ) → AllByRecursion (λ u. u < n) (members n m)
unfolding members
members_below n m = All-filter (λ u. u < n) _ (in_set m) (λ u l _. l) (range_with_len 0 n) (counting_below 0 n n (omega arith))

-- what holds of each act of a rule
all_each : (P : Act → Type 0) (k : MessageKind) (r s : ℕ) (ts : List ℕ) → AllByRecursion (λ t. P (send (letter k r s t))) ts → AllByRecursion P (send_each k r s ts)
all_each P k r s [] h = tt
all_each P k r s (t ∷ ts) h = (h.0, all_each P k r s ts h.1)

module _ (π : Presumption) (P : Act → Type 0) where
  pub all_sends : (k : MessageKind) (r s m : ℕ) → ((x : ℕ) → x < π.size → P (send (letter k r s x))) → AllByRecursion P (send_each k r s (members π.size m))
  all_sends k r s m h = all_each P k r s (members π.size m) (All-weaker _ _ h (members π.size m) (members_below π.size m))

  pub all_tail : (F A : Bool) (r s t : ℕ) → P force → P (send (letter ACK r s t)) → AllByRecursion P (force_if π F (ack_if π A r s t))
  all_tail true true r s t f m = (f, (m, tt))
  all_tail true false r s t f m = (f, tt)
  all_tail false true r s t f m = (m, tt)
  all_tail false false r s t f m = tt

  pub all_log : (l : Logging) (x : Record) → P (write x) → P force → AllByRecursion P (logged l x)
  all_log not_at_all x w f = tt
  all_log unforced x w f = (w, tt)
  all_log forced x w f = (w, (f, tt))

  pub all_end : (r all d : ℕ) → (π.ackers abort d ≡ 0 → P (write (line kE r 0))) → AllByRecursion P (end_acts π r all d)
  all_end r all d w = cond_both (not (eqb (π.ackers abort all) 0) && eqb (π.ackers abort d) 0) (write (line kE r 0) ∷ []) [] (AllByRecursion P) (λ e. (w (eqb-true _ _ (and_parts _ _ e).1), tt)) (λ _. tt)

  pub all_acts : (u : Rule) (r s t : ℕ) → ((k : Kind) (a : ℕ) → Writes π u k → P (write (line k r a))) → P force → ((k : MessageKind) (x : ℕ) → Tells π u t x → P (send (letter k r s x))) → P (installed r) → P (dropped r) → AllByRecursion P (acts_of π u r s t)
  all_acts (vote c) r s t w f m i d = (w kp c refl, (f, (m YES t (inl refl), tt)))
  all_acts again r s t w f m i d = (m YES t (inl refl), tt)
  all_acts refuse r s t w f m i d = (m NO t (inl refl), tt)
  all_acts (decide all) r s t w f m i d = (w kC all refl, (f, all_sends COMMIT r s all (λ x h. m COMMIT x (inr h))))
  all_acts (drop all b) r s t w f m i d = All-append P (logged (π.logs all) (line kA r all)) _ (all_log (π.logs all) (line kA r all) (w kA all (inl refl)) f) (All-append P (send_each ABORT r s (members π.size b)) _ (all_sends ABORT r s b (λ x h. m ABORT x (inr h))) (all_end r all b (λ _. w kE 0 (inr refl))))
  all_acts (enforce commit c) r s t w f m i d = (i, (w kc c refl, all_tail (π.forces commit s) (π.acks commit s) r s c f (m ACK c refl)))
  all_acts (enforce abort c) r s t w f m i d = (d, (w ka c refl, all_tail (π.forces abort s) (π.acks abort s) r s c f (m ACK c refl)))
  all_acts (confirm o) r s t w f m i d = all_tail false (π.acks o s) r s t f (m ACK t (inl refl))
  all_acts finish r s t w f m i d = (w kE 0 refl, tt)
  all_acts (answer o) r s t w f m i d = (m (outcome_mail o) t (inl refl), tt)
  all_acts (start all) r s t w f m i d =
      cond_both (π.opens all) (write (line kI r all) ∷ (force ∷ send_each PREPARE r s (members π.size all))) (send_each PREPARE r s (members π.size all)) (AllByRecursion P)
      (λ _. (w kI all refl, (f, all_sends PREPARE r s all (λ x h. m PREPARE x (inr h)))))
      (λ _. all_sends PREPARE r s all (λ x h. m PREPARE x (inr h)))
  all_acts (deny c) r s t w f m i d = (d, (w ka c refl, forced_if (π.forces abort s)))
    where
      forced_if : (F : Bool) → AllByRecursion P (force_if π F [])
      forced_if true = (f, tt)
      forced_if false = tt
  all_acts (press o b) r s t w f m i d = all_sends (outcome_mail o) r s b (λ x h. m (outcome_mail o) x (inr h))
  all_acts (asks c) r s t w f m i d = (m INQUIRY c refl, tt)
  all_acts u r s t w f m i d = tt

pub length_sends : (k : MessageKind) (r s : ℕ) (ts : List ℕ) → length (send_each k r s ts) ≡ length ts
length_sends k r s [] = refl
length_sends k r s (t ∷ ts) = ap suc (length_sends k r s ts)

module _ (π : Presumption) (𝓛 : Laws π) where
  short_tail : (F A : Bool) (r s c : ℕ) → length (force_if π F (ack_if π A r s c)) ≤ 2
  short_tail true true r s c = omega arith
  short_tail true false r s c = omega arith
  short_tail false true r s c = omega arith
  short_tail false false r s c = omega arith

  short_log : (l : Logging) (x : Record) → length (logged l x) ≤ 2
  short_log not_at_all x = omega arith
  short_log y x = omega arith

  short_end : (r all d : ℕ) → length (end_acts π r all d) ≤ 1
  short_end r all d = cond_both (not (eqb (π.ackers abort all) 0) && eqb (π.ackers abort d) 0) (write (line kE r 0) ∷ []) [] (λ (l : List Act). length l ≤ 1) (λ _. omega arith) (λ _. omega arith)

  pub short : (u : Rule) (r s t : ℕ) → length (acts_of π u r s t) ≤ 255
  short (decide all) r s t = omega (arith, length_sends COMMIT r s (members π.size all), few_members π.size all, 𝓛.small)
  short (drop all d) r s t = omega (arith, length-append (logged (π.logs all) (line kA r all)) (send_each ABORT r s (members π.size d) ++ end_acts π r all d), length-append (send_each ABORT r s (members π.size d)) (end_acts π r all d), short_log (π.logs all) (line kA r all), short_end r all d, length_sends ABORT r s (members π.size d), few_members π.size d, 𝓛.small)
  short (enforce commit c) r s t = omega (arith, short_tail (π.forces commit s) (π.acks commit s) r s c)
  short (enforce abort c) r s t = omega (arith, short_tail (π.forces abort s) (π.acks abort s) r s c)
  short (confirm o) r s t = omega (arith, short_tail false (π.acks o s) r s t)
  short (start all) r s t = cond_both (π.opens all) (write (line kI r all) ∷ (force ∷ send_each PREPARE r s (members π.size all))) (send_each PREPARE r s (members π.size all)) (λ (l : List Act). length l ≤ 255) (λ _. omega (arith, length_sends PREPARE r s (members π.size all), few_members π.size all, 𝓛.small)) (λ _. omega (arith, length_sends PREPARE r s (members π.size all), few_members π.size all, 𝓛.small))
  short (deny c) r s t = omega (arith, short_tail (π.forces abort s) false r s c)
  short (press o w) r s t = omega (arith, length_sends (outcome_mail o) r s (members π.size w), few_members π.size w, 𝓛.small)
  short u r s t = omega arith

  -- no fuse burns down in a settle
  pub whole : (u : Rule) (r s t : ℕ) (st : Run) → step s (acts_of π u r s t) (turn_of π u r) 255 0 st ≡ turn s (turn_of π u r) (acts_done s (acts_of π u r s t) st)
  whole u r s t st = cond-false (ltb 255 (length (acts_of π u r s t))) _ _ (le-ltb 255 (length (acts_of π u r s t)) (short u r s t))
