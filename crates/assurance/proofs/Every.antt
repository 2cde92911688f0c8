-- All that holds after every call, and what settling leaves.
use Rattle.std.proofs.Common.{◌≡◌, ℕ, ◌+◌, ◌^◌, ◌<◌, ◌≤◌, Bool, true, false, cond, not, ◌&&◌, eqb, ltb, List, [], ◌∷◌, length, get_or, take, sym, refl, ap, ◌∙◌, subst, inl, inr, arith, drop}
use Rattle.std.specs.List.{AllByRecursion, range_with_len, sum_by}
use Rattle.assurance.proofs.Each.{All-weaker, All-get_or, All-append, All-take, All-drop}
use Rattle.std.proofs.lemmas.Bool.{or_from, cond_both, cond-true, cond-false, cases_Bool, true≢false, ne_eqb, and_parts, not-true, cases_lt, ltb-true}
use Rattle.assurance.proofs.Ideal.{updated, in_set, members, Kind, kp, kc, ka, Record, is, has, CoordinatorEntry, none, Open, SubordinateEntry, idle, Active, Prepared, Station, Message, Plan, Run, Presumption, at_station, cut_station, with_post, Act, Turn, step, letter, handed, restarted_station, upon_open, drop_at, Call, open_revision, close, give_up, chase, reject, inquire, deliver, lose, cut, restart, settle, look, all_powered, hand_first, emptied, urged, asked, inquire_all, revise, revise_all, settled, fits, call, calls, PREPARE}
use Rattle.assurance.proofs.Lasting.{Got, No, world, Legal, SubLegal}
use Rattle.assurance.proofs.Sets.{mem_zero, mem_below}
use Rattle.assurance.proofs.Claims.{Laws, Quiet, new}
use Rattle.assurance.proofs.Invariant.{Inv, inv_post, none_yet, inv_did, safe_handed, safe_nudge, tidy_open, args_of}
use Rattle.assurance.proofs.Rules.{Rule, acts_of, turn_of, For, Did, by_did, did_handed, did_close, did_give_up, did_chase, did_reject, did_inquire, did_nudge, counting_below}
use Rattle.assurance.proofs.Ranges.{NearM, Near, near_in, near_did, Marked, marked_in, marked_did, cut_back, drp_did}
use Rattle.assurance.proofs.Counts.{FewS, Few, few_did, few_cut, few_restart, few_open, room, ended, sort_of, counts, left_of, left, left_none}
use Rattle.assurance.proofs.Loads.{keeps_emptied}
use Rattle.assurance.proofs.Whole.{On, Sure, Rested}
use Rattle.assurance.proofs.UnderWay.{Elem, elem_members}
use Rattle.assurance.proofs.Settled.{settles, rest_all, installed_all}
use Rattle.assurance.proofs.Local.{locals, turned_power, same_locals, in_at, step_at, plan_step}
use Rattle.assurance.proofs.SafeActs.{SafeSt, safe_cut}
use Rattle.assurance.proofs.SafeRules.{TidyS, safe_give_up, safe_reject, is_that}
use Rattle.assurance.proofs.SafeCalls.{safe_chase, safe_inquire, safe_close, safe_restart}
use Rattle.assurance.proofs.SafeOpen.{safe_open}
use Rattle.assurance.proofs.Tidy.{tidy_cut, tidy_restart}
use Rattle.std.proofs.lemmas.List.Sums.{sum_by-cons}
use Rattle.std.proofs.lemmas.Bool.Decides.{nat_tests}

-- a dark station has no entry
abbrev pub DarkS : Station → Type 0
DarkS y = y.power ≡ false → (r : ℕ) → (y.coordinators r ≡ none) × (y.subordinates r ≡ idle)

abbrev pub Dark : Run → Type 0
Dark st = (s : ℕ) → DarkS (st.station s)

dark_step : (s : ℕ) (l : List Act) (tn : Turn) (f k : ℕ) (st : Run) → (st.station s).power ≡ true → Dark st → Dark (step s l tn f k st)
dark_step s l tn f k st on h =
    step_at (λ _. DarkS) s l tn f k st (λ _ r. (refl, refl))
    (λ off. absurd (true≢false (sym (turned_power tn (locals l (st.station s)) ∙ ((same_locals l (st.station s)).0 ∙ on)) ∙ off))) h

on_elem : (l : List ℕ) (st : Run) (s : ℕ) → all_powered l st ≡ true → Elem s l → (st.station s).power ≡ true
on_elem [] st s h e = absurd e
on_elem (x ∷ l) st s h (inl e) = subst (λ (y : ℕ). (st.station y).power ≡ true) e (and_parts (st.station x).power (all_powered l st) h).0
on_elem (x ∷ l) st s h (inr e) = on_elem l st s (and_parts (st.station x).power (all_powered l st) h).1 e

all_drop_at : {X : Type 0} (P : X → Type 0) (n : ℕ) (l : List X) → AllByRecursion P l → AllByRecursion P (drop_at n l)
all_drop_at P n l h = All-append P (take n l) (drop (n + 1) l) (All-take P n l h) (All-drop P (n + 1) l h)

dark_open : (n c all : ℕ) (st : Run) → all < 2 ^ n → (st.station c).power ≡ true → all_powered (members n all) st ≡ true → Dark st → Dark (upon_open c all st)
dark_open n c all st small on ons h s off r = (
  ap (λ (f : ℕ → CoordinatorEntry). f r) (cond-false (eqb c s) (updated (st.station s).coordinators st.count (Open all)) (st.station s).coordinators (ne_eqb c s (λ e. true≢false (sym (subst (λ (x : ℕ). (st.station x).power ≡ true) e on) ∙ off)))) ∙ (h s off r).0,
  ap (λ (f : ℕ → SubordinateEntry). f r) (cond-false (in_set all s) (updated (st.station s).subordinates st.count (Active c)) (st.station s).subordinates out) ∙ (h s off r).1,
)
  where
    out : in_set all s ≡ false
    out = elim (cases_Bool (in_set all s)) [ inl e ↦ absurd (true≢false (sym (on_elem (members n all) st s ons (elem_members n all s e (mem_below n all s small e))) ∙ off)) | inr e ↦ e ]

module _ (π : Presumption) (𝓛 : Laws π) where
  dark_did : (st : Run) (r s t f k : ℕ) (P : Rule → Type 0) (v : Run) → (st.station s).power ≡ true → Did π st r s t f k P v → Dark st → Dark v
  dark_did st r s t f k P v on d h = by_did π Dark st r s t f k P v d h (λ u w _. dark_step s (acts_of π u r s t) (turn_of π u r) f k st on h)

  count_did : (st : Run) (r s t f k : ℕ) (P : Rule → Type 0) (v : Run) → Did π st r s t f k P v → v.count ≡ st.count
  count_did st r s t f k P v d = by_did π (λ (v : Run). v.count ≡ st.count) st r s t f k P v d refl (λ u w _. (plan_step s (acts_of π u r s t) (turn_of π u r) f k st).1)

  -- what a settle keeps
  module _ (Q : Run → Type 0) (each : (m : Message) (ms : List Message) (st : Run) → m ∷ ms ≡ st.post → Q st → Q (hand_first π m (with_post ms st))) (urge : (r : ℕ) (st : Run) → Q st → Q (urged π r st)) (ask : (r s : ℕ) (st : Run) → s < π.size → Q st → Q (asked π r s st)) where
    keeps_asks : (r : ℕ) (ss : List ℕ) (st : Run) (k : ℕ) → AllByRecursion (λ s. s < π.size) ss → Q st → Q (inquire_all π r ss st k).left
    unfolding inquire_all
    keeps_asks r [] st k a h = h
    keeps_asks r (s ∷ ss) st k a h = keeps_asks r ss (emptied π (asked π r s st) k).left (emptied π (asked π r s st) k).made a.1 (keeps_emptied π 𝓛 Q each (asked π r s st) k (ask r s st a.0 h))

    keeps_revise : (r : ℕ) (st : Run) (k : ℕ) → Q st → Q (revise π r st k).left
    unfolding revise
    keeps_revise r st k h = keeps_asks r (range_with_len 0 π.size) (emptied π (urged π r st) k).left (emptied π (urged π r st) k).made (counting_below 0 π.size π.size (omega arith)) (keeps_emptied π 𝓛 Q each (urged π r st) k (urge r st h))

    keeps_revises : (rs : List ℕ) (st : Run) (k : ℕ) → Q st → Q (revise_all π rs st k).left
    unfolding revise_all
    keeps_revises [] st k h = h
    keeps_revises (r ∷ rs) st k h = keeps_revises rs (revise π r st k).left (revise π r st k).made (keeps_revise r st k h)

    pub keeps_settled : (st : Run) → Q st → Q (settled π st).left
    unfolding settled
    keeps_settled st h = keeps_revises (range_with_len 0 st.count) (emptied π st 0).left (emptied π st 0).made (keeps_emptied π 𝓛 Q each st 0 h)

  pub record Full (st : Run) : Type 0 where
    pub inv : Inv π 𝓛 st
    pub near : Near π.size st
    pub marked : Marked st
    pub few : Few π 𝓛 st
    pub cap : st.count ≤ 32
    pub dark : Dark st

  full_did : (st : Run) (r s t f k : ℕ) (P : Rule → Type 0) (v : Run) → Full st → SafeSt π v → (st.station s).power ≡ true → s < π.size → t < π.size → Did π st r s t f k P v → Full v
  full_did st r s t f k P v h safe on a b d =
      record {
        inv = inv_did π 𝓛 st r s t f k P v on safe d h.inv;
        near = near_did π 𝓛 st r s t f k P v h.inv.safe a b d h.near;
        marked = marked_did π 𝓛 st r s t f k P v d h.marked;
        few = few_did π 𝓛 st r s t f k P v d h.few;
        cap = rw (count_did st r s t f k P v d) h.cap;
        dark = dark_did st r s t f k P v on d h.dark;
      }

  full_post : (st : Run) (p : List Message) → AllByRecursion (Legal π (world st)) p → AllByRecursion (NearM π.size) p → Full st → Full (with_post p st)
  full_post st p l n h = record { inv = inv_post π 𝓛 st p h.inv l; near = record { posts = n; plans = h.near.plans; sets = h.near.sets; far = h.near.far }; marked = h.marked; few = h.few; cap = h.cap; dark = h.dark }

  fits_parts : (n c all : ℕ) → fits n c all ≡ true → (c < n) × (all < 2 ^ n)
  unfolding fits
  fits_parts n c all e = let p = and_parts _ _ e in (ltb-true c n p.0, ltb-true all (2 ^ n) (and_parts _ _ p.1).0)

  lt_of : (s : ℕ) (b : Bool) → (ltb s π.size && b) ≡ true → s < π.size
  lt_of s b e = ltb-true s π.size (and_parts _ _ e).0

  -- what may be opened
  abbrev Opens : ℕ → ℕ → Run → Bool
  Opens c all st = fits π.size c all && (ltb st.count 32 && ((st.station c).power && all_powered (members π.size all) st))

  full_open : (c all : ℕ) (st : Run) → Full st → Opens c all st ≡ true → Full (upon_open c all st)
  full_open c all st h e =
      let p = and_parts (fits π.size c all) (ltb st.count 32 && ((st.station c).power && all_powered (members π.size all) st)) e in
      let q = and_parts (ltb st.count 32) ((st.station c).power && all_powered (members π.size all) st) p.1 in
      let z = and_parts (st.station c).power (all_powered (members π.size all) st) q.1 in
      let f = fits_parts π.size c all p.0 in
      record {
        inv = record { safe = safe_open π c all st h.inv.safe; tidy = tidy_open π 𝓛 c all st h.inv.safe h.inv.tidy };
        near = record {
          posts = h.near.posts;
          plans = λ r. cond_both (eqb st.count r) (record { coordinator = c; names = all }) (st.plan r) (λ (p : Plan). p.coordinator < π.size) (λ _. f.0) (λ _. h.near.plans r);
          sets = λ r t. cond_both (eqb st.count r) (record { coordinator = c; names = all }) (st.plan r) (λ (p : Plan). in_set p.names t ≡ true → t < π.size) (λ _ m. mem_below π.size all t f.1 m) (λ _ m. h.near.sets r t m);
          far = h.near.far;
        };
        marked = h.marked;
        few = λ s. few_open π 𝓛 st.count c all s (st.station s) (λ k. none_yet π 𝓛 st h.inv.safe s k) (h.few s);
        cap = omega (arith, ltb-true st.count 32 q.0);
        dark = dark_open π.size c all st f.1 z.0 z.1 h.dark;
      }

  full_cut : (s k : ℕ) (st : Run) → Full st → s < π.size → Full (at_station s (cut_station k) st)
  full_cut s k st h l =
      record {
        inv = record { safe = safe_cut π st s h.inv.safe k; tidy = in_at (TidyS π st.plan) s (cut_station k) st (tidy_cut π st.plan s k (st.station s)) h.inv.tidy };
        near = near_in π.size s (cut_station k) st l h.near;
        marked = marked_in s (cut_station k) st (λ r q. inl (cut_back 0 r k (st.station s) q)) h.marked;
        few = in_at (λ _. FewS) s (cut_station k) st (few_cut k (st.station s) (h.few s)) h.few;
        cap = h.cap;
        dark = in_at (λ _. DarkS) s (cut_station k) st (λ _ r. (refl, refl)) h.dark;
      }

  full_restart : (s : ℕ) (st : Run) → Full st → s < π.size → (st.station s).power ≡ false → Full (at_station s (restarted_station π) st)
  full_restart s st h l off =
      let bare = (h.inv.tidy s).dark off in
      record {
        inv = record { safe = safe_restart π 𝓛 s st h.inv.safe bare; tidy = in_at (TidyS π st.plan) s (restarted_station π) st (tidy_restart π st.plan s 𝓛 (st.station s) (h.inv.tidy s) off (args_of π 𝓛 s st h.inv.safe)) h.inv.tidy };
        near = near_in π.size s (restarted_station π) st l h.near;
        marked = marked_in s (restarted_station π) st (λ r q. inl q) h.marked;
        few = in_at (λ _. FewS) s (restarted_station π) st (few_restart π 𝓛 (st.station s) bare (h.few s)) h.few;
        cap = h.cap;
        dark = in_at (λ _. DarkS) s (restarted_station π) st (λ z. absurd (true≢false z)) h.dark;
      }

  -- what every part of a call keeps
  pub record Kept (Q : Run → Type 0) : Type 1 where
    pub stepped : (st : Run) (r s t f k : ℕ) (P : Rule → Type 0) (v : Run) → Full st → SafeSt π v → (st.station s).power ≡ true → s < π.size → t < π.size → Did π st r s t f k P v → Q st → Q v
    pub posted : (st : Run) (p : List Message) → AllByRecursion (Legal π (world st)) p → AllByRecursion (NearM π.size) p → Full st → Q st → Q (with_post p st)
    pub opened : (c all : ℕ) (st : Run) → Full st → Opens c all st ≡ true → Q st → Q (upon_open c all st)
    pub cut_off : (s k : ℕ) (st : Run) → Full st → s < π.size → Q st → Q (at_station s (cut_station k) st)
    pub restarted : (s : ℕ) (st : Run) → Full st → s < π.size → (st.station s).power ≡ false → Q st → Q (at_station s (restarted_station π) st)

  full_kept : Kept Full
  full_kept =
      record {
        stepped = λ st r s t f k P v h safe on a b d _. full_did st r s t f k P v h safe on a b d;
        posted = λ st p l n h _. full_post st p l n h;
        opened = λ c all st h e _. full_open c all st h e;
        cut_off = λ s k st h l _. full_cut s k st h l;
        restarted = λ s st h l off _. full_restart s st h l off;
      }

  module _ (Q : Run → Type 0) (K : Kept Q) where
    -- a step under a question
    if_asked : (b : Bool) (st : Run) (r s t f k : ℕ) (P : Rule → Type 0) (v : Run) → Full st → (b ≡ true → SafeSt π v) → (b ≡ true → (st.station s).power ≡ true) → (b ≡ true → s < π.size) → (b ≡ true → t < π.size) → Did π st r s t f k P v → Q st → Q (cond b v st)
    if_asked true st r s t f k P v h safe on a c d q = K.stepped st r s t f k P v h (safe refl) (on refl) (a refl) (c refl) d q
    if_asked false st r s t f k P v h safe on a c d q = q

    -- by the coordinator of a revision, and by a station that is there
    by_coordinator : (r f k : ℕ) (P : Rule → Type 0) (st v : Run) → (let s = (st.plan r).coordinator in (Full st → SafeSt π v → Did π st r s s f k P v → Q st → Q (cond (st.station s).power v st)))
    by_coordinator r f k P st v h safe d q = let s = (st.plan r).coordinator in if_asked (st.station s).power st r s s f k P v h (λ _. safe) (λ e. e) (λ _. h.near.plans r) (λ _. h.near.plans r) d q

    by_station : (r s f k : ℕ) (P : Rule → Type 0) (st v : Run) → Full st → SafeSt π v → Did π st r s s f k P v → Q st → Q (cond (ltb s π.size && (st.station s).power) v st)
    by_station r s f k P st v h safe d q = if_asked (ltb s π.size && (st.station s).power) st r s s f k P v h (λ _. safe) (λ e. (and_parts _ _ e).1) (lt_of s _) (lt_of s _) d q

    -- a message that is handed over
    by_message : (m : Message) (f k : ℕ) (st : Run) → Legal π (world st) m → NearM π.size m → Full st → Q st → Q (cond (st.station m.receiver).power (handed π m.kind m.revision m.receiver m.sender f k st) st)
    by_message m f k st l n h q = go (st.station m.receiver).power refl
      where
        go : (b : Bool) → (st.station m.receiver).power ≡ b → Q (cond b (handed π m.kind m.revision m.receiver m.sender f k st) st)
        go true on = K.stepped st m.revision m.receiver m.sender f k (λ u. For π u m.kind) _ h (safe_handed π 𝓛 m.kind m.revision m.receiver m.sender f k st on h.inv l) on n.1 n.0 (did_handed π m.kind m.revision m.receiver m.sender f k st) q
        go false on = q

    first_kept : (m : Message) (ms : List Message) (st : Run) → m ∷ ms ≡ st.post → Full st → Q st → Q (hand_first π m (with_post ms st))
    first_kept m ms st e h q =
        let n : AllByRecursion (NearM π.size) (m ∷ ms) = subst (AllByRecursion (NearM π.size)) (sym e) h.near.posts in
        let l : AllByRecursion (Legal π (world st)) (m ∷ ms) = subst (AllByRecursion (Legal π (world st))) (sym e) h.inv.safe.msgs in
        by_message m 255 0 (with_post ms st) l.0 n.0 (full_post st ms l.1 n.1 h) (K.posted st ms l.1 n.1 h q)

    urged_kept : (r : ℕ) (st : Run) → Full st → Q st → Q (urged π r st)
    urged_kept r st h q = by_coordinator r 255 0 _ st _ h (safe_nudge π 𝓛 r (st.plan r).coordinator st h.inv) (did_nudge π r (st.plan r).coordinator st ((st.station (st.plan r).coordinator).coordinators r) refl) q

    asked_kept : (r s : ℕ) (st : Run) → s < π.size → Full st → Q st → Q (asked π r s st)
    asked_kept r s st l h q = if_asked (st.station s).power st r s s 255 0 _ _ h (λ _. safe_inquire π 𝓛 r s ((st.station s).subordinates r) 255 0 st h.inv.safe refl) (λ e. e) (λ _. l) (λ _. l) (did_inquire π r s 255 0 st ((st.station s).subordinates r) refl) q

  full_first : (m : Message) (ms : List Message) (st : Run) → m ∷ ms ≡ st.post → Full st → Full (hand_first π m (with_post ms st))
  full_first m ms st e h = first_kept Full full_kept m ms st e h h

  pub full_urged : (r : ℕ) (st : Run) → Full st → Full (urged π r st)
  full_urged r st h = urged_kept Full full_kept r st h h

  pub full_asked : (r s : ℕ) (st : Run) → s < π.size → Full st → Full (asked π r s st)
  full_asked r s st l h = asked_kept Full full_kept r s st l h h

  module _ (Q : Run → Type 0) (K : Kept Q) where
    call_kept : (c : Call) (st : Run) → Full st → Q st → Q (call π c st)
    call_kept (open_revision c all) st h q = cond_both (Opens c all st) (upon_open c all st) st Q (λ e. K.opened c all st h e q) (λ _. q)
    call_kept (close r f k) st h q = let s = (st.plan r).coordinator in by_coordinator Q K r f k _ st _ h (safe_close π 𝓛 r s ((st.station s).coordinators r) f k st h.inv.safe refl) (did_close π r s f k st ((st.station s).coordinators r) refl) q
    call_kept (give_up r f k) st h q = let s = (st.plan r).coordinator in by_coordinator Q K r f k _ st _ h (safe_give_up π 𝓛 r s ((st.station s).coordinators r) f k st h.inv.safe (h.inv.tidy s) refl) (did_give_up π r s f k st ((st.station s).coordinators r) refl) q
    call_kept (chase r f k) st h q = let s = (st.plan r).coordinator in by_coordinator Q K r f k _ st _ h (safe_chase π 𝓛 r s ((st.station s).coordinators r) f k st h.inv.safe refl) (did_chase π r s f k st ((st.station s).coordinators r) refl) q
    call_kept (reject r s f k) st h q = by_station Q K r s f k _ st _ h (safe_reject π 𝓛 r s ((st.station s).subordinates r) f k st h.inv.safe (h.inv.tidy s) refl) (did_reject π r s f k st ((st.station s).subordinates r) refl) q
    call_kept (inquire r s f k) st h q = by_station Q K r s f k _ st _ h (safe_inquire π 𝓛 r s ((st.station s).subordinates r) f k st h.inv.safe refl) (did_inquire π r s f k st ((st.station s).subordinates r) refl) q
    call_kept (deliver i copy f k) st h q =
        cond_both (ltb i (length st.post)) _ st Q
        (λ lt. let m : Message = get_or st.post i (letter PREPARE 0 0 0) in
        let p : List Message = cond copy st.post (drop_at i st.post) in
        let l = left_of copy (Legal π (world st)) i st.post h.inv.safe.msgs in
        let n = left_of copy (NearM π.size) i st.post h.near.posts in
        by_message Q K m f k (with_post p st) (All-get_or _ st.post i (letter PREPARE 0 0 0) (ltb-true i (length st.post) lt) h.inv.safe.msgs) (All-get_or _ st.post i (letter PREPARE 0 0 0) (ltb-true i (length st.post) lt) h.near.posts) (full_post st p l n h) (K.posted st p l n h q))
        (λ _. q)
      where
        left_of : (copy : Bool) (P : Message → Type 0) (i : ℕ) (p : List Message) → AllByRecursion P p → AllByRecursion P (cond copy p (drop_at i p))
        left_of true P i p h = h
        left_of false P i p h = all_drop_at P i p h
    call_kept (lose i) st h q = K.posted st (drop_at i st.post) (all_drop_at _ i st.post h.inv.safe.msgs) (all_drop_at _ i st.post h.near.posts) h q
    call_kept (cut s k) st h q = cond_both (ltb s π.size && (st.station s).power) (at_station s (cut_station k) st) st Q (λ e. K.cut_off s k st h (lt_of s _ e) q) (λ _. q)
    call_kept (restart s) st h q = cond_both (ltb s π.size && not (st.station s).power) (at_station s (restarted_station π) st) st Q (λ e. K.restarted s st h (lt_of s _ e) (not-true _ (and_parts _ _ e).1) q) (λ _. q)
    call_kept settle st h q =
        cond_both (all_powered (range_with_len 0 π.size) st) (settled π st).left st Q
        (λ _. (keeps_settled (λ (v : Run). Full v × Q v) (λ m ms v e k. (full_first m ms v e k.0, first_kept Q K m ms v e k.0 k.1)) (λ r v k. (full_urged r v k.0, urged_kept Q K r v k.0 k.1)) (λ r s v l k. (full_asked r s v l k.0, asked_kept Q K r s v l k.0 k.1)) st (h, q)).1)
        (λ _. q)
    call_kept look st h q = q

  pub full_call : (c : Call) (st : Run) → Full st → Full (call π c st)
  full_call c st h = call_kept Full full_kept c st h h

  calls_kept : (Q : Run → Type 0) → Kept Q → (cs : List Call) (st : Run) → Full st → Q st → Q (calls π cs st)
  calls_kept Q K [] st h q = q
  calls_kept Q K (c ∷ cs) st h q = calls_kept Q K cs (call π c st) (full_call c st h) (call_kept Q K c st h q)

  pub full_calls : (cs : List Call) (st : Run) → Full st → Full (calls π cs st)
  full_calls cs st h = calls_kept Full full_kept cs st h h

  -- what was dropped stays dropped
  pub drp_calls : (r s : ℕ) (cs : List Call) (st : Run) → Full st → in_set (st.dropped_at r) s ≡ true → in_set ((calls π cs st).dropped_at r) s ≡ true
  drp_calls r s cs st h d =
      calls_kept (λ (v : Run). in_set (v.dropped_at r) s ≡ true)
      (record { stepped = λ st q x t f k P v _ _ _ _ _ e i. drp_did π 𝓛 r s st q x t f k P v e i; posted = λ _ _ _ _ _ i. i; opened = λ _ _ _ _ _ i. i; cut_off = λ _ _ _ _ _ i. i; restarted = λ _ _ _ _ _ i. i })
      cs st h d

  -- the start
  pub full_new : Inv π 𝓛 new → Full new
  full_new i =
      record {
        inv = i;
        near = record { posts = tt; plans = λ r. omega (arith, 𝓛.some); sets = λ r t m. absurd (true≢false (sym m ∙ mem_zero t)); far = λ s l. refl };
        marked = λ s r q. elim q [ inl e ↦ absurd (true≢false (sym e)) | inr e ↦ absurd (true≢false (sym e)) ];
        few = λ s g r. omega (arith, left_none g);
        cap = omega arith;
        dark = λ s e r. (refl, refl);
      }

  -- a settle from any such state
  pub all_on : (l : List ℕ) (st : Run) → AllByRecursion (λ s. (st.station s).power ≡ true) l → all_powered l st ≡ true
  all_on [] st h = refl
  all_on (s ∷ l) st h = rw h.0 (all_on l st h.1)

  pub quiet_settle : (st : Run) → Full st → ((s : ℕ) → s < π.size → (st.station s).power ≡ true) → Quiet (call π settle st)
  quiet_settle st h on =
      let every_on : On st = λ s. elim (cases_lt s π.size) [ inl l ↦ on s l | inr l ↦ h.near.far s l ] in
      let e : call π settle st ≡ (settled π st).left = cond-true (all_powered (range_with_len 0 π.size) st) (settled π st).left st (all_on (range_with_len 0 π.size) st (All-weaker _ _ (λ s l. on s l) (range_with_len 0 π.size) (counting_below 0 π.size π.size (omega arith)))) in
      let s = settles π 𝓛 st h.inv every_on h.near.sets in
      let v = (settled π st).left in
      let k : Full v = keeps_settled Full full_first full_urged full_asked st h in
      let rest = rest_all π 𝓛 v k.inv (λ r l. s.1 r (subst (λ (x : ℕ). r < x) s.2 l)) in
      subst Quiet (sym e)
      (record {
        posted = s.0.bare;
        doubt = λ r x c q. subst Sure q (rest r x).1;
        voting = λ r x a y q. subst Rested q (rest r x).0;
        telling = λ r x o w q. subst Rested q (rest r x).0;
        everywhere = λ r t c n. installed_all π 𝓛 v k.inv s.0.on k.marked (λ r x. (rest r x).1) r t c n;
      })

  pub room_all : (st : Run) → Full st → (s : ℕ) → length (st.station s).stable + length (st.station s).loose ≤ 160
  room_all st h s = omega (arith, room st.count (st.station s) (All-weaker _ _ (λ x k. k.0) (st.station s).stable (h.inv.safe.recs s).0) (All-weaker _ _ (λ x k. k.0) (st.station s).loose (h.inv.safe.recs s).1) (h.few s), h.cap)

  -- Prepared exactly where there is power, a stable p and no c or a
  none_of : (k : Kind) (r : ℕ) (l : List Record) → sum_by (counts (sort_of k) r) l ≤ 0 → has k r l ≡ false
  none_of k r [] h = refl
  none_of k r (x ∷ l) h = let c = sum_by-cons (counts (sort_of k) r) x l in or_from _ _ (go (is k r x) refl) (none_of k r l (omega arith))
    where
      go : (b : Bool) → is k r x ≡ b → is k r x ≡ false
      go true e = let c = sum_by-cons (counts (sort_of k) r) x l in let z = (is_that k r x e).0 in absurd (grind (arith, nat_tests))
      go false e = e

  pub doubt_is : (st : Run) → Full st → (r s d : ℕ) → (st.station s).subordinates r ≡ Prepared d → ((st.station s).power ≡ true) × Got kp r (st.station s) × No kc r (st.station s) × No ka r (st.station s)
  doubt_is st h r s d e =
      let t = h.few s ended r in
      let w : left ended r (st.station s) ≡ 1 = ap (left_of ended ((st.station s).coordinators r)) e in (
        elim (cases_Bool (st.station s).power) [ inl i ↦ i | inr i ↦ absurd (grind (arith, e, (h.dark s i r).1)) ],
        (subst (λ v. SubLegal π (world st) s r v) e (h.inv.safe.subs s r)).2,
        (none_of kc r (st.station s).stable (omega arith), none_of kc r (st.station s).loose (omega arith)),
        (none_of ka r (st.station s).stable (omega arith), none_of ka r (st.station s).loose (omega arith)),
      )

  pub is_doubt : (st : Run) → Full st → (r s : ℕ) → (st.station s).power ≡ true → Got kp r (st.station s) → No kc r (st.station s) → No ka r (st.station s) → (d : ℕ) × ((st.station s).subordinates r ≡ Prepared d)
  is_doubt st h r s on p nc na = go ((st.station s).subordinates r) refl
    where
      go : (e : SubordinateEntry) → (st.station s).subordinates r ≡ e → (d : ℕ) × (e ≡ Prepared d)
      go idle e = absurd (elim ((h.inv.tidy s).knows on r (rw e tt) p) [ inl k ↦ elim k [ inl i ↦ true≢false (sym i ∙ nc.0) | inr i ↦ true≢false (sym i ∙ nc.1) ] | inr k ↦ elim k [ inl i ↦ true≢false (sym i ∙ na.0) | inr i ↦ true≢false (sym i ∙ na.1) ] ])
      go (Active c) e = absurd (true≢false (sym p ∙ ((h.inv.tidy s).fresh r (λ i. rw e at i)).0))
      go (Prepared c) e = (c, refl)
