-- One revision opened, closed and settled takes at most four deliveries for each of its stations.
use Rattle.std.proofs.Common.{◌≡◌, ℕ, zero, suc, ◌+◌, ◌*◌, ◌^◌, ◌<◌, ◌≤◌, true, false, cond, ◌&&◌, eqb, ltb, ◌⊎◌, List, [], ◌∷◌, ◌++◌, length, filter, sym, refl, ap, ◌∙◌, subst, inl, inr, arith, length-append, Bool}
use Rattle.std.specs.List.{AllByRecursion, range_with_len}
use Rattle.assurance.proofs.Each.{All-push, All-filter, All-weaker, filter_none}
use Rattle.std.proofs.lemmas.Bool.Decides.{nat_tests}
use Rattle.std.proofs.lemmas.Bool.{cond_both, cond-true, cases_Bool, true≢false, eqb-true, eq-eqb, and_parts, not-true, ltb-true}
use Rattle.assurance.proofs.Ideal.{updated, in_set, with_station, members, kI, commit, CoordinatorEntry, none, Open, Collecting, Announcing, SubordinateEntry, idle, Active, Prepared, Station, MessageKind, PREPARE, YES, COMMIT, ABORT, ACK, Message, Plan, Run, Presumption, at_station, set_coordinator, set_subordinate, with_message, with_post, Act, write, force, send, act_done, acts_done, to_coordinator, to_subordinate, turn, step, line, letter, send_each, await, close_acts, commit_acts, prepare_acts, upon_prepare, upon_yes, upon_close, upon_inquire, handed, upon_open, open_revision, close, load, all_powered, hand_first, drain, emptied, nudge, urged, asked, inquire_all, revise, revise_all, settled, fits, call, calls}
use Rattle.assurance.proofs.Lasting.{world, CoLegal}
use Rattle.assurance.proofs.Sets.{mem_add, mem_zero, add_self, add_keeps, mem_below, mem_ext}
use Rattle.assurance.proofs.Claims.{Laws, new, up}
use Rattle.assurance.proofs.SafeActs.{SafeSt, upd_same}
use Rattle.assurance.proofs.Invariant.{Inv, inv_first}
use Rattle.assurance.proofs.Rules.{Rule, vote, decide, start, acts_of, turn_of, For, Did, by_did, did_handed, whole, few_members, counting_below}
use Rattle.assurance.proofs.Loads.{empty, load_handed}
use Rattle.assurance.proofs.Whole.{On, Aside, aside_refl, aside_trans, Sure, Rested, Calm, on_moved, aside_moved, co_moved, sure_moved, co_now, aside_did, on_first, first_on}
use Rattle.assurance.proofs.UnderWay.{In, in_left, in_last, elem_members, letters, letters_sends, room_post, post_acts, post_turn, CoPend, MildOf, Mild, Tri, mid_first, rest_of, mild_sends, in_sends, told}
use Rattle.assurance.proofs.Settled.{sure_far, tri_of, few_sends}
use Rattle.std.proofs.lemmas.List.{nil_from_length}
use Rattle.assurance.proofs.Local.{locals, moved, same_locals, step_keeps, anywhere}

-- how many members
abbrev pub card : ℕ → ℕ → ℕ
card n m = length (members n m)

-- a test that one more number may pass
more_kept : (p q : ℕ → Bool) (t : ℕ) → ((x : ℕ) → q x ≡ true → (p x ≡ true) ⊎ (t ≡ x)) → (l : List ℕ) → length (filter q l) ≤ length (filter p l) + length (filter (eqb t) l)
more_kept p q t f [] = omega arith
more_kept p q t f (x ∷ l) = let h = more_kept p q t f l in let g = f x in grind (arith, nat_tests)

one_kept : (t a n : ℕ) → length (filter (eqb t) (range_with_len a n)) ≤ cond (ltb t a) 0 1
one_kept t a zero = grind (arith, nat_tests)
one_kept t a (suc n) = let h = one_kept t (a + 1) n in grind (arith, nat_tests)

card_add : (n ys t : ℕ) → card n (with_station ys t) ≤ suc (card n ys)
unfolding members
card_add n ys t =
    let a = more_kept (in_set ys) (in_set (with_station ys t)) t (mem_add ys t) (range_with_len 0 n) in
    let b = one_kept t 0 n in
    grind (arith, nat_tests)

card_zero : (n : ℕ) → card n 0 ≡ 0
unfolding members
card_zero n = ap length (filter_none (in_set 0) (range_with_len 0 n) (All-weaker (λ u. u < n) _ (λ u _. mem_zero u) (range_with_len 0 n) (counting_below 0 n n (omega arith))))

-- what is left to deliver while votes come in
abbrev pub vweigh : MessageKind → ℕ
vweigh PREPARE = 4
vweigh YES = 3
vweigh m = 0

abbrev pub vload : List Message → ℕ
vload [] = 0
vload (m ∷ l) = vweigh m.kind + vload l

vload_append : (l k : List Message) → vload (l ++ k) ≡ vload l + vload k
vload_append [] k = omega arith
vload_append (m ∷ l) k = omega (arith, vload_append l k)

vload_sends : (r s : ℕ) (ts : List ℕ) → vload (letters (send_each PREPARE r s ts)) ≡ 4 * length ts
vload_sends r s [] = omega arith
vload_sends r s (t ∷ ts) = omega (arith, vload_sends r s ts)

load_sends : (n : ℕ) (r s : ℕ) (ts : List ℕ) → load n (letters (send_each COMMIT r s ts)) ≡ 2 * length ts
load_sends n r s [] = omega arith
load_sends n r s (t ∷ ts) = omega (arith, load_sends n r s ts)

abbrev pub Busy : SubordinateEntry → Type 0
Busy idle = ⊥
Busy e = Unit {0}

module _ (π : Presumption) (𝓛 : Laws π) (r c all : ℕ) (st0 : Run) (sets : (u : ℕ) → in_set all u ≡ true → u < π.size) where
  abbrev pub VoteOf : MessageKind → ℕ → ℕ → ℕ → Type 0
  VoteOf PREPARE q s t = (q ≡ r) × (s ≡ c) × (in_set all t ≡ true)
  VoteOf YES q s t = (q ≡ r) × (t ≡ c) × (in_set all s ≡ true)
  VoteOf m q s t = ⊥

  abbrev pub VoteM : Message → Type 0
  VoteM m = VoteOf m.kind m.revision m.sender m.receiver

  abbrev pub Cover : ℕ → List Message → Type 0
  Cover ys p = (u : ℕ) → in_set all u ≡ true → In (letter PREPARE r c u) p ⊎ (In (letter YES r u c) p ⊎ (in_set ys u ≡ true))

  -- while votes come in
  pub record Voting (b : ℕ) (st : Run) : Type 0 where
    pub ys : ℕ
    pub entry : (st.station c).coordinators r ≡ Collecting all ys
    pub some : ys ≡ all → ⊥
    pub within : (u : ℕ) → in_set ys u ≡ true → in_set all u ≡ true
    pub busy : (t : ℕ) → in_set all t ≡ true → Busy ((st.station t).subordinates r)
    pub posts : AllByRecursion VoteM st.post
    pub cover : Cover ys st.post
    pub few : length st.post + card π.size ys ≤ card π.size all
    pub left : vload st.post + 2 * card π.size ys ≤ b

  -- once decided
  pub record Telling (b : ℕ) (st : Run) : Type 0 where
    pub tri : Tri π 𝓛 r c st
    pub heard : (t : ℕ) → Sure ((st.station t).subordinates r) ⊎ In (letter COMMIT r c t) st.post
    pub left : load π.size st.post ≤ b

  pub record Going (b : ℕ) (st : Run) : Type 0 where
    pub inv : Inv π 𝓛 st
    pub on : On st
    pub own : (st.plan r).coordinator ≡ c
    pub side : Aside r st0 st
    pub phase : Voting b st ⊎ Telling b st

  -- a prepared station votes
  module _ (s : ℕ) (ms : List Message) (st : Run) where
    prepare_post : (e : SubordinateEntry) → Busy e → length ms < 64 → (upon_prepare π r s c e 255 0 (with_post ms st)).post ≡ ms ++ (letter YES r s c ∷ [])
    prepare_post idle h l = absurd h
    prepare_post e h l = room_post (letter YES r s c) (with_post ms st) l

    prepare_co : (e : SubordinateEntry) → (t q : ℕ) → Busy e → ((upon_prepare π r s c e 255 0 (with_post ms st)).station t).coordinators q ≡ (st.station t).coordinators q
    prepare_co idle t q h = absurd h
    prepare_co (Active d) t q h = ap (λ (u : Run). (u.station t).coordinators q) (whole π 𝓛 (vote d) r s c (with_post ms st)) ∙ co_moved s (prepare_acts π r s c d) (to_subordinate r (Prepared d)) (with_post ms st) tt t q
    prepare_co (Prepared d) t q h = refl

    prepare_busy : (e : SubordinateEntry) → (t : ℕ) → Busy e → Busy ((st.station t).subordinates r) → Busy (((upon_prepare π r s c e 255 0 (with_post ms st)).station t).subordinates r)
    prepare_busy idle t h b = absurd h
    prepare_busy (Active d) t h b = subst (λ (u : Run). Busy ((u.station t).subordinates r)) (sym (whole π 𝓛 (vote d) r s c (with_post ms st))) (subst (λ (y : Station). Busy (y.subordinates r)) (sym (moved s t (prepare_acts π r s c d) (to_subordinate r (Prepared d)) (with_post ms st))) (cond_both (eqb s t) (set_subordinate r (Prepared d) (locals (prepare_acts π r s c d) (st.station s))) (st.station t) (λ (y : Station). Busy (y.subordinates r)) (λ _. subst Busy (sym (upd_same (locals (prepare_acts π r s c d) (st.station s)).subordinates r (Prepared d))) tt) (λ _. b)))
    prepare_busy (Prepared d) t h b = b

  card_small : card π.size all ≤ 64
  card_small = omega (arith, few_members π.size all, 𝓛.small)

  hand_prepare : (b s : ℕ) (ms : List Message) (st : Run) (v : Voting b (with_post (letter PREPARE r c s ∷ ms) st)) → in_set all s ≡ true → (d : ℕ) × (suc d ≤ b) × Voting d (handed π PREPARE r s c 255 0 (with_post ms st))
  hand_prepare b s ms st v m =
      let few = v.few in
      let busy = v.busy s m in
      let p = prepare_post s ms st ((st.station s).subordinates r) busy (omega (arith, few, card_small)) in
      let left = v.left in (
        3 + vload ms + 2 * card π.size v.ys,
        omega arith,
        record {
          ys = v.ys;
          entry = prepare_co s ms st ((st.station s).subordinates r) c r busy ∙ v.entry;
          some = v.some;
          within = v.within;
          busy = λ t i. prepare_busy s ms st ((st.station s).subordinates r) t busy (v.busy t i);
          posts = rw p (All-push _ ms (letter YES r s c) v.posts.1 (refl, refl, m));
          cover = rw p (λ u i. elim (v.cover u i) [
            | inl j ↦ elim j [ inl e ↦ inr (inl (subst (λ (x : ℕ). In (letter YES r x c) (ms ++ (letter YES r s c ∷ []))) (ap (λ (x : Message). x.receiver) e) (in_last (letter YES r s c) ms))) | inr e ↦ inl (in_left _ ms (letter YES r s c ∷ []) e) ]
            | inr j ↦ elim j [ inl k ↦ elim k [ inl e ↦ absurd (differ (ap (λ (x : Message). x.kind) e)) | inr e ↦ inr (inl (in_left _ ms (letter YES r s c ∷ []) e)) ] | inr k ↦ inr (inr k) ]
          ]);
          few = rw p (omega (arith, few, length-append ms (letter YES r s c ∷ [])));
          left = rw p (omega (arith, vload_append ms (letter YES r s c ∷ [])));
        },
      )
    where
      differ : PREPARE ≡ YES → ⊥
      differ e = grind arith

  sub_co : (e : CoordinatorEntry) (st : Run) (x q : ℕ) → ((at_station c (set_coordinator r e) st).station x).subordinates q ≡ (st.station x).subordinates q
  sub_co e st x q = grind (arith, nat_tests)

  no_yes : YES ≡ PREPARE → ⊥
  no_yes e = grind arith

  join_vote : (b t : ℕ) (ms : List Message) (st : Run) (v : Voting b (with_post (letter YES r t c ∷ ms) st)) → in_set all t ≡ true → eqb (with_station v.ys t) all ≡ false → (d : ℕ) × (suc d ≤ b) × Voting d (at_station c (set_coordinator r (Collecting all (with_station v.ys t))) (with_post ms st))
  join_vote b t ms st v m z =
      let few = v.few in
      let left = v.left in
      let ca = card_add π.size v.ys t in (
        vload ms + 2 * card π.size (with_station v.ys t),
        omega arith,
        record {
          ys = with_station v.ys t;
          entry = co_now c r (Collecting all (with_station v.ys t)) [] (with_post ms st);
          some = λ e. true≢false (sym (eq-eqb _ _ e) ∙ z);
          within = λ u i. elim (mem_add v.ys t u i) [ inl j ↦ v.within u j | inr j ↦ subst (λ (x : ℕ). in_set all x ≡ true) j m ];
          busy = λ x i. subst Busy (sym (sub_co (Collecting all (with_station v.ys t)) (with_post ms st) x r)) (v.busy x i);
          posts = v.posts.1;
          cover = λ u i. elim (v.cover u i) [
            | inl j ↦ elim j [ inl e ↦ absurd (no_yes (ap (λ (x : Message). x.kind) e)) | inr e ↦ inl e ]
            | inr j ↦ elim j [ inl k ↦ elim k [ inl e ↦ inr (inr (subst (λ (x : ℕ). in_set (with_station v.ys t) x ≡ true) (ap (λ (x : Message). x.sender) e) (add_self v.ys t))) | inr e ↦ inr (inl e) ] | inr k ↦ inr (inr (add_keeps v.ys t u k)) ]
          ];
          few = omega arith;
          left = omega arith;
        },
      )

  last_vote : (b t : ℕ) (ms : List Message) (st : Run) (v : Voting b (with_post (letter YES r t c ∷ ms) st)) → SafeSt π st → with_station v.ys t ≡ all → (d : ℕ) × (suc d ≤ b) × Telling d (step c (commit_acts π r c all) (to_coordinator r (await commit (π.ackers commit all))) 255 0 (with_post ms st))
  last_vote b t ms st v h e =
      let few = v.few in
      let left = v.left in
      let ca : card π.size all ≤ suc (card π.size v.ys) = subst (λ (x : ℕ). card π.size x ≤ suc (card π.size v.ys)) e (card_add π.size v.ys t) in
      let nil = nil_from_length ms (omega arith) in
      let out = send_each COMMIT r c (members π.size all) in
      let aw = await commit (π.ackers commit all) in
      let w = turn c (to_coordinator r aw) (acts_done c (commit_acts π r c all) (with_post ms st)) in
      let l = subst (λ x. CoLegal π (world st) c r x) v.entry (h.cos c r) in
      let fs = few_sends π 𝓛 COMMIT r c all in
      let p : w.post ≡ letters out = post_turn c (to_coordinator r aw) (acts_done c (commit_acts π r c all) (with_post ms st)) ∙ (post_acts c (commit_acts π r c all) (with_post ms st) (rw nil (omega (arith, fs, 𝓛.small))) ∙ ap (λ (x : List Message). x ++ letters out) nil) in
      let ls = load_sends π.size r c (members π.size all) in (
        2 * card π.size all,
        omega arith,
        subst (Telling (2 * card π.size all)) (sym (whole π 𝓛 (decide all) r c c (with_post ms st)))
            (record {
              tri = tri_of π 𝓛 r c w (letters out) aw p (co_now c r aw (commit_acts π r c all) (with_post ms st)) (mild_sends commit r c (members π.size all)) fs
                  (cond_both (eqb (π.ackers commit all) 0) none (Announcing commit (π.ackers commit all)) (λ (x : CoordinatorEntry). CoPend r c x (letters out)) (λ _. tt)
                  (λ _ u m. let i = (𝓛.backer commit all u m).0 in inl (in_sends COMMIT r c u (members π.size all) (elem_members π.size all u i (sets u i)))));
              heard = λ x. elim (cases_Bool (in_set all x)) [
                | inl i ↦ inr (rw p (in_sends COMMIT r c x (members π.size all) (elem_members π.size all x i (sets x i))))
                | inr i ↦ inl (sure_moved c (commit_acts π r c all) (to_coordinator r aw) (with_post ms st) tt x r (sure_far π 𝓛 st h r x (λ j. true≢false (sym (rw (← l.2) at j) ∙ i))))
              ];
              left = rw p (omega (arith, ls));
            }),
      )

  hand_yes : (b t : ℕ) (ms : List Message) (st : Run) (v : Voting b (with_post (letter YES r t c ∷ ms) st)) → SafeSt π st → in_set all t ≡ true → (d : ℕ) × (suc d ≤ b) × (Voting d (handed π YES r c t 255 0 (with_post ms st)) ⊎ Telling d (handed π YES r c t 255 0 (with_post ms st)))
  hand_yes b t ms st v h m =
      subst (λ (x : CoordinatorEntry). Goal (upon_yes π r c t x 255 0 (with_post ms st))) (sym v.entry)
      (subst Goal (sym (cond-true (in_set all t) _ (with_post ms st) m))
      (cond_both (eqb (with_station v.ys t) all) (step c (commit_acts π r c all) (to_coordinator r (await commit (π.ackers commit all))) 255 0 (with_post ms st)) (at_station c (set_coordinator r (Collecting all (with_station v.ys t))) (with_post ms st)) Goal
      (λ e. let q = last_vote b t ms st v h (eqb-true _ _ e) in (q.0, q.1, inr q.2))
      (λ e. let q = join_vote b t ms st v m e in (q.0, q.1, inl q.2))))
    where
      Goal : Run → Type 0
      Goal w = (d : ℕ) × (suc d ≤ b) × (Voting d w ⊎ Telling d w)

  -- what waits stays until it is handed over
  in_post : (x m : Message) (st : Run) → In x st.post → In x (with_message m st).post
  in_post x m st h = cond_both (ltb (length st.post) 64) (st.post ++ (m ∷ [])) st.post (In x) (λ _. in_left x st.post (m ∷ []) h) (λ _. h)

  in_act : (x : Message) (s : ℕ) (a : Act) (st : Run) → In x st.post → In x (act_done s a st).post
  in_act x s (send m) st h = in_post x m st h
  in_act x s a st h = h

  in_did : (x : Message) (st : Run) (q s t : ℕ) (P : Rule → Type 0) (v : Run) → Did π st q s t 255 0 P v → In x st.post → In x v.post
  in_did x st q s t P v d h =
      by_did π (λ (w : Run). In x w.post) st q s t 255 0 P v d h
      (λ u w _. step_keeps (λ _ _. Unit {0}) s (λ (v : Run). In x v.post) (λ a v _. in_act x s a v) (λ g v i. i) (acts_of π u q s t) (turn_of π u q) 255 0 st (anywhere s (acts_of π u q s t) st) h)

  calm_rule : (u : Rule) (m : MessageKind) (q : ℕ) → For π u m → (PREPARE ≡ m → ⊥) → Calm (turn_of π u q)
  calm_rule (vote d) m q f n = absurd (n f)
  calm_rule u m q f n = tt

  sure_did : (m : MessageKind) → (PREPARE ≡ m → ⊥) → (st : Run) (q s t : ℕ) (v : Run) → Did π st q s t 255 0 (λ u. For π u m) v → (x : ℕ) → Sure ((st.station x).subordinates r) → Sure ((v.station x).subordinates r)
  sure_did m n st q s t v d x h = by_did π (λ (w : Run). Sure ((w.station x).subordinates r)) st q s t 255 0 (λ u. For π u m) v d h (λ u w f. subst (λ (z : Run). Sure ((z.station x).subordinates r)) (sym (whole π 𝓛 u q s t st)) (sure_moved s (acts_of π u q s t) (turn_of π u q) st (calm_rule u m q f n) x r h))

  mild_not : (m : MessageKind) (q s t : ℕ) → MildOf r c m q s t → PREPARE ≡ m → ⊥
  mild_not COMMIT q s t h e = grind arith
  mild_not ABORT q s t h e = grind arith
  mild_not ACK q s t h e = grind arith
  mild_not m q s t h e = h

  -- a COMMIT leaves its receiver sure
  sure_now : (m : MessageKind) (q s t : ℕ) (st : Run) → COMMIT ≡ m → q ≡ r → Sure (((handed π m q s t 255 0 st).station s).subordinates r)
  sure_now m q s t st e f = subst (λ (x : MessageKind). Sure (((handed π x q s t 255 0 st).station s).subordinates r)) e (subst (λ (x : ℕ). Sure (((handed π COMMIT x s t 255 0 st).station s).subordinates r)) (sym f) (told π 𝓛 commit r s t ((st.station s).subordinates r) st refl).sure)

  abbrev Out : ℕ → List Message → Run → MessageKind → ℕ → ℕ → ℕ → Type 0
  Out b ms st k q s t = Voting b (with_post (letter k q t s ∷ ms) st) → (d : ℕ) × (suc d ≤ b) × (Voting d (handed π k q s t 255 0 (with_post ms st)) ⊎ Telling d (handed π k q s t 255 0 (with_post ms st)))

  going_first : (b : ℕ) (m : Message) (ms : List Message) (st : Run) → m ∷ ms ≡ st.post → Going b st → (d : ℕ) × (suc d ≤ b) × Going d (hand_first π m (with_post ms st))
  going_first b m ms st e g =
      let f = first_on π 𝓛 m ms st g.on in
      let D = did_handed π m.kind m.revision m.receiver m.sender 255 0 (with_post ms st) in
      let side = aside_did π 𝓛 (with_post ms st) m.revision m.receiver m.sender (λ u. For π u m.kind) _ D in
      let q = step_phase g.phase in (
        q.0,
        q.1,
        record {
          inv = inv_first π 𝓛 m ms st e g.inv;
          on = on_first π 𝓛 m ms st g.on;
          own = rw f (ap (λ (h : ℕ → Plan). (h r).coordinator) side.plan ∙ g.own);
          side = rw f (aside_trans r st0 st _ g.side (subst (λ (x : ℕ). Aside x st (handed π m.kind m.revision m.receiver m.sender 255 0 (with_post ms st))) (rev_of' g.phase) (record { plan = side.plan; count = side.count; cos = side.cos; subs = side.subs })));
          phase = rw f q.2;
        },
      )
    where
      vote_rev : (k : MessageKind) (q s t : ℕ) → VoteOf k q s t → q ≡ r
      vote_rev PREPARE q s t h = h.0
      vote_rev YES q s t h = h.0
      vote_rev m q s t h = absurd h

      rev_of' : Voting b st ⊎ Telling b st → m.revision ≡ r
      rev_of' (inl v) = let a : AllByRecursion VoteM (m ∷ ms) = subst (AllByRecursion VoteM) (sym e) v.posts in vote_rev m.kind m.revision m.sender m.receiver a.0
      rev_of' (inr v) = let a : AllByRecursion (Mild r c) (m ∷ ms) = subst (AllByRecursion (Mild r c)) (sym e) v.tri.0 in Rattle.assurance.proofs.UnderWay.rev_of π 𝓛 r c m.kind m.revision m.sender m.receiver a.0

      over : Voting b st → Voting b (with_post (m ∷ ms) st)
      over v = record { ys = v.ys; entry = v.entry; some = v.some; within = v.within; busy = v.busy; posts = subst (AllByRecursion VoteM) (sym e) v.posts; cover = subst (Cover v.ys) (sym e) v.cover; few = subst (λ (p : List Message). length p + card π.size v.ys ≤ card π.size all) (sym e) v.few; left = subst (λ (p : List Message). vload p + 2 * card π.size v.ys ≤ b) (sym e) v.left }

      voted : (k : MessageKind) (q s t : ℕ) → Voting b (with_post (letter k q t s ∷ ms) st) → VoteOf k q t s → (d : ℕ) × (suc d ≤ b) × (Voting d (handed π k q s t 255 0 (with_post ms st)) ⊎ Telling d (handed π k q s t 255 0 (with_post ms st)))
      voted PREPARE q s t v h = subst (λ (x : ℕ). Out b ms st PREPARE x s t) (sym h.0) (subst (λ (x : ℕ). Out b ms st PREPARE r s x) (sym h.1) (λ v. let q = hand_prepare b s ms st v h.2 in (q.0, q.1, inl q.2))) v
      voted YES q s t v h = subst (λ (x : ℕ). Out b ms st YES x s t) (sym h.0) (subst (λ (x : ℕ). Out b ms st YES r x t) (sym h.1) (λ v. hand_yes b t ms st v g.inv.safe h.2)) v
      voted m q s t v h = absurd h

      step_phase : Voting b st ⊎ Telling b st → (d : ℕ) × (suc d ≤ b) × (Voting d (handed π m.kind m.revision m.receiver m.sender 255 0 (with_post ms st)) ⊎ Telling d (handed π m.kind m.revision m.receiver m.sender 255 0 (with_post ms st)))
      step_phase (inl v) = voted m.kind m.revision m.receiver m.sender (over v) (over v).posts.0
      step_phase (inr v) =
          let w = handed π m.kind m.revision m.receiver m.sender 255 0 (with_post ms st) in
          let a : AllByRecursion (Mild r c) (m ∷ ms) = subst (AllByRecursion (Mild r c)) (sym e) v.tri.0 in
          let f = first_on π 𝓛 m ms st g.on in
          let D = did_handed π m.kind m.revision m.receiver m.sender 255 0 (with_post ms st) in
          let mid = mid_first π 𝓛 r c st0 m ms st e (record { inv = g.inv; on = g.on; own = g.own; side = g.side; tri = v.tri }) in
          let lo = load_handed π 𝓛 m.kind m.revision m.receiver m.sender 255 0 (with_post ms st) in
          let le : load π.size (m ∷ ms) ≤ b = subst (λ (p : List Message). load π.size p ≤ b) (sym e) v.left in (
            load π.size w.post,
            omega (arith, lo, le),
            inr (record {
              tri = subst (Tri π 𝓛 r c) f mid.tri;
              heard = λ x. elim (v.heard x) [
                | inl i ↦ inl (sure_did m.kind (mild_not m.kind m.revision m.sender m.receiver a.0) (with_post ms st) m.revision m.receiver m.sender w D x i)
                | inr i ↦ elim (subst (In (letter COMMIT r c x)) (sym e) i) [
                  | inl k ↦ inl (subst (λ (y : ℕ). Sure ((w.station y).subordinates r)) (ap (λ (y : Message). y.receiver) k) (sure_now m.kind m.revision m.receiver m.sender (with_post ms st) (sym (ap (λ (y : Message). y.kind) k)) (ap (λ (y : Message). y.revision) k)))
                  | inr k ↦ inr (in_did (letter COMMIT r c x) (with_post ms st) m.revision m.receiver m.sender (λ u. For π u m.kind) w D k)
                ]
              ];
              left = omega arith;
            }),
          )

  drain_count : (fuel : ℕ) (p : List Message) (st : Run) (k b : ℕ) → p ≡ st.post → Going b st → ((drain π fuel p st k).made ≤ k + b) × ((d : ℕ) × Going d (drain π fuel p st k).left)
  unfolding drain
  drain_count zero p st k b e g = (omega arith, (b, g))
  drain_count (suc n) [] st k b e g = (omega arith, (b, g))
  drain_count (suc n) (m ∷ ms) st k b e g =
      let q = going_first b m ms st e g in
      let z = drain_count n (hand_first π m (with_post ms st)).post (hand_first π m (with_post ms st)) (suc k) q.0 refl q.2 in
      (omega (arith, z.0, q.1), z.1)

  pub empty_count : (st : Run) (k b : ℕ) → Going b st → ((emptied π st k).made ≤ k + b) × ((d : ℕ) × Going d (emptied π st k).left)
  unfolding emptied
  empty_count st k b g = drain_count (load π.size st.post) st.post st k b refl g

  -- when nothing waits all is over
  pub over_all : (d : ℕ) (st : Run) → Going d st → st.post ≡ [] → Rested ((st.station c).coordinators r) × ((t : ℕ) → Sure ((st.station t).subordinates r))
  over_all d st g e = go g.phase
    where
      go : Voting d st ⊎ Telling d st → Rested ((st.station c).coordinators r) × ((t : ℕ) → Sure ((st.station t).subordinates r))
      go (inl v) = absurd (v.some (mem_ext v.ys all (λ u. elim (cases_Bool (in_set all u)) [ inl i ↦ same u i | inr i ↦ other u i ])))
        where
          same : (u : ℕ) → in_set all u ≡ true → in_set v.ys u ≡ in_set all u
          same u i = elim (subst (Cover v.ys) e v.cover u i) [ inl j ↦ absurd j | inr j ↦ elim j [ inl k ↦ absurd k | inr k ↦ k ∙ sym i ] ]

          other : (u : ℕ) → in_set all u ≡ false → in_set v.ys u ≡ in_set all u
          other u i = elim (cases_Bool (in_set v.ys u)) [ inl j ↦ absurd (true≢false (sym (v.within u j) ∙ i)) | inr j ↦ j ∙ sym i ]
      go (inr v) = (
        rest_of π 𝓛 r c (world st) ((st.station c).coordinators r) (g.inv.safe.cos c r) (subst (CoPend r c ((st.station c).coordinators r)) e v.tri.2),
        λ t. elim (v.heard t) [ inl i ↦ i | inr i ↦ absurd (subst (In (letter COMMIT r c t)) e i) ],
      )

-- settling a revision that is over makes no delivery
module _ (π : Presumption) (𝓛 : Laws π) (st : Run) (bare : st.post ≡ []) where
  idle_empty : (k : ℕ) → ((emptied π st k).left ≡ st) × ((emptied π st k).made ≡ k)
  unfolding emptied drain
  idle_empty k = rw bare (refl, refl)

  idle_ask : (r s k : ℕ) → Sure ((st.station s).subordinates r) → asked π r s st ≡ st
  idle_ask r s k h = cond_both (st.station s).power (upon_inquire π r s ((st.station s).subordinates r) 255 0 st) st (λ (v : Run). v ≡ st) (λ _. go ((st.station s).subordinates r) h) (λ _. refl)
    where
      go : (e : SubordinateEntry) → Sure e → upon_inquire π r s e 255 0 st ≡ st
      go (Prepared d) h = absurd h
      go e h = refl

  idle_urge : (r : ℕ) → Rested ((st.station (st.plan r).coordinator).coordinators r) → urged π r st ≡ st
  idle_urge r h = cond_both (st.station (st.plan r).coordinator).power (nudge π r (st.plan r).coordinator ((st.station (st.plan r).coordinator).coordinators r) st) st (λ (v : Run). v ≡ st) (λ _. go ((st.station (st.plan r).coordinator).coordinators r) h) (λ _. refl)
    where
      go : (e : CoordinatorEntry) → Rested e → nudge π r (st.plan r).coordinator e st ≡ st
      go (Collecting a y) h = absurd h
      go (Announcing o w) h = absurd h
      go e h = refl

  idle_asks : (r : ℕ) → ((t : ℕ) → Sure ((st.station t).subordinates r)) → (ss : List ℕ) (k : ℕ) → (inquire_all π r ss st k).made ≡ k
  unfolding inquire_all
  idle_asks r h [] k = refl
  idle_asks r h (s ∷ ss) k =
      let a = idle_ask r s k (h s) in
      let b : ((emptied π (asked π r s st) k).left ≡ st) × ((emptied π (asked π r s st) k).made ≡ k) = rw a (idle_empty k) in
      subst (λ (x : Run). (inquire_all π r ss x (emptied π (asked π r s st) k).made).made ≡ k) (sym b.0) (subst (λ (y : ℕ). (inquire_all π r ss st y).made ≡ k) (sym b.1) (idle_asks r h ss k))

  pub idle_revise : (r k : ℕ) → Rested ((st.station (st.plan r).coordinator).coordinators r) → ((t : ℕ) → Sure ((st.station t).subordinates r)) → (revise π r st k).made ≡ k
  unfolding revise
  idle_revise r k a h =
      let u = idle_urge r a in
      let b : ((emptied π (urged π r st) k).left ≡ st) × ((emptied π (urged π r st) k).made ≡ k) = rw u (idle_empty k) in
      subst (λ (x : Run). (inquire_all π r (range_with_len 0 π.size) x (emptied π (urged π r st) k).made).made ≡ k) (sym b.0) (subst (λ (y : ℕ). (inquire_all π r (range_with_len 0 π.size) st y).made ≡ k) (sym b.1) (idle_asks r h (range_with_len 0 π.size) k))

-- a fresh run opens and closes one revision
module _ (π : Presumption) (𝓛 : Laws π) (c all : ℕ) (ok : fits π.size c all ≡ true) (inv : Inv π 𝓛 (calls π (open_revision c all ∷ (close 0 255 0 ∷ [])) new)) where
  abbrev st1 : Run
  st1 = upon_open c all new

  abbrev st2 : Run
  st2 = calls π (open_revision c all ∷ (close 0 255 0 ∷ [])) new

  parts : (n : ℕ) → fits n c all ≡ true → (c < n) × (all < 2 ^ n) × (all ≡ 0 → ⊥)
  unfolding fits
  parts n e = let p = and_parts _ _ e in let q = and_parts _ _ p.1 in (ltb-true c n p.0, ltb-true all (2 ^ n) q.0, λ z. true≢false (sym (eq-eqb all 0 z) ∙ not-true _ q.1))

  all_on : (l : List ℕ) → all_powered l new ≡ true
  all_on [] = refl
  all_on (s ∷ l) = all_on l

  opened : call π (open_revision c all) new ≡ st1
  opened = cond-true (fits π.size c all && (ltb new.count 32 && ((new.station c).power && all_powered (members π.size all) new))) st1 new (rw (ok, all_on (members π.size all)) refl)

  entry1 : (st1.station c).coordinators 0 ≡ Open all
  entry1 = ap (λ (f : ℕ → CoordinatorEntry). f 0) (cond-true (eqb c c) (updated up.coordinators 0 (Open all)) up.coordinators (eq-eqb c c refl))

  abbrev w : Run
  w = turn c (to_coordinator 0 (Collecting all 0)) (acts_done c (close_acts π 0 c all) st1)

  closed : st2 ≡ w
  closed = ap (call π (close 0 255 0)) opened ∙ (ap (λ (e : CoordinatorEntry). upon_close π 0 c e 255 0 st1) entry1 ∙ whole π 𝓛 (start all) 0 c c st1)

  below : (u : ℕ) → in_set all u ≡ true → u < π.size
  below u m = mem_below π.size all u (parts π.size ok).1 m

  letters_close : letters (close_acts π 0 c all) ≡ letters (send_each PREPARE 0 c (members π.size all))
  letters_close = cond_both (π.opens all) (write (line kI 0 all) ∷ (force ∷ send_each PREPARE 0 c (members π.size all))) (send_each PREPARE 0 c (members π.size all)) (λ (l : List Act). letters l ≡ letters (send_each PREPARE 0 c (members π.size all))) (λ _. refl) (λ _. refl)

  sub_w : (t : ℕ) → (w.station t).subordinates 0 ≡ (st1.station t).subordinates 0
  sub_w t =
      subst (λ (y : Station). y.subordinates 0 ≡ (st1.station t).subordinates 0) (sym (moved c t (close_acts π 0 c all) (to_coordinator 0 (Collecting all 0)) st1))
      (cond_both (eqb c t) (set_coordinator 0 (Collecting all 0) (locals (close_acts π 0 c all) (st1.station c))) (st1.station t) (λ (y : Station). y.subordinates 0 ≡ (st1.station t).subordinates 0)
      (λ e. ap (λ (f : ℕ → SubordinateEntry). f 0) (same_locals (close_acts π 0 c all) (st1.station c)).2 ∙ ap (λ (x : ℕ). (st1.station x).subordinates 0) (eqb-true c t e))
      (λ _. refl))

  active : (t : ℕ) → in_set all t ≡ true → (st1.station t).subordinates 0 ≡ Active c
  active t m = ap (λ (f : ℕ → SubordinateEntry). f 0) (cond-true (in_set all t) (updated up.subordinates 0 (Active c)) up.subordinates m)

  vote_sends : (ts : List ℕ) → AllByRecursion (λ t. in_set all t ≡ true) ts → AllByRecursion (VoteM π 𝓛 0 c all w below) (letters (send_each PREPARE 0 c ts))
  vote_sends [] h = tt
  vote_sends (t ∷ ts) h = ((refl, refl, h.0), vote_sends ts h.1)

  passes : AllByRecursion (λ t. in_set all t ≡ true) (members π.size all)
  unfolding members
  passes = All-filter (λ u. u < π.size) _ (in_set all) (λ _ _ e. e) (range_with_len 0 π.size) (counting_below 0 π.size π.size (omega arith))

  going : Going π 𝓛 0 c all w below (4 * card π.size all) w
  going =
      let fs = few_sends π 𝓛 PREPARE 0 c all in
      let out = letters (send_each PREPARE 0 c (members π.size all)) in
      let fl : length (letters (close_acts π 0 c all)) ≤ π.size = rw letters_close fs in
      let p : w.post ≡ out = post_acts c (close_acts π 0 c all) st1 (omega (arith, fl, 𝓛.small)) ∙ letters_close in
      let z = card_zero π.size in
      let side = aside_moved c (close_acts π 0 c all) (to_coordinator 0 (Collecting all 0)) st1 0 refl in
      record {
        inv = subst (Inv π 𝓛) closed inv;
        on = on_moved c (close_acts π 0 c all) (to_coordinator 0 (Collecting all 0)) st1 (λ s. refl);
        own = ap (λ (h : ℕ → Plan). (h 0).coordinator) side.plan;
        side = aside_refl 0 w;
        phase = inl (record {
          ys = 0;
          entry = co_now c 0 (Collecting all 0) (close_acts π 0 c all) st1;
          some = λ e. (parts π.size ok).2 (sym e);
          within = λ u m. absurd (true≢false (sym m ∙ mem_zero u));
          busy = λ t m. subst Busy (sym (sub_w t ∙ active t m)) tt;
          posts = rw p (vote_sends (members π.size all) passes);
          cover = λ u m. inl (rw p (in_sends PREPARE 0 c u (members π.size all) (elem_members π.size all u m (below u m))));
          few = rw p (omega (arith, letters_sends PREPARE 0 c (members π.size all), z));
          left = rw p (omega (arith, vload_sends 0 c (members π.size all), z));
        });
      }

  once_w : (settled π w).made ≤ 4 * card π.size all
  unfolding settled revise_all
  once_w =
      let d = emptied π w 0 in
      let b = empty_count π 𝓛 0 c all w below w 0 (4 * card π.size all) going in
      let g = b.1.1 in
      let bare = (empty π 𝓛 w 0).0 in
      let o = over_all π 𝓛 0 c all w below b.1.0 d.left g bare in
      let i = idle_revise π 𝓛 d.left bare 0 d.made (subst (λ (x : ℕ). Rested ((d.left.station x).coordinators 0)) (sym g.own) o.0) o.1 in
      let cnt : w.count ≡ 1 = (aside_moved c (close_acts π 0 c all) (to_coordinator 0 (Collecting all 0)) st1 0 refl).count in
      subst (λ (x : ℕ). (revise_all π (range_with_len 0 x) d.left d.made).made ≤ 4 * card π.size all) (sym cnt) (omega (arith, i, b.0))

  pub once : (settled π (calls π (open_revision c all ∷ (close 0 255 0 ∷ [])) new)).made ≤ 4 * length (members π.size all)
  once = subst (λ (x : Run). (settled π x).made ≤ 4 * card π.size all) (sym closed) once_w
