-- Stations stay in range, a commit record was marked first, marks last.
use Rattle.std.proofs.Common.{◌≡◌, ℕ, ◌<◌, ◌≤◌, true, false, eqb, ltb, ◌⊎◌, List, [], ◌∷◌, ◌++◌, length, take, sym, refl, ◌∙◌, subst, inl, inr, arith}
use Rattle.std.specs.List.{AllByRecursion}
use Rattle.assurance.proofs.Each.{All-push}
use Rattle.std.proofs.lemmas.Bool.Decides.{nat_tests}
use Rattle.std.proofs.lemmas.Bool.{cond_both, cond-true, cases_Bool, true≢false, eqb-true, eq-eqb}
use Rattle.assurance.proofs.Ideal.{updated, in_set, with_station, Kind, kc, Record, is, has, commit, Station, Message, Run, Presumption, at_station, written_station, forced_station, cut_station, set_coordinator, set_subordinate, Act, write, force, send, installed, dropped, act_done, acts_done, Turn, stay, to_coordinator, to_subordinate, turn, step, line, force_if, ack_if}
use Rattle.assurance.proofs.Lasting.{has_append, has_take, world, SubLegal}
use Rattle.assurance.proofs.Sets.{add_self, add_keeps}
use Rattle.assurance.proofs.Claims.{Laws}
use Rattle.assurance.proofs.SafeActs.{SafeSt}
use Rattle.assurance.proofs.SafeRules.{Has, is_that}
use Rattle.assurance.proofs.Rules.{Rule, joins, drop, enforce, confirm, less, press, asks, acts_of, turn_of, Why, Did, by_did, Tells, Writes, all_tail, all_acts, again, refuse, answer}
use Rattle.assurance.proofs.Local.{Along, along_take, along_all, acts_keep, step_keeps, anywhere}

-- stations in range
abbrev pub NearM : ℕ → Message → Type 0
NearM n m = (m.sender < n) × (m.receiver < n)

pub record Near (n : ℕ) (st : Run) : Type 0 where
  pub posts : AllByRecursion (NearM n) st.post
  pub plans : (r : ℕ) → (st.plan r).coordinator < n
  pub sets : (r t : ℕ) → in_set (st.plan r).names t ≡ true → t < n
  pub far : (s : ℕ) → n ≤ s → (st.station s).power ≡ true

abbrev pub NearA : ℕ → Act → Type 0
NearA n (send m) = NearM n m
NearA n a = Unit {0}

near_act : (n s : ℕ) (a : Act) (st : Run) → NearA n a → Near n st → Near n (act_done s a st)
near_act n s (send m) st k h = record { posts = cond_both (ltb (length st.post) 64) (st.post ++ (m ∷ [])) st.post (AllByRecursion (NearM n)) (λ _. All-push _ st.post m h.posts k) (λ _. h.posts); plans = h.plans; sets = h.sets; far = h.far }
near_act n s a st k h = record { posts = h.posts; plans = h.plans; sets = h.sets; far = λ t l. grind (arith, nat_tests, h.far t) }

pub near_in : (n s : ℕ) (g : Station → Station) (st : Run) → s < n → Near n st → Near n (at_station s g st)
near_in n s g st l h = record { posts = h.posts; plans = h.plans; sets = h.sets; far = λ t k. grind (arith, nat_tests, h.far t) }

module _ (π : Presumption) (𝓛 : Laws π) where
  near_told : (u : Rule) (r s t x : ℕ) (st : Run) → SafeSt π st → Near π.size st → t < π.size → Why π (st.station s) r t u → Tells π u t x → x < π.size
  near_told (enforce o c) r s t x st h n j w e = elim w [ inl q ↦ rw (e, (subst (λ v. SubLegal π (world st) s r v) q (h.subs s r)).1) (n.plans r) | inr q ↦ rw (e, (subst (λ v. SubLegal π (world st) s r v) q (h.subs s r)).1) (n.plans r) ]
  near_told (asks c) r s t x st h n j w e = rw (e, (subst (λ v. SubLegal π (world st) s r v) w (h.subs s r)).1) (n.plans r)
  near_told u r s t x st h n j w e = elim e [ inl q ↦ rw q j | inr q ↦ q ]

  pub near_did : (st : Run) (r s t f k : ℕ) (P : Rule → Type 0) (v : Run) → SafeSt π st → s < π.size → t < π.size → Did π st r s t f k P v → Near π.size st → Near π.size v
  near_did st r s t f k P v h i j d n =
      by_did π (Near π.size) st r s t f k P v d n
      (λ u w _. step_keeps (λ a _. NearA π.size a) s (Near π.size) (near_act π.size s) (λ g v. near_in π.size s g v i) (acts_of π u r s t) (turn_of π u r) f k st
      (along_all _ s (NearA π.size) (λ a _ z. z) (acts_of π u r s t) st (all_acts π (NearA π.size) u r s t (λ _ _ _. tt) tt (λ k x z. (i, near_told u r s t x st h n j w z)) tt tt)) n)

-- marks: a commit record was marked first; marks last
abbrev pub Marked : Run → Type 0
Marked st = (s r : ℕ) → Has kc r (st.station s) → in_set (st.installed_at r) s ≡ true

abbrev MarkA : ℕ → Act → Run → Type 0
MarkA s (write x) st = (r : ℕ) → is kc r x ≡ true → in_set (st.installed_at r) s ≡ true
MarkA s a st = Unit {0}

pub marked_in : (s : ℕ) (g : Station → Station) (st : Run) → ((r : ℕ) → Has kc r (g (st.station s)) → Has kc r (st.station s) ⊎ (in_set (st.installed_at r) s ≡ true)) → Marked st → Marked (at_station s g st)
marked_in s g st back h t r =
    cond_both (eqb s t) (g (st.station s)) (st.station t) (λ (y : Station). Has kc r y → in_set (st.installed_at r) t ≡ true)
    (λ e q. subst (λ (x : ℕ). in_set (st.installed_at r) x ≡ true) (eqb-true s t e) (elim (back r q) [ inl i ↦ h s r i | inr i ↦ i ]))
    (λ _ q. h t r q)

marked_act : (s : ℕ) (a : Act) (st : Run) → MarkA s a st → Marked st → Marked (act_done s a st)
marked_act s (write x) st k h = marked_in s (written_station x) st (λ r q. elim (cases_Bool (is kc r x)) [ inl e ↦ inr (k r e) | inr e ↦ inl (grind (arith, has_append)) ]) h
marked_act s force st k h = marked_in s forced_station st (λ r q. inl (grind (arith, has_append))) h
marked_act s (send m) st k h = h
marked_act s (installed r) st k h = λ t q i. cond_both (eqb r q) (with_station (st.installed_at r) s) (st.installed_at q) (λ (x : ℕ). in_set x t ≡ true) (λ e. add_keeps (st.installed_at r) s t (subst (λ (x : ℕ). in_set (st.installed_at x) t ≡ true) (sym (eqb-true r q e)) (h t q i))) (λ _. h t q i)
marked_act s (dropped r) st k h = h

marked_turn : (s : ℕ) (tn : Turn) (st : Run) → Marked st → Marked (turn s tn st)
marked_turn s stay st h = h
marked_turn s (to_coordinator r e) st h = marked_in s (set_coordinator r e) st (λ r q. inl q) h
marked_turn s (to_subordinate r e) st h = marked_in s (set_subordinate r e) st (λ r q. inl q) h

has_part : (k : Kind) (r n : ℕ) (l : List Record) → has k r (take n l) ≡ true → has k r l ≡ true
has_part k r n l h = elim (cases_Bool (has k r l)) [ inl e ↦ e | inr e ↦ absurd (true≢false (sym h ∙ has_take k r n l e)) ]

pub cut_back : (k r n : ℕ) (y : Station) → Has kc r (cut_station n y) → Has kc r y
cut_back k r n y h = grind (arith, has_append, has_part kc r n y.loose)

marked_step : (s : ℕ) (l : List Act) (tn : Turn) (f k : ℕ) (st : Run) → Along (MarkA s) s l st → Marked st → Marked (step s l tn f k st)
marked_step s l tn f k st m h =
    cond_both (ltb f (length l)) (at_station s (cut_station k) (acts_done s (take f l) st)) (turn s tn (acts_done s l st)) Marked
    (λ _. marked_in s (cut_station k) (acts_done s (take f l) st) (λ r q. inl (cut_back 0 r k ((acts_done s (take f l) st).station s) q)) (acts_keep (MarkA s) s Marked (marked_act s) (take f l) st (along_take (MarkA s) s f l st m) h))
    (λ _. marked_turn s tn (acts_done s l st) (acts_keep (MarkA s) s Marked (marked_act s) l st m h))

-- acts that write no commit record of a subordinate
abbrev Plain : Act → Type 0
Plain (write x) = (r : ℕ) → is kc r x ≡ false
Plain a = Unit {0}

plain_marks : (s : ℕ) (l : List Act) (st : Run) → AllByRecursion Plain l → Along (MarkA s) s l st
plain_marks s l st h = along_all (MarkA s) s Plain plain l st h
  where
    plain : (a : Act) (st : Run) → Plain a → MarkA s a st
    plain (write x) st h = λ r e. absurd (true≢false (sym e ∙ h r))
    plain a st h = tt

module _ (π : Presumption) (𝓛 : Laws π) where
  plain_rule : (u : Rule) (r s t : ℕ) (st : Run) → ((k : Kind) (a q : ℕ) → Writes π u k → is kc q (line k r a) ≡ false) → Along (MarkA s) s (acts_of π u r s t) st
  plain_rule u r s t st h = plain_marks s (acts_of π u r s t) st (all_acts π Plain u r s t (λ k a w q. h k a q w) tt (λ _ _ _. tt) tt tt)

  marks_rule : (u : Rule) (r s t : ℕ) (st : Run) → Along (MarkA s) s (acts_of π u r s t) st
  marks_rule (enforce commit c) r s t st = (tt, ((λ q e. own q (is_that kc q (line kc r c) e).1), plain_marks s (force_if π (π.forces commit s) (ack_if π (π.acks commit s) r s c)) _ (all_tail π Plain (π.forces commit s) (π.acks commit s) r s c tt tt)))
    where
      own : (q : ℕ) → r ≡ q → in_set (updated st.installed_at r (with_station (st.installed_at r) s) q) s ≡ true
      own q e = rw (cond-true (eqb r q) (with_station (st.installed_at r) s) (st.installed_at q) (eq-eqb r q e)) (add_self (st.installed_at r) s)
  marks_rule (drop all d) r s t st = plain_rule (drop all d) r s t st (λ k a q w. elim w [ inl e ↦ rw e refl | inr e ↦ rw e refl ])
  marks_rule (joins all ys) r s t st = tt
  marks_rule (confirm o) r s t st = plain_rule (confirm o) r s t st (λ k a q w. absurd w)
  marks_rule (less o w) r s t st = tt
  marks_rule (press o w) r s t st = plain_rule (press o w) r s t st (λ k a q w. absurd w)
  marks_rule again r s t st = (tt, tt)
  marks_rule refuse r s t st = (tt, tt)
  marks_rule (answer o) r s t st = (tt, tt)
  marks_rule (asks c) r s t st = (tt, tt)
  marks_rule u r s t st = plain_rule u r s t st (λ k a q w. rw w refl)

  pub marked_did : (st : Run) (r s t f k : ℕ) (P : Rule → Type 0) (v : Run) → Did π st r s t f k P v → Marked st → Marked v
  marked_did st r s t f k P v d h = by_did π Marked st r s t f k P v d h (λ u w _. marked_step s (acts_of π u r s t) (turn_of π u r) f k st (marks_rule u r s t st) h)

  -- what was dropped stays dropped
  drp_act : (q x s : ℕ) (a : Act) (st : Run) → in_set (st.dropped_at q) x ≡ true → in_set ((act_done s a st).dropped_at q) x ≡ true
  drp_act q x s (dropped r) st h = cond_both (eqb r q) (with_station (st.dropped_at r) s) (st.dropped_at q) (λ (m : ℕ). in_set m x ≡ true) (λ e. add_keeps (st.dropped_at r) s x (subst (λ (y : ℕ). in_set (st.dropped_at y) x ≡ true) (sym (eqb-true r q e)) h)) (λ _. h)
  drp_act q x s a st h = h

  pub drp_did : (q x : ℕ) (st : Run) (r s t f k : ℕ) (P : Rule → Type 0) (v : Run) → Did π st r s t f k P v → in_set (st.dropped_at q) x ≡ true → in_set (v.dropped_at q) x ≡ true
  drp_did q x st r s t f k P v d h =
      by_did π (λ (w : Run). in_set (w.dropped_at q) x ≡ true) st r s t f k P v d h
      (λ u w _. step_keeps (λ _ _. Unit {0}) s (λ (w : Run). in_set (w.dropped_at q) x ≡ true) (λ a v _. drp_act q x s a v) (λ g v i. i) (acts_of π u r s t) (turn_of π u r) f k st (anywhere s (acts_of π u r s t) st) h)
