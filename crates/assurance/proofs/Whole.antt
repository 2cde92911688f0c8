-- What a whole step leaves at the other stations and for the other revisions.
use Rattle.std.proofs.Common.{◌≡◌, ℕ, true, eqb, List, sym, refl, ap, ◌∙◌, subst}
use Rattle.std.proofs.lemmas.Bool.{cond_both, cond-true, cond-false, true≢false, eqb-true, eq-eqb, ne_eqb}
use Rattle.assurance.proofs.Ideal.{CoordinatorEntry, Collecting, Announcing, SubordinateEntry, idle, Prepared, Station, Message, Run, Presumption, set_coordinator, set_subordinate, with_post, Act, acts_done, Turn, stay, to_coordinator, to_subordinate, turn, handed, hand_first}
use Rattle.assurance.proofs.Claims.{Laws}
use Rattle.assurance.proofs.SafeActs.{upd_same}
use Rattle.assurance.proofs.Rules.{Rule, again, refuse, confirm, answer, press, asks, acts_of, turn_of, For, Did, by_did, did_handed, whole}
use Rattle.assurance.proofs.Local.{locals, turned_station, turned_power, moved, same_locals, plan_acts, plan_turn}

-- all have power
abbrev pub On : Run → Type 0
On st = (s : ℕ) → (st.station s).power ≡ true

-- nothing but revision r is touched
pub record Aside (r : ℕ) (st v : Run) : Type 0 where
  pub plan : v.plan ≡ st.plan
  pub count : v.count ≡ st.count
  pub cos : (t q : ℕ) → (q ≡ r → ⊥) → (v.station t).coordinators q ≡ (st.station t).coordinators q
  pub subs : (t q : ℕ) → (q ≡ r → ⊥) → (v.station t).subordinates q ≡ (st.station t).subordinates q

pub aside_refl : (r : ℕ) (st : Run) → Aside r st st
aside_refl r st = record { plan = refl; count = refl; cos = λ t q n. refl; subs = λ t q n. refl }

pub aside_trans : (r : ℕ) (a b c : Run) → Aside r a b → Aside r b c → Aside r a c
aside_trans r a b c h k = record { plan = k.plan ∙ h.plan; count = k.count ∙ h.count; cos = λ t q n. k.cos t q n ∙ h.cos t q n; subs = λ t q n. k.subs t q n ∙ h.subs t q n }

abbrev pub Sure : SubordinateEntry → Type 0
Sure (Prepared c) = ⊥
Sure e = Unit {0}

abbrev pub Rested : CoordinatorEntry → Type 0
Rested (Collecting a y) = ⊥
Rested (Announcing o w) = ⊥
Rested e = Unit {0}

abbrev pub About : ℕ → Turn → Type 0
About r stay = Unit {0}
About r (to_coordinator q e) = q ≡ r
About r (to_subordinate q e) = q ≡ r

-- a turn that makes nobody doubtful
abbrev pub Calm : Turn → Type 0
Calm (to_subordinate q e) = Sure e
Calm tn = Unit {0}

abbrev pub NoCo : Turn → Type 0
NoCo (to_coordinator q e) = ⊥
NoCo tn = Unit {0}

turned_co : (r q : ℕ) (tn : Turn) (y : Station) → About r tn → (q ≡ r → ⊥) → (turned_station tn y).coordinators q ≡ y.coordinators q
turned_co r q (to_coordinator p e) y a n = cond-false (eqb p q) e (y.coordinators q) (ne_eqb p q (λ i. n (sym i ∙ a)))
turned_co r q tn y a n = refl

turned_sub : (r q : ℕ) (tn : Turn) (y : Station) → About r tn → (q ≡ r → ⊥) → (turned_station tn y).subordinates q ≡ y.subordinates q
turned_sub r q (to_subordinate p e) y a n = cond-false (eqb p q) e (y.subordinates q) (ne_eqb p q (λ i. n (sym i ∙ a)))
turned_sub r q tn y a n = refl

turned_same : (q : ℕ) (tn : Turn) (y : Station) → NoCo tn → (turned_station tn y).coordinators q ≡ y.coordinators q
turned_same q (to_coordinator p e) y n = absurd n
turned_same q tn y n = refl

turned_sure : (q : ℕ) (tn : Turn) (y : Station) → Calm tn → Sure (y.subordinates q) → Sure ((turned_station tn y).subordinates q)
turned_sure q (to_subordinate p e) y c h = cond_both (eqb p q) e (y.subordinates q) Sure (λ _. c) (λ _. h)
turned_sure q tn y c h = h

module _ (s : ℕ) (l : List Act) (tn : Turn) (st : Run) where
  abbrev v : Run
  v = turn s tn (acts_done s l st)

  at : (t : ℕ) (Q : Station → Type 0) → (s ≡ t → Q (turned_station tn (locals l (st.station s)))) → Q (st.station t) → Q (v.station t)
  at t Q here away = subst Q (sym (moved s t l tn st)) (cond_both (eqb s t) (turned_station tn (locals l (st.station s))) (st.station t) Q (λ e. here (eqb-true s t e)) (λ _. away))

  pub on_moved : On st → On v
  on_moved h t = at t (λ (y : Station). y.power ≡ true) (λ _. turned_power tn (locals l (st.station s)) ∙ ((same_locals l (st.station s)).0 ∙ h s)) (h t)

  pub aside_moved : (r : ℕ) → About r tn → Aside r st v
  aside_moved r a =
      record {
        plan = (plan_turn s tn (acts_done s l st)).0 ∙ (plan_acts s l st).0;
        count = (plan_turn s tn (acts_done s l st)).1 ∙ (plan_acts s l st).1;
        cos = λ t q n. at t (λ (y : Station). y.coordinators q ≡ (st.station t).coordinators q) (λ e. turned_co r q tn (locals l (st.station s)) a n ∙ (ap (λ (f : ℕ → CoordinatorEntry). f q) (same_locals l (st.station s)).1 ∙ ap (λ (x : ℕ). (st.station x).coordinators q) e)) refl;
        subs = λ t q n. at t (λ (y : Station). y.subordinates q ≡ (st.station t).subordinates q) (λ e. turned_sub r q tn (locals l (st.station s)) a n ∙ (ap (λ (f : ℕ → SubordinateEntry). f q) (same_locals l (st.station s)).2 ∙ ap (λ (x : ℕ). (st.station x).subordinates q) e)) refl;
      }

  pub co_moved : NoCo tn → (t q : ℕ) → (v.station t).coordinators q ≡ (st.station t).coordinators q
  co_moved n t q = at t (λ (y : Station). y.coordinators q ≡ (st.station t).coordinators q) (λ e. turned_same q tn (locals l (st.station s)) n ∙ (ap (λ (f : ℕ → CoordinatorEntry). f q) (same_locals l (st.station s)).1 ∙ ap (λ (x : ℕ). (st.station x).coordinators q) e)) refl

  pub sure_moved : Calm tn → (t q : ℕ) → Sure ((st.station t).subordinates q) → Sure ((v.station t).subordinates q)
  sure_moved c t q h = at t (λ (y : Station). Sure (y.subordinates q)) (λ e. turned_sure q tn (locals l (st.station s)) c (subst Sure (sym (ap (λ (f : ℕ → SubordinateEntry). f q) (same_locals l (st.station s)).2 ∙ ap (λ (x : ℕ). (st.station x).subordinates q) e)) h)) h

pub idle_moved : (s r : ℕ) (l : List Act) (st : Run) → ((turn s (to_subordinate r idle) (acts_done s l st)).station s).subordinates r ≡ idle
idle_moved s r l st = subst (λ (y : Station). y.subordinates r ≡ idle) (sym (moved s s l (to_subordinate r idle) st)) (cond_both (eqb s s) (set_subordinate r idle (locals l (st.station s))) (st.station s) (λ (y : Station). y.subordinates r ≡ idle) (λ _. upd_same (locals l (st.station s)).subordinates r idle) (λ e. absurd (true≢false (sym (eq-eqb s s refl) ∙ e))))

pub co_now : (s r : ℕ) (e : CoordinatorEntry) (l : List Act) (st : Run) → ((turn s (to_coordinator r e) (acts_done s l st)).station s).coordinators r ≡ e
co_now s r e l st = subst (λ (y : Station). y.coordinators r ≡ e) (sym (moved s s l (to_coordinator r e) st)) (cond_both (eqb s s) (set_coordinator r e (locals l (st.station s))) (st.station s) (λ (y : Station). y.coordinators r ≡ e) (λ _. upd_same (locals l (st.station s)).coordinators r e) (λ z. absurd (true≢false (sym (eq-eqb s s refl) ∙ z))))

module _ (π : Presumption) (𝓛 : Laws π) where
  pub about_rule : (u : Rule) (r : ℕ) → About r (turn_of π u r)
  about_rule again r = tt
  about_rule refuse r = tt
  about_rule (confirm o) r = tt
  about_rule (answer o) r = tt
  about_rule (press o w) r = tt
  about_rule (asks c) r = tt
  about_rule u r = refl

  pub on_did : (st : Run) (r s t : ℕ) (P : Rule → Type 0) (v : Run) → Did π st r s t 255 0 P v → On st → On v
  on_did st r s t P v d h = by_did π On st r s t 255 0 P v d h (λ u w _. subst On (sym (whole π 𝓛 u r s t st)) (on_moved s (acts_of π u r s t) (turn_of π u r) st h))

  pub aside_did : (st : Run) (r s t : ℕ) (P : Rule → Type 0) (v : Run) → Did π st r s t 255 0 P v → Aside r st v
  aside_did st r s t P v d = by_did π (Aside r st) st r s t 255 0 P v d (aside_refl r st) (λ u w _. subst (Aside r st) (sym (whole π 𝓛 u r s t st)) (aside_moved s (acts_of π u r s t) (turn_of π u r) st r (about_rule u r)))

  pub on_first : (m : Message) (ms : List Message) (st : Run) → On st → On (hand_first π m (with_post ms st))
  on_first m ms st h = cond_both (st.station m.receiver).power (handed π m.kind m.revision m.receiver m.sender 255 0 (with_post ms st)) (with_post ms st) On (λ _. on_did (with_post ms st) m.revision m.receiver m.sender (λ u. For π u m.kind) _ (did_handed π m.kind m.revision m.receiver m.sender 255 0 (with_post ms st)) h) (λ _. h)

  -- with power everywhere the first message is handed over
  pub first_on : (m : Message) (ms : List Message) (st : Run) → On st → hand_first π m (with_post ms st) ≡ handed π m.kind m.revision m.receiver m.sender 255 0 (with_post ms st)
  first_on m ms st h = cond-true (st.station m.receiver).power _ _ (h m.receiver)
