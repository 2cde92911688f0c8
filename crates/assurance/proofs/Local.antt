-- What acts, turns and whole steps leave at each station.
use Rattle.std.proofs.Common.{◌≡◌, ℕ, cond, eqb, ltb, List, [], ◌∷◌, ◌++◌, length, take, sym, refl, ◌∙◌, subst, arith, zero, suc}
use Rattle.std.proofs.lemmas.Bool.Decides.{nat_tests}
use Rattle.std.proofs.lemmas.Bool.{cond_both, eqb-true}
use Rattle.assurance.proofs.Ideal.{Station, MessageKind, Run, at_station, written_station, forced_station, cut_station, set_coordinator, set_subordinate, Act, write, force, act_done, acts_done, Turn, stay, to_coordinator, to_subordinate, turn, step, send_each}
use Rattle.std.specs.List.{AllByRecursion}

abbrev pub local : Act → Station → Station
local (write x) y = written_station x y
local force y = forced_station y
local a y = y

abbrev pub locals : List Act → Station → Station
locals [] y = y
locals (a ∷ l) y = locals l (local a y)

abbrev pub turned_station : Turn → Station → Station
turned_station stay y = y
turned_station (to_coordinator r e) y = set_coordinator r e y
turned_station (to_subordinate r e) y = set_subordinate r e y

pub at_act : (s t : ℕ) (a : Act) (st : Run) → (act_done s a st).station t ≡ cond (eqb s t) (local a (st.station s)) (st.station t)
at_act s t (write x) st = refl
at_act s t force st = refl
at_act s t a st = grind (arith, nat_tests)

pub at_acts : (s t : ℕ) (l : List Act) (st : Run) → (acts_done s l st).station t ≡ cond (eqb s t) (locals l (st.station s)) (st.station t)
at_acts s t [] st = grind (arith, nat_tests)
at_acts s t (a ∷ l) st = grind (arith, nat_tests, at_acts s t l (act_done s a st), at_act s t a st, at_act s s a st)

-- a station changed after acts
in_moved : (s t : ℕ) (g : Station → Station) (l : List Act) (st : Run) → (at_station s g (acts_done s l st)).station t ≡ cond (eqb s t) (g (locals l (st.station s))) (st.station t)
in_moved s t g l st = grind (arith, nat_tests, at_acts s t l st, at_acts s s l st)

-- a whole step
pub moved : (s t : ℕ) (l : List Act) (tn : Turn) (st : Run) → (turn s tn (acts_done s l st)).station t ≡ cond (eqb s t) (turned_station tn (locals l (st.station s))) (st.station t)
moved s t l stay st = at_acts s t l st
moved s t l (to_coordinator r e) st = in_moved s t (set_coordinator r e) l st
moved s t l (to_subordinate r e) st = in_moved s t (set_subordinate r e) l st

-- what holds of every station still does after a change of one, and after a step
pub in_at : (Q : ℕ → Station → Type 0) (s : ℕ) (g : Station → Station) (st : Run) → Q s (g (st.station s)) → ((t : ℕ) → Q t (st.station t)) → (t : ℕ) → Q t ((at_station s g st).station t)
in_at Q s g st h k t = cond_both (eqb s t) (g (st.station s)) (st.station t) (Q t) (λ e. subst (λ (u : ℕ). Q u (g (st.station s))) (eqb-true s t e) h) (λ _. k t)

pub step_at : (Q : ℕ → Station → Type 0) (s : ℕ) (l : List Act) (tn : Turn) (f k : ℕ) (st : Run) → Q s (cut_station k (locals (take f l) (st.station s))) → Q s (turned_station tn (locals l (st.station s))) → ((t : ℕ) → Q t (st.station t)) → (t : ℕ) → Q t ((step s l tn f k st).station t)
step_at Q s l tn f k st cut whole each t =
    cond_both (ltb f (length l)) (at_station s (cut_station k) (acts_done s (take f l) st)) (turn s tn (acts_done s l st)) (λ (v : Run). Q t (v.station t))
    (λ _. subst (Q t) (sym (in_moved s t (cut_station k) (take f l) st)) (here _ cut))
    (λ _. subst (Q t) (sym (moved s t l tn st)) (here _ whole))
  where
    here : (y : Station) → Q s y → Q t (cond (eqb s t) y (st.station t))
    here y h = cond_both (eqb s t) y (st.station t) (Q t) (λ e. subst (λ (u : ℕ). Q u y) (eqb-true s t e) h) (λ _. each t)

pub same_locals : (l : List Act) (y : Station) → ((locals l y).power ≡ y.power) × ((locals l y).coordinators ≡ y.coordinators) × ((locals l y).subordinates ≡ y.subordinates)
same_locals [] y = (refl, refl, refl)
same_locals (write x ∷ l) y = same_locals l (written_station x y)
same_locals (force ∷ l) y = same_locals l (forced_station y)
same_locals (a ∷ l) y = same_locals l y

pub locals_append : (l m : List Act) (y : Station) → locals (l ++ m) y ≡ locals m (locals l y)
locals_append [] m y = refl
locals_append (a ∷ l) m y = locals_append l m (local a y)

pub locals_send : (k : MessageKind) (r s : ℕ) (ts : List ℕ) (y : Station) → locals (send_each k r s ts) y ≡ y
locals_send k r s [] y = refl
locals_send k r s (t ∷ ts) y = locals_send k r s ts y

pub turned_power : (tn : Turn) (y : Station) → (turned_station tn y).power ≡ y.power
turned_power stay y = refl
turned_power tn y = refl

-- a condition on each act, in the run in which it is done
abbrev pub Along : (Act → Run → Type 0) → ℕ → List Act → Run → Type 0
Along C s [] st = Unit {0}
Along C s (a ∷ l) st = C a st × Along C s l (act_done s a st)

module _ (C : Act → Run → Type 0) (s : ℕ) where
  pub along_take : (n : ℕ) (l : List Act) (st : Run) → Along C s l st → Along C s (take n l) st
  along_take zero l st h = tt
  along_take (suc n) [] st h = tt
  along_take (suc n) (a ∷ l) st h = (h.0, along_take n l (act_done s a st) h.1)

  pub along_all : (P : Act → Type 0) → ((a : Act) (st : Run) → P a → C a st) → (l : List Act) (st : Run) → AllByRecursion P l → Along C s l st
  along_all P f [] st h = tt
  along_all P f (a ∷ l) st h = (f a st h.0, along_all P f l (act_done s a st) h.1)

  -- what each such act keeps, all of them keep, and a step too, if changes of the station keep it
  module _ (Q : Run → Type 0) (each : (a : Act) (st : Run) → C a st → Q st → Q (act_done s a st)) where
    pub acts_keep : (l : List Act) (st : Run) → Along C s l st → Q st → Q (acts_done s l st)
    acts_keep [] st c q = q
    acts_keep (a ∷ l) st c q = acts_keep l (act_done s a st) c.1 (each a st c.0 q)

    pub step_keeps : ((g : Station → Station) (st : Run) → Q st → Q (at_station s g st)) → (l : List Act) (tn : Turn) (f k : ℕ) (st : Run) → Along C s l st → Q st → Q (step s l tn f k st)
    step_keeps at l tn f k st c q =
        cond_both (ltb f (length l)) (at_station s (cut_station k) (acts_done s (take f l) st)) (turn s tn (acts_done s l st)) Q
        (λ _. at (cut_station k) (acts_done s (take f l) st) (acts_keep (take f l) st (along_take f l st c) q))
        (λ _. turned tn (acts_done s l st) (acts_keep l st c q))
      where
        turned : (tn : Turn) (st : Run) → Q st → Q (turn s tn st)
        turned stay st q = q
        turned (to_coordinator r e) st q = at (set_coordinator r e) st q
        turned (to_subordinate r e) st q = at (set_subordinate r e) st q

-- what every act keeps
pub anywhere : (s : ℕ) (l : List Act) (st : Run) → Along (λ _ _. Unit {0}) s l st
anywhere s [] st = tt
anywhere s (a ∷ l) st = (tt, anywhere s l (act_done s a st))

-- no act and no turn changes which revisions there are
plan_act : (s : ℕ) (a : Act) (st : Run) → ((act_done s a st).plan ≡ st.plan) × ((act_done s a st).count ≡ st.count)
plan_act s (write x) st = (refl, refl)
plan_act s a st = (refl, refl)

pub plan_acts : (s : ℕ) (l : List Act) (st : Run) → ((acts_done s l st).plan ≡ st.plan) × ((acts_done s l st).count ≡ st.count)
plan_acts s [] st = (refl, refl)
plan_acts s (a ∷ l) st = let h = plan_act s a st in let k = plan_acts s l (act_done s a st) in (k.0 ∙ h.0, k.1 ∙ h.1)

pub plan_turn : (s : ℕ) (tn : Turn) (st : Run) → ((turn s tn st).plan ≡ st.plan) × ((turn s tn st).count ≡ st.count)
plan_turn s stay st = (refl, refl)
plan_turn s tn st = (refl, refl)

pub plan_step : (s : ℕ) (l : List Act) (tn : Turn) (f k : ℕ) (st : Run) → ((step s l tn f k st).plan ≡ st.plan) × ((step s l tn f k st).count ≡ st.count)
plan_step s l tn f k st =
    step_keeps (λ _ _. Unit {0}) s (λ (v : Run). (v.plan ≡ st.plan) × (v.count ≡ st.count)) (λ a v _ h. ((plan_act s a v).0 ∙ h.0, (plan_act s a v).1 ∙ h.1)) (λ g v h. h) l tn f k st (anywhere s l st) (refl, refl)
