-- A list of acts under any fuse, with the cut and the entry change, keeps the invariant between acts.
use Rattle.std.proofs.Common.{◌≡◌, ℕ, zero, suc, ◌<◌, true, false, cond, eqb, ltb, List, [], ◌∷◌, ◌++◌, length, take, sym, refl, ap, ◌∙◌, subst}
use mathlib.Core.Path.{fun_ext}
use Rattle.std.proofs.lemmas.Bool.{cond_both}
use Rattle.assurance.proofs.Ideal.{updated, kC, kp, is, Station, Run, Presumption, at_station, written_station, forced_station, cut_station, set_coordinator, set_subordinate, Act, write, force, send, installed, dropped, act_done, acts_done, Turn, stay, to_coordinator, to_subordinate, turn, step}
use Rattle.assurance.proofs.Lasting.{Past, Inactive, world, Comm, Abort, Legal, RecLegal}
use Rattle.assurance.proofs.SafeActs.{SafeSt, upd_same, safe_write, safe_force, safe_cut, safe_send, safe_in_mark, safe_dr_mark}
use Rattle.assurance.proofs.Local.{Along, along_take, acts_keep}

-- two changes of one station are one
upd_twice : {X : Type 0} (f : ℕ → X) (s : ℕ) (v : X) (g : X → X) → updated (updated f s v) s (g (updated f s v s)) ≡ updated f s (g v)
upd_twice f s v g = fun_ext (λ j. elim (eqb s j) as (λ b. cond b (g (updated f s v s)) (cond b v (f j)) ≡ cond b (g v) (f j)) [ true ↦ ap g (upd_same f s v) | false ↦ refl ])

pub in_in : (s : ℕ) (f g : Station → Station) (st : Run) → at_station s f (at_station s g st) ≡ at_station s (λ x. f (g x)) st
in_in s f g st = ap (λ (l : ℕ → Station). record { station = l; post = st.post; plan = st.plan; count = st.count; installed_at = st.installed_at; dropped_at = st.dropped_at }) (upd_twice st.station s (g (st.station s)) f)

pub turn_first_act : (s : ℕ) (t : Turn) (a : Act) (st : Run) → turn s t (act_done s a st) ≡ act_done s a (turn s t st)
turn_first_act s stay a st = refl
turn_first_act s (to_coordinator r e) (write x) st = in_in s (set_coordinator r e) (written_station x) st ∙ sym (in_in s (written_station x) (set_coordinator r e) st)
turn_first_act s (to_coordinator r e) force st = in_in s (set_coordinator r e) forced_station st ∙ sym (in_in s forced_station (set_coordinator r e) st)
turn_first_act s (to_coordinator r e) (send m) st = refl
turn_first_act s (to_coordinator r e) (installed q) st = refl
turn_first_act s (to_coordinator r e) (dropped q) st = refl
turn_first_act s (to_subordinate r e) (write x) st = in_in s (set_subordinate r e) (written_station x) st ∙ sym (in_in s (written_station x) (set_subordinate r e) st)
turn_first_act s (to_subordinate r e) force st = in_in s (set_subordinate r e) forced_station st ∙ sym (in_in s forced_station (set_subordinate r e) st)
turn_first_act s (to_subordinate r e) (send m) st = refl
turn_first_act s (to_subordinate r e) (installed q) st = refl
turn_first_act s (to_subordinate r e) (dropped q) st = refl

pub turn_first : (s : ℕ) (t : Turn) (l : List Act) (st : Run) → turn s t (acts_done s l st) ≡ acts_done s l (turn s t st)
turn_first s t [] st = refl
turn_first s t (a ∷ l) st = turn_first s t l (act_done s a st) ∙ ap (acts_done s l) (turn_first_act s t a st)

pub cut_turn : (s k : ℕ) (t : Turn) (st : Run) → at_station s (cut_station k) (turn s t st) ≡ at_station s (cut_station k) st
cut_turn s k stay st = refl
cut_turn s k (to_coordinator r e) st = in_in s (cut_station k) (set_coordinator r e) st
cut_turn s k (to_subordinate r e) st = in_in s (cut_station k) (set_subordinate r e) st

pub cut_forgets : (s k : ℕ) (t : Turn) (l : List Act) (st : Run) → at_station s (cut_station k) (acts_done s l (turn s t st)) ≡ at_station s (cut_station k) (acts_done s l st)
cut_forgets s k t l st = ap (at_station s (cut_station k)) (sym (turn_first s t l st)) ∙ cut_turn s k t (acts_done s l st)

module _ (π : Presumption) where
  abbrev pub OkAct : ℕ → Act → Run → Type 0
  OkAct s (write x) st = ((r : ℕ) → r < st.count → Past ((st.station s).coordinators r) → is kC r x ≡ false) × ((r : ℕ) → r < st.count → Inactive ((st.station s).subordinates r) → is kp r x ≡ false) × RecLegal π (world st) s x
  OkAct s force st = Unit {0}
  OkAct s (send m) st = Legal π (world st) m
  OkAct s (installed r) st = (r < st.count) × Comm (world st) r
  OkAct s (dropped r) st = (r < st.count) × Abort (world st) r

  abbrev pub Oks : ℕ → List Act → Run → Type 0
  Oks s l st = Along (OkAct s) s l st

  pub safe_act : (s : ℕ) (a : Act) (st : Run) → SafeSt π st → OkAct s a st → SafeSt π (act_done s a st)
  safe_act s (write x) st h k = safe_write π st s h x k.0 k.1 k.2
  safe_act s force st h k = safe_force π st s h
  safe_act s (send m) st h k = safe_send π st m h k
  safe_act s (installed r) st h k = safe_in_mark π st r s h k
  safe_act s (dropped r) st h k = safe_dr_mark π st r s h k

  pub safe_acts : (s : ℕ) (l : List Act) (st : Run) → SafeSt π st → Oks s l st → SafeSt π (acts_done s l st)
  safe_acts s l st h k = acts_keep (OkAct s) s (SafeSt π) (λ a v c q. safe_act s a v q c) l st k h

  pub safe_step : (s : ℕ) (l : List Act) (g : Turn) (f k : ℕ) (st : Run) → SafeSt π st → Oks s l st → (SafeSt π (acts_done s l st) → SafeSt π (turn s g (acts_done s l st))) → SafeSt π (step s l g f k st)
  safe_step s l g f k st h o last =
      cond_both (ltb f (length l)) (at_station s (cut_station k) (acts_done s (take f l) st)) (turn s g (acts_done s l st)) (SafeSt π)
      (λ _. safe_cut π (acts_done s (take f l) st) s (safe_acts s (take f l) st h (along_take (OkAct s) s f l st o)) k)
      (λ _. last (safe_acts s l st h o))

  pub safe_step_first : (s : ℕ) (l : List Act) (t : Turn) (f k : ℕ) (st : Run) → SafeSt π (turn s t st) → Oks s l (turn s t st) → SafeSt π (step s l t f k st)
  safe_step_first s l t f k st h o =
      cond_both (ltb f (length l)) (at_station s (cut_station k) (acts_done s (take f l) st)) (turn s t (acts_done s l st)) (SafeSt π)
      (λ _. subst (SafeSt π) (cut_forgets s k t (take f l) st) (safe_cut π (acts_done s (take f l) (turn s t st)) s (safe_acts s (take f l) (turn s t st) h (along_take (OkAct s) s f l (turn s t st) o)) k))
      (λ _. subst (SafeSt π) (sym (turn_first s t l st)) (safe_acts s l (turn s t st) h o))

  pub acts_join : (s : ℕ) (l m : List Act) (st : Run) → acts_done s (l ++ m) st ≡ acts_done s m (acts_done s l st)
  acts_join s [] m st = refl
  acts_join s (a ∷ l) m st = acts_join s l m (act_done s a st)

  -- the entry changes between two parts of the acts
  pub safe_step_mid : (s : ℕ) (l m : List Act) (t : Turn) (f k : ℕ) (st : Run) → SafeSt π st → Oks s l st → SafeSt π (turn s t (acts_done s l st)) → Oks s m (turn s t (acts_done s l st)) → SafeSt π (step s (l ++ m) t f k st)
  safe_step_mid s l m t f k st h o h2 o2 =
      cond_both (ltb f (length (l ++ m))) (at_station s (cut_station k) (acts_done s (take f (l ++ m)) st)) (turn s t (acts_done s (l ++ m) st)) (SafeSt π)
      (λ _. part f l st h o h2 o2)
      (λ _. subst (λ (u : Run). SafeSt π (turn s t u)) (sym (acts_join s l m st)) (subst (SafeSt π) (sym (turn_first s t m (acts_done s l st))) (safe_acts s m (turn s t (acts_done s l st)) h2 o2)))
    where
      part : (f : ℕ) (l : List Act) (st : Run) → SafeSt π st → Oks s l st → SafeSt π (turn s t (acts_done s l st)) → Oks s m (turn s t (acts_done s l st)) → SafeSt π (at_station s (cut_station k) (acts_done s (take f (l ++ m)) st))
      part f [] st h o h2 o2 = subst (SafeSt π) (cut_forgets s k t (take f m) st) (safe_cut π (acts_done s (take f m) (turn s t st)) s (safe_acts s (take f m) (turn s t st) h2 (along_take (OkAct s) s f m (turn s t st) o2)) k)
      part zero (a ∷ l) st h o h2 o2 = safe_cut π st s h k
      part (suc f) (a ∷ l) st h o h2 o2 = part f l (act_done s a st) (safe_act s a st h o.0) o.1 h2 o2
