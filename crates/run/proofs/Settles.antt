-- Settling, delivery by delivery and revision by revision.
use Rattle.std.proofs.Common.{◌≡◌, ℕ, zero, suc, ◌+◌, ◌-◌, ◌*◌, ◌<◌, ◌≤◌, Bool, true, false, cond, ltb, ◌⊎◌, List, [], ◌∷◌, length, sym, refl, ap, ◌∙◌, inl, inr, arith}
use Rattle.presumption.specs.Answers.{Answers}
use Rattle.run.proofs.Loads.{Light, weight_some, weight_most, load_falls, fit_first, light_urged, light_inquiring}
use Rattle.run.specs.Calls.{coordinator_entry, deliver_call}
use Rattle.run.specs.Runs.{Shown}
use Rattle.run.specs.Settling.{Progress, Drained, Settles, progress, load, first_delivered, delivered, drained, urged, inquired, urging, inquiring, resolved, finished, all_finished, settled}
use Rattle.run.specs.State.{State}
use Rattle.station.specs.declared.messages.Message.{Message}
use Rattle.stations.specs.Stations.{subordinate_at}
use Rattle.std.specs.List.{range_with_len}
use Rattle.std.proofs.lemmas.List.{nil_from_length}
use Rattle.std.proofs.lemmas.Bool.{cases_lt}
use Rattle.std.proofs.lemmas.Bool.Decides.{nat_tests}

no_load : (p : List Message) → load 8 p ≤ 0 → p ≡ []
no_load [] h = refl
no_load (m ∷ p) h = absurd (omega (arith, weight_some m.kind))

-- few messages are a small load
pub load_few : (p : List Message) → load 8 p ≤ 18 * length p
load_few [] = omega arith
load_few (m ∷ p) = omega (arith, load_few p, weight_most m.kind)

-- a part of settling adds its deliveries to those made before, and does not look at them
pub record Adds (f : Progress → Progress) : Type 0 where
  pub adds : (st : State) (n : ℕ) → f (progress st n) ≡ progress (f (progress st 0)).state (n + (f (progress st 0)).deliveries)

-- so they can be counted for themselves
counted : (f : Progress → Progress) → Adds f → (v w : State) (m n : ℕ) → progress w n ≡ f (progress v 0) → progress w (m + n) ≡ f (progress v m)
counted f h v w m n e = ap (λ (x : Progress). progress x.state (m + x.deliveries)) e ∙ sym (h.adds v m)

adds_state : (f : State → State) → Adds (λ x. progress (f x.state) x.deliveries)
adds_state f = record { adds = λ st n. ap (progress (f st)) (omega arith) }

adds_then : (f g : Progress → Progress) → Adds f → Adds g → Adds (λ x. g (f x))
adds_then f g h i =
    record {
      adds = λ st n.
          let x = f (progress st 0) in
          let y = g (progress x.state 0) in
          let same : n + x.deliveries + y.deliveries ≡ n + (x.deliveries + y.deliveries) = omega arith in
          ap g (h.adds st n)
          ∙ (i.adds x.state (n + x.deliveries)
          ∙ (ap (progress y.state) same
          ∙ sym (ap (λ (z : Progress). progress z.state (n + z.deliveries)) (i.adds x.state x.deliveries))));
    }

-- a part of settling for each number of a list, one after the other
abbrev pub each : (ℕ → Progress → Progress) → List ℕ → Progress → Progress
each part [] x = x
each part (k ∷ ks) x = each part ks (part k x)

adds_each : (part : ℕ → Progress → Progress) → ((k : ℕ) → Adds (part k)) → (ks : List ℕ) → Adds (each part ks)
adds_each part h [] = adds_state (λ st. st)
adds_each part h (k ∷ ks) = adds_then (part k) (each part ks) (h k) (adds_each part h ks)

adds_cond : (b : State → Bool) (f g : Progress → Progress) → Adds f → Adds g → Adds (λ x. cond (b x.state) (f x) (g x))
adds_cond b f g h i = record { adds = λ st n. grind (arith, h.adds, i.adds) }

module _ (π : Answers) where
  adds_first : Adds (first_delivered π)
  adds_first = record { adds = λ st n. refl }

  adds_delivered : (k : ℕ) → Adds (delivered π k)
  unfolding delivered
  adds_delivered zero = adds_state (λ st. st)
  adds_delivered (suc k) =
      adds_cond (λ st. ltb 0 (length st.store.post)) (λ x. delivered π k (first_delivered π x)) (λ x. x) (adds_then (first_delivered π) (delivered π k) adds_first (adds_delivered k)) (adds_state (λ st. st))

  adds_drained : Adds (drained π)
  unfolding drained
  adds_drained = record { adds = λ st n. (adds_delivered (load 8 st.store.post)).adds st n }

  -- an inquiry, and the deliveries after it
  abbrev pub asking : ℕ → ℕ → Progress → Progress
  asking r s x = drained π (inquiring π r s x)

  pub adds_asking : (r s : ℕ) → Adds (asking r s)
  adds_asking r s = adds_then (inquiring π r s) (drained π) (adds_state (λ st. inquired π (subordinate_at st.stations s r) r s st)) adds_drained

  resolved_is : (r : ℕ) (ss : List ℕ) (x : Progress) → resolved π r ss x ≡ each (asking r) ss x
  unfolding resolved
  resolved_is r [] x = refl
  resolved_is r (s ∷ ss) x = resolved_is r ss (asking r s x)

  -- the coordinator is urged, and the deliveries after it
  abbrev pub urging_first : ℕ → Progress → Progress
  urging_first r x = drained π (urging π r x)

  pub finished_is : (r n : ℕ) (x : Progress) → n ≡ length x.state.stations → each (asking r) (range_with_len 0 n) (urging_first r x) ≡ finished π r x
  unfolding finished
  finished_is r n x e =
      ap (λ (k : ℕ). each (asking r) (range_with_len 0 k) (urging_first r x)) e ∙ sym (resolved_is r (range_with_len 0 (length x.state.stations)) (urging_first r x))

  pub adds_finished : (r : ℕ) → Adds (finished π r)
  adds_finished r =
      record {
        adds = λ st n.
            let ss = range_with_len 0 (length st.stations) in
            let urged_adds = adds_then (urging π r) (drained π) (adds_state (λ v. urged π (coordinator_entry r v) r v)) adds_drained in
            let same = finished_is r (length st.stations) (progress st 0) refl in
            sym (finished_is r (length st.stations) (progress st n) refl)
            ∙ ((adds_then (urging_first r) (each (asking r) ss) urged_adds (adds_each (asking r) (adds_asking r) ss)).adds st n
            ∙ ap (λ (z : Progress). progress z.state (n + z.deliveries)) same);
      }

  all_finished_is : (rs : List ℕ) (x : Progress) → all_finished π rs x ≡ each (finished π) rs x
  unfolding all_finished
  all_finished_is [] x = refl
  all_finished_is (r ∷ rs) x = all_finished_is rs (finished π r x)

  pub settled_is : (n : ℕ) (st : State) → n ≡ length st.store.log → each (finished π) (range_with_len 0 n) (drained π (progress st 0)) ≡ settled π st
  unfolding settled
  settled_is n st e =
      ap (λ (k : ℕ). each (finished π) (range_with_len 0 k) (drained π (progress st 0))) e ∙ sym (all_finished_is (range_with_len 0 (length st.store.log)) (drained π (progress st 0)))

  -- nothing waits: nothing is delivered
  delivered_none : (k : ℕ) (x : Progress) → x.state.store.post ≡ [] → delivered π k x ≡ x
  unfolding delivered
  delivered_none zero x e = refl
  delivered_none (suc k) x e = ap (λ (p : List Message). cond (ltb 0 (length p)) (delivered π k (first_delivered π x)) x) e

  -- one delivery of those that are left
  delivered_one : (k : ℕ) (x : Progress) → 0 < length x.state.store.post → delivered π (suc k) x ≡ delivered π k (first_delivered π x)
  unfolding delivered
  delivered_one k x h = grind (arith, nat_tests)

  -- as many deliveries as the load allows are enough, and more change nothing
  enough : (k l : ℕ) (x : Progress) → x.state.fit ≡ true → load 8 x.state.store.post ≤ k → load 8 x.state.store.post ≤ l → delivered π k x ≡ delivered π l x
  enough zero l x e h i = let z = no_load x.state.store.post h in delivered_none zero x z ∙ sym (delivered_none l x z)
  enough (suc k) zero x e h i = let z = no_load x.state.store.post i in delivered_none (suc k) x z ∙ sym (delivered_none zero x z)
  enough (suc k) (suc l) x e h i =
      elim (cases_lt 0 (length x.state.store.post)) [
        | inl p ↦
            delivered_one k x p
            ∙ (enough k l (first_delivered π x) (fit_first π x.state 255 0 e p) (omega (arith, load_falls π x.state 255 0 e p)) (omega (arith, load_falls π x.state 255 0 e p))
            ∙ sym (delivered_one l x p))
        | inr p ↦ let z = nil_from_length x.state.store.post (omega arith) in delivered_none (suc k) x z ∙ sym (delivered_none (suc l) x z)
      ]

  -- a delivery, and then the others
  drained_one : (x : Progress) → x.state.fit ≡ true → 0 < length x.state.store.post → drained π (first_delivered π x) ≡ drained π x
  unfolding drained
  drained_one x e p =
      let n = load 8 x.state.store.post in
      let m = load 8 (first_delivered π x).state.store.post in
      enough m n (first_delivered π x) (fit_first π x.state 255 0 e p) (omega arith) (omega (arith, load_falls π x.state 255 0 e p))
      ∙ (sym (delivered_one n x p) ∙ enough (suc n) n x e (omega arith) (omega arith))

  drained_none : (x : Progress) → length x.state.store.post ≤ 0 → drained π x ≡ x
  unfolding drained
  drained_none x h = delivered_none (load 8 x.state.store.post) x (nil_from_length x.state.store.post (omega arith))

-- how far emptying the post has come, with so many deliveries made; the presumption stays
pub record Draining {P : Type 0} (answers : P → Answers) (x y : Shown P) (n : ℕ) : Type 0 where
  pub fit : y.state.fit ≡ true
  pub left : drained (answers x.presumption) (progress y.state n) ≡ drained (answers x.presumption) (progress x.state 0)
  pub few : n + load 8 y.state.store.post ≤ load 8 x.state.store.post
  pub bounded : (n ≡ 0) ⊎ (n + load 8 y.state.store.post ≤ 1152)
  pub presumes : y.presumption ≡ x.presumption

module _ {P : Type 0} {answers : P → Answers} {x y : Shown P} {n : ℕ} (h : Draining answers x y n) where
  -- one message more is delivered
  pub draining_one : 0 < length y.state.store.post → length y.state.store.post ≤ 64 → (z : Shown P) → z.state ≡ (deliver_call (answers y.presumption) 0 false 255 0 y.state).state → z.presumption ≡ y.presumption → Draining answers x z (n + 1)
  draining_one p most z e s =
      let π = answers x.presumption in
      let d : z.state ≡ (deliver_call π 0 false 255 0 y.state).state = cc (e, h.presumes) in
      let falls : load 8 z.state.store.post < load 8 y.state.store.post = omega (arith, ap (λ (v : State). load 8 v.store.post) d, load_falls π y.state 255 0 h.fit p) in
      record {
        fit = cc (d, fit_first π y.state 255 0 h.fit p);
        left = cc (d, drained_one π (progress y.state n) h.fit p, h.left);
        few = omega (arith, falls, h.few);
        bounded = inr (grind (arith, falls, load_few y.state.store.post, most, h.bounded));
        presumes = s ∙ h.presumes;
      }

  pub draining_falls : 0 < length y.state.store.post → (z : State) → z ≡ (deliver_call (answers y.presumption) 0 false 255 0 y.state).state → load 8 z.store.post < load 8 y.state.store.post
  draining_falls p z e = omega (arith, ap (λ (v : State). load 8 v.store.post) e, load_falls (answers y.presumption) y.state 255 0 h.fit p)

  -- none is left
  pub draining_done : length y.state.store.post ≤ 0 → Settles (drained (answers x.presumption)) x n y
  draining_done e =
      record {
        progress = sym (drained_none (answers x.presumption) (progress y.state n) e) ∙ h.left;
        ready = record { fit = h.fit; empty = nil_from_length y.state.store.post (omega arith) };
        presumes = h.presumes;
      }

-- a drained run, and a little posted since
few_then : (n : ℕ) (st v w : State) → Drained st → Light n st v → w ≡ v → (w.fit ≡ true) × (load 8 w.store.post ≤ n)
few_then n st v w d l e = rw e (l.fit ∙ d.fit, omega (arith, l.weighs, ap (load 8) d.empty))

-- to urge a coordinator posts little
pub urged_light : (π : Answers) (r : ℕ) (st v : State) → Drained st → v ≡ urged π (coordinator_entry r st) r st → (v.fit ≡ true) × (load 8 v.store.post ≤ 16)
urged_light π r st v d e = few_then 16 st _ v d (light_urged π st (coordinator_entry r st) r) e

-- an inquiry posts little
pub inquired_light : (π : Answers) (r s : ℕ) (st v : State) → Drained st → v ≡ inquired π (subordinate_at st.stations s r) r s st → (v.fit ≡ true) × (load 8 v.store.post ≤ 3)
inquired_light π r s st v d e = few_then 3 st _ v d (light_inquiring π st (subordinate_at st.stations s r) r s) e

-- a change, and then the post is emptied
pub settles_then : {P : Type 0} (answers : P → Answers) (change : Answers → State → State) {x v y : Shown P} {n : ℕ} → v.state ≡ change (answers x.presumption) x.state → v.presumption ≡ x.presumption → Settles (drained (answers v.presumption)) v n y
    → Settles (λ z. drained (answers x.presumption) (progress (change (answers x.presumption) z.state) z.deliveries)) x n y
settles_then answers change e p h = record { progress = cc (h.progress, e, p); ready = h.ready; presumes = h.presumes ∙ p }

-- how far a part of settling has come for the numbers up to n, with those from k on left
pub record Going {P : Type 0} (answers : P → Answers) (part : Answers → ℕ → Progress → Progress) (most n k : ℕ) (x y : Shown P) (i m : ℕ) : Type 0 where
  pub ready : Drained y.state
  pub left : each (part (answers x.presumption)) (range_with_len k (n - k)) (progress y.state m) ≡ each (part (answers x.presumption)) (range_with_len 0 n) (progress x.state i)
  pub few : m ≤ i + k * most
  pub presumes : y.presumption ≡ x.presumption

module _ {P : Type 0} {answers : P → Answers} {part : Answers → ℕ → Progress → Progress} {most n k : ℕ} {x y : Shown P} {i m : ℕ} (h : Going answers part most n k x y i m) where
  -- after one number more
  pub going_more : k < n → (z : Shown P) (j : ℕ) → Adds (part (answers x.presumption) k) → Settles (part (answers y.presumption) k) y j z → j ≤ most → Going answers part most n (k + 1) x z i (m + j)
  going_more lt z j adds s few =
      let f = part (answers x.presumption) in
      let same : n - k ≡ suc (n - (k + 1)) = omega arith in
      let one : progress z.state j ≡ f k (progress y.state 0) = cc (s.progress, h.presumes) in
      record {
        ready = s.ready;
        left = cc (counted (f k) adds y.state z.state m j one, rw same at h.left);
        few = grind (arith, h.few, few);
        presumes = s.presumes ∙ h.presumes;
      }

  -- none is left: it is done for all, after what was done first
  pub going_done : n ≤ k → (o : Shown P) (first : Progress → Progress) → Settles first o i x → Settles (λ z. each (part (answers o.presumption)) (range_with_len 0 n) (first z)) o m y
  going_done le o first s =
      let none : n - k ≡ 0 = omega arith in
      record {
        progress =
            cc (rw none at h.left, s.presumes, s.progress);
        ready = h.ready;
        presumes = h.presumes ∙ s.presumes;
      }

-- the same part of settling, said otherwise
pub settles_as : {P : Type 0} {part other : Progress → Progress} {x y : Shown P} {n : ℕ} → Settles part x n y → part (progress x.state 0) ≡ other (progress x.state 0) → Settles other x n y
settles_as h e = record { progress = h.progress ∙ e; ready = h.ready; presumes = h.presumes }
