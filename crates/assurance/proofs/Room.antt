-- A whole step of a rule finds room in a journal of 160 records.
use Rattle.std.proofs.Common.{◌≡◌, ℕ, zero, suc, ◌+◌, ◌<◌, ◌≤◌, List, [], ◌∷◌, length, take, refl, arith, length-append}
use Rattle.std.specs.List.{AllByRecursion}
use Rattle.assurance.proofs.Each.{All-weaker, All-push, All-append}
use Rattle.assurance.proofs.Ideal.{Record, Station, Run, Presumption, written_station, forced_station, Act, write, force, Turn, stay}
use Rattle.assurance.proofs.Claims.{Laws}
use Rattle.assurance.proofs.Rules.{Rule, acts_of, turn_of, Why, all_acts}
use Rattle.assurance.proofs.Counts.{few_after, debit_rule, room}
use Rattle.assurance.proofs.Every.{Full}
use Rattle.assurance.proofs.Local.{locals, turned_station}

-- how many records a station has
abbrev pub records : Station → ℕ
records y = length y.stable + length y.loose

pub grows : (l : List Act) (y : Station) → records y ≤ records (locals l y)
grows [] y = omega arith
grows (write x ∷ l) y = omega (arith, grows l (written_station x y), length-append y.loose (x ∷ []))
grows (force ∷ l) y = omega (arith, grows l (forced_station y), length-append y.stable y.loose)
grows (a ∷ l) y = grows l y

pub grows_take : (f : ℕ) (l : List Act) (y : Station) → records (locals (take f l) y) ≤ records (locals l y)
grows_take zero l y = grows l y
grows_take (suc f) [] y = omega arith
grows_take (suc f) (write x ∷ l) y = grows_take f l (written_station x y)
grows_take (suc f) (force ∷ l) y = grows_take f l (forced_station y)
grows_take (suc f) (a ∷ l) y = grows_take f l y

-- every record of a step is of its revision
abbrev RevA : ℕ → Act → Type 0
RevA n (write x) = x.revision < n
RevA n a = Unit {0}

abbrev Revs : ℕ → Station → Type 0
Revs n y = AllByRecursion (λ (x : Record). x.revision < n) y.stable × AllByRecursion (λ (x : Record). x.revision < n) y.loose

revs_locals : (n : ℕ) (l : List Act) (y : Station) → AllByRecursion (RevA n) l → Revs n y → Revs n (locals l y)
revs_locals n [] y a h = h
revs_locals n (write x ∷ l) y a h = revs_locals n l (written_station x y) a.1 (h.0, All-push _ y.loose x h.1 a.0)
revs_locals n (force ∷ l) y a h = revs_locals n l (forced_station y) a.1 (All-append _ y.stable y.loose h.0 h.1, tt)
revs_locals n (u ∷ l) y a h = revs_locals n l y a.1 h

records_turn : (tn : Turn) (y : Station) → records (turned_station tn y) ≡ records y
records_turn stay y = refl
records_turn tn y = refl

revs_turn : (n : ℕ) (tn : Turn) (y : Station) → Revs n y → Revs n (turned_station tn y)
revs_turn n stay y h = h
revs_turn n tn y h = h

module _ (π : Presumption) (𝓛 : Laws π) where
  -- a whole step of a rule leaves at most 160 records
  pub room_rule : (u : Rule) (r s t : ℕ) (st : Run) → Full π 𝓛 st → r < st.count → Why π (st.station s) r t u → records (locals (acts_of π u r s t) (st.station s)) ≤ 160
  room_rule u r s t st h known w =
      let y = st.station s in
      let l = acts_of π u r s t in
      let tn = turn_of π u r in
      let few = few_after l tn y (h.few s) (debit_rule π 𝓛 u r s t y w) in
      let revs : Revs st.count y = (All-weaker _ _ (λ x q. q.0) y.stable (h.inv.safe.recs s).0, All-weaker _ _ (λ x q. q.0) y.loose (h.inv.safe.recs s).1) in
      let after = revs_turn st.count tn (locals l y) (revs_locals st.count l y (all_acts π (RevA st.count) u r s t (λ _ _ _. known) tt (λ _ _ _. tt) tt tt) revs) in
      omega (arith, room st.count (turned_station tn (locals l y)) after.0 after.1 few, records_turn tn (locals l y), h.cap)
