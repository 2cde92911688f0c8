-- What is claimed of the ideal run.
use Rattle.std.proofs.Common.{◌≡◌, ℕ, ◌+◌, ◌*◌, ◌<◌, ◌≤◌, true, false, List, [], ◌∷◌, length}
use Rattle.assurance.proofs.Ideal.{in_set, has, kC, kp, Outcome, commit, abort, Presumption, Run, Station, none, Collecting, Announcing, idle, Prepared, members, fits, Call, open_revision, close, settle, settled, call, calls}

-- the laws of a presumption and of sets
pub record Laws (π : Presumption) : Type 0 where
  pub commit_presumed : (s : ℕ) → π.presumed s ≡ commit → π.acks abort s ≡ true
  pub abort_presumed : (s : ℕ) → π.presumed s ≡ abort → π.acks commit s ≡ true
  pub opening : (all s : ℕ) → in_set all s ≡ true → π.presumed s ≡ commit → π.opens all ≡ true
  pub forcing : (o : Outcome) (s : ℕ) → π.acks o s ≡ true → π.forces o s ≡ true
  pub acker : (o : Outcome) (all s : ℕ) → in_set all s ≡ true → π.acks o s ≡ true → in_set (π.ackers o all) s ≡ true
  pub backer : (o : Outcome) (all s : ℕ) → in_set (π.ackers o all) s ≡ true → (in_set all s ≡ true) × (π.acks o s ≡ true)
  pub some : 2 ≤ π.size
  pub small : π.size ≤ 64

abbrev pub up : Station
up = record { power = true; stable = []; loose = []; coordinators = λ _. none; subordinates = λ _. idle }

abbrev pub new : Run
new = record { station = λ _. up; post = []; plan = λ _. record { coordinator = 0; names = 0 }; count = 0; installed_at = λ _. 0; dropped_at = λ _. 0 }

-- what is known of a revision r in a run
pub record Agreed (st : Run) (r : ℕ) : Type 0 where
  pub one : (s t : ℕ) → in_set (st.installed_at r) s ≡ true → in_set (st.dropped_at r) t ≡ true → ⊥
  pub recorded : (s : ℕ) → in_set (st.installed_at r) s ≡ true → has kC r (st.station (st.plan r).coordinator).stable ≡ true
  pub prepared : (s t : ℕ) → in_set (st.installed_at r) s ≡ true → in_set (st.plan r).names t ≡ true → has kp r (st.station t).stable ≡ true
  pub never : (s t : ℕ) → in_set (st.dropped_at r) s ≡ true → (has kC r (st.station t).stable ≡ false) × (has kC r (st.station t).loose ≡ false)

-- what is left when a run has settled
pub record Quiet (st : Run) : Type 0 where
  pub posted : st.post ≡ []
  pub doubt : (r s c : ℕ) → (st.station s).subordinates r ≡ Prepared c → ⊥
  pub voting : (r s a y : ℕ) → (st.station s).coordinators r ≡ Collecting a y → ⊥
  pub telling : (r s : ℕ) (o : Outcome) (w : ℕ) → (st.station s).coordinators r ≡ Announcing o w → ⊥
  pub everywhere : (r t : ℕ) → has kC r (st.station (st.plan r).coordinator).stable ≡ true → in_set (st.plan r).names t ≡ true → in_set (st.installed_at r) t ≡ true

-- what is known after a list of calls on a fresh run
pub record Known (π : Presumption) (st : Run) : Type 0 where
  pub agreed : (r : ℕ) → Agreed st r
  pub later : (more : List Call) (r s t : ℕ) → in_set (st.dropped_at r) s ≡ true → (has kC r ((calls π more st).station t).stable ≡ false) × (has kC r ((calls π more st).station t).loose ≡ false)
  pub room : (s : ℕ) → length (st.station s).stable + length (st.station s).loose ≤ 160
  pub settling : ((s : ℕ) → s < π.size → (st.station s).power ≡ true) → Quiet (call π settle st) × ((settled π st).made ≤ (2 * π.size + 2) * length st.post + 5 * π.size * st.count)

pub record Told (π : Presumption) : Type 0 where
  -- over every list of calls
  pub always : (cs : List Call) → Known π (calls π cs new)
  -- one revision of a fresh run, opened, closed and settled
  pub once : (c all : ℕ) → fits π.size c all ≡ true → (settled π (calls π (open_revision c all ∷ (close 0 255 0 ∷ [])) new)).made ≤ 4 * length (members π.size all)

abbrev pub Together : Type 0
Together = (π : Presumption) → Laws π → Told π
