-- A move: the step that an entry calls for, and the entry after it.
use Rattle.std.specs.Prelude.{◌≡◌, Some, None, Option}
use Rattle.station.specs.declared.steps.Step.{Step}
use Rattle.station.specs.declared.steps.Step.TheVariants.{Rest}

-- The step that is due, and the entry when it is done.
pub record Move (E : Type 0) : Type 0 where
  pub step : Step
  pub next : E

-- A move by its parts.
abbrev pub move : {E : Type 0} → Step → E → Move E
move x e = record { step = x; next = e }

-- Nothing is due, and the entry stays.
abbrev pub stay : {E : Type 0} → E → Move E
stay e = move Rest e

-- The step of a move that the entry may not allow.
abbrev pub allowed_step : {E : Type 0} → Option (Move E) → Option Step
allowed_step None = None
allowed_step (Some m) = Some m.step

-- The entry after it: as it was, where it does not allow the move.
abbrev pub allowed_next : {E : Type 0} → E → Option (Move E) → E
allowed_next e None = e
allowed_next e (Some m) = m.next

-- A move is made: its step is answered, and its entry comes next.
pub record Makes {E : Type 0} (m : Move E) (answer : Step) (after : E) : Type 0 where
  pub step : answer ≡ m.step
  pub next : after ≡ m.next

-- A move is made where the entry allows it; else no step is answered, and the entry stays.
pub record MakesAllowed {E : Type 0} (m : Option (Move E)) (before : E) (answer : Option Step) (after : E) : Type 0 where
  pub step : answer ≡ allowed_step m
  pub next : after ≡ allowed_next before m
