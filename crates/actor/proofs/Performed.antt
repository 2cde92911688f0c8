-- Acts performed one after the other, to the end or until the power fails.
use Rattle.std.proofs.Common.{◌≡◌, true, List, [], ◌∷◌, ◌++◌, refl}
use Rattle.actor.specs.Acting.{Acting, burnt, after, performed}
use Rattle.station.specs.Acts.{Act}

-- at a dark station an act does nothing
pub after_dark : (a : Act) (l : Acting) → l.dark ≡ true → after a l ≡ l
unfolding after burnt
after_dark a l h = simp h

-- the acts that remain at a dark station are not done
pub dark_performed : (acts : List Act) (l : Acting) → l.dark ≡ true → performed acts l ≡ l
dark_performed [] l h = refl
dark_performed (a ∷ acts) l h = rw (after_dark a l h) (dark_performed acts l h)

-- the acts of two parts of a step
pub performed_append : (xs ys : List Act) (l : Acting) → performed (xs ++ ys) l ≡ performed ys (performed xs l)
performed_append [] ys l = refl
performed_append (x ∷ xs) ys l = performed_append xs ys (after x l)

-- what a step of several parts comes to, also where the power fails in one of them
pub ruleset performing = (after_dark, dark_performed, performed_append)
