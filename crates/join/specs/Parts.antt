-- Which journal of a join has a station.
use Rattle.std.specs.Prelude.{ℕ, ◌-◌, cond, List, Some, None, Option, nat_lt}
use Rattle.join.specs.Together.{together, Stands, Missing}
use Rattle.join.specs.declared.Part.{Part}
use Rattle.join.specs.declared.Part.TheVariants.{First, Second}
use Rattle.journal.specs.Limits.{most_stations}
use Rattle.journal.specs.Meaning.{Section}

-- Station s of a join whose first journal serves f: s of the first, or s - f of the second, as far as a journal goes.
-- Where the second has no such station either, it says so itself.
abbrev pub part_of : ℕ → ℕ → Option Part
part_of f s = cond (nat_lt s f) (Some (First s)) (cond (nat_lt s most_stations) (Some (Second (s - f))) None)

-- What that says of station s in a join of the journals a and b.
abbrev pub Lies : List Section → List Section → ℕ → Option Part → Type 0
Lies a b s (Some (First t)) = Stands a t (λ c. together c b) s
Lies a b s (Some (Second t)) = Stands b t (together a) s
Lies a b s None = Missing (together a b) s
