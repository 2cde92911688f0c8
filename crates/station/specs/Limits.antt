-- The sizes that a run keeps to.
use Rattle.std.specs.Prelude.{ℕ}

-- The most revisions that a run can open.
abbrev pub most_revisions : ℕ
most_revisions = 32
