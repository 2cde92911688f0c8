-- Records: the letter of each kind.
use Rattle.std.specs.Prelude.{ℕ, cond, Some, None, Option, ◌==◌}
use Rattle.journal.specs.declared.records.Kind.{Kind}
use Rattle.journal.specs.declared.records.Kind.TheVariants.{Opening, Commit, Abort, End, Prepared, Committed, Aborted}

-- The ASCII letter of each kind: I, C, A, E of the coordinator, p, c, a of the subordinate.
abbrev pub letter_of : Kind → ℕ
letter_of Opening = 73
letter_of Commit = 67
letter_of Abort = 65
letter_of End = 69
letter_of Prepared = 112
letter_of Committed = 99
letter_of Aborted = 97

-- The kind that has this letter, if any.
abbrev pub kind_of : ℕ → Option Kind
kind_of l =
    cond (l == 73) (Some Opening)
    (cond (l == 67) (Some Commit)
    (cond (l == 65) (Some Abort)
    (cond (l == 69) (Some End)
    (cond (l == 112) (Some Prepared)
    (cond (l == 99) (Some Committed)
    (cond (l == 97) (Some Aborted) None))))))
