use Rattle.std.proofs.Common.{◌≡◌, ℕ, ◌+◌, ◌≤◌, min, List, ◌++◌, length, take, drop, vec_items, arith, take-add}
use Rattle.journal.proofs.table.StationRecords.cut.Goals as goal
use Rattle.journal.specs.Meaning.{keep_first}
use Rattle.journal.specs.Tables.{split_at}
use Rattle.journal.specs.declared.records.Record.{Record}
use Rattle.std.proofs.lemmas.List.{take_all, drop_all, take_min, length-take}

-- The first of the unforced records become stable, the others are lost.
keep_split : (n k m : ℕ) (xs : List Record) → m ≡ n + min k (length (drop n xs)) → split_at m (take m xs) ≡ keep_first k (split_at n xs)
keep_split n k m xs e =
    let kept : take m xs ≡ take n xs ++ take k (drop n xs) = rw (e, take-add, take_min) in
    let l : length (take m xs) ≤ m = simp length-take (omega arith) in
    rw (take_all m (take m xs) l, drop_all m (take m xs) l, kept)

pub returns : goal.returns
returns c =
    let unforced = rw (← c.self.view_is) at c.unforced_len.ensures in
    rw (c.truncate.ensures.items, ← c.self.view_is) (keep_split c.self.inside.stable c.args.kept _ (vec_items c.self.inside.records) (omega (arith, unforced)))
