-- What acts change: the journals, the post and the as-run log.
use Rattle.std.specs.Prelude.{ℕ, Bool, cond, List, [], ◌∷◌, ◌++◌, length, take, Ok, Err, Result, nat_lt}
use Rattle.journal.specs.Meaning.{Section, written, forced, cut_to}
use Rattle.presumption.specs.declared.outcome.Outcome.TheVariants.{Commit, Abort}
use Rattle.actor.specs.Log.{marked, row}
use Rattle.actor.specs.Post.{posted, without}
use Rattle.actor.specs.declared.fuse.PowerCut.{PowerCut}
use Rattle.actor.specs.declared.log.Row.{Row}
use Rattle.station.specs.Acts.{Act, write, force, post, mark_installed, mark_dropped}
use Rattle.station.specs.Limits.{most_revisions}
use Rattle.station.specs.declared.messages.Message.{Message}
use Rattle.station.specs.declared.sets.StationSet.{StationSet}

-- The journals of all stations, the messages that wait, and the as-run log.
pub record Store : Type 0 where
  pub journal : List Section
  pub post : List Message
  pub log : List Row

-- A store by its parts.
abbrev pub store : List Section → List Message → List Row → Store
store j p l = record { journal = j; post = p; log = l }

-- One act of station s.
unfoldable pub done : ℕ → Act → Store → Store
done s (write x) w = store (written x w.journal s) w.post w.log
done s force w = store (forced w.journal s) w.post w.log
done s (post m) w = store w.journal (posted m w.post) w.log
done s (mark_installed r) w = store w.journal w.post (marked Commit r s w.log)
done s (mark_dropped r) w = store w.journal w.post (marked Abort r s w.log)

-- Acts of station s, in order.
unfoldable pub all_done : ℕ → List Act → Store → Store
all_done s [] w = w
all_done s (a ∷ acts) w = all_done s acts (done s a w)

-- The journal of station s is cut, with k records kept.
unfoldable pub journal_cut : ℕ → ℕ → Store → Store
journal_cut s k w = store (cut_to k w.journal s) w.post w.log

-- The message at place i waits no longer.
abbrev pub less : ℕ → Store → Store
less i w = store w.journal (without i w.post) w.log

-- One revision more is logged, if there may be another.
abbrev pub with_row : ℕ → StationSet → Store → Store
with_row c set w = cond (nat_lt (length w.log) most_revisions) (store w.journal w.post (w.log ++ row c set ∷ [])) w

-- The fuse is below the number of acts.
abbrev pub burns : ℕ → List Act → Bool
burns f acts = nat_lt f (length acts)

-- The answer of acts under a fuse f: how many there are, or the power cut after as many as the fuse allows.
unfoldable pub answer_under_fuse : ℕ → List Act → Result ℕ PowerCut
answer_under_fuse f acts = cond (burns f acts) (Err (record { after = f })) (Ok (length acts))

-- Acts of station s under a fuse f: where it burns, so many acts, and then a cut with k records kept.
unfoldable pub done_under_fuse : ℕ → List Act → ℕ → ℕ → Store → Store
done_under_fuse s acts f k w = cond (burns f acts) (journal_cut s k (all_done s (take f acts) w)) (all_done s acts w)
