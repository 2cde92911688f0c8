-- A station in the middle of a step, as the code performs it act by act.
use Rattle.std.specs.Prelude.{ℕ, ◌+◌, Bool, true, false, cond, List, [], ◌∷◌, nat_lt}
use Rattle.actor.specs.Store as on_store
use Rattle.actor.specs.Store.{Store, journal_cut}
use Rattle.actor.specs.declared.fuse.Fuse.{Fuse}
use Rattle.station.specs.Acts.{Act}
use Rattle.station.specs.declared.messages.MessageKind.{MessageKind}
use Rattle.station.specs.declared.messages.MessageKind.TheVariants.{Prepare, Yes, No, Commit, Abort, Ack, Inquiry}

-- What the acts change, the station that acts, its fuse, how many acts are done, whether it is dark.
pub record Acting : Type 0 where
  pub store : Store
  pub station : ℕ
  pub fuse : Fuse
  pub done : ℕ
  pub dark : Bool

-- A step of station s begins under a fuse.
abbrev pub begun : ℕ → Fuse → Store → Acting
begun s f w = record { store = w; station = s; fuse = f; done = 0; dark = false }

-- The power fails: the station's journal is cut.
abbrev pub failed : Acting → Acting
failed l = record l { store = journal_cut l.station l.fuse.kept l.store; dark = true }

-- An act begins: one more is counted, or the power fails where the fuse is burnt; nothing at a dark station.
unfoldable pub burnt : Acting → Acting
burnt l = cond l.dark l (cond (nat_lt l.done l.fuse.acts) (record l { done = l.done + 1 }) (failed l))

-- An act of a station, which does nothing where it is dark.
abbrev pub did : Act → Acting → Acting
did a l = cond l.dark l (record l { store = on_store.done l.station a l.store })

-- An act where it is due.
unfoldable pub after : Act → Acting → Acting
after a l = did a (burnt l)

-- Acts, one after the other.
abbrev pub performed : List Act → Acting → Acting
performed [] l = l
performed (a ∷ acts) l = performed acts (after a l)

-- The messages that only a receipt, or an outcome that is known already, can post.
abbrev pub guarded : MessageKind → Bool
guarded Prepare = false
guarded Yes = true
guarded No = false
guarded Commit = true
guarded Abort = false
guarded Ack = false
guarded Inquiry = false
