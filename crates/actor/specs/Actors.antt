-- What an actor and a station that acts show of themselves.
use Rattle.std.specs.Prelude.{◌≡◌, Bool, false, List, Result, IfErr, is_err}
use Rattle.journal.specs.Meaning.{Section}
use Rattle.actor.specs.Acting as in_step
use Rattle.actor.specs.Store.{Store, store}
use Rattle.actor.specs.declared.actor.Actor.{Actor}
use Rattle.actor.specs.declared.acts.Acting.{Acting}
use Rattle.actor.specs.declared.fuse.PowerCut.{PowerCut}

-- The journal that an actor holds.
abbrev pub journal_of : {J : Type 0} → Actor J → J
journal_of a = a.journal

-- The journals, the post and the log that an actor holds.
abbrev pub store_of : {J : Type 0} → (J → List Section) → Actor J → Store
store_of meaning a = store (meaning a.journal) a.post a.log

-- A station in the middle of a step, still lit or dark by now.
abbrev pub acting : {J P : Type 0} → (J → List Section) → Bool → Acting J P → in_step.Acting
acting meaning dark a = record { store = store_of meaning a.actor.now; station = a.station; fuse = a.fuse; done = a.done; dark = dark }

-- What a lit station did: so it changed, and the answer is Err exactly where it is dark now, and tells after how many acts.
-- It goes on with the same step: same station, revision, presumption and actor.
pub record Changes {J P T : Type 0} (meaning : J → List Section) (change : in_step.Acting → in_step.Acting) (old : Acting J P) (result : Result T PowerCut) (new : Acting J P) : Type 0 where
  pub state : acting meaning (is_err result) new ≡ change (acting meaning false old)
  pub after : IfErr result (λ cut. cut.after ≡ new.done)
  pub station : new.station ≡ old.station
  pub revision : new.revision ≡ old.revision
  pub presumption : new.presumption.now ≡ old.presumption.now
  pub actor : new.actor.ghost_name ≡ old.actor.ghost_name
