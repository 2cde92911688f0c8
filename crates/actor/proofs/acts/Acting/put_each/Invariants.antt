use Rattle.std.proofs.Common.{◌≡◌, false, map}
use Rattle.actor.specs.Acting.{performed}
use Rattle.actor.specs.Actors.{acting}
use Rattle.station.specs.Acts.{post, letter, post_each}
use Rattle.actor.proofs.acts.Acting.put_each.Given as goal

-- what is left to post from here comes to the same as the whole from the start
abbrev pub invariant-loop-receiver : goal.invariant-loop-receiver
invariant-loop-receiver g l = record {
  left : performed (map (λ t. post (letter l.kind l.fn.self.revision l.fn.self.station t)) l.receiver-iterator) (acting g.J.Journal.meaning false l.self)
      ≡ performed (post_each l.kind l.fn.self.revision l.fn.self.station l.fn.set) (acting g.J.Journal.meaning false l.fn.self);
  station : l.self.station ≡ l.fn.self.station;
  revision : l.self.revision ≡ l.fn.self.revision;
  presumption : l.self.presumption.now ≡ l.fn.self.presumption.now;
  actor : l.self.actor.ghost_name ≡ l.fn.self.actor.ghost_name;
}
