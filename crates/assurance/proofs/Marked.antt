-- Every marked run is as marked, by computation.
use Rattle.std.proofs.Common.{refl}
use lib.Count.{ones}
use Rattle.actor.specs.Store.{done, all_done, journal_cut}
use Rattle.run.specs.Settling.{delivered, drained, resolved, finished, all_finished, settled}
use Rattle.run.specs.State.{stepped, all_ready}
use Rattle.stations.specs.Stations.{blank, rebuilt, all_power, activated}
use Rattle.station.specs.Recovery.{first_record}
use Rattle.station.specs.Sets.{members}
use Rattle.assurance.specs.Marked.{AllAsMarked}

pub all_as_marked : AllAsMarked
unfolding ones done all_done journal_cut stepped all_ready rebuilt blank all_power activated first_record members delivered drained resolved finished all_finished settled
all_as_marked = (refl, (refl, (refl, (refl, (refl, (refl, (refl, (refl, (refl, (refl, (refl, (refl, (refl, (refl, (refl, (refl, (refl, (refl, tt))))))))))))))))))
