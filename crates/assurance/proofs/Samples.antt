-- Settling by computation, on four short runs over a table of three stations.
use Rattle.std.proofs.Common.{◌≡◌, [], ◌∷◌, refl}
use Rattle.actor.specs.Store.{done, all_done, journal_cut}
use Rattle.journal.specs.Tables.{table_of}
use Rattle.presumption.specs.Answers.{abort_presumed, commit_presumed}
use Rattle.run.specs.Lists.{Open, Close, GiveUp, after_calls}
use Rattle.run.specs.Settling.{delivered, drained, resolved, finished, all_finished, settled}
use Rattle.run.specs.State.{stepped, all_ready, fresh}
use Rattle.stations.specs.Stations.{blank, all_power, activated}
use Rattle.station.specs.Sets.{of_bits, members}

-- close, then settle: 8 deliveries where commits are acknowledged, 6 where they are not
commit_acknowledged : (settled abort_presumed (after_calls abort_presumed (Open 0 (of_bits 6) ∷ Close 0 255 0 ∷ []) (fresh (table_of 3)))).deliveries ≡ 8
unfolding done all_done journal_cut stepped all_ready blank all_power activated members delivered drained resolved finished all_finished settled
commit_acknowledged = refl

commit_presumed_there : (settled commit_presumed (after_calls commit_presumed (Open 0 (of_bits 6) ∷ Close 0 255 0 ∷ []) (fresh (table_of 3)))).deliveries ≡ 6
unfolding done all_done journal_cut stepped all_ready blank all_power activated members delivered drained resolved finished all_finished settled
commit_presumed_there = refl

-- close, give up, then settle: the other way round
abort_presumed_there : (settled abort_presumed (after_calls abort_presumed (Open 0 (of_bits 6) ∷ Close 0 255 0 ∷ GiveUp 0 255 0 ∷ []) (fresh (table_of 3)))).deliveries ≡ 6
unfolding done all_done journal_cut stepped all_ready blank all_power activated members delivered drained resolved finished all_finished settled
abort_presumed_there = refl

abort_acknowledged : (settled commit_presumed (after_calls commit_presumed (Open 0 (of_bits 6) ∷ Close 0 255 0 ∷ GiveUp 0 255 0 ∷ []) (fresh (table_of 3)))).deliveries ≡ 8
unfolding done all_done journal_cut stepped all_ready blank all_power activated members delivered drained resolved finished all_finished settled
abort_acknowledged = refl
