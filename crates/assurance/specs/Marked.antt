-- Marked runs: short lists of calls, each with what the definitions of the calls must give.
use Rattle.std.specs.Prelude.{◌≡◌, Bool, true, false, List, [], ◌∷◌, map}
use Rattle.std.specs.List.{AllByRecursion}
use Rattle.actor.specs.Log.{row_at}
use Rattle.journal.specs.Tables.{table_of}
use Rattle.presumption.specs.Answers.{Answers, abort_presumed, commit_presumed}
use Rattle.run.specs.Answers.{Answer, refused, answered}
use Rattle.assurance.specs.declared.calls.Call.{Call}
use Rattle.assurance.specs.declared.calls.Call.TheVariants.{Open, Close, GiveUp, Reject, Inquire, Deliver, Lose, Cut, Restart, Settle, Awaited}
use Rattle.assurance.specs.Lists.{fuse, lasting, after_calls, answers_of}
use Rattle.run.specs.State.{State, fresh}
use Rattle.stations.specs.Stations.{power_at, subordinate_at}
use Rattle.station.specs.Sets.{of_bits}
use Rattle.station.specs.declared.messages.Message.{Message}
use Rattle.station.specs.declared.messages.MessageKind.{MessageKind}
use Rattle.station.specs.declared.messages.MessageKind.TheVariants.{Prepare, Yes}
use Rattle.station.specs.declared.sets.StationSet.{StationSet}
use Rattle.station.specs.declared.subordinate.SubordinateEntry.{SubordinateEntry}
use Rattle.station.specs.declared.subordinate.SubordinateEntry.TheVariants.{None, Prepared}

-- What is seen of a run: the answers, and at the end the stations where revision 0 is installed and where it is
-- dropped, the power of station 1 and its entry for revision 0, and the kinds of the messages that wait.
pub record Seen : Type 0 where
  pub answers : List Answer
  pub installed : StationSet
  pub dropped : StationSet
  pub power : Bool
  pub entry : SubordinateEntry
  pub waiting : List MessageKind

-- A list of calls under a presumption, with what is expected of it.
pub record MarkedRun : Type 0 where
  pub presumption : Answers
  pub calls : List Call
  pub expected : Seen

-- A fresh run over a new table of three stations, where every marked run begins.
abbrev pub begun : State
begun = fresh (table_of 3)

-- What is seen at the end of a run that answered so.
abbrev pub seen_at : List Answer → State → Seen
seen_at xs st =
    record {
      answers = xs;
      installed = (row_at st.store.log 0).installed;
      dropped = (row_at st.store.log 0).dropped;
      power = power_at st.stations 1;
      entry = subordinate_at st.stations 1 0;
      waiting = map (λ (m : Message). m.kind) st.store.post;
    }

-- What the definitions of the calls give.
abbrev pub seen : Answers → List Call → Seen
seen π cs = seen_at (answers_of π cs begun) (after_calls π cs begun)

-- No station.
abbrev pub nobody : StationSet
nobody = of_bits 0

-- The stations 1 and 2.
abbrev pub both : StationSet
both = of_bits 6

-- Station 0 coordinates revision 0 of the stations 1 and 2 in every run. A lasting fuse cuts nobody.
abbrev pub marked_runs : List MarkedRun
marked_runs =
    -- Commit: acknowledged under presumed abort, not under presumed commit.
    record {
      presumption = abort_presumed;
      calls = Open 0 both ∷ Close 0 lasting ∷ Settle ∷ [];
      expected = record { answers = answered 0 ∷ answered 2 ∷ answered 8 ∷ []; installed = both; dropped = nobody; power = true; entry = None; waiting = [] };
    }
    ∷ record {
      presumption = commit_presumed;
      calls = Open 0 both ∷ Close 0 lasting ∷ Settle ∷ [];
      expected = record { answers = answered 0 ∷ answered 4 ∷ answered 6 ∷ []; installed = both; dropped = nobody; power = true; entry = None; waiting = [] };
    }
    -- Abort: the other way round.
    ∷ record {
      presumption = abort_presumed;
      calls = Open 0 both ∷ Close 0 lasting ∷ GiveUp 0 lasting ∷ Settle ∷ [];
      expected = record { answers = answered 0 ∷ answered 2 ∷ answered 3 ∷ answered 6 ∷ []; installed = nobody; dropped = both; power = true; entry = None; waiting = [] };
    }
    ∷ record {
      presumption = commit_presumed;
      calls = Open 0 both ∷ Close 0 lasting ∷ GiveUp 0 lasting ∷ Settle ∷ [];
      expected = record { answers = answered 0 ∷ answered 4 ∷ answered 2 ∷ answered 8 ∷ []; installed = nobody; dropped = both; power = true; entry = None; waiting = [] };
    }
    -- Station 1 is cut after one act of its vote, and nothing is kept: it has not voted.
    ∷ record {
      presumption = abort_presumed;
      calls = Open 0 both ∷ Close 0 lasting ∷ Deliver 0 false (fuse 1 0) ∷ Restart 1 ∷ [];
      expected = record { answers = answered 0 ∷ answered 2 ∷ answered 1 ∷ answered 0 ∷ []; installed = nobody; dropped = nobody; power = true; entry = None; waiting = Prepare ∷ [] };
    }
    ∷ record {
      presumption = commit_presumed;
      calls = Open 0 both ∷ Close 0 lasting ∷ Deliver 0 false (fuse 1 0) ∷ Restart 1 ∷ [];
      expected = record { answers = answered 0 ∷ answered 4 ∷ answered 1 ∷ answered 0 ∷ []; installed = nobody; dropped = nobody; power = true; entry = None; waiting = Prepare ∷ [] };
    }
    -- The same with the record kept: it is in doubt, and its YES was not posted.
    ∷ record {
      presumption = abort_presumed;
      calls = Open 0 both ∷ Close 0 lasting ∷ Deliver 0 false (fuse 1 1) ∷ Restart 1 ∷ [];
      expected = record { answers = answered 0 ∷ answered 2 ∷ answered 1 ∷ answered 0 ∷ []; installed = nobody; dropped = nobody; power = true; entry = Prepared 0; waiting = Prepare ∷ [] };
    }
    ∷ record {
      presumption = commit_presumed;
      calls = Open 0 both ∷ Close 0 lasting ∷ Deliver 0 false (fuse 1 1) ∷ Restart 1 ∷ [];
      expected = record { answers = answered 0 ∷ answered 4 ∷ answered 1 ∷ answered 0 ∷ []; installed = nobody; dropped = nobody; power = true; entry = Prepared 0; waiting = Prepare ∷ [] };
    }
    -- A fuse as long as the step: it is done whole.
    ∷ record {
      presumption = abort_presumed;
      calls = Open 0 both ∷ Close 0 lasting ∷ Deliver 0 false (fuse 3 0) ∷ [];
      expected = record { answers = answered 0 ∷ answered 2 ∷ answered 3 ∷ []; installed = nobody; dropped = nobody; power = true; entry = Prepared 0; waiting = Prepare ∷ Yes ∷ [] };
    }
    ∷ record {
      presumption = commit_presumed;
      calls = Open 0 both ∷ Close 0 lasting ∷ Deliver 0 false (fuse 3 0) ∷ [];
      expected = record { answers = answered 0 ∷ answered 4 ∷ answered 3 ∷ []; installed = nobody; dropped = nobody; power = true; entry = Prepared 0; waiting = Prepare ∷ Yes ∷ [] };
    }
    -- Station 1 loses its record of a commit, is in doubt again, and learns the commit that is presumed.
    ∷ record {
      presumption = commit_presumed;
      calls = Open 0 both ∷ Close 0 lasting ∷ Settle ∷ Cut 1 0 ∷ Restart 1 ∷ Settle ∷ [];
      expected = record { answers = answered 0 ∷ answered 4 ∷ answered 6 ∷ answered 0 ∷ answered 0 ∷ answered 2 ∷ []; installed = both; dropped = nobody; power = true; entry = None; waiting = [] };
    }
    -- The opening record is stable before PREPARE leaves: a coordinator cut in between drops what one station voted for.
    ∷ record {
      presumption = commit_presumed;
      calls = Open 0 both ∷ Close 0 (fuse 3 0) ∷ Deliver 0 false lasting ∷ Reject 0 2 lasting ∷ Restart 0 ∷ Settle ∷ [];
      expected = record { answers = answered 0 ∷ answered 3 ∷ answered 3 ∷ answered 3 ∷ answered 0 ∷ answered 5 ∷ []; installed = nobody; dropped = both; power = true; entry = None; waiting = [] };
    }
    -- p is stable before YES leaves: a station cut in between is in doubt, and its vote is missing.
    ∷ record {
      presumption = abort_presumed;
      calls = Open 0 both ∷ Close 0 lasting ∷ Deliver 0 false (fuse 2 0) ∷ Restart 1 ∷ Settle ∷ [];
      expected = record { answers = answered 0 ∷ answered 2 ∷ answered 2 ∷ answered 0 ∷ answered 4 ∷ []; installed = nobody; dropped = both; power = true; entry = None; waiting = [] };
    }
    -- The mark comes before c: a station cut in between is told again, and has installed.
    ∷ record {
      presumption = abort_presumed;
      calls = Open 0 both ∷ Close 0 lasting ∷ Deliver 0 false lasting ∷ Deliver 0 false lasting ∷ Deliver 0 false lasting ∷ Deliver 0 false lasting ∷ Deliver 0 false (fuse 1 1) ∷ Restart 1 ∷ Settle ∷ [];
      expected = record { answers = answered 0 ∷ answered 2 ∷ answered 3 ∷ answered 3 ∷ answered 0 ∷ answered 4 ∷ answered 1 ∷ answered 0 ∷ answered 4 ∷ []; installed = both; dropped = nobody; power = true; entry = None; waiting = [] };
    }
    -- A COMMIT that is presumed for a late inquiry about a forgotten abort installs nothing.
    ∷ record {
      presumption = commit_presumed;
      calls = Open 0 both ∷ Close 0 lasting ∷ Deliver 0 false lasting ∷ Inquire 0 1 lasting ∷ GiveUp 0 lasting ∷ Deliver 3 false lasting ∷ Deliver 3 false lasting ∷ Deliver 3 false lasting ∷ Deliver 3 false lasting ∷ Settle ∷ [];
      expected = record { answers = answered 0 ∷ answered 4 ∷ answered 3 ∷ answered 1 ∷ answered 2 ∷ answered 4 ∷ answered 4 ∷ answered 0 ∷ answered 1 ∷ answered 5 ∷ []; installed = nobody; dropped = both; power = true; entry = None; waiting = [] };
    }
    -- The coordinator forgets only after the last ACK: a COMMIT that was lost is told again.
    ∷ record {
      presumption = abort_presumed;
      calls = Open 0 both ∷ Close 0 lasting ∷ Deliver 0 false lasting ∷ Deliver 0 false lasting ∷ Deliver 0 false lasting ∷ Deliver 0 false lasting ∷ Deliver 0 false lasting ∷ Deliver 1 false lasting ∷ Lose 0 ∷ Settle ∷ [];
      expected = record { answers = answered 0 ∷ answered 2 ∷ answered 3 ∷ answered 3 ∷ answered 0 ∷ answered 4 ∷ answered 4 ∷ answered 0 ∷ answered 0 ∷ answered 2 ∷ []; installed = both; dropped = nobody; power = true; entry = None; waiting = [] };
    }
    -- The record of an acknowledged outcome is forced: a station cut afterwards is not in doubt.
    ∷ record {
      presumption = abort_presumed;
      calls = Open 0 both ∷ Close 0 lasting ∷ Settle ∷ Cut 1 0 ∷ Restart 1 ∷ Settle ∷ [];
      expected = record { answers = answered 0 ∷ answered 2 ∷ answered 8 ∷ answered 0 ∷ answered 0 ∷ answered 0 ∷ []; installed = both; dropped = nobody; power = true; entry = None; waiting = [] };
    }
    -- Refused calls among the others, and whom the coordinator awaits.
    ∷ record {
      presumption = abort_presumed;
      calls = Awaited 0 ∷ Open 0 nobody ∷ Deliver 0 false lasting ∷ Open 0 both ∷ Close 0 lasting ∷ Close 0 lasting ∷ Restart 1 ∷ Awaited 0 ∷ Deliver 0 false lasting ∷ Deliver 1 false lasting ∷ Awaited 0 ∷ Cut 1 0 ∷ Settle ∷ Restart 1 ∷ Settle ∷ [];
      expected = record { answers = refused 3 ∷ refused 2 ∷ refused 7 ∷ answered 0 ∷ answered 2 ∷ refused 6 ∷ refused 8 ∷ answered 2 ∷ answered 3 ∷ answered 0 ∷ answered 1 ∷ answered 0 ∷ refused 4 ∷ answered 0 ∷ answered 6 ∷ []; installed = both; dropped = nobody; power = true; entry = None; waiting = [] };
    }
    ∷ []

-- A run is as marked.
abbrev pub AsMarked : MarkedRun → Type 0
AsMarked x = seen x.presumption x.calls ≡ x.expected

-- Every marked run is.
abbrev pub AllAsMarked : Type 0
AllAsMarked = AllByRecursion AsMarked marked_runs
