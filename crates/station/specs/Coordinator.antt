-- The coordinator's machine: what its entry and a message, or a call, lead to.
use Rattle.std.specs.Prelude.{ℕ, cond, Some, None as Refused, Option, ◌==◌}
use Rattle.presumption.specs.Answers.{Answers}
use Rattle.presumption.specs.declared.outcome.Outcome.{Outcome}
use Rattle.presumption.specs.declared.outcome.Outcome.TheVariants as outcome
use Rattle.station.specs.declared.coordinator.CoordinatorEntry.{CoordinatorEntry}
use Rattle.station.specs.declared.coordinator.CoordinatorEntry.TheVariants.{None, Open, Collecting, Announcing}
use Rattle.station.specs.declared.coordinator.KnownOutcome.{KnownOutcome}
use Rattle.station.specs.declared.messages.MessageKind.{MessageKind}
use Rattle.station.specs.declared.messages.MessageKind.TheVariants.{Yes, No, Ack, Inquiry}
use Rattle.station.specs.declared.sets.StationSet.{StationSet}
use Rattle.station.specs.declared.steps.Step.TheVariants.{OpenVote, DecideCommit, DecideAbort, End, Tell, Chase}
use Rattle.station.specs.Moves.{Move, move, stay}
use Rattle.station.specs.Sets.{of_bits, holds, empty, with_station, without_station, without_set}

-- Acknowledgements are awaited from a set, if subordinates acknowledge the outcome.
abbrev pub announcing : Answers → Outcome → StationSet → CoordinatorEntry
announcing π o w = cond (π.acknowledges o) (Announcing o w) None

-- Decide commit: the whole set is told, and awaited where commits are acknowledged.
abbrev pub decide_commit : Answers → StationSet → Move CoordinatorEntry
decide_commit π set = move (DecideCommit set) (announcing π outcome.Commit set)

-- An abort is decided and some are told: they are awaited where aborts are acknowledged.
abbrev pub aborting : Answers → StationSet → CoordinatorEntry
aborting π told = cond (empty told) None (announcing π outcome.Abort told)

-- Decide abort for a set, of which some are told.
abbrev pub decide_abort : Answers → StationSet → StationSet → Move CoordinatorEntry
decide_abort π set told = move (DecideAbort set told) (aborting π told)

-- So many have voted YES: when they are the whole set, decide commit.
abbrev pub counted : Answers → StationSet → StationSet → Move CoordinatorEntry
counted π set voters = cond (voters.bits == set.bits) (decide_commit π set) (stay (Collecting set voters))

-- YES at Collecting, from the set: the sender joins the voters.
abbrev pub on_yes : Answers → CoordinatorEntry → ℕ → Move CoordinatorEntry
on_yes π (Collecting set voters) s = cond (holds set s) (counted π set (with_station voters s)) (stay (Collecting set voters))
on_yes π e s = stay e

-- NO at Collecting, from the set: decide abort for the set without the sender.
abbrev pub on_no : Answers → CoordinatorEntry → ℕ → Move CoordinatorEntry
on_no π (Collecting set voters) s = cond (holds set s) (decide_abort π set (without_station set s)) (stay (Collecting set voters))
on_no π e s = stay e

-- These are still awaited: when nobody is, the coordinator ends and forgets.
abbrev pub awaiting : Outcome → StationSet → Move CoordinatorEntry
awaiting o w = cond (empty w) (move End None) (stay (Announcing o w))

-- ACK at Announcing, from an awaited station: it is awaited no longer.
abbrev pub on_ack : CoordinatorEntry → ℕ → Move CoordinatorEntry
on_ack (Announcing o w) s = cond (holds w s) (awaiting o (without_station w s)) (stay (Announcing o w))
on_ack e s = stay e

-- An outcome that is decided, or presumed.
abbrev pub known : Outcome → KnownOutcome
known o = record { outcome = o }

-- Which outcome it is.
abbrev pub outcome_of : KnownOutcome → Outcome
outcome_of k = k.outcome

-- INQUIRY: Announcing tells its outcome, none tells the presumed one.
abbrev pub on_inquiry : Answers → CoordinatorEntry → ℕ → Move CoordinatorEntry
on_inquiry π None s = move (Tell (known π.presumed) s) None
on_inquiry π (Announcing o w) s = move (Tell (known o) s) (Announcing o w)
on_inquiry π e s = stay e

-- What a message of a kind from a station leads to.
abbrev pub coordinator_move : Answers → CoordinatorEntry → MessageKind → ℕ → Move CoordinatorEntry
coordinator_move π e Yes s = on_yes π e s
coordinator_move π e No s = on_no π e s
coordinator_move π e Ack s = on_ack e s
coordinator_move π e Inquiry s = on_inquiry π e s
coordinator_move π e k s = stay e

-- Close, from Open: the vote is opened, nobody has voted.
abbrev pub close_move : CoordinatorEntry → Option (Move CoordinatorEntry)
close_move (Open set) = Some (move (OpenVote set) (Collecting set (of_bits 0)))
close_move e = Refused

-- Give up, from Open or Collecting: decide abort, and tell the whole set.
abbrev pub give_up_move : Answers → CoordinatorEntry → Option (Move CoordinatorEntry)
give_up_move π (Open set) = Some (decide_abort π set set)
give_up_move π (Collecting set voters) = Some (decide_abort π set set)
give_up_move π e = Refused

-- Chase, from Announcing: the outcome goes to those awaited once more.
abbrev pub chase_move : CoordinatorEntry → Option (Move CoordinatorEntry)
chase_move (Announcing o w) = Some (move (Chase (known o) w) (Announcing o w))
chase_move e = Refused

-- Whom the coordinator has not heard from: those that have not voted YES, or have not acknowledged.
abbrev pub unheard : CoordinatorEntry → StationSet
unheard (Collecting set voters) = without_set set voters
unheard (Announcing o w) = w
unheard e = of_bits 0
