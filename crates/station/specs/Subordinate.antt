-- The subordinate's machine: what its entry and a message, or a call, lead to.
use Rattle.std.specs.Prelude.{ℕ, Some, None as Refused, Option}
use Rattle.presumption.specs.declared.outcome.Outcome.TheVariants as outcome
use Rattle.station.specs.declared.messages.MessageKind.{MessageKind}
use Rattle.station.specs.declared.messages.MessageKind.TheVariants as message
use Rattle.station.specs.declared.steps.Step.TheVariants.{Prepare, RepeatYes, VoteNo, Enforce, Acknowledge, Inquire, Reject}
use Rattle.station.specs.declared.subordinate.GivenVote.{GivenVote}
use Rattle.station.specs.declared.subordinate.SubordinateEntry.{SubordinateEntry}
use Rattle.station.specs.declared.subordinate.SubordinateEntry.TheVariants.{None, Active, Prepared}
use Rattle.station.specs.Moves.{Move, move, stay}

-- A vote that was given to a coordinator already.
abbrev pub given : ℕ → GivenVote
given c = record { coordinator = c }

-- PREPARE, answered to its sender: Active prepares, Prepared repeats its YES, none votes NO.
abbrev pub on_prepare : SubordinateEntry → ℕ → Move SubordinateEntry
on_prepare None s = move (VoteNo s) None
on_prepare (Active c) s = move (Prepare c s) (Prepared c)
on_prepare (Prepared c) s = move (RepeatYes (given c) s) (Prepared c)

-- COMMIT: Prepared enforces it, none acknowledges it to the sender.
abbrev pub on_commit : SubordinateEntry → ℕ → Move SubordinateEntry
on_commit None s = move (Acknowledge outcome.Commit s) None
on_commit (Active c) s = stay (Active c)
on_commit (Prepared c) s = move (Enforce outcome.Commit c) None

-- ABORT: Active and Prepared enforce it, none acknowledges it to the sender.
abbrev pub on_abort : SubordinateEntry → ℕ → Move SubordinateEntry
on_abort None s = move (Acknowledge outcome.Abort s) None
on_abort (Active c) s = move (Enforce outcome.Abort c) None
on_abort (Prepared c) s = move (Enforce outcome.Abort c) None

-- What a message of a kind from a station leads to.
abbrev pub subordinate_move : SubordinateEntry → MessageKind → ℕ → Move SubordinateEntry
subordinate_move e message.Prepare s = on_prepare e s
subordinate_move e message.Commit s = on_commit e s
subordinate_move e message.Abort s = on_abort e s
subordinate_move e k s = stay e

-- Reject, from Active.
abbrev pub reject_move : SubordinateEntry → Option (Move SubordinateEntry)
reject_move (Active c) = Some (move (Reject c) None)
reject_move e = Refused

-- Inquire, from Prepared.
abbrev pub inquire_move : SubordinateEntry → Option (Move SubordinateEntry)
inquire_move (Prepared c) = Some (move (Inquire c) (Prepared c))
inquire_move e = Refused
