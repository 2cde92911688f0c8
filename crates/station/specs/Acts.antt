-- The acts of each step, in their order.
use Rattle.std.specs.Prelude.{ℕ, Bool, cond, ◌&&◌, List, [], ◌∷◌, ◌++◌, map}
use Rattle.journal.specs.declared.records.Kind.{Kind}
use Rattle.journal.specs.declared.records.Kind.TheVariants as kind
use Rattle.journal.specs.declared.records.Record.{Record}
use Rattle.presumption.specs.Answers.{Answers}
use Rattle.presumption.specs.declared.outcome.Logging.{Logging}
use Rattle.presumption.specs.declared.outcome.Logging.TheVariants.{NotAtAll, Unforced, Forced}
use Rattle.presumption.specs.declared.outcome.Outcome.{Outcome}
use Rattle.presumption.specs.declared.outcome.Outcome.TheVariants.{Commit, Abort}
use Rattle.station.specs.declared.messages.Message.{Message}
use Rattle.station.specs.declared.messages.MessageKind.{MessageKind}
use Rattle.station.specs.declared.messages.MessageKind.TheVariants as message
use Rattle.station.specs.declared.sets.StationSet.{StationSet}
use Rattle.station.specs.declared.steps.Step.{Step}
use Rattle.station.specs.declared.steps.Step.TheVariants as step
use Rattle.station.specs.Coordinator.{outcome_of}
use Rattle.station.specs.Sets.{bits_of, empty, members}

-- What a station can do: write a record, force its journal, post a message, mark a revision installed or dropped.
pub data Act : Type 0 where
  write : Record → Act
  force : Act
  post : Message → Act
  mark_installed : ℕ → Act
  mark_dropped : ℕ → Act

-- A record of a kind for a revision, with its argument.
abbrev pub line : Kind → ℕ → ℕ → Record
line k r a = record { kind = k; revision = r; argument = a }

-- A message of a kind about revision r from station s to station t.
abbrev pub letter : MessageKind → ℕ → ℕ → ℕ → Message
letter k r s t = record { kind = k; revision = r; sender = s; receiver = t }

-- Posts to each station of a set, ascending.
abbrev pub post_each : MessageKind → ℕ → ℕ → StationSet → List Act
post_each k r s set = map (λ t. post (letter k r s t)) (members set)

-- Acts that are done only if something holds.
abbrev pub if_so : Bool → List Act → List Act
if_so b acts = cond b acts []

-- The message that tells an outcome.
abbrev pub telling : Outcome → MessageKind
telling Commit = message.Commit
telling Abort = message.Abort

-- The subordinate's record of an outcome.
abbrev pub outcome_kind : Outcome → Kind
outcome_kind Commit = kind.Committed
outcome_kind Abort = kind.Aborted

-- The mark of an outcome: installed or dropped.
abbrev pub mark : Outcome → ℕ → Act
mark Commit r = mark_installed r
mark Abort r = mark_dropped r

-- An abort is logged as the presumption says.
abbrev pub logged : Logging → Record → List Act
logged NotAtAll x = []
logged Unforced x = write x ∷ []
logged Forced x = write x ∷ force ∷ []

-- Open the vote: write I and force, if the presumption opens; post PREPARE to the set.
abbrev pub open_vote : Answers → ℕ → ℕ → StationSet → List Act
open_vote π s r set = if_so π.opens (write (line kind.Opening r (bits_of set)) ∷ force ∷ []) ++ post_each message.Prepare r s set

-- Prepare: write p, force, post YES to the sender of PREPARE.
abbrev pub prepare : ℕ → ℕ → ℕ → ℕ → List Act
prepare s r c t = write (line kind.Prepared r c) ∷ force ∷ post (letter message.Yes r s t) ∷ []

-- Decide commit: write C, force, post COMMIT to the set.
abbrev pub commit : ℕ → ℕ → StationSet → List Act
commit s r set = write (line kind.Commit r (bits_of set)) ∷ force ∷ post_each message.Commit r s set

-- Decide abort: log A with the whole set; post ABORT to those told; if aborts are acknowledged and nobody is told, write E.
abbrev pub abort : Answers → ℕ → ℕ → StationSet → StationSet → List Act
abort π s r set told =
    logged π.abort_logging (line kind.Abort r (bits_of set))
    ++ (post_each message.Abort r s told ++ if_so (π.acknowledges Abort && empty told) (write (line kind.End r 0) ∷ []))

-- ACK to station t, if the outcome is acknowledged.
abbrev pub acknowledge : Answers → ℕ → ℕ → Outcome → ℕ → List Act
acknowledge π s r o t = if_so (π.acknowledges o) (post (letter message.Ack r s t) ∷ [])

-- Enforce: mark; write c or a; force if forced; ACK to the coordinator if acknowledged.
abbrev pub enforce : Answers → ℕ → ℕ → Outcome → ℕ → List Act
enforce π s r o c = mark o r ∷ write (line (outcome_kind o) r c) ∷ (if_so (π.forces o) (force ∷ []) ++ acknowledge π s r o c)

-- Reject: mark dropped; write a; force if aborts are forced.
abbrev pub reject : Answers → ℕ → ℕ → List Act
reject π r c = mark_dropped r ∷ write (line kind.Aborted r c) ∷ if_so (π.forces Abort) (force ∷ [])

-- The acts of a step of station s for revision r.
abbrev pub acts : Answers → ℕ → ℕ → Step → List Act
acts π s r step.Rest = []
acts π s r (step.OpenVote set) = open_vote π s r set
acts π s r (step.Prepare c t) = prepare s r c t
acts π s r (step.RepeatYes v t) = post (letter message.Yes r s t) ∷ []
acts π s r (step.VoteNo t) = post (letter message.No r s t) ∷ []
acts π s r (step.DecideCommit set) = commit s r set
acts π s r (step.DecideAbort set told) = abort π s r set told
acts π s r (step.Enforce o c) = enforce π s r o c
acts π s r (step.Acknowledge o t) = acknowledge π s r o t
acts π s r step.End = write (line kind.End r 0) ∷ []
acts π s r (step.Tell k t) = post (letter (telling (outcome_of k)) r s t) ∷ []
acts π s r (step.Chase k w) = post_each (telling (outcome_of k)) r s w
acts π s r (step.Inquire c) = post (letter message.Inquiry r s c) ∷ []
acts π s r (step.Reject c) = reject π r c
