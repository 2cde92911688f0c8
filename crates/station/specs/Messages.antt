-- Who hears a message.
use Rattle.std.specs.Prelude.{Bool, true, false}
use Rattle.station.specs.declared.messages.MessageKind.{MessageKind}
use Rattle.station.specs.declared.messages.MessageKind.TheVariants.{Prepare, Yes, No, Commit, Abort, Ack, Inquiry}

-- PREPARE, COMMIT and ABORT go to a subordinate; YES, NO, ACK and INQUIRY to the coordinator.
abbrev pub for_subordinate : MessageKind → Bool
for_subordinate Prepare = true
for_subordinate Yes = false
for_subordinate No = false
for_subordinate Commit = true
for_subordinate Abort = true
for_subordinate Ack = false
for_subordinate Inquiry = false
