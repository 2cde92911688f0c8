-- The post: the messages that wait, in posting order.
use Rattle.std.specs.Prelude.{ℕ, ◌+◌, cond, List, [], ◌∷◌, ◌++◌, length, take, drop, nat_lt}
use Rattle.station.specs.declared.messages.Message.{Message}

-- The most messages that can wait.
abbrev pub most_waiting : ℕ
most_waiting = 64

-- A message is posted at the end; it is lost where as many wait as can.
abbrev pub posted : Message → List Message → List Message
posted m ms = cond (nat_lt (length ms) most_waiting) (ms ++ m ∷ []) ms

-- The message at a place is removed.
abbrev pub without : ℕ → List Message → List Message
without i ms = take i ms ++ drop (i + 1) ms
