use Rattle.std.proofs.Common.{◌-◌, ◌≤◌, List, ◌++◌, ℕ, length, drop}
use Rattle.gb_formats.specs.Message.{Message}
use Rattle.gb_formats.specs.Wire.{IsStream}
use Rattle.gb_wire.specs.MessageOf.{messages_of}
use Rattle.gb_wire.proofs.division.divide.Given as goal

-- what the bytes from here on are divided into stands behind the messages so far
abbrev pub invariant-loop-message : goal.invariant-loop-message
invariant-loop-message l = record {
  within : l.used ≤ length l.bytes;
  stream : (ms : List Message) (rest : List ℕ)
      → IsStream (drop l.used l.bytes) ms rest
      → IsStream l.bytes (messages_of l.messages ++ ms) rest;
}

abbrev pub decreases-loop-message : goal.decreases-loop-message
decreases-loop-message l = length l.bytes - l.used
