-- What a call of a feeder answers.
use Rattle.std.specs.Prelude.{◌≡◌, ℕ, List, ◌++◌, Result, Ok, Err, ⊤}
use Rattle.gb_formats.specs.Message.{Message}
use Rattle.gb_wire.specs.MessageOf.{messages_of}
use Rattle.gb_wire.specs.Streams.{HandedOut, Held, Stopped}
use Rattle.gb_wire.specs.declared.feeder.FeedFault.{FeedFault}
use Rattle.gb_wire.specs.declared.feeder.FeedFault.TheVariants as feed
use Rattle.gb_wire.specs.declared.owned.OwnedMessage.{OwnedMessage}

-- After these bytes came and these messages were handed out before, a call answers so: the next
-- messages, or the fault that stands behind those.
abbrev pub Feeds : List ℕ → List Message → Result (List OwnedMessage) FeedFault → Held → Type 0
Feeds came out (Ok messages) new = HandedOut came (out ++ messages_of messages) new
Feeds came out (Err (feed.Wire fault)) new = HandedOut came out new × (new ≡ Stopped fault)
Feeds came out (Err (feed.Memory refused)) new = ⊤
