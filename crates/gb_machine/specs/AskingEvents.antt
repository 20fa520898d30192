-- The events that ask requests of the application processor.
use Rattle.std.specs.Prelude.{Bool, true, false}
use Rattle.gb_base.specs.declared.event.Event.{Event}
use Rattle.gb_base.specs.declared.event.Event.TheVariants as event

-- An event asks a request of the application processor: it is a send or a bridge line.
abbrev pub asks : Event → Bool
asks (event.Send name to kind payload timeout) = true
asks (event.Bridge name i c what) = true
asks _ = false
