-- A law of runs: the credits of a UART are 4,096, less the bytes that were sent, plus
-- what came back.
use Rattle.std.specs.Prelude.{◌≡◌, ◌≤◌, ℕ, ◌+◌, ◌==◌, Bool, true, false, ◌&&◌, if◌then◌else◌}
use Rattle.std.specs.Prelude.{Option, Some, None, is_none, Result, Ok, List}
use Rattle.std.specs.List.{list_any}
use Rattle.gb_base.specs.declared.end.End.TheVariants as end
use Rattle.gb_base.specs.declared.entry.Entry.{Entry}
use Rattle.gb_base.specs.declared.entry.Entry.TheVariants as entry
use Rattle.gb_base.specs.declared.event.Event.{Event}
use Rattle.gb_base.specs.declared.event.Event.TheVariants as event
use Rattle.gb_base.specs.declared.interface.Link.{Link}
use Rattle.gb_formats.specs.Bridges.{credits_taken}
use Rattle.gb_formats.specs.Records.{PayloadFault}
use Rattle.gb_formats.specs.UartDevice.{most_credits}
use Rattle.gb_formats.specs.UartRecords.{UartAsk, read_uart_ask}
use Rattle.gb_machine.specs.Bus.{Bus, Item, Place, place_of, queue}
use Rattle.gb_machine.specs.Host.{link_at}
use Rattle.gb_machine.specs.Incoming.{Incoming, request_in}
use Rattle.gb_machine.specs.Lists.{first}
use Rattle.gb_machine.specs.Members.{Each, total}
use Rattle.gb_machine.specs.Refusals.{refusal}
use Rattle.gb_machine.specs.Runs.{AreValid, Moment, moments_in, state_by, told_at}

-- ---- what was sent

-- a connection that is there has this number
abbrev pub is_numbered : ℕ → Option Link → Bool
is_numbered k None = false
is_numbered k (Some l) = l.connection == k

-- The bytes of a `uart send` that is done on connection k at a moment.
abbrev pub bytes_sent : ℕ → Moment → Event → ℕ
bytes_sent k m (event.Bridge name i c what) =
    if is_none (refusal m.before m.event) && is_numbered k (link_at i c m.before.host)
    then credits_taken what else 0
bytes_sent k m _ = 0

-- ---- what came back

-- an entry tells credits
abbrev pub is_credits : Entry → Bool
is_credits (entry.Credits i c sum) = true
is_credits _ = false

-- the count of a record of RECEIVE_CREDITS
abbrev pub count_in : Result UartAsk PayloadFault → ℕ
count_in (Ok (UartAsk.ReceiveCredits count)) = count
count_in _ = 0

-- the count of a request
abbrev pub count_of : Option Incoming → ℕ
count_of None = 0
count_of (Some q) = count_in (read_uart_ask q.kind q.payload)

-- the count of an item
abbrev pub count_at : Bus → Option Item → ℕ
count_at b None = 0
count_at b (Some item) = count_of (request_in item b)

-- the count of the front item of a connection, where that has this number
abbrev pub count_on : ℕ → Bus → Option Place → ℕ
count_on k b None = 0
count_on k b (Some p) =
    if p.connection.number == k then count_at b (first (queue p.side p.connection)) else 0

-- The credits that came back on connection k at a moment: those of a RECEIVE_CREDITS that the
-- application processor took with success.
abbrev pub credits_back : ℕ → Moment → Event → ℕ
credits_back k m (event.Deliver (end.Ap a)) =
    if list_any is_credits (told_at m)
    then count_on k m.before.bus (place_of (end.Ap a) m.before.bus.connections) else 0
credits_back k m _ = 0

-- ---- the law

-- how much was sent on connection k
abbrev pub sent_on : ℕ → List Moment → ℕ
sent_on k ms = total (λ m. bytes_sent k m m.event) ms

-- how much came back on connection k
abbrev pub back_on : ℕ → List Moment → ℕ
back_on k ms = total (λ m. credits_back k m m.event) ms

-- The credits of a connection to a UART add up, and are never above the most.
pub record AddUp (ms : List Moment) (l : Link) : Type 0 where
  pub sum : l.credits + sent_on l.connection ms ≡ most_credits + back_on l.connection ms
  pub bound : l.credits ≤ most_credits

-- The credits of every connection to a UART add up over the moments of every run.
abbrev pub CreditsAddUp : Type 0
CreditsAddUp =
    (es : List Event) → AreValid es
    → Each (λ l. l.protocol ≡ 0x04 → AddUp (moments_in es) l) (state_by es).host.links
