-- The application processor as responder.
use Rattle.std.specs.Prelude.{ℕ, ◌==◌, if◌then◌else◌, Option, Some, None, Result, Ok, Err, List}
use Rattle.gb_base.specs.declared.entry.Entry.{Entry}
use Rattle.gb_base.specs.declared.entry.Entry.TheVariants as entry
use Rattle.gb_base.specs.declared.host_event.HostEvent.TheVariants as host_event
use Rattle.gb_base.specs.declared.host_event.HostEvent.{HostEvent}
use Rattle.gb_base.specs.declared.interface.Link.{Link}
use Rattle.gb_formats.specs.GpioRecords.{GpioAsk, read_gpio_ask_of_module}
use Rattle.gb_formats.specs.Images.{Images, images_step}
use Rattle.gb_formats.specs.Records.{PayloadFault}
use Rattle.gb_formats.specs.Results.{Step, fault_result}
use Rattle.gb_formats.specs.SvcRecords.{SvcAsk, SvcReply, read_svc_ask_of_svc, svc_reply_payload}
use Rattle.gb_formats.specs.UartDevice.{credits_added}
use Rattle.gb_formats.specs.UartRecords.{UartAsk, read_uart_ask_of_module}
use Rattle.gb_machine.specs.Host.{Host, link_of, with_link}
use Rattle.gb_machine.specs.Serving.{Answer, answer, invalid, plainly, protocol_bad, success}

-- What it answers, how it is then, what is told behind the reply, and what it takes notice of then.
pub record HostServed : Type 0 where
  pub host : Host
  pub answer : Answer
  pub told : Option Entry
  pub notices : Option HostEvent

-- it stays, and answers
abbrev pub host_answers : Answer → Host → HostServed
host_answers a h = record { host = h; answer = a; told = None; notices = None }

-- it stays, and answers a result alone
abbrev pub host_refuses : ℕ → Host → HostServed
host_refuses result h = host_answers (plainly result) h

-- it stays and answers success, and something is told
abbrev pub host_tells : Entry → Host → HostServed
host_tells e h = record (host_answers (plainly success) h) { told = Some e }

-- it stays and answers success, and takes notice of something
abbrev pub host_notices : HostEvent → Host → HostServed
host_notices e h = record (host_answers (plainly success) h) { notices = Some e }

-- ---- the supervisory controller's requests

-- its version is 0, 1
abbrev pub host_version : Answer
host_version = answer success (svc_reply_payload (SvcReply.ProtocolVersion 0 1))

-- what each request does
abbrev pub notified : SvcAsk → Host → HostServed
notified (SvcAsk.ProtocolVersion major minor) h = host_answers host_version h
notified (SvcAsk.Hello endo intf) h = host_answers (plainly success) h
notified (SvcAsk.ModuleInserted p count flags) h = host_notices (host_event.Inserted p count) h
notified (SvcAsk.ModuleRemoved p) h = host_notices (host_event.Removed p) h
notified _ h = host_refuses protocol_bad h

-- a request by its payload
abbrev pub notified_by : Result SvcAsk PayloadFault → Host → HostServed
notified_by (Ok ask) h = notified ask h
notified_by (Err fault) h = host_refuses (fault_result fault) h

-- A request of the supervisory controller.
abbrev pub serves_svc : ℕ → List ℕ → Host → HostServed
serves_svc kind payload h = notified_by (read_svc_ask_of_svc kind payload) h

-- ---- requests of bridged CPorts

-- an interrupt of a GPIO line
abbrev pub interrupted : Link → Result GpioAsk PayloadFault → Host → HostServed
interrupted l (Ok (GpioAsk.IrqEvent which)) h = host_tells (entry.Irq l.intf l.cport which) h
interrupted l (Ok _) h = host_refuses protocol_bad h
interrupted l (Err fault) h = host_refuses (fault_result fault) h

-- A request of a GPIO.
abbrev pub serves_gpio : Link → ℕ → List ℕ → Host → HostServed
serves_gpio l kind payload h = interrupted l (read_gpio_ask_of_module kind payload) h

-- a connection has so many credits
abbrev pub with_credits : ℕ → Link → Link
with_credits total l = record l { credits = total }

-- credits come back, unless they would be too many
abbrev pub credited : Link → Option ℕ → Host → HostServed
credited l None h = host_refuses invalid h
credited l (Some total) h =
    host_tells (entry.Credits l.intf l.cport total)
    (with_link l.intf l.cport (with_credits total) h)

-- what each request does
abbrev pub uart_notified : Link → UartAsk → Host → HostServed
uart_notified l (UartAsk.ReceiveData flags bytes) h =
    host_tells (entry.Received l.intf l.cport bytes) h
uart_notified l (UartAsk.SerialState control) h =
    host_tells (entry.Serial l.intf l.cport control) h
uart_notified l (UartAsk.ReceiveCredits count) h = credited l (credits_added l.credits count) h
uart_notified l _ h = host_refuses protocol_bad h

-- a request by its payload
abbrev pub uart_notified_by : Link → Result UartAsk PayloadFault → Host → HostServed
uart_notified_by l (Ok ask) h = uart_notified l ask h
uart_notified_by l (Err fault) h = host_refuses (fault_result fault) h

-- A request of a UART.
abbrev pub serves_uart : Link → ℕ → List ℕ → Host → HostServed
serves_uart l kind payload h = uart_notified_by l (read_uart_ask_of_module kind payload) h

-- ---- requests of firmware devices

-- it answers, and other ids are in use
abbrev pub images_served : Step Images → Host → HostServed
images_served step h =
    host_answers (answer step.served.result step.served.payload)
    (record h { images = step.after })

-- A request of a firmware device.
abbrev pub serves_firmware : Link → ℕ → List ℕ → Host → HostServed
serves_firmware l kind payload h =
    images_served (images_step l.connection kind payload h.images) h

-- ---- all requests

-- a request on a connection to a module, or on that of the supervisory controller
abbrev pub served_on : Option Link → ℕ → List ℕ → Host → HostServed
served_on None kind payload h = serves_svc kind payload h
served_on (Some l) kind payload h =
    if l.protocol == 0x02 then serves_gpio l kind payload h
    else if l.protocol == 0x04 then serves_uart l kind payload h
    else if l.protocol == 0x17 then serves_firmware l kind payload h
    else host_refuses protocol_bad h

-- What the application processor answers to a request on a connection. The Control, I2C, SPI and
-- Loopback CPorts of modules have no requests to it.
abbrev pub host_serves : ℕ → ℕ → List ℕ → Host → HostServed
host_serves k kind payload h = served_on (link_of k h) kind payload h
