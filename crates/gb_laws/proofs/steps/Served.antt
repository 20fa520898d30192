-- What the application processor may serve: it takes notice of an insertion or a removal and stays
-- as it is, or of nothing, and what it tells is quiet.
use Rattle.std.proofs.Common.{Bool, List, None, Option, Some, cond, false, refl, true, ℕ, ◌≡◌}
use Rattle.std.specs.Prelude.{Err, Ok, Result, ◌==◌}
use Rattle.gb_base.specs.declared.entry.Entry.{Entry}
use Rattle.gb_base.specs.declared.host_event.HostEvent.TheVariants as host_event
use Rattle.gb_base.specs.declared.interface.Link.{Link}
use Rattle.gb_formats.specs.{GpioRecords.GpioAsk, GpioRecords.read_gpio_ask_of_module}
use Rattle.gb_formats.specs.{Records.PayloadFault, SvcRecords.SvcAsk}
use Rattle.gb_formats.specs.{SvcRecords.read_svc_ask_of_svc, UartDevice.credits_added}
use Rattle.gb_formats.specs.{UartRecords.UartAsk, UartRecords.read_uart_ask_of_module}
use Rattle.gb_machine.specs.HostServing.{HostServed, credited, host_refuses, host_serves}
use Rattle.gb_machine.specs.HostServing.{interrupted, notified_by, served_on}
use Rattle.gb_machine.specs.HostServing.{uart_notified_by}
use Rattle.gb_machine.specs.{Host.Host, Host.link_of}
use Rattle.gb_laws.proofs.points.PointParts.{is_silent}

-- what is told, if anything, is quiet
abbrev pub IsQuietly : Option Entry → Type 0
IsQuietly None = Unit {0}
IsQuietly (Some e) = is_silent e ≡ true

-- How the application processor serves a request.
pub data ServedAs (h : Host) (r : HostServed) : Type 0 where
  plainly : IsQuietly r.told → r.notices ≡ None → ServedAs h r
  inserting : (p count : ℕ) → r.host ≡ h → r.told ≡ None
      → r.notices ≡ Some (host_event.Inserted p count) → ServedAs h r
  removing : (p : ℕ) → r.host ≡ h → r.told ≡ None → r.notices ≡ Some (host_event.Removed p)
      → ServedAs h r

-- one of two
served-if : (h : Host) (b : Bool) {x y : HostServed} → ServedAs h x → ServedAs h y
    → ServedAs h (cond b x y)
served-if h true p q = p
served-if h false p q = q

refused : (h : Host) (result : ℕ) → ServedAs h (host_refuses result h)
refused h result = plainly tt refl

served-svc : (h : Host) (r : Result SvcAsk PayloadFault) → ServedAs h (notified_by r h)
served-svc h (Err fault) = refused h _
served-svc h (Ok (SvcAsk.ModuleInserted p count flags)) = inserting p count refl refl refl
served-svc h (Ok (SvcAsk.ModuleRemoved p)) = removing p refl refl refl
served-svc h _ = plainly tt refl

served-gpio : (h : Host) (l : Link) (r : Result GpioAsk PayloadFault)
    → ServedAs h (interrupted l r h)
served-gpio h l (Err fault) = refused h _
served-gpio h l (Ok (GpioAsk.IrqEvent which)) = plainly refl refl
served-gpio h l (Ok _) = plainly tt refl

served-credits : (h : Host) (l : Link) (o : Option ℕ) → ServedAs h (credited l o h)
served-credits h l None = refused h _
served-credits h l (Some total) = plainly refl refl

served-uart : (h : Host) (l : Link) (r : Result UartAsk PayloadFault)
    → ServedAs h (uart_notified_by l r h)
served-uart h l (Err fault) = refused h _
served-uart h l (Ok (UartAsk.ReceiveData flags bytes)) = plainly refl refl
served-uart h l (Ok (UartAsk.SerialState control)) = plainly refl refl
served-uart h l (Ok (UartAsk.ReceiveCredits count)) =
    served-credits h l (credits_added l.credits count)
served-uart h l (Ok _) = plainly tt refl

pub served : (k kind : ℕ) (payload : List ℕ) (h : Host) → ServedAs h (host_serves k kind payload h)
served k kind payload h = by (link_of k h)
  where
    by : (o : Option Link) → ServedAs h (served_on o kind payload h)
    by None = served-svc h (read_svc_ask_of_svc kind payload)
    by (Some l) =
        served-if h (l.protocol == 0x02) (served-gpio h l (read_gpio_ask_of_module kind payload))
        (served-if h (l.protocol == 0x04)
        (served-uart h l (read_uart_ask_of_module kind payload))
        (served-if h (l.protocol == 0x17) (plainly tt refl) (refused h _)))
