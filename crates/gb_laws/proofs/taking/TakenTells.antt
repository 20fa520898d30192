-- What the application processor tells of its own is what a message brings about, and what it tells
-- of a message is of the connection on which that came.
use Rattle.std.proofs.Common.{Bool, List, None, Option, Some, ap, cond, false, map, refl, true, ℕ}
use Rattle.std.proofs.Common.{[], ◌∙◌, ◌∷◌, ◌≡◌}
use Rattle.std.specs.Prelude.{Err, Ok, Result, ◌==◌}
use Rattle.gb_base.specs.declared.entry.Entry.{Entry}
use Rattle.gb_base.specs.declared.interface.Link.{Link}
use Rattle.gb_base.specs.declared.steps.Purpose.{Purpose}
use Rattle.gb_base.specs.declared.end.End.TheVariants as end
use Rattle.gb_base.specs.declared.entry.Entry.TheVariants as entry
use Rattle.gb_formats.specs.{GpioRecords.GpioAsk, GpioRecords.read_gpio_ask_of_module}
use Rattle.gb_formats.specs.{Records.PayloadFault, SvcRecords.SvcAsk}
use Rattle.gb_formats.specs.{SvcRecords.read_svc_ask_of_svc, UartDevice.credits_added}
use Rattle.gb_formats.specs.{UartRecords.UartAsk, UartRecords.read_uart_ask_of_module}
use Rattle.gb_machine.specs.Bus.{Bus, Item, Place}
use Rattle.gb_machine.specs.HostServing.{HostServed, credited, host_refuses, interrupted}
use Rattle.gb_machine.specs.HostServing.{notified_by, served_on, serves_firmware, serves_gpio}
use Rattle.gb_machine.specs.HostServing.{serves_uart, uart_notified_by}
use Rattle.gb_machine.specs.HostTurns.{links_left, links_of}
use Rattle.gb_machine.specs.{Failures.unsent, Host.Host, LawsHotPlug.IsToldOf}
use Rattle.gb_machine.specs.{LawsHotPlug.is_consequence, Members.Each, Serving.protocol_bad}
use Rattle.gb_machine.specs.Turns.{Act}
use Rattle.gb_invariants.proofs.HostChanges.{Finds, HostChange, HostEnd, IsOfNone, Occasion}
use Rattle.gb_invariants.proofs.HostChanges.{TurnLaw, acts_by, at_notice, at_unsent, end_of}
use Rattle.gb_invariants.proofs.{Lists.each-append, OverTurns.over-turn, OverFailures.over-unsent}
use Rattle.gb_invariants.proofs.HostChanges.{Notice, turn_of}

-- ---- entries

-- each tells what a message brings about
abbrev pub AreConsequences : List Entry → Type 0
AreConsequences es = Each (λ e. is_consequence e ≡ true) es

-- ---- turns

-- what an act tells is such
abbrev pub TellsConsequence : Act → Type 0
TellsConsequence (Act.Tell e) = is_consequence e ≡ true
TellsConsequence _ = Unit {0}

none-follows : (e : Entry) → IsOfNone e → is_consequence e ≡ true
none-follows (entry.Interface i to) of = refl
none-follows (entry.Manifest i at why) of = refl
none-follows _ of = absurd of

left-follows : (ls : List Link) → Each TellsConsequence (links_left ls)
left-follows [] = tt
left-follows (l ∷ ls) = (tt, (tt, (refl, left-follows ls)))

change-follows : (x : HostChange) (h : Host) → Finds h x → Each TellsConsequence (acts_by x h)
change-follows (HostChange.tells e) h of = (none-follows e of, tt)
change-follows (HostChange.departs i) h finds = left-follows (links_of i h)
change-follows (HostChange.turns_to i c to None) h finds = tt
change-follows (HostChange.turns_to i c to (Some l)) h finds = (refl, tt)
change-follows (HostChange.closes i c l) h finds = (tt, (refl, tt))
change-follows (HostChange.leaves p None) h finds = tt
change-follows (HostChange.leaves p (Some l)) h finds = (tt, (refl, tt))
change-follows _ h finds = tt

end-follows : (x : HostEnd) (h : Host) → Each TellsConsequence (end_of x h).acts
end-follows HostEnd.rests h = tt
end-follows (HostEnd.enumerates p bytes) h = (refl, tt)
end-follows _ h = (tt, tt)

abbrev follows_law : (o : Occasion) → TurnLaw o
follows_law o = record {
  says = λ h t. Each TellsConsequence t.acts;
  ends = λ x h last. end-follows x h;
  over = λ x h t finds why s. each-append TellsConsequence (acts_by x h) t.acts
      (change-follows x h finds) s;
}

-- What the application processor tells at what it takes notice of is such.
pub turn-follows : (e : Notice) (h : Host) → Each TellsConsequence (turn_of e h).acts
turn-follows e h = over-turn e h (follows_law (at_notice e h))

-- and so does what fails where a request can't be made
pub unsent-follows : (p : Purpose) (h : Host) → AreConsequences (unsent p h).told
unsent-follows p h = by (unsent p h).told (over-unsent p h (follows_law (at_unsent p h)))
  where
    by : (es : List Entry) → Each TellsConsequence (map Act.Tell es) → AreConsequences es
    by [] h = tt
    by (e ∷ es) h = (h.0, by es h.1)

-- ---- what is served

-- an entry tells what came on a connection
abbrev Names : Link → Entry → Type 0
Names l (entry.Irq i c line) = (l.intf ≡ i) × (l.cport ≡ c)
Names l (entry.Received i c bytes) = (l.intf ≡ i) × (l.cport ≡ c)
Names l (entry.Serial i c control) = (l.intf ≡ i) × (l.cport ≡ c)
Names l (entry.Credits i c total) = (l.intf ≡ i) × (l.cport ≡ c)
Names l _ = ⊥

-- of the messages that come there it is told so
pub names-told : (p : Place) (item : Item) (b : Bus) (l : Link) (e : Entry)
    → p.connection.peer ≡ end.Module l.intf l.cport → Names l e → IsToldOf p item b e
names-told p item b l (entry.Irq i c line) peer h = peer ∙ ap (λ n. end.Module n l.cport) h.0
    ∙ ap (end.Module i) h.1
names-told p item b l (entry.Received i c bytes) peer h =
    peer ∙ ap (λ n. end.Module n l.cport) h.0 ∙ ap (end.Module i) h.1
names-told p item b l (entry.Serial i c control) peer h =
    peer ∙ ap (λ n. end.Module n l.cport) h.0 ∙ ap (end.Module i) h.1
names-told p item b l (entry.Credits i c total) peer h =
    peer ∙ ap (λ n. end.Module n l.cport) h.0 ∙ ap (end.Module i) h.1
names-told p item b l _ peer h = absurd h

-- what is told, if anything
abbrev pub HeardOf : Link → Option Entry → Type 0
HeardOf l None = Unit {0}
HeardOf l (Some e) = Names l e

-- What is served on the connection of a module tells what came there, and nothing else is noticed.
-- What is served on that of the supervisory controller tells nothing.
abbrev pub HeardBy : Option Link → Host → HostServed → Type 0
HeardBy None h r = (r.told ≡ None) × (r.host ≡ h)
HeardBy (Some l) h r = HeardOf l r.told × (r.notices ≡ None)

heard-if : (l : Link) (h : Host) (t : Bool) (x y : HostServed) → HeardBy (Some l) h x
    → HeardBy (Some l) h y → HeardBy (Some l) h (cond t x y)
heard-if l h true x y p q = p
heard-if l h false x y p q = q

heard-svc : (h : Host) (r : Result SvcAsk PayloadFault) → HeardBy None h (notified_by r h)
heard-svc h (Err fault) = (refl, refl)
heard-svc h (Ok (SvcAsk.ModuleInserted i count flags)) = (refl, refl)
heard-svc h (Ok (SvcAsk.ModuleRemoved i)) = (refl, refl)
heard-svc h _ = (refl, refl)

heard-gpio : (h : Host) (l : Link) (r : Result GpioAsk PayloadFault)
    → HeardBy (Some l) h (interrupted l r h)
heard-gpio h l (Err fault) = (tt, refl)
heard-gpio h l (Ok (GpioAsk.IrqEvent which)) = ((refl, refl), refl)
heard-gpio h l (Ok _) = (tt, refl)

heard-credits : (h : Host) (l : Link) (o : Option ℕ) → HeardBy (Some l) h (credited l o h)
heard-credits h l None = (tt, refl)
heard-credits h l (Some total) = ((refl, refl), refl)

heard-uart : (h : Host) (l : Link) (r : Result UartAsk PayloadFault)
    → HeardBy (Some l) h (uart_notified_by l r h)
heard-uart h l (Err fault) = (tt, refl)
heard-uart h l (Ok (UartAsk.ReceiveData flags bytes)) = ((refl, refl), refl)
heard-uart h l (Ok (UartAsk.SerialState control)) = ((refl, refl), refl)
heard-uart h l (Ok (UartAsk.ReceiveCredits count)) =
    heard-credits h l (credits_added l.credits count)
heard-uart h l (Ok _) = (tt, refl)

pub heard : (o : Option Link) (kind : ℕ) (payload : List ℕ) (h : Host)
    → HeardBy o h (served_on o kind payload h)
heard None kind payload h = heard-svc h (read_svc_ask_of_svc kind payload)
heard (Some l) kind payload h =
    heard-if l h (l.protocol == 0x02) (serves_gpio l kind payload h) _
    (heard-gpio h l (read_gpio_ask_of_module kind payload))
    (heard-if l h (l.protocol == 0x04) (serves_uart l kind payload h) _
    (heard-uart h l (read_uart_ask_of_module kind payload))
    (heard-if l h (l.protocol == 0x17) (serves_firmware l kind payload h)
    (host_refuses protocol_bad h) (tt, refl) (tt, refl)))
