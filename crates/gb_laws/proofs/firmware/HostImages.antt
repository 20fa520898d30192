-- The images of the application processor behind a single change.
use Rattle.std.proofs.Common.{Bool, List, None, Option, Some, ap, cond, false, refl, subst, sym}
use Rattle.std.proofs.Common.{true, ℕ, ◌∙◌, ◌≡◌}
use Rattle.std.specs.Prelude.{Err, Ok, Result, ◌==◌}
use Rattle.gb_base.specs.declared.event.Event.TheVariants as event
use Rattle.gb_base.specs.declared.interface.Link.{Link}
use Rattle.gb_base.specs.declared.steps.Purpose.{Purpose}
use Rattle.gb_formats.specs.FirmwareRecords.{read_firmware_ask}
use Rattle.gb_formats.specs.GpioRecords.{GpioAsk, read_gpio_ask_of_module}
use Rattle.gb_formats.specs.Images.{Images, image_of, images_step, lent_tag, with_image}
use Rattle.gb_formats.specs.Records.{PayloadFault}
use Rattle.gb_formats.specs.SvcRecords.{read_svc_ask_of_svc}
use Rattle.gb_formats.specs.UartDevice.{credits_added}
use Rattle.gb_formats.specs.UartRecords.{UartAsk, read_uart_ask_of_module}
use Rattle.gb_machine.specs.Failures.{unsent}
use Rattle.gb_machine.specs.Host.{Host, link_of, with_interface, with_link}
use Rattle.gb_machine.specs.HostActs.{with_awaited}
use Rattle.gb_machine.specs.HostServing.{HostServed, credited, host_refuses, host_serves}
use Rattle.gb_machine.specs.HostServing.{interrupted, served_on, serves_firmware, serves_gpio}
use Rattle.gb_machine.specs.HostServing.{serves_uart, uart_notified_by}
use Rattle.gb_machine.specs.HostTurns.{links_of}
use Rattle.gb_machine.specs.Runs.{Moment}
use Rattle.gb_machine.specs.SequenceSteps.{is_enumeration}
use Rattle.gb_machine.specs.Serving.{protocol_bad}
use Rattle.gb_machine.specs.State.{State}
use Rattle.gb_machine.specs.Waits.{waiting}
use Rattle.gb_invariants.proofs.HostChanges.{waiting-by}
use Rattle.gb_invariants.proofs.HostChanges.{HostChange, HostEnd, Notice, Occasion, TurnLaw}
use Rattle.gb_invariants.proofs.HostChanges.{at_notice, at_unsent, end_of, host_after, turn_of}
use Rattle.gb_invariants.proofs.Lists.{found-in}
use Rattle.gb_invariants.proofs.Outcomes.{same-number}
use Rattle.gb_invariants.proofs.OverFailures.{over-unsent}
use Rattle.gb_invariants.proofs.OverTurns.{over-turn}
use Rattle.gb_laws.proofs.firmware.ImageFacts.{Fewer, Steps, all-fewer, forgotten-fewer, same-fewer}
use Rattle.gb_laws.proofs.firmware.ImageFacts.{steps-read, then-fewer}
use Rattle.gb_laws.proofs.links.LinkActs.{awaited-host}
use Rattle.gb_laws.proofs.links.LinkActs.{svc-host}
use Rattle.gb_laws.proofs.points.PointParts.{Point}
use Rattle.gb_laws.proofs.points.Points.{Change, IsServed, acts_asked, acts_failed, changed, gives}
use Rattle.gb_laws.proofs.points.Points.{serves, turns}

-- ---- turns

fewer-change : (x : HostChange) (h : Host) → Fewer h.images (host_after x h).images
fewer-change (HostChange.departs i) h = all-fewer (links_of i h) h.images
fewer-change (HostChange.closes i c l) h = forgotten-fewer l.connection h.images
fewer-change (HostChange.resumes p) h =
    same-fewer h.images (waiting None p h).images (waiting-images p (is_enumeration p.step))
  where
    waiting-images : (p : Purpose) (t : Bool)
        → (cond t (with_interface p.intf (λ x. record x { awaits = None }) h)
        (with_link p.intf p.cport (λ l. record l { awaits = None }) h)).images ≡ h.images
    waiting-images p true = refl
    waiting-images p false = refl
fewer-change x h = same-fewer h.images (host_after x h).images refl

fewer-end : (x : HostEnd) (h : Host) → Fewer h.images (end_of x h).host.images
fewer-end HostEnd.rests h = same-fewer h.images h.images refl
fewer-end x h = same-fewer h.images (end_of x h).host.images refl

abbrev fewer_law : (o : Occasion) → TurnLaw o
fewer_law o = record {
  says = λ h t. Fewer h.images t.host.images;
  ends = λ x h last. fewer-end x h;
  over = λ x h t finds why s. then-fewer (fewer-change x h) s;
}

turn-fewer : (e : Notice) (h : Host) → Fewer h.images (turn_of e h).host.images
turn-fewer e h = over-turn e h (fewer_law (at_notice e h))

unsent-fewer : (p : Purpose) (h : Host) → Fewer h.images (unsent p h).host.images
unsent-fewer p h = over-unsent p h (fewer_law (at_unsent p h))

awaited-images : (p : Purpose) (n : ℕ) (s : State)
    → (with_awaited p n s).host.images ≡ s.host.images
awaited-images p n s = ap (λ (h : Host). h.images) (awaited-host p n s)
    ∙ waiting-by (λ h. h.images ≡ s.host.images) (Some (n, p.step)) p s.host (λ e. refl) (λ e. refl)

-- ---- what is served

-- the images stay
abbrev Same : Host → HostServed → Type 0
Same h r = r.host.images ≡ h.images

gpio-images : (h : Host) (l : Link) (r : Result GpioAsk PayloadFault) → Same h (interrupted l r h)
gpio-images h l (Err fault) = refl
gpio-images h l (Ok (GpioAsk.IrqEvent which)) = refl
gpio-images h l (Ok _) = refl

uart-images : (h : Host) (l : Link) (r : Result UartAsk PayloadFault)
    → Same h (uart_notified_by l r h)
uart-images h l (Ok (UartAsk.ReceiveCredits count)) = by (credits_added l.credits count)
  where
    by : (o : Option ℕ) → Same h (credited l o h)
    by None = refl
    by (Some total) = refl
uart-images h l _ = refl

-- A request on connection k changes no more than what is lent there.
pub host-steps : (k kind : ℕ) (payload : List ℕ) (h : Host)
    → Steps k h.images (host_serves k kind payload h).host.images
host-steps k kind payload h = by (link_of k h) refl
  where
    stays : (r : HostServed) → Same h r → Steps k h.images r.host.images
    stays r e = record {
      given = ap (λ (x : Images). x.given) e;
      aside = λ j id other. ap (λ x. lent_tag j id x) e;
    }

    cases : (t : Bool) (x y : HostServed) → Steps k h.images x.host.images
        → Steps k h.images y.host.images → Steps k h.images (cond t x y).host.images
    cases true x y a b = a
    cases false x y a b = b

    by : (o : Option Link) → link_of k h ≡ o
        → Steps k h.images (served_on o kind payload h).host.images
    by None e = stays (served_on None kind payload h)
        (ap (λ (g : Host). g.images) (svc-host h (read_svc_ask_of_svc kind payload)))
    by (Some l) e =
        cases (l.protocol == 0x02) (serves_gpio l kind payload h)
        (cond (l.protocol == 0x04) (serves_uart l kind payload h)
        (cond (l.protocol == 0x17) (serves_firmware l kind payload h)
        (host_refuses protocol_bad h)))
        (stays (serves_gpio l kind payload h)
        (gpio-images h l (read_gpio_ask_of_module kind payload)))
        (cases (l.protocol == 0x04) (serves_uart l kind payload h)
        (cond (l.protocol == 0x17) (serves_firmware l kind payload h)
        (host_refuses protocol_bad h))
        (stays (serves_uart l kind payload h)
        (uart-images h l (read_uart_ask_of_module kind payload)))
        (cases (l.protocol == 0x17) (serves_firmware l kind payload h) (host_refuses protocol_bad h)
        (subst (λ n. Steps k h.images (images_step n kind payload h.images).after) (sym number)
        (steps-read k (read_firmware_ask kind payload) h.images))
        (stays (host_refuses protocol_bad h) refl)))
      where
        number : l.connection ≡ k
        number = same-number l.connection k
            (found-in (λ (x : Link). x.connection == k) h.links l e).1

-- ---- a single change

-- What becomes of images: less is lent, a request is served at this moment, or an image is given.
pub data ImagesFrom (m : Moment) (a : Point) (after : Images) : Type 0 where
  fewer : Fewer a.state.host.images after → ImagesFrom m a after
  stepped : (k kind : ℕ) (payload : List ℕ) → IsServed m k kind payload
      → Steps k a.state.host.images after
      → after ≡ (host_serves k kind payload m.before.host).host.images → ImagesFrom m a after
  added : (tag bytes : List ℕ) → m.event ≡ event.Image tag bytes
      → image_of tag a.state.host.images ≡ None
      → after ≡ with_image tag bytes a.state.host.images → ImagesFrom m a after

pub images-from : (m : Moment) (a : Point) (x : Change m a)
    → ImagesFrom m a (changed m a x).state.host.images
images-from m a (turns e free untouched none cause) = fewer (turn-fewer e a.state.host)
images-from m a (acts_asked q n rest is) = fewer (same-fewer a.state.host.images
    (with_awaited q.purpose n a.state).host.images (awaited-images q.purpose n a.state))
images-from m a (acts_failed q rest is quiet) = fewer (unsent-fewer q.purpose a.state.host)
images-from m a (serves k kind payload at) =
    stepped k kind payload at.1 (host-steps k kind payload a.state.host)
    (ap (λ h. (host_serves k kind payload h).host.images) at.2)
images-from m a (gives tag bytes at none) = added tag bytes at.1 none refl
images-from m a _ = fewer (same-fewer a.state.host.images a.state.host.images refl)
