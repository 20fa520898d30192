-- The facts of the application processor's connections go over its acts, and over what it serves.
use Rattle.std.proofs.Common.{Bool, List, None, Option, Some, ap, cond, false, inl, inr, map, refl}
use Rattle.std.proofs.Common.{subst, sym, true, ℕ, ⊎_elim, [], ◌∙◌, ◌∷◌, ◌≡◌, ◌⊎◌}
use Rattle.std.specs.Prelude.{Err, Ok, Result, ◌==◌}
use Rattle.gb_base.specs.declared.entry.Entry.{Entry}
use Rattle.gb_base.specs.declared.interface.{Interface.Interface, Link.Link}
use Rattle.gb_base.specs.declared.steps.{Purpose.Purpose, SequenceStep.SequenceStep}
use Rattle.gb_formats.specs.{GpioRecords.GpioAsk, GpioRecords.read_gpio_ask_of_module}
use Rattle.gb_formats.specs.{Images.Images, Images.images_step}
use Rattle.gb_formats.specs.{Records.PayloadFault, SvcRecords.SvcAsk}
use Rattle.gb_formats.specs.{SvcRecords.read_svc_ask_of_svc, UartDevice.credits_added}
use Rattle.gb_formats.specs.{UartRecords.UartAsk, UartRecords.read_uart_ask_of_module}
use Rattle.gb_machine.specs.Failures.{unsent}
use Rattle.gb_machine.specs.Host.{Host, is_intf, link_at, link_of}
use Rattle.gb_machine.specs.Host.{with_link}
use Rattle.gb_machine.specs.HostServing.{HostServed, credited, host_serves, interrupted}
use Rattle.gb_machine.specs.HostServing.{notified_by, served_on, uart_notified_by, with_credits}
use Rattle.gb_machine.specs.Turns.{Act, Asking, failed_turn}
use Rattle.gb_machine.specs.{Bus.Bus, Bus.Connection, HostActs.made_for, HostActs.with_awaited}
use Rattle.gb_machine.specs.{Members.IsIn, SequenceSteps.is_enumeration}
use Rattle.gb_machine.specs.{SequenceSteps.is_for_connection, State.State, Waits.awaits}
use Rattle.gb_invariants.proofs.HostChanges.{interface_awaits, link_awaits, waiting-by}
use Rattle.gb_invariants.proofs.{Awaiting.not-both, Awaiting.same-some, HostChanges.is_creating}
use Rattle.gb_invariants.proofs.{Lists.in-at_first}
use Rattle.gb_invariants.proofs.{Outcomes.same-number}
use Rattle.gb_laws.proofs.links.LinkHosts.{Stay, awaits-link, credits-link, host-images}
use Rattle.gb_laws.proofs.links.LinkHosts.{host-interface, host-link, stay-changed, stay-same}
use Rattle.gb_laws.proofs.links.LinkDue.{making-creates}
use Rattle.gb_laws.proofs.links.LinkTurns.{unsent-fits}
use Rattle.gb_laws.proofs.links.LinkFits.{TurnFits}
use Rattle.gb_laws.proofs.links.Links.{ArePending}
use Rattle.gb_laws.proofs.links.Links.{HasNoControl, HostFits, IsAtStep, IsDue, IsDueBy, IsFollowed}
use Rattle.gb_laws.proofs.links.Links.{IsKnown, SameLink}
use Rattle.gb_laws.proofs.links.Links.{is_early, leaves, leaving, linked, stays, supervisory}
use Rattle.gb_laws.proofs.points.LoaderFacts.{same-plugs}
use Rattle.gb_laws.proofs.points.Points.{IsAsking, SamePlugs, asking, opening}
use Rattle.gb_laws.proofs.{points.Awaited.awaited-rest, links.LinkFrom.Linked}
use Rattle.gb_laws.proofs.links.LinkFrom.{followed-known}
use Rattle.gb_laws.proofs.{links.LinkLists.found-its}

-- ---- the application processor changes, and its connections stay

-- at rest
pub linked-stay : {b : Bus} {h g : Host} → HostFits b g → Stay h.links g.links → Linked b h []
    → Linked b g []
linked-stay {h} {g} fits stay f = record {
  host = fits;
  pending = tt;
  known = λ c live. followed-known c h.links []
      (λ l i. let s = stay l i in stays s.0 s.1 s.2) (f.known c live);
  svc = f.svc;
  made = f.made;
}

-- the last act is done, and it is none that gives up a connection
linked-last : (b : Bus) (h : Host) (x : Act) (rest : List Act) → rest ≡ []
    → ((k : ℕ) → Act.Leave k ≡ x → ⊥) → Linked b h (x ∷ rest) → Linked b h []
linked-last b h x rest none other f = record {
  host = f.host;
  pending = tt;
  known = λ c live. by c (subst (λ r. IsKnown c h.links (x ∷ r)) none (f.known c live));
  svc = f.svc;
  made = f.made;
}
  where
    by : (c : Connection) → IsKnown c h.links (x ∷ []) → IsKnown c h.links []
    by c (supervisory e) = supervisory e
    by c (linked l i of) = linked l i of
    by c (leaving (inl e)) = absurd (other c.number e)
    by c (leaving (inr i)) = absurd i

-- ---- a sequence waits

-- a step's request was made
pub awaits-fits : {b : Bus} (p : Purpose) (n : ℕ) {h : Host} → HostFits b h → IsDue p.step p h
    → HostFits b (awaits p n h) × Stay h.links (awaits p n h).links
awaits-fits {b} p n {h} fits due =
    waiting-by (λ g. HostFits b g × Stay h.links g.links) (Some wait) p h
    (λ e. let next = subst (λ t. IsDueBy t p.step p h) e due in (
      host-interface p.intf (interface_awaits (Some wait)) (λ x. refl)
          (λ x i at old w f. (
            ap (λ (y : ℕ × SequenceStep). is_enumeration y.1) (sym (same-some wait w f)) ∙ e,
            λ early. subst (λ k. HasNoControl k h.links) (sym (same-number x.intf p.intf at))
                (next.none (ap (λ (y : ℕ × SequenceStep). is_early y.1) (same-some wait w f)
                ∙ early)),
          )) fits,
      stay-same h.links,
    )) (λ e. let idle = subst (λ t. IsDueBy t p.step p h) e due in (
      host-link p.intf p.cport (link_awaits (Some wait)) (awaits-link (Some wait))
          (λ l found. record {
            waiting = λ old w f. (
              λ z. idle.cport (sym (found-its p.intf p.cport h.links l found).2 ∙ z),
              subst (λ (y : ℕ × SequenceStep). IsAtStep y.1 l.state) (same-some wait w f)
                  (idle.state l found),
            );
            deaf = λ d. record { cport = d.cport; takes = d.takes };
            draining = λ d. d;
          }) fits,
      stay-changed h.links p.intf p.cport (link_awaits (Some wait)) (awaits-link (Some wait)),
    ))
  where
    wait : ℕ × SequenceStep
    wait = (n, p.step)

pub awaited-host : (p : Purpose) (n : ℕ) (s : State) → (with_awaited p n s).host ≡ awaits p n s.host
awaited-host p n s = by (is_for_connection p.step) (link_at p.intf p.cport (awaits p n s.host))
  where
    made : (o : Option Link) → (made_for n o (record s { host = awaits p n s.host })).host ≡ awaits
        p n s.host
    made None = refl
    made (Some l) = refl

    by : (t : Bool) (o : Option Link)
        → (cond t (made_for n o (record s { host = awaits p n s.host }))
        (record s { host = awaits p n s.host })).host ≡ awaits p n s.host
    by true o = made o
    by false o = refl

-- an interface then waits for what it waited for, or for this request
pub awaited-interface : (p : Purpose) (n : ℕ) (s : State) (x : Interface) (w : ℕ × SequenceStep)
    → IsIn x (with_awaited p n s).host.interfaces → x.awaits ≡ Some w
    → IsIn x s.host.interfaces
    ⊎ ((p.intf ≡ x.intf) × ((n, p.step) ≡ w) × (is_enumeration p.step ≡ true))
awaited-interface p n s x w i e = waiting-by (λ h. IsIn x h.interfaces → IsIn x s.host.interfaces
    ⊎ ((p.intf ≡ x.intf) × ((n, p.step) ≡ w) × (is_enumeration p.step ≡ true)))
    (Some (n, p.step)) p s.host (λ t j. ⊎_elim inl (λ u. inr (
      sym (same-number u.0.intf p.intf u.2) ∙ sym (ap (λ (y : Interface). y.intf) u.3),
      same-some (n, p.step) w (sym (ap (λ (y : Interface). y.awaits) u.3) ∙ e),
      t,
    )) (in-at_first (is_intf p.intf) (interface_awaits (Some (n, p.step))) s.host.interfaces x j))
    (λ t j. inl j) (subst (λ (h : Host). IsIn x h.interfaces) (awaited-host p n s) i)

pub linked-asked : (q : Asking) (n : ℕ) (rest : List Act) (s : State)
    → Linked s.bus s.host (Act.Ask q ∷ rest)
    → Linked (with_awaited q.purpose n s).bus (with_awaited q.purpose n s).host rest
linked-asked q n rest s f =
    let w = awaits-fits q.purpose n f.host f.pending.0.0 in
    let done = linked-stay w.0 w.1
    (linked-last s.bus s.host (Act.Ask q) rest f.pending.0.1 (λ k e. absurd cc) f) in
    subst (λ r. Linked (with_awaited q.purpose n s).bus (with_awaited q.purpose n s).host r)
    (sym f.pending.0.1) (subst (λ b. Linked b (with_awaited q.purpose n s).host [])
    (sym (awaited-rest q.purpose n).bus)
    (subst (λ h. Linked s.bus h []) (sym (awaited-host q.purpose n s)) done))

-- ---- a request can't be made

pub none-leaves : (k : ℕ) (es : List Entry) → IsIn (Act.Leave k) (map Act.Tell es) → ⊥
none-leaves k [] i = i
none-leaves k (e ∷ es) (inl f) = absurd cc
none-leaves k (e ∷ es) (inr i) = none-leaves k es i

-- what fails keeps the facts, and connections stay
pub unsent-stays : {b : Bus} (q : Asking) {rest acts : List Act} {h : Host} → IsAsking q acts rest
    → ArePending h acts → HostFits b h
    → HostFits b (unsent q.purpose h).host × Stay h.links (unsent q.purpose h).host.links
unsent-stays {b} q {rest} {acts} {h} why pending fits =
    let r : TurnFits b h (failed_turn (unsent q.purpose h)) =
    unsent-fits q.purpose (due why) fits in
    (r.host, λ l i. by l (r.followed l i))
  where
    due : IsAsking q acts rest → is_creating q.purpose.step ≡ false
        → IsDue q.purpose.step q.purpose h
    due (asking is) plain = (subst (ArePending h) is pending).0.0
    due (opening v is) plain = absurd (not-both (is_creating q.purpose.step)
        (making-creates (subst (ArePending h) is pending).0.0.step) plain)

    by : (l : Link) → IsFollowed l (unsent q.purpose h).host.links
        (map Act.Tell (unsent q.purpose h).told) → (k : Link)
        × IsIn k (unsent q.purpose h).host.links × SameLink l k
    by l (stays k i s) = (k, i, s)
    by l (leaves i) = absurd (none-leaves l.connection (unsent q.purpose h).told i)

pub linked-unsent : (q : Asking) {rest acts : List Act} {b : Bus} {h : Host} → IsAsking q acts rest
    → Linked b h acts → Linked b (unsent q.purpose h).host rest
linked-unsent q {rest} {acts} {b} {h} why all =
    let u = unsent-stays q why all.pending all.host in
    let f = last why in
    subst (Linked b (unsent q.purpose h).host) (sym f.0) (linked-stay u.0 u.1 f.1)
  where
    last : IsAsking q acts rest → (rest ≡ []) × Linked b h []
    last (asking is) =
        let f = subst (Linked b h) is all in
        (f.pending.0.1, linked-last b h (Act.Ask q) rest f.pending.0.1 (λ k e. absurd cc) f)
    last (opening v is) =
        let f = subst (Linked b h) is all in
        (f.pending.0.1, linked-last b h (Act.Make v q) rest f.pending.0.1 (λ k e. absurd cc) f)

-- ---- credits

-- the credits of a connection change
pub linked-link : (i c : ℕ) (credits : Link → ℕ) {b : Bus} {h : Host} → Linked b h []
    → Linked b (with_link i c (λ l. record l { credits = credits l }) h) []
linked-link i c credits {h} f =
    linked-stay (host-link i c (λ l. record l { credits = credits l })
    (λ l. credits-link (credits l) l)
    (λ l found. record {
      waiting = λ w v e. w v e;
      deaf = λ d. record { cport = d.cport; takes = d.takes };
      draining = λ d. d;
    }) f.host)
    (stay-changed h.links i c (λ l. record l { credits = credits l })
    (λ l. credits-link (credits l) l)) f

-- ---- images

pub linked-images : (x : Images) {b : Bus} {h : Host} → Linked b h []
    → Linked b (record h { images = x }) []
linked-images x {h} f = linked-stay (host-images x f.host) (stay-same h.links) f

-- ---- requests are served

-- how the application processor is once it served a request: as it was, but for credits or images
pub data ServedHost (h : Host) (r : HostServed) : Type 0 where
  as_before : r.host ≡ h → ServedHost h r
  with_more : (i c total : ℕ) → r.host ≡ with_link i c (with_credits total) h → ServedHost h r
  with_images : (x : Images) → r.host ≡ record h { images = x } → ServedHost h r

host-if : (h : Host) (t : Bool) {x y : HostServed} → ServedHost h x → ServedHost h y
    → ServedHost h (cond t x y)
host-if h true p q = p
host-if h false p q = q

-- it stays as it is where the supervisory controller asks
pub svc-host : (h : Host) (r : Result SvcAsk PayloadFault) → (notified_by r h).host ≡ h
svc-host h (Err fault) = refl
svc-host h (Ok (SvcAsk.ModuleInserted i count flags)) = refl
svc-host h (Ok (SvcAsk.ModuleRemoved i)) = refl
svc-host h (Ok (SvcAsk.ProtocolVersion major minor)) = refl
svc-host h (Ok (SvcAsk.Hello endo intf)) = refl
svc-host h (Ok _) = refl

host-gpio : (h : Host) (l : Link) (r : Result GpioAsk PayloadFault)
    → ServedHost h (interrupted l r h)
host-gpio h l (Err fault) = as_before refl
host-gpio h l (Ok (GpioAsk.IrqEvent which)) = as_before refl
host-gpio h l (Ok _) = as_before refl

host-credits : (h : Host) (l : Link) (o : Option ℕ) → ServedHost h (credited l o h)
host-credits h l None = as_before refl
host-credits h l (Some total) = with_more l.intf l.cport total refl

host-uart : (h : Host) (l : Link) (r : Result UartAsk PayloadFault)
    → ServedHost h (uart_notified_by l r h)
host-uart h l (Ok (UartAsk.ReceiveCredits count)) = host-credits h l (credits_added l.credits count)
host-uart h l _ = as_before refl

pub host-served : (k kind : ℕ) (payload : List ℕ) {h : Host}
    → ServedHost h (host_serves k kind payload h)
host-served k kind payload {h} = by (link_of k h)
  where
    by : (o : Option Link) → ServedHost h (served_on o kind payload h)
    by None = as_before (svc-host h (read_svc_ask_of_svc kind payload))
    by (Some l) =
        host-if h (l.protocol == 0x02) (host-gpio h l (read_gpio_ask_of_module kind payload))
        (host-if h (l.protocol == 0x04)
        (host-uart h l (read_uart_ask_of_module kind payload))
        (host-if h (l.protocol == 0x17)
        (with_images (images_step l.connection kind payload h.images).after refl)
        (as_before refl)))

-- a request is served
pub linked-served : (k kind : ℕ) (payload : List ℕ) {b : Bus} {h : Host} → Linked b h []
    → Linked b (host_serves k kind payload h).host []
linked-served k kind payload {b} {h} f = by (host-served k kind payload)
  where
    by : ServedHost h (host_serves k kind payload h)
        → Linked b (host_serves k kind payload h).host []
    by (as_before e) = subst (λ g. Linked b g []) (sym e) f
    by (with_more i c total e) =
        subst (λ g. Linked b g []) (sym e) (linked-link i c (λ l. total) f)
    by (with_images x e) = subst (λ g. Linked b g []) (sym e) (linked-images x f)

-- what is plugged stays too
pub awaited-plugs : (p : Purpose) (n : ℕ) {s : State}
    → SamePlugs s (with_awaited p n s).booted (with_awaited p n s).ports
    (with_awaited p n s).modules
awaited-plugs p n {s} = by (is_for_connection p.step) (link_at p.intf p.cport (awaits p n s.host))
  where
    by : (t : Bool) (o : Option Link)
        → SamePlugs s (cond t (made_for n o (record s { host = awaits p n s.host }))
        (record s { host = awaits p n s.host })).booted
        (cond t (made_for n o (record s { host = awaits p n s.host }))
        (record s { host = awaits p n s.host })).ports
        (cond t (made_for n o (record s { host = awaits p n s.host }))
        (record s { host = awaits p n s.host })).modules
    by true None = same-plugs s
    by true (Some l) = same-plugs s
    by false o = same-plugs s
