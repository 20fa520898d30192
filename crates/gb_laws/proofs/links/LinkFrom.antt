-- The facts of the application processor's connections, where each live one comes from one before.
use Rattle.std.proofs.Common.{List, ap, refl, subst, sym, [], ◌∙◌, ◌≡◌, ◌≤◌}
use Rattle.gb_base.specs.declared.end.End.TheVariants as end
use Rattle.gb_base.specs.declared.interface.Link.{Link}
use Rattle.gb_machine.specs.{Bus.Bus, Bus.Connection, Host.Host, Members.IsIn, Turns.Act}
use Rattle.gb_laws.proofs.links.Links.{ArePending, HostFits, IsFollowed, IsKnown, IsNumbered}
use Rattle.gb_laws.proofs.links.Links.{IsSvc, leaves, leaving, linked, stays, supervisory}

-- The application processor and the bus, with the acts that are pending.
pub record Linked (b : Bus) (h : Host) (acts : List Act) : Type 0 where
  pub host : HostFits b h
  pub pending : ArePending h acts
  pub known : (c : Connection) → IsIn c b.connections → IsKnown c h.links acts
  pub svc : (c : Connection) → IsIn c b.connections → c.number ≡ 1 → IsSvc c
  pub made : 1 ≤ b.made

-- ---- connections that are followed

-- what is known of live connections behind a turn
pub followed-known : (c : Connection) (ls : List Link) {after : List Link} (acts : List Act)
    → ((l : Link) → IsIn l ls → IsFollowed l after acts) → IsKnown c ls [] → IsKnown c after acts
followed-known c ls acts f (supervisory e) = supervisory e
followed-known c ls acts f (leaving i) = absurd i
followed-known c ls {after} acts f (linked l i of) = by (f l i)
  where
    by : IsFollowed l after acts → IsKnown c after acts
    by (stays k j same) = linked k j (record {
      number = of.number ∙ sym same.connection;
      ap = of.ap ∙ sym same.ap;
      peer = of.peer ∙ ap (λ i. end.Module i l.cport) (sym same.intf)
          ∙ ap (end.Module k.intf) (sym same.cport);
      protocol = of.protocol ∙ sym same.protocol;
    })
    by (leaves j) = leaving (subst (λ n. IsIn (Act.Leave n) acts) (sym of.number) j)

-- ---- where connections come from

-- a connection keeps what the application processor knows of it, and is unclean only where
-- it may be
pub record IsFrom (was c : Connection) : Type 0 where
  pub number : c.number ≡ was.number
  pub shut : c.shut ≡ was.shut
  pub ap : c.ap ≡ was.ap
  pub peer : c.peer ≡ was.peer
  pub protocol : c.protocol ≡ was.protocol
  pub clean : c.number ≡ 1 → c.clean ≡ was.clean

pub from-same : (c : Connection) → IsFrom c c
from-same c = record {
  number = refl;
  shut = refl;
  ap = refl;
  peer = refl;
  protocol = refl;
  clean = λ e. refl;
}

-- each connection of a bus comes from one of another
abbrev pub AreFrom : Bus → Bus → Type 0
AreFrom b after = (c : Connection) → IsIn c after.connections → (was : Connection)
    × IsIn was b.connections × IsFrom was c

-- what is known of a connection is known of one that comes from it
known-from : (was c : Connection) (ls : List Link) (acts : List Act) → IsFrom was c
    → IsKnown was ls acts → IsKnown c ls acts
known-from was c ls acts same (supervisory e) = supervisory (same.number ∙ e)
known-from was c ls acts same (linked l i of) =
    linked l i (record {
      number = same.number ∙ of.number;
      ap = same.ap ∙ of.ap;
      peer = same.peer ∙ of.peer;
      protocol = same.protocol ∙ of.protocol;
    })
known-from was c ls acts same (leaving i) =
    leaving (subst (λ n. IsIn (Act.Leave n) acts) (sym same.number) i)

-- Where connections come from those before, and none more was made.
pub linked-from : (b : Bus) {after : Bus} (h : Host) (acts : List Act) → after.made ≡ b.made
    → AreFrom b after → Linked b h acts → Linked after h acts
linked-from b h acts made from f = record {
  host = record {
    links = record {
      rise = f.host.links.rise;
      numbered = λ l i. subst (λ n. IsNumbered n l) (sym made) (f.host.links.numbered l i);
      waiting = f.host.links.waiting;
      deaf = λ l c i live on shut. let w = from c live in
          f.host.links.deaf l w.0 i w.1 (sym w.2.number ∙ on) (sym w.2.shut ∙ shut);
      draining = f.host.links.draining;
    };
    interfaces = f.host.interfaces;
    differ = f.host.differ;
    present = f.host.present;
  };
  pending = f.pending;
  known = λ c live. let w = from c live in known-from w.0 c h.links acts w.2 (f.known w.0 w.1);
  svc = λ c live one. let w = from c live in let s = f.svc w.0 w.1 (sym w.2.number ∙ one) in
      record {
        ap = w.2.ap ∙ s.ap;
        peer = w.2.peer ∙ s.peer;
        clean = w.2.clean one ∙ s.clean;
        shut = w.2.shut ∙ s.shut;
        protocol = w.2.protocol ∙ s.protocol;
      };
  made = subst (λ n. 1 ≤ n) (sym made) f.made;
}
