-- The facts of the application processor's connections as a law of points, and that
-- they hold first.
use Rattle.std.proofs.Common.{ap, arith, ⊎_elim, [], ◌∷◌, ◌≡◌}
use Rattle.gb_machine.specs.Bus.{Connection, first_bus, svc_connection}
use Rattle.gb_machine.specs.{Host.first_host, Members.IsIn, Runs.Moment}
use Rattle.gb_laws.proofs.links.LinkKept.{InsertsAbsent, LinkedAt, linked-kept}
use Rattle.gb_laws.proofs.{basis.Basics.basis, links.LinkFrom.Linked, links.Links.supervisory}
use Rattle.gb_laws.proofs.{points.Points.Law}
use Rattle.gb_laws.proofs.{points.Points.upon}

-- the facts of connections as a law of points
abbrev pub link_law : (m : Moment) → InsertsAbsent m → Law m
link_law m absent =
    upon (basis m) LinkedAt (λ a x g h. linked-kept m absent x h)

pub is-svc : (c : Connection) → IsIn c (svc_connection ∷ []) → c ≡ svc_connection
is-svc c i = ⊎_elim (λ e. e) (λ n. absurd n) i

pub linked-first : Linked first_bus first_host []
linked-first = record {
  host = record {
    links = record {
      rise = tt;
      numbered = λ l i. absurd i;
      waiting = λ l i. absurd i;
      deaf = λ l c i. absurd i;
      draining = λ l i. absurd i;
    };
    interfaces = λ x i. absurd i;
    differ = tt;
    present = λ l i. absurd i;
  };
  pending = tt;
  known = λ c i. supervisory (ap (λ (x : Connection). x.number) (is-svc c i));
  svc = λ c i one. let e = is-svc c i in record {
    ap = ap (λ (x : Connection). x.ap) e;
    peer = ap (λ (x : Connection). x.peer) e;
    clean = ap (λ (x : Connection). x.clean) e;
    shut = ap (λ (x : Connection). x.shut) e;
    protocol = ap (λ (x : Connection). x.protocol) e;
  };
  made = omega arith;
}
