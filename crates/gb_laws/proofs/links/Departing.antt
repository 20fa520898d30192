-- The removal of a module that is handled is that of each of its interfaces.
use Rattle.std.proofs.Common.{Some, ap, ℕ, [], ◌∙◌}
use Rattle.std.specs.Prelude.{option_map}
use Rattle.gb_base.specs.declared.host_event.HostEvent.TheVariants as host_event
use Rattle.gb_base.specs.declared.interface.Interface.{Interface}
use Rattle.gb_machine.specs.Host.{interfaces_of}
use Rattle.gb_machine.specs.SvcQueues.{HandlesRemoval}
use Rattle.gb_machine.specs.{Members.IsIn, Runs.Moment}
use Rattle.gb_invariants.proofs.ModuleHosts.{of-module}
use Rattle.gb_laws.proofs.marks.MarkNotices.{removal-handled}
use Rattle.gb_laws.proofs.{links.LinkFrom.Linked, marks.Marks.MarksFit}
use Rattle.gb_laws.proofs.points.PointParts.{Basis, IsNoticed, resting}

pub departing-handled : (i p : ℕ) (m : Moment) → Basis (resting m.told m.before)
    → Linked m.before.bus m.before.host [] → MarksFit m.before
    → IsNoticed m (host_event.Removed p) → IsIn i (interfaces_of p m.before.host)
    → HandlesRemoval i m
departing-handled i p m basis links marks noticed known =
    let x = of-module p i m.before.host links.host.differ known in
    removal-handled i p m basis links marks
    (ap (option_map (λ (y : Interface). y.primary)) x.1 ∙ ap Some x.2) noticed
