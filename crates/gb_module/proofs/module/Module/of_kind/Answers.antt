-- A module with the manifest and the CPorts of a kind is the module of that kind.
use Rattle.std.proofs.Common.{◌≡◌, IfOk, ap, subst, ◌∙◌}
use Rattle.gb_formats.specs.Kinds.{kind_manifest}
use Rattle.gb_formats.specs.Module.{Module}
use Rattle.gb_module.specs.Steps.{with_ports}
use Rattle.gb_module.proofs.module.Module.of_kind.Goals as goal

pub returns : goal.returns
returns c =
    subst (λ (m : Module). IfOk c.of.result (λ made. made ≡ m))
    (ap (λ bytes. with_ports bytes c.in_ok-ports.ports.items) c.manifest.ensures.is
    ∙ ap (with_ports (kind_manifest c.args.kind)) c.in_ok-ports.ensures)
    c.of.ensures
