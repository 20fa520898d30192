-- The manifest is refused for what the check tells.
use Rattle.std.proofs.Common.{ap, ◌∙◌, subst}
use Rattle.gb_formats.specs.Manifest.{check_answer, refusal}
use Rattle.gb_host.proofs.Manifests.{refused-checked}
use Rattle.gb_host.specs.Stands.{host_of}
use Rattle.gb_host.specs.Turning.{TurnsAfter}
use Rattle.gb_host.proofs.host.Host.manifest_checked.Goals as goal

pub returns-in-Some : goal.returns-in-Some
returns-in-Some c =
    subst (λ t. TurnsAfter t c.args.acts.now c.manifest_refused.new.acts c.args.self.now
    c.manifest_refused.new.self c.manifest_refused.result)
    (refused-checked (check_answer c.args.bytes) c.refused_in.result c.in-Some.refused
    c.args.purpose c.args.bytes (host_of c.args.self.now)
    (c.refused_in.ensures ∙ ap refusal c.items.ensures) c.in-Some.is)
    c.manifest_refused.ensures
