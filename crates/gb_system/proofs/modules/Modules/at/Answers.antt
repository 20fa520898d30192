-- The module is the one at its place, if there is one.
use Rattle.std.proofs.Common.{Some, sym, ap, ◌∙◌}
use Rattle.std.specs.Prelude.{option_copied}
use Rattle.gb_machine.specs.State.{Plugged}
use Rattle.gb_system.proofs.Plugged.{none-there, one-there}
use Rattle.gb_system.proofs.modules.Modules.at.Goals as goal

pub returns-in_err-i : goal.returns-in_err-i
returns-in_err-i c =
    ap option_copied c.from_residual.ensures
    ∙ sym (none-there c.args.intf c.args.self.now c.place.result c.place.ensures.first
    c.in_err-i.was)

pub returns : goal.returns
returns c =
    ap (λ (p : Plugged). Some p.body) c.behind-self.view_is
    ∙ sym (one-there c.args.intf c.args.self.now c.self.inside.plugged.items c.place.result
    c.in_ok-i.i c.index.result.now c.place.ensures.first c.in_ok-i.was c.self.view_is
    c.index.ensures)
