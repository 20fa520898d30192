-- The interfaces are those of the part at its place, if there is one.
use Rattle.std.proofs.Common.{Some, option_map, sym, ap, ◌∙◌}
use Rattle.gb_system.proofs.Plugged.{no-part, one-part}
use Rattle.gb_system.specs.Plugging.{span_of}
use Rattle.gb_system.proofs.modules.Modules.span.Goals as goal

pub returns-in_err-i-clause-is : goal.returns-in_err-i-clause-is
returns-in_err-i-clause-is c =
    c.from_residual.ensures
    ∙ sym (ap (option_map span_of) (no-part c.args.intf c.args.self.now c.place.result
    c.place.ensures.first c.in_err-i.was))

pub returns-clause-is : goal.returns-clause-is
returns-clause-is c =
    ap Some c.span.ensures.is
    ∙ sym (ap (option_map span_of) (one-part c.args.intf c.args.self.now
    c.self.inside.plugged.items c.place.result c.in_ok-i.i c.index.result.now
    c.place.ensures.first c.in_ok-i.was c.self.view_is c.index.ensures))
