-- The CPort with a number, if there is one.
use Rattle.std.proofs.Common.{sym, ◌∙◌, ap}
use Rattle.std.specs.Option.{option_copied}
use Rattle.gb_module.proofs.Standing.{found-at, none-stands}
use Rattle.gb_module.proofs.ports.Ports.get.Goals as goal

pub returns-in_err-place : goal.returns-in_err-place
returns-in_err-place c =
    ap option_copied c.from_residual.ensures
    ∙ sym (none-stands c.args.number c.args.self.now c.place.ensures.first c.in_err-place.was)

pub returns : goal.returns
returns c =
    sym (found-at c.place.ensures.first c.in_ok-place.was c.self.view_is c.index.ensures).found
