-- The module at the place is stirred.
use Rattle.std.proofs.Common.{Ok, Err, set, sym, ap, ◌∙◌, subst}
use Rattle.std.proofs.lemmas.Result.{err_from_is_err_and}
use Rattle.gb_machine.specs.Modules.{module_at}
use Rattle.gb_module.specs.Views.{stir_of}
use Rattle.gb_system.specs.Plugging.{StirsThere}
use Rattle.gb_system.proofs.Plugged.{is-placed, part_of}
use Rattle.gb_system.proofs.Stirs.{none-stirs, one-stirs}
use Rattle.gb_system.proofs.modules.Modules.stir.Goals as goal

pub returns-in_default : goal.returns-in_default
returns-in_default c =
    none-stirs c.args.intf c.args.cport (stir_of c.args.what) c.args.self.now c.place.result
    c.place.ensures.first c.in_default.is

pub returns-in_err-own : goal.returns-in_err-own
returns-in_err-own c =
    let one = is-placed c.args.intf c.args.self.now c.self.inside.plugged.items c.place.result
    c.in-Some.i c.index_mut-plugged.result.now
    (part_of c.plugged.inside.intf c.plugged.inside.primary c.plugged.inside.count
    c.plugged.inside.body)
    c.place.ensures.first c.in-Some.is c.self.view_is c.plugged.view_is
    c.index_mut-plugged.ensures.value in
    let p = err_from_is_err_and c.from_residual.result c.from_residual.ensures.1 in
    subst (λ r. StirsThere c.args.intf c.args.cport (stir_of c.args.what)
    (module_at c.args.intf c.args.self.now) c.args.self.now
    (set c.self.inside.plugged.items c.in-Some.i (part_of c.plugged.inside.intf
    c.plugged.inside.primary c.plugged.inside.count c.stir.new.self)) r)
    (sym (p.1 ∙ ap Err p.2))
    (one-stirs c.args.intf c.args.cport (stir_of c.args.what) c.stir.new.self
    (Err c.in_err-own.field-0.0) one c.in_err-own.ensures)

pub returns : goal.returns
returns c =
    let one = is-placed c.args.intf c.args.self.now c.self.inside.plugged.items c.place.result
    c.in-Some.i c.index_mut-plugged.result.now
    (part_of c.plugged.inside.intf c.plugged.inside.primary c.plugged.inside.count
    c.plugged.inside.body)
    c.place.ensures.first c.in-Some.is c.self.view_is c.plugged.view_is
    c.index_mut-plugged.ensures.value in
    one-stirs c.args.intf c.args.cport (stir_of c.args.what) c.stir.new.self (Ok c.in_ok-own.own)
    one c.in_ok-own.ensures
