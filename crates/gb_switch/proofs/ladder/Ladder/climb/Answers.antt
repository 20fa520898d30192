-- Each rung is its request's row of the table.
use Rattle.std.proofs.Common.{arith}
use Rattle.gb_switch.proofs.Climbs.{level_rung, power_rung}
use Rattle.gb_switch.specs.declared.port.Level.TheVariants as level
use Rattle.gb_switch.specs.declared.rung.Rung.TheVariants as rung
use Rattle.gb_switch.proofs.ladder.Ladder.climb.Goals as goal

pub returns-in-Vsys-clause-step : goal.returns-in-Vsys-clause-step
returns-in-Vsys-clause-step c = λ ports s.
    rw c.in-Vsys.is
    (power_rung c.args.self.now c.rise.new.self c.args.intf rung.Vsys level.Vsys ports c.rise.result
    s c.rise.ensures)

pub returns-in-Refclk-clause-step : goal.returns-in-Refclk-clause-step
returns-in-Refclk-clause-step c = λ ports s.
    rw c.in-Refclk.is
    (level_rung c.args.self.now c.rise-in-Refclk.new.self c.args.intf rung.Refclk level.Vsys
    level.Refclk ports c.rise-in-Refclk.result (omega arith) s c.rise-in-Refclk.ensures)

pub returns-in-Unipro-clause-step : goal.returns-in-Unipro-clause-step
returns-in-Unipro-clause-step c = λ ports s.
    rw c.in-Unipro.is
    (level_rung c.args.self.now c.rise-in-Unipro.new.self c.args.intf rung.Unipro level.Refclk
    level.Unipro ports c.rise-in-Unipro.result (omega arith) s c.rise-in-Unipro.ensures)

pub returns-in-Active-clause-step : goal.returns-in-Active-clause-step
returns-in-Active-clause-step c = λ ports s.
    rw c.in-Active.is
    (level_rung c.args.self.now c.rise-in-Active.new.self c.args.intf rung.Active level.Unipro
    level.Active ports c.rise-in-Active.result (omega arith) s c.rise-in-Active.ensures)
