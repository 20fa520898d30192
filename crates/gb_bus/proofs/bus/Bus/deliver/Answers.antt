-- A delivery stands for the machine's.
use Rattle.std.proofs.Common.{◌≡◌, Some, option_and_then, ap, sym, subst, ◌∙◌}
use Rattle.std.specs.Option.{IfSome}
use Rattle.gb_bus.proofs.Delivers.{delivers, delivers_nothing, delivers_nowhere}
use Rattle.gb_bus.specs.Few.{ShowsFewWhere, front_at}
use Rattle.gb_bus.specs.Parts.{front_in}
use Rattle.gb_bus.proofs.bus.Bus.deliver.Goals as goal

pub returns-in_default-clause-step : goal.returns-in_default-clause-step
returns-in_default-clause-step c = λ around b s.
    delivers_nowhere around c.args.self.now b c.args.at s c.in_default.ensures

pub returns-in_default-pop-clause-step : goal.returns-in_default-pop-clause-step
returns-in_default-pop-clause-step c = λ around b s.
    let none = c.in_default-pop.ensures in
    delivers_nothing around c.args.self.now _ b c.args.at c.in-Some.connection c.in-Some.side s
    (sym c.in-Some.ensures)
    none.0 (ap (λ cs. record c.args.self.now { connections = cs }) none.1)

pub returns-in_default-pop-clause-still : goal.returns-in_default-pop-clause-still
returns-in_default-pop-clause-still c = λ e.
    let none = c.in_default-pop.ensures in
    ap (λ cs. record c.args.self.now { connections = cs }) none.1

pub returns-in_err-item-clause-few : goal.returns-in_err-item-clause-few
returns-in_err-item-clause-few c = λ few.
    let front = c.in-Some-pop.ensures in
    let there : front_at c.args.at c.args.self.now.connections ≡ Some c.in-Some-pop.item =
    ap (option_and_then (λ p. front_in p.0 p.1 c.args.self.now.connections)) (sym c.in-Some.ensures)
    ∙ front.0 in
    let fails =
    c.in_err-item.ensures.few (subst (λ o. IfSome o (ShowsFewWhere c.args.takes)) there few) in
    absurd cc

pub returns-clause-step : goal.returns-clause-step
returns-clause-step c = λ around b s.
    let front = c.in-Some-pop.ensures in
    delivers around c.args.self.now _ c.handled.new.self b c.args.at c.args.takes
    c.in-Some.connection c.in-Some.side
    c.in-Some-pop.item c.in_ok-item.item s (sym c.in-Some.ensures) front.0
    (ap (λ cs. record c.args.self.now { connections = cs }) front.1)
    c.in_ok-item.ensures.step
