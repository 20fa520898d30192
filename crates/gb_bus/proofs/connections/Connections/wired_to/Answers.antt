-- Those that are wired to the interface are found by its numbers.
use Rattle.std.proofs.Common.{◌++◌, ap, append-nil, filter, sym, ◌∙◌}
use Rattle.std.proofs.lemmas.List.{drop_all}
use Rattle.gb_bus.proofs.Grouping.{those-at}
use Rattle.gb_bus.proofs.Numbers.{passes_at}
use Rattle.gb_bus.specs.Parts.{is_wired_to}
use Rattle.gb_bus.proofs.connections.Connections.wired_to.Goals as goal

pub returns : goal.returns
returns c =
    sym (append-nil c.loop-number.numbers)
    ∙ ap (λ ns. c.loop-number.numbers
    ++ filter (passes_at (is_wired_to c.args.intf) c.args.self.now) ns)
    (sym (drop_all c.loop-number.number-index c.of-number-items.result.now
    c.loop-number-test.false))
    ∙ c.loop-number.invariant
    ∙ those-at c.self.inside.live.map c.self.inside.ends c.self.inside.waiting
    c.self.inside.grouped c.args.self.now c.args.intf c.of-number-items.result.now
    c.self.invariant c.self.view_is c.of-number-items.ensures.numbers
    c.of-number-items.ensures.rising
