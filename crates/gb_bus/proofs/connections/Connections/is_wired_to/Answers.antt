-- Those that are wired to the interface are found by its numbers.
use Rattle.std.proofs.Common.{◌+◌, ◌||◌, ap, drop, sym, ◌∙◌}
use Rattle.std.proofs.lemmas.List.{at_drop_all, at_drop_more}
use Rattle.std.specs.List.{list_any}
use Rattle.gb_bus.proofs.Grouping.{any-at}
use Rattle.gb_bus.proofs.Numbers.{passes_at}
use Rattle.gb_bus.specs.Parts.{is_wired_to}
use Rattle.gb_bus.proofs.connections.Connections.is_wired_to.Goals as goal

pub returns-then-wires_to : goal.returns-then-wires_to
returns-then-wires_to c =
    let ns = c.of-number-items.result.now in
    let test = passes_at (is_wired_to c.args.intf) c.args.self.now in
    sym (at_drop_more (list_any test) ns c.loop-number.number-index 0 c.loop-number-test.true
    ∙ ap (λ b. b || list_any test (drop (c.loop-number.number-index + 1) ns))
    (sym c.wires_to.ensures ∙ c.if-wires_to.true))
    ∙ c.loop-number.invariant
    ∙ any-at c.self.inside.live.map c.self.inside.ends c.self.inside.waiting
    c.self.inside.grouped c.args.self.now c.args.intf ns c.self.invariant c.self.view_is
    c.of-number-items.ensures.numbers c.of-number-items.ensures.rising

pub returns : goal.returns
returns c =
    let ns = c.of-number-items.result.now in
    sym (at_drop_all (list_any (passes_at (is_wired_to c.args.intf) c.args.self.now)) ns
    c.loop-number.number-index c.loop-number-test.false)
    ∙ c.loop-number.invariant
    ∙ any-at c.self.inside.live.map c.self.inside.ends c.self.inside.waiting
    c.self.inside.grouped c.args.self.now c.args.intf ns c.self.invariant c.self.view_is
    c.of-number-items.ensures.numbers c.of-number-items.ensures.rising
