-- The numbers of all tell of all.
use Rattle.std.proofs.Common.{◌++◌, ap, append-nil, sym, ◌∙◌}
use Rattle.std.proofs.lemmas.List.{drop_all}
use Rattle.gb_bus.proofs.Numbers.{told, told-all}
use Rattle.gb_bus.proofs.connections.Connections.known.Goals as goal

pub returns : goal.returns
returns c =
    sym (append-nil c.loop-number.known)
    ∙ ap (λ ns. c.loop-number.known ++ told c.args.self.now ns)
    (sym (drop_all c.loop-number.number-index c.items-number-items.result.now
    c.loop-number-test.false))
    ∙ c.loop-number.invariant
    ∙ told-all c.items-number-items.result.now c.self.inside.live.map.entries c.args.self.now
    c.self.invariant.maps.unique c.self.view_is
    (c.items-number-items.ensures ∙ c.in_ok-numbers.ensures c.self.invariant.maps.unique)
