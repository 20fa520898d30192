-- The connection with the next number is found.
use Rattle.std.proofs.Common.{◌++◌, append-nil, ap, sym, ◌∙◌}
use Rattle.std.specs.Option.{option_to_list}
use Rattle.gb_host.proofs.ByNumber.{next-found}
use Rattle.gb_host.proofs.connections.numbered.Goals as goal
use Rattle.gb_host.proofs.connections.numbered.Goals.{in-Some+in_ok-push, in_default}

pub loop-number-preserved : goal.loop-number-preserved
loop-number-preserved c = λ test rises e.
    let front = c.loop-number.found in
    let looked = c.of.ensures in
    next-found test c.args.links.now.items c.args.numbers.now c.loop-number.number-index front
    c.match-of.found rises e c.loop-number-test.true (c.loop-number.invariant test rises e)
    (elim c.match-of.branch [
      | in-Some+in_ok-push w ↦
          w.found-is ∙ w.in_ok-push.ensures.ok
          ∙ ap (λ o. front ++ option_to_list o) (sym w.in-Some.is ∙ looked)
      | in_default w ↦
          w.found-is ∙ sym (append-nil front)
          ∙ ap (λ o. front ++ option_to_list o) (sym w.in_default.is ∙ looked)
    ])
