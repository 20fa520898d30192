-- The numbers of all are found.
use Rattle.std.proofs.Common.{◌≡◌, [], ap, subst, sym, ◌∙◌}
use Rattle.std.specs.List.Sorted.{IsStrictlySortedBy}
use Rattle.std.specs.Ordering.{nat_cmp}
use Rattle.gb_bus.specs.Keeping.{numbers_where}
use Rattle.gb_bus.proofs.Numbers.{all-numbers, whichever}
use Rattle.gb_bus.proofs.numbered.Numbered.numbers.Goals as goal

pub loop-number-init : goal.loop-number-init
loop-number-init c =
    let start : c.into_iter-number-iterator.result ≡ c.args.self.now.map.entries =
    c.into_iter-number-iterator.ensures.into_iter_gives.0 in (
      tt,
      tt,
      ap (λ ns. numbers_where whichever ns c.into_iter-number-iterator.result)
          c.new-found.ensures.empty
          ∙ ap (numbers_where whichever []) start,
    )

pub returns : goal.returns
returns c = λ unique.
    let found = c.in_ok-numbers.ensures.numbers in
    all-numbers c.in_ok-numbers.numbers c.args.self.now.map.entries unique
    (subst (IsStrictlySortedBy nat_cmp) (sym found) c.in_ok-numbers.ensures.sorted)
    (found
    ∙ ap (numbers_where whichever c.loop-number.found.keys) (sym c.in-None.ensures.steps.0)
    ∙ c.loop-number.invariant.2)
