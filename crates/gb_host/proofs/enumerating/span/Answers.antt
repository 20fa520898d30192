-- One number more.
use Rattle.std.proofs.Common.{◌≡◌, ◌+◌, ◌∷◌, [], ◌++◌, ap, sym, ◌∙◌, add-one, arith}
use Rattle.gb_host.proofs.Modules.{span-more}
use Rattle.gb_host.proofs.enumerating.span.Goals as goal
use Rattle.gb_machine.specs.Lists.{span}

pub loop-n-preserved : goal.loop-n-preserved
loop-n-preserved c =
    let is : c.in-Some.intf ≡ c.args.primary + c.loop-n.n = omega arith in
    c.in_ok-push.ensures.ok ∙ ap (λ xs. xs ++ c.in-Some.intf ∷ []) c.loop-n.invariant
    ∙ span-more c.args.primary c.loop-n.n c.in-Some.intf is
    ∙ ap (span c.args.primary) (sym (add-one c.loop-n.n))
