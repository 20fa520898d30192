-- The new interfaces wait for nothing, and have no manifest.
use Rattle.std.proofs.Common.{ap, sym, subst, ◌∙◌}
use Rattle.gb_host.proofs.Known.{kept-module}
use Rattle.gb_host.specs.Changes.{with_module}
use Rattle.gb_host.specs.Known.{AreKept}
use Rattle.gb_host.proofs.interfaces.Interfaces.add.Goals as goal

pub invariant_of-self-2 : goal.invariant_of-self-2
invariant_of-self-2 c =
    subst (AreKept _) (sym (c.add_all.ensures
    ∙ ap (with_module c.args.primary c.args.intfs.now) c.in_ok-reserve.ensures.items))
    (kept-module _ c.args.primary c.args.intfs.now c.self.inside.known.items c.self.invariant)
