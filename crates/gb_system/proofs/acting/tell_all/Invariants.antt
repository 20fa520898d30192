-- What was told so far, and what the acts that are left tell, is all.
use Rattle.std.proofs.Common.{◌≡◌, ◌++◌, drop}
use Rattle.gb_system.specs.Acting.{tells_of}
use Rattle.gb_system.proofs.acting.tell_all.Given as goal

abbrev pub invariant-loop-act : goal.invariant-loop-act
invariant-loop-act l = l.told ++ tells_of (drop l.act-index l.acts)
    ≡ l.fn.told ++ tells_of l.acts
