use Rattle.std.proofs.Common.{arith, sym, take_all, ◌∙◌}
use Rattle.gb_script.proofs.Shown.{of-piece}
use Rattle.gb_script.proofs.held.Held.line.Goals as goal

pub returns-then-self : goal.returns-then-self
returns-then-self c = λ line s.
    let h = of-piece c.args.self.now line c.if-self.true s in
    c.line.ensures ∙ h.line_is ∙ sym (take_all 8192 line (omega (arith, h.short)))
