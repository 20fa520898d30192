use Rattle.std.proofs.Common.{ap, length, subst, sym, ◌-◌, ◌∙◌}
use Rattle.gb_desk.proofs.Freeing.{free_stays}
use Rattle.gb_desk.specs.Calls.{IsFree}
use Rattle.gb_desk.specs.Steps.{Knows}
use Rattle.gb_desk.proofs.desk.Desk.split.Goals as goal

pub invariant_of-pass : goal.invariant_of-pass
invariant_of-pass c =
    let stays = c.cut-seat.ensures.stays in record {
      free = subst IsFree (sym stays)
          (free_stays c.args.pass.now.seat.me.1 c.args.pass.now.seat.me.0 c.args.parts
          c.requires.fewer c.requires.tickets c.args.pass.now.free);
      counted = ap (λ (m : Knows). m.0.parts) stays
          ∙ ap (λ n. n - c.args.parts) c.args.pass.now.counted;
      held = ap (λ (m : Knows). length m.0.tickets) stays ∙ c.args.pass.now.held;
    }
