use Rattle.std.proofs.Common.{arith, subst}
use Rattle.atomic_table.specs.Table.{Splits}
use Rattle.gb_desk.proofs.Cutting.{splits}
use Rattle.gb_desk.specs.Rules.{Kept}
use Rattle.gb_desk.specs.Steps.{goes, stays}
use Rattle.gb_desk.proofs.seat.cut.Goals as goal

pub split_seat-requires : goal.split_seat-requires
split_seat-requires g c =
    let v = c.args.seat.now.me.0 in
    let first = c.args.top.now.key.value in
    let id = c.args.seat.now.id in (
      c.requires.own,
      (let one = c.requires.size.0 in omega arith),
      subst (λ n. Splits (Kept first) id v (stays n v) (goes n v)) c.requires.picked
          (splits first id v c.args.parts c.requires.free.out c.requires.free.clear
          c.requires.some.0 c.requires.some.1 c.requires.some.2),
    )
