use Rattle.std.proofs.Common.{◌≡◌, ◌<◌, None, arith, subst, sym, ◌∙◌}
use Rattle.gb_desk.proofs.Freeing.{free_glued}
use Rattle.gb_desk.proofs.Joining.{joins, settle}
use Rattle.gb_desk.specs.Steps.{Knows}
use Rattle.gb_desk.proofs.seat.glue.Goals as goal

pub join_seat-requires : goal.join_seat-requires
join_seat-requires c = (
  c.requires.own.0,
  c.requires.own.1,
  c.requires.free.1.rests,
  (let one = c.requires.size.0 in omega arith),
  joins c.args.top.now.key.value c.args.seat.now.id c.args.seat.now.me.0 c.args.other.id
      c.args.other.me.0 c.requires.free.0.out c.requires.free.1.out c.requires.free.0.clear
      c.requires.free.0.part,
)

pub load-requires : goal.load-requires
load-requires c =
    let part = c.requires.free.0.part in (
      c.join_seat.ensures.0 ∙ c.requires.own.0,
      (let one = c.requires.size.0 in omega arith),
      settle _ _ _ c.join_seat.new.seat.me
          (subst (λ (m : Knows). 0 < m.0.parts) (sym c.join_seat.ensures.2) (omega arith))
          (subst (λ (m : Knows). m.0.clear ≡ None) (sym c.join_seat.ensures.2)
          c.requires.free.0.clear),
    )

pub returns-clause-free : goal.returns-clause-free
returns-clause-free c =
    free_glued _ _ _ _ c.load.result _ _ c.requires.free.0 c.requires.free.1 c.join_seat.ensures.2
    c.load.ensures.2
