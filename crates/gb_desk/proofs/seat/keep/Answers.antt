use Rattle.std.proofs.Common.{ap, arith, refl}
use Rattle.gb_desk.proofs.Freeing.{free_retained, has_part, retained}
use Rattle.gb_desk.proofs.Retaining.{retain}
use Rattle.gb_desk.specs.Steps.{Knows}
use Rattle.gb_desk.proofs.seat.keep.Goals as goal

pub fetch_add-requires : goal.fetch_add-requires
fetch_add-requires c = (
  c.requires.own,
  (let many = c.requires.size.0 in
      let low = c.requires.free.within c.args.t.now c.requires.held in omega arith),
  retain _ _ _ c.args.seat.now.me.0 c.args.seat.now.me.1 c.args.t.now c.requires.free.clear
      c.requires.free.part (has_part _ _ _ c.requires.spent c.if-spent.false) c.requires.held,
)

pub returns-clause-free : goal.returns-clause-free
returns-clause-free c =
    free_retained c.args.top.now.table_id.slots c.fetch_add.result c.args.seat.now.me _ c.args.t.now
    c.requires.free c.fetch_add.ensures.2 c.requires.held
    (has_part _ _ _ c.requires.spent c.if-spent.false)

pub returns-clause-retains : goal.returns-clause-retains
returns-clause-retains c = (
  refl,
  ap (λ (m : Knows). m.0)
      (retained c.args.top.now.table_id.slots c.fetch_add.result c.args.seat.now.me
      c.fetch_add.new.seat.me c.args.t.now c.fetch_add.ensures.2 c.requires.held),
  has_part _ _ _ c.requires.spent c.if-spent.false,
)
