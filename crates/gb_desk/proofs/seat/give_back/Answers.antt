use Rattle.std.proofs.Common.{ap, arith, length, ◌∙◌, ◌+◌}
use Rattle.gb_desk.proofs.Freeing.{free_released, released}
use Rattle.gb_desk.proofs.Holding.{fewer_long}
use Rattle.gb_desk.proofs.Retaining.{release}
use Rattle.gb_desk.specs.Steps.{Knows}
use Rattle.gb_desk.proofs.seat.give_back.Goals as goal

pub fetch_sub-requires : goal.fetch_sub-requires
fetch_sub-requires c = (
  c.requires.own,
  (let many = c.requires.size.0 in
      let low = c.requires.free.within c.args.t.now c.requires.held in omega arith),
  release _ _ _ c.args.seat.now.me.0 c.args.seat.now.me.1 c.args.t.now c.requires.free.clear
      c.requires.free.part c.requires.held,
)

pub returns-clause-free : goal.returns-clause-free
returns-clause-free c =
    free_released c.args.top.now.table_id.slots c.fetch_sub.result c.args.seat.now.me _
    c.args.t.now c.requires.free c.fetch_sub.ensures.2 c.requires.held

pub returns-clause-fewer : goal.returns-clause-fewer
returns-clause-fewer c =
    ap (λ (m : Knows). m.0)
    (released c.args.top.now.table_id.slots c.fetch_sub.result c.args.seat.now.me
    c.fetch_sub.new.seat.me c.args.t.now c.fetch_sub.ensures.2 c.requires.held)

pub returns-clause-count : goal.returns-clause-count
returns-clause-count c =
    ap (λ (m : Knows). length m.0.tickets + 1)
    (released c.args.top.now.table_id.slots c.fetch_sub.result c.args.seat.now.me
    c.fetch_sub.new.seat.me c.args.t.now c.fetch_sub.ensures.2 c.requires.held)
    ∙ fewer_long c.args.t.now c.args.seat.now.me.0.tickets c.requires.held
