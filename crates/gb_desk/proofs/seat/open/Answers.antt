use Rattle.std.proofs.Common.{arith, ◌∙◌}
use Rattle.gb_desk.proofs.Asking.{has_started, opened_free, opened_gave, opened_hand, opens_from}
use Rattle.gb_desk.proofs.Asking.{spent_still}
use Rattle.gb_desk.proofs.Calling.{give_in_hand}
use Rattle.gb_desk.proofs.Freeing.{free_met}
use Rattle.gb_desk.proofs.Taking.{started}
use Rattle.gb_desk.proofs.Turning.{take}
use Rattle.gb_desk.proofs.seat.open.Goals as goal

pub compare_exchange-requires : goal.compare_exchange-requires
compare_exchange-requires c =
    (c.requires.own, (let many = c.requires.size.0 in omega arith), take _ _ _ _ c.requires.free)

pub returns-then-compare_exchange-ne0-clause-free :
    goal.returns-then-compare_exchange-ne0-clause-free
returns-then-compare_exchange-ne0-clause-free c =
    free_met _ _ _ c.requires.free
    (c.compare_exchange.ensures.2.1 c.if-compare_exchange-ne0.true)

pub open_in_turn-answer-requires-clause-started : goal.open_in_turn-answer-requires-clause-started
open_in_turn-answer-requires-clause-started c =
    has_started c.args.seat.now.me.1 c.args.seat.now.me.0 c.compare_exchange.new.seat.me
    c.requires.free (c.compare_exchange.ensures.2.0 c.if-compare_exchange-ne0.false)

pub open_in_turn-answer-requires-clause-spent : goal.open_in_turn-answer-requires-clause-spent
open_in_turn-answer-requires-clause-spent c =
    spent_still c.args.seat.now.me.0 c.compare_exchange.new.seat.me c.args.spent
    (c.compare_exchange.ensures.2.0 c.if-compare_exchange-ne0.false) c.requires.spent

pub store-requires : goal.store-requires
store-requires c =
    let took = c.compare_exchange.ensures.2.0 c.if-compare_exchange-ne0.false in (
      c.open_in_turn-answer.ensures.own.0 ∙ (c.compare_exchange.ensures.0 ∙ c.requires.own),
      (let many = c.requires.size.0 in omega arith),
      give_in_hand _ _ _ c.open_in_turn-answer.new.seat.me
          (opened_hand c.args.seat.now.me.0 took.shared took.first c.args.by c.args.e.now
          c.requires.valid c.requires.asking
          (started c.args.seat.now.me.1 c.args.seat.now.me.0 c.compare_exchange.new.seat.me
          c.requires.free took)
          c.args.spent c.open_in_turn-answer.result c.open_in_turn-answer.new.seat.me
          (opens_from c.args.seat.now.me.0 c.compare_exchange.new.seat.me _ c.args.spent c.args.by
          c.args.e.now c.open_in_turn-answer.result took c.open_in_turn-answer.ensures.opens)),
    )

pub returns-clause-free : goal.returns-clause-free
returns-clause-free c =
    let took = c.compare_exchange.ensures.2.0 c.if-compare_exchange-ne0.false in
    opened_free c.args.seat.now.me.0 took.shared took.first c.args.by c.args.e.now
    c.requires.valid c.requires.asking
    (started c.args.seat.now.me.1 c.args.seat.now.me.0 c.compare_exchange.new.seat.me
    c.requires.free took)
    c.args.spent c.open_in_turn-answer.result c.open_in_turn-answer.new.seat.me
    c.store.new.seat.me c.requires.spent
    (opens_from c.args.seat.now.me.0 c.compare_exchange.new.seat.me _ c.args.spent c.args.by
    c.args.e.now c.open_in_turn-answer.result took c.open_in_turn-answer.ensures.opens)
    c.store.ensures.2

pub returns-clause-opens : goal.returns-clause-opens
returns-clause-opens c =
    let took = c.compare_exchange.ensures.2.0 c.if-compare_exchange-ne0.false in
    opened_gave c.args.seat.now.me.0 took.shared took.first c.args.by c.args.e.now
    c.requires.valid c.requires.asking
    (started c.args.seat.now.me.1 c.args.seat.now.me.0 c.compare_exchange.new.seat.me
    c.requires.free took)
    c.args.spent c.open_in_turn-answer.result c.open_in_turn-answer.new.seat.me
    c.store.new.seat.me c.requires.spent
    (opens_from c.args.seat.now.me.0 c.compare_exchange.new.seat.me _ c.args.spent c.args.by
    c.args.e.now c.open_in_turn-answer.result took c.open_in_turn-answer.ensures.opens)
    c.store.ensures.2
