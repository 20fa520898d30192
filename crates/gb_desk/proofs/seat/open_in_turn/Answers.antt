use Rattle.std.proofs.Common.{arith, ◌∙◌}
use Rattle.gb_desk.proofs.Freeing.{has_part}
use Rattle.gb_desk.proofs.InTurns.{asked_none, asked_some, barred, broke_by, found_held}
use Rattle.gb_desk.proofs.InTurns.{lent_turn, makes_first, out_of, ready, started_held}
use Rattle.gb_desk.proofs.InTurns.{still_ready, unused_of}
use Rattle.gb_desk.proofs.seat.open_in_turn.Goals as goal

pub slot_mut-requires : goal.slot_mut-requires
slot_mut-requires c =
    let h = c.requires.started in
    (c.requires.own, (h.shared, started_held c.args.seat.now.me h))

pub free_slot-requires-clause-turn : goal.free_slot-requires-clause-turn
free_slot-requires-clause-turn c =
    lent_turn c.args.seat.now.me c.slot_mut.result.now c.requires.started c.slot_mut.ensures.value

pub free_slot-requires-clause-unused : goal.free_slot-requires-clause-unused
free_slot-requires-clause-unused c = unused_of c.args.seat.now.me c.requires.started

pub returns-in-Some-clause-opens : goal.returns-in-Some-clause-opens
returns-in-Some-clause-opens c = λ y out.
    barred c.args.seat.now.me c.slot_mut.result.now y c.args.spent c.args.by c.args.e.now
    c.in-Some.fault c.requires.started c.slot_mut.ensures.value out c.in-Some.ensures

pub slot_mut-requires-2 : goal.slot_mut-requires-2
slot_mut-requires-2 c =
    let h = c.requires.started in
    let f = c.in-Some-free_slot.ensures.found h.shared (out_of c.args.seat.now.me h) in (
      c.free_slot.ensures.own.0 ∙ c.requires.own,
      (h.shared, found_held c.args.seat.now.me.0 h.shared c.in-Some-free_slot.at _ f),
    )

pub ask-requires-clause-whole : goal.ask-requires-clause-whole
ask-requires-clause-whole c =
    let h = c.requires.started in
    (still_ready c.args.seat.now.me c.free_slot.new.seat.me c.slot_mut.result.now _
    c.in-Some-free_slot.at c.args.spent h c.slot_mut.ensures.value c.in_default.ensures
    (c.in-Some-free_slot.ensures.found h.shared (out_of c.args.seat.now.me h))
    c.slot_mut-2.ensures.value).whole

pub ask-requires-clause-room : goal.ask-requires-clause-room
ask-requires-clause-room c =
    let h = c.requires.started in
    (still_ready c.args.seat.now.me c.free_slot.new.seat.me c.slot_mut.result.now _
    c.in-Some-free_slot.at c.args.spent h c.slot_mut.ensures.value c.in_default.ensures
    (c.in-Some-free_slot.ensures.found h.shared (out_of c.args.seat.now.me h))
    c.slot_mut-2.ensures.value).room

pub ask-requires-clause-slot : goal.ask-requires-clause-slot
ask-requires-clause-slot c =
    let h = c.requires.started in
    (c.in-Some-free_slot.ensures.found h.shared (out_of c.args.seat.now.me h)).within

pub returns-in-Err-clause-opens : goal.returns-in-Err-clause-opens
returns-in-Err-clause-opens c = λ y out.
    broke_by c.args.seat.now.me.0 y c.slot_mut-2.result.now _ c.in-Some-free_slot.at c.args.by
    c.args.e.now c.args.spent c.in-Err.fault c.free_slot.new.seat.me
    (c.in-Some-free_slot.ensures.found y out) c.slot_mut-2.ensures.value c.in-Err.ensures.asked

pub returns-then-is_none-clause-opens : goal.returns-then-is_none-clause-opens
returns-then-is_none-clause-opens c = λ y out. (
  ready c.args.seat.now.me c.slot_mut.result.now y c.args.spent c.requires.started
      c.slot_mut.ensures.value out c.in_default.ensures,
  asked_none c.args.seat.now.me.0 y c.slot_mut-2.result.now _ c.in-Some-free_slot.at c.args.by
      c.args.e.now _ c.free_slot.new.seat.me (c.in-Some-free_slot.ensures.found y out)
      c.slot_mut-2.ensures.value c.in-Ok.ensures.asked c.if-is_none.ensures,
)

pub overflow_add-at : goal.overflow_add-at
overflow_add-at c =
    let h = c.requires.started in
    let low = (c.in-Some-free_slot.ensures.found h.shared (out_of c.args.seat.now.me h)).within in
    omega arith

pub fetch_add-requires : goal.fetch_add-requires
fetch_add-requires c =
    let h = c.requires.started in
    let out = out_of c.args.seat.now.me h in
    let f = c.in-Some-free_slot.ensures.found h.shared out in
    let is_ready = ready c.args.seat.now.me c.slot_mut.result.now h.shared c.args.spent h
    c.slot_mut.ensures.value out c.in_default.ensures in (
      c.free_slot.ensures.own.0 ∙ c.requires.own,
      (let many = c.requires.size.0 in let low = f.within in omega arith),
      makes_first _ _ _ c.args.seat.now.me c.free_slot.new.seat.me h.shared
          c.slot_mut-2.result.now _ c.in-Some-free_slot.at c.args.by c.args.e.now _ h out f
          c.slot_mut-2.ensures.value c.in-Ok.ensures.asked c.if-is_none.ensures c.requires.valid
          c.requires.asking (has_part _ _ _ c.requires.spent is_ready.unspent),
    )

pub returns-clause-opens : goal.returns-clause-opens
returns-clause-opens c = λ y out. (
  ready c.args.seat.now.me c.slot_mut.result.now y c.args.spent c.requires.started
      c.slot_mut.ensures.value out c.in_default.ensures,
  asked_some c.args.top.now.table_id.slots c.fetch_add.result c.args.seat.now.me
      c.free_slot.new.seat.me c.fetch_add.new.seat.me y c.slot_mut-2.result.now c.ask.new.self
      c.in-Some-free_slot.at c.args.by c.args.e.now _ c.requires.started out
      (c.in-Some-free_slot.ensures.found y out) c.slot_mut-2.ensures.value c.in-Ok.ensures.asked
      c.if-is_none.ensures c.requires.valid c.requires.asking c.fetch_add.ensures.2,
)
