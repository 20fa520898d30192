-- An interface is to lose its route, or why not.
use Rattle.std.proofs.Common.{sym, ◌∙◌}
use Rattle.gb_system.proofs.Decisions.{unroutes_one, unroutes_wired}
use Rattle.gb_system.proofs.deciding.unroute.Goals as goal

pub returns-then-is_wired_to : goal.returns-then-is_wired_to
returns-then-is_wired_to c = record {
  step = λ around s st at_6.
      unroutes_wired around c.args.bus.now c.args.ladder.now s c.args.intf c.refusal.result st
      (sym (c.is_wired_to.ensures around s.bus st.bus) ∙ c.if-is_wired_to.true)
      c.refusal.ensures.answer c.refusal.ensures.behind;
}

pub returns-in-Ok : goal.returns-in-Ok
returns-in-Ok c = record {
  step = λ around s st at_6.
      unroutes_one c.unroute.new.self s c.args.intf c.done.result
      (c.in-Ok.ensures.step s.ports st.ports).1
      (sym (c.is_wired_to.ensures around s.bus st.bus) ∙ c.if-is_wired_to.false)
      c.done.ensures.answer c.done.ensures.behind;
}
