-- A connection is to be unwired, or why not.
use Rattle.std.proofs.Common.{sym, ◌∙◌}
use Rattle.gb_system.proofs.Decisions.{destroys_nowhere, destroys_one, destroys_unwired}
use Rattle.gb_system.proofs.deciding.destroy.Goals as goal

pub returns-in_default : goal.returns-in_default
returns-in_default c = record {
  step = λ around s x st.
      destroys_nowhere around c.args.bus.now x s c.args.ap c.args.intf c.args.cport c.refusal.result
      st (c.in_default.ensures around s.bus st.bus) c.refusal.ensures.answer
      c.refusal.ensures.behind;
}

pub returns-then-not-is_wired : goal.returns-then-not-is_wired
returns-then-not-is_wired c = record {
  step = λ around s x st.
      destroys_unwired around c.args.bus.now x s c.args.ap c.args.intf c.args.cport
      c.refusal-then-not-is_wired.result st c.in-Some.connection
      (c.in-Some.ensures around s.bus st.bus)
      (sym (c.is_wired.ensures around s.bus st.bus) ∙ c.if-not-is_wired.true)
      c.refusal-then-not-is_wired.ensures.answer c.refusal-then-not-is_wired.ensures.behind;
}

pub returns : goal.returns
returns c = record {
  step = λ around s x st.
      destroys_one around c.args.bus.now x s c.args.ap c.args.intf c.args.cport c.done.result st
      c.in-Some.connection (c.in-Some.ensures around s.bus st.bus)
      (sym (c.is_wired.ensures around s.bus st.bus) ∙ c.if-not-is_wired.false)
      c.done.ensures.answer c.done.ensures.behind;
}
