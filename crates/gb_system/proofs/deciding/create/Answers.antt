-- A connection is to be wired, or why not.
use Rattle.std.proofs.Common.{sym, ◌∙◌}
use Rattle.gb_system.proofs.Decisions.{creates_nowhere, creates_one, creates_wired}
use Rattle.gb_system.proofs.deciding.create.Goals as goal

pub returns-in_default : goal.returns-in_default
returns-in_default c = record {
  step = λ around s x st.
      creates_nowhere around c.args.bus.now x s c.args.ap c.args.intf c.args.cport c.refusal.result
      st (c.in_default.ensures around s.bus st.bus) c.refusal.ensures.answer
      c.refusal.ensures.behind;
}

pub returns-then-is_wired : goal.returns-then-is_wired
returns-then-is_wired c = record {
  step = λ around s x st.
      creates_wired around c.args.bus.now x s c.args.ap c.args.intf c.args.cport
      c.refusal-then-is_wired.result st c.in-Some.connection (c.in-Some.ensures around s.bus st.bus)
      (sym (c.is_wired.ensures around s.bus st.bus) ∙ c.if-is_wired.true)
      c.refusal-then-is_wired.ensures.answer c.refusal-then-is_wired.ensures.behind;
}

pub returns : goal.returns
returns c = record {
  step = λ around s x st.
      creates_one around c.args.bus.now x s c.args.ap c.args.intf c.args.cport c.done.result st
      c.in-Some.connection (c.in-Some.ensures around s.bus st.bus)
      (sym (c.is_wired.ensures around s.bus st.bus) ∙ c.if-is_wired.false)
      c.done.ensures.answer c.done.ensures.behind;
}
