-- A start is refused or done as the machine does.
use Rattle.std.proofs.Common.{◌+◌, List, sym, subst}
use Rattle.gb_base.specs.declared.entry.Entry.{Entry}
use Rattle.gb_system.proofs.Boots.{IsBooting, boot-again, boot-done, boot-first, boot-more}
use Rattle.gb_system.proofs.Boots.{boot-past}
use Rattle.gb_system.specs.declared.parties.Parties.{Parties}
use Rattle.gb_system.proofs.parties.Parties.boot.Goals.{in-Some+in_ok-tell_inserted, in_default}
use Rattle.gb_system.proofs.parties.Parties.boot.Goals as goal

pub returns-then-self : goal.returns-then-self
returns-then-self c = record {
  step = λ s st.
      boot-again c.args.self.now s st c.if-self.true;
}

pub loop-i-init : goal.loop-i-init
loop-i-init c = λ s st.
    boot-first c.args.self.now c.svc_ask.new.self c.svc_ask-2.new.self s c.count-i-end.result
    c.args.told.now c.svc_ask.new.told c.svc_ask-2.new.told st
    c.in_ok-svc_ask.ensures.step c.in_ok-svc_ask-2.ensures.step c.count-i-end.ensures

pub loop-i-preserved : goal.loop-i-preserved
loop-i-preserved c = λ s st.
    let m = c.loop-i.invariant s st in
    elim c.match-told_at.branch [
      | in-Some+in_ok-tell_inserted w ↦
          subst (λ (x : Parties). IsBooting x s (c.loop-i.i + 1) c.count-i-end.result
          c.args.told.now c.match-told_at.told)
          (sym w.self-is)
          (subst (λ (es : List Entry). IsBooting w.tell_inserted.new.self s (c.loop-i.i + 1)
          c.count-i-end.result c.args.told.now es) (sym w.told-is)
          (boot-more c.loop-i.self s c.loop-i.i c.count-i-end.result c.told_at.result m
          c.loop-i-test.true c.told_at.ensures w.tell_inserted.new.self w.in-Some.span
          w.tell_inserted.new.told w.in-Some.is w.in_ok-tell_inserted.ensures.step))
      | in_default w ↦
          subst (λ (x : Parties). IsBooting x s (c.loop-i.i + 1) c.count-i-end.result
          c.args.told.now c.match-told_at.told)
          (sym w.self-is)
          (subst (λ (es : List Entry). IsBooting c.loop-i.self s (c.loop-i.i + 1)
          c.count-i-end.result c.args.told.now es) (sym w.told-is)
          (boot-past c.loop-i.self s c.loop-i.i c.count-i-end.result c.told_at.result m
          c.loop-i-test.true c.told_at.ensures w.in_default.not-Some))
    ]

pub returns : goal.returns
returns c = record {
  step = λ s st.
      boot-done c.args.self.now c.loop-i.self s c.loop-i.i c.count-i-end.result st
      c.if-self.false (c.loop-i.invariant s st) c.loop-i-test.false;
}
