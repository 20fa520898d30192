-- The table decides, or leaves it to connections.
use Rattle.std.proofs.Common.{refl, subst}
use Rattle.gb_machine.specs.SvcTable.{SvcServed, svc_step}
use Rattle.gb_system.proofs.Decisions.{decided_answer, decided_there, decided_unroute, stand_still}
use Rattle.gb_system.proofs.SvcSteps.{Leaves, leaves-ports}
use Rattle.gb_system.proofs.deciding.decide.Goals as goal

pub returns-in-Answer : goal.returns-in-Answer
returns-in-Answer c = record {
  step = λ around s st.
      decided_answer c.serve.new.ladder s (svc_step s.ports c.args.kind c.args.payload.now)
      c.in-Answer.result
      c.in-Answer.payload.items _ (c.in-Answer.ensures.step s.ports st.ports) refl refl;
}

pub returns-in-Create : goal.returns-in-Create
returns-in-Create c = record {
  step = λ around s st.
      let step = svc_step s.ports c.args.kind c.args.payload.now in
      let f = c.in-Create.ensures.step s.ports st.ports in
      decided_there c.serve.new.ladder s step
      (SvcServed.Create c.in-Create.ap c.in-Create.intf c.in-Create.cport) c.create.result st f
      (subst (Leaves s.ports step.ports) f.answer
      (leaves-ports s.ports c.args.kind c.args.payload.now))
      (c.create.ensures.step around s c.serve.new.ladder);
}

pub returns-in-Destroy : goal.returns-in-Destroy
returns-in-Destroy c = record {
  step = λ around s st.
      let step = svc_step s.ports c.args.kind c.args.payload.now in
      let f = c.in-Destroy.ensures.step s.ports st.ports in
      decided_there c.serve.new.ladder s step
      (SvcServed.Destroy c.in-Destroy.ap c.in-Destroy.intf c.in-Destroy.cport) c.destroy.result st
      f
      (subst (Leaves s.ports step.ports) f.answer
      (leaves-ports s.ports c.args.kind c.args.payload.now))
      (c.destroy.ensures.step around s c.serve.new.ladder);
}

pub returns-in-Unroute : goal.returns-in-Unroute
returns-in-Unroute c = record {
  step = λ around s st.
      let step = svc_step s.ports c.args.kind c.args.payload.now in
      let v = SvcServed.Unroute c.in-Unroute.intf in
      let f = c.in-Unroute.ensures.step s.ports st.ports in
      let same = subst (Leaves s.ports step.ports) f.answer
      (leaves-ports s.ports c.args.kind c.args.payload.now) in
      decided_unroute c.serve.new.ladder c.unroute.new.ladder s step c.in-Unroute.intf
      c.unroute.result f same.0
      (c.unroute.ensures.step around s
      (stand_still around c.args.bus.now c.serve.new.ladder c.args.ladder.now s step v st f same.0)
      same.1);
}
