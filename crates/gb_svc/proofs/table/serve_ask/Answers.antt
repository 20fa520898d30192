-- Requests on connections: the interfaces, whatever they are, and the fields that decide nothing.
use Rattle.gb_svc.proofs.table.serve_ask.Goals as goal

pub returns-in-ConnCreate : goal.returns-in-ConnCreate
returns-in-ConnCreate c = record {
  step = λ ports s.
      rw c.in-ConnCreate.is
      (c.create.ensures.step c.in-ConnCreate.tc c.in-ConnCreate.flags ports s);
}

pub returns-in-ConnDestroy : goal.returns-in-ConnDestroy
returns-in-ConnDestroy c = record {
  step = λ ports s. rw c.in-ConnDestroy.is (c.destroy.ensures.step c.args.ladder.now ports s);
}
