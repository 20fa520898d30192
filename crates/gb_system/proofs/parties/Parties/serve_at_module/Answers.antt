-- The module that is plugged serves, or none is plugged.
use Rattle.std.proofs.Common.{Ok, subst}
use Rattle.gb_machine.specs.Modules.{module_at}
use Rattle.gb_system.proofs.ModuleServes.{AnswersThere, AsksThere, serves-nowhere, serves-some}
use Rattle.gb_system.specs.Plugging.{ServesThere}
use Rattle.gb_system.proofs.parties.Parties.serve_at_module.Goals as goal

pub returns-in_default : goal.returns-in_default
returns-in_default c = record {
  step = serves-nowhere c.args.connection c.args.intf c.args.cport c.args.asked.now
      c.args.payload.now c.args.self.now c.answer.new.self c.serve.new.self c.args.told.now
      c.answer.new.told
      (subst (λ o. ServesThere c.args.intf c.args.cport c.args.asked.now.kind c.args.payload.now
      (module_at c.args.intf c.args.self.now.modules) c.args.self.now.modules c.serve.new.self
      (Ok o)) c.in_default.is c.in_ok-served.ensures)
      c.in_ok-answer.ensures.step;
}

pub returns : goal.returns
returns c = record {
  step = serves-some c.args.connection c.args.intf c.args.cport c.args.asked.now
      c.args.payload.now c.args.self.now c.answer-2.new.self c.far_ask_all.new.self
      c.serve.new.self c.in-Some.served c.args.told.now c.answer-2.new.told
      c.far_ask_all.new.told
      (subst (λ o. ServesThere c.args.intf c.args.cport c.args.asked.now.kind c.args.payload.now
      (module_at c.args.intf c.args.self.now.modules) c.args.self.now.modules c.serve.new.self
      (Ok o)) c.in-Some.is c.in_ok-served.ensures)
      (subst (λ bytes. AnswersThere c.args.connection c.args.asked.now c.in-Some.served.result bytes
      (record c.args.self.now { modules = c.serve.new.self }) c.answer-2.new.self c.args.told.now
      c.answer-2.new.told) c.items-answer.ensures c.in_ok-answer-2.ensures.step)
      (subst (λ asks. AsksThere c.args.connection asks c.answer-2.new.self c.far_ask_all.new.self
      c.answer-2.new.told c.far_ask_all.new.told) c.items.ensures
      c.in_ok-far_ask_all.ensures.step);
}
