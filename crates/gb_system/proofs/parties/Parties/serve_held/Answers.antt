-- A request that was held is served or dropped as the machine does.
use Rattle.std.proofs.Common.{sym, ◌∙◌}
use Rattle.gb_system.proofs.HeldAsks.{held-dropped, held-served}
use Rattle.gb_system.specs.Serving.{only, side_of}
use Rattle.gb_system.proofs.parties.Parties.serve_held.Goals as goal

pub returns : goal.returns
returns c = record {
  step = λ s p item d st named there far.
      held-dropped c.args.at c.args.connection c.args.request.now.asked
      c.args.request.now.payload p item d st
      (sym c.if-takes.false ∙ c.takes.ensures (only c.args.connection
      (side_of c.args.at) item) s p st named there)
      c.in_ok-push.ensures.ok;
}

pub returns-then-takes : goal.returns-then-takes
returns-then-takes c = record {
  step = λ s p item d st named there far.
      held-served c.args.at c.args.connection c.args.request.now.asked
      c.args.request.now.payload c.items-payload.result.now p item d st there far
      (sym c.if-takes.true ∙ c.takes.ensures (only c.args.connection
      (side_of c.args.at) item) s p st named there)
      c.items-payload.ensures
      (λ e may. c.in_ok-serve.ensures.step s p.connection item e st may);
}
