-- A request that is delivered is held or served as the machine does.
use Rattle.std.proofs.Common.{refl, sym, ◌∙◌}
use Rattle.gb_system.proofs.HeldAsks.{delivered-as, kept-done, unheld}
use Rattle.gb_system.specs.Serving.{only, side_of}
use Rattle.gb_system.proofs.parties.Parties.ask_at.Goals as goal

pub returns : goal.returns
returns c = record {
  step = λ s x item d st may.
      unheld (side_of c.args.at) x item d.request
      (sym c.if-is_held.false ∙ c.is_held.ensures (only c.args.connection (side_of c.args.at) item)
      s x st d.upon.number)
      (c.in_ok-serve.ensures.step s x item (delivered-as c.items.result.now c.items.ensures d) st
      may);
}

pub returns-then-is_held : goal.returns-then-is_held
returns-then-is_held c = record {
  step = λ s x item d st may.
      kept-done c.push.new.self c.args.at c.args.connection c.args.asked c.args.payload x item _ d
      st
      (sym c.if-is_held.true ∙ c.is_held.ensures (only c.args.connection (side_of c.args.at) item)
      s x st d.upon.number) refl
      c.in_ok-push.ensures
      c.in_ok-push-2.ensures.ok;
}
