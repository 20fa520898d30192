-- A step of the parties is one more event of a run.
use Rattle.gb_laws.proofs.runs.Reached.{reached-step}
use Rattle.gb_system.proofs.system.System.step_into.Goals as goal

pub returns-in-Ok-clause-step : goal.returns-in-Ok-clause-step
returns-in-Ok-clause-step c = λ s st.
    let done = c.in-Ok.ensures.step s st in
    (done.0, record { parts = done.1; run = reached-step s c.args.e.now c.requires.valid st.run })
