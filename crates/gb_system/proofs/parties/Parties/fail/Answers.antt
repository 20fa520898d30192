-- A failure is told.
use Rattle.std.proofs.Common.{◌++◌, List, ap, ◌∙◌}
use Rattle.gb_host.specs.declared.acts.Act.{Act}
use Rattle.gb_system.proofs.Acts.{fail-done}
use Rattle.gb_system.specs.Acting.{tells_of}
use Rattle.gb_system.proofs.parties.Parties.fail.Goals as goal

pub returns : goal.returns
returns c = record {
  step = λ s st.
      fail-done c.unsent.new.self c.args.purpose c.in_ok-acts.acts st
      (c.in_ok-acts.ensures.step s.host st.host)
      (c.in_ok-tell_all.ensures
      ∙ ap (λ (xs : List Act). c.args.told.now ++ tells_of xs) c.items.ensures);
}
