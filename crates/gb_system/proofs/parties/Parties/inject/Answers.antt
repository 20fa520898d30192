-- A line that injects is refused or done as the machine does.
use Rattle.std.proofs.Common.{ℕ, List, [], ◌∷◌, ◌++◌, length, ap, ◌∙◌}
use Rattle.gb_base.specs.declared.end.End.TheVariants as end
use Rattle.gb_base.specs.declared.entry.Entry.TheVariants as entry
use Rattle.gb_system.proofs.Injections.{inject-done, inject-large, inject-refused, no-ends}
use Rattle.gb_system.proofs.Landing.{stops}
use Rattle.gb_system.specs.Stands.{around_bus}
use Rattle.gb_system.proofs.parties.Parties.inject.Goals as goal

pub returns-in_err-connection : goal.returns-in_err-connection
returns-in_err-connection c = record {
  step = λ s st.
      stops _ _ c.from_residual.result c.from_residual.ensures.1
      (inject-refused s c.args.intf c.args.cport c.args.bytes.now c.in_err-connection.field-0.0 st
      (c.in_err-connection.ensures s st.parts));
}

pub returns-then-bytes-gt-LONGEST_RAW : goal.returns-then-bytes-gt-LONGEST_RAW
returns-then-bytes-gt-LONGEST_RAW c = record {
  step = λ s st.
      inject-large s c.args.intf c.args.cport c.in_ok-connection.connection c.args.bytes.now st
      (c.in_ok-connection.ensures s st.parts) c.if-bytes-gt-LONGEST_RAW.true;
}

pub returns-in_default : goal.returns-in_default
returns-in_default c = record {
  step = λ s st.
      absurd (no-ends c.args.self.now s c.args.intf c.args.cport c.in_ok-connection.connection st
      (c.in_ok-connection.ensures s st.parts)
      (c.in_default.ensures (around_bus [] s) s.bus st.parts.bus));
}

pub returns : goal.returns
returns c = record {
  step = λ s st.
      inject-done c.args.self.now c.inject.new.self s c.args.intf c.args.cport
      c.in_ok-connection.connection c.args.bytes.now c.in-Some.ends c.args.told.now
      c.push.new.self st (c.in_ok-connection.ensures s st.parts) c.if-bytes-gt-LONGEST_RAW.false
      c.in_ok-inject.ensures.step (c.in-Some.ensures (around_bus [] s) s.bus st.parts.bus)
      (c.in_ok-push.ensures.ok ∙ ap (λ (b : List ℕ). c.args.told.now
      ++ entry.Raw (end.Module c.args.intf c.args.cport) (end.Ap c.in-Some.ends.0)
      (length c.args.bytes.now) b ∷ []) c.in_ok-from_slice.ensures.same);
}
