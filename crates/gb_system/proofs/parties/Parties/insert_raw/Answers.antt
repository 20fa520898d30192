-- An insert by a manifest is refused or done as the machine does.
use Rattle.std.proofs.Common.{refl, sym, ◌∙◌}
use Rattle.gb_system.proofs.Pluggings.{raw-done}
use Rattle.gb_system.proofs.parties.Parties.insert_raw.Goals as goal

pub returns-in-Some : goal.returns-in-Some
returns-in-Some c = record {
  step = λ s st. record {
    refused =
        sym (sym c.in-Some.is ∙ c.insert_refusal.ensures.is s c.args.manifest.now st.parts refl);
    stand = st.parts;
  };
}

pub returns : goal.returns
returns c = record {
  step = λ s st.
      raw-done c.tell_plugged.new.self s c.args.intf c.args.manifest.now c.in_ok-body.body
      c.args.told.now c.tell_plugged.new.told st c.in_ok-body.ensures
      (sym c.in_default.is ∙ c.insert_refusal.ensures.is s c.args.manifest.now st.parts refl)
      c.in_ok-plug.ensures.step c.in_ok-tell_plugged.ensures.step;
}
