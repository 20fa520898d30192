-- An insert is refused or done as the machine does.
use Rattle.std.proofs.Common.{[], length, refl, sym, ap, ◌∙◌, subst}
use Rattle.gb_base.specs.declared.event.Event.TheVariants as event
use Rattle.gb_base.specs.declared.event.Kind.TheVariants as kind
use Rattle.gb_machine.specs.Lists.{first_met}
use Rattle.gb_machine.specs.Refusals.{insert_conditions}
use Rattle.gb_system.proofs.Pluggings.{kinds-done, kinds-first, kinds-next}
use Rattle.gb_system.proofs.parties.Parties.insert.Goals as goal
use Rattle.gb_system.specs.Doing.{IsDone}

pub returns-in-Some : goal.returns-in-Some
returns-in-Some c = record {
  step = λ s st. record {
    refused = sym (sym c.in-Some.is ∙ c.insert_refusal.ensures.is s [] st.parts refl
        ∙ ap (λ ks. first_met (insert_conditions s c.args.intf (length ks) []))
        c.items.ensures.items);
    stand = st.parts;
  };
}

pub loop-i-init : goal.loop-i-init
loop-i-init c = λ s st.
    kinds-first c.args.intf (length c.items.result.now) c.items-kind-items.result.now st
    (ap length (c.items.ensures.items ∙ sym c.items-kind-items.ensures.items))
    (sym c.in_default.is ∙ c.insert_refusal.ensures.is s [] st.parts refl)

pub loop-i-preserved : goal.loop-i-preserved
loop-i-preserved c = λ s st.
    kinds-next c.args.intf (length c.items.result.now) c.loop-i.i c.items-kind-items.result.now
    kind.Gpio c.in_ok-body.body c.loop-i-test.true
    (ap length (c.items.ensures.items ∙ sym c.items-kind-items.ensures.items))
    c.in_ok-body.ensures (c.loop-i.invariant s st) c.in_ok-plug.ensures.step

pub returns : goal.returns
returns c = record {
  step = λ s st.
      subst (λ ks. IsDone c.tell_plugged.new.self s (event.Insert c.args.intf ks)
      c.args.told.now c.tell_plugged.new.told) c.items-kind-items.ensures.items
      (kinds-done c.tell_plugged.new.self s c.args.intf (length c.items.result.now) c.loop-i.i
      c.items-kind-items.result.now c.args.told.now c.tell_plugged.new.told
      (ap length (c.items.ensures.items ∙ sym c.items-kind-items.ensures.items))
      (sym c.in_default.is ∙ c.insert_refusal.ensures.is s [] st.parts refl)
      (c.loop-i.invariant s st) c.loop-i-test.false c.in_ok-tell_plugged.ensures.step);
}
