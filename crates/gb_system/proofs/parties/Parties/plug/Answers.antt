-- A part is plugged as the machine does.
use Rattle.std.proofs.Common.{◌≡◌, false, sym, subst}
use Rattle.gb_machine.specs.Ports.{is_powered, powered}
use Rattle.gb_machine.specs.State.{Plugged}
use Rattle.gb_switch.specs.Stands as switch
use Rattle.gb_system.proofs.Pluggings.{plugged-stand}
use Rattle.gb_system.proofs.parties.Parties.plug.Goals as goal

pub returns : goal.returns
returns c = record {
  step = λ s st free short.
      plugged-stand c.args.self.now s c.args.part c.plug.new.self c.plug-2.new.self st
      c.in_ok-plug.ensures.ok short
      (subst (λ (p : Plugged). switch.Stands c.plug-2.new.self (powered p.intf s.ports))
      c.part.view_is (c.plug-2.ensures.step s.ports st.ports
      (subst (λ (p : Plugged). is_powered p.intf s.ports ≡ false) (sym c.part.view_is) free)));
}
