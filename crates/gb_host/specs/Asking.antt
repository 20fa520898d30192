-- What requests speak of.
use Rattle.gb_host.specs.declared.payloads.Target.{Target}
use Rattle.gb_machine.specs.SequenceSteps as machine

-- what the machine's requests speak of
abbrev pub target_of : Target → machine.Target
target_of t = record { intf = t.intf; cport = t.cport; ap = t.ap; device = t.device }
