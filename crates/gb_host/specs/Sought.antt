-- Connections that are sought.
use Rattle.std.specs.Prelude.{◌==◌, Bool}
use Rattle.gb_base.specs.declared.interface.Link.{Link}
use Rattle.gb_host.specs.Awaited.{waits_for}
use Rattle.gb_host.specs.declared.places.Sought.{Sought}
use Rattle.gb_host.specs.declared.places.Sought.TheVariants as sought
use Rattle.gb_machine.specs.Host.{is_link}

-- a connection is one of these
abbrev pub passes : Sought → Link → Bool
passes (sought.Number k) = λ l. l.connection == k
passes (sought.End i c) = is_link i c
passes (sought.Interface i) = λ l. l.intf == i
passes (sought.Request n) = waits_for n
