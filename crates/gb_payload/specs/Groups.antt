-- Kinds of requests of the SVC protocol.
use Rattle.std.specs.Prelude.{Bool, true, false}
use Rattle.gb_formats.specs.SvcRecords.{SvcAsk}

-- a request on a connection or a route
abbrev pub is_link : SvcAsk → Bool
is_link (SvcAsk.ConnCreate intf1 cport1 intf2 cport2 tc flags) = true
is_link (SvcAsk.ConnDestroy intf1 cport1 intf2 cport2) = true
is_link (SvcAsk.RouteCreate intf1 dev1 intf2 dev2) = true
is_link (SvcAsk.RouteDestroy intf1 intf2) = true
is_link ask = false
