-- What a single change at a point does to the bus part.
use Rattle.std.proofs.Common.{refl, subst, sym, ◌≡◌}
use Rattle.gb_machine.specs.{Bus.Bus, Bus.other_side, Delivery.answered, Incoming.reply_item}
use Rattle.gb_machine.specs.{Runs.Moment}
use Rattle.gb_invariants.proofs.BusChanges.{BusChange, KeepsRequests, bus_after, requests-after}
use Rattle.gb_laws.proofs.points.Points.{Change, acts_asked, acts_left, acts_made, acts_shut}
use Rattle.gb_laws.proofs.points.Points.{answers}
use Rattle.gb_laws.proofs.points.Points.{asks, changed, forgets, gives_up, injects, names, replies}
use Rattle.gb_laws.proofs.points.Points.{takes}
use Rattle.gb_laws.proofs.points.Points.{unwires, wires}
use Rattle.gb_laws.proofs.{points.Awaited.awaited-rest, points.PointParts.Point}

abbrev pub bus_change : {m : Moment} {a : Point} → Change m a → BusChange
bus_change (asks d c label free live drawn who) = BusChange.sends d label
bus_change (names name d c label free live drawn host) = BusChange.sends d label
bus_change (takes at p item free start is named front) =
    BusChange.takes p.connection.number p.side
bus_change (replies h q r is made twoway) =
    BusChange.puts h.connection.number (other_side h.side) (reply_item q r)
bus_change (answers h n result payload is says which) = BusChange.ends n (answered result payload)
bus_change (forgets h n is late) = BusChange.forgets n
bus_change (gives_up n how free unended cause) = BusChange.gives_up n how
bus_change (wires k free untouched live powered) = BusChange.wires k
bus_change (unwires k free cut live) = BusChange.unwires k
bus_change (injects i c p bytes free named) = BusChange.injects p.connection.number bytes
bus_change (acts_shut k rest free is cause) = BusChange.shuts k
bus_change (acts_left k rest free untouched is) = BusChange.leaves k
bus_change (acts_made w q rest free is) = BusChange.opens w.ap w.intf w.cport w.protocol
bus_change _ = BusChange.rests

-- the bus behind a change
pub bus-is : (m : Moment) (a : Point) (x : Change m a)
    → (changed m a x).state.bus ≡ bus_after (bus_change x) a.state.bus
bus-is m a (acts_asked q n rest is) = (awaited-rest q.purpose n).bus
bus-is m a _ = refl

-- so what holds of the one holds of the other
pub by-bus : (P : Bus → Type 0) {m : Moment} {a : Point} (x : Change m a)
    → P (bus_after (bus_change x) a.state.bus) → P (changed m a x).state.bus
by-bus P {m} {a} x h = subst P (sym (bus-is m a x)) h

-- Requests that were made stay.
pub keeps-requests : (m : Moment) (a : Point) (x : Change m a)
    → KeepsRequests a.state.bus (changed m a x).state.bus
keeps-requests m a x =
    by-bus (KeepsRequests a.state.bus) x (requests-after (bus_change x) a.state.bus)
