-- What a proof unfolds to compute a step of the machine.
use Rattle.std.specs.Prelude.{⊤}
use Rattle.gb_machine.specs.Actions.{by_state, change, each, given, nothing, on_bus, on_host, tell}
use Rattle.gb_machine.specs.Actions.{tell_all, when, ◌▸◌}
use Rattle.gb_machine.specs.Arriving.{answers_by, arrives, asked_at, by_label, by_number, delivers}
use Rattle.gb_machine.specs.Arriving.{delivers_at, ends, ends_answered, forgets, handles, keeps}
use Rattle.gb_machine.specs.Arriving.{late_by, raw_taken, reply_taken}
use Rattle.gb_machine.specs.Asking.{asks, asks_with}
use Rattle.gb_machine.specs.Events.{decided, does, shows, step}
use Rattle.gb_machine.specs.GivingUp.{cancels, gives_up, ticks, times_out}
use Rattle.gb_machine.specs.HostActs.{acts, asked_with, drains, fails, follows, host_asks}
use Rattle.gb_machine.specs.HostActs.{host_follows, host_makes, idles, idles_behind, notices}
use Rattle.gb_machine.specs.HostActs.{made_with, turns}
use Rattle.gb_machine.specs.Labels.{free_label}
use Rattle.gb_machine.specs.LineActions.{answers, answers_at, answers_held, bridge_sent, bridges}
use Rattle.gb_machine.specs.LineActions.{copies, injects, injects_at, sends, sends_on}
use Rattle.gb_machine.specs.LineActions.{serves_held, stirred, stirs}
use Rattle.gb_machine.specs.Lists.{first_free}
use Rattle.gb_machine.specs.Loading.{asks_at, asks_next, begins, fails_unasked, goes_on, load_ended}
use Rattle.gb_machine.specs.Loading.{load_follows, loads}
use Rattle.gb_machine.specs.OwnAsking.{far_asks, far_asks_all, svc_asks}
use Rattle.gb_machine.specs.Plugging.{boots, plugs, pulls, pulls_module, pulls_one}
use Rattle.gb_machine.specs.Plugging.{tells_inserted, tells_removed}
use Rattle.gb_machine.specs.Responding.{disconnects, host_behind, replies, responds, serves}
use Rattle.gb_machine.specs.Responding.{serves_oneway, with_ports}
use Rattle.gb_machine.specs.Settling.{settles, settles_at, settles_from}
use Rattle.gb_machine.specs.Wires.{shuts, unwires, wires}

-- the combinators
unfoldable pub actions_opened : ⊤
unfolding tell change ◌▸◌ by_state nothing given when on_bus on_host tell_all each
actions_opened = tt

-- what is done on the bus
unfoldable pub bus_opened : ⊤
unfolding asks_with asks far_asks far_asks_all svc_asks shuts unwires wires free_label first_free
bus_opened = tt

-- the application processor's acts
unfoldable pub host_opened : ⊤
unfolding acts asked_with drains fails follows host_asks host_follows host_makes idles
    idles_behind notices made_with turns
host_opened = tt

-- serving
unfoldable pub serving_opened : ⊤
unfolding disconnects host_behind replies responds serves serves_oneway with_ports
serving_opened = tt

-- delivering
unfoldable pub delivering_opened : ⊤
unfolding answers_by arrives asked_at by_label by_number delivers delivers_at ends ends_answered
    forgets handles keeps late_by raw_taken reply_taken
delivering_opened = tt

-- the lines of a script
unfoldable pub lines_opened : ⊤
unfolding answers answers_at answers_held boots bridge_sent bridges cancels copies gives_up
    injects injects_at plugs pulls pulls_module pulls_one sends sends_on serves_held settles
    settles_at settles_from shows stirred stirs tells_inserted tells_removed ticks times_out
lines_opened = tt

-- firmware downloads
unfoldable pub loading_opened : ⊤
unfolding asks_at asks_next begins fails_unasked goes_on load_ended load_follows loads
loading_opened = tt

-- the whole machine
unfoldable pub machine_opened : ⊤
unfolding actions_opened bus_opened host_opened serving_opened delivering_opened lines_opened
    loading_opened does decided step
machine_opened = tt
