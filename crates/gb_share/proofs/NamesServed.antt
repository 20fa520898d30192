-- Names stay as they are where requests are served, messages delivered and lines held.
use Rattle.std.proofs.Common.{ℕ, zero, suc, ◌+◌, Bool, true, false, if◌then◌else◌, Option, Some}
use Rattle.std.proofs.Common.{None, List, refl}
use Rattle.std.specs.List.{list_any}
use Rattle.std.specs.Prelude.{◌==◌, Result, Ok, Err}
use Rattle.gb_base.specs.declared.end.End.{End}
use Rattle.gb_base.specs.declared.end.End.TheVariants as end
use Rattle.gb_base.specs.declared.end.Side.{Side}
use Rattle.gb_base.specs.declared.end.Side.TheVariants as side
use Rattle.gb_base.specs.declared.entry.Entry.{Entry}
use Rattle.gb_base.specs.declared.reasons.RawFault.{RawFault}
use Rattle.gb_formats.specs.Message.{Message}
use Rattle.gb_formats.specs.Module.{Module}
use Rattle.gb_formats.specs.Results.{invalid, nonexistent, success}
use Rattle.gb_machine.specs.Actions.{Action}
use Rattle.gb_machine.specs.Arriving.{answers_by, arrives, asked_at, by_label, by_number, delivers}
use Rattle.gb_machine.specs.Arriving.{delivers_at, ends, ends_answered, forgets, handles, is_held}
use Rattle.gb_machine.specs.Arriving.{keeps, late_by, raw_taken, reply_taken, takes}
use Rattle.gb_machine.specs.Bus.{Ask, Connection, Item, Raw, RawReply, Reply, is_open}
use Rattle.gb_machine.specs.Events.{shows}
use Rattle.gb_machine.specs.HostServing.{HostServed}
use Rattle.gb_machine.specs.Incoming.{Incoming}
use Rattle.gb_machine.specs.LineActions.{answers, answers_at, answers_held, injects}
use Rattle.gb_machine.specs.LineActions.{injects_at, serves_held}
use Rattle.gb_machine.specs.Modules.{module_at}
use Rattle.gb_machine.specs.Responding.{Response, creates, destroys, disconnects, far_response}
use Rattle.gb_machine.specs.Responding.{host_behind, module_response, replies, responds}
use Rattle.gb_machine.specs.Responding.{responds_plainly, responds_with, response_at, serves}
use Rattle.gb_machine.specs.Responding.{serves_oneway, svc_decided, unroutes, with_ports}
use Rattle.gb_machine.specs.Serving.{Answer, plainly}
use Rattle.gb_machine.specs.Settling.{settles, settles_at, settles_from}
use Rattle.gb_machine.specs.State.{State, Port}
use Rattle.gb_machine.specs.SvcTable.{Answered, Create, Destroy, SvcServed, Unroute, svc_step}
use Rattle.gb_machine.specs.Waiting.{first_waiting}
use Rattle.gb_machine.specs.Wires.{wires}
use Rattle.gb_machine.specs.Wiring.{is_wired_to, joining}
use Rattle.gb_share.proofs.NamesKept.{Keeps, keeps_by_state, keeps_change, keeps_disconnects}
use Rattle.gb_share.proofs.NamesKept.{keeps_far_asks_all, keeps_follows, keeps_given, keeps_if}
use Rattle.gb_share.proofs.NamesKept.{keeps_nothing, keeps_notices, keeps_on_bus, keeps_on_host}
use Rattle.gb_share.proofs.NamesKept.{keeps_tell, keeps_tell_all, keeps_then, keeps_wires}

-- ---- serving

keeps_with_ports : (ports : List Port) → Keeps (with_ports ports)
unfolding with_ports
keeps_with_ports ports = keeps_change _ (λ s. refl)

keeps_host_behind : (h : HostServed) → Keeps (host_behind h)
unfolding host_behind
keeps_host_behind h =
    keeps_then _ _ (keeps_then _ _ (keeps_on_host _) (keeps_given _ _ keeps_tell))
    (keeps_given _ _ keeps_notices)

keeps_creates : (o : Option Connection) → Keeps (creates o).behind
keeps_creates None = keeps_nothing
keeps_creates (Some c) = by c.wired
  where
    by : (b : Bool) → Keeps (if b then responds_plainly invalid
        else responds_with (plainly success) (wires c.number)).behind
    by true = keeps_nothing
    by false = keeps_wires c.number

keeps_destroys : (o : Option Connection) → Keeps (destroys o).behind
keeps_destroys None = keeps_nothing
keeps_destroys (Some c) = by c.wired
  where
    by : (b : Bool) → Keeps (if b then responds_with (plainly success) (disconnects c.number)
        else responds_plainly nonexistent).behind
    by true = keeps_disconnects c.number
    by false = keeps_nothing

keeps_unroutes : (b : Bool) (i : ℕ) (ports : List Port) → Keeps (unroutes b i ports).behind
keeps_unroutes true i ports = keeps_nothing
keeps_unroutes false i ports = keeps_with_ports _

keeps_svc_decided : (d : SvcServed) (ports : List Port) (s : State)
    → Keeps (svc_decided d ports s).behind
keeps_svc_decided (Answered result payload) ports s = keeps_with_ports ports
keeps_svc_decided (Create ap i c) ports s = keeps_creates (joining ap i c s.bus)
keeps_svc_decided (Destroy ap i c) ports s = keeps_destroys (joining ap i c s.bus)
keeps_svc_decided (Unroute i) ports s =
    keeps_unroutes (list_any (is_wired_to i) s.bus.connections) i ports

keeps_module_response : (k i c : ℕ) (q : Incoming) (o : Option Module)
    → Keeps (module_response k i c q o).behind
keeps_module_response k i c q None = keeps_nothing
keeps_module_response k i c q (Some m) =
    keeps_then _ _ (keeps_change _ (λ s. refl)) (keeps_far_asks_all k _)

keeps_far_response : (at : End) (k : ℕ) (q : Incoming) (s : State)
    → Keeps (far_response at k q s).behind
keeps_far_response (end.Module i c) k q s = keeps_module_response k i c q (module_at i s.modules)
keeps_far_response end.Svc k q s =
    keeps_svc_decided (svc_step s.ports q.kind q.payload).served
    (svc_step s.ports q.kind q.payload).ports s
keeps_far_response (end.Ap a) k q s = keeps_nothing

keeps_response_at : (at : Side) (c : Connection) (q : Incoming) (s : State)
    → Keeps (response_at at c q s).behind
keeps_response_at side.Ap c q s = keeps_host_behind _
keeps_response_at side.Far c q s = keeps_far_response c.peer c.number q s

keeps_replies : (at : Side) (c : Connection) (q : Incoming)
    (a : Answer) → Keeps (replies at c q a)
unfolding replies
keeps_replies at c q a = keeps_then _ _ (keeps_on_bus _) (keeps_tell _)

keeps_responds : (at : Side) (c : Connection) (q : Incoming) (r : Response) → Keeps r.behind
    → Keeps (responds at c q r)
unfolding responds serves_oneway
keeps_responds at c q r behind =
    keeps_if q.oneway _ _ (keeps_if (r.answer.result == success) _ _ behind (keeps_tell _))
    (keeps_then _ _ (keeps_replies at c q r.answer) behind)

keeps_serves : (at : Side) (c : Connection) (q : Incoming) → Keeps (serves at c q)
unfolding serves
keeps_serves at c q =
    keeps_by_state _ (λ s. keeps_responds at c q _ (keeps_response_at at c q s))

-- ---- delivering

keeps_asked_at : (at : Side) (c : Connection) (item : Item) (q : Incoming)
    → Keeps (asked_at at c item q)
unfolding asked_at keeps
keeps_asked_at at c item q =
    keeps_by_state _ (λ s. keeps_if (is_held at c s) _ _
    (keeps_then _ _ (keeps_change _ (λ t. refl)) (keeps_tell _)) (keeps_serves at c q))

keeps_ends_answered : (at : Side) (c : Connection) (n result : ℕ) (payload : List ℕ)
    → Keeps (ends_answered at c n result payload)
unfolding ends_answered ends
keeps_ends_answered at c n result payload =
    keeps_by_state _ (λ s. keeps_then _ _ (keeps_then _ _ (keeps_on_bus _) (keeps_tell _))
    (keeps_follows n _))

keeps_forgets : (n : ℕ) (e : Entry) → Keeps (forgets n e)
unfolding forgets
keeps_forgets n e = keeps_then _ _ (keeps_on_bus _) (keeps_tell e)

keeps_by_number : (at : Side) (c : Connection) (n result : ℕ) (payload : List ℕ)
    → Keeps (by_number at c n result payload)
unfolding by_number
keeps_by_number at c n result payload =
    keeps_by_state _ (λ s. keeps_if (is_open n s.bus) _ _
    (keeps_ends_answered at c n result payload) (keeps_forgets n _))

keeps_late_by : (o : Option ℕ) (label : ℕ) → Keeps (late_by o label)
unfolding late_by
keeps_late_by None label = keeps_tell _
keeps_late_by (Some n) label = keeps_forgets n _

keeps_answers_by : (o late : Option ℕ) (at : Side) (c : Connection) (label result : ℕ)
    (payload : List ℕ) → Keeps (answers_by o late at c label result payload)
unfolding answers_by
keeps_answers_by (Some n) late at c label result payload =
    keeps_ends_answered at c n result payload
keeps_answers_by None late at c label result payload = keeps_late_by late label

keeps_by_label : (at : Side) (c : Connection) (label result : ℕ) (payload : List ℕ)
    → Keeps (by_label at c label result payload)
unfolding by_label
keeps_by_label at c label result payload =
    keeps_by_state _ (λ s. keeps_answers_by _ _ at c label result payload)

keeps_reply_taken : (at : Side) (c : Connection) (n result : ℕ) (payload : List ℕ)
    → Keeps (reply_taken at c n result payload)
unfolding reply_taken
keeps_reply_taken at c n result payload =
    keeps_if c.clean _ _ (keeps_by_number at c n result payload)
    (keeps_by_state _ (λ s. keeps_given _ _ (λ r. keeps_by_label at c r.label result payload)))

keeps_raw_taken : (at : Side) (c : Connection) (item : Item)
    (r : Result Message RawFault)
    → Keeps (raw_taken at c item r)
unfolding raw_taken
keeps_raw_taken at c item (Err fault) = keeps_tell _
keeps_raw_taken at c item (Ok m) =
    keeps_if _ _ _ (keeps_asked_at at c item _) (keeps_by_label at c m.id m.result m.payload)

keeps_arrives : (at : Side) (c : Connection) (item : Item) → Keeps (arrives at c item)
unfolding arrives
keeps_arrives at c (Ask n) =
    keeps_by_state _ (λ s. keeps_given _ _ (λ r. keeps_asked_at at c (Ask n) _))
keeps_arrives at c (Reply n result payload) = keeps_reply_taken at c n result payload
keeps_arrives at c (Raw bytes) = keeps_raw_taken at c (Raw bytes) _
keeps_arrives at c (RawReply label kind result payload) = keeps_by_label at c label result payload

keeps_handles : (at : Side) (c : Connection) (item : Item) → Keeps (handles at c item)
unfolding handles
keeps_handles at c item =
    keeps_by_state _ (λ s. keeps_if (takes at c s) _ _ (keeps_arrives at c item) (keeps_tell _))

pub keeps_delivers : (at : End) → Keeps (delivers at)
unfolding delivers delivers_at
keeps_delivers at =
    keeps_by_state _ (λ s. keeps_given _ _ (λ p. keeps_given _ _ (λ item.
    keeps_then _ _ (keeps_on_bus _) (keeps_handles p.side p.connection item))))

keeps_settles_from : (left done : ℕ) → Keeps (settles_from left done)
unfolding settles_from settles_at
keeps_settles_from zero done = keeps_tell _
keeps_settles_from (suc left) done =
    keeps_by_state _ (λ s. by (first_waiting s.bus) (settles_from left (done + 1))
    (keeps_settles_from left (done + 1)))
  where
    by : (o : Option End) (f : Action) → Keeps f → Keeps (settles_at o done f)
    by None f later = keeps_tell _
    by (Some at) f later = keeps_then _ _ (keeps_delivers at) later

pub keeps_settles : (most : ℕ) → Keeps (settles most)
unfolding settles
keeps_settles most = keeps_settles_from most 0

-- ---- lines

pub keeps_answers : (i c place : ℕ) → Keeps (answers i c place)
unfolding answers answers_at answers_held serves_held
keeps_answers i c place =
    keeps_by_state _ (λ s. keeps_given _ _ (λ p. keeps_by_state _ (λ t. keeps_given _ _ (λ h.
    keeps_then _ _ (keeps_change _ (λ u. refl))
    (keeps_by_state _ (λ u. keeps_if _ _ _
    (keeps_given _ _ (λ q. keeps_serves p.side p.connection q)) (keeps_tell _)))))))

pub keeps_injects : (i c : ℕ) (bytes : List ℕ) → Keeps (injects i c bytes)
unfolding injects injects_at
keeps_injects i c bytes =
    keeps_by_state _ (λ s. keeps_given _ _ (λ p.
    keeps_then _ _ (keeps_change _ (λ t. refl)) (keeps_tell _)))

pub keeps_shows : Keeps shows
unfolding shows
keeps_shows = keeps_by_state _ (λ s. keeps_tell_all _)
