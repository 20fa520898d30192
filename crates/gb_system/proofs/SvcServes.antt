-- The supervisory controller serves a request as the machine does.
use Rattle.std.proofs.Common.{◌≡◌, ℕ, false, List, [], ◌∷◌, append-nil, refl, sym, ap, ◌∙◌}
use Rattle.gb_base.specs.declared.end.End.TheVariants as end
use Rattle.gb_base.specs.declared.end.Side.TheVariants as side
use Rattle.gb_base.specs.declared.entry.Entry.{Entry}
use Rattle.gb_bus.specs.Delivering.{MayReply}
use Rattle.gb_bus.specs.Stands as bus
use Rattle.gb_bus.specs.declared.answers.Asked.{Asked}
use Rattle.gb_bus.specs.declared.bus.Bus.{Bus}
use Rattle.gb_machine.proofs.Opened.{machine_opened}
use Rattle.gb_machine.proofs.Steps.{told, with_bus}
use Rattle.gb_machine.specs.Actions.{Action, Told, nothing, ◌▸◌}
use Rattle.gb_machine.specs.Bus.{Connection, Item}
use Rattle.gb_machine.specs.Delivery.{replied}
use Rattle.gb_machine.specs.Incoming.{Incoming, reply_entry, reply_item}
use Rattle.gb_machine.specs.Responding.{Response, disconnects, far_response, replies, responds}
use Rattle.gb_machine.specs.Responding.{serves, svc_stepped}
use Rattle.gb_machine.specs.Serving.{Answer}
use Rattle.gb_machine.specs.State.{Port, State}
use Rattle.gb_machine.specs.SvcTable.{svc_step}
use Rattle.gb_machine.specs.Wires.{wires, with_wired}
use Rattle.gb_machine.specs.Wiring.{wired}
use Rattle.gb_switch.specs.declared.ladder.Ladder.{Ladder}
use Rattle.gb_system.proofs.Doings.{does-as, does-is, does-then}
use Rattle.gb_system.proofs.Heard.{far-reply, may-reply}
use Rattle.gb_system.proofs.Replies.{responds-twoway}
use Rattle.gb_system.proofs.Standing.{rebussed, relevelled, repast}
use Rattle.gb_system.specs.Deciding.{Decides, DoesBehind, DoesThis, action_of, answer_of}
use Rattle.gb_system.specs.Doing.{Does}
use Rattle.gb_system.specs.Drafts.{IsUpon}
use Rattle.gb_system.specs.Serving.{IsDelivered, only}
use Rattle.gb_system.specs.Stands.{PartsStand, around_bus}
use Rattle.gb_system.specs.declared.deciding.Behind.{Behind}
use Rattle.gb_system.specs.declared.deciding.Behind.TheVariants as behind
use Rattle.gb_system.specs.declared.deciding.Decision.{Decision}
use Rattle.gb_system.specs.declared.parties.Parties.{Parties}

-- ---- what comes after a reply

wires-is : (k : ℕ) (s : State) → wires k s ≡ told (with_wired k s) []
unfolding machine_opened
wires-is k s = refl

pub wire-done : {x : Parties} {s : State} {a : List Entry} (y : Bus) (k : ℕ) → PartsStand [] x s
    → bus.Stands (around_bus [] s) y (wired k s.bus) → Does (record x { bus = y }) (wires k) s a a
wire-done {x} {s} {a} y k st stands =
    does-is (with_wired k s) [] (wires-is k s) (sym (append-nil a))
    (repast (with_wired k s).past (rebussed [] y (wired k s.bus) st stands
    refl))

-- ---- a request of the application processor

-- the machine's answer, and what comes after it
serves-is : (c : Connection) (q : Incoming) (s : State) (resp : Response)
    → c.peer ≡ end.Svc → q.oneway ≡ false
    → svc_stepped (svc_step s.ports q.kind q.payload) s ≡ resp
    → serves side.Far c q s ≡ (replies side.Far c q resp.answer ▸ resp.behind) s
unfolding machine_opened
serves-is c q s resp peer twoway is =
    ap (λ p. responds side.Far c q (far_response p c.number q s) s) peer
    ∙ ap (λ o. responds side.Far c q o s) is ∙ responds-twoway side.Far c q resp s twoway

-- the levels may change before the reply or after it
levels-is : (c : Connection) (q : Incoming) (a : Answer) (ports : List Port) (s : State)
    → (replies side.Far c q a ▸ nothing) (record s { ports = ports })
    ≡ told (with_bus (replied c.number side.Ap (reply_item q a) s.bus) (record s { ports = ports }))
    (reply_entry side.Far c q a ∷ [])
unfolding machine_opened
levels-is c q a ports s = refl

levels-after : (c : Connection) (q : Incoming) (a : Answer) (does : Action) (ports : List Port)
    (s : State)
    → ((t : State) → t.ports ≡ s.ports
    → does t ≡ record { state = record t { ports = ports }; entries = [] })
    → (replies side.Far c q a ▸ does) s
    ≡ told (with_bus (replied c.number side.Ap (reply_item q a) s.bus) (record s { ports = ports }))
    (reply_entry side.Far c q a ∷ [])
unfolding machine_opened
levels-after c q a does ports s is =
    ap (λ (t : Told). told t.state (reply_entry side.Far c q a ∷ t.entries))
    (is (with_bus (replied c.number side.Ap (reply_item q a) s.bus) s) refl)

pub svc-served : {x y z : Parties} {s : State} {a b e : List Entry} (l : Ladder) (k : ℕ)
    (asked : Asked) (payload : List ℕ) (c : Connection) (item : Item) (dec : Decision)
    → (d : IsDelivered end.Svc k asked payload s c item) → PartsStand (only k side.Far item) x s
    → Decides l s (svc_stepped (svc_step s.ports asked.kind payload) s) dec
    → ((t : State) → PartsStand (only k side.Far item) (record x { ladder = l }) t
    → IsUpon k t.bus c → (may : MayReply asked t.bus item)
    → Does y (replies side.Far c may.request (answer_of dec)) t a b)
    → ((t : State) → PartsStand [] y t → Does z (action_of dec.behind) t b e)
    → Does z (serves side.Far c d.request) s a e
svc-served {x} {y} {z} {s} {a} {b} {e} l k asked payload c item dec d st decides answers follows =
    let q = d.request in
    let stepped = ap (λ m. svc_stepped (svc_step s.ports m q.payload) s) (sym d.names.kind)
    ∙ ap (λ p. svc_stepped (svc_step s.ports asked.kind p) s) (sym d.payload_is) in
    let resp = svc_stepped (svc_step s.ports asked.kind payload) s in
    let same : (replies side.Far c q (answer_of dec) ▸ resp.behind) s
    ≡ serves side.Far c q s =
    ap (λ w. (replies side.Far c q w ▸ resp.behind) s) (sym decides.answer)
    ∙ sym (serves-is c q s resp d.there (far-reply d refl st) stepped) in
    does-as same (by dec.behind decides.behind follows)
  where
    by_this : (this : Action)
        → DoesThis l s (svc_stepped (svc_step s.ports asked.kind payload) s).behind this
        → ((t : State) → PartsStand [] y t → Does z this t b e)
        → Does z (replies side.Far c d.request (answer_of dec)
        ▸ (svc_stepped (svc_step s.ports asked.kind payload) s).behind) s a e
    by_this this w then =
        let q = d.request in
        let answered_so = answers s (relevelled l s.ports st w.stands) d.upon
        (may-reply d (far-reply d refl st)) in
        does-as (ap (λ (g : Action). (replies side.Far c q (answer_of dec) ▸ g) s) (sym w.is))
        (does-then answered_so
        (then (replies side.Far c q (answer_of dec) s).state answered_so.stand))

    by : (w : Behind)
        → DoesBehind l s (svc_stepped (svc_step s.ports asked.kind payload) s).behind w
        → ((t : State) → PartsStand [] y t → Does z (action_of w) t b e)
        → Does z (replies side.Far c d.request (answer_of dec)
        ▸ (svc_stepped (svc_step s.ports asked.kind payload) s).behind) s a e
    by behind.Nothing w then =
        let q = d.request in
        let t = record s { ports = w.ports } in
        let does = (svc_stepped (svc_step s.ports asked.kind payload) s).behind in
        let answered_so = answers t (relevelled l w.ports st w.stands) d.upon
        (may-reply d (far-reply d refl st)) in
        does-as (levels-is c q (answer_of dec) w.ports s
        ∙ sym (levels-after c q (answer_of dec) does w.ports s w.is))
        (does-then answered_so
        (then (replies side.Far c q (answer_of dec) t).state answered_so.stand))
    by (behind.Wire j) w then = by_this (wires j) w then
    by (behind.Unwire j) w then = by_this (disconnects j) w then
