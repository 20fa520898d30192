-- The machine's deliveries of responses that go by their identifiers, and of bytes that
-- are no message.
use Rattle.std.proofs.Common.{◌≡◌, ℕ, Bool, true, false, if◌then◌else◌, Option, Some, None}
use Rattle.std.proofs.Common.{option_map, Result, Ok, Err, List, [], ◌∷◌, refl, sym, ap, ◌∙◌}
use Rattle.gb_base.specs.declared.end.End.{End}
use Rattle.gb_base.specs.declared.end.Side.{Side}
use Rattle.gb_base.specs.declared.entry.Entry.TheVariants as entry
use Rattle.gb_base.specs.declared.reasons.RawFault.{RawFault}
use Rattle.gb_bus.specs.Delivering.{Response, raw_response, response, response_in}
use Rattle.gb_formats.specs.Message.{Message}
use Rattle.gb_formats.specs.Wire.{raw_message}
use Rattle.gb_invariants.proofs.Awaiting.{same-some}
use Rattle.gb_machine.proofs.Opened.{machine_opened}
use Rattle.gb_machine.proofs.Steps.{delivers-arrives, told, with_bus}
use Rattle.gb_machine.specs.Actions.{by_state, given}
use Rattle.gb_machine.specs.Arriving.{answers_by, arrives, asked_at, by_label, by_number, delivers}
use Rattle.gb_machine.specs.Arriving.{ends_answered, late_by, raw_taken, takes}
use Rattle.gb_machine.specs.Bus.{Ask, Connection, Item, Place, Raw, RawReply, Reply, Request}
use Rattle.gb_machine.specs.Bus.{place_of, queue, request_of}
use Rattle.gb_machine.specs.Delivery.{forgotten, popped}
use Rattle.gb_machine.specs.Incoming.{incoming_raw, is_request}
use Rattle.gb_machine.specs.Lists.{first}
use Rattle.gb_machine.specs.Requests.{given_up_with, open_with}
use Rattle.gb_machine.specs.State.{State}

-- the state once the front message was taken
abbrev pub taken_state : State → Place → State
taken_state s p = with_bus (popped p.connection.number p.side s.bus) s

-- ---- a response that goes by its identifier

-- it is taken so
arrives-label : (at : Side) (c : Connection) (item : Item) (r : Response) (t : State)
    → response_in c.clean item t.bus ≡ Some r
    → arrives at c item t ≡ by_label at c r.label r.result r.payload t
unfolding machine_opened
arrives-label at c (Ask n) r t is = absurd cc
arrives-label at c (Reply n result payload) r t is = by c.clean is
  where
    by_request : (o : Option Request)
        → option_map (λ (q : Request). response q.label result payload) o ≡ Some r
        → given o (λ (q : Request). by_label at c q.label result payload) t
        ≡ by_label at c r.label r.result r.payload t
    by_request None e = absurd cc
    by_request (Some q) e =
        ap (λ (w : Response). by_label at c w.label w.result w.payload t)
        (same-some (response q.label result payload) r e)

    by : (u : Bool) → response_in u (Reply n result payload) t.bus ≡ Some r
        → (if u then by_number at c n result payload
        else by_state (λ s. given (request_of n s.bus)
        (λ (q : Request). by_label at c q.label result payload))) t
        ≡ by_label at c r.label r.result r.payload t
    by true e = absurd cc
    by false e = by_request (request_of n t.bus) e
arrives-label at c (Raw bytes) r t is = by (raw_message bytes) is
  where
    by_kind : (m : Message) (u : Bool)
        → (if u then None else Some (response m.id m.result m.payload)) ≡ Some r
        → (if u then asked_at at c (Raw bytes) (incoming_raw m)
        else by_label at c m.id m.result m.payload) t
        ≡ by_label at c r.label r.result r.payload t
    by_kind m true e = absurd cc
    by_kind m false e =
        ap (λ (w : Response). by_label at c w.label w.result w.payload t)
        (same-some (response m.id m.result m.payload) r e)

    by : (x : Result Message RawFault) → raw_response x ≡ Some r
        → raw_taken at c (Raw bytes) x t ≡ by_label at c r.label r.result r.payload t
    by (Err fault) e = absurd cc
    by (Ok m) e = by_kind m (is_request m) e
arrives-label at c (RawReply label kind result payload) r t is =
    ap (λ (w : Response). by_label at c w.label w.result w.payload t)
    (same-some (response label result payload) r is)

-- a response is the same once it was taken from its queue
response-taken : (u : Bool) (p : Place) (item : Item) (s : State)
    → response_in u item (taken_state s p).bus ≡ response_in u item s.bus
response-taken u p (Ask n) s = refl
response-taken u p (Reply n result payload) s = refl
response-taken u p (Raw bytes) s = refl
response-taken u p (RawReply label kind result payload) s = refl

-- it is delivered by the requests that have its identifier
by_label-is : (s : State) (at : End) (p : Place) (item : Item) (r : Response)
    (opened late : Option ℕ)
    → place_of at s.bus.connections ≡ Some p → first (queue p.side p.connection) ≡ Some item
    → takes p.side p.connection s ≡ true → response_in p.connection.clean item s.bus ≡ Some r
    → open_with p.connection.number p.side r.label (taken_state s p).bus ≡ opened
    → given_up_with p.connection.number p.side r.label (taken_state s p).bus ≡ late
    → delivers at s
    ≡ answers_by opened late p.side p.connection r.label r.result r.payload (taken_state s p)
unfolding machine_opened
by_label-is s at p item r opened late named front taken is found kept =
    let c = p.connection in
    let t = taken_state s p in
    delivers-arrives s at p item named front taken
    ∙ arrives-label p.side c item r t (response-taken c.clean p item s ∙ is)
    ∙ ap (λ o. answers_by o (given_up_with c.number p.side r.label t.bus) p.side c r.label r.result
    r.payload t) found
    ∙ ap (λ o. answers_by opened o p.side c r.label r.result r.payload t) kept

-- it ends the open one
pub by_label-opens : (s : State) (at : End) (p : Place) (item : Item) (r : Response) (n : ℕ)
    → place_of at s.bus.connections ≡ Some p → first (queue p.side p.connection) ≡ Some item
    → takes p.side p.connection s ≡ true → response_in p.connection.clean item s.bus ≡ Some r
    → open_with p.connection.number p.side r.label (taken_state s p).bus ≡ Some n
    → delivers at s ≡ ends_answered p.side p.connection n r.result r.payload (taken_state s p)
unfolding machine_opened
by_label-opens s at p item r n named front taken is found =
    by_label-is s at p item r (Some n)
    (given_up_with p.connection.number p.side r.label (taken_state s p).bus) named front taken is
    found refl

-- or frees the identifier of one that was given up
pub by_label-late : (s : State) (at : End) (p : Place) (item : Item) (r : Response) (label n : ℕ)
    → place_of at s.bus.connections ≡ Some p → first (queue p.side p.connection) ≡ Some item
    → takes p.side p.connection s ≡ true → response_in p.connection.clean item s.bus ≡ Some r
    → label ≡ r.label
    → open_with p.connection.number p.side label (taken_state s p).bus ≡ None
    → given_up_with p.connection.number p.side label (taken_state s p).bus ≡ Some n
    → delivers at s
    ≡ told (with_bus (forgotten n (popped p.connection.number p.side s.bus)) s)
    (entry.LateLabel label ∷ [])
unfolding machine_opened
by_label-late s at p item r label n named front taken is same none found =
    let c = p.connection in
    by_label-is s at p item r None (Some n) named front taken is
    (ap (λ l. open_with c.number p.side l (taken_state s p).bus) (sym same) ∙ none)
    (ap (λ l. given_up_with c.number p.side l (taken_state s p).bus) (sym same) ∙ found)
    ∙ ap (λ l. late_by (Some n) l (taken_state s p)) (sym same)

-- or is unknown
pub by_label-unknown : (s : State) (at : End) (p : Place) (item : Item) (r : Response) (label : ℕ)
    → place_of at s.bus.connections ≡ Some p → first (queue p.side p.connection) ≡ Some item
    → takes p.side p.connection s ≡ true → response_in p.connection.clean item s.bus ≡ Some r
    → label ≡ r.label
    → open_with p.connection.number p.side label (taken_state s p).bus ≡ None
    → given_up_with p.connection.number p.side label (taken_state s p).bus ≡ None
    → delivers at s ≡ told (taken_state s p) (entry.UnknownLabel label ∷ [])
unfolding machine_opened
by_label-unknown s at p item r label named front taken is same none unkept =
    let c = p.connection in
    by_label-is s at p item r None None named front taken is
    (ap (λ l. open_with c.number p.side l (taken_state s p).bus) (sym same) ∙ none)
    (ap (λ l. given_up_with c.number p.side l (taken_state s p).bus) (sym same) ∙ unkept)
    ∙ ap (λ l. late_by None l (taken_state s p)) (sym same)

-- ---- bytes that are no message

pub delivers-bad : (s : State) (at : End) (p : Place) (bytes : List ℕ) (fault : RawFault)
    → place_of at s.bus.connections ≡ Some p
    → first (queue p.side p.connection) ≡ Some (Raw bytes)
    → takes p.side p.connection s ≡ true → raw_message bytes ≡ Err fault
    → delivers at s ≡ told (taken_state s p) (entry.BadRaw fault ∷ [])
unfolding machine_opened
delivers-bad s at p bytes fault named front taken bad =
    delivers-arrives s at p (Raw bytes) named front taken
    ∙ ap (λ r. raw_taken p.side p.connection (Raw bytes) r (taken_state s p)) bad
