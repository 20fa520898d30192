-- Lines that hold requests, and requests that are held and served, do what the machine does.
use Rattle.std.proofs.Common.{◌≡◌, ℕ, Bool, true, false, cond, is_none, Option, Some, None, Ok, Err}
use Rattle.std.proofs.Common.{option_map, List, [], ◌∷◌, ◌++◌, append-nil, refl, sym, ap, ◌∙◌}
use Rattle.std.proofs.Common.{subst}
use Rattle.std.proofs.lemmas.List.{map-append}
use Rattle.gb_base.specs.declared.end.End.{End}
use Rattle.gb_base.specs.declared.end.End.TheVariants as end
use Rattle.gb_base.specs.declared.end.Side.{Side}
use Rattle.gb_base.specs.declared.end.Side.TheVariants as side
use Rattle.gb_base.specs.declared.entry.Entry.{Entry}
use Rattle.gb_base.specs.declared.entry.Entry.TheVariants as entry
use Rattle.gb_base.specs.declared.event.Event.TheVariants as event
use Rattle.gb_base.specs.declared.refusal.Refusal.TheVariants as why
use Rattle.gb_bus.proofs.Loosening.{stands-between}
use Rattle.gb_bus.specs.Delivering.{Names, taken_from}
use Rattle.gb_bus.specs.Stands as bus
use Rattle.gb_bus.specs.Wiring.{number_of}
use Rattle.gb_bus.specs.declared.answers.Asked.{Asked}
use Rattle.gb_machine.proofs.Opened.{machine_opened}
use Rattle.gb_machine.specs.Actions.{change, given, tell}
use Rattle.gb_machine.specs.Arriving.{asked_at, dropped, is_held, keeps, takes, with_held}
use Rattle.gb_machine.specs.Bus.{Connection, Item, Place}
use Rattle.gb_machine.specs.Events.{does, with_hold}
use Rattle.gb_machine.specs.Holding.{marked}
use Rattle.gb_machine.specs.Incoming.{Incoming, incoming, request_in}
use Rattle.gb_machine.specs.LineActions.{serves_held}
use Rattle.gb_machine.specs.Lists.{Condition, first_met}
use Rattle.gb_machine.specs.Refusals.{is_unplugged, module_place}
use Rattle.gb_machine.specs.Responding.{serves}
use Rattle.gb_machine.specs.State.{Held, State}
use Rattle.gb_system.proofs.Doings.{does-as, does-by_state, does-change, does-given, does-is}
use Rattle.gb_system.proofs.Doings.{does-tell}
use Rattle.gb_system.proofs.Heard.{made-as, request-dropped}
use Rattle.gb_system.proofs.HoldMarks.{marked-alike}
use Rattle.gb_system.proofs.Holdings.{stand-pushed}
use Rattle.gb_system.proofs.Standing.{let-gone, reheld, remarked}
use Rattle.gb_system.specs.Doing.{Does, IsDone}
use Rattle.gb_system.specs.Held.{HoldsAs, MarksAs, held_at}
use Rattle.gb_system.specs.Holding.{WiredAs}
use Rattle.gb_system.specs.Serving.{IsDelivered, MayServe, only, side_of}
use Rattle.gb_system.specs.Stands.{PartiesStand, PartsStand, StandsForHeld, held_item, held_items}
use Rattle.gb_system.specs.Stands.{names_of}
use Rattle.gb_system.specs.declared.held.HeldRequest.{HeldRequest}
use Rattle.gb_system.specs.declared.held.HeldRequests.{HeldRequests}
use Rattle.gb_system.specs.declared.parties.Parties.{Parties}

-- ---- where a line's CPort is wired

-- the conditions, by what they ask
abbrev conditions_by : Bool → Option Place → List Condition
conditions_by unplugged o = (unplugged, why.NoInterface) ∷ (is_none o, why.NoConnection) ∷ []

pub wired-nowhere : (s : State) (i c : ℕ) → is_unplugged i s ≡ true
    → WiredAs s i c (Err why.NoInterface)
wired-nowhere s i c there =
    ap (λ b. first_met (conditions_by b (module_place i c s))) there

pub wired-not : (s : State) (i c : ℕ) → is_unplugged i s ≡ false
    → None ≡ option_map number_of (module_place i c s) → WiredAs s i c (Err why.NoConnection)
wired-not s i c there none =
    ap (λ b. first_met (conditions_by b (module_place i c s))) there
    ∙ by (module_place i c s) none
  where
    by : (o : Option Place) → None ≡ option_map number_of o
        → first_met ((is_none o, why.NoConnection) ∷ []) ≡ Some why.NoConnection
    by None e = refl
    by (Some p) e = absurd cc

pub wired-there : (s : State) (i c k : ℕ) → is_unplugged i s ≡ false
    → Some k ≡ option_map number_of (module_place i c s) → WiredAs s i c (Ok k)
wired-there s i c k there is = (
  ap (λ b. first_met (conditions_by b (module_place i c s))) there
      ∙ by (module_place i c s) is,
  sym is,
)
  where
    by : (o : Option Place) → Some k ≡ option_map number_of o
        → first_met ((is_none o, why.NoConnection) ∷ []) ≡ None
    by None e = absurd cc
    by (Some p) e = refl

-- the place itself
pub record IsAt (s : State) (i c k : ℕ) : Type 0 where
  pub place : Place
  pub named : module_place i c s ≡ Some place
  pub number : place.connection.number ≡ k

pub is-at : (s : State) (i c k : ℕ) → option_map number_of (module_place i c s) ≡ Some k
    → IsAt s i c k
is-at s i c k is = by (module_place i c s) refl is
  where
    by : (o : Option Place) → module_place i c s ≡ o → option_map number_of o ≡ Some k
        → IsAt s i c k
    by None e h = absurd cc
    by (Some p) e h = record {
      place = p;
      named = e;
      number = let same : number_of p ≡ k = cc in same;
    }

-- ---- a connection gets the hold mark

does-holds : {y : Parties} (s : State) (i c : ℕ) (p : Place) {a b : List Entry}
    → module_place i c s ≡ Some p → Does y (change (with_hold p.connection.number)) s a b
    → Does y (does (event.Hold i c)) s a b
unfolding machine_opened
does-holds s i c p named d =
    does-by_state (λ t. given (module_place i c t) (λ q. change (with_hold q.connection.number)))
    (does-given (λ (q : Place). change (with_hold q.connection.number)) p named d)

pub hold-done : (x : Parties) (holds : List ℕ) (s : State) (i c k : ℕ) (told : List Entry)
    → PartiesStand x s → WiredAs s i c (Ok k) → MarksAs x.holds holds k true
    → IsDone (record x { holds = holds }) s (event.Hold i c) told told
hold-done x holds s i c k told st wired marks =
    let y = record x { holds = holds } in
    let w = is-at s i c k wired.1 in record {
      allowed = wired.0;
      done =
          does-holds s i c w.place w.named
          (subst (λ j. Does y (change (with_hold j)) s told told) (sym w.number)
          (does-change (with_hold k) (remarked holds (marked k s.holds) st.parts
          (marked-alike x.holds holds s.holds k marks st.parts.rest.holds))));
    }

-- ---- a request that is delivered is held

-- at an end that holds
pub held-far : (at : End) (c : Connection) (s : State) → is_held (side_of at) c s ≡ true
    → side_of at ≡ side.Far
held-far (end.Ap a) c s h = absurd cc
held-far end.Svc c s h = refl
held-far (end.Module i p) c s h = refl

asked-by : (at : Side) (c : Connection) (item : Item) (q : Incoming) (s : State) (t : Bool)
    → is_held at c s ≡ t
    → asked_at at c item q s ≡ (cond t (keeps c item q) (serves at c q)) s
unfolding machine_opened
asked-by at c item q s t h = ap (λ b. (cond b (keeps c item q) (serves at c q)) s) h

-- what is delivered, by other names
abbrev pub delivered-as : {at : End} {k : ℕ} {asked : Asked} {payload : List ℕ} {s : State}
    {c : Connection} {item : Item} (bytes : List ℕ) → bytes ≡ payload
    → IsDelivered at k asked payload s c item → IsDelivered at k asked bytes s c item
delivered-as bytes same d = record {
  request = d.request;
  is = d.is;
  names = d.names;
  payload_is = same ∙ d.payload_is;
  upon = d.upon;
  there = d.there;
  numbered = d.numbered;
}

-- it is served elsewhere
pub unheld : {y : Parties} {s : State} {a b : List Entry} (at : Side) (c : Connection)
    (item : Item) (q : Incoming) → false ≡ is_held at c s → Does y (serves at c q) s a b
    → Does y (asked_at at c item q) s a b
unheld {y} {s} at c item q free d = does-as (sym (asked-by at c item q s false (sym free))) d

keeps-is : (c : Connection) (item : Item) (q : Incoming) (s : State) → keeps c item q s
    ≡ record { state = with_held c.number item s; entries = entry.Held q.number ∷ [] }
unfolding machine_opened
keeps-is c item q s = refl

-- the parties stand for one more that is held
pub keep-stand : {x : Parties} {s : State} (held : HeldRequests) (k : ℕ) (item : Item)
    (h : HeldRequest) → PartsStand (only k side.Far item) x s
    → HoldsAs x.held held k (held_at x.held k ++ h ∷ [])
    → StandsForHeld s.bus.requests h (record { connection = k; item = item })
    → PartsStand [] (record x { held = held }) (with_held k item s)
keep-stand {x} {s} held k item h st holds one =
    let kept : Held = record { connection = k; item = item } in
    reheld [] x.bus s.bus held (s.held ++ kept ∷ []) st
    (subst (λ ls. bus.Stands (bus.around_of ls (names_of s)) x.bus s.bus)
    (sym (map-append held_item s.held _))
    (stands-between (names_of s) (held_items s) (taken_from k side.Far item) [] x.bus s.bus
    (subst (λ ls. bus.Stands (bus.around_of (taken_from k side.Far item ∷ ls) (names_of s))
    x.bus s.bus) (sym (append-nil (held_items s))) st.bus)))
    refl (stand-pushed s.held k h kept st.requests.held holds refl one)

pub kept-done : {x : Parties} {s : State} {a b : List Entry} (held : HeldRequests) (at : End)
    (k : ℕ) (asked : Asked) (payload : List ℕ) (c : Connection) (item : Item) (h : HeldRequest)
    → (d : IsDelivered at k asked payload s c item) → PartsStand (only k (side_of at) item) x s
    → true ≡ is_held (side_of at) c s
    → h ≡ record { asked = asked; payload = payload }
    → HoldsAs x.held held k (held_at x.held k ++ h ∷ [])
    → b ≡ a ++ entry.Held asked.number ∷ []
    → Does (record x { held = held }) (asked_at (side_of at) c item d.request) s a b
kept-done {x} {s} {a} {b} held at k asked payload c item h d st marked is holds pushed =
    let y = record x { held = held } in
    let q = d.request in
    let far = held-far at c s (sym marked) in
    let w = made-as d far in
    let one : StandsForHeld s.bus.requests h (record { connection = k; item = item }) = record {
      number = w.number;
      request = w.request;
      item_is = w.item_is;
      made = w.made;
      names = subst (λ (r : HeldRequest). Names r.asked (incoming w.number w.request)) (sym is)
          (subst (Names asked) (sym w.is) d.names);
      payload_is = ap (λ (r : HeldRequest). r.payload) is ∙ d.payload_is
          ∙ ap (λ (p : Incoming). p.payload) (sym w.is);
    } in
    let stand = keep-stand held k item h
    (subst (λ t. PartsStand (only k t item) x s) far st) holds one in
    does-is (with_held c.number item s) (entry.Held q.number ∷ [])
    (asked-by (side_of at) c item q s true (sym marked) ∙ keeps-is c item q s)
    (pushed ∙ ap (λ o. a ++ entry.Held o ∷ []) d.names.number)
    (subst (λ j. PartsStand [] y (with_held j item s)) (sym d.upon.number) stand)

-- ---- one that is held is served or dropped

serves-by : (p : Place) (item : Item) (q : Incoming) (s : State)
    → takes p.side p.connection s ≡ true → request_in item s.bus ≡ Some q
    → serves_held p item s ≡ serves p.side p.connection q s
unfolding machine_opened
serves-by p item q s taken is =
    ap (λ b. (cond b (given (request_in item s.bus) (serves p.side p.connection))
    (tell (dropped item))) s) taken
    ∙ ap (λ o. given o (serves p.side p.connection) s) is

drops-by : (p : Place) (item : Item) (s : State) → takes p.side p.connection s ≡ false
    → serves_held p item s ≡ tell (dropped item) s
unfolding machine_opened
drops-by p item s untaken =
    ap (λ b. (cond b (given (request_in item s.bus) (serves p.side p.connection))
    (tell (dropped item))) s) untaken

pub held-dropped : {x : Parties} {s : State} {a b : List Entry} (at : End) (k : ℕ) (asked : Asked)
    (payload : List ℕ) (p : Place) (item : Item)
    → (d : IsDelivered at k asked payload s p.connection item)
    → PartsStand (only k (side_of at) item) x s → false ≡ takes p.side p.connection s
    → b ≡ a ++ entry.Dropped asked.number false ∷ [] → Does x (serves_held p item) s a b
held-dropped {x} {s} {a} at k asked payload p item d st untaken pushed =
    does-as {f = tell (dropped item)} (sym (drops-by p item s (sym untaken)))
    (does-tell (dropped item)
    (let-gone (taken_from k (side_of at) item) [] st)
    (pushed ∙ ap (λ o. a ++ entry.Dropped o false ∷ []) d.names.number
    ∙ ap (λ e. a ++ e ∷ []) (sym (request-dropped s.bus item d.request d.is))))

pub held-served : {x y : Parties} {s : State} {a b : List Entry} (at : End) (k : ℕ) (asked : Asked)
    (payload bytes : List ℕ) (p : Place) (item : Item)
    → (d : IsDelivered at k asked payload s p.connection item)
    → PartsStand (only k (side_of at) item) x s → side_of at ≡ p.side → p.side ≡ side.Far
    → true ≡ takes p.side p.connection s → bytes ≡ payload
    → ((e : IsDelivered at k asked bytes s p.connection item)
    → MayServe (side_of at) p.connection e.request s
    → Does y (serves (side_of at) p.connection e.request) s a b)
    → Does y (serves_held p item) s a b
held-served {x} {y} {s} {a} {b} at k asked payload bytes p item d st there far taken same serve =
    let q = d.request in
    does-as (ap (λ t. serves t p.connection q s) there
    ∙ sym (serves-by p item q s (sym taken) d.is))
    (serve (delivered-as bytes same d)
    (subst (λ t. MayServe t p.connection q s) (sym (there ∙ far)) tt))
