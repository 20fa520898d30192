-- What changes of a connection come to in what is seen of it, and what stays.
use Rattle.std.proofs.Common.{◌≡◌, ℕ, Bool, true, false, cond, List, [], ◌∷◌, ◌++◌, map, refl}
use Rattle.std.proofs.Common.{ap, ◌∙◌}
use Rattle.std.proofs.lemmas.List.{map-append}
use Rattle.gb_base.specs.declared.end.Side.{Side}
use Rattle.gb_base.specs.declared.end.Side.TheVariants as side
use Rattle.gb_bus.proofs.Standing.{AreShown, ShownAs, SeenAs, changed, stays-for}
use Rattle.gb_bus.specs.Connection.{Connection}
use Rattle.gb_bus.specs.Parts.{numbered, ops_of, put, queue_of, soiled, with_ops, with_queue}
use Rattle.gb_bus.specs.Parts.{with_wire, without_front}
use Rattle.gb_bus.specs.Shown.{connection_in, item_in, without_ops}
use Rattle.gb_bus.specs.Sides.{ChangesSide}
use Rattle.gb_bus.specs.declared.queue.Item.{Item}
use Rattle.gb_machine.specs.Bus as machine
use Rattle.gb_machine.specs.Bus.{Request, has_number, queue}
use Rattle.gb_machine.specs.Delivery as delivery
use Rattle.gb_machine.specs.Labels.{last_label, with_last_label}
use Rattle.gb_machine.specs.Lists.{at_first, behind_first}
use Rattle.gb_machine.specs.Sending as sending
use Rattle.gb_ops.specs.Operations.{Operations}

-- ---- what is seen

-- the requests of a side are others
pub ops-seen : (at : Side) (ops : Operations) → SeenAs (with_ops at ops) (λ x. x)
ops-seen side.Ap ops x = refl
ops-seen side.Far ops x = refl

-- then the connections are the machine's still
pub shown-changed : (rs : List Request) (xs ys : List Connection) (cs : List machine.Connection)
    (k : ℕ) (at : Side) (R : Operations → Operations → Type 0)
    → AreShown rs xs cs → ChangesSide xs ys k at R → AreShown rs ys cs
shown-changed rs xs ys cs k at R s d =
    ap (map without_ops) d.rest
    ∙ stays-for rs k (with_ops at d.after) xs cs (ops-seen at d.after) s

-- an identifier is drawn
pub drawn-shown : (rs : List Request) (at : Side) (label : ℕ)
    → ShownAs rs (with_last_label at label) (λ x. x)
drawn-shown rs side.Ap label c = refl
drawn-shown rs side.Far label c = refl

-- a message goes to the end of a queue, unless the connection isn't wired
pub put-seen : (at : Side) (i : Item) → SeenAs (put at i) (put at i)
put-seen at i x = by x.wired at
  where
    by : (w : Bool) (to : Side)
        → without_ops (cond w (with_queue to (queue_of to x ++ i ∷ []) x) x)
        ≡ cond w (with_queue to (queue_of to (without_ops x) ++ i ∷ []) (without_ops x))
        (without_ops x)
    by true side.Ap = refl
    by true side.Far = refl
    by false to = refl

pub put-shown : (rs : List Request) (at : Side) (m : machine.Item)
    → ShownAs rs (sending.put at m) (put at (item_in rs m))
put-shown rs at m c = by c.wired at
  where
    by : (w : Bool) (to : Side)
        → connection_in rs (cond w (machine.with_queue to (queue to c ++ m ∷ []) c) c)
        ≡ cond w (with_queue to (queue_of to (connection_in rs c) ++ item_in rs m ∷ [])
        (connection_in rs c)) (connection_in rs c)
    by true side.Ap =
        ap (λ is. record (connection_in rs c) { to_ap = is })
        (map-append (item_in rs) c.to_ap (m ∷ []))
    by true side.Far =
        ap (λ is. record (connection_in rs c) { to_far = is })
        (map-append (item_in rs) c.to_far (m ∷ []))
    by false to = refl

pub shown-put : (rs : List Request) (k : ℕ) (at : Side) (i : Item) (m : machine.Item)
    (g : machine.Connection → machine.Connection) (xs : List Connection)
    (cs : List machine.Connection)
    → i ≡ item_in rs m → ShownAs rs g (put at (item_in rs m)) → AreShown rs xs cs
    → AreShown rs (at_first (numbered k) (put at i) xs) (at_first (has_number k) g cs)
shown-put rs k at i m g xs cs is made s =
    changed rs k (put at i) g (put at (item_in rs m)) xs cs
    (λ x. put-seen at i x ∙ ap (λ j. put at j (without_ops x)) is) made s

-- the front message of a queue is taken
behind : (rs : List Request) (ms : List machine.Item)
    → map (item_in rs) (behind_first ms) ≡ behind_first (map (item_in rs) ms)
behind rs [] = refl
behind rs (m ∷ ms) = refl

pub front-seen : (at : Side) → SeenAs (without_front at) (without_front at)
front-seen side.Ap x = refl
front-seen side.Far x = refl

pub front-shown : (rs : List Request) (at : Side)
    → ShownAs rs (delivery.without_front at) (without_front at)
front-shown rs side.Ap c =
    ap (λ is. record (connection_in rs c) { to_ap = is })
    (behind rs c.to_ap)
front-shown rs side.Far c =
    ap (λ is. record (connection_in rs c) { to_far = is })
    (behind rs c.to_far)

-- ---- what stays of the sides

pub wire-ops : (at : Side) (x : Connection) → ops_of at (with_wire x) ≡ ops_of at x
wire-ops side.Ap x = refl
wire-ops side.Far x = refl

pub wire-last : (at : Side) (c : machine.Connection)
    → last_label at (record c { wired = true }) ≡ last_label at c
wire-last side.Ap c = refl
wire-last side.Far c = refl

pub soiled-ops : (at : Side) (x : Connection) → ops_of at (soiled x) ≡ ops_of at x
soiled-ops side.Ap x = refl
soiled-ops side.Far x = refl

queue-ops : (s at : Side) (is : List Item) (x : Connection)
    → ops_of s (with_queue at is x) ≡ ops_of s x
queue-ops side.Ap side.Ap is x = refl
queue-ops side.Ap side.Far is x = refl
queue-ops side.Far side.Ap is x = refl
queue-ops side.Far side.Far is x = refl

queue-last : (s at : Side) (ms : List machine.Item) (c : machine.Connection)
    → last_label s (machine.with_queue at ms c) ≡ last_label s c
queue-last side.Ap side.Ap ms c = refl
queue-last side.Ap side.Far ms c = refl
queue-last side.Far side.Ap ms c = refl
queue-last side.Far side.Far ms c = refl

pub front-ops : (at s : Side) (x : Connection) → ops_of s (without_front at x) ≡ ops_of s x
front-ops at s x = queue-ops s at (behind_first (queue_of at x)) x

pub front-last : (at s : Side) (c : machine.Connection)
    → last_label s (delivery.without_front at c) ≡ last_label s c
front-last at s c = queue-last s at (behind_first (queue at c)) c

pub put-ops : (at : Side) (i : Item) (s : Side) (x : Connection)
    → ops_of s (put at i x) ≡ ops_of s x
put-ops at i s x = by x.wired
  where
    by : (w : Bool) → ops_of s (cond w (with_queue at (queue_of at x ++ i ∷ []) x) x) ≡ ops_of s x
    by true = queue-ops s at (queue_of at x ++ i ∷ []) x
    by false = refl

pub put-last : (at : Side) (m : machine.Item) (s : Side) (c : machine.Connection)
    → last_label s (sending.put at m c) ≡ last_label s c
put-last at m s c = by c.wired
  where
    by : (w : Bool) → last_label s (cond w (machine.with_queue at (queue at c ++ m ∷ []) c) c)
        ≡ last_label s c
    by true = queue-last s at (queue at c ++ m ∷ []) c
    by false = refl

-- and the number
pub queue-number : (at : Side) (is : List Item) (x : Connection)
    → (with_queue at is x).number ≡ x.number
queue-number side.Ap is x = refl
queue-number side.Far is x = refl

pub put-number : (at : Side) (i : Item) (x : Connection) → (put at i x).number ≡ x.number
put-number at i x = by x.wired
  where
    by : (w : Bool)
        → (cond w (with_queue at (queue_of at x ++ i ∷ []) x) x).number ≡ x.number
    by true = queue-number at (queue_of at x ++ i ∷ []) x
    by false = refl

pub ops-number : (at : Side) (ops : Operations) (x : Connection)
    → (with_ops at ops x).number ≡ x.number
ops-number side.Ap ops x = refl
ops-number side.Far ops x = refl
