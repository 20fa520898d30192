-- What is looked up is what the machine's bus has.
use Rattle.std.proofs.Common.{◌≡◌, ℕ, Bool, true, false, cond, map, Option, Some}
use Rattle.std.proofs.Common.{None, option_and_then, option_map, List, [], ◌∷◌, ◌++◌, length, refl}
use Rattle.std.proofs.Common.{sym, ap, ◌∙◌, append_assoc}
use Rattle.std.proofs.lemmas.List.{length-map}
use Rattle.std.proofs.lemmas.Simd.{map-map}
use Rattle.std.specs.List.{filter, find, list_any}
use Rattle.gb_base.specs.declared.end.End.{End}
use Rattle.gb_base.specs.declared.end.End.TheVariants as end
use Rattle.gb_base.specs.declared.end.Side.{Side}
use Rattle.gb_bus.proofs.Finding.{place-is, placed, told}
use Rattle.gb_bus.proofs.Mapped.{any-map, filter-map, find-map}
use Rattle.gb_bus.proofs.Queues.{queue-is}
use Rattle.gb_bus.proofs.Sides.{next-side}
use Rattle.gb_bus.proofs.Standing.{AreShown, IsFound, found-number, same-of}
use Rattle.gb_bus.specs.Ends.{earlier, earlier_of}
use Rattle.gb_bus.specs.Parts as parts
use Rattle.gb_bus.specs.Parts.{earliest_in, earliest_of, ends_in, is_none_left, joins, next_in}
use Rattle.gb_bus.specs.Parts.{next_of, numbered, ops_of, place_at, queue_of}
use Rattle.gb_bus.specs.Shown.{connection_in, item_in, without_ops}
use Rattle.gb_bus.specs.Stands.{Around, Shows, Stands}
use Rattle.gb_bus.specs.Wiring.{count_at, ends_of, number_of}
use Rattle.gb_bus.specs.declared.bus.Bus.{Bus}
use Rattle.gb_bus.specs.Connection.{Connection}
use Rattle.gb_invariants.proofs.Awaiting.{same-some}
use Rattle.gb_machine.specs.Bus as machine
use Rattle.gb_machine.specs.Bus.{Place, Request, connection_of, place_of, queue}
use Rattle.gb_machine.specs.Labels.{cyclic_label, next_label}
use Rattle.gb_machine.specs.Lists.{first, in_order, sorted}
use Rattle.gb_machine.specs.Sending.{is_wired}
use Rattle.gb_machine.specs.Waiting.{Queue, first_waiting, queue_before, queues_in, queues_of}
use Rattle.gb_machine.specs.Waiting.{unless_empty}
use Rattle.gb_machine.specs.Wiring as wiring

-- ---- which connection joins two ends

pub lives : (around : Around) (x : Bus) (b : machine.Bus) (a i c : ℕ) → Stands around x b
    → option_map (λ (y : Connection). y.number) (find (joins a (end.Module i c)) x.connections)
    ≡ option_map (λ (m : machine.Connection). m.number) (wiring.joining a i c b)
lives around x b a i c s =
    same-of b.requests (option_map (λ (y : Connection). y.number))
    (option_map (λ (m : machine.Connection). m.number))
    (find (joins a (end.Module i c)) x.connections) (wiring.joining a i c b) refl
    (λ y m h. ap (λ (v : Connection). Some v.number) h)
    (sym (find-map without_ops (joins a (end.Module i c)) x.connections)
    ∙ ap (find (joins a (end.Module i c))) s.shows.connections
    ∙ find-map (connection_in b.requests) (joins a (end.Module i c)) b.connections)

-- ---- identifiers

-- the next identifier of a side of a connection
pub next-is : {names : List ℕ} → (x : Bus) (b : machine.Bus) (k : ℕ) (at : Side) → Shows names x b
    → next_in k at x.connections ≡ next_label k at b
next-is x b k at s =
    by (find (numbered k) x.connections) (connection_of k b) refl refl
    (found-number b.requests k x.connections b.connections s.connections)
  where
    by : (o : Option Connection) (p : Option machine.Connection)
        → find (numbered k) x.connections ≡ o → connection_of k b ≡ p → IsFound b.requests o p
        → option_and_then (next_of at) o ≡ option_and_then (cyclic_label k at b) p
    by None None e f h = refl
    by (Some y) (Some c) e f h = next-side k at (ops_of at y) c b (s.sides k at y c e f)
    by None (Some c) e f h = absurd cc
    by (Some y) None e f h = absurd cc

-- ---- how many wait

-- where the end is named
pub waits : (around : Around) (x : Bus) (b : machine.Bus) (at : End) (k : ℕ) (to : Side)
    (found : Connection) → Stands around x b
    → place_at at x.connections ≡ Some (k, to) → find (numbered k) x.connections ≡ Some found
    → Some (length (queue_of to found)) ≡ option_map count_at (place_of at b.connections)
waits around x b at k to found s named looks =
    let w = placed around x b at k to s named in
    let same : w.found ≡ found = same-some w.found found (sym w.looks ∙ looks) in
    ap (λ c. Some (length (queue_of to c))) (sym same)
    ∙ ap (λ is. Some (length is)) (queue-is b.requests to w.found w.connection w.shown)
    ∙ ap Some (length-map (queue to w.connection) (item_in b.requests))
    ∙ sym (ap (option_map count_at) w.named)

-- how many wait toward a side of the connection that the end names
pub counts : (around : Around) (x : Bus) (b : machine.Bus) (at : End) (k : ℕ) (to : Side)
    → Stands around x b → place_at at x.connections ≡ Some (k, to)
    → option_map (λ c. length (queue_of to c)) (find (numbered k) x.connections)
    ≡ option_map count_at (place_of at b.connections)
counts around x b at k to s named =
    let w = placed around x b at k to s named in
    ap (option_map (λ c. length (queue_of to c))) w.looks
    ∙ waits around x b at k to w.found s named w.looks

-- where it isn't
pub waits-nowhere : (around : Around) (x : Bus) (b : machine.Bus) (at : End) → Stands around x b
    → place_at at x.connections ≡ None
    → None ≡ option_map count_at (place_of at b.connections)
waits-nowhere around x b at s none =
    by (place_of at b.connections) (sym
    (place-is b.requests at x.connections b.connections s.shows.connections) ∙ none)
  where
    by : (o : Option Place) → option_map told o ≡ None → None ≡ option_map count_at o
    by None e = refl
    by (Some p) e = absurd cc

-- ---- the first end

-- the end of the first queue of those in order
abbrev head : List Queue → Option End
head qs = option_map (λ (q : Queue). q.at) (first (sorted queue_before qs))

-- one more queue
head-more : (q : Queue) (qs : List Queue) → head (q ∷ qs) ≡ earlier_of q.at (head qs)
head-more q qs = by (sorted queue_before qs)
  where
    by : (rs : List Queue) → option_map (λ (r : Queue). r.at) (first (in_order queue_before q rs))
        ≡ earlier_of q.at (option_map (λ (r : Queue). r.at) (first rs))
    by [] = refl
    by (r ∷ rs) = two (queue_before q r)
      where
        two : (t : Bool) → option_map (λ (p : Queue). p.at)
            (first (cond t (q ∷ r ∷ rs) (r ∷ in_order queue_before q rs)))
            ≡ cond t (Some q.at) (Some r.at)
        two true = refl
        two false = refl

-- one more queue, unless it is empty
head-unless : (rs : List Request) (at : End) (ms : List machine.Item) (qs : List Queue)
    → head (unless_empty at ms ++ qs) ≡ earlier (is_none_left (map (item_in rs) ms)) at (head qs)
head-unless rs at [] qs = refl
head-unless rs at (m ∷ ms) qs = head-more (record { at = at; count = length (m ∷ ms) }) qs

-- the queues of one more connection
head-of : (rs : List Request) (c : machine.Connection) (qs : List Queue)
    → earliest_of (connection_in rs c) (head qs) ≡ head (queues_of c ++ qs)
head-of rs c qs = by c.wired
  where
    near : List Queue
    near = unless_empty (end.Ap c.ap) c.to_ap

    far : List Queue
    far = unless_empty c.peer c.to_far

    by : (w : Bool)
        → cond w (earlier (is_none_left (map (item_in rs) c.to_ap)) (end.Ap c.ap)
        (earlier (is_none_left (map (item_in rs) c.to_far)) c.peer (head qs))) (head qs)
        ≡ head (cond w (near ++ far) [] ++ qs)
    by true =
        ap (earlier (is_none_left (map (item_in rs) c.to_ap)) (end.Ap c.ap))
        (sym (head-unless rs c.peer c.to_far qs))
        ∙ sym (head-unless rs (end.Ap c.ap) c.to_ap (far ++ qs))
        ∙ ap head (sym (append_assoc near far qs))
    by false = refl

first-seen : (xs : List Connection) → earliest_in (map without_ops xs) ≡ earliest_in xs
first-seen [] = refl
first-seen (x ∷ xs) = ap (earliest_of x) (first-seen xs)

first-shown : (rs : List Request) (cs : List machine.Connection)
    → earliest_in (map (connection_in rs) cs) ≡ head (queues_in cs)
first-shown rs [] = refl
first-shown rs (c ∷ cs) =
    ap (earliest_of (connection_in rs c)) (first-shown rs cs) ∙ head-of rs c (queues_in cs)

pub firsts : (around : Around) (x : Bus) (b : machine.Bus) → Stands around x b
    → earliest_in x.connections ≡ first_waiting b
firsts around x b s =
    sym (first-seen x.connections)
    ∙ ap earliest_in s.shows.connections
    ∙ first-shown b.requests b.connections

-- ---- wires

-- whether a connection is there and wired
pub wired-is : (x : Bus) (b : machine.Bus) (k : ℕ)
    → AreShown b.requests x.connections b.connections
    → parts.is_wired (find (numbered k) x.connections) ≡ is_wired (connection_of k b)
wired-is x b k h =
    same-of b.requests parts.is_wired is_wired (find (numbered k) x.connections) (connection_of k b)
    refl (λ y c s. ap (λ (v : Connection). v.wired) s)
    (found-number b.requests k x.connections b.connections h)

-- a connection that is found, by whether it is wired
pub record FoundWired (o : Option Connection) (w : Bool) : Type 0 where
  pub found : Connection
  pub looks : o ≡ Some found
  pub is : w ≡ found.wired

pub found-wired : (o : Option Connection) (w : Bool)
    → Some w ≡ option_map (λ (c : Connection). c.wired) o → FoundWired o w
found-wired None w e = absurd cc
found-wired (Some c) w e = record { found = c; looks = refl; is = same-some w c.wired e }

pub found-none : (o : Option Connection) → None ≡ option_map (λ (c : Connection). c.wired) o
    → o ≡ None
found-none None e = refl
found-none (Some c) e = absurd cc

-- whether some connection is wired to an interface
pub wired-to-is : (rs : List Request) (i : ℕ) (xs : List Connection) (cs : List machine.Connection)
    → AreShown rs xs cs
    → list_any (parts.is_wired_to i) xs ≡ list_any (wiring.is_wired_to i) cs
wired-to-is rs i xs cs s =
    sym (any-map without_ops (parts.is_wired_to i) xs)
    ∙ ap (list_any (parts.is_wired_to i)) s
    ∙ any-map (connection_in rs) (parts.is_wired_to i) cs

-- ---- which ends a connection has, and which connection an end names

pub ends-is : (x : Bus) (b : machine.Bus) (k : ℕ)
    → AreShown b.requests x.connections b.connections
    → option_map ends_in (find (numbered k) x.connections)
    ≡ option_map ends_of (connection_of k b)
ends-is x b k h =
    same-of b.requests (option_map ends_in) (option_map ends_of) (find (numbered k) x.connections)
    (connection_of k b)
    refl (λ y c s. ap (λ (v : Connection). Some (ends_in v)) s)
    (found-number b.requests k x.connections b.connections h)

pub named-is : (x : Bus) (b : machine.Bus) (at : End)
    → AreShown b.requests x.connections b.connections
    → option_map (λ p. p.0) (place_at at x.connections)
    ≡ option_map number_of (place_of at b.connections)
named-is x b at h =
    ap (option_map (λ p. p.0)) (place-is b.requests at x.connections b.connections h)
    ∙ by (place_of at b.connections)
  where
    by : (o : Option Place) → option_map (λ p. p.0) (option_map told o) ≡ option_map number_of o
    by None = refl
    by (Some p) = refl

-- the numbers of those that are wired to an interface
pub wired_numbers-is : (rs : List Request) (i : ℕ) (xs : List Connection)
    (cs : List machine.Connection) → AreShown rs xs cs
    → map (λ x. x.number) (filter (parts.is_wired_to i) xs)
    ≡ map (λ c. c.number) (filter (wiring.is_wired_to i) cs)
wired_numbers-is rs i xs cs s =
    sym (numbers without_ops xs)
    ∙ ap (λ ys. map (λ (y : Connection). y.number) (filter (parts.is_wired_to i) ys)) s
    ∙ numbers (connection_in rs) cs
  where
    numbers : {A : Type 0} (h : A → Connection) (ys : List A)
        → map (λ (y : Connection). y.number) (filter (parts.is_wired_to i) (map h ys))
        ≡ map (λ y. (h y).number) (filter (λ y. parts.is_wired_to i (h y)) ys)
    numbers h ys =
        ap (map (λ (y : Connection). y.number)) (filter-map h (parts.is_wired_to i) ys)
        ∙ map-map (λ (y : Connection). y.number) h (filter (λ y. parts.is_wired_to i (h y)) ys)
