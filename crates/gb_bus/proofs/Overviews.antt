-- What is told is what the machine's bus has.
use Rattle.std.proofs.Common.{◌≡◌, ℕ, suc, eqb, Bool, true, false, cond, map, List, [], ◌∷◌, ◌++◌}
use Rattle.std.proofs.Common.{length, refl, sym, ap, ◌∙◌, append_assoc, arith}
use Rattle.std.proofs.lemmas.Bool.Decides.{nat_tests}
use Rattle.std.proofs.lemmas.List.{length-map}
use Rattle.std.proofs.lemmas.Simd.{map-map}
use Rattle.gb_base.specs.declared.end.End.{End}
use Rattle.gb_base.specs.declared.end.End.TheVariants as end
use Rattle.gb_bus.specs.Shown.{connection_in, item_in, without_ops}
use Rattle.gb_bus.specs.Stands.{Around, Stands}
use Rattle.gb_bus.specs.Overview.{known_as, known_of, waiting_before, waiting_in, waiting_of}
use Rattle.gb_bus.specs.Overview.{with_end, with_ends}
use Rattle.gb_bus.specs.declared.bus.Bus.{Bus}
use Rattle.gb_bus.specs.Connection.{Connection}
use Rattle.gb_bus.specs.declared.overview.Waiting.{Waiting}
use Rattle.gb_machine.proofs.Ordering.{in_order-map}
use Rattle.gb_machine.specs.Bus as machine
use Rattle.gb_machine.specs.Bus.{Request}
use Rattle.gb_machine.specs.Lists.{in_order, sorted}
use Rattle.gb_machine.specs.Waiting.{Queue, queue_before, queues, queues_in, queues_of}
use Rattle.gb_machine.specs.Waiting.{unless_empty}

-- ---- connections

pub known-is : (around : Around) (x : Bus) (b : machine.Bus) → Stands around x b
    → map known_as x.connections ≡ map known_of b.connections
known-is around x b s =
    sym (map-map known_as without_ops x.connections)
    ∙ ap (map known_as) s.shows.connections
    ∙ map-map known_as (connection_in b.requests) b.connections

-- ---- queues

-- what is told of queues in order
abbrev told : List Queue → List Waiting
told qs = map waiting_of (sorted queue_before qs)

-- one more end, where something waits
pub with-some : (at : End) (n : ℕ) (ws : List Waiting)
    → with_end at (suc n) ws
    ≡ in_order waiting_before (record { at = at; count = suc n }) ws
with-some at n ws =
    let some : eqb (suc n) 0 ≡ false = grind (arith, nat_tests) in
    ap (λ b. cond b ws (in_order waiting_before (record { at = at; count = suc n }) ws)) some

-- one more queue, unless it is empty
told-unless : (rs : List Request) (at : End) (ms : List machine.Item) (qs : List Queue)
    → with_end at (length (map (item_in rs) ms)) (told qs) ≡ told (unless_empty at ms ++ qs)
told-unless rs at [] qs = refl
told-unless rs at (m ∷ ms) qs =
    ap (λ n. with_end at (suc n) (told qs)) (length-map ms (item_in rs))
    ∙ with-some at (length ms) (told qs)
    ∙ in_order-map queue_before waiting_before waiting_of
    (record { at = at; count = length (m ∷ ms) }) (sorted queue_before qs) (λ p q. refl)

-- the queues of one more connection
told-of : (rs : List Request) (c : machine.Connection) (qs : List Queue)
    → with_ends (connection_in rs c) (told qs) ≡ told (queues_of c ++ qs)
told-of rs c qs = by c.wired
  where
    near : List Queue
    near = unless_empty (end.Ap c.ap) c.to_ap

    far : List Queue
    far = unless_empty c.peer c.to_far

    by : (w : Bool)
        → cond w (with_end (end.Ap c.ap) (length (map (item_in rs) c.to_ap))
        (with_end c.peer (length (map (item_in rs) c.to_far)) (told qs))) (told qs)
        ≡ told (cond w (near ++ far) [] ++ qs)
    by true =
        ap (with_end (end.Ap c.ap) (length (map (item_in rs) c.to_ap)))
        (told-unless rs c.peer c.to_far qs)
        ∙ told-unless rs (end.Ap c.ap) c.to_ap (far ++ qs)
        ∙ ap told (sym (append_assoc near far qs))
    by false = refl

told-seen : (xs : List Connection) → waiting_in (map without_ops xs) ≡ waiting_in xs
told-seen [] = refl
told-seen (x ∷ xs) = ap (with_ends x) (told-seen xs)

told-shown : (rs : List Request) (cs : List machine.Connection)
    → waiting_in (map (connection_in rs) cs) ≡ told (queues_in cs)
told-shown rs [] = refl
told-shown rs (c ∷ cs) =
    ap (with_ends (connection_in rs c)) (told-shown rs cs) ∙ told-of rs c (queues_in cs)

pub waiting-is : (around : Around) (x : Bus) (b : machine.Bus) → Stands around x b
    → waiting_in x.connections ≡ map waiting_of (queues b)
waiting-is around x b s =
    sym (told-seen x.connections)
    ∙ ap waiting_in s.shows.connections
    ∙ told-shown b.requests b.connections
