-- Where an end stands.
use Rattle.std.proofs.Common.{◌≡◌, ℕ, Bool, true, false, not, cond, ◌&&◌, Option, Some, None}
use Rattle.std.proofs.Common.{option_map, List, [], ◌∷◌, map, refl, sym, ap, ◌∙◌, inl, inr}
use Rattle.std.specs.List.{find}
use Rattle.gb_base.specs.declared.end.End.{End}
use Rattle.gb_base.specs.declared.end.End.TheVariants as end
use Rattle.gb_base.specs.declared.end.Side.{Side}
use Rattle.gb_base.specs.declared.end.Side.TheVariants as side
use Rattle.gb_bus.proofs.Standing.{AreShown, IsShown, found-number}
use Rattle.gb_bus.specs.Parts.{numbered, place_at, side_at}
use Rattle.gb_bus.specs.Shown.{connection_in, without_ops}
use Rattle.gb_bus.specs.Stands.{Around, Stands}
use Rattle.gb_bus.specs.declared.bus.Bus.{Bus}
use Rattle.gb_bus.specs.Connection.{Connection}
use Rattle.gb_invariants.proofs.Awaiting.{same-some}
use Rattle.gb_invariants.proofs.Numbers.{found-by_number}
use Rattle.gb_machine.specs.Bus as machine
use Rattle.gb_machine.specs.Bus.{Place, Request, has_number, or_else, place_of, same_end}
use Rattle.gb_machine.specs.Members.{IsIn}

-- the side at which an end stands
side-is : (rs : List Request) (at : End) (c : machine.Connection)
    → side_at at (connection_in rs c) ≡ machine.side_at at c
side-is rs at c = by c.wired
  where
    by : (w : Bool)
        → cond (not w) None (cond (same_end at (end.Ap c.ap)) (Some side.Ap)
        (cond (same_end at c.peer) (Some side.Far) None))
        ≡ cond (w && same_end at (end.Ap c.ap)) (Some side.Ap)
        (cond (w && same_end at c.peer) (Some side.Far) None)
    by true = refl
    by false = refl

-- a place by its number and side
abbrev pub told : Place → ℕ × Side
told p = (p.connection.number, p.side)

abbrev pub placed_on : machine.Connection → Side → Place
placed_on c s = record { connection = c; side = s }

-- it is seen without the requests of sides
place-seen : (at : End) (xs : List Connection) → place_at at (map without_ops xs) ≡ place_at at xs
place-seen at [] = refl
place-seen at (x ∷ xs) =
    ap (or_else (option_map (λ s. (x.number, s)) (side_at at x))) (place-seen at xs)

place-shown : (rs : List Request) (at : End) (cs : List machine.Connection)
    → place_at at (map (connection_in rs) cs) ≡ option_map told (place_of at cs)
place-shown rs at [] = refl
place-shown rs at (c ∷ cs) =
    ap (λ o. or_else (option_map (λ s. (c.number, s)) o)
    (place_at at (map (connection_in rs) cs))) (side-is rs at c)
    ∙ ap (or_else (option_map (λ s. (c.number, s)) (machine.side_at at c))) (place-shown rs at cs)
    ∙ by (machine.side_at at c)
  where
    by : (o : Option Side) → or_else (option_map (λ s. (c.number, s)) o)
        (option_map told (place_of at cs))
        ≡ option_map told (or_else (option_map (placed_on c) o) (place_of at cs))
    by None = refl
    by (Some s) = refl

pub place-is : (rs : List Request) (at : End) (xs : List Connection) (cs : List machine.Connection)
    → AreShown rs xs cs → place_at at xs ≡ option_map told (place_of at cs)
place-is rs at xs cs s =
    sym (place-seen at xs) ∙ ap (place_at at) s ∙ place-shown rs at cs

-- a place is on a live connection
place-in : (at : End) (cs : List machine.Connection) (p : Place) → place_of at cs ≡ Some p
    → IsIn p.connection cs
place-in at [] p e = absurd cc
place-in at (c ∷ cs) p e = by (machine.side_at at c) e (place-in at cs p)
  where
    by : (o : Option Side) → or_else (option_map (placed_on c) o) (place_of at cs) ≡ Some p
        → (place_of at cs ≡ Some p → IsIn p.connection cs) → IsIn p.connection (c ∷ cs)
    by None e later = inr (later e)
    by (Some s) e later = let same : placed_on c s
        ≡ p = cc in inl (ap (λ (q : Place). q.connection) (sym same))

-- Where an end stands, by what is found of it.
pub record Placed (x : Bus) (b : machine.Bus) (at : End) (k : ℕ) (to : Side) : Type 0 where
  pub connection : machine.Connection
  pub found : Connection
  pub live : IsIn connection b.connections
  pub named : place_of at b.connections ≡ Some (placed_on connection to)
  pub number : k ≡ connection.number
  pub looks : find (numbered k) x.connections ≡ Some found
  pub shown : IsShown b.requests found connection

-- the connection with the number of one of the machine's
pub record Matched (rs : List Request) (k : ℕ) (xs : List Connection)
    (c : machine.Connection) : Type 0 where
  pub found : Connection
  pub looks : find (numbered k) xs ≡ Some found
  pub shown : IsShown rs found c

pub matched : (rs : List Request) (k : ℕ) (xs : List Connection) (cs : List machine.Connection)
    (c : machine.Connection)
    → AreShown rs xs cs → find (has_number k) cs ≡ Some c → Matched rs k xs c
matched rs k xs cs c h e =
    by (find (numbered k) xs) refl
    (found-number rs k xs cs h ∙ ap (option_map (connection_in rs)) e)
  where
    by : (o : Option Connection) → find (numbered k) xs ≡ o
        → option_map without_ops o ≡ Some (connection_in rs c) → Matched rs k xs c
    by None f s = absurd cc
    by (Some x) f s = record {
      found = x;
      looks = f;
      shown = same-some (without_ops x) (connection_in rs c) s;
    }

pub placed : (around : Around) (x : Bus) (b : machine.Bus) (at : End) (k : ℕ) (to : Side)
    → Stands around x b → place_at at x.connections ≡ Some (k, to)
    → Placed x b at k to
placed around x b at k to s named =
    by (place_of at b.connections) refl
    (sym (place-is b.requests at x.connections b.connections s.shows.connections) ∙ named)
  where
    by : (o : Option Place) → place_of at b.connections ≡ o → option_map told o ≡ Some (k, to)
        → Placed x b at k to
    by None e h = absurd cc
    by (Some p) e h =
        let is = same-some (told p) (k, to) h in
        let number : p.connection.number ≡ k = ap (λ q. q.0) is in
        let to_is : p.side ≡ to = ap (λ q. q.1) is in
        let live = place-in at b.connections p e in
        let m = matched b.requests k x.connections b.connections p.connection s.shows.connections
        (ap (λ n. find (has_number n) b.connections) (sym number)
        ∙ found-by_number b.connections p.connection s.facts.fits.numbers.rise live) in
        record {
          connection = p.connection;
          found = m.found;
          live = live;
          named = e ∙ ap (λ t. Some (placed_on p.connection t)) to_is;
          number = sym number;
          looks = m.looks;
          shown = m.shown;
        }

-- the machine's connection with the number of one of the bus
pub record Twin (rs : List Request) (k : ℕ) (x : Connection) (cs : List machine.Connection) : Type
    0 where
  pub connection : machine.Connection
  pub live : find (has_number k) cs ≡ Some connection
  pub shown : IsShown rs x connection

pub twin : (rs : List Request) (k : ℕ) (xs : List Connection) (cs : List machine.Connection)
    (x : Connection)
    → AreShown rs xs cs → find (numbered k) xs ≡ Some x → Twin rs k x cs
twin rs k xs cs x h e =
    by (find (has_number k) cs) refl
    (sym (ap (option_map without_ops) e) ∙ found-number rs k xs cs h)
  where
    by : (o : Option machine.Connection) → find (has_number k) cs ≡ o
        → Some (without_ops x) ≡ option_map (connection_in rs) o → Twin rs k x cs
    by None f s = absurd cc
    by (Some c) f s = record {
      connection = c;
      live = f;
      shown = same-some (without_ops x) (connection_in rs c) s;
    }

-- where the bus has none, neither has the machine's
pub no-twin : (rs : List Request) (k : ℕ) (xs : List Connection) (cs : List machine.Connection)
    → AreShown rs xs cs → find (numbered k) xs ≡ None → find (has_number k) cs ≡ None
no-twin rs k xs cs h e =
    by (find (has_number k) cs)
    (sym (ap (option_map without_ops) e) ∙ found-number rs k xs cs h)
  where
    by : (o : Option machine.Connection) → None ≡ option_map (connection_in rs) o → o ≡ None
    by None s = refl
    by (Some c) s = absurd cc
