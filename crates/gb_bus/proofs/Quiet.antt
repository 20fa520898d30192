-- Where no request of a side is awaited there is nothing to list.
use Rattle.std.proofs.Common.{◌≡◌, ℕ, ◌==◌, Bool, true, false, cond, ◌&&◌, ◌||◌, Option, Some, None}
use Rattle.std.proofs.Common.{is_some, option_map, List, [], ◌∷◌, refl, sym, ap, ◌∙◌}
use Rattle.std.proofs.lemmas.Bool.{eq-eqb}
use Rattle.std.specs.Prelude.{find}
use Rattle.std.specs.List.{list_any}
use Rattle.gb_base.specs.declared.end.Side.{Side}
use Rattle.gb_bus.proofs.Finding.{no-twin}
use Rattle.gb_bus.proofs.SideNumbers.{kept-side, open-pending}
use Rattle.gb_bus.specs.Connection.{Connection}
use Rattle.gb_bus.specs.Listing.{AreThose}
use Rattle.gb_bus.specs.Parts.{numbered, ops_of}
use Rattle.gb_bus.specs.Slots.{is_open_on, slot_at}
use Rattle.gb_bus.specs.Stands.{Around, Stands, pending_by, pending_of}
use Rattle.gb_bus.specs.Wiring.{IsQuiet}
use Rattle.gb_bus.specs.declared.bus.Bus.{Bus}
use Rattle.gb_invariants.proofs.Awaiting.{not-both}
use Rattle.gb_machine.specs.Bus as machine
use Rattle.gb_machine.specs.Bus.{Request, connection_of, is_open, request_of}
use Rattle.gb_machine.specs.LawsBus.{is_awaited}
use Rattle.gb_machine.specs.Requests.{is_given_up, is_of}
use Rattle.gb_ops.specs.Listed.{AllEnded, AllFree}
use Rattle.gb_ops.specs.Operations.{Operations, holder_of}
use Rattle.gb_ops.specs.declared.entries.Holder.{Holder}

-- none is open there
none-pending : (k : ℕ) (at : Side) (b : machine.Bus) → IsQuiet k at b → (n : ℕ)
    → pending_of k at n b ≡ None
none-pending k at b quiet n = by (request_of n b) refl
  where
    closed : (r : Request) → request_of n b ≡ Some r → (u : Bool) → is_open n b ≡ u
        → (t : Bool) → is_of k at r ≡ t → u && t ≡ false
    closed r made false e t f = refl
    closed r made true e false f = refl
    closed r made true e true f =
        absurd (not-both (is_awaited n b) (ap (λ v. v || is_given_up n b) e)
        (quiet.none n r made f))

    by : (o : Option Request) → request_of n b ≡ o → pending_of k at n b ≡ None
    by None made = ap (pending_by k at (is_open n b)) made
    by (Some r) made =
        ap (pending_by k at (is_open n b)) made
        ∙ ap (λ t. cond t (Some (record { label = r.label; deadline = r.deadline })) None)
        (closed r made (is_open n b) refl (is_of k at r) refl)

pub all-ended : (around : Around) (x : Bus) (b : machine.Bus) (k : ℕ) (at : Side)
    (ops : Operations) → Stands around x b
    → Some ops ≡ option_map (ops_of at) (find (numbered k) x.connections) → IsQuiet k at b
    → AllEnded ops
all-ended around x b k at ops s is quiet n =
    (kept-side around x b k at ops s is).keeps.pending n ∙ none-pending k at b quiet n

-- and no identifier is in use
pub all-free : (around : Around) (x : Bus) (b : machine.Bus) (k : ℕ) (at : Side)
    (ops : Operations) → Stands around x b
    → Some ops ≡ option_map (ops_of at) (find (numbered k) x.connections) → IsQuiet k at b
    → AllFree ops
all-free around x b k at ops s is quiet label = by (holder_of ops label) refl
  where
    by : (o : Option Holder) → holder_of ops label ≡ o → o ≡ None
    by None e = refl
    by (Some h) e =
        let u = (kept-side around x b k at ops s is).keeps.used label h e in
        absurd (not-both (is_awaited h.number b) u.awaited
        (quiet.none h.number u.request u.made u.own))

-- the connection is live
pub quiet-live : (around : Around) (x : Bus) (b : machine.Bus) (k : ℕ) (at : Side)
    → Stands around x b → None ≡ option_map (ops_of at) (find (numbered k) x.connections)
    → IsQuiet k at b → ⊥
quiet-live around x b k at s is quiet =
    not-both (is_some (connection_of k b)) quiet.live
    (ap is_some (no-twin b.requests k x.connections b.connections s.shows.connections
    (none (find (numbered k) x.connections) is)))
  where
    none : (o : Option Connection) → None ≡ option_map (ops_of at) o → o ≡ None
    none None e = refl
    none (Some c) e = absurd cc

-- so no open request is listed
pub none-listed : (around : Around) (x : Bus) (b : machine.Bus) (k : ℕ) (at : Side) (ns : List ℕ)
    → Stands around x b → AreThose (λ n. is_open_on k at (slot_at x.slots n)) ns
    → IsQuiet k at b → ns ≡ []
none-listed around x b k at [] s those quiet = refl
none-listed around x b k at (n ∷ ns) s those quiet =
    absurd (not-both (is_some (pending_of k at n b))
    (open-pending around.names b k n at
    (ap (is_open_on k at) (sym (s.shows.slots n)) ∙ sym (those.each n)
    ∙ ap (λ t. t || list_any (λ m. m == n) ns) (eq-eqb n n refl)))
    (ap is_some (none-pending k at b quiet n)))
