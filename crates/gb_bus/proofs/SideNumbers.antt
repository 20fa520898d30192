-- The requests whose identifiers are in use on a side of a connection are those whose slots say so.
use Rattle.std.proofs.Common.{◌≡◌, ℕ, Bool, true, false, cond, ◌&&◌, ◌||◌, Option, Some, None}
use Rattle.std.proofs.Common.{is_none, is_some, List, [], ◌∷◌, inl, refl, sym, ap, ◌∙◌, nat_lt}
use Rattle.std.proofs.Common.{option_map, subst}
use Rattle.std.specs.Prelude.{Err, IfOk, Ok, Result, find}
use Rattle.gb_base.specs.declared.end.Side.{Side}
use Rattle.gb_base.specs.declared.end.Side.TheVariants as side
use Rattle.gb_base.specs.declared.errors.OutOfMemory.{OutOfMemory}
use Rattle.gb_base.specs.declared.outcome.Outcome.{Outcome}
use Rattle.gb_bus.proofs.Closing.{is-open-on, open-on-is, slot-of-made}
use Rattle.gb_bus.proofs.Endings.{not-open, same-test}
use Rattle.gb_bus.proofs.Finding.{no-twin, twin}
use Rattle.gb_bus.specs.Connection.{Connection}
use Rattle.gb_bus.specs.Listing.{AreThose, count, stands_in}
use Rattle.gb_bus.specs.Parts.{numbered, ops_of}
use Rattle.gb_bus.specs.Slots.{is_late_on, is_open_on, slot_at}
use Rattle.gb_bus.specs.Stands.{Around, KeepsSide, Stands, kept, kept_of, pending_by, pending_of}
use Rattle.gb_bus.specs.Stands.{slot_of}
use Rattle.gb_bus.specs.declared.bus.Bus.{Bus}
use Rattle.gb_invariants.proofs.Awaiting.{is-open, not-both, same-some}
use Rattle.gb_invariants.proofs.Outcomes.{any-in, in-any, in-open_requests}
use Rattle.gb_machine.specs.Bus as machine
use Rattle.gb_machine.specs.Bus.{Request, connection_of, is_open, outcome_of, request_of}
use Rattle.gb_machine.specs.Labels.{last_label}
use Rattle.gb_machine.specs.LawsBus.{is_awaited}
use Rattle.gb_machine.specs.Lists.{first}
use Rattle.gb_machine.specs.Members.{IsIn}
use Rattle.gb_machine.specs.Requests.{is_given_up, is_idle, is_of, open_on}
use Rattle.gb_ops.specs.Finding.{TellsIdle}
use Rattle.gb_ops.specs.Listed.{IsLate, IsOpen, Lists}
use Rattle.gb_ops.specs.Operations.{Operations, pending_at}
use Rattle.gb_ops.specs.declared.entries.Holder.{Holder}
use Rattle.gb_ops.specs.declared.entries.Pending.{Pending}

-- the numbers of which something holds pass the test that says so
pub are-those : (Holds : ℕ → Type 0) (test : ℕ → Bool) (ns : List ℕ) → Lists Holds ns
    → ((n : ℕ) → Holds n → test n ≡ true) → ((n : ℕ) → test n ≡ true → Holds n)
    → AreThose test ns
are-those Holds test ns l passes holds = record {
  rises = l.rise;
  each = λ n. same-test (stands_in n ns) (test n)
      (λ s. passes n (l.only n (any-in n ns s))) (λ t. in-any n ns (l.all n (holds n t)));
}

-- ---- the open ones

-- an open request of a side, by a test
abbrev pending_if : Bool → Request → Option Pending
pending_if t r = cond t (Some (record { label = r.label; deadline = r.deadline })) None

-- a request that is pending on a side is open there
pending-open : (names : List ℕ) (b : machine.Bus) (k n : ℕ) (at : Side)
    → is_some (pending_of k at n b) ≡ true → is_open_on k at (slot_of names n b) ≡ true
pending-open names b k n at h = by (request_of n b) refl h
  where
    both : (s t : Bool) (r : Request)
        → is_some (pending_if (s && t) r) ≡ true → (s ≡ true) × (t ≡ true)
    both true true r e = (refl, refl)
    both true false r e = absurd cc
    both false t r e = absurd cc

    free : (o : Option Request) → is_some o && is_none (outcome_of n b) ≡ true
        → outcome_of n b ≡ None
    free o e = end (is_some o) (outcome_of n b) e
      where
        end : (s : Bool) (v : Option Outcome) → s && is_none v ≡ true → v ≡ None
        end s None f = refl
        end true (Some v) f = absurd cc
        end false (Some v) f = absurd cc

    by : (o : Option Request) → request_of n b ≡ o
        → is_some (pending_by k at (is_open n b) o) ≡ true
        → is_open_on k at (slot_of names n b) ≡ true
    by None made e = absurd cc
    by (Some r) made e =
        let w = both (is_open n b) (is_of k at r) r e in
        is-open-on names b k n at r made w.1 (free (request_of n b) w.0)

pub open-pending : (names : List ℕ) (b : machine.Bus) (k n : ℕ) (at : Side)
    → is_open_on k at (slot_of names n b) ≡ true → is_some (pending_of k at n b) ≡ true
open-pending names b k n at h =
    let q = in-open_requests (is_of k at) b n (open-on-is names b k n at h) in
    ap (λ o. is_some (pending_by k at (is_open n b) o)) q.1
    ∙ ap (λ t. is_some (pending_by k at t (Some q.0))) (is-open n b q.0 q.1 q.3)
    ∙ ap (λ t. is_some (pending_if t q.0)) q.2

-- ---- those that were given up

-- the slot of a request of a side that is awaited and has ended
late-there : (names : List ℕ) (b : machine.Bus) (k n : ℕ) (at : Side) (r : Request)
    → request_of n b ≡ Some r → is_of k at r ≡ true → is_awaited n b ≡ true
    → is_some (outcome_of n b) ≡ true → is_late_on k at (slot_of names n b) ≡ true
late-there names b k n at r made own awaited over =
    slot-of-made names b n r (is_late_on k at) made
    ∙ ap (λ a. is_late_on k at (kept_of n a (count n names) (outcome_of n b) (Some r))) awaited
    ∙ ap (λ t. t && (is_some (outcome_of n b) && true)) own
    ∙ ap (λ t. t && true) over

-- what the slot of such a request says
record Late (k : ℕ) (at : Side) (n : ℕ) (b : machine.Bus) : Type 0 where
  request : Request
  made : request_of n b ≡ Some request
  own : is_of k at request ≡ true
  awaited : is_awaited n b ≡ true
  over : is_some (outcome_of n b) ≡ true

late-says : (names : List ℕ) (b : machine.Bus) (k n : ℕ) (at : Side)
    → is_late_on k at (slot_of names n b) ≡ true → Late k at n b
late-says names b k n at h = by (request_of n b) refl
  where
    parts : (s t u : Bool) → s && (t && u) ≡ true → (s ≡ true) × (t ≡ true) × (u ≡ true)
    parts true true true e = (refl, refl, refl)
    parts true true false e = absurd cc
    parts true false u e = absurd cc
    parts false t u e = absurd cc

    of-slot : (r : Request) → request_of n b ≡ Some r → (t : Bool)
        → is_late_on k at (cond t
        (Some (kept n (is_awaited n b) (count n names) (outcome_of n b) r)) None) ≡ true
        → Late k at n b
    of-slot r made true e =
        let w = parts (is_of k at r) (is_some (outcome_of n b)) (is_awaited n b) e in
        record { request = r; made = made; own = w.0; awaited = w.2; over = w.1 }
    of-slot r made false e = absurd cc

    by : (o : Option Request) → request_of n b ≡ o → Late k at n b
    by None made =
        absurd (not-both (is_late_on k at (slot_of names n b)) h
        (ap (λ o. is_late_on k at
        (kept_of n (is_awaited n b) (count n names) (outcome_of n b) o)) made))
    by (Some r) made =
        of-slot r made (is_awaited n b || nat_lt 0 (count n names))
        (sym (slot-of-made names b n r (is_late_on k at) made) ∙ h)

-- one that is awaited and has ended was given up
given-up : (b : machine.Bus) (n : ℕ) → is_awaited n b ≡ true → is_some (outcome_of n b) ≡ true
    → is_given_up n b ≡ true
given-up b n awaited over = by (outcome_of n b) refl over
  where
    by : (o : Option Outcome) → outcome_of n b ≡ o → is_some o ≡ true → is_given_up n b ≡ true
    by None e f = absurd cc
    by (Some v) e f = sym (ap (λ t. t || is_given_up n b) (not-open b n v e)) ∙ awaited

-- ---- what a side lists

-- a side of a live connection, with what is kept of it
pub record KeptOn (b : machine.Bus) (k : ℕ) (at : Side) (ops : Operations) : Type 0 where
  pub connection : machine.Connection
  pub live : connection_of k b ≡ Some connection
  pub last : ℕ
  pub keeps : KeepsSide k at ops last b

pub kept-side : (around : Around) (x : Bus) (b : machine.Bus) (k : ℕ) (at : Side) (ops : Operations)
    → Stands around x b → Some ops ≡ option_map (ops_of at) (find (numbered k) x.connections)
    → KeptOn b k at ops
kept-side around x b k at ops s is = by (find (numbered k) x.connections) refl is
  where
    by : (o : Option Connection) → find (numbered k) x.connections ≡ o
        → Some ops ≡ option_map (ops_of at) o → KeptOn b k at ops
    by None e h = absurd cc
    by (Some v) e h =
        let t = twin b.requests k x.connections b.connections v s.shows.connections e in
        record {
          connection = t.connection;
          live = t.live;
          last = last_label at t.connection;
          keeps = subst (λ o. KeepsSide k at o (last_label at t.connection) b)
              (sym (same-some ops (ops_of at v) h))
              (s.shows.sides k at v t.connection e t.live);
        }

-- the open requests that a side of a live connection lists are those whose slots say so
lists-open : (around : Around) (x : Bus) (b : machine.Bus) (k : ℕ) (at : Side)
    (ops : Operations) (ns : List ℕ) → Stands around x b
    → Some ops ≡ option_map (ops_of at) (find (numbered k) x.connections)
    → Lists (IsOpen ops) ns → AreThose (λ n. is_open_on k at (slot_at x.slots n)) ns
lists-open around x b k at ops ns s is lists =
    let own = kept-side around x b k at ops s is in
    let slots = s.shows.slots in
    are-those (IsOpen ops) (λ n. is_open_on k at (slot_at x.slots n)) ns lists
    (λ n h. ap (is_open_on k at) (slots n)
    ∙ pending-open around.names b k n at (ap is_some (sym (own.keeps.pending n)) ∙ h))
    (λ n h. ap is_some (own.keeps.pending n)
    ∙ open-pending around.names b k n at (ap (is_open_on k at) (sym (slots n)) ∙ h))

-- so are those that were given up
lists-late : (around : Around) (x : Bus) (b : machine.Bus) (k : ℕ) (at : Side)
    (ops : Operations) (ns : List ℕ) → Stands around x b
    → Some ops ≡ option_map (ops_of at) (find (numbered k) x.connections)
    → Lists (IsLate ops) ns → AreThose (λ n. is_late_on k at (slot_at x.slots n)) ns
lists-late around x b k at ops ns s is lists =
    are-those (IsLate ops) (λ n. is_late_on k at (slot_at x.slots n)) ns lists passes holds
  where
    own : KeptOn b k at ops
    own = kept-side around x b k at ops s is

    passes : (n : ℕ) → IsLate ops n → is_late_on k at (slot_at x.slots n) ≡ true
    passes n late =
        let h = own.keeps.used late.label (record { number = n; given_up = true }) late.held in
        let given = sym (ap (λ (g : Holder). g.given_up) h.is) in
        ap (is_late_on k at) (s.shows.slots n)
        ∙ late-there around.names b k n at h.request h.made h.own h.awaited
        (s.facts.fits.outcomes.given n given)

    holds : (n : ℕ) → is_late_on k at (slot_at x.slots n) ≡ true → IsLate ops n
    holds n h =
        let w = late-says around.names b k n at
        (ap (is_late_on k at) (sym (s.shows.slots n)) ∙ h) in
        record {
          label = w.request.label;
          held = own.keeps.held n w.request w.made w.own w.awaited
              ∙ ap (λ t. Some (record { number = n; given_up = t }))
              (given-up b n w.awaited w.over);
        }

-- ---- what is answered of it

pub answers-open : (x : Bus) (k : ℕ) (at : Side) (ops : Operations)
    (r : Result (List ℕ) OutOfMemory)
    → Some ops ≡ option_map (ops_of at) (find (numbered k) x.connections)
    → IfOk r (λ ns. Lists (IsOpen ops) ns)
    → IfOk r (λ ns. (around : Around) (b : machine.Bus) → Stands around x b
    → AreThose (λ n. is_open_on k at (slot_at x.slots n)) ns)
answers-open x k at ops (Ok ns) is h = λ around b s. lists-open around x b k at ops ns s is h
answers-open x k at ops (Err refused) is h = tt

pub answers-late : (x : Bus) (k : ℕ) (at : Side) (ops : Operations)
    (r : Result (List ℕ) OutOfMemory)
    → Some ops ≡ option_map (ops_of at) (find (numbered k) x.connections)
    → IfOk r (λ ns. Lists (IsLate ops) ns)
    → IfOk r (λ ns. (around : Around) (b : machine.Bus) → Stands around x b
    → AreThose (λ n. is_late_on k at (slot_at x.slots n)) ns)
answers-late x k at ops (Ok ns) is h = λ around b s. lists-late around x b k at ops ns s is h
answers-late x k at ops (Err refused) is h = tt

-- ---- whether a request is open

-- none is in a list, or one is
none-first : (ns : List ℕ) → ((n : ℕ) → IsIn n ns → ⊥) → true ≡ is_none (first ns)
none-first [] out = refl
none-first (n ∷ ns) out = absurd (out n (inl refl))

some-first : (ns : List ℕ) (n : ℕ) → IsIn n ns → false ≡ is_none (first ns)
some-first [] n i = absurd i
some-first (m ∷ ns) n i = refl

-- a side says whether one of its requests is open
side-idle : (b : machine.Bus) (k : ℕ) (at : Side) (ops : Operations) (idle : Bool)
    → ((n : ℕ) → pending_at ops n ≡ pending_of k at n b) → TellsIdle (pending_at ops) idle
    → idle ≡ is_none (first (open_on k at b))
side-idle b k at ops true keeps none = none-first (open_on k at b) out
  where
    out : (n : ℕ) → IsIn n (open_on k at b) → ⊥
    out n i =
        let q = in-open_requests (is_of k at) b n i in
        not-both (is_some (pending_of k at n b))
        (open-pending [] b k n at (is-open-on [] b k n at q.0 q.1 q.2 q.3))
        (ap is_some (sym (keeps n) ∙ none n))
side-idle b k at ops false keeps some =
    some-first (open_on k at b) some.number
    (open-on-is [] b k some.number at
    (pending-open [] b k some.number at (ap is_some (sym (keeps some.number)) ∙ some.there)))

-- so does the connection that is live
pub answers-idle : (x : Bus) (k : ℕ) (ops : Operations) (idle : Bool)
    → Some ops ≡ option_map (ops_of side.Ap) (find (numbered k) x.connections)
    → TellsIdle (pending_at ops) idle
    → (around : Around) (b : machine.Bus) → Stands around x b
    → idle ≡ is_none (connection_of k b) || is_idle k b
answers-idle x k ops idle is tells around b s =
    let own = kept-side around x b k side.Ap ops s is in
    side-idle b k side.Ap ops idle own.keeps.pending tells
    ∙ sym (ap (λ o. is_none o || is_idle k b) own.live)

-- and one that isn't live has none
pub answers-none : (x : Bus) (k : ℕ)
    → None ≡ option_map (ops_of side.Ap) (find (numbered k) x.connections)
    → (around : Around) (b : machine.Bus) → Stands around x b
    → true ≡ is_none (connection_of k b) || is_idle k b
answers-none x k is around b s =
    sym (ap (λ o. is_none o || is_idle k b)
    (no-twin b.requests k x.connections b.connections s.shows.connections
    (none (find (numbered k) x.connections) is)))
  where
    none : (o : Option Connection) → None ≡ option_map (ops_of side.Ap) o → o ≡ None
    none None e = refl
    none (Some c) e = absurd cc
