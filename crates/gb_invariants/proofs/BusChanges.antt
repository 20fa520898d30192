-- What a single change does to the bus part, and what becomes of its connections.
use Rattle.std.proofs.Common.{Bool, List, None, Option, Some, ap, false, refl, subst, sym, true, ℕ}
use Rattle.std.proofs.Common.{⊎_elim, [], ◌∙◌, ◌∷◌, ◌≡◌, ◌≢◌}
use Rattle.std.specs.List.{find}
use Rattle.std.specs.Prelude.{◌==◌}
use Rattle.gb_base.specs.declared.end.Side.{Side}
use Rattle.gb_base.specs.declared.end.End.TheVariants as end
use Rattle.gb_base.specs.declared.end.Side.TheVariants as side
use Rattle.gb_base.specs.declared.outcome.Outcome.{Outcome}
use Rattle.gb_machine.specs.Bus.{Bus, Connection, Item, Raw, Request, connection_of, has_number}
use Rattle.gb_machine.specs.Bus.{is_open, request_of}
use Rattle.gb_machine.specs.Delivery.{ended, forgotten, popped, replied, without_front}
use Rattle.gb_machine.specs.Members.{Each, EachTwo, IsIn}
use Rattle.gb_machine.specs.Sending.{Draft, put, queued, sent}
use Rattle.gb_machine.specs.Wiring.{attached, detached, injected, new_connection, next_connection}
use Rattle.gb_machine.specs.Wiring.{shut_down, unwired, wired, with_connection}
use Rattle.gb_machine.specs.{LawsBus.AreApart, Lists.at_first, Requests.gave_up}
use Rattle.gb_invariants.proofs.Apart.{SameEnds, apart-attached, apart-changed, apart-detached}
use Rattle.gb_invariants.proofs.Awaiting.{AwaitsFewer, ended-before, forgotten-before}
use Rattle.gb_invariants.proofs.Awaiting.{gave_up-before, sent-request, side_ended-before}
use Rattle.gb_invariants.proofs.Found.{find-left, find-pushed, found-first}
use Rattle.gb_invariants.proofs.Lists.{at_first-back, at_first-stays, in-at_first, in-front}
use Rattle.gb_invariants.proofs.Lists.{in-pushed, in-without, stays-without}
use Rattle.gb_invariants.proofs.Selves.{SameBody, front-body, put-body}
use Rattle.gb_invariants.proofs.{ItemChanges.asked_on-body, Labels.asked_on, Outcomes.same-number}

-- ---- single changes of the bus part

pub data BusChange : Type 0 where
  rests : BusChange
  -- a request is made, and gets an identifier
  sends : (d : Draft) (label : ℕ) → BusChange
  -- the front item toward a side of a connection is taken, or an item is put there
  takes : (k : ℕ) (at : Side) → BusChange
  puts : (k : ℕ) (at : Side) (item : Item) → BusChange
  -- a request ends, is forgotten, or is given up
  ends : (n : ℕ) (how : Outcome) → BusChange
  forgets : (n : ℕ) → BusChange
  gives_up : (n : ℕ) (how : Outcome) → BusChange
  -- a connection is wired or unwired, gets bytes, is closed, goes, or is made
  wires : (k : ℕ) → BusChange
  unwires : (k : ℕ) → BusChange
  injects : (k : ℕ) (bytes : List ℕ) → BusChange
  shuts : (k : ℕ) → BusChange
  leaves : (k : ℕ) → BusChange
  opens : (a i c protocol : ℕ) → BusChange

abbrev pub bus_after : BusChange → Bus → Bus
bus_after rests b = b
bus_after (sends d label) b = sent d label b
bus_after (takes k at) b = popped k at b
bus_after (puts k at item) b = replied k at item b
bus_after (ends n how) b = ended n how b
bus_after (forgets n) b = forgotten n b
bus_after (gives_up n how) b = gave_up n how b
bus_after (wires k) b = wired k b
bus_after (unwires k) b = unwired k b
bus_after (injects k bytes) b = injected k bytes b
bus_after (shuts k) b = shut_down k b
bus_after (leaves k) b = detached k b
bus_after (opens a i c protocol) b = attached a i c protocol b

-- ---- the connection that it changes

-- its number, 0 where none changes
abbrev pub number_of : BusChange → ℕ
number_of (sends d label) = d.connection
number_of (takes k at) = k
number_of (puts k at item) = k
number_of (wires k) = k
number_of (unwires k) = k
number_of (injects k bytes) = k
number_of (shuts k) = k
number_of _ = 0

-- what becomes of it
abbrev pub becomes : BusChange → Bus → Connection → Connection
becomes (sends d label) b c = asked_on d label b c
becomes (takes k at) b c = without_front at c
becomes (puts k at item) b c = put at item c
becomes (wires k) b c = record c { wired = true }
becomes (unwires k) b c = record c { wired = false; to_ap = []; to_far = [] }
becomes (injects k bytes) b c = queued side.Ap (Raw bytes) (record c { clean = false })
becomes (shuts k) b c = record c { shut = true }
becomes _ b c = c

-- the connection that goes, and the one that is made
abbrev pub left_by : BusChange → Option ℕ
left_by (leaves k) = Some k
left_by _ = None

abbrev pub made_by : BusChange → Bus → Option Connection
made_by (opens a i c protocol) b =
    Some (new_connection (next_connection b) a (end.Module i c) protocol)
made_by _ b = None

-- whether it is wired, clean and closed then
abbrev pub wired_by : BusChange → Bool → Bool
wired_by (wires k) t = true
wired_by (unwires k) t = false
wired_by _ t = t

abbrev pub clean_by : BusChange → Bool → Bool
clean_by (injects k bytes) t = false
clean_by _ t = t

abbrev pub shut_by : BusChange → Bool → Bool
shut_by (shuts k) t = true
shut_by _ t = t

-- A connection that changes keeps its number, its ends and its protocol.
pub record Goes (x : BusChange) (c d : Connection) : Type 0 where
  pub ends : SameEnds c d
  pub protocol : d.protocol ≡ c.protocol
  pub wired : d.wired ≡ wired_by x c.wired
  pub clean : d.clean ≡ clean_by x c.clean
  pub shut : d.shut ≡ shut_by x c.shut

-- where its queues and identifiers change alone
body-ends : (c d : Connection) → SameBody c d → SameEnds c d
body-ends c d h = record { number = h.self.number; ap = h.self.ap; peer = h.self.peer }

same-ends : (c : Connection) → SameEnds c c
same-ends c = record { number = refl; ap = refl; peer = refl }

pub goes : (x : BusChange) (b : Bus) (c : Connection) → Goes x c (becomes x b c)
goes (sends d label) b c = let h = asked_on-body d label b c in record {
  ends = body-ends c (asked_on d label b c) h;
  protocol = h.protocol;
  wired = h.wired;
  clean = h.self.clean;
  shut = h.self.shut;
}
goes (takes k at) b c = let h = front-body at c in record {
  ends = body-ends c (without_front at c) h;
  protocol = h.protocol;
  wired = h.wired;
  clean = h.self.clean;
  shut = h.self.shut;
}
goes (puts k at item) b c = let h = put-body at item c in record {
  ends = body-ends c (put at item c) h;
  protocol = h.protocol;
  wired = h.wired;
  clean = h.self.clean;
  shut = h.self.shut;
}
goes rests b c = record {
  ends = same-ends c;
  protocol = refl;
  wired = refl;
  clean = refl;
  shut = refl;
}
goes _ b c = record {
  ends = record { number = refl; ap = refl; peer = refl };
  protocol = refl;
  wired = refl;
  clean = refl;
  shut = refl;
}

-- ---- where live connections come from

-- A live connection was there, comes from one that changes, or is made.
pub data Was (x : BusChange) (b : Bus) (c : Connection) : Type 0 where
  stayed : IsIn c b.connections → Was x b c
  went : (d : Connection) → IsIn d b.connections → d.number ≡ number_of x → c ≡ becomes x b d
      → Goes x d c → Was x b c
  came : made_by x b ≡ Some c → Was x b c

was-changed : (x : BusChange) (b : Bus) (c : Connection)
    → IsIn c (at_first (has_number (number_of x)) (becomes x b) b.connections) → Was x b c
was-changed x b c i = ⊎_elim (λ o. stayed o)
    (λ w. went w.0 w.1 (same-number w.0.number (number_of x) w.2) w.3
    (subst (Goes x w.0) (sym w.3) (goes x b w.0)))
    (in-at_first (has_number (number_of x)) (becomes x b) b.connections c i)

pub was : (x : BusChange) (b : Bus) (c : Connection) → IsIn c (bus_after x b).connections
    → Was x b c
was (sends d label) b c i = was-changed (sends d label) b c i
was (takes k at) b c i = was-changed (takes k at) b c i
was (puts k at item) b c i = was-changed (puts k at item) b c i
was (wires k) b c i = was-changed (wires k) b c i
was (unwires k) b c i = was-changed (unwires k) b c i
was (injects k bytes) b c i = was-changed (injects k bytes) b c i
was (shuts k) b c i = was-changed (shuts k) b c i
was (leaves k) b c i = stayed (in-without (has_number k) b.connections c i).0
was (opens a j p protocol) b c i = ⊎_elim (λ o. stayed o) (λ e. came (ap Some (sym e)))
    (in-pushed c b.connections (new_connection (next_connection b) a (end.Module j p) protocol) i)
was _ b c i = stayed i

-- What becomes of a live connection: it stays, changes, or goes.
pub data Becomes (x : BusChange) (b : Bus) (c : Connection) : Type 0 where
  stays : IsIn c (bus_after x b).connections → Becomes x b c
  changes : c.number ≡ number_of x → IsIn (becomes x b c) (bus_after x b).connections
      → Becomes x b c
  is_gone : left_by x ≡ Some c.number → Becomes x b c

becomes-changed : (x : BusChange) (b : Bus) (c : Connection)
    → (bus_after x b).connections ≡ at_first (has_number (number_of x)) (becomes x b) b.connections
    → IsIn c b.connections → Becomes x b c
becomes-changed x b c same i = by (has_number (number_of x) c) refl
  where
    by : (t : Bool) → has_number (number_of x) c ≡ t → Becomes x b c
    by false e = stays (subst (λ cs. IsIn c cs) (sym same)
        (at_first-stays (has_number (number_of x)) (becomes x b) b.connections c i e))
    by true e = ⊎_elim (λ o. stays (subst (λ cs. IsIn c cs) (sym same) o))
        (λ w. changes (same-number c.number (number_of x) e)
        (subst (λ cs. IsIn (becomes x b c) cs) (sym same) w))
        (at_first-back (has_number (number_of x)) (becomes x b) b.connections c i)

pub what-becomes : (x : BusChange) (b : Bus) (c : Connection) → IsIn c b.connections → Becomes x b c
what-becomes (sends d label) b c i = becomes-changed (sends d label) b c refl i
what-becomes (takes k at) b c i = becomes-changed (takes k at) b c refl i
what-becomes (puts k at item) b c i = becomes-changed (puts k at item) b c refl i
what-becomes (wires k) b c i = becomes-changed (wires k) b c refl i
what-becomes (unwires k) b c i = becomes-changed (unwires k) b c refl i
what-becomes (injects k bytes) b c i = becomes-changed (injects k bytes) b c refl i
what-becomes (shuts k) b c i = becomes-changed (shuts k) b c refl i
what-becomes (opens a j p protocol) b c i =
    stays (in-front c b.connections (_ ∷ []) i)
what-becomes (leaves k) b c i = by (has_number k c) refl
  where
    by : (t : Bool) → has_number k c ≡ t → Becomes (leaves k) b c
    by true e = is_gone (ap Some (sym (same-number c.number k e)))
    by false e = stays (stays-without (has_number k) b.connections c i e)
what-becomes _ b c i = stays i

-- ---- requests

-- those that were made stay
abbrev pub KeepsRequests : Bus → Bus → Type 0
KeepsRequests b after =
    (n : ℕ) (r : Request) → request_of n b ≡ Some r → request_of n after ≡ Some r

pub requests-after : (x : BusChange) (b : Bus) → KeepsRequests b (bus_after x b)
requests-after (sends d label) b n r made = sent-request d label b n r made
requests-after rests b n r made = made
requests-after _ b n r made = made

-- nothing is asked, and what is given up was open
abbrev pub AsksNothing : BusChange → Bus → Type 0
AsksNothing (sends d label) b = ⊥
AsksNothing (gives_up n how) b = is_open n b ≡ true
AsksNothing _ b = Unit {0}

-- then no more is awaited
pub awaits-after : (x : BusChange) (b : Bus) → AsksNothing x b → AwaitsFewer b (bus_after x b)
awaits-after (sends d label) b none = absurd none
awaits-after (ends n how) b none = ended-before n how b
awaits-after (forgets n) b none = forgotten-before n b
awaits-after (gives_up n how) b unended = gave_up-before n how b unended
awaits-after (unwires k) b none =
    let s = side_ended-before k side.Far (with_connection k (becomes (unwires k) b) b) in
    record { same = s.same; before = s.before }
awaits-after (shuts k) b none =
    let s = side_ended-before k side.Ap (with_connection k (becomes (shuts k) b) b) in
    record { same = s.same; before = s.before }
awaits-after _ b none = record { same = refl; before = λ n w. w }

-- ---- ends

apart-one : (x : BusChange) (b : Bus) → EachTwo AreApart b.connections
    → EachTwo AreApart (at_first (has_number (number_of x)) (becomes x b) b.connections)
apart-one x b h = apart-changed b (number_of x) (becomes x b) (λ c. (goes x b c).ends) h

-- Live connections have ends of their own, where one that is made has.
pub apart-after : (x : BusChange) (b : Bus)
    → ((c : Connection) → made_by x b ≡ Some c → Each (λ y. AreApart y c) b.connections)
    → EachTwo AreApart b.connections → EachTwo AreApart (bus_after x b).connections
apart-after (sends d label) b own h = apart-one (sends d label) b h
apart-after (takes k at) b own h = apart-one (takes k at) b h
apart-after (puts k at item) b own h = apart-one (puts k at item) b h
apart-after (wires k) b own h = apart-one (wires k) b h
apart-after (unwires k) b own h = apart-one (unwires k) b h
apart-after (injects k bytes) b own h = apart-one (injects k bytes) b h
apart-after (shuts k) b own h = apart-one (shuts k) b h
apart-after (leaves k) b own h = apart-detached b k h
apart-after (opens a i c protocol) b own h =
    apart-attached b a i c protocol (own _ refl) h
apart-after _ b own h = h

-- ---- the connection of a number

found-changed : {A : Type 0} (n : ℕ) (of : Option Connection → A) (x : BusChange) (b : Bus)
    → ((c : Connection) → IsIn c b.connections → c.number ≡ number_of x → c.number ≡ n
    → of (Some (becomes x b c)) ≡ of (Some c))
    → of (find (has_number n) (at_first (has_number (number_of x)) (becomes x b) b.connections))
    ≡ of (connection_of n b)
found-changed n of x b keeps =
    found-first n of (number_of x) (becomes x b) b.connections (λ c. (goes x b c).ends.number) keeps

-- What is said of it stays, where it doesn't go, isn't made, and where it changes keeps that.
pub found-after : {A : Type 0} (n : ℕ) (of : Option Connection → A) (x : BusChange) (b : Bus)
    → (left_by x ≡ Some n → ⊥) → ((c : Connection) → made_by x b ≡ Some c → c.number ≢ n)
    → ((c : Connection) → IsIn c b.connections → c.number ≡ number_of x → c.number ≡ n
    → of (Some (becomes x b c)) ≡ of (Some c))
    → of (connection_of n (bus_after x b)) ≡ of (connection_of n b)
found-after n of (sends d label) b left new keeps = found-changed n of (sends d label) b keeps
found-after n of (takes k at) b left new keeps = found-changed n of (takes k at) b keeps
found-after n of (puts k at item) b left new keeps =
    found-changed n of (puts k at item) b keeps
found-after n of (wires k) b left new keeps = found-changed n of (wires k) b keeps
found-after n of (unwires k) b left new keeps = found-changed n of (unwires k) b keeps
found-after n of (injects k bytes) b left new keeps =
    found-changed n of (injects k bytes) b keeps
found-after n of (shuts k) b left new keeps = found-changed n of (shuts k) b keeps
found-after n of (leaves k) b left new keeps =
    ap of (find-left (has_number n) (has_number k) b.connections
    (λ c e. other c (same-number c.number n e) (c.number == k) refl))
  where
    other : (c : Connection) → c.number ≡ n → (t : Bool) → (c.number == k) ≡ t → t ≡ false
    other c e false g = refl
    other c e true g = absurd (left (ap Some (sym (same-number c.number k g) ∙ e)))
found-after n of (opens a i p protocol) b left new keeps =
    ap of (find-pushed (has_number n) b.connections
    (new_connection (next_connection b) a (end.Module i p) protocol)
    (other (next_connection b == n) refl))
  where
    other : (t : Bool) → (next_connection b == n) ≡ t → t ≡ false
    other false e = refl
    other true e = absurd (new _ refl (same-number (next_connection b) n e))
found-after n of _ b left new keeps = refl
