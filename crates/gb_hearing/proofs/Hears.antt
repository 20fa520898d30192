-- What is known of the messages that are heard of a connection: nothing is found of them, and they
-- go with the requests that are awaited.
use Rattle.std.proofs.Common.{◌≡◌, ◌≢◌, ◌⊎◌, ◌≤◌, ℕ, ◌==◌, Bool, true, false}
use Rattle.std.proofs.Common.{Some, List, inl, inr, refl, sym, ap, ◌∙◌, ⊎_elim}
use Rattle.std.proofs.Common.{arith, option_map, subst}
use Rattle.gb_base.specs.declared.end.End.TheVariants as end
use Rattle.gb_base.specs.declared.end.Side.TheVariants as side
use Rattle.gb_hearing.specs.Hearing.{Spoken}
use Rattle.gb_hearing.proofs.Findings.{AllFit}
use Rattle.gb_hearing.proofs.Lasts.{last}
use Rattle.gb_invariants.proofs.Awaiting.{AwaitsFewer, ended-after, forgotten-after, gave_up-after}
use Rattle.gb_invariants.proofs.Awaiting.{is_of-is, not-both, side_ended-after}
use Rattle.gb_invariants.proofs.BusChanges.{BusChange, awaits-after, becomes, bus_after}
use Rattle.gb_invariants.proofs.Outcomes.{is-same, same-number}
use Rattle.gb_invariants.proofs.Selves.{ap-no-far}
use Rattle.gb_laws.proofs.links.LinkSides.{is_shut, shut-after, shut-gone, shut-left, shut-more}
use Rattle.gb_laws.proofs.links.LinkSides.{shut-other, shut-self, shut_of}
use Rattle.gb_machine.specs.Bus.{Bus, Connection, Request, is_open, request_of}
use Rattle.gb_machine.specs.LawsBus.{is_awaited}
use Rattle.gb_machine.specs.Requests.{is_of}
use Rattle.gb_machine.specs.Wiring.{detached, new_connection, next_connection, shut_down}
use Rattle.gb_machine.specs.Wiring.{with_connection}

-- the application processor asked request n on connection k
pub record IsAsked (k n : ℕ) (r : Request) (b : Bus) : Type 0 where
  pub made : request_of n b ≡ Some r
  pub on : r.connection ≡ k
  pub by : r.side ≡ side.Ap

-- a request of the application processor on connection k with this identifier is awaited
pub record Waits (k v : ℕ) (b : Bus) : Type 0 where
  pub number : ℕ
  pub request : Request
  pub asked : IsAsked k number request b
  pub label : request.label ≡ v
  pub awaited : is_awaited number b ≡ true

-- Connection k was made, and its side of the application processor is closed, or it isn't live any
-- more: nothing is asked there by the application processor.
pub record IsOver (k : ℕ) (b : Bus) : Type 0 where
  pub closed : shut_of k b ≢ Some false
  pub made : k ≤ b.made

-- What is known of what was heard of connection k, the newest first. Requests with identifier 0
-- left aside, each request of the far side is answered; each request of the application processor
-- that is awaited is the last with its identifier, and isn't answered; and each last one that isn't
-- answered is awaited, or the connection is over.
pub record Hears (k : ℕ) (b : Bus) (past : List Spoken) : Type 0 where
  pub fit : AllFit past
  pub far : (v kind : ℕ) → (v == 0) ≡ false → last false v past ≡ Some (kind, false) → ⊥
  pub own : (n : ℕ) (r : Request) → IsAsked k n r b → is_awaited n b ≡ true
      → last true r.label past ≡ Some (r.kind, false)
  pub left : (v kind : ℕ) → (v == 0) ≡ false → last true v past ≡ Some (kind, false)
      → Waits k v b ⊎ IsOver k b

-- ---- what asks nothing

-- Requests of the application processor on connection k that are awaited stay so, or the connection
-- is over; and it stays over.
pub record Steady (k : ℕ) (b after : Bus) : Type 0 where
  pub fewer : AwaitsFewer b after
  pub stays : (n : ℕ) (r : Request) → IsAsked k n r b → is_awaited n b ≡ true
      → (is_awaited n after ≡ true) ⊎ IsOver k after
  pub over : IsOver k b → IsOver k after

pub asked-before : {k n : ℕ} {r : Request} {b after : Bus} → AwaitsFewer b after
    → IsAsked k n r after → IsAsked k n r b
asked-before {n} {b} fewer a = record {
  made = ap (λ rs. request_of n (record b { requests = rs })) (sym fewer.same) ∙ a.made;
  on = a.on;
  by = a.by;
}

pub asked-after : {k n : ℕ} {r : Request} {b after : Bus} → AwaitsFewer b after → IsAsked k n r b
    → IsAsked k n r after
asked-after {n} {b} fewer a = record {
  made = ap (λ rs. request_of n (record b { requests = rs })) fewer.same ∙ a.made;
  on = a.on;
  by = a.by;
}

pub hears-steady : {k : ℕ} {b after : Bus} {past : List Spoken} → Steady k b after → Hears k b past
    → Hears k after past
hears-steady {k} {b} {after} steady h = record {
  fit = h.fit;
  far = h.far;
  own = λ n r a w. h.own n r (asked-before steady.fewer a) (steady.fewer.before n w);
  left = λ v kind some is. ⊎_elim (λ w. still w) (λ o. inr (steady.over o)) (h.left v kind some is);
}
  where
    still : {v : ℕ} → Waits k v b → Waits k v after ⊎ IsOver k after
    still w = ⊎_elim (λ on. inl (record {
      number = w.number;
      request = w.request;
      asked = asked-after steady.fewer w.asked;
      label = w.label;
      awaited = on;
    })) (λ o. inr o) (steady.stays w.number w.request w.asked w.awaited)

-- ---- what a change of the bus does

-- what ends or is forgotten isn't of the application processor on connection k, what is given up
-- was open, and nothing is asked
abbrev pub IsSteady : ℕ → BusChange → Bus → Type 0
IsSteady k (BusChange.sends d label) b = ⊥
IsSteady k (BusChange.ends n how) b = (r : Request) → IsAsked k n r b → ⊥
IsSteady k (BusChange.forgets n) b = (r : Request) → IsAsked k n r b → ⊥
IsSteady k (BusChange.gives_up n how) b = is_open n b ≡ true
IsSteady k _ b = Unit {0}

not-of : (k : ℕ) (at : _) (r : Request) → (is_of k at r ≡ true → ⊥) → is_of k at r ≡ false
not-of k at r other = by (is_of k at r) refl
  where
    by : (t : Bool) → is_of k at r ≡ t → t ≡ false
    by true e = absurd (other e)
    by false e = refl

-- it stays over, where its side is as it was
pub over-same : {k : ℕ} {b after : Bus} → shut_of k after ≡ shut_of k b → b.made ≤ after.made
    → IsOver k b → IsOver k after
over-same same more o = record {
  closed = λ e. o.closed (sym same ∙ e);
  made = let low = o.made in omega (arith, low, more);
}

pub steady-by : (k : ℕ) (x : BusChange) (b : Bus) → IsSteady k x b
    → ((n : ℕ) (r : Request) → request_of n b ≡ Some r → r.connection ≤ b.made)
    → Steady k b (bus_after x b)
steady-by k (BusChange.sends d label) b none range = absurd none
steady-by k (BusChange.ends m how) b other range = record {
  fewer = awaits-after (BusChange.ends m how) b tt;
  stays = λ n r a w. inl (ended-after m how b n
      (λ e. other r (subst (λ j. IsAsked k j r b) (sym e) a)) w);
  over = over-same refl (omega arith);
}
steady-by k (BusChange.forgets m) b other range = record {
  fewer = awaits-after (BusChange.forgets m) b tt;
  stays = λ n r a w. inl (forgotten-after m b n
      (λ e. other r (subst (λ j. IsAsked k j r b) (sym e) a)) w);
  over = over-same refl (omega arith);
}
steady-by k (BusChange.gives_up m how) b unended range = record {
  fewer = awaits-after (BusChange.gives_up m how) b unended;
  stays = λ n r a w. inl (gave_up-after m how b n w);
  over = over-same refl (omega arith);
}
steady-by k (BusChange.unwires j) b none range = record {
  fewer = awaits-after (BusChange.unwires j) b tt;
  stays = λ n r a w. inl (side_ended-after j side.Far
      (with_connection j (becomes (BusChange.unwires j) b) b) n r a.made
      (not-of j side.Far r
      (λ e. absurd (ap-no-far (sym a.by ∙ sym (is_of-is j side.Far r e).1)))) w);
  over = over-same (shut-after (BusChange.unwires j) b tt k) (omega arith);
}
steady-by k (BusChange.shuts j) b none range = record {
  fewer = awaits-after (BusChange.shuts j) b tt;
  stays = λ n r a w. by n r a w (j == k) refl;
  over = λ o. over (j == k) refl o;
}
  where
    closed : Connection → Connection
    closed c = record c { shut = true }

    over : (t : Bool) → (j == k) ≡ t → IsOver k b → IsOver k (shut_down j b)
    over true e o = record {
      closed = subst (λ i. shut_of i (shut_down j b) ≢ Some false) (same-number j k e)
          (shut-self j b.connections);
      made = o.made;
    }
    over false e o = over-same (ap (option_map is_shut) (shut-other j closed b.connections
        (λ c. refl) k (λ f. not-both (j == k) (ap (λ i. j == i) f ∙ is-same j) e))) (omega arith) o

    by : (n : ℕ) (r : Request) → IsAsked k n r b → is_awaited n b ≡ true → (t : Bool) → (j == k) ≡ t
        → (is_awaited n (shut_down j b) ≡ true) ⊎ IsOver k (shut_down j b)
    by n r a w true e = inr (record {
      closed = subst (λ i. shut_of i (shut_down j b) ≢ Some false) (same-number j k e)
          (shut-self j b.connections);
      made = subst (λ i. i ≤ b.made) a.on (range n r a.made);
    })
    by n r a w false e = inl (side_ended-after j side.Ap
        (with_connection j (becomes (BusChange.shuts j) b) b) n r a.made
        (not-of j side.Ap r (λ f. not-both (j == k) (ap (λ i. j == i)
        (sym a.on ∙ (is_of-is j side.Ap r f).0) ∙ is-same j) e)) w)
steady-by k (BusChange.leaves j) b none range = record {
  fewer = awaits-after (BusChange.leaves j) b tt;
  stays = λ n r a w. inl w;
  over = λ o. over (j == k) refl o;
}
  where
    over : (t : Bool) → (j == k) ≡ t → IsOver k b → IsOver k (detached j b)
    over true e o = record {
      closed = subst (λ i. shut_of i (detached j b) ≢ Some false) (same-number j k e)
          (shut-gone j b.connections);
      made = o.made;
    }
    over false e o = over-same (shut-left j b.connections k
        (λ f. not-both (j == k) (ap (λ i. j == i) f ∙ is-same j) e)) (omega arith) o
steady-by k (BusChange.opens a i c protocol) b none range = record {
  fewer = awaits-after (BusChange.opens a i c protocol) b tt;
  stays = λ n r x w. inl w;
  over = λ o. over-same (shut-more b.connections
      (new_connection (next_connection b) a (end.Module i c) protocol) k
      (λ e. let low = o.made in absurd (omega (arith, low, e)))) (omega arith) o;
}
steady-by k x b none range = record {
  fewer = awaits-after x b tt;
  stays = λ n r a w. inl w;
  over = over-same (shut-after x b tt k) (omega arith);
}
