-- The first end at which something waits is one at which a delivery isn't refused.
use Rattle.std.proofs.Common.{Bool, List, None, Some, ap, cond, false, inl, inr, refl, subst, sym}
use Rattle.std.proofs.Common.{true, ℕ, ⊎_elim, [], ◌++◌, ◌∙◌, ◌∷◌, ◌≡◌, ◌≢◌}
use Rattle.std.specs.Prelude.{option_map, ◌&&◌, ◌==◌}
use Rattle.gb_base.specs.declared.end.{End.End, Side.Side}
use Rattle.gb_base.specs.declared.end.End.TheVariants as end
use Rattle.gb_base.specs.declared.end.Side.TheVariants as side
use Rattle.gb_base.specs.declared.event.Event.TheVariants as event
use Rattle.gb_machine.proofs.Steps.{deliver-allowed}
use Rattle.gb_machine.specs.Bus.{Connection, Item, Place, end_of, or_else, place_of, queue}
use Rattle.gb_machine.specs.Bus.{same_end, side_at}
use Rattle.gb_machine.specs.Waiting.{Queue, first_waiting, queue_before, queues, queues_in}
use Rattle.gb_machine.specs.Waiting.{queues_of, unless_empty}
use Rattle.gb_machine.specs.{LawsBus.AreApart, Lists.first, Lists.sorted, Members.EachTwo}
use Rattle.gb_machine.specs.{Members.IsIn, Refusals.is_end_unplugged, Refusals.refusal, State.State}
use Rattle.gb_invariants.proofs.{Awaiting.not-both, Awaiting.same-some, Found.in-ordered}
use Rattle.gb_invariants.proofs.{Lists.each-in, Lists.in-append, Outcomes.is-same}
use Rattle.gb_invariants.proofs.{Outcomes.same-number}
use Rattle.gb_laws.proofs.points.Places.{same_end-is}

-- a far end isn't the application processor
abbrev pub IsFarEnd : End → Type 0
IsFarEnd end.Svc = Unit {0}
IsFarEnd (end.Module i c) = Unit {0}
IsFarEnd (end.Ap a) = ⊥

-- ---- a queue that isn't empty

-- it is of a side of a wired connection
record IsQueueOf (q : Queue) (cs : List Connection) : Type 0 where
  connection : Connection
  side : Side
  live : IsIn connection cs
  wired : connection.wired ≡ true
  at : q.at ≡ end_of side connection
  item : Item
  front : first (queue side connection) ≡ Some item

unless-of : (at : End) (is : List Item) (q : Queue) → IsIn q (unless_empty at is) → (q.at ≡ at)
    × ((x : Item) × (first is ≡ Some x))
unless-of at [] q i = absurd i
unless-of at (x ∷ xs) q (inl e) = (ap (λ (r : Queue). r.at) e, (x, refl))
unless-of at (x ∷ xs) q (inr i) = absurd i

of-connection : (c : Connection) (cs : List Connection) (q : Queue) → IsIn q (queues_of c)
    → IsQueueOf q (c ∷ cs)
of-connection c cs q i = by c.wired refl i
  where
    by : (t : Bool) → c.wired ≡ t → IsIn q
        (cond t (unless_empty (end.Ap c.ap) c.to_ap ++ unless_empty c.peer c.to_far) [])
        → IsQueueOf q (c ∷ cs)
    by false e j = absurd j
    by true e j = ⊎_elim (λ k. let u = unless-of (end.Ap c.ap) c.to_ap q k in
        record {
          connection = c;
          side = side.Ap;
          live = inl refl;
          wired = e;
          at = u.0;
          item = u.1.0;
          front = u.1.1;
        }) (λ k. let u = unless-of c.peer c.to_far q k in
        record {
          connection = c;
          side = side.Far;
          live = inl refl;
          wired = e;
          at = u.0;
          item = u.1.0;
          front = u.1.1;
        }) (in-append q (unless_empty (end.Ap c.ap) c.to_ap) (unless_empty c.peer c.to_far) j)

queue-of : (cs : List Connection) (q : Queue) → IsIn q (queues_in cs) → IsQueueOf q cs
queue-of [] q i = absurd i
queue-of (c ∷ cs) q i = ⊎_elim (λ k. of-connection c cs q k)
    (λ k. let r = queue-of cs q k in record {
      connection = r.connection;
      side = r.side;
      live = inr r.live;
      wired = r.wired;
      at = r.at;
      item = r.item;
      front = r.front;
    }) (in-append q (queues_of c) (queues_in cs) i)

in-sorted : (qs : List Queue) (q : Queue) → IsIn q (sorted queue_before qs) → IsIn q qs
in-sorted [] q i = i
in-sorted (x ∷ xs) q i = ⊎_elim (λ e. inl e) (λ j. inr (in-sorted xs q j))
    (in-ordered queue_before q x (sorted queue_before xs) i)

first-of : (qs : List Queue) (at : End) → option_map (λ (q : Queue). q.at) (first qs) ≡ Some at
    → (q : Queue) × IsIn q qs × (q.at ≡ at)
first-of [] at e = absurd cc
first-of (q ∷ qs) at e = (q, inl refl, same-some q.at at e)

-- ---- its place

pub end-self : (e : End) → same_end e e ≡ true
end-self (end.Ap a) = is-same a
end-self end.Svc = refl
end-self (end.Module i c) = ap (λ t. t && (c == c)) (is-same i) ∙ is-same c

far-not-ap : (e : End) (a : ℕ) → IsFarEnd e → same_end e (end.Ap a) ≡ false
far-not-ap end.Svc a far = refl
far-not-ap (end.Module i c) a far = refl
far-not-ap (end.Ap b) a far = absurd far

ap-not-far : (e : End) (a : ℕ) → IsFarEnd e → same_end (end.Ap a) e ≡ false
ap-not-far end.Svc a far = refl
ap-not-far (end.Module i c) a far = refl
ap-not-far (end.Ap b) a far = absurd far

-- ends that differ differ the other way round
end-other : (a b : End) → same_end a b ≡ false → same_end b a ≡ false
end-other a b e = by (same_end b a) refl
  where
    by : (t : Bool) → same_end b a ≡ t → t ≡ false
    by false f = refl
    by true f = absurd (not-both (same_end a b) (ap (same_end a) (same_end-is b a f) ∙ end-self a)
        e)

number-other : (x y : ℕ) → x ≢ y → (x == y) ≡ false
number-other x y other = by (x == y) refl
  where
    by : (t : Bool) → (x == y) ≡ t → t ≡ false
    by false e = refl
    by true e = absurd (other (same-number x y e))

-- the side of a connection at its own end
own-side : (c : Connection) (s : Side) → c.wired ≡ true → IsFarEnd c.peer
    → side_at (end_of s c) c ≡ Some s
own-side c side.Ap wired far =
    ap (λ t. cond (t && same_end (end.Ap c.ap) (end.Ap c.ap)) (Some side.Ap)
    (cond (t && same_end (end.Ap c.ap) c.peer) (Some side.Far) None)) wired
    ∙ ap (λ t. cond t (Some side.Ap) (cond (same_end (end.Ap c.ap) c.peer) (Some side.Far) None))
    (is-same c.ap)
own-side c side.Far wired far =
    ap (λ t. cond (t && same_end c.peer (end.Ap c.ap)) (Some side.Ap)
    (cond (t && same_end c.peer c.peer) (Some side.Far) None)) wired
    ∙ ap (λ t. cond t (Some side.Ap) (cond (same_end c.peer c.peer) (Some side.Far) None))
    (far-not-ap c.peer c.ap far) ∙ ap (λ t. cond t (Some side.Far) None) (end-self c.peer)

-- no side of another connection is there
no-side : (at : End) (x : Connection) → same_end at (end.Ap x.ap) ≡ false
    → same_end at x.peer ≡ false → side_at at x ≡ None
no-side at x e f =
    ap (λ t. cond (x.wired && t) (Some side.Ap)
    (cond (x.wired && same_end at x.peer) (Some side.Far) None)) e
    ∙ ap (λ t. cond (x.wired && false) (Some side.Ap) (cond (x.wired && t) (Some side.Far) None)) f
    ∙ by x.wired
  where
    by : (t : Bool) → cond (t && false) (Some side.Ap)
        (cond (t && false) (Some side.Far) None) ≡ None
    by true = refl
    by false = refl

other-side : (x c : Connection) (s : Side) → AreApart x c → IsFarEnd x.peer → IsFarEnd c.peer
    → side_at (end_of s c) x ≡ None
other-side x c side.Ap apart far_x far_c =
    no-side (end.Ap c.ap) x (number-other c.ap x.ap (λ e. apart.aps (sym e)))
    (ap-not-far x.peer c.ap far_x)
other-side x c side.Far apart far_x far_c =
    no-side c.peer x (far-not-ap c.peer x.ap far_c) (end-other x.peer c.peer apart.peers)

pub place-found : (cs : List Connection) (c : Connection) (s : Side) → EachTwo AreApart cs
    → ((x : Connection) → IsIn x cs → IsFarEnd x.peer)
    → IsIn c cs → c.wired ≡ true → place_of (end_of s c) cs ≡ Some
    (record { connection = c; side = s })
place-found [] c s apart far i wired = absurd i
place-found (x ∷ xs) c s apart far (inl e) wired =
    let here : (y : Connection) → y ≡ x → y.wired ≡ true → IsFarEnd y.peer
    → place_of (end_of s y) (y ∷ xs) ≡ Some (record { connection = y; side = s }) =
    λ y same w f. ap (λ o. or_else (option_map
    (λ t. let p : Place = record { connection = y; side = t } in p) o) (place_of (end_of s y) xs))
    (own-side y s w f) in
    subst (λ y. place_of (end_of s c) (y ∷ xs) ≡ Some (record { connection = c; side = s })) e
    (here c e wired (subst (λ (y : Connection). IsFarEnd y.peer) (sym e) (far x (inl refl))))
place-found (x ∷ xs) c s apart far (inr j) wired =
    ap (λ o. or_else (option_map (λ t. let p : Place = record { connection = x; side = t } in p) o)
    (place_of (end_of s c) xs))
    (other-side x c s (each-in (AreApart x) xs c apart.0 j) (far x (inl refl)) (far c (inr j)))
    ∙ place-found xs c s apart.1 (λ y k. far y (inr k)) j wired

-- ---- deliveries that aren't refused

-- What a state has where nothing that waits is refused: ends differ, and what is wired is plugged.
pub record IsDeliverable (s : State) : Type 0 where
  pub apart : EachTwo AreApart s.bus.connections
  pub far : (c : Connection) → IsIn c s.bus.connections → IsFarEnd c.peer
  pub plugged : (c : Connection) → IsIn c s.bus.connections → c.wired ≡ true
      → is_end_unplugged c.peer s ≡ false

-- the side of a wired connection at which something waits first
pub record IsFirstAt (s : State) (at : End) : Type 0 where
  pub connection : Connection
  pub side : Side
  pub live : IsIn connection s.bus.connections
  pub wired : connection.wired ≡ true
  pub at_end : end_of side connection ≡ at
  pub free : refusal s (event.Deliver at) ≡ None

pub first-waits : (s : State) (at : End) → IsDeliverable s → first_waiting s.bus ≡ Some at
    → IsFirstAt s at
first-waits s at h e =
    let f = first-of (queues s.bus) at e in
    let q = queue-of s.bus.connections f.0 (in-sorted (queues_in s.bus.connections) f.0 f.1) in
    let is = sym q.at ∙ f.2 in record {
      connection = q.connection;
      side = q.side;
      live = q.live;
      wired = q.wired;
      at_end = is;
      free = subst (λ x. refusal s (event.Deliver x) ≡ None) is
          (free q.connection q.side q.live q.wired q.item q.front);
    }
  where
    ended : (c : Connection) (d : Side) → IsIn c s.bus.connections → c.wired ≡ true
        → is_end_unplugged (end_of d c) s ≡ false
    ended c side.Ap live wired = refl
    ended c side.Far live wired = h.plugged c live wired

    free : (c : Connection) (d : Side) → IsIn c s.bus.connections → c.wired ≡ true → (x : Item)
        → first (queue d c) ≡ Some x → refusal s (event.Deliver (end_of d c)) ≡ None
    free c d live wired x front =
        deliver-allowed s (end_of d c) (record { connection = c; side = d }) x
        (ended c d live wired) (place-found s.bus.connections c d h.apart h.far live wired) front
