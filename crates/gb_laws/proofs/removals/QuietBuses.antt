-- What is said of an enumeration goes over what becomes of the bus.
use Rattle.std.proofs.Common.{Bool, None, Some, ap, arith, cond, false, refl, subst, sym, true, ℕ}
use Rattle.std.proofs.Common.{[], ◌++◌, ◌∙◌, ◌∷◌, ◌≡◌, ◌≢◌}
use Rattle.std.specs.List.{find}
use Rattle.std.specs.Prelude.{◌==◌}
use Rattle.gb_base.specs.declared.end.Side.{Side}
use Rattle.gb_base.specs.declared.end.Side.TheVariants as side
use Rattle.gb_machine.proofs.Lists.{nth-within}
use Rattle.gb_machine.specs.Bus.{Ask, Bus, Connection, Item, Raw, RawReply, Reply, Request}
use Rattle.gb_machine.specs.Bus.{connection_of, has_number, next_number, other_side, queue}
use Rattle.gb_machine.specs.Bus.{request_of}
use Rattle.gb_machine.specs.Delivery.{popped, replied, without_front}
use Rattle.gb_machine.specs.Sending.{Draft, drawn, put, requested, sent}
use Rattle.gb_machine.specs.SvcQueues.{is_reply_to, items_in, svc_items}
use Rattle.gb_machine.specs.{LawsBus.is_awaited, Lists.at_first, Lists.behind_first, Members.IsIn}
use Rattle.gb_invariants.proofs.Awaiting.{none-some, sent-awaited, sent-new, sent-request}
use Rattle.gb_invariants.proofs.Selves.{drawn-body, drawn-queue, front-self, put-self}
use Rattle.gb_invariants.proofs.{BusChanges.KeepsRequests, Labels.asked_on, Labels.asked_on-number}
use Rattle.gb_invariants.proofs.{Numbers.found-by_number, Outcomes.same-number}
use Rattle.gb_invariants.specs.Facts.{IsOwn}
use Rattle.gb_laws.proofs.enumerations.Enums.{IsClean, clean-none, enum_of, enums, enums-append}
use Rattle.gb_laws.proofs.enumerations.Enums.{enums-more}
use Rattle.gb_laws.proofs.enumerations.Enums.{enums_of}
use Rattle.gb_laws.proofs.{marks.MarkFrame.asked-toward, points.PointParts.Basis}
use Rattle.gb_laws.proofs.{points.PointParts.Point}
use Rattle.gb_laws.proofs.{removals.Quiet.IsUnanswered, removals.Quiet.SameQueues}
use Rattle.gb_laws.proofs.{svc.SvcItems.items-first}
use Rattle.gb_laws.proofs.{svc.SvcItems.items-one, svc.SvcThere.There}

-- ---- the supervisory controller's connection

pub svc-found : {a : Point} → Basis a → There a.state.bus
    → (c : Connection) × (connection_of 1 a.state.bus ≡ Some c) × (c.wired ≡ true)
    × IsIn c a.state.bus.connections × (c.number ≡ 1)
svc-found {a} basis there = (
  there.connection,
  subst (λ k. connection_of k a.state.bus ≡ Some there.connection) there.number
      (found-by_number a.state.bus.connections there.connection basis.bus.numbers.rise there.live),
  there.wired,
  there.live,
  there.number,
)

-- where another connection changes
pub queues-other : (b after : Bus) (k : ℕ) (f : Connection → Connection)
    → after.connections ≡ at_first (has_number k) f b.connections → KeepsRequests b after
    → ((c : Connection) → (f c).number ≡ c.number) → k ≢ 1 → SameQueues b after
queues-other b after k f same keeps number other = record {
  keeps = keeps;
  far = stay side.Far;
  ap = stay side.Ap;
}
  where
    stay : (at : Side) → svc_items at after ≡ svc_items at b
    stay at = ap (λ cs. items_in at (find (has_number 1) cs)) same
        ∙ items-first at k f b.connections number (λ c j on one. absurd (other (sym on ∙ one)))

-- ---- an item is put

pub put-queues : (at s : Side) (x : Item) (c : Connection) → c.wired ≡ true
    → (queue s (put s x c) ≡ queue s c ++ x ∷ [])
    × (queue (other_side s) (put s x c) ≡ queue (other_side s) c)
put-queues at side.Ap x c e = (
  ap (λ t. (cond t (record c { to_ap = c.to_ap ++ x ∷ [] }) c).to_ap) e,
  ap (λ t. (cond t (record c { to_ap = c.to_ap ++ x ∷ [] }) c).to_far) e,
)
put-queues at side.Far x c e = (
  ap (λ t. (cond t (record c { to_far = c.to_far ++ x ∷ [] }) c).to_far) e,
  ap (λ t. (cond t (record c { to_far = c.to_far ++ x ∷ [] }) c).to_ap) e,
)

-- an item is put on the supervisory controller's connection, toward a side
pub record IsPut (s : Side) (x : Item) (b after : Bus) : Type 0 where
  pub toward : svc_items s after ≡ svc_items s b ++ x ∷ []
  pub from : svc_items (other_side s) after ≡ svc_items (other_side s) b

pub put-svc : (s : Side) (x : Item) (b after : Bus) (c : Connection) (k : ℕ)
    (f : Connection → Connection) → connection_of 1 b ≡ Some c → k ≡ 1
    → after.connections ≡ at_first (has_number k) f b.connections
    → ((y : Connection) → (f y).number ≡ y.number)
    → (queue s (f c) ≡ queue s c ++ x ∷ []) × (queue (other_side s) (f c) ≡ queue (other_side s) c)
    → IsPut s x b after
put-svc s x b after c k f found one same number queues = record {
  toward = whole s ∙ queues.0 ∙ ap (λ o. items_in s o ++ x ∷ []) (sym found);
  from = whole (other_side s) ∙ queues.1 ∙ ap (items_in (other_side s)) (sym found);
}
  where
    whole : (at : Side) → svc_items at after ≡ queue at (f c)
    whole at = ap (λ cs. items_in at (find (has_number 1) cs)) same
        ∙ ap (λ j. items_in at (find (has_number 1) (at_first (has_number j) f b.connections))) one
        ∙ items-one at f b c found number

-- a request is made on it
pub asked-put : {a : Point} (d : Draft) (label : ℕ) → Basis a → There a.state.bus → d.connection ≡ 1
    → IsPut (other_side d.side) (Ask (next_number a.state.bus)) a.state.bus
    (sent d label a.state.bus)
asked-put {a} d label basis there one =
    let c = svc-found basis there in
    put-svc (other_side d.side) (Ask (next_number a.state.bus)) a.state.bus
    (sent d label a.state.bus) c.0 d.connection (asked_on d label a.state.bus) c.1 one refl
    (asked_on-number d label a.state.bus) (queues c.0 c.2)
  where
    queues : (c : Connection) → c.wired ≡ true
        → (queue (other_side d.side) (asked_on d label a.state.bus c)
        ≡ queue (other_side d.side) c ++ Ask (next_number a.state.bus) ∷ [])
        × (queue (other_side (other_side d.side)) (asked_on d label a.state.bus c)
        ≡ queue (other_side (other_side d.side)) c)
    queues c wired =
        let p = put-queues side.Ap (other_side d.side) (Ask (next_number a.state.bus))
        (drawn d label c) ((drawn-body d label c).wired ∙ wired) in (
          p.0 ∙ ap (λ is. is ++ Ask (next_number a.state.bus) ∷ [])
              (drawn-queue (other_side d.side) d label c),
          p.1 ∙ drawn-queue (other_side (other_side d.side)) d label c,
        )

-- where the application processor asks, what waits toward it stays
pub asked-ap : {a : Point} (d : Draft) (label : ℕ) → Basis a → There a.state.bus
    → d.connection ≡ 1 → d.side ≡ side.Ap
    → svc_items side.Ap (sent d label a.state.bus) ≡ svc_items side.Ap a.state.bus
asked-ap {a} d label basis there one by_ap =
    toward d.side by_ap (asked-put d label basis there one).from
  where
    toward : (s : Side) → s ≡ side.Ap
        → svc_items (other_side (other_side s)) (sent d label a.state.bus)
        ≡ svc_items (other_side (other_side s)) a.state.bus
        → svc_items side.Ap (sent d label a.state.bus) ≡ svc_items side.Ap a.state.bus
    toward side.Ap e f = f
    toward side.Far e f = absurd cc

-- a reply is made on it
pub replied-put : (a : Point) (s : Side) (x : Item) (k : ℕ) → Basis a → There a.state.bus
    → k ≡ 1 → IsPut s x a.state.bus (replied k s x a.state.bus)
replied-put a s x k basis there one =
    let c = svc-found basis there in
    put-svc s x a.state.bus (replied k s x a.state.bus) c.0 k (put s x) c.1 one refl
    (λ y. (put-self s x y).number) (put-queues s s x c.0 c.2)

-- ---- what is new

-- no item has the number of the next request
pub next-unmade : (b : Bus) (r : Request) → request_of (next_number b) b ≡ Some r → ⊥
next-unmade b r e = omega (arith, nth-within (next_number b) b.requests r e)

pub next-unreplied : (a : Point) → Basis a → There a.state.bus → (x : Item)
    → IsIn x (svc_items side.Ap a.state.bus) → is_reply_to (next_number a.state.bus) x ≡ false
next-unreplied a basis there x i =
    let c = svc-found basis there in
    by x (basis.bus.items.own c.0 side.Ap x c.3 (subst (λ o. IsIn x (items_in side.Ap o)) c.1 i))
  where
    by : (y : Item) → IsOwn a.state.bus (svc-found basis there).0.number side.Ap y
        → is_reply_to (next_number a.state.bus) y ≡ false
    by (Ask m) own = refl
    by (Raw bytes) own = refl
    by (RawReply label kind result payload) own = refl
    by (Reply m result payload) own = other (m == next_number a.state.bus) refl
      where
        other : (t : Bool) → (m == next_number a.state.bus) ≡ t → t ≡ false
        other false e = refl
        other true e = absurd (next-unmade a.state.bus own.0
            (ap (λ k. request_of k a.state.bus) (sym (same-number m _ e)) ∙ own.1))

-- what is asked isn't answered yet
pub new-unanswered : (i : ℕ) (a b : Point) (d : Draft) (label : ℕ) → Basis a → There a.state.bus
    → a.hand ≡ None → b.hand ≡ a.hand → b.state.bus ≡ sent d label a.state.bus
    → d.connection ≡ 1 → d.side ≡ side.Ap → d.oneway ≡ false
    → IsUnanswered i (next_number a.state.bus) b
new-unanswered i a b d label basis there free hand bus one by_ap twoway = record {
  clean = subst (IsClean (next_number a.state.bus) i b.state.past.pulled) (sym ap_same)
      (clean-none (next_number a.state.bus) i b.state.past.pulled (svc_items side.Ap a.state.bus)
      (next-unreplied a basis there));
  hand = λ h e. absurd (none-some (sym free ∙ sym hand ∙ e));
  request = requested d label;
  made = ap (request_of (next_number a.state.bus)) bus ∙ sent-new d label a.state.bus;
  on = one;
  by_ap = by_ap;
  awaited = subst (λ (x : Bus). is_awaited (next_number a.state.bus) x ≡ true) (sym bus)
      (sent-awaited d label a.state.bus basis.bus.outcomes twoway);
}
  where
    ap_same : svc_items side.Ap b.state.bus ≡ svc_items side.Ap a.state.bus
    ap_same = ap (svc_items side.Ap) bus ∙ asked-ap d label basis there one by_ap

-- the requests of an enumeration, where one more is asked
pub enums-asked : (i : ℕ) (a : Point) (d : Draft) (label : ℕ) → Basis a → There a.state.bus
    → d.connection ≡ 1 → d.side ≡ side.Ap → enums i (sent d label a.state.bus)
    ≡ enums i a.state.bus ++ (enum_of i (next_number a.state.bus) (Some (requested d label)) ++ [])
enums-asked i a d label basis there one by_ap =
    ap (enums_of i after) (toward d.side by_ap (asked-put d label basis there one).toward)
    ∙ enums-append i after (svc_items side.Far a.state.bus) (Ask (next_number a.state.bus) ∷ [])
    ∙ ap (λ es. es ++ enums_of i after (Ask (next_number a.state.bus) ∷ []))
    (enums-more i a.state.bus after (svc_items side.Far a.state.bus)
    (sent-request d label a.state.bus) (asked-toward side.Far a basis))
    ∙ ap (λ o. enums i a.state.bus ++ (enum_of i (next_number a.state.bus) o ++ []))
    (sent-new d label a.state.bus)
  where
    after : Bus
    after = sent d label a.state.bus

    toward : (s : Side) → s ≡ side.Ap → svc_items (other_side s) (sent d label a.state.bus)
        ≡ svc_items (other_side s) a.state.bus ++ Ask (next_number a.state.bus) ∷ []
        → svc_items side.Far (sent d label a.state.bus)
        ≡ svc_items side.Far a.state.bus ++ Ask (next_number a.state.bus) ∷ []
    toward side.Ap e f = f
    toward side.Far e f = absurd cc

-- ---- the front item is taken

popped-queues : (a : Point) (s : Side) (k : ℕ) → Basis a → There a.state.bus → k ≡ 1
    → (svc_items s (popped k s a.state.bus) ≡ behind_first (svc_items s a.state.bus))
    × (svc_items (other_side s) (popped k s a.state.bus) ≡ svc_items (other_side s) a.state.bus)
popped-queues a s k basis there one =
    let c = svc-found basis there in (
      whole s c.0 c.1 ∙ front s c.0 ∙ ap (λ o. behind_first (items_in s o)) (sym c.1),
      whole (other_side s) c.0 c.1 ∙ rest s c.0 ∙ ap (items_in (other_side s)) (sym c.1),
    )
  where
    whole : (at : Side) (c : Connection) → connection_of 1 a.state.bus ≡ Some c
        → svc_items at (popped k s a.state.bus) ≡ queue at (without_front s c)
    whole at c found =
        ap (λ j. items_in at (find (has_number 1)
        (at_first (has_number j) (without_front s) a.state.bus.connections))) one
        ∙ items-one at (without_front s) a.state.bus c found (λ y. (front-self s y).number)

    front : (t : Side) (c : Connection) → queue t (without_front t c) ≡ behind_first (queue t c)
    front side.Ap c = refl
    front side.Far c = refl

    rest : (t : Side) (c : Connection)
        → queue (other_side t) (without_front t c) ≡ queue (other_side t) c
    rest side.Ap c = refl
    rest side.Far c = refl

pub popped-far : (a : Point) (k : ℕ) → Basis a → There a.state.bus → k ≡ 1
    → (svc_items side.Far (popped k side.Far a.state.bus)
    ≡ behind_first (svc_items side.Far a.state.bus))
    × (svc_items side.Ap (popped k side.Far a.state.bus) ≡ svc_items side.Ap a.state.bus)
popped-far a k basis there one = popped-queues a side.Far k basis there one

pub popped-ap : (a : Point) (k : ℕ) → Basis a → There a.state.bus → k ≡ 1
    → (svc_items side.Ap (popped k side.Ap a.state.bus)
    ≡ behind_first (svc_items side.Ap a.state.bus))
    × (svc_items side.Far (popped k side.Ap a.state.bus) ≡ svc_items side.Far a.state.bus)
popped-ap a k basis there one = popped-queues a side.Ap k basis there one
