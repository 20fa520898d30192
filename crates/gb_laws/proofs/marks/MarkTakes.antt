-- What becomes of the marks of an interface at a moment at which the supervisory controller doesn't
-- ask: the one at the front may be taken.
use Rattle.std.proofs.Common.{Bool, List, None, Option, Some, ap, arith, cond, false, inl, inr}
use Rattle.std.proofs.Common.{refl, subst, sym, true, ℕ, [], ◌++◌, ◌∙◌, ◌∷◌, ◌≡◌, ◌≢◌, ◌≤◌}
use Rattle.std.proofs.lemmas.Bool.Decides.{nat_tests}
use Rattle.std.specs.List.{find}
use Rattle.std.specs.Prelude.{option_map, ◌==◌}
use Rattle.gb_base.specs.declared.end.{End.End, Side.Side}
use Rattle.gb_base.specs.declared.end.Side.TheVariants as side
use Rattle.gb_base.specs.declared.event.Event.TheVariants as event
use Rattle.gb_base.specs.declared.host_event.HostEvent.TheVariants as host_event
use Rattle.gb_base.specs.declared.host_event.HostEvent.{HostEvent}
use Rattle.gb_base.specs.declared.interface.Link.{Link}
use Rattle.gb_machine.specs.Bus.{Ask, Bus, Connection, Item, Place, Raw, RawReply, Reply, Request}
use Rattle.gb_machine.specs.Bus.{connection_of, has_number, place_of, queue, request_of}
use Rattle.gb_machine.specs.Host.{first_host, interface_of, link_of}
use Rattle.gb_machine.specs.{Delivery.popped, Delivery.without_front, HostServing.served_on}
use Rattle.gb_machine.specs.{Lists.behind_first, Lists.first, Members.IsIn, Runs.Moment, Runs.after}
use Rattle.gb_machine.specs.SvcQueues.{is_told, items_in}
use Rattle.gb_machine.specs.Lists.{is_within}
use Rattle.gb_invariants.proofs.{Awaiting.not-both, Awaiting.same-some, Found.find-changed}
use Rattle.gb_invariants.proofs.{ItemChanges.first-in, Numbers.found-by_number}
use Rattle.gb_invariants.proofs.{Outcomes.same-number, Selves.ap-no-far, Selves.front-self}
use Rattle.gb_invariants.proofs.ModuleTurns.{in-span}
use Rattle.gb_laws.proofs.marks.MarkNotices.{first-behind, notice-any, svc-front}
use Rattle.gb_laws.proofs.marks.Marks.{Mark, came, item_mark, known-in, known_at, mark_in, marks}
use Rattle.gb_laws.proofs.marks.Marks.{marks-first, marks_of, notice_of, request_mark, went}
use Rattle.gb_laws.proofs.points.PointParts.{Basis, IsNoticed, resting}
use Rattle.gb_laws.proofs.{links.LinkFrom.Linked, points.Places.place-is}
use Rattle.gb_laws.proofs.{links.Removing.removed-absent}
use Rattle.gb_laws.proofs.marks.MarkKnown.{IsInserted}
use Rattle.gb_laws.proofs.marks.Wholes.{true-within}

-- no insertion of an interface is handled at a moment
abbrev pub IsUninserted : Moment → ℕ → Type 0
IsUninserted m i = (q : ℕ) → IsInserted m i q → ⊥

-- What becomes of the marks of an interface at a moment.
pub data Taken (m : Moment) (i : ℕ) (ms later : List Mark) : Type 0 where
  none_taken : ms ≡ later → IsUninserted m i → Taken m i ms later
  insertion : (p : ℕ) → ms ≡ came p ∷ later → ((q : ℕ) → IsInserted m i q → q ≡ p)
      → Taken m i ms later
  removal : (p : ℕ) (own : Bool) → ms ≡ went p own ∷ later
      → (known_at i m.before.host ≡ Some p → interface_of i (after m).host ≡ None)
      → IsUninserted m i → Taken m i ms later

-- no connection to a module has number 1
pub no-link-one : (b : Bus) (ls : List Link) → ((l : Link) → IsIn l ls → 2 ≤ l.connection)
    → find (λ l. l.connection == 1) ls ≡ None
no-link-one b [] two = refl
no-link-one b (l ∷ ls) two =
    let low = two l (inl refl) in
    let other : (l.connection == 1) ≡ false = grind (arith, nat_tests) in
    ap (λ t. cond t (Some l) (find (λ k. k.connection == 1) ls)) other
    ∙ no-link-one b ls (λ k j. two k (inr j))

module _ (m : Moment) (basis : Basis (resting m.told m.before))
    (links : Linked m.before.bus m.before.host []) where
  -- a place that isn't toward the application processor on the supervisory controller's connection
  elsewhere : (at : End) (p : Place) (i : ℕ) (ps : List (ℕ × ℕ))
      → place_of at m.before.bus.connections ≡ Some p
      → m.event ≡ event.Deliver at
      → ((c : Connection) → IsIn c m.before.bus.connections → c.number ≡ p.connection.number
      → c.number ≡ 1
      → marks_of i ps m.before.bus (queue side.Ap (without_front p.side c))
      ≡ marks_of i ps m.before.bus (queue side.Ap c))
      → (p.side ≡ side.Ap → p.connection.number ≡ 1 → ⊥)
      → Taken m i (marks i ps m.before.bus)
      (marks i ps (popped p.connection.number p.side m.before.bus))
  elsewhere at p i ps named is keeps other =
      none_taken (sym (marks-first i ps m.before.bus p.connection.number (without_front p.side)
      m.before.bus.connections (λ c. (front-self p.side c).number) keeps))
      (λ q n. let s = same-place (host_event.Inserted q n.count) n.noticed in
      other (ap (λ (x : Place). x.side) (sym s) ∙ n.noticed.side)
      (ap (λ (x : Place). x.connection.number) (sym s)
      ∙ (svc-front m (host_event.Inserted q n.count) n.noticed basis links).one))
    where
      same-place : (e : HostEvent) (n : IsNoticed m e) → n.place ≡ p
      same-place e n =
          same-some n.place p (sym n.named
          ∙ ap (λ e. place_of e m.before.bus.connections) (same-at n.at at (sym n.event ∙ is))
          ∙ named)
        where
          same-at : (x y : End) → event.Deliver x ≡ event.Deliver y → x ≡ y
          same-at x y e = cc

  -- the front item on the supervisory controller's connection
  front-taken : (at : End) (p : Place) (item : Item) (i : ℕ) (ps : List (ℕ × ℕ))
      → place_of at m.before.bus.connections ≡ Some p → m.event ≡ event.Deliver at
      → p.side ≡ side.Ap → p.connection.number ≡ 1 → first (queue p.side p.connection) ≡ Some item
      → Taken m i (marks i ps m.before.bus)
      (marks i ps (popped p.connection.number p.side m.before.bus))
  front-taken at p item i ps named is ap_side one front =
      by item refl
    where
      front_ap : first (queue side.Ap p.connection) ≡ Some item
      front_ap = ap (λ s. first (queue s p.connection)) (sym ap_side) ∙ front

      found : connection_of 1 m.before.bus ≡ Some p.connection
      found = subst (λ k. connection_of k m.before.bus ≡ Some p.connection) one
          (found-by_number m.before.bus.connections p.connection basis.bus.numbers.rise
          (place-is at m.before.bus.connections p named).live)

      later : marks i ps (popped p.connection.number p.side m.before.bus)
          ≡ marks_of i ps m.before.bus (behind_first (queue side.Ap p.connection))
      later =
          ap (λ k. marks i ps (popped k p.side m.before.bus)) one
          ∙ ap (λ s. marks i ps (popped 1 s m.before.bus)) ap_side
          ∙ ap (λ o. marks_of i ps m.before.bus (items_in side.Ap o))
          (find-changed (has_number 1) (without_front side.Ap) m.before.bus.connections (λ c. refl)
          ∙ ap (option_map (without_front side.Ap))
          (subst (λ k. connection_of k m.before.bus ≡ Some p.connection) one
          (found-by_number m.before.bus.connections p.connection basis.bus.numbers.rise
          (place-is at m.before.bus.connections p named).live)))

      whole : marks i ps m.before.bus ≡ item_mark i ps m.before.bus item ++ marks i ps
          (popped p.connection.number p.side m.before.bus)
      whole =
          ap (λ o. marks_of i ps m.before.bus (items_in side.Ap o))
          (subst (λ k. connection_of k m.before.bus ≡ Some p.connection) one
          (found-by_number m.before.bus.connections p.connection basis.bus.numbers.rise
          (place-is at m.before.bus.connections p named).live))
          ∙ ap (marks_of i ps m.before.bus) (first-behind (queue side.Ap p.connection) item
          (ap (λ s. first (queue s p.connection)) (sym ap_side) ∙ front))
          ∙ ap (λ ms. item_mark i ps m.before.bus item ++ ms) (sym later)

      same-place : (e : HostEvent) (n : IsNoticed m e) → n.item ≡ item
      same-place e n =
          let same = same-some n.place p (sym n.named
          ∙ ap (λ x. place_of x m.before.bus.connections) (same-at n.at at (sym n.event ∙ is))
          ∙ named) in
          same-some n.item item (sym n.front
          ∙ ap (λ (q : Place). first (queue q.side q.connection)) same ∙ front)
        where
          same-at : (x y : End) → event.Deliver x ≡ event.Deliver y → x ≡ y
          same-at x y e = cc

      -- what is noticed is what the front request says
      notice-front : (n : ℕ) (r : Request) → item ≡ Ask n → request_of n m.before.bus ≡ Some r
          → (e : HostEvent) → IsNoticed m e → notice_of r.kind r.payload ≡ Some e
      notice-front n r item_is made e noticed =
          let f = svc-front m e noticed basis links in
          let numbers = same-ask f.number n (sym f.item ∙ same-place e noticed ∙ item_is) in
          let same = same-some f.request r
          (sym f.made ∙ ap (λ k. request_of k m.before.bus) numbers ∙ made) in
          ap (λ (q : Request). notice_of q.kind q.payload) (sym same) ∙ f.notice
        where
          same-ask : (x y : ℕ) → Ask x ≡ Ask y → x ≡ y
          same-ask x y e = cc

      unmarked : item_mark i ps m.before.bus item ≡ [] → IsUninserted m i
          → Taken m i (marks i ps m.before.bus)
          (marks i ps (popped p.connection.number p.side m.before.bus))
      unmarked e unnoted = none_taken
          (whole ∙ ap (λ ms. ms ++ marks i ps (popped p.connection.number p.side m.before.bus)) e)
          unnoted

      -- an item that is no request is noticed by none
      no-ask : ((n : ℕ) → item ≡ Ask n → ⊥) → IsUninserted m i
      no-ask other q n =
          let f = svc-front m (host_event.Inserted q n.count) n.noticed basis links in
          other f.number (sym (same-place (host_event.Inserted q n.count) n.noticed) ∙ f.item)

      asked : (n : ℕ) (r : Request) → item ≡ Ask n → request_of n m.before.bus ≡ Some r
          → (o : Option HostEvent) → notice_of r.kind r.payload ≡ o
          → Taken m i (marks i ps m.before.bus)
          (marks i ps (popped p.connection.number p.side m.before.bus))
      asked n r item_is made o notice = by_notice o notice
        where
          marked : (x : HostEvent) → notice_of r.kind r.payload ≡ Some x
              → marks i ps m.before.bus ≡ mark_in i (is_told n i ps) (Some x) ++ marks i ps
              (popped p.connection.number p.side m.before.bus)
          marked x e = whole ∙ ap (λ ms. ms ++ marks i ps
              (popped p.connection.number p.side m.before.bus))
              (ap (item_mark i ps m.before.bus) item_is
              ∙ ap (request_mark i (is_told n i ps)) made ∙ ap (mark_in i (is_told n i ps)) e)

          other-notice : (x : Option HostEvent) → notice_of r.kind r.payload ≡ x
              → ((q count : ℕ) → x ≡ Some (host_event.Inserted q count) → ⊥) → IsUninserted m i
          other-notice x e other q w = other q w.count
              (sym e ∙ notice-front n r item_is made (host_event.Inserted q w.count) w.noticed)

          same-inserted : (j count q many : ℕ)
              → Some (host_event.Inserted j count) ≡ Some (host_event.Inserted q many)
              → (q ≡ j) × (many ≡ count)
          same-inserted j count q many e = (cc, cc)

          -- what is noticed is this insertion
          same-noticed : (j count : ℕ)
              → notice_of r.kind r.payload ≡ Some (host_event.Inserted j count) → (q : ℕ)
              → (n : IsInserted m i q) → (q ≡ j) × (n.count ≡ count)
          same-noticed j count e q w = same-inserted j count q w.count
              (sym e ∙ notice-front n r item_is made (host_event.Inserted q w.count) w.noticed)

          inserted : (j count : ℕ)
              → notice_of r.kind r.payload ≡ Some (host_event.Inserted j count)
              → (t : Bool) → is_within j count i ≡ t → Taken m i (marks i ps m.before.bus)
              (marks i ps (popped p.connection.number p.side m.before.bus))
          inserted j count e true f = insertion j (marked (host_event.Inserted j count) e
              ∙ ap (λ t. cond t (came j ∷ []) [] ++ marks i ps
              (popped p.connection.number p.side m.before.bus)) f)
              (λ q w. (same-noticed j count e q w).0)
          inserted j count e false f = none_taken (marked (host_event.Inserted j count) e
              ∙ ap (λ t. cond t (came j ∷ []) [] ++ marks i ps
              (popped p.connection.number p.side m.before.bus)) f)
              (λ q w. let s = same-noticed j count e q w in
              let of = in-span i q w.count w.within in
              not-both (is_within j count i)
              (ap (λ k. is_within k count i) (sym s.0) ∙ ap (λ k. is_within q k i) (sym s.1)
              ∙ true-within q w.count i of.0 of.1) f)

          removed : (j : ℕ) → notice_of r.kind r.payload ≡ Some (host_event.Removed j)
              → Taken m i (marks i ps m.before.bus)
              (marks i ps (popped p.connection.number p.side m.before.bus))
          removed j e =
              let none : link_of p.connection.number m.before.host ≡ None =
              ap (λ k. link_of k m.before.host) one ∙ no-link-one m.before.bus m.before.host.links
              (λ l k. (links.host.links.numbered l k).from_two) in
              removal j (is_told n i ps) (marked (host_event.Removed j) e)
              (λ known. removed-absent m at p n j i r is named ap_side (front ∙ ap Some item_is)
              made none (ap (λ o. (served_on o r.kind r.payload m.before.host).notices) none
              ∙ notice-any r.kind r.payload m.before.host first_host ∙ e)
              (known-in i j m.before.host known))
              (other-notice (Some (host_event.Removed j)) e (λ q count g. absurd cc))

          by_notice : (x : Option HostEvent) → notice_of r.kind r.payload ≡ x
              → Taken m i (marks i ps m.before.bus)
              (marks i ps (popped p.connection.number p.side m.before.bus))
          by_notice None e = unmarked (ap (item_mark i ps m.before.bus) item_is
              ∙ ap (request_mark i (is_told n i ps)) made ∙ ap (mark_in i (is_told n i ps)) e)
              (other-notice None e (λ q count g. absurd cc))
          by_notice (Some (host_event.Inserted j count)) e =
              inserted j count e (is_within j count i) refl
          by_notice (Some (host_event.Removed j)) e = removed j e
          by_notice (Some x) e = none_taken (marked x e) (other-notice _ e (λ q count g. absurd cc))

      by : (x : Item) → item ≡ x → Taken m i (marks i ps m.before.bus)
          (marks i ps (popped p.connection.number p.side m.before.bus))
      by (Ask n) e =
          let live = (place-is at m.before.bus.connections p named).live in
          let waits = first-in (queue p.side p.connection) (Ask n) (front ∙ ap Some e) in
          let o = basis.bus.items.own p.connection p.side (Ask n) live waits in
          asked n o.0 e o.1 (notice_of o.0.kind o.0.payload) refl
      by (Reply n result payload) e =
          unmarked (ap (item_mark i ps m.before.bus) e) (no-ask (λ k f. other (sym e ∙ f)))
        where
          other : {k : ℕ} → Reply n result payload ≡ Ask k → ⊥
          other f = absurd cc
      by (Raw bytes) e =
          unmarked (ap (item_mark i ps m.before.bus) e) (no-ask (λ k f. other (sym e ∙ f)))
        where
          other : {k : ℕ} → Raw bytes ≡ Ask k → ⊥
          other f = absurd cc
      by (RawReply label kind result payload) e =
          unmarked (ap (item_mark i ps m.before.bus) e) (no-ask (λ k f. other (sym e ∙ f)))
        where
          other : {k : ℕ} → RawReply label kind result payload ≡ Ask k → ⊥
          other f = absurd cc

  -- where an item is delivered
  pub delivery-taken : (at : End) (p : Place) (item : Item) (i : ℕ) (ps : List (ℕ × ℕ))
      → place_of at m.before.bus.connections ≡ Some p → m.event ≡ event.Deliver at
      → first (queue p.side p.connection) ≡ Some item
      → Taken m i (marks i ps m.before.bus)
      (marks i ps (popped p.connection.number p.side m.before.bus))
  delivery-taken at p item i ps named is front = by p.side refl (p.connection.number == 1) refl
    where
      far : (c : Connection) (s : Side) → s ≡ side.Far
          → queue side.Ap (without_front s c) ≡ queue side.Ap c
      far c side.Far e = refl
      far c side.Ap e = absurd cc

      by : (s : Side) → p.side ≡ s → (t : Bool) → (p.connection.number == 1) ≡ t
          → Taken m i (marks i ps m.before.bus)
          (marks i ps (popped p.connection.number p.side m.before.bus))
      by side.Far e t f = elsewhere at p i ps named is
          (λ c j on one. ap (marks_of i ps m.before.bus) (far c p.side e))
          (λ g k. absurd (ap-no-far (sym g ∙ e)))
      by side.Ap e false f =
          let other : p.connection.number ≢ 1 = λ k. not-both (p.connection.number == 1)
          (ap (λ n. n == 1) k) f in
          elsewhere at p i ps named is (λ c j on one. absurd (other (sym on ∙ one)))
          (λ g k. other k)
      by side.Ap e true f =
          front-taken at p item i ps named is e (same-number p.connection.number 1 f) front
