-- What is said of an enumeration while a removal waits stays where an item is taken.
use Rattle.std.proofs.Common.{Bool, List, Some, ap, false, inl, inr, refl, subst, sym, true, ℕ}
use Rattle.std.proofs.Common.{⊎_elim, [], ◌∙◌, ◌∷◌, ◌≡◌, ◌≢◌, ◌⊎◌}
use Rattle.std.specs.Prelude.{◌==◌, ◌||◌}
use Rattle.gb_base.specs.declared.end.Side.{Side}
use Rattle.gb_base.specs.declared.end.Side.TheVariants as side
use Rattle.gb_machine.specs.Bus.{Connection, Item, Reply, Request, connection_of, queue, request_of}
use Rattle.gb_machine.specs.SvcQueues.{is_removal_in, is_reply_to, items_in, svc_items}
use Rattle.gb_machine.specs.{Delivery.popped, Delivery.without_front, LawsBus.is_awaited}
use Rattle.gb_machine.specs.{Lists.behind_first, Lists.first, Members.IsIn, Ports.level_of}
use Rattle.gb_invariants.proofs.{Awaiting.not-both, Awaiting.same-some, BusChanges.KeepsRequests}
use Rattle.gb_invariants.proofs.{ItemChanges.first-in, Numbers.found-by_number}
use Rattle.gb_invariants.proofs.{Outcomes.same-number, Selves.far-no-ap, Selves.front-self}
use Rattle.gb_invariants.specs.Facts.{IsOwn}
use Rattle.gb_laws.proofs.enumerations.Enums.{IsClean, enums, enums-taken, enums_of, removed_in}
use Rattle.gb_laws.proofs.points.PointParts.{Basis, Hand, Point}
use Rattle.gb_laws.proofs.removals.Quiet.{IsUnanswered, SameQueues, SameView, is_removed}
use Rattle.gb_laws.proofs.removals.Quiet.{removed-same}
use Rattle.gb_laws.proofs.removals.Quiet.{stays, unanswered-same, view-same}
use Rattle.gb_laws.proofs.removals.QuietBuses.{popped-ap, popped-far, queues-other}
use Rattle.gb_laws.proofs.{removals.QuietKept.queues-refl, svc.SvcThere.There}

-- ---- an item is taken

-- what is taken from a connection with another number, or toward the far side, is no reply to what
-- the application processor awaits on the supervisory controller's connection
not-reply : (i n : ℕ) (a : Point) (k : ℕ) (s : Side) (x : Item) → IsUnanswered i n a
    → IsOwn a.state.bus k s x → (k ≢ 1) ⊎ (s ≡ side.Far) → is_reply_to n x ≡ false
not-reply i n a k s (Reply q result payload) u own other = by (q == n) refl
  where
    by : (t : Bool) → (q == n) ≡ t → t ≡ false
    by false e = refl
    by true e =
        let same = same-some own.0 u.request (sym own.1
        ∙ ap (λ z. request_of z a.state.bus) (same-number q n e) ∙ u.made) in
        absurd (⊎_elim (λ ne. ne (sym own.2 ∙ ap (λ (r : Request). r.connection) same ∙ u.on))
        (λ far. far-no-ap (sym far ∙ sym own.3 ∙ ap (λ (r : Request). r.side) same ∙ u.by_ap))
        other)
not-reply i n a k s _ u own other = refl

-- the front item of a connection
pub view-taken : (i : ℕ) (a : Point) {b : Point} (c : Connection) (s : Side) (x : Item) → Basis a
    → There a.state.bus → IsIn c a.state.bus.connections → first (queue s c) ≡ Some x
    → b.state.bus ≡ popped c.number s a.state.bus
    → level_of i b.state.ports ≡ level_of i a.state.ports
    → b.state.past.pulled ≡ a.state.past.pulled
    → b.hand ≡ Some (record { connection = c; side = s; item = x }) → SameView i a b
view-taken i a {b} c s x basis there live front bus level pulled hand =
    by (c.number == 1) refl s refl
  where
    own : IsOwn a.state.bus c.number s x
    own = basis.bus.items.own c s x live (first-in (queue s c) x front)

    keeps : KeepsRequests a.state.bus b.state.bus
    keeps n r made = ap (request_of n) bus ∙ made

    awaited : (n : ℕ) → IsUnanswered i n a → is_awaited n b.state.bus ≡ true
    awaited n u = subst (λ y. is_awaited n y ≡ true) (sym bus) u.awaited

    in-hand : (n : ℕ) → is_reply_to n x ≡ false → (h : Hand) → b.hand ≡ Some h
        → is_reply_to n h.item ≡ false
    in-hand n e h f = ap (λ (y : Hand). is_reply_to n y.item)
        (sym (same-some (record { connection = c; side = s; item = x }) h (sym hand ∙ f))) ∙ e

    -- what waits is in front
    whole : (t : Side) → s ≡ t → c.number ≡ 1
        → svc_items t a.state.bus ≡ x ∷ behind_first (svc_items t a.state.bus)
    whole t is one = front-of (svc_items t a.state.bus)
        (ap (λ o. first (items_in t o)) (found one) ∙ ap (λ z. first (queue z c)) (sym is) ∙ front)
      where
        found : c.number ≡ 1 → connection_of 1 a.state.bus ≡ Some c
        found e = subst (λ k. connection_of k a.state.bus ≡ Some c) e
            (found-by_number a.state.bus.connections c basis.bus.numbers.rise live)

        front-of : (xs : List Item) → first xs ≡ Some x → xs ≡ x ∷ behind_first xs
        front-of [] e = absurd cc
        front-of (y ∷ ys) e = ap (λ z. z ∷ ys) (same-some y x e)

    by : (t : Bool) → (c.number == 1) ≡ t → (z : Side) → s ≡ z → SameView i a b
    by false e z is =
        view-same basis (subst (SameQueues a.state.bus) (sym bus)
        (queues-other a.state.bus (popped c.number s a.state.bus) c.number (without_front s) refl
        (λ n r made. made) (λ y. (front-self s y).number)
        (λ one. not-both (c.number == 1) (ap (λ k. k == 1) one) e))) level pulled
        (λ n u. in-hand n (not-reply i n a c.number s x u own
        (inl (λ one. not-both (c.number == 1) (ap (λ k. k == 1) one) e)))) awaited
    by true e side.Far is =
        let p = popped-far a c.number basis there (same-number c.number 1 e) in
        let now : b.state.bus ≡ popped c.number side.Far a.state.bus =
        bus ∙ ap (λ z. popped c.number z a.state.bus) is in
        let same = ap (svc_items side.Ap) now ∙ p.1 in record {
          enums = ⊎_elim (λ f. inl (taken now p.0 ∙ f)) (λ f. inr (taken now p.0 ∙ f))
              (enums-taken i a.state.bus (svc_items side.Far a.state.bus));
          power = stays level (λ r. sym (removed-same i a b same pulled) ∙ r)
              (λ n r u. unanswered-same i n a b keeps same pulled
              (in-hand n (not-reply i n a c.number s x u own (inr is))) (awaited n u) u);
        }
      where
        taken : b.state.bus ≡ popped c.number side.Far a.state.bus
            → svc_items side.Far (popped c.number side.Far a.state.bus)
            ≡ behind_first (svc_items side.Far a.state.bus) → enums i b.state.bus
            ≡ enums_of i a.state.bus (behind_first (svc_items side.Far a.state.bus))
        taken now f = ap (enums i) now ∙ ap (enums_of i a.state.bus) f
    by true e side.Ap is =
        let p = popped-ap a c.number basis there (same-number c.number 1 e) in
        let now : b.state.bus ≡ popped c.number side.Ap a.state.bus =
        bus ∙ ap (λ z. popped c.number z a.state.bus) is in
        let w = whole side.Ap is (same-number c.number 1 e) in
        let later : svc_items side.Ap b.state.bus ≡ behind_first (svc_items side.Ap a.state.bus) =
        ap (svc_items side.Ap) now ∙ p.0 in record {
          enums = inl (ap (enums i) now ∙ ap (enums_of i a.state.bus) p.1);
          power = stays level (λ r. removed later w r) (λ n r u. clean later w n r u);
        }
      where
        or-later : (t u : Bool) → u ≡ true → t || u ≡ true
        or-later true u f = refl
        or-later false u f = f

        rest : svc_items side.Ap b.state.bus ≡ behind_first (svc_items side.Ap a.state.bus)
            → is_removed i b.state ≡ true → removed_in i a.state.past.pulled
            (behind_first (svc_items side.Ap a.state.bus)) ≡ true
        rest later r =
            ap (λ ps. removed_in i ps (behind_first (svc_items side.Ap a.state.bus))) (sym pulled)
            ∙ ap (removed_in i b.state.past.pulled) (sym later) ∙ r

        removed : svc_items side.Ap b.state.bus ≡ behind_first (svc_items side.Ap a.state.bus)
            → svc_items side.Ap a.state.bus ≡ x ∷ behind_first (svc_items side.Ap a.state.bus)
            → is_removed i b.state ≡ true → is_removed i a.state ≡ true
        removed later w r = ap (removed_in i a.state.past.pulled) w
            ∙ or-later (is_removal_in i a.state.past.pulled x) _ (rest later r)

        clean : svc_items side.Ap b.state.bus ≡ behind_first (svc_items side.Ap a.state.bus)
            → svc_items side.Ap a.state.bus ≡ x ∷ behind_first (svc_items side.Ap a.state.bus)
            → (n : ℕ) → is_removed i b.state ≡ true → IsUnanswered i n a → IsUnanswered i n b
        clean later w n r u =
            let both = subst (IsClean n i a.state.past.pulled) w u.clean in record {
              clean = subst (IsClean n i b.state.past.pulled) (sym later)
                  (subst (λ ps. IsClean n i ps (behind_first (svc_items side.Ap a.state.bus)))
                  (sym pulled) both.1);
              hand = in-hand n (both.0 (rest later r));
              request = u.request;
              made = keeps n u.request u.made;
              on = u.on;
              by_ap = u.by_ap;
              awaited = awaited n u;
            }

-- a held item
pub view-held : (i : ℕ) (a : Point) {b : Point} (c : Connection) (s : Side) (x : Item) → Basis a
    → IsOwn a.state.bus c.number s x → s ≡ side.Far → b.state.bus ≡ a.state.bus
    → level_of i b.state.ports ≡ level_of i a.state.ports
    → b.state.past.pulled ≡ a.state.past.pulled
    → b.hand ≡ Some (record { connection = c; side = s; item = x }) → SameView i a b
view-held i a c s x basis own far bus level pulled hand =
    view-same basis (subst (SameQueues a.state.bus) (sym bus) (queues-refl)) level pulled
    (λ n u h e. ap (λ (y : Hand). is_reply_to n y.item)
    (sym (same-some (record { connection = c; side = s; item = x }) h (sym hand ∙ e)))
    ∙ not-reply i n a c.number s x u own (inr far))
    (λ n u. subst (λ y. is_awaited n y ≡ true) (sym bus) u.awaited)
