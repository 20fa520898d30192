-- What is said of an enumeration while a removal waits stays where the bus does, and where requests
-- are made.
use Rattle.std.proofs.Common.{Bool, List, None, Some, ap, append-nil, cond, false, inl, refl, subst}
use Rattle.std.proofs.Common.{sym, true, ℕ, [], ◌++◌, ◌∙◌, ◌∷◌, ◌≡◌, ◌≢◌}
use Rattle.std.specs.Prelude.{◌==◌, ◌||◌}
use Rattle.gb_base.specs.declared.end.Side.{Side}
use Rattle.gb_base.specs.declared.end.End.TheVariants as end
use Rattle.gb_base.specs.declared.end.Side.TheVariants as side
use Rattle.gb_machine.specs.Bus.{Ask, Bus, Connection, Item, connection_of, next_number, other_side}
use Rattle.gb_machine.specs.Bus.{request_of}
use Rattle.gb_machine.specs.Sending.{Draft, requested, sent}
use Rattle.gb_machine.specs.SvcQueues.{is_enumeration_request, is_removal_in, is_reply_to, is_told}
use Rattle.gb_machine.specs.SvcQueues.{svc_items}
use Rattle.gb_machine.specs.{LawsBus.is_awaited, Plugging.with_told, Ports.level_of, Runs.Moment}
use Rattle.gb_machine.specs.{State.State}
use Rattle.gb_invariants.proofs.Awaiting.{none-some, not-both, sent-after, sent-request}
use Rattle.gb_invariants.proofs.{BusChanges.KeepsRequests, Labels.asked_on, Labels.asked_on-number}
use Rattle.gb_invariants.proofs.{Numbers.found-number, Outcomes.same-number, Selves.module-no-svc}
use Rattle.gb_laws.proofs.enumerations.Enums.{IsClean, clean-unasked, enums, removed-unasked}
use Rattle.gb_laws.proofs.enumerations.Enums.{removed_in}
use Rattle.gb_laws.proofs.marks.Marks.{told-elsewhere}
use Rattle.gb_laws.proofs.points.PointParts.{Basis, Hand, Point}
use Rattle.gb_laws.proofs.points.Points.{IsFarAsking, by_module, by_svc}
use Rattle.gb_laws.proofs.points.Pulls.{PulledAt, next-untold}
use Rattle.gb_laws.proofs.removals.Quiet.{IsUnanswered, SameQueues, SameView, enums-same}
use Rattle.gb_laws.proofs.removals.Quiet.{is_removed, off}
use Rattle.gb_laws.proofs.removals.Quiet.{removed-same, stays, unanswered-same, view-same}
use Rattle.gb_laws.proofs.removals.QuietBuses.{IsPut, asked-ap, asked-put, enums-asked}
use Rattle.gb_laws.proofs.removals.QuietBuses.{queues-other}
use Rattle.gb_laws.proofs.{links.LinkKept.LinkedAt, svc.SvcThere.There}

-- ---- the bus stays

pub queues-refl : {b : Bus} → SameQueues b b
queues-refl = record { keeps = λ n r made. made; far = refl; ap = refl }

-- where the bus and the levels stay, and what is being handled is no other
pub view-rest : {i : ℕ} {a b : Point} → Basis a → b.state.bus ≡ a.state.bus
    → level_of i b.state.ports ≡ level_of i a.state.ports
    → b.state.past.pulled ≡ a.state.past.pulled
    → ((h : Hand) → b.hand ≡ Some h → a.hand ≡ Some h) → SameView i a b
view-rest {a} basis bus level pulled hand =
    view-same basis (subst (SameQueues a.state.bus) (sym bus) (queues-refl)) level pulled
    (λ n u h e. u.hand h (hand h e)) (λ n u. subst (λ x. is_awaited n x ≡ true) (sym bus) u.awaited)

-- where a pull is remembered of an interface whose power is off
told-as : (i : ℕ) (ps qs : List (ℕ × ℕ)) (x : Item)
    → ((k : ℕ) → is_told k i qs ≡ is_told k i ps) → is_removal_in i qs x ≡ is_removal_in i ps x
told-as i ps qs (Ask k) same = same k
told-as i ps qs _ same = refl

removed-as : (i : ℕ) (ps qs : List (ℕ × ℕ)) (xs : List Item)
    → ((k : ℕ) → is_told k i qs ≡ is_told k i ps) → removed_in i qs xs ≡ removed_in i ps xs
removed-as i ps qs [] same = refl
removed-as i ps qs (x ∷ xs) same = ap (λ t. t || removed_in i qs xs) (told-as i ps qs x same)
    ∙ ap (λ t. is_removal_in i ps x || t) (removed-as i ps qs xs same)

clean-as : (n i : ℕ) (ps qs : List (ℕ × ℕ)) (xs : List Item)
    → ((k : ℕ) → is_told k i qs ≡ is_told k i ps) → IsClean n i ps xs → IsClean n i qs xs
clean-as n i ps qs [] same h = tt
clean-as n i ps qs (x ∷ xs) same h =
    (λ r. h.0 (sym (removed-as i ps qs xs same) ∙ r), clean-as n i ps qs xs same h.1)

pub view-recalled : (i : ℕ) (a : Point) {b : Point} (n j : ℕ) → level_of j a.state.ports ≡ 0
    → b.state ≡ with_told n (j ∷ []) a.state → b.hand ≡ a.hand → SameView i a b
view-recalled i a {b} n j zero state hand = by (j == i) refl
  where
    level : level_of i b.state.ports ≡ level_of i a.state.ports
    level = ap (λ (s : State). level_of i s.ports) state

    enums_same : enums i b.state.bus ≡ enums i a.state.bus
    enums_same = ap (λ (s : State). enums i s.bus) state

    by : (t : Bool) → (j == i) ≡ t → SameView i a b
    by true e = record {
      enums = inl enums_same;
      power = off (level ∙ ap (λ k. level_of k a.state.ports) (sym (same-number j i e)) ∙ zero);
    }
    by false e = record {
      enums = inl enums_same;
      power = stays level (λ r. sym removed ∙ r) (λ q r u. record {
        clean = subst (λ (s : State). IsClean q i s.past.pulled (svc_items side.Ap s.bus))
            (sym state) (clean-as q i a.state.past.pulled (a.state.past.pulled ++ (n, j) ∷ [])
            (svc_items side.Ap a.state.bus) told u.clean);
        hand = λ h f. u.hand h (sym hand ∙ f);
        request = u.request;
        made = ap (λ (s : State). request_of q s.bus) state ∙ u.made;
        on = u.on;
        by_ap = u.by_ap;
        awaited = ap (λ (s : State). is_awaited q s.bus) state ∙ u.awaited;
      });
    }
      where
        told : (k : ℕ) → is_told k i (a.state.past.pulled ++ (n, j) ∷ [])
            ≡ is_told k i a.state.past.pulled
        told k = told-elsewhere n j k i a.state.past.pulled e

        removed : is_removed i b.state ≡ is_removed i a.state
        removed = ap (is_removed i) state
            ∙ removed-as i a.state.past.pulled (a.state.past.pulled ++ (n, j) ∷ [])
            (svc_items side.Ap a.state.bus) (λ k. told-elsewhere n j k i a.state.past.pulled e)

-- nothing is being handled then
pub none-hand : (b : Point) → b.hand ≡ None → (P : Hand → Type 0) → (h : Hand)
    → b.hand ≡ Some h → P h
none-hand b none P h e = absurd (none-some (sym none ∙ e))

-- ---- requests are made

-- on a connection of a module
pub view-asked : (i : ℕ) (a : Point) {b : Point} (d : Draft) (label : ℕ) → Basis a
    → b.state.bus ≡ sent d label a.state.bus
    → level_of i b.state.ports ≡ level_of i a.state.ports
    → b.state.past.pulled ≡ a.state.past.pulled → b.hand ≡ a.hand
    → d.connection ≢ 1 → SameView i a b
view-asked i a d label basis bus level pulled hand other =
    view-same basis (subst (SameQueues a.state.bus) (sym bus)
    (queues-other a.state.bus (sent d label a.state.bus) d.connection
    (asked_on d label a.state.bus) refl (sent-request d label a.state.bus)
    (asked_on-number d label a.state.bus) other)) level pulled (λ n u h e. u.hand h (sym hand ∙ e))
    (λ n u. subst (λ x. is_awaited n x ≡ true) (sym bus)
    (sent-after d label a.state.bus n u.awaited))

-- a module's connection isn't the supervisory controller's
pub not-svc : (a : Point) (d : Draft) (c : Connection) (j p : ℕ) → LinkedAt a
    → connection_of d.connection a.state.bus ≡ Some c → c.peer ≡ end.Module j p → d.connection ≢ 1
not-svc a d c j p links found peer one =
    let f = found-number d.connection a.state.bus c found in
    module-no-svc (sym peer ∙ (links.svc c f.0 (f.1 ∙ one)).peer)

-- the application processor asks, on the supervisory controller's connection, what is no request of
-- the enumeration
pub view-plain : (i : ℕ) (a : Point) {b : Point} (d : Draft) (label : ℕ) → Basis a → There
    a.state.bus → b.state.bus ≡ sent d label a.state.bus
    → level_of i b.state.ports ≡ level_of i a.state.ports
    → b.state.past.pulled ≡ a.state.past.pulled → b.hand ≡ a.hand
    → d.connection ≡ 1 → d.side ≡ side.Ap
    → is_enumeration_request i (requested d label) ≡ false → SameView i a b
view-plain i a {b} d label basis there bus level pulled hand one by_ap none = record {
  enums = inl (subst (λ x. enums i x ≡ enums i a.state.bus) (sym bus)
      (enums-asked i a d label basis there one by_ap ∙ ap (λ t. enums i a.state.bus
      ++ (cond t ((next_number a.state.bus, requested d label) ∷ []) [] ++ []))
      none ∙ append-nil (enums i a.state.bus)));
  power = stays level (λ r. sym (removed-same i a b same pulled) ∙ r)
      (λ n r u. unanswered-same i n a b keeps same pulled (λ h e. u.hand h (sym hand ∙ e))
      (subst (λ x. is_awaited n x ≡ true) (sym bus)
      (sent-after d label a.state.bus n u.awaited)) u);
}
  where
    keeps : KeepsRequests a.state.bus b.state.bus
    keeps n r made = ap (request_of n) bus ∙ sent-request d label a.state.bus n r made

    same : svc_items side.Ap b.state.bus ≡ svc_items side.Ap a.state.bus
    same = ap (svc_items side.Ap) bus ∙ asked-ap d label basis there one by_ap

-- an item that is no removal is put toward the application processor
pub view-put_ap : (i : ℕ) (a b : Point) (x : Item) → Basis a → KeepsRequests a.state.bus b.state.bus
    → svc_items side.Ap b.state.bus ≡ svc_items side.Ap a.state.bus ++ x ∷ []
    → svc_items side.Far b.state.bus ≡ svc_items side.Far a.state.bus
    → is_removal_in i b.state.past.pulled x ≡ false
    → level_of i b.state.ports ≡ level_of i a.state.ports
    → b.state.past.pulled ≡ a.state.past.pulled
    → ((n : ℕ) → IsUnanswered i n a → (h : Hand) → b.hand ≡ Some h → is_reply_to n h.item ≡ false)
    → ((n : ℕ) → IsUnanswered i n a → is_awaited n b.state.bus ≡ true) → SameView i a b
view-put_ap i a b x basis keeps put_ap far none level pulled hand awaited = record {
  enums = inl (enums-same i a b.state.bus basis keeps far);
  power = stays level
      (λ r. ap (λ ps. removed_in i ps before) (sym pulled)
      ∙ sym (removed-unasked i b.state.past.pulled before x none)
      ∙ ap (removed_in i b.state.past.pulled) (sym put_ap) ∙ r) (λ n r u. record {
        clean = subst (IsClean n i b.state.past.pulled) (sym put_ap)
            (clean-unasked n i b.state.past.pulled before x none
            (subst (λ ps. IsClean n i ps before) (sym pulled) u.clean));
        hand = hand n u;
        request = u.request;
        made = keeps n u.request u.made;
        on = u.on;
        by_ap = u.by_ap;
        awaited = awaited n u;
      });
}
  where
    before : List Item
    before = svc_items side.Ap a.state.bus

-- a far side asks, which tells no pull yet
pub view-far : (m : Moment) (i : ℕ) (a : Point) {b : Point} (d : Draft) (c : Connection) (label : ℕ)
    → Basis a → LinkedAt a → There a.state.bus → PulledAt a
    → connection_of d.connection a.state.bus ≡ Some c
    → b.state.bus ≡ sent d label a.state.bus → b.state.ports ≡ a.state.ports
    → b.state.past.pulled ≡ a.state.past.pulled → b.hand ≡ a.hand
    → IsFarAsking m c d → SameView i a b
view-far m i a d c label basis links there told found bus ports pulled hand
    (by_module j p peer far) =
    view-asked i a d label basis bus (ap (level_of i) ports) pulled hand
    (not-svc a d c j p links found peer)
view-far m i a {b} d c label basis links there told found bus ports pulled hand (by_svc of far) =
    by (d.connection == 1) refl
  where
    keeps : KeepsRequests a.state.bus b.state.bus
    keeps n r made = ap (request_of n) bus ∙ sent-request d label a.state.bus n r made

    toward : (s : Side) → s ≡ side.Far
        → IsPut (other_side s) (Ask (next_number a.state.bus)) a.state.bus
        (sent d label a.state.bus)
        → IsPut side.Ap (Ask (next_number a.state.bus)) a.state.bus (sent d label a.state.bus)
    toward side.Far e p = p
    toward side.Ap e p = absurd cc

    other : (k : ℕ) → (k == 1) ≡ false → k ≢ 1
    other k e f = not-both (k == 1) (ap (λ n. n == 1) f) e

    by : (t : Bool) → (d.connection == 1) ≡ t → SameView i a b
    by false e = view-asked i a d label basis bus (ap (level_of i) ports) pulled hand
        (other d.connection e)
    by true e = view-put_ap i a b (Ask (next_number a.state.bus)) basis keeps ap_put far_same
        (ap (is_told (next_number a.state.bus) i) pulled
        ∙ next-untold i a.state.past.pulled a.state.bus told)
        (ap (level_of i) ports) pulled (λ n u h e. u.hand h (sym hand ∙ e))
        (λ n u. subst (λ x. is_awaited n x ≡ true) (sym bus)
        (sent-after d label a.state.bus n u.awaited))
      where
        p : IsPut side.Ap (Ask (next_number a.state.bus)) a.state.bus (sent d label a.state.bus)
        p = toward d.side far (asked-put d label basis there (same-number d.connection 1 e))

        far_same : svc_items side.Far b.state.bus ≡ svc_items side.Far a.state.bus
        far_same = ap (svc_items side.Far) bus ∙ (toward d.side far
            (asked-put d label basis there (same-number d.connection 1 e))).from

        ap_put : svc_items side.Ap b.state.bus
            ≡ svc_items side.Ap a.state.bus ++ Ask (next_number a.state.bus) ∷ []
        ap_put = ap (svc_items side.Ap) bus ∙ (toward d.side far
            (asked-put d label basis there (same-number d.connection 1 e))).toward
