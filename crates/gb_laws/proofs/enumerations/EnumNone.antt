-- Where none of the requests of an enumeration waits toward the supervisory controller, none does
-- after a change that makes none.
use Rattle.std.proofs.Common.{List, Some, ap, arith, cond, inl, inr, refl, subst, sym, true, ℕ}
use Rattle.std.proofs.Common.{⊎_elim, [], ◌∙◌, ◌∷◌, ◌≡◌}
use Rattle.gb_base.specs.declared.end.Side.TheVariants as side
use Rattle.gb_machine.proofs.Lists.{nth-past}
use Rattle.gb_machine.specs.Bus.{Ask, Bus, Item, Request, next_number, request_of}
use Rattle.gb_machine.specs.Sending.{Draft, requested, sent}
use Rattle.gb_machine.specs.{Members.IsIn, SvcQueues.is_enumeration_request, SvcQueues.svc_items}
use Rattle.gb_invariants.proofs.Awaiting.{none-some, same-some, sent-new, sent-request}
use Rattle.gb_invariants.proofs.Lists.{in-behind, in-front, in-pushed}
use Rattle.gb_invariants.proofs.BusChanges.{KeepsRequests}
use Rattle.gb_laws.proofs.enumerations.Enums.{enum_of, enums, enums_of, item_enum}
use Rattle.gb_laws.proofs.svc.SvcMoves.{FarMoves, asked, elsewhere, puts, stays, taken}
use Rattle.gb_laws.proofs.{marks.MarkFrame.asked-toward, points.PointParts.Basis}
use Rattle.gb_laws.proofs.{points.PointParts.Point}
use Rattle.gb_laws.proofs.{creations.Stale.behind-in, svc.SvcOrder.same-ask}

-- none of the requests of an enumeration waits
abbrev pub IsNone : ℕ → Bus → Type 0
IsNone i b =
    (n : ℕ) (r : Request) → IsIn (Ask n) (svc_items side.Far b) → request_of n b ≡ Some r
    → is_enumeration_request i r ≡ true → ⊥

-- ---- what waits

enums-in : (i : ℕ) (b : Bus) (xs : List Item) (p : ℕ × Request) → IsIn (Ask p.0) xs
    → request_of p.0 b ≡ Some p.1 → is_enumeration_request i p.1 ≡ true → IsIn p (enums_of i b xs)
enums-in i b [] p j made is = absurd j
enums-in i b (x ∷ xs) p (inl e) made is =
    in-front p (item_enum i b x) (enums_of i b xs) (subst (λ y. IsIn p (item_enum i b y)) e
    (subst (λ o. IsIn p (enum_of i p.0 o)) (sym made)
    (subst (λ t. IsIn p (cond t ((p.0, p.1) ∷ []) [])) (sym is) (inl refl))))
enums-in i b (x ∷ xs) p (inr j) made is =
    in-behind p (item_enum i b x) (enums_of i b xs) (enums-in i b xs p j made is)

pub none-enums : (i : ℕ) (b : Bus) → enums i b ≡ [] → IsNone i b
none-enums i b e n r j made is =
    let p : ℕ × Request = (n, r) in
    subst (λ es. IsIn p es) e (enums-in i b (svc_items side.Far b) p j made is)

none-on : (i : ℕ) (a : Point) {after : Bus} → Basis a → FarMoves a.state.bus after
    → KeepsRequests a.state.bus after
    → ((r : Request) → request_of (next_number a.state.bus) after ≡ Some r → r.connection ≡ 1
    → r.side ≡ side.Ap → is_enumeration_request i r ≡ true → ⊥)
    → IsNone i a.state.bus → IsNone i after
none-on i a {after} basis moves keeps new h n r w made is = by moves
  where
    old : IsIn (Ask n) (svc_items side.Far a.state.bus) → ⊥
    old j =
        let m = asked-toward side.Far a basis n j in
        h n m.0 j m.1 (ap (is_enumeration_request i)
        (same-some m.0 r (sym (keeps n m.0 m.1) ∙ made)) ∙ is)

    by : FarMoves a.state.bus after → ⊥
    by (stays requests far) = old (subst (λ xs. IsIn (Ask n) xs) far w)
    by (taken requests far) = old (behind-in (svc_items side.Far a.state.bus) (Ask n)
        (subst (λ xs. IsIn (Ask n) xs) far w))
    by (puts x unasked requests far) = ⊎_elim old (λ e. unasked n (sym e))
        (in-pushed (Ask n) (svc_items side.Far a.state.bus) x (subst (λ xs. IsIn (Ask n) xs) far w))
    by (asked d label e one own far) = ⊎_elim old (λ f.
        let number = same-ask n (next_number a.state.bus) f in
        let then = ap (λ k. request_of k after) (sym number) ∙ made in
        let same = same-some (requested d label) r (sym (sent-new d label a.state.bus)
        ∙ ap (request_of (next_number a.state.bus)) (sym e) ∙ then) in
        new r then (ap (λ (q : Request). q.connection) (sym same) ∙ one)
        (ap (λ (q : Request). q.side) (sym same) ∙ own) is)
        (in-pushed (Ask n) (svc_items side.Far a.state.bus) (Ask (next_number a.state.bus))
        (subst (λ xs. IsIn (Ask n) xs) far w))
    by (elsewhere d label e other far) = old (subst (λ xs. IsIn (Ask n) xs) far w)

-- where no request is made
pub none-same : (i : ℕ) (a : Point) {after : Bus} → Basis a → FarMoves a.state.bus after
    → KeepsRequests a.state.bus after → after.requests ≡ a.state.bus.requests
    → IsNone i a.state.bus → IsNone i after
none-same i a {after} basis moves keeps same h = none-on i a basis moves keeps
    (λ r made on own is. none-some (sym (nth-past (next_number a.state.bus) a.state.bus.requests
    (omega arith)) ∙ ap (λ rs. request_of (next_number a.state.bus)
    (record after { requests = rs })) (sym same) ∙ made)) h

-- where the request that is made is none of the enumeration
pub none-sent : (i : ℕ) (a : Point) (d : Draft) (label : ℕ) → Basis a
    → FarMoves a.state.bus (sent d label a.state.bus)
    → (d.connection ≡ 1 → d.side ≡ side.Ap → is_enumeration_request i (requested d label) ≡ true
    → ⊥) → IsNone i a.state.bus → IsNone i (sent d label a.state.bus)
none-sent i a d label basis moves none h = none-on i a basis moves
    (λ n r made. sent-request d label a.state.bus n r made) (λ r made on own is.
    let same = same-some (requested d label) r (sym (sent-new d label a.state.bus) ∙ made) in
    none (ap (λ (q : Request). q.connection) same ∙ on) (ap (λ (q : Request). q.side) same ∙ own)
    (ap (is_enumeration_request i) same ∙ is)) h
