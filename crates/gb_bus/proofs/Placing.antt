-- Which connection an end names, and which one joins two ends.
use Rattle.std.proofs.Common.{◌≡◌, ◌≢◌, ℕ, Bool, true, false, cond, not, ◌&&◌, eqb, inl, inr}
use Rattle.std.proofs.Common.{Option, Some, None, option_map, List, [], ◌∷◌, ◌++◌, refl, sym, ap}
use Rattle.std.proofs.Common.{◌∙◌, subst}
use Rattle.std.proofs.lemmas.Bool.{eq-eqb, eqb-true, ne_eqb, and_left}
use Rattle.std.specs.List.{find}
use Rattle.std.specs.Prelude.{nat_eq}
use Rattle.indexmap.specs.IndexMap.{get}
use Rattle.gb_base.specs.declared.end.End.{End}
use Rattle.gb_base.specs.declared.end.End.TheVariants as end
use Rattle.gb_base.specs.declared.end.Side.{Side}
use Rattle.gb_base.specs.declared.end.Side.TheVariants as side
use Rattle.gb_bus.proofs.Entries.{EachEntry, both, each-back, each-entry, each-front, find-none}
use Rattle.gb_bus.proofs.Entries.{find-split, nowhere, same-some, some-none, split}
use Rattle.gb_bus.proofs.Keeping.{number-of-end, two-ends}
use Rattle.gb_bus.specs.Ends.{is_far}
use Rattle.gb_bus.specs.Index.{Ends, IsEndOf, IsIndexed, MapsAgree, Live, number_at}
use Rattle.gb_bus.specs.Numbered.{HasSide}
use Rattle.gb_bus.specs.Parts.{end_at, joins, place_at, side_at}
use Rattle.gb_bus.specs.Seen.{all_seen, seen}
use Rattle.gb_bus.specs.declared.connection.Connection as code
use Rattle.gb_machine.specs.Bus.{or_else, same_end}
use Rattle.gb_switch.proofs.Places.{by-false}

-- ends that compare equal are one
end-is : (a b : End) → same_end a b ≡ true → a ≡ b
end-is end.Svc end.Svc e = refl
end-is end.Svc (end.Ap b) e = absurd (cc e)
end-is end.Svc (end.Module j d) e = absurd (cc e)
end-is (end.Ap a) end.Svc e = absurd (cc e)
end-is (end.Ap a) (end.Ap b) e = ap end.Ap (eqb-true a b e)
end-is (end.Ap a) (end.Module j d) e = absurd (cc e)
end-is (end.Module i c) end.Svc e = absurd (cc e)
end-is (end.Module i c) (end.Ap b) e = absurd (cc e)
end-is (end.Module i c) (end.Module j d) e =
    by (eqb i j) refl (eqb c d) refl e
  where
    by : (t : Bool) → eqb i j ≡ t → (u : Bool) → eqb c d ≡ u → (t && u) ≡ true
        → end.Module i c ≡ end.Module j d
    by true f true g h = ap (λ n. end.Module n c) (eqb-true i j f)
        ∙ ap (λ n. end.Module j n) (eqb-true c d g)
    by true f false g h = absurd (cc h)
    by false f true g h = absurd (cc h)
    by false f false g h = absurd (cc h)

pub end-differs : (a b : End) → a ≢ b → same_end a b ≡ false
end-differs a b ne = by-false (same_end a b) (λ e. ne (end-is a b e))

pub end-own : (e : End) → same_end e e ≡ true
end-own end.Svc = refl
end-own (end.Ap a) = eq-eqb a a refl
end-own (end.Module i c) = ap (λ b. b && eqb c c) (eq-eqb i i refl) ∙ eq-eqb c c refl

-- an end that a connection hasn't is at none of its sides
no-side : (k : ℕ) (x : code.Connection) (at : End) → (IsEndOf at x → ⊥)
    → side_at at (seen k x) ≡ None
no-side k x at never =
    ap (λ b. cond (not x.wired) None (cond b (Some side.Ap)
    (cond (same_end at x.peer) (Some side.Far) None)))
    (end-differs at (end.Ap x.ap) (λ e. never (inl e)))
    ∙ ap (λ b. cond (not x.wired) None (cond b (Some side.Far) None))
    (end-differs at x.peer (λ e. never (inr e)))
    ∙ by x.wired
  where
    by : (w : Bool) → cond (not w) None (let n : Option Side = None in n) ≡ None
    by true = refl
    by false = refl

-- where no connection has an end
place-none : (at : End) (es : List (ℕ × code.Connection))
    → EachEntry (λ k x. side_at at (seen k x) ≡ None) es → place_at at (all_seen es) ≡ None
place-none at [] h = refl
place-none at (e ∷ es) h =
    ap (λ o. or_else (option_map (λ s. (e.0, s)) o) (place_at at (all_seen es))) h.0
    ∙ place-none at es h.1

or-none : {A : Type 0} (o : Option A) → or_else o None ≡ o
or-none None = refl
or-none (Some a) = refl

-- where only that with a number may have it
place-split : (at : End) (front back : List (ℕ × code.Connection)) (n : ℕ)
    (x : code.Connection)
    → EachEntry (λ k z. side_at at (seen k z) ≡ None) front
    → EachEntry (λ k z. side_at at (seen k z) ≡ None) back
    → place_at at (all_seen (front ++ (n, x) ∷ back))
    ≡ option_map (λ s. (n, s)) (side_at at (seen n x))
place-split at [] back n x h b =
    ap (λ o. or_else (option_map (λ s. (n, s)) (side_at at (seen n x))) o)
    (place-none at back b)
    ∙ or-none (option_map (λ s. (n, s)) (side_at at (seen n x)))
place-split at (e ∷ front) back n x h b =
    ap (λ o. or_else (option_map (λ s. (e.0, s)) o)
    (place_at at (all_seen (front ++ (n, x) ∷ back)))) h.0
    ∙ place-split at front back n x h.1 b

-- a connection whose number an end hasn't got hasn't the end
not-its : (ends : Ends) (k : ℕ) (x : code.Connection) (at : End) (o : Option ℕ)
    → number_at ends at ≡ o → (o ≡ Some k → ⊥) → IsIndexed ends k x
    → IsEndOf at x → ⊥
not-its ends k x at o is ne i own = ne (sym is ∙ number-of-end ends k x at i own)

-- ---- the place of an end

-- the end has no number
pub places-nowhere : (live : Live) (ends : Ends) (q : List End) (at : End) → MapsAgree live ends q
    → number_at ends at ≡ None → place_at at (all_seen live.entries) ≡ None
places-nowhere live ends q at k none =
    place-none at live.entries
    (each-entry (λ n x. side_at at (seen n x) ≡ None) live.entries k.unique
    (λ n x there. no-side n x at
    (not-its ends n x at None none (λ e. some-none n (sym e)) (k.indexed n x there))))

-- others than the one with its number haven't it
others-no-side : (live : Live) (ends : Ends) (q : List End) (at : End) (n : ℕ)
    → MapsAgree live ends q → number_at ends at ≡ Some n
    → EachEntry (λ j z. j ≢ n → side_at at (seen j z) ≡ None) live.entries
others-no-side live ends q at n k is =
    each-entry (λ j z. j ≢ n → side_at at (seen j z) ≡ None) live.entries k.unique
    (λ j z there ne. no-side j z at
    (not-its ends j z at (Some n) is (λ e. ne (sym (same-some n j e))) (k.indexed j z there)))

-- the end has a number that no live connection has
pub places-dead : (live : Live) (ends : Ends) (q : List End) (at : End) (n : ℕ)
    → MapsAgree live ends q
    → number_at ends at ≡ Some n → get nat_eq live n ≡ None
    → place_at at (all_seen live.entries) ≡ None
places-dead live ends q at n k is dead =
    place-none at live.entries
    (both (λ j z. j ≢ n) (λ j z. side_at at (seen j z) ≡ None) live.entries
    (nowhere n live.entries dead) (others-no-side live ends q at n k is))

-- it has that of a live one
pub places : (live : Live) (ends : Ends) (q : List End) (at : End) (n : ℕ) (x : code.Connection)
    → MapsAgree live ends q → number_at ends at ≡ Some n → get nat_eq live n ≡ Some x
    → place_at at (all_seen live.entries)
    ≡ option_map (λ s. (n, s)) (side_at at (seen 0 x))
places live ends q at n x k is there =
    let p = split live.entries n x k.unique there in
    let all = subst (EachEntry (λ j z. j ≢ n → side_at at (seen j z) ≡ None)) p.is
    (others-no-side live ends q at n k is) in
    let front = both (λ j z. j ≢ n) (λ j z. side_at at (seen j z) ≡ None) p.front p.before
    (each-front (λ j z. j ≢ n → side_at at (seen j z) ≡ None) p.front ((n, x) ∷ p.back)
    all) in
    let back = both (λ j z. j ≢ n) (λ j z. side_at at (seen j z) ≡ None) p.back p.behind
    (each-back (λ j z. j ≢ n → side_at at (seen j z) ≡ None) p.front ((n, x) ∷ p.back)
    all).1 in
    ap (λ es. place_at at (all_seen es)) p.is ∙ place-split at p.front p.back n x front back

-- a connection that has a side for an end is wired, and the end is its own there
side-own : (at : End) (x : code.Connection) (s : Side) → side_at at (seen 0 x) ≡ Some s
    → (x.wired ≡ true) × (at ≡ end_at s (seen 0 x))
side-own at x s is =
    by x.wired refl (same_end at (end.Ap x.ap)) refl (same_end at x.peer) refl s is
  where
    by : (w : Bool) → x.wired ≡ w → (a : Bool) → same_end at (end.Ap x.ap) ≡ a
        → (f : Bool) → same_end at x.peer ≡ f → (t : Side)
        → cond (not w) None (cond a (Some side.Ap) (cond f (Some side.Far) None)) ≡ Some t
        → (x.wired ≡ true) × (at ≡ end_at t (seen 0 x))
    by false w a near f far t e = absurd (cc e)
    by true w true near f far side.Ap e = (w, end-is at (end.Ap x.ap) near)
    by true w true near f far side.Far e = absurd (cc e)
    by true w false near true far side.Ap e = absurd (cc e)
    by true w false near true far side.Far e = (w, end-is at x.peer far)
    by true w false near false far t e = absurd (cc e)

own-end : (at : End) (x : code.Connection) (s : Side) → at ≡ end_at s (seen 0 x) → IsEndOf at x
own-end at x side.Ap e = inl e
own-end at x side.Far e = inr e

-- each end of a connection that is wired is at its side
pub own-side : (x : code.Connection) (s : Side) → is_far x.peer ≡ true → x.wired ≡ true
    → side_at (end_at s (seen 0 x)) (seen 0 x) ≡ Some s
own-side x side.Ap far w =
    ap (λ b. cond (not b) None (cond (same_end (end.Ap x.ap) (end.Ap x.ap)) (Some side.Ap)
    (cond (same_end (end.Ap x.ap) x.peer) (Some side.Far) None))) w
    ∙ ap (λ b. cond b (Some side.Ap) (cond (same_end (end.Ap x.ap) x.peer) (Some side.Far) None))
    (end-own (end.Ap x.ap))
own-side x side.Far far w =
    ap (λ b. cond (not b) None (cond (same_end x.peer (end.Ap x.ap)) (Some side.Ap)
    (cond (same_end x.peer x.peer) (Some side.Far) None))) w
    ∙ ap (λ b. cond b (Some side.Ap) (cond (same_end x.peer x.peer) (Some side.Far) None))
    (end-differs x.peer (end.Ap x.ap) (λ e. two-ends x.ap x.peer far (sym e)))
    ∙ ap (λ b. cond b (Some side.Far) None) (end-own x.peer)

-- a connection was found that has a side for the end
pub places-counted : (live : Live) (ends : Ends) (q : List End) (at : End) (k : ℕ) (s : Side)
    → MapsAgree live ends q → HasSide live k at s
    → Some (k, s) ≡ place_at at (all_seen live.entries)
places-counted live ends q at k s kept h =
    let x = h.connection in
    sym (places live ends q at k x kept
    (number-of-end ends k x at (kept.indexed k x h.there) (own-end at x s (side-own at x s h.is).1))
    h.there ∙ ap (option_map (λ t. (k, t))) h.is)

-- ---- the connection that joins two ends

-- one with another CPort of the application processor joins others
no-join : (k : ℕ) (x : code.Connection) (a : ℕ) (peer : End)
    → (IsEndOf (end.Ap a) x → ⊥) → joins a peer (seen k x) ≡ false
no-join k x a peer never =
    and_left (eqb x.ap a) (same_end x.peer peer)
    (ne_eqb x.ap a (λ e. never (inl (ap end.Ap (sym e)))))

pub joins-nowhere : (live : Live) (ends : Ends) (q : List End) (a : ℕ) (peer : End)
    → MapsAgree live ends q → number_at ends (end.Ap a) ≡ None
    → find (joins a peer) (all_seen live.entries) ≡ None
joins-nowhere live ends q a peer k none =
    find-none (joins a peer) live.entries
    (each-entry (λ n x. joins a peer (seen n x) ≡ false) live.entries k.unique
    (λ n x there. no-join n x a peer
    (not-its ends n x (end.Ap a) None none (λ e. some-none n (sym e)) (k.indexed n x there))))

others-join : (live : Live) (ends : Ends) (q : List End) (a : ℕ) (peer : End) (n : ℕ)
    → MapsAgree live ends q → number_at ends (end.Ap a) ≡ Some n
    → EachEntry (λ j z. j ≢ n → joins a peer (seen j z) ≡ false) live.entries
others-join live ends q a peer n k is =
    each-entry (λ j z. j ≢ n → joins a peer (seen j z) ≡ false) live.entries k.unique
    (λ j z there ne. no-join j z a peer
    (not-its ends j z (end.Ap a) (Some n) is (λ e. ne (sym (same-some n j e)))
    (k.indexed j z there)))

pub joins-dead : (live : Live) (ends : Ends) (q : List End) (a : ℕ) (peer : End) (n : ℕ)
    → MapsAgree live ends q → number_at ends (end.Ap a) ≡ Some n
    → get nat_eq live n ≡ None → find (joins a peer) (all_seen live.entries) ≡ None
joins-dead live ends q a peer n k is dead =
    find-none (joins a peer) live.entries
    (both (λ j z. j ≢ n) (λ j z. joins a peer (seen j z) ≡ false) live.entries
    (nowhere n live.entries dead) (others-join live ends q a peer n k is))

pub joins-there : (live : Live) (ends : Ends) (q : List End) (a : ℕ) (peer : End) (n : ℕ)
    (x : code.Connection) → MapsAgree live ends q
    → number_at ends (end.Ap a) ≡ Some n → get nat_eq live n ≡ Some x
    → find (joins a peer) (all_seen live.entries)
    ≡ cond (joins a peer (seen n x)) (Some (seen n x)) None
joins-there live ends q a peer n x k is there =
    let p = split live.entries n x k.unique there in
    let all = subst (EachEntry (λ j z. j ≢ n → joins a peer (seen j z) ≡ false)) p.is
    (others-join live ends q a peer n k is) in
    let front = both (λ j z. j ≢ n) (λ j z. joins a peer (seen j z) ≡ false) p.front p.before
    (each-front (λ j z. j ≢ n → joins a peer (seen j z) ≡ false) p.front
    ((n, x) ∷ p.back) all) in
    let back = both (λ j z. j ≢ n) (λ j z. joins a peer (seen j z) ≡ false) p.back p.behind
    (each-back (λ j z. j ≢ n → joins a peer (seen j z) ≡ false) p.front ((n, x) ∷ p.back)
    all).1 in
    ap (λ es. find (joins a peer) (all_seen es)) p.is
    ∙ find-split (joins a peer) p.front p.back n x front back
