-- The ends at which something waits, in their order, are those that are marked.
use Rattle.std.proofs.Common.{◌≡◌, ℕ, Bool, true, false, cond, ◌||◌, eqb, ◌⊎◌, inl, inr, ⊎_elim}
use Rattle.std.proofs.Common.{Less, List, [], ◌∷◌, length, map, refl, sym, ap, ◌∙◌}
use Rattle.std.proofs.Common.{subst, Some, option_and_then, option_map}
use Rattle.std.proofs.lemmas.Bool.{true≢false}
use Rattle.std.proofs.lemmas.Map.Keys.{IsDistinct-head, IsDistinct-tail}
use Rattle.std.specs.List.{AllByRecursion, IsDistinct}
use Rattle.std.specs.List.Sorted.{IsStrictlySortedBy}
use Rattle.std.specs.Map.{keys_of}
use Rattle.std.specs.Ordering.{is_eq}
use Rattle.std.specs.Prelude.{nat_eq}
use Rattle.indexmap.specs.IndexMap.{get}
use Rattle.gb_base.specs.declared.end.End.{End}
use Rattle.gb_base.specs.declared.end.End.TheVariants as end
use Rattle.gb_base.specs.declared.end.Side.{Side}
use Rattle.gb_base.specs.declared.end.Side.TheVariants as side
use Rattle.gb_bus.proofs.Earliest.{OneMore, WaitsIn, WaitsOn, before-through, has-in}
use Rattle.gb_bus.proofs.Earliest.{in-marked, not-before-self, one-end}
use Rattle.gb_bus.proofs.Entries.{EachEntry, NoKey, each-entry, find-seen, others-behind}
use Rattle.gb_bus.proofs.Entries.{same-some}
use Rattle.gb_bus.proofs.Keeping.{number-of-end, two-ends}
use Rattle.gb_bus.proofs.Overviews.{with-some}
use Rattle.gb_bus.proofs.Placing.{own-side, places-counted}
use Rattle.gb_bus.specs.Connection.{Connection}
use Rattle.gb_bus.specs.Index.{Ends, IsEndOf, IsIndexed, MapsAgree, Live}
use Rattle.gb_bus.specs.Numbered.{HasSide}
use Rattle.gb_bus.specs.Parts.{end_at, is_none_left, queue_of}
use Rattle.gb_bus.specs.Seen.{all_seen, seen}
use Rattle.gb_bus.specs.Overview.{count_at, count_of, or_zero, waiting_at, waiting_before}
use Rattle.gb_bus.specs.Overview.{waiting_in, with_end}
use Rattle.gb_bus.specs.declared.connection.Connection as code
use Rattle.gb_bus.specs.declared.queue.Item.{Item}
use Rattle.gb_bus.specs.declared.overview.Waiting.{Waiting}
use Rattle.gb_machine.proofs.Ordering.{in_order-map}
use Rattle.gb_machine.specs.Lists.{in_order}
use Rattle.gb_machine.specs.Waiting.{end_before}
use Rattle.gb_switch.proofs.Places.{cmp-own, cmp-same, settled-before}
use Rattle.gb_switch.specs.Places.{end_cmp}
use Rattle.gb_switch.specs.WaitingEnds.{is_in}

-- ---- the ends of a set, in their order

abbrev InOrder : (End → Type 0) → List End → Type 0
InOrder W [] = (a : End) → W a → ⊥
InOrder W (e ∷ es) =
    W e × ((a : End) → W a → (a ≡ e) ⊎ (end_before e a ≡ true))
    × InOrder (λ a. W a × (end_before e a ≡ true)) es

-- the same ends in other words
same-order : (V W : End → Type 0) (es : List End) → ((a : End) → V a → W a)
    → ((a : End) → W a → V a) → InOrder V es → InOrder W es
same-order V W [] to from h = λ a w. h a (from a w)
same-order V W (e ∷ es) to from h = (
  to e h.0,
  λ a w. h.1 a (from a w),
  same-order (λ a. V a × (end_before e a ≡ true)) (λ a. W a × (end_before e a ≡ true)) es
      (λ a v. (to a v.0, v.1)) (λ a w. (from a w.0, w.1)) h.2,
)

-- none comes before itself
never-itself : (a b : End) → a ≡ b → end_before a b ≡ true → ⊥
never-itself a b same e =
    true≢false (sym e ∙ ap (λ c. end_before c b) same ∙ not-before-self b)

-- there is one such list
one-order : (W : End → Type 0) (xs ys : List End) → InOrder W xs → InOrder W ys → xs ≡ ys
one-order W [] [] h k = refl
one-order W [] (y ∷ ys) h k = absurd (h y k.0)
one-order W (x ∷ xs) [] h k = absurd (k x h.0)
one-order W (x ∷ xs) (y ∷ ys) h k =
    let same : x ≡ y = first (k.1 x h.0) (h.1 y k.0) in
    ap (λ e. e ∷ xs) same
    ∙ ap (λ es. y ∷ es)
    (one-order (λ a. W a × (end_before y a ≡ true)) xs ys
    (subst (λ e. InOrder (λ a. W a × (end_before e a ≡ true)) xs) same h.2) k.2)
  where
    first : (x ≡ y) ⊎ (end_before y x ≡ true) → (y ≡ x) ⊎ (end_before x y ≡ true) → x ≡ y
    first (inl is) other = is
    first (inr later) (inl is) = sym is
    first (inr later) (inr earlier) =
        absurd (never-itself x x refl (before-through x y x earlier later))

-- one end more goes where it belongs
one-more : (W : End → Type 0) (x : End) (es : List End) → InOrder W es → (W x → ⊥)
    → InOrder (λ a. (a ≡ x) ⊎ W a) (in_order end_before x es)
one-more W x [] h never = (
  inl refl,
  λ a w. ⊎_elim (λ is. inl is) (λ v. absurd (h a v)) w,
  λ a w. ⊎_elim (λ is. never-itself x a (sym is) w.1) (λ v. h a v) w.0,
)
one-more W x (e ∷ es) h never =
    by (end_before x e) refl
    (one-more (λ a. W a × (end_before e a ≡ true)) x es h.2 (λ w. never w.0))
  where
    behind : (a : End) → end_before x e ≡ true → W a → end_before x a ≡ true
    behind a t w =
        ⊎_elim (λ is. ap (end_before x) is ∙ t) (λ later. before-through x e a t later) (h.1 a w)

    follows : end_before x e ≡ false → (b : Bool) → end_before e x ≡ b → end_before e x ≡ true
    follows f true is = is
    follows f false is = absurd (never (subst W (one-end e x is f) h.0))

    by : (b : Bool) → end_before x e ≡ b
        → InOrder (λ a. (a ≡ x) ⊎ (W a × (end_before e a ≡ true))) (in_order end_before x es)
        → InOrder (λ a. (a ≡ x) ⊎ W a) (cond b (x ∷ e ∷ es) (e ∷ in_order end_before x es))
    by true t more = (
      inl refl,
      λ a w. ⊎_elim (λ is. inl is) (λ v. inr (behind a t v)) w,
      same-order W (λ a. ((a ≡ x) ⊎ W a) × (end_before x a ≡ true)) (e ∷ es)
          (λ a w. (inr w, behind a t w))
          (λ a w. ⊎_elim (λ is. absurd (never-itself x a (sym is) w.1)) (λ v. v) w.0)
          h,
    )
    by false f more =
        let later = follows f (end_before e x) refl in (
          inr h.0,
          λ a w. ⊎_elim (λ is. inr (ap (end_before e) is ∙ later)) (λ v. h.1 a v) w,
          same-order (λ a. (a ≡ x) ⊎ (W a × (end_before e a ≡ true)))
              (λ a. ((a ≡ x) ⊎ W a) × (end_before e a ≡ true)) (in_order end_before x es)
              (λ a w. ⊎_elim (λ is. (inl is, ap (end_before e) is ∙ later))
              (λ v. (inr v.0, v.1)) w)
              (λ a w. ⊎_elim (λ is. inl is) (λ v. inr (v, w.1)) w.0)
              more,
        )

-- ---- ends that are listed in order

-- an end that is less is settled before
less-before : (a b : End) → end_cmp a b ≡ Less → end_before a b ≡ true
less-before a b less = by (end_before a b) refl (end_before b a) refl
  where
    by : (s : Bool) → end_before a b ≡ s → (t : Bool) → end_before b a ≡ t → end_before a b ≡ true
    by true e t f = e
    by false e true f = absurd (cc (settled-before b a f, less))
    by false e false f =
        absurd (cc (less, cmp-own a, ap (end_cmp a) (one-end a b e f)))

-- each member is such
member : (P : End → Type 0) (es : List End) → AllByRecursion P es → (a : End)
    → is_in es a ≡ true → P a
member P [] all a there = absurd (true≢false (sym there))
member P (e ∷ es) all a there =
    by (is_eq (end_cmp a e)) refl there (λ t. member P es all.1 a t)
  where
    by : (b : Bool) → is_eq (end_cmp a e) ≡ b → (b || is_in es a) ≡ true
        → (is_in es a ≡ true → P a) → P a
    by true same t later = subst P (sym (cmp-same a e same)) all.0
    by false other t later = later t

in-front : (es : List End) (a : End) (b : Bool) → is_in es a ≡ true → (b || is_in es a) ≡ true
in-front es a true there = refl
in-front es a false there = there

sorted-order : (es : List End) → IsStrictlySortedBy end_cmp es
    → InOrder (λ a. is_in es a ≡ true) es
unfolding IsStrictlySortedBy
sorted-order [] s = λ a there. true≢false (sym there)
sorted-order (e ∷ es) s = (
  ap (λ b. b || is_in es e) (cmp-own e),
  λ a there. by a (is_eq (end_cmp a e)) refl there,
  same-order (λ a. is_in es a ≡ true)
      (λ a. ((is_eq (end_cmp a e) || is_in es a) ≡ true) × (end_before e a ≡ true)) es
      (λ a there. (in-front es a (is_eq (end_cmp a e)) there, behind a there))
      (λ a w. not-first a w.1 (is_eq (end_cmp a e)) refl w.0)
      (sorted-order es s.1),
)
  where
    behind : (a : End) → is_in es a ≡ true → end_before e a ≡ true
    behind a there = less-before e a (member (λ y. end_cmp e y ≡ Less) es s.0 a there)

    by : (a : End) (b : Bool) → is_eq (end_cmp a e) ≡ b → (b || is_in es a) ≡ true
        → (a ≡ e) ⊎ (end_before e a ≡ true)
    by a true same there = inl (cmp-same a e same)
    by a false other there = inr (behind a there)

    not-first : (a : End) → end_before e a ≡ true → (b : Bool) → is_eq (end_cmp a e) ≡ b
        → (b || is_in es a) ≡ true → is_in es a ≡ true
    not-first a later true same there =
        absurd (never-itself e a (sym (cmp-same a e same)) later)
    not-first a later false other there = there

-- ---- the ends of connections, put in order

abbrev ends : List Waiting → List End
ends ws = map (λ (w : Waiting). w.at) ws

-- one end more, unless nothing waits there
end-order : (W : End → Type 0) (at : End) (items : List Item) (ws : List Waiting)
    → InOrder W (ends ws) → (W at → ⊥)
    → InOrder (OneMore W (is_none_left items) at) (ends (with_end at (length items) ws))
end-order W at [] ws h never =
    same-order W (OneMore W true at) (ends ws) (λ a w. inr w)
    (λ a w. ⊎_elim (λ p. absurd (true≢false p.0)) (λ v. v) w) h
end-order W at (i ∷ is) ws h never =
    subst (λ es. InOrder (OneMore W false at) es)
    (in_order-map waiting_before end_before (λ w. w.at)
    (record { at = at; count = length (i ∷ is) }) ws (λ p q. refl)
    ∙ ap ends (sym (with-some at (length is) ws)))
    (same-order (λ a. (a ≡ at) ⊎ W a) (OneMore W false at) (in_order end_before at (ends ws))
    (λ a w. ⊎_elim (λ e. inl (refl, e)) (λ v. inr v) w)
    (λ a w. ⊎_elim (λ p. inl p.1) (λ v. inr v) w)
    (one-more W at (ends ws) h never))

-- no other connection has an end of this one
apart : (numbers : Ends) (k : ℕ) (x : code.Connection)
    (es : List (ℕ × code.Connection)) (a : End) → IsIndexed numbers k x → IsEndOf a x
    → NoKey k es → EachEntry (IsIndexed numbers) es → WaitsIn (all_seen es) a → ⊥
apart numbers k x [] a here own others each w = w
apart numbers k x (e ∷ es) a here own others each w =
    ⊎_elim
    (λ v. others.0 (same-some e.0 k
    (sym (number-of-end numbers e.0 e.1 a each.0 (its v))
    ∙ number-of-end numbers k x a here own)))
    (λ v. apart numbers k x es a here own others.1 each.1 v)
    w
  where
    its : WaitsOn (seen e.0 e.1) a → IsEndOf a e.1
    its v = ⊎_elim (λ p. inl p.1) (λ p. inr p.1) v.1

waiting-order : (numbers : Ends) (es : List (ℕ × code.Connection))
    → IsDistinct nat_eq (keys_of es) → EachEntry (IsIndexed numbers) es
    → InOrder (WaitsIn (all_seen es)) (ends (waiting_in (all_seen es)))
waiting-order numbers [] distinct each = λ a w. w
waiting-order numbers (e ∷ es) distinct each =
    by e.1.wired refl
    (waiting-order numbers es (IsDistinct-tail nat_eq e.0 (keys_of es) distinct) each.1)
  where
    c : code.Connection
    c = e.1

    rest : End → Type 0
    rest = WaitsIn (all_seen es)

    alone : (a : End) → IsEndOf a c → rest a → ⊥
    alone a own w =
        apart numbers e.0 c es a each.0 own
        (others-behind e.0 es (IsDistinct-head nat_eq e.0 (keys_of es) distinct)) each.1 w

    by : (w : Bool) → c.wired ≡ w → InOrder rest (ends (waiting_in (all_seen es)))
        → InOrder (λ a. WaitsOn (seen e.0 c) a ⊎ rest a)
        (ends (cond w (with_end (end.Ap c.ap) (length (seen e.0 c).to_ap)
        (with_end c.peer (length (seen e.0 c).to_far) (waiting_in (all_seen es))))
        (waiting_in (all_seen es))))
    by true wired h =
        same-order
        (OneMore (OneMore rest (is_none_left (seen e.0 c).to_far) c.peer)
        (is_none_left (seen e.0 c).to_ap) (end.Ap c.ap))
        (λ a. WaitsOn (seen e.0 c) a ⊎ rest a)
        (ends (with_end (end.Ap c.ap) (length (seen e.0 c).to_ap)
        (with_end c.peer (length (seen e.0 c).to_far) (waiting_in (all_seen es)))))
        (λ a v. ⊎_elim (λ p. inl (wired, inl p))
        (λ u. ⊎_elim (λ p. inl (wired, inr p)) (λ w. inr w) u) v)
        (λ a v. ⊎_elim (λ p. ⊎_elim (λ m. inl m) (λ m. inr (inl m)) p.1) (λ w. inr (inr w)) v)
        (end-order (OneMore rest (is_none_left (seen e.0 c).to_far) c.peer) (end.Ap c.ap)
        (seen e.0 c).to_ap
        (with_end c.peer (length (seen e.0 c).to_far) (waiting_in (all_seen es)))
        (end-order rest c.peer (seen e.0 c).to_far (waiting_in (all_seen es)) h
        (alone c.peer (inr refl)))
        (λ w. ⊎_elim (λ p. two-ends c.ap c.peer each.0.beyond p.1)
        (alone (end.Ap c.ap) (inl refl)) w))
    by false unwired h =
        same-order rest (λ a. WaitsOn (seen e.0 c) a ⊎ rest a)
        (ends (waiting_in (all_seen es))) (λ a w. inr w)
        (λ a v. ⊎_elim (λ p. absurd (true≢false (sym p.0 ∙ unwired))) (λ w. w) v) h

-- ---- how many wait

-- each tells how many wait at its end
abbrev IsCounted : List Connection → List Waiting → Type 0
IsCounted xs ws = AllByRecursion (λ w. w ≡ waiting_at xs w.at) ws

counted-more : (xs : List Connection) (w : Waiting) (ws : List Waiting) → w ≡ waiting_at xs w.at
    → IsCounted xs ws → IsCounted xs (in_order waiting_before w ws)
counted-more xs w [] is h = (is, tt)
counted-more xs w (v ∷ ws) is h = by (waiting_before w v) (counted-more xs w ws is h.1)
  where
    by : (b : Bool) → IsCounted xs (in_order waiting_before w ws)
        → IsCounted xs (cond b (w ∷ v ∷ ws) (v ∷ in_order waiting_before w ws))
    by true later = (is, h)
    by false later = (h.0, later)

counted-end : (xs : List Connection) (at : End) (n : ℕ) (ws : List Waiting) → n ≡ count_at xs at
    → IsCounted xs ws → IsCounted xs (with_end at n ws)
counted-end xs at n ws is h = by (eqb n 0)
  where
    by : (b : Bool)
        → IsCounted xs (cond b ws (in_order waiting_before (record { at = at; count = n }) ws))
    by true = h
    by false =
        counted-more xs (record { at = at; count = n }) ws
        (ap (λ (m : ℕ). record { at = at; count = m }) is) h

-- how many wait at the ends of one connection of these
record Counts (xs : List Connection) (x : code.Connection) : Type 0 where
  near : length x.to_ap ≡ count_at xs (end.Ap x.ap)
  far : length x.to_far ≡ count_at xs x.peer

counted-in : (xs : List Connection) (es : List (ℕ × code.Connection))
    → EachEntry (λ k x. x.wired ≡ true → Counts xs x) es → IsCounted xs (waiting_in (all_seen es))
counted-in xs [] each = tt
counted-in xs (e ∷ es) each = by e.1.wired refl (counted-in xs es each.1)
  where
    c : code.Connection
    c = e.1

    by : (w : Bool) → c.wired ≡ w → IsCounted xs (waiting_in (all_seen es))
        → IsCounted xs (cond w (with_end (end.Ap c.ap) (length c.to_ap)
        (with_end c.peer (length c.to_far) (waiting_in (all_seen es)))) (waiting_in (all_seen es)))
    by true wired later =
        let n = each.0 wired in
        counted-end xs (end.Ap c.ap) (length c.to_ap)
        (with_end c.peer (length c.to_far) (waiting_in (all_seen es))) n.near
        (counted-end xs c.peer (length c.to_far) (waiting_in (all_seen es)) n.far later)
    by false unwired later = later

by-ends : (xs : List Connection) (ws : List Waiting) → IsCounted xs ws
    → map (waiting_at xs) (ends ws) ≡ ws
by-ends xs [] h = refl
by-ends xs (w ∷ ws) h =
    ap (λ v. v ∷ map (waiting_at xs) (ends ws)) (sym h.0) ∙ ap (λ vs. w ∷ vs) (by-ends xs ws h.1)

-- how many wait at an end of a live connection that is wired
count-side : (live : Live) (numbers : Ends) (q : List End) (k : ℕ) (x : code.Connection)
    (s : Side) → MapsAgree live numbers q → get nat_eq live k ≡ Some x → x.wired ≡ true
    → length (queue_of s (seen k x)) ≡ count_at (all_seen live.entries) (end_at s (seen 0 x))
count-side live numbers q k x s kept found wired =
    let side : HasSide live k (end_at s (seen 0 x)) s = record {
      connection = x;
      there = found;
      is = own-side x s (kept.indexed k x found).beyond wired;
    } in
    sym (ap (λ o. or_zero (option_and_then (count_of xs) o))
    (sym (places-counted live numbers q (end_at s (seen 0 x)) k s kept side))
    ∙ ap (λ o. or_zero (option_map (λ c. length (queue_of s c)) o))
    (find-seen live.entries k ∙ ap (option_map (seen k)) found))
  where
    xs : List Connection
    xs = all_seen live.entries

counts : (live : Live) (numbers : Ends) (q : List End) (k : ℕ) (x : code.Connection)
    → MapsAgree live numbers q → get nat_eq live k ≡ Some x → x.wired ≡ true
    → Counts (all_seen live.entries) x
counts live numbers q k x kept found wired = record {
  near = count-side live numbers q k x side.Ap kept found wired;
  far = count-side live numbers q k x side.Far kept found wired;
}

-- ---- what the ends that are marked tell

pub waiting-is : (live : Live) (numbers : Ends) (q : List End) → MapsAgree live numbers q
    → IsStrictlySortedBy end_cmp q
    → map (waiting_at (all_seen live.entries)) q ≡ waiting_in (all_seen live.entries)
waiting-is live numbers q kept sorted =
    ap (map (waiting_at (all_seen live.entries)))
    (one-order (WaitsIn (all_seen live.entries)) q (ends (waiting_in (all_seen live.entries)))
    (same-order (λ a. is_in q a ≡ true) (WaitsIn (all_seen live.entries)) q
    (λ a there. has-in live numbers q a kept there)
    (λ a w. in-marked live numbers q a kept w)
    (sorted-order q sorted))
    (waiting-order numbers live.entries kept.unique
    (each-entry (IsIndexed numbers) live.entries kept.unique kept.indexed)))
    ∙ by-ends (all_seen live.entries) (waiting_in (all_seen live.entries))
    (counted-in (all_seen live.entries) live.entries
    (each-entry (λ k x. x.wired ≡ true → Counts (all_seen live.entries) x) live.entries kept.unique
    (λ k x found wired. counts live numbers q k x kept found wired)))
