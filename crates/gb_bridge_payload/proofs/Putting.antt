-- A payload that is written piece by piece to the front of a buffer.
use Rattle.std.proofs.Common.{◌≡◌, ◌<◌, ◌≤◌, ◌+◌, ◌*◌, ℕ, zero, suc, List, [], ◌∷◌, ◌++◌, length}
use Rattle.std.proofs.Common.{drop, get_or, map, sum_by, refl, arith, sym, ap, ap₂, ◌∙◌, add-one}
use Rattle.std.proofs.Common.{append_assoc, append-nil, drop-cons, length-append, length-drop}
use Rattle.std.specs.List.{concat}
use Rattle.std.proofs.lemmas.List.Sums.{sum_by-cons}
use Rattle.gb_bridge_payload.specs.Fronts.{Fronted}

-- The first `at` bytes of `whole` are written to the front of `old`, and `rest` is to come.
pub record Putting (whole rest : List ℕ) (at : ℕ) (old out : List ℕ) : Type 0 where
  pub front : List ℕ
  pub split : front ++ rest ≡ whole
  pub place : at ≡ length front
  pub puts : Fronted front old out

-- What a call writes behind any front.
abbrev pub PutsBehind : ℕ → List ℕ → List ℕ → List ℕ → Type 0
PutsBehind at part out new =
    (front base : List ℕ)
    → at ≡ length front → Fronted front base out → Fronted (front ++ part) base new

-- nothing is written yet
pub putting_none : (whole old : List ℕ) → Putting whole whole 0 old old
putting_none whole old = record {
  front = [];
  split = refl;
  place = refl;
  puts = record { room = omega arith; bytes = refl };
}

-- one more piece is written
pub putting_more : (whole rest part later old out new : List ℕ) (at next : ℕ) → rest ≡ part ++ later
    → next ≡ at + length part → PutsBehind at part out new → Putting whole rest at old out
    → Putting whole later next old new
putting_more whole rest part later old out new at next e is_next puts p =
    let long = length-append p.front part in
    let place = p.place in
    record {
      front = p.front ++ part;
      split =
          append_assoc p.front part later ∙ ap (λ (xs : List ℕ). p.front ++ xs) (sym e) ∙ p.split;
      place = omega (arith, long, place, is_next);
      puts = puts p.front old p.place p.puts;
    }

-- there is room for it
pub putting_room : (whole rest part later old out : List ℕ) (at : ℕ) → rest ≡ part ++ later
    → length whole ≤ length old → Putting whole rest at old out → at + length part ≤ length out
putting_room whole rest part later old out at e fits p =
    let all = ap (λ (xs : List ℕ). length xs) (sym p.split) ∙ length-append p.front rest in
    let more = ap (λ (xs : List ℕ). length xs) e ∙ length-append part later in
    let long = ap (λ (xs : List ℕ). length xs) p.puts.bytes
    ∙ length-append p.front (drop (length p.front) old) in
    let behind = length-drop (length p.front) old in
    let place = p.place in
    let room = p.puts.room in
    omega (arith, all, more, long, behind, place, room, fits)

-- all is written
pub putting_all : (whole rest old out : List ℕ) (at : ℕ) → rest ≡ [] → Putting whole rest at old out
    → (at ≡ length whole) × (out ≡ whole ++ drop (length whole) old)
putting_all whole rest old out at e p =
    let is : p.front ≡ whole =
    sym (append-nil p.front) ∙ ap (λ (xs : List ℕ). p.front ++ xs) (sym e) ∙ p.split in (
      p.place ∙ ap (λ (xs : List ℕ). length xs) is,
      p.puts.bytes ∙ ap (λ (xs : List ℕ). xs ++ drop (length xs) old) is,
    )

-- ---- the pieces of a list's members, one after the other

-- the next piece
pub next_piece : {A : Type 0} (piece : A → List ℕ) (items : List A) (item : A) (i : ℕ)
    → i < length items → item ≡ get_or items i item
    → concat (map piece (drop i items)) ≡ piece item ++ concat (map piece (drop (i + 1) items))
next_piece {A} piece items item i h at =
    let next : drop i items ≡ item ∷ drop (i + 1) items =
    drop-cons items i item h
    ∙ ap₂ (λ (first : A) (n : ℕ). first ∷ drop n items) (sym at) (sym (add-one i)) in
    ap (λ (left : List A). concat (map piece left)) next

-- the next piece, where others stand behind all of them
pub next_before : {A : Type 0} (piece : A → List ℕ) (items : List A) (item : A) (i : ℕ)
    (behind : List ℕ)
    → i < length items → item ≡ get_or items i item
    → concat (map piece (drop i items)) ++ behind
    ≡ piece item ++ (concat (map piece (drop (i + 1) items)) ++ behind)
next_before piece items item i behind h at =
    ap (λ (xs : List ℕ). xs ++ behind) (next_piece piece items item i h at)
    ∙ append_assoc (piece item) (concat (map piece (drop (i + 1) items))) behind

-- a piece is no longer than all of them
pub piece_within : {A : Type 0} (piece : A → List ℕ) (items : List A) (item : A) (i : ℕ)
    → i < length items → item ≡ get_or items i item
    → length (piece item) ≤ length (concat (map piece items))
piece_within piece [] item i h at = absurd (omega arith)
piece_within {A} piece (first ∷ items) item zero h at =
    let long = length-append (piece first) (concat (map piece items)) in
    let same = ap (λ (x : A). length (piece x)) at in
    omega (arith, long, same)
piece_within piece (first ∷ items) item (suc i) h at =
    let long = length-append (piece first) (concat (map piece items)) in
    let part = piece_within piece items item i (omega arith) at in
    omega (arith, long, part)

-- ---- heads of one size, and the data behind them

-- what a head of this size and its data need
abbrev pub room_of : {A : Type 0} → ℕ → (A → List ℕ) → A → ℕ
room_of size bytes item = size + length (bytes item)

-- all heads
pub heads_long : {A : Type 0} (size : ℕ) (head : A → List ℕ)
    → ((item : A) → length (head item) ≡ size) → (items : List A)
    → length (concat (map head items)) ≡ size * length items
heads_long size head long [] = omega arith
heads_long size head long (item ∷ items) =
    let both = length-append (head item) (concat (map head items)) in
    let one = long item in
    let more = heads_long size head long items in
    omega (arith, both, one, more)

-- all of them
pub rooms : {A : Type 0} (size : ℕ) (head bytes : A → List ℕ)
    → ((item : A) → length (head item) ≡ size) → (items : List A)
    → length (concat (map head items)) + length (concat (map bytes items))
    ≡ sum_by (room_of size bytes) items
rooms size head bytes long [] = refl
rooms size head bytes long (item ∷ items) =
    let heads = length-append (head item) (concat (map head items)) in
    let all = length-append (bytes item) (concat (map bytes items)) in
    let one = long item in
    let more = rooms size head bytes long items in
    let sum = sum_by-cons (room_of size bytes) item items in
    omega (arith, heads, all, one, more, sum)

-- each has a head
pub rooms_count : {A : Type 0} (size : ℕ) (bytes : A → List ℕ) (items : List A)
    → size * length items ≤ sum_by (room_of size bytes) items
rooms_count size bytes [] = omega arith
rooms_count size bytes (item ∷ items) =
    let sum = sum_by-cons (room_of size bytes) item items in
    let more = rooms_count size bytes items in
    omega (arith, sum, more)
