-- What is taken of a text, and its lines.
use Rattle.std.proofs.Common.{◌≡◌, ℕ, zero, suc, ◌+◌, ◌<◌, ◌≤◌, ◌==◌, ◌||◌, Bool, true, false}
use Rattle.std.proofs.Common.{Option, Some, None, Result, Ok, Err, List, [], ◌∷◌, ◌++◌, length}
use Rattle.std.proofs.Common.{take, drop, slice_index}
use Rattle.std.proofs.Common.{append_assoc, append-nil, length-append, length-drop, refl, sym, ap}
use Rattle.std.proofs.Common.{◌∙◌, subst, arith, take_all}
use Rattle.std.specs.Prelude.{is_some}
use Rattle.std.specs.Io.KnownBytes.{Consumes, prepend_known}
use Rattle.std.proofs.KnownBytes.{Consumes-nil}
use Rattle.std.proofs.lemmas.Bool.{eqb-true, false_from_ne_true}
use Rattle.std.proofs.lemmas.List.{length-take, take-append-drop, take-take, take_more}
use Rattle.std.proofs.lemmas.List.Folds.{list_any-append, list_any_at}
use Rattle.memchr.specs.Find.{IsFirstByte, Nowhere, Passes, is_byte}
use Rattle.gb_formats.specs.Lines.{is_lf}
use Rattle.gb_script.specs.Pieces.{EndsAt, Fills, HasNoLf, PieceBytes, TellsLf, has_lf}
use Rattle.gb_script.specs.Reading.{IsBeyond, IsEnded, ReadsLine, Took, TookLine, to_come}
use Rattle.gb_script.specs.declared.held.Held.{Held}
use Rattle.gb_script.specs.declared.held.LineStop.{LineStop}
use Rattle.gb_script.specs.declared.held.LineStop.TheVariants as stop

-- first these bytes were taken, and then those
pub consumes-more : (a b c : Option (List ℕ)) (xs ys : List ℕ)
    → Consumes a b xs → Consumes b c ys → Consumes a c (xs ++ ys)
consumes-more None b c xs ys p q = tt
consumes-more (Some x) None c xs ys p q = absurd p
consumes-more (Some x) (Some y) None xs ys p q = absurd q
consumes-more (Some x) (Some y) (Some z) xs ys p q =
    p ∙ ap (λ l. xs ++ l) q ∙ sym (append_assoc xs ys z)

-- what is held is taken too
pub consumes-held : (a b : Option (List ℕ)) (xs held : List ℕ)
    → Consumes a (prepend_known held b) xs → Consumes a b (xs ++ held)
consumes-held None b xs held p = tt
consumes-held (Some x) None xs held p = absurd p
consumes-held (Some x) (Some y) xs held p = p ∙ sym (append_assoc xs held y)

-- first these bytes were taken, and then none
pub consumes-none : (a b c : Option (List ℕ)) (xs : List ℕ)
    → Consumes a b xs → Consumes b c [] → Consumes a c xs
consumes-none a b c xs p q = subst (Consumes a c) (append-nil xs) (consumes-more a b c xs [] p q)

-- first these bytes were taken, and then the source was read where none was held
pub consumes-filled : (a left after : Option (List ℕ)) (xs held held_after : List ℕ) (more : Bool)
    → Consumes a (prepend_known held left) xs → Fills held held_after left after (Ok more)
    → Consumes a (prepend_known held_after after) xs
consumes-filled a left after xs held held_after true p f = consumes-none a _ _ xs p f.0
consumes-filled a left after xs held held_after false p f = consumes-none a _ _ xs p f.0

-- so many of those held are taken too
consumes-some : (a b : Option (List ℕ)) (xs held : List ℕ) (n : ℕ)
    → Consumes a (prepend_known held b) xs
    → Consumes a (prepend_known (drop n held) b) (xs ++ take n held)
consumes-some None b xs held n p = tt
consumes-some (Some x) None xs held n p = absurd p
consumes-some (Some x) (Some y) xs held n p =
    p ∙ ap (λ l. xs ++ (l ++ y)) (sym (take-append-drop n held))
    ∙ ap (λ l. xs ++ l) (append_assoc (take n held) (drop n held) y)
    ∙ sym (append_assoc xs (take n held) (drop n held ++ y))

-- ---- bytes without LF

either-no : (s t : Bool) → s || t ≡ false → s ≡ false
either-no true t e = e
either-no false t e = refl

pub plain-both : (xs ys : List ℕ) → HasNoLf xs → HasNoLf ys → HasNoLf (xs ++ ys)
plain-both xs ys p q = list_any-append is_lf xs ys ∙ ap (λ t. t || has_lf ys) p ∙ q

pub plain-front : (n : ℕ) (xs : List ℕ) → HasNoLf xs → HasNoLf (take n xs)
plain-front n xs p =
    either-no (has_lf (take n xs)) (has_lf (drop n xs))
    (sym (list_any-append is_lf (take n xs) (drop n xs))
    ∙ ap has_lf (take-append-drop n xs)
    ∙ p)

plain-before : (bytes : List ℕ) (n : ℕ) → Nowhere (Passes (is_byte 10) bytes) 0 n
    → HasNoLf (take n bytes)
plain-before bytes zero h = refl
plain-before [] (suc n) h = refl
plain-before (b ∷ bs) (suc n) h =
    ap (λ t. t || has_lf (take n bs))
    (false_from_ne_true (b == 10) (h 0 (omega arith) (omega arith)))
    ∙ plain-before bs n (λ k low high. h (suc k) (omega arith) (omega (arith, high)))

-- what a search for LF finds
pub lf-search : (bytes : List ℕ) (r : Option ℕ) → IsFirstByte (is_byte 10) bytes r
    → TellsLf r bytes
lf-search bytes None h =
    subst HasNoLf (take_all (length bytes) bytes (omega arith))
    (plain-before bytes (length bytes) h)
lf-search bytes (Some n) h = record {
  within = h.0.high;
  plain = plain-before bytes n h.0.before;
  lf = eqb-true (slice_index bytes n) 10 h.1;
}

pub lf-held : (bytes : List ℕ) (n : ℕ) → EndsAt bytes n → has_lf bytes ≡ true
lf-held bytes n e = list_any_at is_lf bytes n 0 e.within (ap is_lf e.lf)

pub lf-told : (bytes : List ℕ) (r : Option ℕ) → TellsLf r bytes → is_some r ≡ has_lf bytes
lf-told bytes None h = sym h
lf-told bytes (Some n) h = sym (lf-held bytes n h)

-- ---- the line

-- a reader of lines that holds these bytes of a read
abbrev pub refilled : Held → PieceBytes → Held
refilled at piece =
    record { piece = piece; buffer = at.buffer; lent = at.lent; room = at.room }

-- `at` has all that came of the line so far, and then holds `piece`
module _ (old at : Held) (piece : PieceBytes) (left between after : Option (List ℕ)) (more : Bool)
    (raw : List ℕ) (plain : HasNoLf raw)
    (came : Consumes (to_come old left) (to_come at between) raw)
    (room : length raw + at.room ≡ old.room)
    (fills : Fills at.piece.left piece.left between after (Ok more)) where
  filled : Consumes (to_come old left) (prepend_known piece.left after) raw
  filled =
      consumes-filled (to_come old left) between after raw at.piece.left piece.left more came fills

  -- so many of the held bytes are taken
  took-bytes : (new : Held) (count : ℕ) → new.piece.left ≡ drop count piece.left
      → Consumes (to_come old left) (to_come new after) (raw ++ take count piece.left)
  took-bytes new count taken =
      subst (λ (p : List ℕ). Consumes (to_come old left) (prepend_known p after)
      (raw ++ take count piece.left)) (sym taken)
      (consumes-some (to_come old left) after raw piece.left count filled)

  pub took-on : (new : Held) (n count : ℕ) → Took (refilled at piece) new n count
      → Consumes (to_come old left) (to_come new after) (raw ++ take count piece.left)
  took-on new n count took = took-bytes new count took.taken

  -- its LF is held
  pub line-ended : (new : Held) (n : ℕ) → EndsAt piece.left n
      → TookLine (refilled at piece) new raw n → IsEnded old new left after
  line-ended new n e took = record {
    raw = raw ++ take n piece.left;
    plain = plain-both raw (take n piece.left) plain e.plain;
    taken =
        subst (Consumes (to_come old left) (to_come new after))
        (ap (λ l. raw ++ l)
        (take_more piece.left n 0 e.within ∙ ap (λ b. take n piece.left ++ b ∷ []) e.lf)
        ∙ sym (append_assoc raw (take n piece.left) (10 ∷ [])))
        (took-bytes new (n + 1) took.taken);
    shows = took.shows;
    room =
        rw (length-append raw (take n piece.left), length-take n piece.left)
        (omega (arith, room, took.room, e.within));
  }

  -- the limit is within what is held
  pub line-beyond : HasNoLf (take at.room piece.left) → at.room < length piece.left
      → length piece.left ≤ 4096 → IsBeyond old left after
  line-beyond none more few = record {
    raw = raw ++ take at.room piece.left;
    plain = plain-both raw (take at.room piece.left) plain none;
    beyond = drop at.room piece.left;
    taken =
        consumes-held (to_come old left) after (raw ++ take at.room piece.left)
        (drop at.room piece.left)
        (consumes-some (to_come old left) after raw piece.left at.room filled);
    full =
        rw (length-append raw (take at.room piece.left), length-take at.room piece.left)
        (omega (arith, room, more));
    more = rw (length-drop at.room piece.left) (omega (arith, more));
    few = rw (length-drop at.room piece.left) (omega (arith, few));
  }

  pub ended-beyond : (n : ℕ) → EndsAt piece.left n → at.room < n + 1 → length piece.left ≤ 4096
      → IsBeyond old left after
  ended-beyond n e beyond few =
      line-beyond (subst HasNoLf (take-take at.room n piece.left (omega (arith, beyond)))
      (plain-front at.room (take n piece.left) e.plain)) (omega (arith, beyond, e.within)) few

  pub plain-beyond : HasNoLf piece.left → at.room < length piece.left → length piece.left ≤ 4096
      → IsBeyond old left after
  plain-beyond none more few = line-beyond (plain-front at.room piece.left none) more few

-- ---- a line whose LF is held before anything is read

-- no byte came yet
module _ (old : Held) (left : Option (List ℕ)) (n : ℕ) (ends : EndsAt old.piece.left n) where
  held-fills : Fills old.piece.left old.piece.left left left (Ok true)
  held-fills = (Consumes-nil (to_come old left), omega (arith, ends.within))

  pub held-ended : (new : Held) → TookLine old new [] n → IsEnded old new left left
  held-ended new took =
      line-ended old old old.piece left left left true [] refl (Consumes-nil (to_come old left))
      (omega arith) held-fills new n ends took

  pub held-beyond : old.room < n + 1 → length old.piece.left ≤ 4096 → IsBeyond old left left
  held-beyond beyond few =
      ended-beyond old old old.piece left left left true [] refl
      (Consumes-nil (to_come old left)) (omega arith) held-fills n ends beyond few

-- more bytes came than may
pub beyond-told : (old new : Held) (left after : Option (List ℕ)) (r : Result Bool LineStop)
    (e : LineStop) → r ≡ Err e → e ≡ stop.TooLong → IsBeyond old left after
    → ReadsLine old new left after r
beyond-told old new left after r e told long h =
    subst (ReadsLine old new left after) (sym (told ∙ ap (λ (s : LineStop). Err s) long)) h
