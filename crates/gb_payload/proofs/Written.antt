-- Writing fields one after the other.
use Rattle.std.proofs.Common.{◌≡◌, ◌≤◌, ◌+◌, ◌-◌, ◌++◌, ◌<◌, ℕ, List, [], ◌∷◌, length, get_or}
use Rattle.std.proofs.Common.{drop-cons, add-one, take_all, length-drop, le_of_eq, take, drop}
use Rattle.std.proofs.Common.{arith, ap, sym, subst, ◌∙◌, length-append, append_assoc, append-nil}
use Rattle.std.proofs.Common.{drop_of_length-le, drop-drop, length-take-le}
use Rattle.std.proofs.lemmas.List.{take_at, drop_at}
use borrow.Rule.Slice.PartMut.{put_mid}
use Rattle.gb_payload.specs.Fields.{field_bytes, spelled}
use Rattle.gb_payload.specs.declared.writing.Field.{Field}

-- The first `at` of some bytes are written, and `rest` is to come. What follows is as it was.
pub record Written (bytes rest : List ℕ) (at : ℕ) (old new : List ℕ) : Type 0 where
  pub size : at + length rest ≡ length bytes
  pub front : take at new ++ rest ≡ bytes
  pub back : drop at new ≡ drop at old

-- a list whose part from `at` on has been given `part` at its front
placed : (part out : List ℕ) (at : ℕ)
    → put_mid at (length out - at) out (part ++ drop (length part) (drop at out))
    ≡ (take at out ++ part) ++ drop (at + length part) out
placed part out at =
    let past : drop (length out - at) (drop at out) ≡ [] =
    drop-drop (length out - at) at out ∙ drop_of_length-le out (omega arith) in
    ap (λ (xs : List ℕ). take at out ++ ((part ++ drop (length part) (drop at out)) ++ xs)) past
    ∙ ap (λ (xs : List ℕ). take at out ++ xs)
    (append-nil _ ∙ ap (λ (xs : List ℕ). part ++ xs) (drop-drop (length part) at out))
    ∙ sym (append_assoc (take at out) part (drop (at + length part) out))

-- one more part is written
pub written_more : (bytes rest part later old out now : List ℕ) (at : ℕ) → at ≤ length out
    → rest ≡ part ++ later → now ≡ part ++ drop (length part) (drop at out)
    → Written bytes rest at old out
    → Written bytes later (at + length part) old (put_mid at (length out - at) out now)
written_more bytes rest part later old out now at h e w s =
    let shape : put_mid at (length out - at) out now
    ≡ (take at out ++ part) ++ drop (at + length part) out =
    ap (put_mid at (length out - at) out) w ∙ placed part out at in
    let long : length (take at out ++ part) ≡ at + length part =
    length-append (take at out) part ∙ ap (λ (n : ℕ). n + length part) (length-take-le at out h) in
    let split : length rest ≡ length part + length later =
    ap (λ (xs : List ℕ). length xs) e ∙ length-append part later in
    record {
      size = omega (arith, split, s.size);
      front = ap (λ (xs : List ℕ). take (at + length part) xs ++ later) shape
          ∙ ap (λ (xs : List ℕ). xs ++ later)
          (take_at (take at out ++ part) (drop (at + length part) out) (at + length part) long)
          ∙ append_assoc (take at out) part later
          ∙ ap (λ (xs : List ℕ). take at out ++ xs) (sym e)
          ∙ s.front;
      back = ap (drop (at + length part)) shape
          ∙ drop_at (take at out ++ part) (drop (at + length part) out) (at + length part) long
          ∙ sym (drop-drop (length part) at out)
          ∙ ap (drop (length part)) s.back
          ∙ drop-drop (length part) at old;
    }

-- one more field is written
pub field_more : (fields : List Field) (d : Field) (old out now : List ℕ) (i at size : ℕ)
    → i < length fields → at ≤ length out → size ≡ length (field_bytes (get_or fields i d))
    → now ≡ field_bytes (get_or fields i d)
    ++ drop (length (field_bytes (get_or fields i d))) (take (length out - at) (drop at out))
    → Written (spelled fields) (spelled (drop i fields)) at old out
    → Written (spelled fields) (spelled (drop (i + 1) fields)) (at + size) old
    (put_mid at (length out - at) out now)
field_more fields d old out now i at size h room sized w s =
    let part = field_bytes (get_or fields i d) in
    let next : drop i fields ≡ get_or fields i d ∷ drop (i + 1) fields =
    drop-cons fields i d h ∙ ap (λ (n : ℕ). get_or fields i d ∷ drop n fields) (sym (add-one i)) in
    let all : take (length out - at) (drop at out) ≡ drop at out =
    take_all (length out - at) (drop at out) (le_of_eq (length-drop at out)) in
    let put : now ≡ part ++ drop (length part) (drop at out) =
    w ∙ ap (λ (xs : List ℕ). part ++ drop (length part) xs) all in
    let more = written_more (spelled fields) (spelled (drop i fields)) part
    (spelled (drop (i + 1) fields)) old out now at room (ap spelled next) put s in
    subst (λ (n : ℕ). Written (spelled fields) (spelled (drop (i + 1) fields)) (at + n) old
    (put_mid at (length out - at) out now)) (sym sized) more
