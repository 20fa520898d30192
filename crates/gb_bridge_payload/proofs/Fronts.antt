-- Writing one more part behind the front of a buffer.
use Rattle.std.proofs.Common.{◌≡◌, ◌≤◌, ◌+◌, ◌-◌, ◌++◌, ℕ, List, [], length, le_of_eq, take, drop}
use Rattle.std.proofs.Common.{take_all, arith, ap, sym, ◌∙◌, length-append, length-drop, append-nil}
use Rattle.std.proofs.lemmas.List.{take-append-drop, take_at, drop_at}
use borrow.Rule.Slice.PartMut.{put_mid}
use Rattle.gb_payload.proofs.Written.{Written, written_more}
use Rattle.gb_bridge_payload.specs.Fronts.{Fronted}

-- what is written so far, and what is to come, of a front and one more part
begun : (front part old out : List ℕ) (at : ℕ)
    → at ≡ length front → Fronted front old out → Written (front ++ part) part at old out
begun front part old out at e f =
    let long = length-append front part in
    record {
      size = omega (arith, long, e);
      front = ap (λ (xs : List ℕ). take at xs ++ part) f.bytes
          ∙ ap (λ (xs : List ℕ). xs ++ part) (take_at front (drop (length front) old) at (sym e));
      back = ap (drop at) f.bytes ∙ drop_at front (drop (length front) old) at (sym e)
          ∙ ap (λ (n : ℕ). drop n old) (sym e);
    }

-- one more part is written
pub fronted_more : (front part old out now : List ℕ) (at : ℕ) → at ≡ length front
    → at + length part ≤ length out
    → now ≡ part ++ drop (length part) (take (length out - at) (drop at out))
    → Fronted front old out → Fronted (front ++ part) old (put_mid at (length out - at) out now)
fronted_more front part old out now at e room w f =
    let rest = length-drop at out in
    let all : take (length out - at) (drop at out) ≡ drop at out =
    take_all (length out - at) (drop at out) (le_of_eq rest) in
    let put : now ≡ part ++ drop (length part) (drop at out) =
    w ∙ ap (λ (xs : List ℕ). part ++ drop (length part) xs) all in
    let new = put_mid at (length out - at) out now in
    let done = written_more (front ++ part) part part [] old out now at (omega arith)
    (sym (append-nil part)) put (begun front part old out at e f) in
    let n : at + length part ≡ length (front ++ part) =
    ap (λ (n : ℕ). n + length part) e ∙ sym (length-append front part) in
    let same : length out ≡ length old =
    ap (λ (xs : List ℕ). length xs) f.bytes ∙ length-append front (drop (length front) old)
    ∙ omega (arith, length-drop (length front) old, f.room) in
    record {
      room = omega (arith, n, same, room);
      bytes = sym (take-append-drop (at + length part) new)
          ∙ ap (λ (xs : List ℕ). xs ++ drop (at + length part) new)
          (sym (append-nil (take (at + length part) new)) ∙ done.front)
          ∙ ap (λ (xs : List ℕ). (front ++ part) ++ xs) (done.back ∙ ap (λ (n : ℕ). drop n old) n);
    }
