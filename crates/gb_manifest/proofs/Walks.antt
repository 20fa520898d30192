-- A walk, one descriptor at a time.
use Rattle.std.proofs.Common.{◌≡◌, ◌≢◌, ℕ, zero, suc, ◌+◌, ◌-◌, ◌≤◌, List, [], ◌∷◌, length, drop}
use Rattle.std.proofs.Common.{Option, Some, None, Result, Ok, Err, refl, ap, ◌∙◌, arith}
use Rattle.std.specs.Result.{IsOk, is_ok}
use Rattle.gb_formats.specs.Descriptors.{descriptor_at, size_at}
use Rattle.gb_formats.specs.Manifest.{descriptor_refusal, descriptors_from, descriptor_then}
use Rattle.gb_formats.specs.Manifest.{in_front}
use Rattle.gb_formats.specs.ManifestRules.{Placed, Refused}
use Rattle.gb_manifest.specs.Walks.{FrontIs, IsSized, SizesNext, walk_from}
use Rattle.gb_manifest.specs.Values.{refused_of}
use Rattle.gb_manifest.specs.declared.refusal.Refused as code
use Rattle.gb_manifest.specs.declared.walk.Walk.{Walk}
use Rattle.gb_manifest.proofs.Spelt.{sound}

-- bytes are passed over one by one or all at once
pub descriptors_from-skip : (skip at : ℕ) (bytes : List ℕ)
    → descriptors_from skip at bytes ≡ descriptors_from 0 (at + skip) (drop skip bytes)
descriptors_from-skip zero at bytes =
    let e : at ≡ at + 0 = omega arith in
    ap (λ n. descriptors_from 0 n bytes) e
descriptors_from-skip (suc skip) at [] = refl
descriptors_from-skip (suc skip) at (b ∷ bs) =
    let e : (at + 1) + skip ≡ at + suc skip = omega arith in
    descriptors_from-skip skip (at + 1) bs ∙ ap (λ n. descriptors_from 0 n (drop skip bs)) e

-- no bytes are left
pub walk_from-empty : (at : ℕ) (bytes : List ℕ) → bytes ≡ [] → walk_from at bytes ≡ Ok []
unfolding walk_from
walk_from-empty at bytes e = rw e refl

-- the descriptor at the front is refused
pub walk_from-refused : (at : ℕ) (bytes : List ℕ) (why : Refused)
    → bytes ≢ [] → descriptor_refusal at bytes ≡ Some why → walk_from at bytes ≡ Err why
unfolding walk_from
walk_from-refused at [] why some e = absurd (some refl)
walk_from-refused at (b ∷ bs) why some e =
    ap (λ r. descriptor_then r at (b ∷ bs) (λ skip. descriptors_from skip (at + 1) bs)) e

-- the descriptor at the front is passed
pub walk_from-front : (at : ℕ) (bytes : List ℕ) (size : ℕ) → 1 ≤ size → size ≡ size_at bytes
    → descriptor_refusal at bytes ≡ None
    → walk_from at bytes
    ≡ in_front (record { at = at; descriptor = descriptor_at bytes })
    (walk_from (at + size) (drop size bytes))
unfolding walk_from
walk_from-front at [] size one e sound = absurd cc
walk_from-front at (b ∷ bs) zero one e sound = absurd (omega arith)
walk_from-front at (b ∷ bs) (suc size) one e sound =
    let rest : at + 1 + size ≡ at + suc size = omega arith in
    let skip : size_at (b ∷ bs) - 1 ≡ size = omega arith in
    ap (λ r. descriptor_then r at (b ∷ bs) (λ skip. descriptors_from skip (at + 1) bs)) sound
    ∙ ap (λ n. in_front (record { at = at; descriptor = descriptor_at (b ∷ bs) })
    (descriptors_from n (at + 1) bs)) skip
    ∙ ap (λ r. in_front (record { at = at; descriptor = descriptor_at (b ∷ bs) }) r)
    (descriptors_from-skip size (at + 1) bs ∙ ap (λ n. descriptors_from 0 n (drop size bs)) rest)

-- a list of length 0
pub length-none : (xs : List ℕ) → length xs ≡ 0 → xs ≡ []
length-none [] e = refl
length-none (x ∷ xs) e = absurd (omega (arith, e))

pub length-some : (xs : List ℕ) → length xs ≢ 0 → xs ≢ []
length-some xs h e = h (ap length e)

-- what a walk that meets no refusal has at its front
pub front_sound : (at : ℕ) (bytes : List ℕ) → bytes ≢ [] → IsOk (walk_from at bytes)
    → FrontIs at bytes (size_at bytes)
front_sound at bytes some ok =
    let none = by (descriptor_refusal at bytes) refl in
    let front = sound at bytes none in record {
      sound = none;
      size_is = refl;
      eight = front.eight;
      least = front.least;
      within = front.within;
    }
  where
    by : (r : Option Refused) → descriptor_refusal at bytes ≡ r → r ≡ None
    by None e = refl
    by (Some why) e = absurd (cc (ap is_ok (walk_from-refused at bytes why some e), ok))

-- it meets none behind that either
pub rest_sound : (d : Placed) (old new : Result (List Placed) Refused) → old ≡ in_front d new
    → IsOk old → IsOk new
rest_sound d old (Ok ds) e ok = refl
rest_sound d old (Err why) e ok = absurd (cc (e, ok))

-- the size of the descriptor at the front, or the walk's refusal
pub sizes_next : (w : Walk) (r : Result ℕ code.Refused) → length w.rest.now ≢ 0
    → IsSized w.at w.rest.now r → SizesNext w r
sizes_next w (Ok size) some h = h
sizes_next w (Err why) some h = walk_from-refused _ _ (refused_of why) (length-some _ some) h
