-- Checking bytes answers Ok exactly where they are a manifest, and tells which.
use Rattle.std.proofs.Common.{◌≡◌, ◌<◌, ◌≤◌, ℕ, zero, suc, ◌+◌, ◌*◌, ◌/◌, ◌%◌, List, [], ◌∷◌, ◌++◌}
use Rattle.std.proofs.Common.{length, take, drop, map, Option, Some, None, Result, Ok, Err, refl}
use Rattle.std.proofs.Common.{sym, ap, subst, ◌∙◌, arith, length-drop}
use Rattle.std.specs.Prelude.{◌==◌, not, nat_lt, ◌↔◌, IfOk, IsOkAnd, Bool, true, false}
use Rattle.std.specs.Prelude.{if◌then◌else◌, slice_index}
use Rattle.std.proofs.Math.Seq.{drop-append_seam}
use Rattle.std.proofs.lemmas.Bool.Decides.{nat_tests}
use Rattle.std.proofs.lemmas.List.{length-take-le, take-append-drop}
use Rattle.gb_base.specs.Bytes.{AreBytes}
use Rattle.gb_base.proofs.LittleEndian.{little_bytes-number2}
use Rattle.gb_formats.specs.Bytes.{le16}
use Rattle.gb_formats.specs.Descriptors.{descriptor_at, size_at}
use Rattle.gb_formats.specs.Manifest.{Manifest, AreDescriptors, IsManifest, check_answer}
use Rattle.gb_formats.specs.Manifest.{descriptor_refusal, descriptors_from, header_refusal}
use Rattle.gb_formats.specs.Manifest.{in_front, major_field, manifest_after, manifest_of}
use Rattle.gb_formats.specs.Manifest.{manifest_unless, minor_field, refusal, refusal_in}
use Rattle.gb_formats.specs.ManifestRules.{Placed, Refused, rules_refusal}
use Rattle.gb_manifest.specs.Checks.{Answers, IsAccepted}
use Rattle.gb_manifest.specs.declared.refusal.Refused as code
use Rattle.gb_manifest.specs.Walks.{walk_from}
use Rattle.gb_manifest.proofs.Checked.{answer_rules}
use Rattle.gb_manifest.proofs.DescriptorBytes.{spelt_at, read_back}
use Rattle.gb_manifest.proofs.Spelt.{sound, unrefused}
use Rattle.gb_manifest.proofs.Walks.{walk_from-empty, walk_from-front, walk_from-refused}

-- ---- descriptors in order

-- bytes stay bytes behind a place
slice_index-drop : (n k : ℕ) (xs : List ℕ) → slice_index (drop n xs) k ≡ slice_index xs (n + k)
slice_index-drop zero k xs = let e : k ≡ 0 + k = omega arith in ap (λ i. slice_index xs i) e
slice_index-drop (suc n) k [] = refl
slice_index-drop (suc n) k (x ∷ xs) =
    let e : suc (n + k) ≡ suc n + k = omega arith in
    slice_index-drop n k xs ∙ ap (λ i. slice_index (x ∷ xs) i) e

bytes_behind : (n : ℕ) (xs : List ℕ) → AreBytes xs → AreBytes (drop n xs)
bytes_behind n xs are k = subst (λ (b : ℕ). b < 256) (sym (slice_index-drop n k xs)) (are (n + k))

-- a walk that goes on to the end
in_front_ok : (d : Placed) (later : Result (List Placed) Refused) (placed : List Placed)
    → in_front d later ≡ Ok placed → (ds : List Placed) × (later ≡ Ok ds) × (placed ≡ d ∷ ds)
in_front_ok d (Ok ds) placed e = (ds, refl, cc)
in_front_ok d (Err why) placed e = absurd cc

-- one descriptor, where those behind it are spelt
spelt_by : (fuel at b : ℕ) (bs : List ℕ) (placed : List Placed) (r : Option Refused)
    → descriptor_refusal at (b ∷ bs) ≡ r → length (b ∷ bs) ≤ suc fuel → AreBytes (b ∷ bs)
    → walk_from at (b ∷ bs) ≡ Ok placed
    → ((at : ℕ) (bytes : List ℕ) (placed : List Placed) → length bytes ≤ fuel → AreBytes bytes
    → walk_from at bytes ≡ Ok placed → AreDescriptors at bytes placed)
    → AreDescriptors at (b ∷ bs) placed
spelt_by fuel at b bs placed (Some why) r short are e later =
    let refused = walk_from-refused at (b ∷ bs) why (λ x. absurd cc) r in
    absurd (cc (refused, e))
spelt_by fuel at b bs placed None r short are e later =
    let bytes = b ∷ bs in
    let size = size_at bytes in
    let h = sound at bytes r in
    let one : 1 ≤ size = omega (arith, h.eight) in
    let step = walk_from-front at bytes size one refl r in
    let rest = in_front_ok _ (walk_from (at + size) (drop size bytes)) placed (sym step ∙ e) in
    let len : length (take size bytes) ≡ size = length-take-le size bytes h.within in
    let shorter : length (drop size bytes) ≤ fuel =
    omega (arith, length-drop size bytes, h.eight) in
    let behind : AreDescriptors (at + length (take size bytes)) (drop size bytes) rest.0 =
    subst (λ (n : ℕ). AreDescriptors (at + n) (drop size bytes) rest.0) (sym len)
    (later (at + size) (drop size bytes) rest.0 shorter (bytes_behind size bytes are) rest.1) in
    subst (λ (ps : List Placed). AreDescriptors at bytes ps) (sym rest.2) (
      take size bytes,
      drop size bytes,
      sym (take-append-drop size bytes),
      refl,
      spelt_at bytes are h,
      behind,
    )

-- the descriptors of a walk that meets no refusal spell its bytes
spelt_from : (fuel at : ℕ) (bytes : List ℕ) (placed : List Placed) → length bytes ≤ fuel
    → AreBytes bytes → walk_from at bytes ≡ Ok placed → AreDescriptors at bytes placed
spelt_from fuel at [] placed short are e =
    subst (λ (ps : List Placed). AreDescriptors at [] ps) empty refl
  where
    empty : [] ≡ placed
    empty = cc (walk_from-empty at [] refl)
spelt_from zero at (b ∷ bs) placed short are e = absurd (omega arith)
spelt_from (suc fuel) at (b ∷ bs) placed short are e =
    spelt_by fuel at b bs placed _ refl short are e (spelt_from fuel)

-- bytes that descriptors spell are walked over
walked_from : (placed : List Placed) (at : ℕ) (bytes : List ℕ)
    → AreDescriptors at bytes placed → walk_from at bytes ≡ Ok placed
walked_from [] at bytes none = walk_from-empty at bytes none
walked_from (d ∷ ds) at bytes (front, back, split, at_is, spelt, behind) =
    let b = read_back front back d.descriptor spelt in
    let n = length front in
    let one : 1 ≤ n = omega (arith, b.is_sound.eight, b.size) in
    let step = walk_from-front at (front ++ back) n one (sym b.size)
    (unrefused at (front ++ back) b.is_sound) in
    let rest = ap (λ l. walk_from (at + n) l) (drop-append_seam front back)
    ∙ walked_from ds (at + n) back behind in
    ap (λ l. walk_from at l) split
    ∙ step
    ∙ ap (λ r. in_front (record { at = at; descriptor = descriptor_at (front ++ back) }) r) rest
    ∙ ap (λ x. Ok (record { at = at; descriptor = x } ∷ ds)) b.same
    ∙ ap (λ x. Ok (record { at = x; descriptor = d.descriptor } ∷ ds)) (sym at_is)

-- ---- the header

-- a header that isn't refused
pub record IsHeaded (bytes : List ℕ) : Type 0 where
  pub four : 4 ≤ length bytes
  pub size : size_at bytes ≡ length bytes
  pub major : major_field bytes ≡ 0

three_fail : (a b c : Bool) (v w x : Refused)
    → (if a then Some v else if b then Some w else if c then Some x else None) ≡ None
    → (a ≡ false) × (b ≡ false) × (c ≡ false)
three_fail true b c v w x e = absurd cc
three_fail false true c v w x e = absurd cc
three_fail false false true v w x e = absurd cc
three_fail false false false v w x e = (refl, refl, refl)

not_below : (a b : ℕ) → nat_lt a b ≡ false → b ≤ a
not_below a b e = grind (arith, nat_tests)

not_other : (a b : ℕ) → not (a == b) ≡ false → a ≡ b
not_other a b e = grind (arith, nat_tests)

headed : (bytes : List ℕ) → header_refusal bytes ≡ None → IsHeaded bytes
headed bytes e =
    let f = three_fail (nat_lt (length bytes) 4) (not (size_at bytes == length bytes))
    (nat_lt 0 (major_field bytes)) _ _ _ e in
    let major = not_below 0 (major_field bytes) f.2 in
    record {
      four = not_below (length bytes) 4 f.0;
      size = not_other (size_at bytes) (length bytes) f.1;
      major = omega (arith, major);
    }

below : (a b : ℕ) → b ≤ a → nat_lt a b ≡ false
below a b h = grind (arith, nat_tests)

same : (a b : ℕ) → a ≡ b → not (a == b) ≡ false
same a b e = grind (arith, nat_tests)

unheaded : (bytes : List ℕ) → IsHeaded bytes → header_refusal bytes ≡ None
unheaded bytes h =
    rw (below (length bytes) 4 h.four, same (size_at bytes) (length bytes) h.size, h.major) refl

-- ---- whole manifests

-- what an Ok of a check comes from
pub record IsChecked (bytes : List ℕ) (m : Manifest) : Type 0 where
  pub placed : List Placed
  pub header : header_refusal bytes ≡ None
  pub walked : walk_from 4 (drop 4 bytes) ≡ Ok placed
  pub ruled : rules_refusal (length bytes) placed ≡ None
  pub m_is : m ≡ record {
    minor = minor_field bytes;
    size = length bytes;
    descriptors = map (λ d. d.descriptor) placed;
  }

after_header : (r : Option Refused) (bytes : List ℕ) (m : Manifest) → manifest_after r bytes ≡ Ok m
    → (r ≡ None) × (manifest_of bytes (descriptors_from 0 4 (drop 4 bytes)) ≡ Ok m)
after_header None bytes m e = (refl, e)
after_header (Some why) bytes m e = absurd cc

after_walk : (w : Result (List Placed) Refused) (bytes : List ℕ) (m : Manifest)
    → manifest_of bytes w ≡ Ok m
    → (placed : List Placed)
    × (w ≡ Ok placed)
    × (manifest_unless (rules_refusal (length bytes) placed) bytes placed ≡ Ok m)
after_walk (Ok placed) bytes m e = (placed, refl, e)
after_walk (Err why) bytes m e = absurd cc

after_rules : (r : Option Refused) (bytes : List ℕ) (placed : List Placed) (m : Manifest)
    → manifest_unless r bytes placed ≡ Ok m
    → (r ≡ None)
    × (m ≡ record {
      minor = minor_field bytes;
      size = length bytes;
      descriptors = map (λ d. d.descriptor) placed;
    })
after_rules None bytes placed m e = (refl, cc)
after_rules (Some why) bytes placed m e = absurd cc

checked : (bytes : List ℕ) (m : Manifest) → check_answer bytes ≡ Ok m → IsChecked bytes m
unfolding walk_from
checked bytes m e =
    let header = after_header (header_refusal bytes) bytes m e in
    let walk = after_walk (descriptors_from 0 4 (drop 4 bytes)) bytes m header.1 in
    let rules = after_rules (rules_refusal (length bytes) walk.0) bytes walk.0 m walk.2 in
    record { placed = walk.0; header = header.0; walked = walk.1; ruled = rules.0; m_is = rules.1 }

-- the header is spelt
header_spelt : (bytes : List ℕ) → AreBytes bytes → IsHeaded bytes
    → bytes ≡ le16 (length bytes) ++ (0 ∷ minor_field bytes ∷ drop 4 bytes)
header_spelt [] are h = absurd (omega (arith, h.four))
header_spelt (a ∷ []) are h = absurd (omega (arith, h.four))
header_spelt (a ∷ b ∷ []) are h = absurd (omega (arith, h.four))
header_spelt (a ∷ b ∷ c ∷ []) are h = absurd (omega (arith, h.four))
header_spelt (a ∷ b ∷ c ∷ d ∷ xs) are h =
    let size : a ∷ b ∷ [] ≡ le16 (length (a ∷ b ∷ c ∷ d ∷ xs)) =
    sym (little_bytes-number2 a b (are 0) (are 1)) ∙ ap (λ k. le16 k) h.size in
    ap (λ (l : List ℕ). l ++ (c ∷ d ∷ xs)) size
    ∙ ap (λ k. le16 (length (a ∷ b ∷ c ∷ d ∷ xs)) ++ (k ∷ d ∷ xs)) h.major

-- where a check answers Ok, the bytes are that manifest
pub accepted : (bytes : List ℕ) (m : Manifest)
    → AreBytes bytes → check_answer bytes ≡ Ok m → IsManifest bytes m
accepted bytes m are e =
    let c = checked bytes m e in
    let h = headed bytes c.header in
    let low = are 0 in
    let high = are 1 in
    let fits : length bytes ≤ 65535 = omega (arith, h.size, low, high) in
    rw c.m_is (record {
      rest = drop 4 bytes;
      placed = c.placed;
      spelt = header_spelt bytes are h;
      size = refl;
      fits = fits;
      descriptors =
          spelt_from (length (drop 4 bytes)) 4 (drop 4 bytes) c.placed (omega arith)
          (bytes_behind 4 bytes are) c.walked;
      listed = refl;
      ruled = c.ruled;
    })

-- a manifest's header
manifest_headed : (n minor : ℕ) (rest : List ℕ) → n ≤ 65535
    → n ≡ length (le16 n ++ (0 ∷ minor ∷ rest)) → IsHeaded (le16 n ++ (0 ∷ minor ∷ rest))
manifest_headed n minor rest fits e =
    let size : n % 256 + 256 * (n / 256 % 256 + 256 * 0) ≡ n = omega arith in
    record { four = omega arith; size = size ∙ e; major = refl }

-- where the bytes are a manifest, a check answers it
pub answered : (bytes : List ℕ) (m : Manifest) → IsManifest bytes m → check_answer bytes ≡ Ok m
answered bytes m h =
    let n = length bytes in
    let whole = le16 n ++ (0 ∷ m.minor ∷ h.rest) in
    let headed = subst (λ (l : List ℕ). IsHeaded l) (sym h.spelt)
    (manifest_headed n m.minor h.rest h.fits (ap length h.spelt)) in
    let behind : drop 4 bytes ≡ h.rest = ap (λ l. drop 4 l) h.spelt in
    let minor : minor_field bytes ≡ m.minor = ap (λ l. minor_field l) h.spelt in
    let walked = ap (λ l. walk_from 4 l) behind ∙ walked_from h.placed 4 h.rest h.descriptors in
    answer_rules bytes h.placed None (unheaded bytes headed) walked h.ruled
    ∙ ap (λ x.
    Ok (record { minor = x; size = length bytes; descriptors = map (λ d. d.descriptor) h.placed }))
    minor
    ∙ ap (λ x.
    Ok (record { minor = m.minor; size = x; descriptors = map (λ d. d.descriptor) h.placed }))
    (sym h.size)
    ∙ ap (λ x. Ok (record { minor = m.minor; size = m.size; descriptors = x })) (sym h.listed)

-- ---- what follows of an answer

pub only : (bytes : List ℕ) (m n : Manifest) → IsManifest bytes m → IsManifest bytes n → m ≡ n
only bytes m n p q =
    let a = answered bytes m p in
    let b = answered bytes n q in
    cc

-- what is known of bytes that a check accepts
pub record AreChecked (bytes : List ℕ) : Type 0 where
  pub m : Manifest
  pub answer : check_answer bytes ≡ Ok m
  pub headed : IsHeaded bytes
  pub checked : IsChecked bytes m

ok_refusal : (r : Result Manifest Refused) → refusal_in r ≡ None → (m : Manifest) × (r ≡ Ok m)
ok_refusal (Ok m) e = (m, refl)
ok_refusal (Err why) e = absurd cc

pub accepts : (bytes : List ℕ) → IsAccepted bytes → AreChecked bytes
accepts bytes e =
    let ok = ok_refusal (check_answer bytes) e in
    let c = checked bytes ok.0 ok.1 in
    record { m = ok.0; answer = ok.1; headed = headed bytes c.header; checked = c }

pub law : (bytes : List ℕ)
    → AreBytes bytes → (refusal bytes ≡ None) ↔ ((m : Manifest) × IsManifest bytes m)
law bytes are = (
  λ e. let ok = ok_refusal (check_answer bytes) e in (ok.0, accepted bytes ok.0 are ok.1),
  λ (m, p). ap refusal_in (answered bytes m p),
)

pub manifest_told : (bytes : List ℕ) (r : Result Manifest code.Refused)
    → AreBytes bytes → Answers r (check_answer bytes) → IfOk r (λ m. IsManifest bytes m)
manifest_told bytes (Ok m) are e = accepted bytes m are e
manifest_told bytes (Err why) are e = tt

pub whole_told : (bytes : List ℕ) (r : Result Manifest code.Refused) (m : Manifest)
    → Answers r (check_answer bytes) → IsManifest bytes m → IsOkAnd r (λ v. v ≡ m)
whole_told bytes (Ok v) m e p = let a = answered bytes m p in cc
whole_told bytes (Err why) m e p = let a = answered bytes m p in absurd cc
