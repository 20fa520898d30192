-- Descriptors with their least sizes and zero pads.
use Rattle.std.proofs.Common.{◌≡◌, ◌≤◌, ℕ, zero, suc, take, ◌+◌, ◌-◌, ◌%◌, List, [], ◌∷◌, ◌++◌}
use Rattle.std.proofs.Common.{length, map, Option, Some, None, refl, sym, ap, subst, ◌∙◌, arith}
use Rattle.std.proofs.Common.{append_assoc, append-nil, length-append, replicate}
use Rattle.std.specs.Prelude.{⊤, cond, nat_lt, Bool, true, false}
use Rattle.std.specs.List.{concat}
use Rattle.std.proofs.lemmas.List.{length-replicate}
use Rattle.std.proofs.lemmas.Bool.Decides.{nat_tests}
use Rattle.gb_formats.specs.Bytes.{le16}
use Rattle.gb_formats.specs.Descriptors.{Descriptor, IdFits, IsDescriptor, body_of, least_size}
use Rattle.gb_formats.specs.Descriptors.{plain_descriptor, type_of, words_size}
use Rattle.gb_formats.specs.Manifest.{AreDescriptors}
use Rattle.gb_formats.specs.ManifestSpec.{BundleSpec, CportSpec, StringSpec, bundle_descriptor}
use Rattle.gb_formats.specs.ManifestSpec.{cport_descriptor, long_string, placed_from}
use Rattle.gb_formats.specs.ManifestSpec.{string_descriptor}
use Rattle.gb_manifest.specs.Writes.{AllFit, IsShort}

-- the bytes of some descriptors
abbrev pub plain_all : List Descriptor → List ℕ
plain_all ds = concat (map plain_descriptor ds)

pub plain_all-append : (xs ys : List Descriptor)
    → plain_all (xs ++ ys) ≡ plain_all xs ++ plain_all ys
plain_all-append [] ys = refl
plain_all-append (x ∷ xs) ys =
    ap (λ (l : List ℕ). plain_descriptor x ++ l) (plain_all-append xs ys)
    ∙ sym (append_assoc (plain_descriptor x) (plain_all xs) (plain_all ys))

pub plain_all-more : (xs : List Descriptor) (d : Descriptor)
    → plain_all (xs ++ d ∷ []) ≡ plain_all xs ++ plain_descriptor d
plain_all-more xs d =
    plain_all-append xs (d ∷ [])
    ∙ ap (λ (l : List ℕ). plain_all xs ++ l) (append-nil (plain_descriptor d))

-- the body of a descriptor has room in its least size
body_room : (d : Descriptor) → 4 + length (body_of d) ≤ least_size d
body_room (Descriptor.Interface v p f) = omega arith
body_room (Descriptor.Words i s) = omega arith
body_room (Descriptor.Bundle i c) = omega arith
body_room (Descriptor.Cport i b p) = omega arith

-- a plain descriptor has its least size
pub plain_descriptor-length : (d : Descriptor) → length (plain_descriptor d) ≡ least_size d
plain_descriptor-length d =
    omega (
      arith,
      body_room d,
      length-append (body_of d) (replicate (least_size d - 4 - length (body_of d)) 0),
      length-replicate {A = ℕ} (least_size d - 4 - length (body_of d)) 0,
    )

least_fours : (d : Descriptor) → least_size d % 4 ≡ 0
least_fours (Descriptor.Interface v p f) = refl
least_fours (Descriptor.Words i s) = omega arith
least_fours (Descriptor.Bundle i c) = refl
least_fours (Descriptor.Cport i b p) = refl

-- a plain descriptor is one
pub is_plain : (d : Descriptor)
    → IdFits d → least_size d ≤ 65535 → IsDescriptor (plain_descriptor d) d
is_plain d id fits =
    let len = plain_descriptor-length d in
    record {
      pad = 0;
      rest = replicate (least_size d - 4 - length (body_of d)) 0;
      spelt =
          ap (λ n. le16 n
          ++ (type_of d ∷ 0 ∷ body_of d ++ replicate (least_size d - 4 - length (body_of d)) 0))
          (sym len);
      fits = rw len fits;
      id_fits = id;
      fours = rw len (least_fours d);
      least = omega (arith, len);
    }

-- plain descriptors are descriptors in order
pub are_plain : (ds : List Descriptor) (at : ℕ) → AllFit ds → length (plain_all ds) ≤ 65535
    → AreDescriptors at (plain_all ds) (placed_from at ds)
are_plain [] at fit short = refl
are_plain (d ∷ ds) at fit short =
    let len = plain_descriptor-length d in
    let both = length-append (plain_descriptor d) (plain_all ds) in (
      plain_descriptor d,
      plain_all ds,
      refl,
      refl,
      is_plain d fit.0 (omega (arith, len, both)),
      subst (λ (n : ℕ). AreDescriptors (at + n) (plain_all ds) (placed_from (at + least_size d) ds))
          (sym len) (are_plain ds (at + least_size d) fit.1 (omega (arith, both))),
    )

-- ---- strings

-- each string's length fits in its byte
abbrev pub AllShort : List Descriptor → Type 0
AllShort [] = ⊤
AllShort (d ∷ ds) = IsShort d × AllShort ds

short_cports : (cs : List CportSpec) → AllShort (map cport_descriptor cs)
short_cports [] = tt
short_cports (c ∷ cs) = (tt, short_cports cs)

short_bundles : (bs : List BundleSpec) (more : List Descriptor)
    → AllShort more → AllShort (map bundle_descriptor bs ++ more)
short_bundles [] more h = h
short_bundles (b ∷ bs) more h = (tt, short_bundles bs more h)

short_string : (b : Bool) (id : ℕ) (later : Option ℕ)
    → cond b (Some id) later ≡ None → (b ≡ false) × (later ≡ None)
short_string true id later e = absurd cc
short_string false id later e = (refl, e)

not_over : (n : ℕ) → nat_lt 255 n ≡ false → n ≤ 255
not_over n e = grind (arith, nat_tests)

-- where no string is too long, each is short
short_strings : (ss : List StringSpec) (more : List Descriptor)
    → long_string ss ≡ None → AllShort more → AllShort (map string_descriptor ss ++ more)
short_strings [] more e h = h
short_strings (s ∷ ss) more e h =
    let p = short_string (nat_lt 255 (length s.bytes)) s.id (long_string ss) e in
    (not_over (length s.bytes) p.0, short_strings ss more p.1 h)

pub all_short : (ss : List StringSpec) (bs : List BundleSpec) (cs : List CportSpec)
    → long_string ss ≡ None
    → AllShort (map string_descriptor ss ++ (map bundle_descriptor bs ++ map cport_descriptor cs))
all_short ss bs cs e = short_strings ss _ e (short_bundles bs _ (short_cports cs))

-- ids that fit, with one more
pub all_fit-more : (xs : List Descriptor) (d : Descriptor)
    → AllFit xs → IdFits d → AllFit (xs ++ d ∷ [])
all_fit-more [] d h f = (f, tt)
all_fit-more (x ∷ xs) d h f = (h.0, all_fit-more xs d h.1 f)

-- ---- the descriptor of a string

padded : (k : ℕ) → k ≤ 3 → take {A = ℕ} k (0 ∷ 0 ∷ 0 ∷ []) ≡ replicate k 0
padded zero h = refl
padded (suc zero) h = refl
padded (suc (suc zero)) h = refl
padded (suc (suc (suc zero))) h = refl
padded (suc (suc (suc (suc k)))) h = absurd (omega arith)

-- its head, its bytes and its padding, appended one after the other
pub words_bytes : (o1 o2 o3 o4 size_bytes s : List ℕ) (size id k : ℕ) → size ≡ words_size (length s)
    → size_bytes ≡ le16 size → o2 ≡ o1 ++ (size_bytes ++ (2 ∷ 0 ∷ length s ∷ id ∷ []))
    → o3 ≡ o2 ++ s → k ≡ size - 6 - length s → o4 ≡ o3 ++ take {A = ℕ} k (0 ∷ 0 ∷ 0 ∷ [])
    → o4 ≡ o1 ++ plain_descriptor (Descriptor.Words id s)
words_bytes o1 o2 o3 o4 size_bytes s size id k size_is h e2 e3 k_is e4 =
    let pad : List ℕ = take {A = ℕ} k (0 ∷ 0 ∷ 0 ∷ []) in
    let head = le16 size ++ (2 ∷ 0 ∷ length s ∷ id ∷ []) in
    let count : k ≡ words_size (length s) - 4 - length (length s ∷ id ∷ s) = omega arith in
    let pad_is : pad ≡ replicate (words_size (length s) - 4 - length (length s ∷ id ∷ s)) 0 =
    padded k (omega arith) ∙ ap (λ n. replicate n 0) count in
    e4
    ∙ ap (λ (l : List ℕ). l ++ pad)
    (e3
    ∙ ap (λ (l : List ℕ). l ++ s)
    (e2 ∙ ap (λ (l : List ℕ). o1 ++ (l ++ (2 ∷ 0 ∷ length s ∷ id ∷ []))) h))
    ∙ append_assoc (o1 ++ head) s pad ∙ append_assoc o1 head (s ++ pad)
    ∙ ap (λ (p : List ℕ). o1 ++ (head ++ (s ++ p))) pad_is
    ∙ ap (λ n. o1 ++ ((le16 n ++ (2 ∷ 0 ∷ length s ∷ id ∷ []))
    ++ (s ++ replicate (words_size (length s) - 4 - length (length s ∷ id ∷ s)) 0))) size_is

-- the header of a manifest
pub header_bytes : (new out size_bytes : List ℕ) (size minor : ℕ) → new ≡ []
    → size_bytes ≡ le16 size → out ≡ new ++ (size_bytes ++ (0 ∷ minor ∷ []))
    → out ≡ le16 size ++ (0 ∷ minor ∷ plain_all [])
header_bytes new out size_bytes size minor n s e =
    e ∙ ap (λ (l : List ℕ). l ++ (size_bytes ++ (0 ∷ minor ∷ []))) n
    ∙ ap (λ (l : List ℕ). l ++ (0 ∷ minor ∷ [])) s
