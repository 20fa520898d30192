-- A descriptor as its bytes spell it, and as it is read from them.
use Rattle.std.proofs.Common.{◌≡◌, ◌≤◌, ℕ, zero, suc, ◌+◌, ◌-◌, ◌*◌, ◌/◌, ◌%◌, List, [], ◌∷◌, ◌++◌}
use Rattle.std.proofs.Common.{length, take, drop, refl, sym, ap, subst, ◌∙◌, arith, append_assoc}
use Rattle.std.proofs.Common.{length-append}
use Rattle.std.specs.Prelude.{slice_index}
use Rattle.std.proofs.Math.Seq.{take-add, take-append_seam}
use Rattle.std.proofs.lemmas.List.{length-take-le}
use Rattle.gb_base.specs.Bytes.{AreBytes}
use Rattle.gb_base.proofs.LittleEndian.{little_bytes-number2}
use Rattle.gb_formats.specs.Bytes.{le16}
use Rattle.gb_formats.specs.Descriptors.{Descriptor, IdFits, IsDescriptor, body_of, descriptor_at}
use Rattle.gb_formats.specs.Descriptors.{least_size, least_size_at, size_at, type_at, type_of}
use Rattle.gb_formats.specs.Descriptors.{words_size}
use Rattle.gb_manifest.proofs.Spelt.{IsSound}

-- what is read from the front of bytes
pub record Reads (bytes : List ℕ) (d : Descriptor) : Type 0 where
  pub kind : type_of d ≡ type_at bytes
  pub body : take (length (body_of d)) (drop 4 bytes) ≡ body_of d
  pub least : least_size d ≡ least_size_at bytes
  pub room : 4 + length (body_of d) ≤ least_size d
  pub id_fits : IdFits d

-- a string
reads_words : (a b p c d : ℕ) (ys : List ℕ)
    → c ≤ length ys → Reads (a ∷ b ∷ 2 ∷ p ∷ c ∷ d ∷ ys) (Descriptor.Words d (take c ys))
reads_words a b p c d ys h =
    let n : length (take c ys) ≡ c = length-take-le c ys h in
    record {
      kind = refl;
      body =
          ap (λ k. k ∷ d ∷ take (length (take c ys)) ys) (sym n)
          ∙ ap (λ k. length (take c ys) ∷ d ∷ take k ys) n;
      least = ap words_size n;
      room = omega arith;
      id_fits = tt;
    }

-- the descriptor that is read from at least eight bytes
reads_eight : (a b t p c d e f : ℕ) (xs : List ℕ) → AreBytes (a ∷ b ∷ t ∷ p ∷ c ∷ d ∷ e ∷ f ∷ xs)
    → IsSound (a ∷ b ∷ t ∷ p ∷ c ∷ d ∷ e ∷ f ∷ xs)
    → Reads (a ∷ b ∷ t ∷ p ∷ c ∷ d ∷ e ∷ f ∷ xs)
    (descriptor_at (a ∷ b ∷ t ∷ p ∷ c ∷ d ∷ e ∷ f ∷ xs))
reads_eight a b zero p c d e f xs are h = absurd (omega (arith, h.low))
reads_eight a b (suc zero) p c d e f xs are h =
    record { kind = refl; body = refl; least = refl; room = omega arith; id_fits = tt }
reads_eight a b (suc (suc zero)) p c d e f xs are h =
    reads_words a b p c d (e ∷ f ∷ xs) (omega (arith, h.least, h.within))
reads_eight a b (suc (suc (suc zero))) p c d e f xs are h =
    record { kind = refl; body = refl; least = refl; room = omega arith; id_fits = tt }
reads_eight a b (suc (suc (suc (suc zero)))) p c d e f xs are h =
    let low = are 4 in
    let high = are 5 in
    record {
      kind = refl;
      body =
          ap (λ (l : List ℕ). l ++ (e ∷ f ∷ [])) (sym (little_bytes-number2 c d (are 4) (are 5)));
      least = refl;
      room = omega arith;
      id_fits = omega (arith, low, high);
    }
reads_eight a b (suc (suc (suc (suc (suc t))))) p c d e f xs are h = absurd (omega (arith, h.high))

-- the descriptor that is read from sound bytes
reads : (bytes : List ℕ) → AreBytes bytes → IsSound bytes → Reads bytes (descriptor_at bytes)
reads [] are h = absurd (omega (arith, h.eight, h.within))
reads (a ∷ []) are h = absurd (omega (arith, h.eight, h.within))
reads (a ∷ b ∷ []) are h = absurd (omega (arith, h.eight, h.within))
reads (a ∷ b ∷ t ∷ []) are h = absurd (omega (arith, h.eight, h.within))
reads (a ∷ b ∷ t ∷ p ∷ []) are h = absurd (omega (arith, h.eight, h.within))
reads (a ∷ b ∷ t ∷ p ∷ c ∷ []) are h = absurd (omega (arith, h.eight, h.within))
reads (a ∷ b ∷ t ∷ p ∷ c ∷ d ∷ []) are h = absurd (omega (arith, h.eight, h.within))
reads (a ∷ b ∷ t ∷ p ∷ c ∷ d ∷ e ∷ []) are h = absurd (omega (arith, h.eight, h.within))
reads (a ∷ b ∷ t ∷ p ∷ c ∷ d ∷ e ∷ f ∷ xs) are h = reads_eight a b t p c d e f xs are h

-- the header of a descriptor
header_spelt : (bytes : List ℕ) (n : ℕ) → AreBytes bytes → n ≡ size_at bytes → 4 ≤ n
    → n ≤ length bytes
    → take n bytes ≡ le16 n ++ (type_at bytes ∷ slice_index bytes 3 ∷ take (n - 4) (drop 4 bytes))
header_spelt [] n are e four within = absurd (omega arith)
header_spelt (a ∷ []) n are e four within = absurd (omega arith)
header_spelt (a ∷ b ∷ []) n are e four within = absurd (omega arith)
header_spelt (a ∷ b ∷ t ∷ []) n are e four within = absurd (omega arith)
header_spelt (a ∷ b ∷ t ∷ p ∷ xs) n are e four within =
    let whole : n ≡ 4 + (n - 4) = omega arith in
    let size : a ∷ b ∷ [] ≡ le16 n =
    sym (little_bytes-number2 a b (are 0) (are 1)) ∙ ap (λ k. le16 k) (sym e) in
    ap (λ k. take k (a ∷ b ∷ t ∷ p ∷ xs)) whole ∙ take-add 4 (n - 4) (a ∷ b ∷ t ∷ p ∷ xs)
    ∙ ap (λ (l : List ℕ). l ++ (t ∷ p ∷ take (n - 4) xs)) size

size_fits : (bytes : List ℕ) → AreBytes bytes → size_at bytes ≤ 65535
size_fits bytes are =
    let low = are 0 in
    let high = are 1 in
    omega (arith, low, high)

-- sound bytes spell the descriptor that is read from them
pub spelt_at : (bytes : List ℕ) → AreBytes bytes → IsSound bytes
    → IsDescriptor (take (size_at bytes) bytes) (descriptor_at bytes)
spelt_at bytes are h =
    let r = reads bytes are h in
    let n = size_at bytes in
    let m = length (body_of (descriptor_at bytes)) in
    let len : length (take n bytes) ≡ n = length-take-le n bytes h.within in
    let parts : n - 4 ≡ m + (n - 4 - m) = omega (arith, r.room, r.least, h.least) in
    let rest = take (n - 4 - m) (drop m (drop 4 bytes)) in
    let inner : take (n - 4) (drop 4 bytes) ≡ body_of (descriptor_at bytes) ++ rest =
    ap (λ k. take k (drop 4 bytes)) parts
    ∙ take-add m (n - 4 - m) (drop 4 bytes)
    ∙ ap (λ (l : List ℕ). l ++ rest) r.body in
    record {
      pad = slice_index bytes 3;
      rest = rest;
      spelt = header_spelt bytes n are refl (omega (arith, h.eight)) h.within
          ∙ ap (λ (l : List ℕ). le16 n ++ (type_at bytes ∷ slice_index bytes 3 ∷ l)) inner
          ∙ ap (λ k. le16 n ++ (k ∷ slice_index bytes 3 ∷ body_of (descriptor_at bytes) ++ rest))
          (sym r.kind)
          ∙ ap (λ k.
          le16 k ++ (type_of (descriptor_at bytes) ∷ slice_index bytes 3
          ∷ body_of (descriptor_at bytes) ++ rest)) (sym len);
      fits = rw len (size_fits bytes are);
      id_fits = r.id_fits;
      fours = rw len h.fours;
      least = rw (len, r.least) h.least;
    }

-- what is read where a descriptor stands in front
pub record ReadsBack (bytes : List ℕ) (d : Descriptor) (n : ℕ) : Type 0 where
  pub size : size_at bytes ≡ n
  pub is_sound : IsSound bytes
  pub same : descriptor_at bytes ≡ d

reads_back : (d : Descriptor) (n pad : ℕ) (rest back : List ℕ) → n ≤ 65535 → IdFits d → n % 4 ≡ 0
    → least_size d ≤ n → n ≤ length ((le16 n ++ (type_of d ∷ pad ∷ body_of d ++ rest)) ++ back)
    → ReadsBack ((le16 n ++ (type_of d ∷ pad ∷ body_of d ++ rest)) ++ back) d n
reads_back (Descriptor.Interface v p f) n pad rest back fits id fours least within =
    let size : n % 256 + 256 * (n / 256 % 256 + 256 * 0) ≡ n = omega arith in
    record {
      size = size;
      is_sound = record {
        eight = rw size least;
        fours = rw size fours;
        within = rw size within;
        low = omega arith;
        high = omega arith;
        least = rw size least;
      };
      same = refl;
    }
reads_back (Descriptor.Bundle i c) n pad rest back fits id fours least within =
    let size : n % 256 + 256 * (n / 256 % 256 + 256 * 0) ≡ n = omega arith in
    record {
      size = size;
      is_sound = record {
        eight = rw size least;
        fours = rw size fours;
        within = rw size within;
        low = omega arith;
        high = omega arith;
        least = rw size least;
      };
      same = refl;
    }
reads_back (Descriptor.Cport i b p) n pad rest back fits id fours least within =
    let size : n % 256 + 256 * (n / 256 % 256 + 256 * 0) ≡ n = omega arith in
    let same : i % 256 + 256 * (i / 256 % 256 + 256 * 0) ≡ i = omega (arith, id) in
    record {
      size = size;
      is_sound = record {
        eight = rw size least;
        fours = rw size fours;
        within = rw size within;
        low = omega arith;
        high = omega arith;
        least = rw size least;
      };
      same = ap (λ k. Descriptor.Cport k b p) same;
    }
reads_back (Descriptor.Words i s) n pad rest back fits id fours least within =
    let size : n % 256 + 256 * (n / 256 % 256 + 256 * 0) ≡ n = omega arith in
    let string : take (length s) ((s ++ rest) ++ back) ≡ s =
    ap (λ l. take (length s) l) (append_assoc s rest back) ∙ take-append_seam s (rest ++ back) in
    let eight : 8 ≤ words_size (length s) = omega arith in
    record {
      size = size;
      is_sound = record {
        eight = rw size (omega (arith, eight, least));
        fours = rw size fours;
        within = rw size within;
        low = omega arith;
        high = omega arith;
        least = rw size least;
      };
      same = ap (λ l. Descriptor.Words i l) string;
    }

-- a descriptor in front is what is read
pub read_back : (front back : List ℕ) (d : Descriptor)
    → IsDescriptor front d → ReadsBack (front ++ back) d (length front)
read_back front back d h =
    let within : length front ≤ length (front ++ back) = omega (arith, length-append front back) in
    subst (λ (l : List ℕ). ReadsBack (l ++ back) d (length front)) (sym h.spelt)
    (reads_back d (length front) h.pad h.rest back h.fits h.id_fits h.fours h.least
    (subst (λ (l : List ℕ). length front ≤ length (l ++ back)) h.spelt within))
