-- The place of a mismatch, where a record has the size that its first bytes tell.
use Rattle.std.proofs.Common.{◌≡◌, ◌≢◌, ◌≤◌, ◌⊎◌, ◌+◌, ◌-◌, ℕ, zero, suc, min, inl, ⊎_elim, Bool}
use Rattle.std.proofs.Common.{true, false, cond, eqb, Result, Ok, Err, List, ◌++◌, length, take}
use Rattle.std.proofs.Common.{drop, replicate, refl, arith, sym, ap, subst, ◌∙◌, length-append}
use Rattle.std.proofs.Common.{length-take, take-append-drop}
use Rattle.std.proofs.lemmas.List.{length-replicate}
use Rattle.std.proofs.lemmas.Bool.Decides.{nat_tests}
use Rattle.gb_base.specs.Bytes.{AreBytes}
use Rattle.gb_formats.specs.Records.{PayloadFault, whole}
use Rattle.gb_payload.specs.Meaning.{Format, GoesOn, IsPlace}

-- ---- a record of one size

-- a payload of the size is the record
pub whole_is : {A : Type 0} (size : ℕ) (payload : List ℕ) (made : A)
    → length payload ≡ size → whole size payload made ≡ Ok made
whole_is size payload made h =
    let e : eqb (length payload) size ≡ true = grind (arith, nat_tests) in
    ap (λ (b : Bool).
    cond b (Ok made) (Err (PayloadFault.Mismatch (min (length payload) (size + 1))))) e

-- and one of another size isn't
pub whole_is_not : {A : Type 0} (size : ℕ) (payload : List ℕ) (made : A) → length payload ≢ size
    → whole size payload made ≡ Err (PayloadFault.Mismatch (min (length payload) (size + 1)))
whole_is_not size payload made h =
    let e : eqb (length payload) size ≡ false = grind (arith, nat_tests) in
    ap (λ (b : Bool).
    cond b (Ok made) (Err (PayloadFault.Mismatch (min (length payload) (size + 1))))) e

pub same_record : {A : Type 0} (made found : A)
    → ◌≡◌ {A = Result A PayloadFault} (Ok made) (Ok found) → made ≡ found
same_record made found e = cc

tested : {A : Type 0} (b : Bool) (made found : A) (why : PayloadFault)
    → cond b (Ok made) (Err why) ≡ Ok found → (b ≡ true) × (made ≡ found)
tested true made found why e = (refl, cc)
tested false made found why e = cc

refused : {A : Type 0} (b : Bool) (made : A) (why told : PayloadFault)
    → cond b (Ok made) (Err why) ≡ Err told → (b ≡ false) × (why ≡ told)
refused true made why told e = cc
refused false made why told e = (refl, cc)

mismatch : (m n : ℕ) → PayloadFault.Mismatch m ≡ PayloadFault.Mismatch n → m ≡ n
mismatch m n e = cc

-- a payload that is a record has the size
pub whole_size : {A : Type 0} (size : ℕ) (payload : List ℕ) (made found : A)
    → whole size payload made ≡ Ok found → length payload ≡ size
whole_size size payload made found e =
    let t = (tested _ made found _ e).0 in grind (arith, nat_tests)

-- the record is the one that was made
pub whole_made : {A : Type 0} (size : ℕ) (payload : List ℕ) (made found : A)
    → whole size payload made ≡ Ok found → made ≡ found
whole_made size payload made found e = (tested _ made found _ e).1

-- the type of a payload that isn't is known
pub whole_known : {A : Type 0} (size : ℕ) (payload : List ℕ) (made : A)
    → whole size payload made ≢ Err PayloadFault.UnknownKind
whole_known size payload made e = let t = (refused _ made _ _ e).1 in cc

-- a payload that isn't a record hasn't the size, and parts from it where it ends or at the first
-- byte too many
pub record Parts (size : ℕ) (payload : List ℕ) (at : ℕ) : Type 0 where
  pub other : length payload ≢ size
  pub place : at ≡ min (length payload) (size + 1)

pub whole_parts : {A : Type 0} (size : ℕ) (payload : List ℕ) (made : A) (at : ℕ)
    → whole size payload made ≡ Err (PayloadFault.Mismatch at) → Parts size payload at
whole_parts size payload made at e =
    let t = refused _ made _ _ e in
    record {
      other = let f = t.0 in λ h. grind (arith, nat_tests);
      place = sym (mismatch _ _ t.1);
    }

-- ---- a size that the first bytes tell

-- bytes that go on tell the same size as before, or else they end inside both
abbrev pub Front : (List ℕ → ℕ) → List ℕ → List ℕ → Type 0
Front size bytes rest =
    (size (bytes ++ rest) ≡ size bytes)
    ⊎ (length bytes ≤ size bytes) × (length bytes ≤ size (bytes ++ rest))

-- and zeros behind bytes don't change it
pub record IsSize (size : List ℕ → ℕ) : Type 0 where
  pub pads : (bytes : List ℕ) (n : ℕ) → size (bytes ++ replicate n 0) ≡ size bytes
  pub front : (bytes rest : List ℕ) → Front size bytes rest

-- a size that is always the same
pub one_size : (size : ℕ) → IsSize (λ bytes. size)
one_size size = record { pads = λ bytes n. refl; front = λ bytes rest. inl refl }

-- ---- its place

zeros_are_bytes : (n : ℕ) → AreBytes (replicate n 0)
zeros_are_bytes zero k = omega arith
zeros_are_bytes (suc n) zero = omega arith
zeros_are_bytes (suc n) (suc k) = zeros_are_bytes n k

padded : (m n : ℕ) → m ≤ n → m + (n - m) ≡ n
padded m n h = omega arith

-- how records of a type are read, that have such a size
abbrev pub ReadsBy : {A : Type 0} → Format A → ℕ → (List ℕ → ℕ) → (List ℕ → A) → Type 0
ReadsBy format kind size made =
    (bytes : List ℕ) → format.read kind bytes ≡ whole (size bytes) bytes (made bytes)

-- what is no longer than the size goes on to a record
pub goes_on : {A : Type 0} (format : Format A) (kind : ℕ) (size : List ℕ → ℕ) (made : List ℕ → A)
    → IsSize size → ReadsBy format kind size made → (bytes : List ℕ) → length bytes ≤ size bytes
    → GoesOn format kind bytes
goes_on format kind size made s reads bytes h =
    let n = size bytes - length bytes in
    let long : length (bytes ++ replicate n 0) ≡ size (bytes ++ replicate n 0) =
    length-append bytes (replicate n 0)
    ∙ ap (λ (m : ℕ). length bytes + m) (length-replicate n 0)
    ∙ padded (length bytes) (size bytes) h
    ∙ sym (s.pads bytes n) in
    record {
      rest = replicate n 0;
      made = made (bytes ++ replicate n 0);
      are_bytes = zeros_are_bytes n;
      reads =
          reads (bytes ++ replicate n 0)
          ∙ whole_is (size (bytes ++ replicate n 0)) (bytes ++ replicate n 0)
          (made (bytes ++ replicate n 0)) long;
    }

-- and nothing else does
pub stops : {A : Type 0} (format : Format A) (kind : ℕ) (size : List ℕ → ℕ) (made : List ℕ → A)
    → IsSize size → ReadsBy format kind size made → (bytes : List ℕ) → GoesOn format kind bytes
    → length bytes ≤ size bytes
stops format kind size made s reads bytes g =
    let long = whole_size (size (bytes ++ g.rest)) (bytes ++ g.rest) (made (bytes ++ g.rest)) g.made
    (sym (reads (bytes ++ g.rest)) ∙ g.reads) in
    let sum = length-append bytes g.rest in
    ⊎_elim (λ same. omega (arith, long, sum, same)) (λ ends. ends.0) (s.front bytes g.rest)

-- a shorter front of a payload tells its size, or ends inside both
front_of : (size : List ℕ → ℕ) → IsSize size → (payload : List ℕ) (n : ℕ)
    → (size payload ≡ size (take n payload))
    ⊎ (length (take n payload) ≤ size (take n payload)) × (length (take n payload) ≤ size payload)
front_of size s payload n = subst
    (λ (bytes : List ℕ). (size bytes ≡ size (take n payload))
    ⊎ (length (take n payload) ≤ size (take n payload)) × (length (take n payload) ≤ size bytes))
    (take-append-drop n payload)
    (s.front (take n payload) (drop n payload))

-- the place of a payload of another size
pub is_place : {A : Type 0} (format : Format A) (kind : ℕ) (size : List ℕ → ℕ) (made : List ℕ → A)
    → IsSize size → ReadsBy format kind size made
    → ((bytes : List ℕ) → format.kind (made bytes) ≡ kind) → (payload : List ℕ) (at : ℕ)
    → Parts (size payload) payload at → IsPlace format kind payload at
is_place format kind size made s reads kind_is payload at p =
    let place = p.place in
    let other = p.other in
    record {
      known = (made payload, kind_is payload);
      wrong = λ found e.
          other (whole_size (size payload) payload (made payload) found (sym (reads payload) ∙ e));
      within = omega (arith, place);
      before = λ n h. goes_on format kind size made s reads (take n payload)
          (let l = length-take n payload in
          ⊎_elim (λ same. omega (arith, place, l, h, same)) (λ ends. ends.0)
          (front_of size s payload n));
      there = λ g.
          let stop = stops format kind size made s reads (take at payload) g in
          let l = length-take at payload in
          ⊎_elim (λ same. omega (arith, place, other, l, stop, same))
          (λ ends. let end = ends.1 in omega (arith, place, other, l, end))
          (front_of size s payload at);
    }
