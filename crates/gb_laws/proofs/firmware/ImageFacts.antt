-- What becomes of the images of the application processor, and of the ids under which it
-- lends them.
use Rattle.std.proofs.Common.{Bool, List, None, Option, Some, ap, cond, false, inl, inr, length}
use Rattle.std.proofs.Common.{refl, subst, sym, true, ℕ, [], ◌∙◌, ◌∷◌, ◌≡◌, ◌≤◌, ◌⊎◌}
use Rattle.std.proofs.lemmas.List.Folds.{find-append}
use Rattle.std.specs.List.{find, list_any}
use Rattle.std.specs.Option.{option_or}
use Rattle.std.specs.Prelude.{Err, Ok, Result, drop, option_map, take, ◌&&◌, ◌==◌}
use Rattle.gb_base.specs.declared.interface.Link.{Link}
use Rattle.gb_formats.specs.FirmwareRecords.{FirmwareAsk, FirmwareReply}
use Rattle.gb_formats.specs.Images.{Image, Images, Loan, fetch_step, find_step, finds, forgotten}
use Rattle.gb_formats.specs.Images.{free_id, has_tag, image_of, images_asked, images_read}
use Rattle.gb_formats.specs.Images.{is_astray, is_loan, lends, lent_bytes, lent_tag, release_step}
use Rattle.gb_formats.specs.Images.{replies, tag_spelled, with_image, with_loan, without_loan}
use Rattle.gb_formats.specs.Records.{PayloadFault}
use Rattle.gb_formats.specs.Results.{invalid, refuses}
use Rattle.gb_machine.specs.Host.{all_forgotten}
use Rattle.gb_machine.specs.Members.{IsIn}
use Rattle.gb_invariants.proofs.Awaiting.{none-some, not-both, same-some}
use Rattle.gb_invariants.proofs.Found.{find-left, find-pushed, first_free-is, none-any}
use Rattle.gb_invariants.proofs.Lists.{found-in, in-without}
use Rattle.gb_invariants.proofs.Outcomes.{both-true, is-same, same-number}

-- ---- less is lent

-- Whatever is lent under an id of a connection has this tag.
abbrev pub LentAs : ℕ → ℕ → List ℕ → Images → Type 0
LentAs k id tag x = (t : List ℕ) → lent_tag k id x ≡ Some t → t ≡ tag

-- Images that were given stay, and what is lent was lent.
pub record Fewer (x after : Images) : Type 0 where
  pub given : after.given ≡ x.given
  pub lent : (k id : ℕ) (t : List ℕ) → lent_tag k id after ≡ Some t → lent_tag k id x ≡ Some t

pub same-fewer : (x after : Images) → after ≡ x → Fewer x after
same-fewer x after e = record {
  given = ap (λ (y : Images). y.given) e;
  lent = λ k id t h. ap (lent_tag k id) (sym e) ∙ h;
}

pub then-fewer : {x y z : Images} → Fewer x y → Fewer y z → Fewer x z
then-fewer a b = record {
  given = b.given ∙ a.given;
  lent = λ k id t h. a.lent k id t (b.lent k id t h);
}

-- a test that fails where its first part does
and-left : (a b : Bool) → a ≡ false → a && b ≡ false
and-left a b e = ap (λ t. t && b) e

-- loans of another connection
apart-loan : (k id j : ℕ) (l : Loan) → (k ≡ j → ⊥) → is_loan k id l ≡ true
    → (l.connection == j) ≡ false
apart-loan k id j l other e = by (l.connection == j) refl
  where
    on : l.connection ≡ k
    on = same-number l.connection k (both-true (l.connection == k) (l.id == id) e).0

    by : (t : Bool) → (l.connection == j) ≡ t → (l.connection == j) ≡ false
    by false f = f
    by true f = absurd (other (sym on ∙ same-number l.connection j f))

-- two numbers are one, or not
pub one-or_other : (k j : ℕ) → (k ≡ j) ⊎ (k ≡ j → ⊥)
one-or_other k j = by (k == j) refl
  where
    by : (t : Bool) → (k == j) ≡ t → (k ≡ j) ⊎ (k ≡ j → ⊥)
    by true e = inl (same-number k j e)
    by false e = inr (λ s. not-both (k == j) (ap (λ n. k == n) (sym s) ∙ is-same k) e)

-- where the ids of a connection are free
pub forgotten-fewer : (j : ℕ) (x : Images) → Fewer x (forgotten j x)
forgotten-fewer j x = record { given = refl; lent = λ k id t h. by k id t h (one-or_other k j) }
  where
    by : (k id : ℕ) (t : List ℕ) → lent_tag k id (forgotten j x) ≡ Some t
        → (k ≡ j) ⊎ (k ≡ j → ⊥) → lent_tag k id x ≡ Some t
    by k id t h (inr other) =
        ap (option_map (λ (l : Loan). l.tag)) (sym (find-left (is_loan k id)
        (λ l. l.connection == j) x.loans (λ l e. apart-loan k id j l other e))) ∙ h
    by k id t h (inl same) = none (find (is_loan k id) (forgotten j x).loans) refl h
      where
        none : (o : Option Loan) → find (is_loan k id) (forgotten j x).loans ≡ o
            → option_map (λ (l : Loan). l.tag) o ≡ Some t → lent_tag k id x ≡ Some t
        none None e h = absurd (none-some h)
        none (Some l) e h =
            let f = found-in (is_loan k id) (forgotten j x).loans l e in
            let left = (in-without (λ (l : Loan). l.connection == j) x.loans l f.0).1 in
            let on = same-number l.connection k
            (both-true (l.connection == k) (l.id == id) f.1).0 in
            absurd (not-both (l.connection == j)
            (ap (λ n. n == j) (on ∙ same) ∙ is-same j) left)

pub all-fewer : (ls : List Link) (x : Images) → Fewer x (all_forgotten ls x)
all-fewer [] x = same-fewer x x refl
all-fewer (l ∷ ls) x =
    then-fewer (forgotten-fewer l.connection x) (all-fewer ls (forgotten l.connection x))

pub fewer-as : {x after : Images} (k id : ℕ) (tag : List ℕ) → Fewer x after → LentAs k id tag x
    → LentAs k id tag after
fewer-as k id tag f h t e = h t (f.lent k id t e)

-- ---- requests

-- What a request on connection k does to images: they stay, or an id of the connection is lent
-- or free.
pub record Steps (k : ℕ) (x after : Images) : Type 0 where
  pub given : after.given ≡ x.given
  pub aside : (j id : ℕ) → (j ≡ k → ⊥) → lent_tag j id after ≡ lent_tag j id x

steps-same : (k : ℕ) (x : Images) → Steps k x x
steps-same k x = record { given = refl; aside = λ j id other. refl }

steps-lent : (k id : ℕ) (tag : List ℕ) (x : Images) → Steps k x (with_loan k id tag x)
steps-lent k id tag x = record {
  given = refl;
  aside = λ j i other. ap (option_map (λ (l : Loan). l.tag)) (find-pushed (is_loan j i) x.loans
      (record { connection = k; id = id; tag = tag })
      (and-left (k == j) (id == i) (apart j other (k == j) refl)));
}
  where
    apart : (j : ℕ) → (j ≡ k → ⊥) → (t : Bool) → (k == j) ≡ t → (k == j) ≡ false
    apart j other false e = e
    apart j other true e = absurd (other (sym (same-number k j e)))

steps-free : (k id : ℕ) (x : Images) → Steps k x (without_loan k id x)
steps-free k id x = record {
  given = refl;
  aside = λ j i other. ap (option_map (λ (l : Loan). l.tag)) (find-left (is_loan j i) (is_loan k id)
      x.loans (λ l e. and-left (l.connection == k) (l.id == id) (apart-loan j i k l other e)));
}

steps-found : (k : ℕ) (tag : List ℕ) (o : Option (List ℕ)) (x : Images)
    → Steps k x (finds k tag o x).after
steps-found k tag None x = steps-same k x
steps-found k tag (Some bytes) x = by (free_id k x)
  where
    by : (o : Option ℕ) → Steps k x (lends k tag (length bytes) o x).after
    by None = steps-same k x
    by (Some id) = steps-lent k id tag x

steps-find : (k : ℕ) (o : Option (List ℕ)) (x : Images) → Steps k x (find_step k o x).after
steps-find k None x = steps-same k x
steps-find k (Some tag) x = steps-found k tag (image_of tag x) x

-- a FETCH changes nothing
pub fetch-stays : (offset size : ℕ) (o : Option (List ℕ)) (x : Images)
    → (fetch_step offset size o x).after ≡ x
fetch-stays offset size None x = refl
fetch-stays offset size (Some bytes) x = by (is_astray offset size bytes)
  where
    by : (t : Bool) → (cond t (refuses x invalid) (replies x (FirmwareReply.Fetch (take size
        (drop offset bytes))))).after ≡ x
    by true = refl
    by false = refl

steps-asked : (k : ℕ) (ask : FirmwareAsk) (x : Images) → Steps k x (images_asked k ask x).after
steps-asked k (FirmwareAsk.Find tag) x = steps-find k (tag_spelled tag) x
steps-asked k (FirmwareAsk.Fetch id offset size) x =
    subst (Steps k x) (sym (fetch-stays offset size (lent_bytes k id x) x)) (steps-same k x)
steps-asked k (FirmwareAsk.Release id) x = by (list_any (is_loan k id) x.loans)
  where
    by : (t : Bool) → Steps k x (release_step k id t x).after
    by true = steps-free k id x
    by false = steps-same k x

pub steps-read : (k : ℕ) (r : Result FirmwareAsk PayloadFault) (x : Images)
    → Steps k x (images_read k r x).after
steps-read k (Err fault) x = steps-same k x
steps-read k (Ok ask) x = steps-asked k ask x

-- ---- images

-- an image that is there stays where one is given whose tag has none
pub given-stays : (tag bytes : List ℕ) (x : Images) (t img : List ℕ) → image_of t x ≡ Some img
    → image_of t (with_image tag bytes x) ≡ Some img
given-stays tag bytes x t img h = by (find (has_tag t) x.given) refl h
  where
    new : Image
    new = record { tag = tag; bytes = bytes }

    by : (o : Option Image) → find (has_tag t) x.given ≡ o
        → option_map (λ (i : Image). i.bytes) o ≡ Some img
        → image_of t (with_image tag bytes x) ≡ Some img
    by None e h = absurd (none-some h)
    by (Some i) e h = ap (option_map (λ (i : Image). i.bytes))
        (find-append (has_tag t) x.given (new ∷ [])
        ∙ ap (λ o. option_or o (find (has_tag t) (new ∷ []))) e) ∙ h

-- and no image has another length than those that were given
abbrev pub AreShort : Images → Type 0
AreShort x = (i : Image) → IsIn i x.given → length i.bytes ≤ 4294967295

pub image-short : (tag img : List ℕ) (x : Images) → AreShort x → image_of tag x ≡ Some img
    → length img ≤ 4294967295
image-short tag img x short h = by (find (has_tag tag) x.given) refl h
  where
    by : (o : Option Image) → find (has_tag tag) x.given ≡ o
        → option_map (λ (i : Image). i.bytes) o ≡ Some img → length img ≤ 4294967295
    by None e h = absurd (none-some h)
    by (Some i) e h = subst (λ (b : List ℕ). length b ≤ 4294967295) (same-some i.bytes img h)
        (short i (found-in (has_tag tag) x.given i e).0)

-- ---- an id that is lent

-- the id that is lent had no image
free-none : (k id : ℕ) (x : Images) → free_id k x ≡ Some id → find (is_loan k id) x.loans ≡ None
free-none k id x h = by (find (is_loan k id) x.loans) refl
  where
    free : list_any (is_loan k id) x.loans ≡ false
    free = (first_free-is (λ i. list_any (is_loan k i) x.loans) 255 1 id h).0

    by : (o : Option Loan) → find (is_loan k id) x.loans ≡ o → find (is_loan k id) x.loans ≡ None
    by None e = e
    by (Some l) e =
        let f = found-in (is_loan k id) x.loans l e in
        absurd (not-both (is_loan k id l) f.1 (none-any (is_loan k id) x.loans l free f.0))

-- and has this one then
pub lent-now : (k id : ℕ) (tag : List ℕ) (x : Images) → free_id k x ≡ Some id
    → LentAs k id tag (with_loan k id tag x)
lent-now k id tag x free t h = sym (same-some tag t (sym now ∙ h))
  where
    new : Loan
    new = record { connection = k; id = id; tag = tag }

    own : is_loan k id new ≡ true
    own = ap (λ b. b && (id == id)) (is-same k) ∙ is-same id

    now : lent_tag k id (with_loan k id tag x) ≡ Some tag
    now = ap (option_map (λ (l : Loan). l.tag)) (find-append (is_loan k id) x.loans (new ∷ [])
        ∙ ap (λ o. option_or o (find (is_loan k id) (new ∷ []))) (free-none k id x free)
        ∙ ap (λ b. cond b (Some new) None) own)

-- nothing was lent under it
pub lent-none : (k id : ℕ) (tag : List ℕ) (x : Images) → free_id k x ≡ Some id → LentAs k id tag x
lent-none k id tag x free t h = absurd (none-some
    (sym (ap (option_map (λ (l : Loan). l.tag)) (free-none k id x free)) ∙ h))
