-- What the application processor's images are after each request.
use Rattle.std.proofs.Common.{◌≡◌, ◌+◌, ◌==◌, ℕ, suc, Bool, true, false, cond, not, ltb}
use Rattle.std.proofs.Common.{Option, Some, None, MatchOption, option_map, List, [], ◌∷◌}
use Rattle.std.proofs.Common.{◌++◌, length, length-append, take, refl, sym, ap, subst, ◌∙◌}
use Rattle.std.proofs.Common.{arith}
use Rattle.std.specs.List.{list_any, position_or_len}
use Rattle.std.proofs.lemmas.Bool.Decides.{nat_tests}
use Rattle.gb_base.specs.declared.served.Served.{Served}
use Rattle.gb_formats.specs.FirmwareRecords.{FirmwareReply, firmware_reply_payload}
use Rattle.gb_formats.specs.Images.{Image, Images, Loan, finds, find_step, free_id}
use Rattle.gb_formats.specs.Images.{image_of, is_loan, lends, release_step, replies}
use Rattle.gb_formats.specs.Images.{tag_spelled, with_loan}
use Rattle.gb_formats.specs.Lists.{without}
use Rattle.gb_formats.specs.Results.{Step, answer_of, nonexistent, refusal_of}
use Rattle.gb_firmware.proofs.Kept.{none-without}

-- ---- look-ups

-- what was found, by cases
pub matched : {A B : Type 0} (v : A → B) (r : Option A) (found : Option B)
    → option_map v r ≡ found → MatchOption r (found ≡ None) (λ x. found ≡ Some (v x))
matched v None found e = sym e
matched v (Some x) found e = sym e

-- ---- tags

abbrev pub is_zero : ℕ → Bool
is_zero b = b == 0

spelled_more : (b : ℕ) (rest : List ℕ) (test : Bool)
    → option_map (λ tag. b ∷ tag) (cond test (Some rest) None) ≡ cond test (Some (b ∷ rest)) None
spelled_more b rest true = refl
spelled_more b rest false = refl

-- the bytes before this place, where it lies in the field
abbrev spelled_to : ℕ → List ℕ → Option (List ℕ)
spelled_to place field = cond (ltb place (length field)) (Some (take place field)) None

spelled_later : (b place : ℕ) (bs : List ℕ)
    → option_map (λ tag. b ∷ tag) (spelled_to place bs) ≡ spelled_to (1 + place) (b ∷ bs)
spelled_later b place bs =
    let shorter : ltb (suc place) (length (b ∷ bs)) ≡ ltb place (length bs) =
    grind (arith, nat_tests) in
    let next : suc place ≡ 1 + place = omega arith in
    spelled_more b (take place bs) (ltb place (length bs))
    ∙ ap (λ test. cond test (Some (b ∷ take place bs)) None) (sym shorter)
    ∙ ap (λ n. spelled_to n (b ∷ bs)) next

-- the bytes before the first zero
spelled_at : (field : List ℕ)
    → tag_spelled field ≡ spelled_to (position_or_len is_zero field) field
spelled_at [] = refl
spelled_at (b ∷ bs) = by (b == 0) (spelled_at bs)
  where
    by : (here : Bool) → tag_spelled bs ≡ spelled_to (position_or_len is_zero bs) bs
        → cond here (Some []) (option_map (λ tag. b ∷ tag) (tag_spelled bs))
        ≡ spelled_to (cond (not here) (1 + position_or_len is_zero bs) 0) (b ∷ bs)
    by true later =
        let some : ltb 0 (length (b ∷ bs)) ≡ true = grind (arith, nat_tests) in
        ap (λ test. cond test (Some []) None) (sym some)
    by false later =
        ap (option_map (λ tag. b ∷ tag)) later
        ∙ spelled_later b (position_or_len is_zero bs) bs

-- what `position` answers, as the bytes before that place
pub spelled_by : (field : List ℕ) (place : Option ℕ)
    → place ≡ cond (ltb (position_or_len is_zero field) (length field))
    (Some (position_or_len is_zero field)) None
    → tag_spelled field ≡ option_map (λ n. take n field) place
spelled_by field place e =
    spelled_at field
    ∙ mapped (ltb (position_or_len is_zero field) (length field)) (position_or_len is_zero field)
    ∙ ap (option_map (λ n. take n field)) (sym e)
  where
    mapped : (test : Bool) (n : ℕ)
        → cond test (Some (take n field)) None
        ≡ option_map (λ m. take m field) (cond test (Some n) None)
    mapped true n = refl
    mapped false n = refl

-- ---- ids

-- the images of these parts
abbrev pub images_of : List Image → List Loan → Images
images_of given loans = record { given = given; loans = loans }

-- a request was served as this step
abbrev IsServed : Served → Images → Step Images → Type 0
IsServed served after step = (served ≡ step.served) × (after ≡ step.after)

-- an id isn't in use
pub stays : (k id : ℕ) (given : List Image) (old new : List Loan) (x : Images) (served : Served)
    → images_of given old ≡ x → list_any (is_loan k id) old ≡ false
    → new ≡ without (is_loan k id) old → served ≡ refusal_of nonexistent
    → IsServed served (images_of given new)
    (release_step k id (list_any (is_loan k id) x.loans) x)
stays k id given old new x served is free e answer =
    subst (λ y. IsServed served (images_of given new)
    (release_step k id (list_any (is_loan k id) y.loans) y)) is
    (subst (λ test. IsServed served (images_of given new)
    (release_step k id test (images_of given old))) (sym free)
    (answer, ap (images_of given) (e ∙ none-without (is_loan k id) old free)))

-- an image is lent under the least id that is free
lends_step : (k id : ℕ) (field tag bytes : List ℕ) (x : Images)
    → tag_spelled field ≡ Some tag → image_of tag x ≡ Some bytes → free_id k x ≡ Some id
    → find_step k (tag_spelled field) x
    ≡ replies (with_loan k id tag x) (FirmwareReply.Find id (length bytes))
lends_step k id field tag bytes x spells has free =
    ap (λ o. find_step k o x) spells ∙ ap (λ o. finds k tag o x) has
    ∙ ap (λ o. lends k tag (length bytes) o x) free

-- one more image is lent
pub lends_one : (k id : ℕ) (field tag bytes : List ℕ) (given : List Image) (old new : List Loan)
    (x : Images) (served : Served)
    → images_of given old ≡ x → tag_spelled field ≡ Some tag → image_of tag x ≡ Some bytes
    → free_id k x ≡ Some id
    → served ≡ answer_of (firmware_reply_payload (FirmwareReply.Find id (length bytes)))
    → new ≡ old ++ record { connection = k; id = id; tag = tag } ∷ []
    → IsServed served (images_of given new) (find_step k (tag_spelled field) x)
lends_one k id field tag bytes given old new x served is spells has free answer e =
    subst (IsServed served (images_of given new))
    (sym (lends_step k id field tag bytes x spells has free))
    (answer, ap (images_of given) e ∙ ap (with_loan k id tag) is)

-- where one more image is lent there is one more loan
pub lends_more : (k id : ℕ) (field tag bytes : List ℕ) (x : Images)
    → tag_spelled field ≡ Some tag → image_of tag x ≡ Some bytes → free_id k x ≡ Some id
    → length (find_step k (tag_spelled field) x).after.loans ≡ length x.loans + 1
lends_more k id field tag bytes x spells has free =
    let one : Loan = record { connection = k; id = id; tag = tag } in
    ap (λ step. length step.after.loans) (lends_step k id field tag bytes x spells has free)
    ∙ length-append x.loans (one ∷ [])
