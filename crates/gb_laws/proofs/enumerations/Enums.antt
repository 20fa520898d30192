-- The requests of an enumeration that wait toward the supervisory controller, and the removals that
-- wait toward the application processor.
use Rattle.std.proofs.Common.{Bool, List, None, Option, Some, ap, append-nil, append_assoc, cond}
use Rattle.std.proofs.Common.{false, inl, inr, map, refl, sym, true, ℕ, [], ◌++◌, ◌∙◌, ◌∷◌, ◌≡◌}
use Rattle.std.proofs.Common.{◌⊎◌}
use Rattle.std.specs.List.{filter, list_any}
use Rattle.std.specs.Prelude.{◌||◌}
use Rattle.gb_base.specs.declared.end.Side.TheVariants as side
use Rattle.gb_machine.specs.Bus.{Ask, Bus, Item, Raw, RawReply, Reply, Request, request_of}
use Rattle.gb_machine.specs.SvcQueues.{is_enumeration_request, is_removal_in, is_reply_to}
use Rattle.gb_machine.specs.SvcQueues.{request_onto, requests_among, svc_items}
use Rattle.gb_machine.specs.{LawsSvc.IsStart, Lists.behind_first, Members.Each, Members.IsIn}
use Rattle.gb_invariants.proofs.BusChanges.{KeepsRequests}
use Rattle.gb_laws.proofs.marks.Marks.{AreAsked}

-- ---- requests of an enumeration

abbrev pub enum_of : ℕ → ℕ → Option Request → List (ℕ × Request)
enum_of i n None = []
enum_of i n (Some r) = cond (is_enumeration_request i r) ((n, r) ∷ []) []

abbrev pub item_enum : ℕ → Bus → Item → List (ℕ × Request)
item_enum i b (Ask n) = enum_of i n (request_of n b)
item_enum i b _ = []

abbrev pub enums_of : ℕ → Bus → List Item → List (ℕ × Request)
enums_of i b [] = []
enums_of i b (x ∷ xs) = item_enum i b x ++ enums_of i b xs

-- What an enumeration asked and wasn't served, with its numbers, in order.
abbrev pub enums : ℕ → Bus → List (ℕ × Request)
enums i b = enums_of i b (svc_items side.Far b)

-- they are starts of an enumeration
abbrev pub AreStarts : List (ℕ × Request) → Type 0
AreStarts es = Each (λ (e : ℕ × Request). e.1.kind ≡ 0x21) es

pub enums-append : (i : ℕ) (b : Bus) (xs ys : List Item)
    → enums_of i b (xs ++ ys) ≡ enums_of i b xs ++ enums_of i b ys
enums-append i b [] ys = refl
enums-append i b (x ∷ xs) ys = ap (λ es. item_enum i b x ++ es) (enums-append i b xs ys)
    ∙ sym (append_assoc (item_enum i b x) (enums_of i b xs) (enums_of i b ys))

-- one more that is none
pub enums-unasked : (i : ℕ) (b : Bus) (xs : List Item) (y : Item) → item_enum i b y ≡ []
    → enums_of i b (xs ++ y ∷ []) ≡ enums_of i b xs
enums-unasked i b xs y e = enums-append i b xs (y ∷ [])
    ∙ ap (λ es. enums_of i b xs ++ (es ++ [])) e ∙ append-nil (enums_of i b xs)

-- where more requests were made
pub enums-more : (i : ℕ) (b after : Bus) (xs : List Item) → KeepsRequests b after → AreAsked b xs
    → enums_of i after xs ≡ enums_of i b xs
enums-more i b after [] keeps asked = refl
enums-more i b after (x ∷ xs) keeps asked =
    ap (λ es. es ++ enums_of i after xs) (one x (λ n e. asked n (inl (sym e))))
    ∙ ap (λ es. item_enum i b x ++ es) (enums-more i b after xs keeps (λ n j. asked n (inr j)))
  where
    one : (y : Item) → ((n : ℕ) → y ≡ Ask n → (r : Request) × (request_of n b ≡ Some r))
        → item_enum i after y ≡ item_enum i b y
    one (Ask n) made = let m = made n refl in ap (enum_of i n) (keeps n m.0 m.1 ∙ sym m.1)
    one (Reply n result payload) made = refl
    one (Raw bytes) made = refl
    one (RawReply label kind result payload) made = refl

-- the front item is taken: it was the first of them, or none
pub enums-taken : (i : ℕ) (b : Bus) (xs : List Item)
    → (enums_of i b (behind_first xs) ≡ enums_of i b xs)
    ⊎ (enums_of i b (behind_first xs) ≡ behind_first (enums_of i b xs))
enums-taken i b [] = inl refl
enums-taken i b (x ∷ xs) = by x
  where
    asked : (n : ℕ) (o : Option Request) → (enums_of i b xs ≡ enum_of i n o ++ enums_of i b xs)
        ⊎ (enums_of i b xs ≡ behind_first (enum_of i n o ++ enums_of i b xs))
    asked n None = inl refl
    asked n (Some r) = either (is_enumeration_request i r)
      where
        either : (t : Bool) → (enums_of i b xs ≡ cond t ((n, r) ∷ []) [] ++ enums_of i b xs)
            ⊎ (enums_of i b xs ≡ behind_first (cond t ((n, r) ∷ []) [] ++ enums_of i b xs))
        either true = inr refl
        either false = inl refl

    by : (y : Item) → (enums_of i b xs ≡ item_enum i b y ++ enums_of i b xs)
        ⊎ (enums_of i b xs ≡ behind_first (item_enum i b y ++ enums_of i b xs))
    by (Ask n) = asked n (request_of n b)
    by _ = inl refl

-- an asked one waits
pub enum-waits : (i : ℕ) (b : Bus) (xs : List Item) (e : ℕ × Request) → IsIn e (enums_of i b xs)
    → IsIn (Ask e.0) xs × (request_of e.0 b ≡ Some e.1) × (is_enumeration_request i e.1 ≡ true)
enum-waits i b [] e j = absurd j
enum-waits i b (x ∷ xs) e j = by x refl j (enum-waits i b xs e)
  where
    Waits : Type 0
    Waits = IsIn (Ask e.0) (x ∷ xs) × (request_of e.0 b ≡ Some e.1)
        × (is_enumeration_request i e.1 ≡ true)

    Later : Type 0
    Later = IsIn e (enums_of i b xs) → IsIn (Ask e.0) xs × (request_of e.0 b ≡ Some e.1)
        × (is_enumeration_request i e.1 ≡ true)

    later : Later → IsIn e (enums_of i b xs) → Waits
    later rec k = let w = rec k in (inr w.0, w.1, w.2)

    asked : (n : ℕ) → x ≡ Ask n → (o : Option Request) → request_of n b ≡ o
        → IsIn e (enum_of i n o ++ enums_of i b xs) → Later → Waits
    asked n is None f k rec = later rec k
    asked n is (Some r) f k rec = either (is_enumeration_request i r) refl k
      where
        either : (t : Bool) → is_enumeration_request i r ≡ t
            → IsIn e (cond t ((n, r) ∷ []) [] ++ enums_of i b xs) → Waits
        either true g (inl same) = (
          inl (ap (λ (p : ℕ × Request). Ask p.0) same ∙ sym is),
          ap (λ (p : ℕ × Request). request_of p.0 b) same ∙ f
              ∙ ap (λ (p : ℕ × Request). Some p.1) (sym same),
          ap (λ (p : ℕ × Request). is_enumeration_request i p.1) same ∙ g,
        )
        either true g (inr k) = later rec k
        either false g k = later rec k

    by : (y : Item) → x ≡ y → IsIn e (item_enum i b y ++ enums_of i b xs) → Later → Waits
    by (Ask n) is k rec = asked n is (request_of n b) refl k rec
    by _ is k rec = later rec k

-- the requests are those that wait, without their numbers
pub enums-requests : (i : ℕ) (b : Bus) (xs : List Item)
    → filter (is_enumeration_request i) (requests_among b xs)
    ≡ map (λ (e : ℕ × Request). e.1) (enums_of i b xs)
enums-requests i b [] = refl
enums-requests i b (x ∷ xs) = by x (enums-requests i b xs)
  where
    Same : Type 0
    Same = filter (is_enumeration_request i) (requests_among b xs)
        ≡ map (λ (e : ℕ × Request). e.1) (enums_of i b xs)

    asked : (n : ℕ) (o : Option Request) → Same
        → filter (is_enumeration_request i) (request_onto o (requests_among b xs))
        ≡ map (λ (e : ℕ × Request). e.1) (enum_of i n o ++ enums_of i b xs)
    asked n None h = h
    asked n (Some r) h = either (is_enumeration_request i r)
      where
        either : (t : Bool) → cond t (r ∷ filter (is_enumeration_request i) (requests_among b xs))
            (filter (is_enumeration_request i) (requests_among b xs))
            ≡ map (λ (e : ℕ × Request). e.1) (cond t ((n, r) ∷ []) [] ++ enums_of i b xs)
        either true = ap (λ rs. r ∷ rs) h
        either false = h

    by : (y : Item) → Same → filter (is_enumeration_request i) (requests_among b (y ∷ xs))
        ≡ map (λ (e : ℕ × Request). e.1) (item_enum i b y ++ enums_of i b xs)
    by (Ask n) h = asked n (request_of n b) h
    by _ h = h

pub starts-requests : (es : List (ℕ × Request)) → AreStarts es
    → Each IsStart (map (λ (e : ℕ × Request). e.1) es)
starts-requests [] h = tt
starts-requests (e ∷ es) h = (h.0, starts-requests es h.1)

-- ---- removals

-- the removal of an interface is among items
abbrev pub removed_in : ℕ → List (ℕ × ℕ) → List Item → Bool
removed_in i ps xs = list_any (is_removal_in i ps) xs

-- No reply to request n stands in front of a removal of an interface.
abbrev pub IsClean : ℕ → ℕ → List (ℕ × ℕ) → List Item → Type 0
IsClean n i ps [] = Unit {0}
IsClean n i ps (x ∷ xs) =
    (removed_in i ps xs ≡ true → is_reply_to n x ≡ false) × IsClean n i ps xs

pub removed-unasked : (i : ℕ) (ps : List (ℕ × ℕ)) (xs : List Item) (y : Item)
    → is_removal_in i ps y ≡ false → removed_in i ps (xs ++ y ∷ []) ≡ removed_in i ps xs
removed-unasked i ps [] y e = ap (λ t. t || false) e
removed-unasked i ps (x ∷ xs) y e =
    ap (λ t. is_removal_in i ps x || t) (removed-unasked i ps xs y e)

pub clean-unasked : (n i : ℕ) (ps : List (ℕ × ℕ)) (xs : List Item) (y : Item)
    → is_removal_in i ps y ≡ false → IsClean n i ps xs → IsClean n i ps (xs ++ y ∷ [])
clean-unasked n i ps [] y e h = (λ t. absurd cc, tt)
clean-unasked n i ps (x ∷ xs) y e h =
    (λ t. h.0 (sym (removed-unasked i ps xs y e) ∙ t), clean-unasked n i ps xs y e h.1)

-- nothing is in front where no reply to it is there
pub clean-none : (n i : ℕ) (ps : List (ℕ × ℕ)) (xs : List Item)
    → ((x : Item) → IsIn x xs → is_reply_to n x ≡ false) → IsClean n i ps xs
clean-none n i ps [] none = tt
clean-none n i ps (x ∷ xs) none =
    (λ t. none x (inl refl), clean-none n i ps xs (λ y j. none y (inr j)))
