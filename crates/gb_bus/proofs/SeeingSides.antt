-- What is seen of the live connections where the requests of a side change.
use Rattle.std.proofs.Common.{◌≡◌, ℕ, Bool, true, false, cond, Option, Some, None}
use Rattle.std.proofs.Common.{option_and_then, List, [], ◌∷◌, refl, sym, ap, ◌∙◌}
use Rattle.std.proofs.Common.{subst}
use Rattle.std.specs.Map.{set_value}
use Rattle.std.specs.Prelude.{nat_eq}
use Rattle.indexmap.specs.IndexMap.{get}
use Rattle.gb_base.specs.declared.end.End.{End}
use Rattle.gb_base.specs.declared.end.Side.{Side}
use Rattle.gb_base.specs.declared.end.Side.TheVariants as side
use Rattle.gb_bus.proofs.SeeingChanges.{changes-one, filled, finds, ops-seen}
use Rattle.gb_bus.specs.Connection.{Connection}
use Rattle.gb_bus.specs.Index.{Ends, MapsAgree, Live}
use Rattle.gb_bus.specs.Parts.{is_soiled, numbered, ops_of, with_ops}
use Rattle.gb_bus.specs.Seen.{seen, seen_in_order}
use Rattle.gb_bus.specs.Sides.{ChangesSide}
use Rattle.gb_bus.specs.Sides.{HasEndsOf, IsNotOf, MatchesAs, MatchesIn, MatchesOn, OnSide}
use Rattle.gb_bus.specs.Sides.{RespondsIn, RespondsOn, asked_of}
use Rattle.gb_bus.specs.declared.connection.Connection as code
use Rattle.gb_machine.specs.Lists.{at_first}
use Rattle.gb_ops.specs.Operations.{Operations, holder_of}
use Rattle.gb_ops.specs.declared.entries.Matched.{Matched}
use Rattle.gb_ops.specs.declared.entries.Matched.TheVariants as matched

ops-ends : (x : Connection) (s : Side) (ops : Operations) → HasEndsOf x (with_ops s ops x)
ops-ends x side.Ap ops = record {
  near = refl;
  far = refl;
  wire = refl;
  near_waits = refl;
  far_waits = refl;
}
ops-ends x side.Far ops = record {
  near = refl;
  far = refl;
  wire = refl;
  near_waits = refl;
  far_waits = refl;
}

pub side-ends : (s : Side) (R : Operations → Operations → Type 0) (x y : Connection)
    → OnSide x y s R → HasEndsOf x y
side-ends s R x y h = subst (HasEndsOf x) (sym h.1) (ops-ends x s (ops_of s y))

filled-ops : (k : ℕ) (s : Side) (ops : Operations) (x : code.Connection)
    → filled k (with_ops s ops (seen 0 x)) ≡ with_ops s ops (seen k x)
filled-ops k side.Ap ops x = refl
filled-ops k side.Far ops x = refl

pub side-changes : (live live' : Live) (ends : Ends) (q : List End) (xs : List Connection) (k : ℕ)
    (s : Side) (x y : code.Connection) (R : Operations → Operations → Type 0)
    → MapsAgree live ends q → seen_in_order live.entries ≡ xs → get nat_eq live k ≡ Some x
    → live'.entries ≡ set_value (nat_eq k) live.entries y
    → OnSide (seen 0 x) (seen 0 y) s R
    → ChangesSide xs (seen_in_order live'.entries) k s R
side-changes live live' ends q xs k s x y R kept view found now h = record {
  connection = seen k x;
  after = ops_of s (seen 0 y);
  found = finds live xs k (Some x) view found;
  did = subst (λ ops. R ops (ops_of s (seen 0 y))) (ops-seen k x s) h.0;
  rest = changes-one live live' ends q k x y (with_ops s (ops_of s (seen 0 y))) kept found now
      (ap (filled k) h.1 ∙ filled-ops k s (ops_of s (seen 0 y)) x)
      ∙ ap (at_first (numbered k) (with_ops s (ops_of s (seen 0 y)))) view;
}

-- one that is put back as it was
first-same : (test : Connection → Bool) (xs : List Connection) → at_first test (λ c. c) xs ≡ xs
first-same test [] = refl
first-same test (x ∷ xs) = by (test x) (first-same test xs)
  where
    by : (b : Bool) → at_first test (λ c. c) xs ≡ xs
        → cond b (x ∷ xs) (x ∷ at_first test (λ c. c) xs) ≡ x ∷ xs
    by true later = refl
    by false later = ap (λ ys. x ∷ ys) later

pub put-back : (live live' : Live) (ends : Ends) (q : List End) (k : ℕ) (x y : code.Connection)
    → MapsAgree live ends q → get nat_eq live k ≡ Some x
    → live'.entries ≡ set_value (nat_eq k) live.entries y → seen 0 y ≡ seen 0 x
    → seen_in_order live'.entries ≡ seen_in_order live.entries
put-back live live' ends q k x y kept found now same =
    changes-one live live' ends q k x y (λ c. c) kept found now (ap (filled k) same)
    ∙ first-same (numbered k) (seen_in_order live.entries)

same-side : (s : Side) (c : Connection) → with_ops s (ops_of s c) c ≡ c
same-side side.Ap c = refl
same-side side.Far c = refl

-- an identifier isn't in use on a side of a connection, or not for the request that is asked for
abbrev IsNotOn : Option ℕ → ℕ → Side → Option Connection → Type 0
IsNotOn number label s o =
    IsNotOf number (option_and_then (λ (c : Connection). holder_of (ops_of s c) label) o)

pub matches : (live live' : Live) (ends : Ends) (q : List End) (xs : List Connection) (k : ℕ)
    (s : Side) (number : Option ℕ) (label : ℕ) (r : Matched) (x y : code.Connection)
    → MapsAgree live ends q → seen_in_order live.entries ≡ xs → get nat_eq live k ≡ Some x
    → live'.entries ≡ set_value (nat_eq k) live.entries y
    → MatchesOn (seen 0 x) (seen 0 y) s number label r
    → MatchesIn xs (seen_in_order live'.entries) k s number label r
matches live live' ends q xs k s number label (matched.Open j) x y kept view found now did =
    side-changes live live' ends q xs k s x y
    (λ v u. MatchesAs v u number label (matched.Open j)) kept view found now did
matches live live' ends q xs k s number label (matched.Late j) x y kept view found now did =
    side-changes live live' ends q xs k s x y
    (λ v u. MatchesAs v u number label (matched.Late j)) kept view found now did
matches live live' ends q xs k s number label matched.Unknown x y kept view found now did = (
  subst (IsNotOn number label s) (sym (finds live xs k (Some x) view found))
      (subst (λ ops. IsNotOf number (holder_of ops label)) (ops-seen k x s) did.0.0),
  put-back live live' ends q k x y kept found now
      (did.1 ∙ ap (λ ops. with_ops s ops (seen 0 x)) did.0.1 ∙ same-side s (seen 0 x))
      ∙ view,
)

pub matches-none : (live : Live) {ys : List Connection} (xs : List Connection) (k : ℕ)
    (s : Side) (number : Option ℕ) (label : ℕ) → seen_in_order live.entries ≡ xs
    → get nat_eq live k ≡ None → ys ≡ xs → MatchesIn xs ys k s number label matched.Unknown
matches-none live xs k s number label view none same =
    (subst (IsNotOn number label s) (sym (finds live xs k None view none)) tt, same)

-- a response goes by its number or by its identifier alone
pub responds : (live live' : Live) (ends : Ends) (q : List End) (xs : List Connection) (k : ℕ)
    (s : Side) (number label : ℕ) (r : Bool × Matched) (x y : code.Connection)
    → MapsAgree live ends q → seen_in_order live.entries ≡ xs → get nat_eq live k ≡ Some x
    → live'.entries ≡ set_value (nat_eq k) live.entries y
    → RespondsOn (seen 0 x) (seen 0 y) s number label r
    → RespondsIn xs (seen_in_order live'.entries) k s number label r
responds live live' ends q xs k s number label r x y kept view found now did = (
  did.0 ∙ sym (ap is_soiled (finds live xs k (Some x) view found)),
  matches live live' ends q xs k s (asked_of r.0 number) label r.1 x y kept view found now did.1,
)

pub responds-none : (live : Live) {ys : List Connection} (xs : List Connection)
    (k : ℕ) (s : Side) (number label : ℕ) → seen_in_order live.entries ≡ xs
    → get nat_eq live k ≡ None → ys ≡ xs
    → RespondsIn xs ys k s number label (false, matched.Unknown)
responds-none live xs k s number label view none same = (
  sym (ap is_soiled (finds live xs k None view none)),
  matches-none live xs k s (asked_of false number) label view none same,
)
