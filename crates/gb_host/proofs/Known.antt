-- What is kept of the interfaces that are known.
use Rattle.std.proofs.Common.{◌≡◌, ◌<◌, ℕ, zero, suc, Bool, true, false, cond, Some, None}
use Rattle.std.proofs.Common.{List, [], ◌∷◌, get_or, set, length, find, refl, sym, ap, ◌∙◌, arith}
use Rattle.std.proofs.Common.{subst}
use Rattle.std.specs.List.{AllByRecursion, filter}
use Rattle.gb_base.specs.declared.interface.Interface.{Interface}
use Rattle.gb_host.specs.Changes.{with_module}
use Rattle.gb_host.specs.Known.{AreKept, AreQuiet, HasAccepted, IsQuiet}
use Rattle.gb_machine.specs.Bus.{or_else}
use Rattle.gb_machine.specs.Host.{intf_before, new_interface}
use Rattle.gb_machine.specs.Lists.{in_order}
use Rattle.gb_machine.specs.Waits.{interface_waits, purpose_in}
use Rattle.gb_manifest.specs.Checks.{IsAccepted}

-- none waits for a request
pub none-waits : (n : ℕ) (xs : List Interface) → AreQuiet xs → interface_waits n xs ≡ None
none-waits n [] quiet = refl
none-waits n (x ∷ xs) quiet =
    ap (λ w. or_else (purpose_in n x.intf 0 w) (interface_waits n xs)) quiet.0
    ∙ none-waits n xs quiet.1

-- ---- what is true of each

-- one is changed of which it stays true
pub all-set : {A : Type 0} (P : A → Type 0) (xs : List A) (i : ℕ) (x y : A) → x ≡ get_or xs i x
    → (P x → P y) → AllByRecursion P xs → AllByRecursion P (set xs i y)
all-set P [] i x y is keeps all = all
all-set P (z ∷ xs) zero x y is keeps all = (keeps (subst P (sym is) all.0), all.1)
all-set P (z ∷ xs) (suc i) x y is keeps all = (all.0, all-set P xs i x y is keeps all.1)

-- one more comes in order of which it is true
all-in_order : {A : Type 0} (P : A → Type 0) (before : A → A → Bool) (x : A) → P x → (xs : List A)
    → AllByRecursion P xs → AllByRecursion P (in_order before x xs)
all-in_order P before x here [] all = (here, all)
all-in_order P before x here (y ∷ ys) all =
    by (before x y) (all-in_order P before x here ys all.1)
  where
    by : (b : Bool) → AllByRecursion P (in_order before x ys)
        → AllByRecursion P (cond b (x ∷ y ∷ ys) (y ∷ in_order before x ys))
    by true later = (here, all)
    by false later = (all.0, later)

-- the interfaces of a module come
all-module : (P : Interface → Type 0) → ((p i : ℕ) → P (new_interface p i))
    → (p : ℕ) (is : List ℕ) (xs : List Interface) → AllByRecursion P xs
    → AllByRecursion P (with_module p is xs)
all-module P new p [] xs all = all
all-module P new p (i ∷ is) xs all =
    all-module P new p is (in_order intf_before (new_interface p i) xs)
    (all-in_order P intf_before (new_interface p i) (new p i) xs all)

-- some of them stay
all-filter : {A : Type 0} (P : A → Type 0) (test : A → Bool) (xs : List A) → AllByRecursion P xs
    → AllByRecursion P (filter test xs)
all-filter P test [] all = all
all-filter P test (x ∷ xs) all = by (test x) (all-filter P test xs all.1)
  where
    by : (b : Bool) → AllByRecursion P (filter test xs)
        → AllByRecursion P (cond b (x ∷ filter test xs) (filter test xs))
    by true later = (all.0, later)
    by false later = later

-- one is found
pub all-find : {A : Type 0} (P : A → Type 0) (test : A → Bool) (xs : List A) (x : A)
    → AllByRecursion P xs → find test xs ≡ Some x → P x
all-find P test [] x all e = absurd cc
all-find {A} P test (y ∷ ys) x all e = by (test y) e (all-find P test ys x all.1)
  where
    by : (b : Bool) → cond b (Some y) (find test ys) ≡ Some x → (find test ys ≡ Some x → P x) → P x
    by true e later = let same : y ≡ x = cc in subst P same all.0
    by false e later = later e

-- ---- what is kept

-- one is changed that waits for what it waited for, and has the manifest that it had
pub kept-set : (quiet : Bool) (xs : List Interface) (i : ℕ) (x y : Interface) → x ≡ get_or xs i x
    → y.awaits ≡ x.awaits → y.manifest ≡ x.manifest → AreKept quiet xs → AreKept quiet (set xs i y)
kept-set quiet xs i x y is awaits manifest kept = record {
  waits = λ says. all-set IsQuiet xs i x y is (λ none. awaits ∙ none) (kept.waits says);
  manifests =
      all-set HasAccepted xs i x y is
      (subst (λ m. 0 < length m → IsAccepted m) (sym manifest)) kept.manifests;
}

-- one has a manifest that was accepted
pub kept-accepted : (quiet : Bool) (xs : List Interface) (i : ℕ) (x y : Interface)
    → x ≡ get_or xs i x → y.awaits ≡ x.awaits → IsAccepted y.manifest → AreKept quiet xs
    → AreKept quiet (set xs i y)
kept-accepted quiet xs i x y is awaits accepted kept = record {
  waits = λ says. all-set IsQuiet xs i x y is (λ none. awaits ∙ none) (kept.waits says);
  manifests = all-set HasAccepted xs i x y is (λ _ _. accepted) kept.manifests;
}

-- the interfaces of a module come, which wait for nothing and have no manifest
pub kept-module : (quiet : Bool) (p : ℕ) (is : List ℕ) (xs : List Interface) → AreKept quiet xs
    → AreKept quiet (with_module p is xs)
kept-module quiet p is xs kept = record {
  waits = λ says. all-module IsQuiet (λ q i. refl) p is xs (kept.waits says);
  manifests =
      all-module HasAccepted (λ q i some. absurd (omega (arith, some))) p is xs kept.manifests;
}

-- some of them stay
pub kept-filter : (quiet : Bool) (test : Interface → Bool) (xs : List Interface)
    → AreKept quiet xs → AreKept quiet (filter test xs)
kept-filter quiet test xs kept = record {
  waits = λ says. all-filter IsQuiet test xs (kept.waits says);
  manifests = all-filter HasAccepted test xs kept.manifests;
}
