-- What tests of options say.
use Rattle.std.proofs.Common.{◌≡◌, false, Option, Some, None, is_none, is_some, refl}

-- there is something
pub some-of : {A : Type 0} (o : Option A) → is_none o ≡ false → (x : A) × (o ≡ Some x)
some-of None h = absurd cc
some-of (Some x) h = (x, refl)

-- there is nothing
pub none-of : {A : Type 0} (o : Option A) → is_some o ≡ false → o ≡ None
none-of None h = refl
none-of (Some x) h = absurd cc
