-- Midway through an action that is put together from many.
use Rattle.std.proofs.Common.{◌≡◌, ◌<◌, ◌+◌, ℕ, List, [], ◌∷◌, ◌++◌, length, drop, get_or}
use Rattle.std.proofs.Common.{drop-cons, add-one, append-nil, append_assoc, slice_index_or, refl}
use Rattle.std.proofs.Common.{reverse, sym, ap, ap₂, ◌∙◌}
use Rattle.std.proofs.lemmas.Grind.{get_or_default_zero}
use Rattle.std.proofs.lemmas.List.{reverse-append}
use Rattle.gb_base.specs.declared.entry.Entry.{Entry}
use Rattle.gb_machine.proofs.Opened.{machine_opened}
use Rattle.gb_machine.proofs.Steps.{told_before}
use Rattle.gb_machine.specs.Actions.{Action, each, nothing, ◌▸◌}
use Rattle.gb_machine.specs.State.{State}
use Rattle.gb_system.proofs.Doings.{does-is}
use Rattle.gb_system.specs.Doing.{Does}
use Rattle.gb_system.specs.Stands.{PartsStand}
use Rattle.gb_system.specs.declared.parties.Parties.{Parties}

-- A part of an action was done: the whole is what was told so far, and then the rest from the state
-- that was reached.
pub record Midway (x : Parties) (whole rest : Action) (s : State) (before told : List Entry) : Type
    0 where
  pub state : State
  pub entries : List Entry
  pub is : whole s ≡ told_before entries (rest state)
  pub told_is : told ≡ before ++ entries
  pub stand : PartsStand [] x state

-- at first nothing was done
abbrev pub midway-first : {x : Parties} {s : State} {a : List Entry} (f : Action)
    → PartsStand [] x s → Midway x f f s a a
midway-first {x} {s} {a} f st = record {
  state = s;
  entries = [];
  is = refl;
  told_is = sym (append-nil a);
  stand = st;
}

-- the entries of a part come before those of the rest
pub then-told : (es : List Entry) (f g : Action) (t : State) → told_before es ((f ▸ g) t)
    ≡ told_before (es ++ (f t).entries) (g (f t).state)
unfolding machine_opened
then-told es f g t =
    ap (λ ts. record { state = (g (f t).state).state; entries = ts })
    (sym (append_assoc es (f t).entries (g (f t).state).entries))

-- the next part is done
abbrev pub midway-more : {x y : Parties} {whole : Action} {s : State} {a b c : List Entry}
    (f g : Action) → (m : Midway x whole (f ▸ g) s a b) → Does y f m.state b c
    → Midway y whole g s a c
midway-more {a = a} f g m d = record {
  state = (f m.state).state;
  entries = m.entries ++ (f m.state).entries;
  is = m.is ∙ then-told m.entries f g m.state;
  told_is = d.told_is ∙ ap (λ ts. ts ++ (f m.state).entries) m.told_is
      ∙ append_assoc a m.entries (f m.state).entries;
  stand = d.stand;
}

-- the rest does the same at the state that was reached
abbrev pub midway-here : {x : Parties} {whole f : Action} {s : State} {a b : List Entry}
    (g : Action) (m : Midway x whole f s a b) → f m.state ≡ g m.state → Midway x whole g s a b
midway-here g m same = record {
  state = m.state;
  entries = m.entries;
  is = m.is ∙ ap (told_before m.entries) same;
  told_is = m.told_is;
  stand = m.stand;
}

-- the rest is the same
abbrev pub midway-as : {x : Parties} {whole f : Action} {s : State} {a b : List Entry} (g : Action)
    → f ≡ g → Midway x whole f s a b → Midway x whole g s a b
midway-as g same m = midway-here g m (ap (λ (h : Action). h m.state) same)

-- nothing is left
pub midway-end : {x : Parties} {whole : Action} {s : State} {a b : List Entry}
    → Midway x whole nothing s a b → Does x whole s a b
unfolding machine_opened
midway-end {x} {whole} {s} {a} {b} m =
    does-is m.state m.entries (m.is ∙ ap (λ ts. record { state = m.state; entries = ts })
    (append-nil m.entries)) m.told_is m.stand

-- actions for each of a list: for the first, and for the rest
pub each-cons : {A : Type 0} (x : A) (xs : List A) (f : A → Action)
    → each (x ∷ xs) f ≡ f x ▸ each xs f
unfolding machine_opened
each-cons x xs f = refl

pub each-nil : {A : Type 0} (f : A → Action) → each [] f ≡ nothing
unfolding machine_opened
each-nil f = refl

-- ---- lists that are gone over

-- what is left at a place is the member there, and what is left behind it
pub drop-next : {A : Type 0} (xs : List A) (i : ℕ) (x : A) → i < length xs → x ≡ get_or xs i x
    → drop i xs ≡ x ∷ drop (i + 1) xs
drop-next xs i x within is =
    drop-cons xs i x within ∙ ap₂ (λ y n. y ∷ drop n xs) (sym is) (sym (add-one i))

-- and so it is of numbers, as the code has them
pub drop-number : (ns : List ℕ) (i : ℕ) → i < length ns
    → drop i ns ≡ slice_index_or ns i 0 ∷ drop (i + 1) ns
drop-number ns i within =
    let n = slice_index_or ns i 0 in
    drop-next ns i n within (sym (get_or_default_zero ns i n within))

-- and what is left of a list that is turned round, from which the last member is taken
pub reverse-last : {A : Type 0} (xs ys : List A) (x : A) → xs ≡ ys ++ x ∷ []
    → reverse xs ≡ x ∷ reverse ys
reverse-last xs ys x is = ap reverse is ∙ reverse-append ys (x ∷ [])
