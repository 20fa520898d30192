-- The rule holds of a new desk.
use Rattle.std.proofs.Common.{◌≡◌, ℕ, zero, suc, ◌+◌, ◌≤◌, false, List, [], ◌∷◌, length}
use Rattle.std.proofs.Common.{refl, sym, ap, subst, arith, Option, Some, None}
use Rattle.std.proofs.lemmas.List.{length-replicate}
use Rattle.std.specs.Prelude.{replicate, slice_index}
use mathlib.Core.Option.{some, some-injective, some-ne-none}
use lib.ListN.{get_elem?}
use Rattle.atomic_table.specs.Table.{opening}
use Rattle.gb_desk.specs.Calls.{first_view}
use Rattle.gb_desk.specs.Rules.{Fits, Kept, home_of}
use Rattle.gb_desk.specs.Slots.{SlotsStand, numbers_of, slot_at, times}
use Rattle.gb_desk.specs.declared.slots.Slot.{Slot}
use Rattle.gb_desk.specs.declared.stored.Stored.{Stored}
use Rattle.gb_desk.specs.declared.view.View.{View}
use Rattle.gb_machine.specs.Members.{IsIn}
use Rattle.gb_machine.specs.State as machine
use Rattle.gb_system.specs.declared.system.System.{System}

-- what is shared at first
abbrev pub shared_first : System → Stored
shared_first x = record {
  system = x;
  journal = [];
  slots = replicate 256 None;
  broken = None;
}

fits_first : (x : System) → Fits x (shared_first x) (first_view x)
fits_first x = record {
  seen = ([], refl);
  beside = ([], refl);
  told = λ told. absurd (cc told);
  tickets = λ t i. absurd i;
  enough = omega arith;
  clear = λ i is. absurd (cc is);
  first = λ _. refl;
  out = λ y is. absurd (cc is);
  idle = λ none. absurd (omega arith);
}

each_first : (x : System) (j : ℕ) (v : View) → get_elem? (first_view x ∷ []) j ≡ some v
    → Fits x (shared_first x) v
each_first x zero v at =
    subst (Fits x (shared_first x)) (some-injective (first_view x) v at) (fits_first x)
each_first x (suc j) v at = absurd (some-ne-none v (sym at))

clear_first : (x : System) (j : ℕ) (v : View) (i : ℕ) → get_elem? (first_view x ∷ []) j ≡ some v
    → v.clear ≡ Some i → ⊥
clear_first x zero v i at is =
    let none = ap (λ (w : View). w.clear) (some-injective (first_view x) v at) in cc (none, is)
clear_first x (suc j) v i at is = some-ne-none v (sym at)

-- slots that no request had yet
empty_slot : (n i : ℕ) (y : Slot) → slot_at i (replicate n None) ≡ Some y → ⊥
empty_slot zero i y is = absurd cc
empty_slot (suc n) zero y is = absurd cc
empty_slot (suc n) (suc i) y is = empty_slot n i y is

empty_numbers : (n : ℕ) → numbers_of (replicate n None) ≡ []
empty_numbers zero = refl
empty_numbers (suc n) = empty_numbers n

stand_first : (n : ℕ) (t : machine.State) → SlotsStand t [] (replicate n None)
stand_first n t = record {
  twoway = λ m i. absurd i;
  told = λ i y there. absurd (empty_slot n i y there);
  made_in = λ m i. subst (IsIn m) (empty_numbers n) i;
  once = λ m. subst (λ ns. times m ns ≤ 1) (sym (empty_numbers n)) (omega arith);
  all = λ m i free. absurd i;
}

-- words that are all 0
zero_word : (n i : ℕ) → slice_index (replicate n 0) i ≡ 0
zero_word zero i = refl
zero_word (suc n) zero = refl
zero_word (suc n) (suc i) = zero_word n i

pub begins : (x : System) (words : List ℕ) → length words ≡ 257
    → ((i : ℕ) → slice_index words i ≡ 0)
    → Kept x (opening words (shared_first x ∷ []) (first_view x))
begins x words long zeros = record {
  current = shared_first x;
  words = long;
  word = (let none = zeros 0 in omega arith);
  turns = sym (zeros 0);
  home = ap (λ n. home_of n (shared_first x) ∷ []) (sym (zeros 0));
  sound = record {
    follows = λ s stands. record {
      legal = refl;
      run = stands.run;
      slots = stand_first 256 s;
      stands = λ _. stands;
    };
    long = length-replicate {A = Option Slot} 256 None;
    taken = λ _. omega arith;
    room = λ broken. absurd (cc broken);
  };
  each = each_first x;
  counts = λ i within. zeros (i + 1);
  clear = λ j v i at is. absurd (clear_first x j v i at is);
  parts = refl;
  places = λ n. refl;
  told = λ broken. absurd (cc broken);
}

-- the words of a new desk
pub first_words : (n : ℕ) → (length {A = ℕ} (replicate n 0) ≡ n)
    × ((i : ℕ) → slice_index (replicate n 0) i ≡ 0)
first_words n = (length-replicate {A = ℕ} n 0, zero_word n)
