-- How the operations of a transfer are read, word by word.
use Rattle.std.proofs.Common.{◌≡◌, ℕ, Option, List, []}
use Rattle.gb_base.specs.declared.event.Event.{Event}
use Rattle.gb_formats.specs.Said.{Rest, each_word}

-- What all words mean is what the front means, and the words that are left behind it.
abbrev pub HasRead : {A : Type 0} → (List ℕ → Option A) → Rest → List A → Rest → Type 0
HasRead {A} meaning all front rest =
    (make : List A → Event) → each_word meaning make front rest ≡ each_word meaning make [] all
