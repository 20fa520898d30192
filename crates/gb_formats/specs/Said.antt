-- How a line is read: word by word from the left, until one is missing, doesn't fit or is too many.
use Rattle.std.specs.Prelude.{ℕ, ◌+◌, Option, Some, None, Result, Ok, Err, List, [], ◌∷◌, ◌++◌}
use Rattle.gb_base.specs.declared.event.Event.{Event}
use Rattle.gb_base.specs.declared.reasons.LineReason.{LineReason}
use Rattle.gb_base.specs.declared.reasons.LineReason.TheVariants as bad
use Rattle.gb_formats.specs.WordValues.{intf_word, cport_word}

-- What a line says: nothing, an event, or why it is bad.
abbrev pub Said : Type 0
Said = Result (Option Event) LineReason

-- The words of a line that are left, and the place of the first of them.
abbrev pub Rest : Type 0
Rest = ℕ × List (List ℕ)

-- The word at this place has a meaning, with which the line goes on, or it doesn't fit.
abbrev pub by_meaning : {A : Type 0} → ℕ → Option A → (A → Said) → Said
by_meaning place None later = Err (bad.BadWord place)
by_meaning place (Some value) later = later value

-- A word must stand there and fit; the line goes on with its meaning and the words behind.
abbrev pub next_word : {A : Type 0} → (List ℕ → Option A) → Rest → (A → Rest → Said) → Said
next_word meaning (place, []) later = Err (bad.MissingWord place)
next_word meaning (place, w ∷ ws) later =
    by_meaning place (meaning w) (λ value. later value (place + 1, ws))

-- A word must stand there, and decides how the line goes on.
abbrev pub by_word : Rest → (List ℕ → Rest → Said) → Said
by_word ws later = next_word Some ws later

-- The word that stands there is bad.
abbrev pub bad_word : Rest → Said
bad_word ws = Err (bad.BadWord ws.0)

-- `I C`
abbrev pub next_cport : Rest → (ℕ → ℕ → Rest → Said) → Said
next_cport ws later =
    next_word intf_word ws (λ i ws. next_word cport_word ws (λ c ws. later i c ws))

-- No word may be left: the line says the event.
abbrev pub at_end : Rest → Event → Said
at_end (place, []) e = Ok (Some e)
at_end (place, w ∷ ws) e = Err (bad.ExtraWord place)

-- Each word that is left must fit; the line says the event of all their meanings in order.
abbrev pub each_word : {A : Type 0} → (List ℕ → Option A) → (List A → Event) → List A → Rest → Said
each_word meaning event front (place, []) = Ok (Some (event front))
each_word meaning event front (place, w ∷ ws) =
    by_meaning place (meaning w) (λ value.
    each_word meaning event (front ++ value ∷ []) (place + 1, ws))
