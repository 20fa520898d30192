-- What writes leave.
use Rattle.std.proofs.Common.{ℕ, ◌++◌, Option, Some, None, List, [], append_assoc, append-nil, refl}
use Rattle.std.proofs.Common.{sym, ap, ◌∙◌}
use Rattle.std.specs.Io.KnownBytes.{Appends}
use Rattle.gbus.specs.Runs.{TakesFront}
use Rattle.gbus.specs.Writing.{TakesPart}

-- what was taken, and then more
pub appends_more : (a b c : Option (List ℕ)) (front piece : List ℕ) → Appends a b front
    → Appends b c piece → Appends a c (front ++ piece)
appends_more None b c front piece p q = tt
appends_more (Some x) None c front piece p q = absurd p
appends_more (Some x) (Some y) None front piece p q = absurd q
appends_more (Some x) (Some y) (Some z) front piece p q =
    q ∙ ap (λ l. l ++ piece) p ∙ append_assoc x front piece

-- all of a text is a front of it
pub all_taken : (taken after : Option (List ℕ)) (bytes : List ℕ) → Appends taken after bytes
    → TakesFront taken after bytes
all_taken taken after bytes h =
    record { front = bytes; rest = []; whole = sym (append-nil bytes); taken_is = h }

-- where nothing was written, nothing more was taken
pub nothing_more : (taken : Option (List ℕ)) → Appends taken taken []
nothing_more None = tt
nothing_more (Some x) = sym (append-nil x)

-- nothing is a front of any text
pub none_taken : (taken : Option (List ℕ)) (bytes : List ℕ) → TakesFront taken taken bytes
none_taken taken bytes =
    record { front = []; rest = bytes; whole = refl; taken_is = nothing_more taken }

-- a part of a text is a front of it
pub part_taken : (taken after : Option (List ℕ)) (bytes : List ℕ) → TakesPart taken after bytes
    → TakesFront taken after bytes
part_taken taken after bytes h =
    record { front = h.front; rest = h.rest; whole = h.whole; taken_is = h.taken_is }
