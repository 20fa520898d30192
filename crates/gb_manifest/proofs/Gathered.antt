-- Descriptors that were passed, and those that a walk has before it.
use Rattle.std.proofs.Common.{◌≡◌, List, [], ◌∷◌, ◌++◌, Result, Ok, Err, refl, sym, ap, ◌∙◌}
use Rattle.std.proofs.Common.{append_assoc, append-nil}
use Rattle.gb_formats.specs.Manifest.{in_front}
use Rattle.gb_formats.specs.ManifestRules.{Placed, Refused}

-- these, and then those of the walk
abbrev pub behind : List Placed → Result (List Placed) Refused → Result (List Placed) Refused
behind before (Ok ds) = Ok (before ++ ds)
behind before (Err why) = Err why

pub behind-none : (walk : Result (List Placed) Refused) → walk ≡ behind [] walk
behind-none (Ok ds) = refl
behind-none (Err why) = refl

pub behind-more : (before : List Placed) (d : Placed) (walk : Result (List Placed) Refused)
    → behind before (in_front d walk) ≡ behind (before ++ d ∷ []) walk
behind-more before d (Ok ds) = ap (λ xs. Ok xs) (sym (append_assoc before (d ∷ []) ds))
behind-more before d (Err why) = refl

-- one descriptor was passed
pub behind_passed : (before : List Placed) (d : Placed) (all old new : Result (List Placed) Refused)
    → all ≡ behind before old → old ≡ in_front d new → all ≡ behind (before ++ d ∷ []) new
behind_passed before d all old new e p = e ∙ ap (λ r. behind before r) p ∙ behind-more before d new

-- all were passed
pub behind_ended : (before : List Placed) (all walk : Result (List Placed) Refused)
    → all ≡ behind before walk → walk ≡ Ok [] → all ≡ Ok before
behind_ended before all walk e ended =
    e ∙ ap (λ r. behind before r) ended ∙ ap (λ xs. Ok xs) (append-nil before)
