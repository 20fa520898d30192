-- Lines of a capture: the message of each, or why it has none.
use Rattle.std.proofs.Common.{◌≡◌, ℕ, true, false, List, [], ◌∷◌, refl}
use Rattle.std.specs.Prelude.{Some, None, Ok, Err, ◌++◌, map, codes}
use Rattle.hex.specs.Hex.{decode_pairs}
use Rattle.gb_base.specs.declared.reasons.CaptureFault.TheVariants as capture
use Rattle.gb_base.specs.declared.reasons.WireFault.TheVariants as wire
use Rattle.gb_formats.specs.Captures.{Captured, captured}
use Rattle.gb_formats.specs.Message.{request, response}

-- Words come before the message, and bytes before the words. Pads have any value.
abbrev pub capture_lines : List (List ℕ × Captured)
capture_lines =
    ([], Ok None)
    ∷ (codes "  ", Ok None)
    ∷ (codes "# > 08", Ok None)
    ∷ (codes " #x", Ok None)
    ∷ (codes "> 0800010013000000", Ok (Some (true, request 1 0x13 [])))
    ∷ (codes "  <  0900010093000709fF ", Ok (Some (false, response 1 0x13 0 (255 ∷ []))))
    ∷ (codes "< 0800ffff80fe0000", Ok (Some (false, response 65535 0 254 [])))
    ∷ (codes "> 0800000002000000", Ok (Some (true, request 0 2 [])))
    ∷ (codes "0800010013000000", Err (capture.BadWord 1))
    ∷ (codes ">0800010013000000", Err (capture.BadWord 1))
    ∷ (codes ">> 0800010013000000", Err (capture.BadWord 1))
    ∷ (codes ">", Err (capture.MissingWord 2))
    ∷ (codes "<", Err (capture.MissingWord 2))
    ∷ (codes "> 080", Err (capture.BadWord 2))
    ∷ (codes "< 0x", Err (capture.BadWord 2))
    ∷ (codes "> 0800010013000000 0", Err (capture.ExtraWord 3))
    ∷ (codes "< 07 #", Err (capture.ExtraWord 3))
    ∷ (9 ∷ [], Err (capture.BadByte 1))
    ∷ (codes "# caf" ++ 233 ∷ [], Err (capture.BadByte 6))
    ∷ (codes "x 08" ++ 13 ∷ [], Err (capture.BadByte 5))
    ∷ (codes "> -", Err (capture.Wire (wire.Short 8)))
    ∷ (codes "< 08000100130000", Err (capture.Wire (wire.Short 8)))
    ∷ (codes "> 0700010013000000", Err (capture.Wire (wire.SizeBelowEight 7)))
    ∷ (codes "> 0900010013000000", Err (capture.Wire (wire.Short 9)))
    ∷ (codes "> ffff010013000000", Err (capture.Wire (wire.Short 65535)))
    ∷ (codes "> 0800010013050000", Err (capture.Wire (wire.RequestResult 5)))
    ∷ (codes "> 080001001305000000", Err (capture.Wire (wire.RequestResult 5)))
    ∷ (codes "< 08000100930000000000", Err (capture.Extra 2))
    ∷ []

pub capture_lines-captured : map (λ row. captured row.0) capture_lines
    ≡ map (λ row. row.1) capture_lines
unfolding decode_pairs
capture_lines-captured = refl
