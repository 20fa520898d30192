-- A bridge line that is supported and not too large is answered by its request.
use Rattle.std.proofs.Common.{◌≡◌, ℕ, Bool, true, false, cond, refl, ap, ◌∙◌}
use Rattle.std.specs.Prelude.{Err, Ok, not, ◌==◌}
use Rattle.gb_base.specs.declared.bridge.BridgeAsk.{BridgeAsk}
use Rattle.gb_formats.specs.Bridges.{TooLarge, Unsupported, ask_protocol, ask_request}
use Rattle.gb_formats.specs.Bridges.{bridge_answer, is_too_large}

not-false : (t : Bool) → not t ≡ false → t ≡ true
not-false true e = refl
not-false false e = absurd cc

pub answered-by : (protocol : ℕ) (what : BridgeAsk) → not (ask_protocol what == protocol) ≡ false
    → is_too_large what ≡ false → bridge_answer protocol what ≡ Ok (ask_request what)
answered-by protocol what supported small =
    ap (λ t. cond t (cond (is_too_large what) (Err TooLarge) (Ok (ask_request what)))
    (Err Unsupported)) (not-false (ask_protocol what == protocol) supported)
    ∙ ap (λ t. cond t (Err TooLarge) (Ok (ask_request what))) small
