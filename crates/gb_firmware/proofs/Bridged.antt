-- What a bridge line that carries bytes becomes.
use Rattle.std.proofs.Common.{◌≡◌, ◌≤◌, ◌+◌, ◌==◌, ◌||◌, ℕ, Bool, true, false, nat_lt, cond, Ok}
use Rattle.std.proofs.Common.{Err, List, length, refl, arith, ap, sym, ◌∙◌}
use Rattle.std.proofs.lemmas.Bool.Decides.{nat_tests}
use Rattle.gb_base.specs.declared.bridge.BridgeAsk.TheVariants as ask
use Rattle.gb_bridge_payload.specs.Serving.{WritesBridged}
use Rattle.gb_formats.specs.Bridges.{TooLarge, bridge_answer, loopback_request, of_loopback}
use Rattle.gb_formats.specs.LoopbackRecords.{LoopbackAsk, loopback_ask_kind, loopback_ask_payload}
use Rattle.gb_formats.specs.Protocols.{loopback_protocol}
use Rattle.gb_formats.specs.Results.{most_payload}
use Rattle.gb_payload.specs.Fields.{Puts}

-- how long its payload is
request_long : (kind : ℕ) (bytes : List ℕ)
    → length (loopback_ask_payload (loopback_request kind bytes)) ≡ 12 + length bytes
request_long kind bytes = by (kind == 0x03)
  where
    by : (b : Bool) → length (loopback_ask_payload
        (cond b (LoopbackAsk.Transfer 0 0 bytes) (LoopbackAsk.Sink 0 0 bytes)))
        ≡ 12 + length bytes
    by true = omega arith
    by false = omega arith

or_false : (b : Bool) → (b || false) ≡ b
or_false true = refl
or_false false = refl

-- no more than a message has room for
pub bridged : (kind n : ℕ) (bytes old new : List ℕ) (request : LoopbackAsk)
    → request ≡ loopback_request kind bytes → length bytes ≤ 2028
    → Puts (loopback_ask_payload request) old new (Ok n)
    → (told : ℕ × List ℕ)
    × (bridge_answer loopback_protocol (ask.LoopBytes kind bytes) ≡ Ok told)
    × WritesBridged told old new (record { kind = loopback_ask_kind request; len = n })
bridged kind n bytes old new request is h puts =
    let long = request_long kind bytes in
    let fits : nat_lt most_payload
    (length (loopback_ask_payload (loopback_request kind bytes))) ≡ false =
    grind (arith, nat_tests) in (
      of_loopback request,
      ap (λ test. cond test (Err TooLarge) (Ok (of_loopback (loopback_request kind bytes))))
          (or_false _ ∙ fits) ∙ ap (λ r. Ok (of_loopback r)) (sym is),
      record { kind = refl; len = puts.0; bytes = puts.2 },
    )
