-- What a loopback device answers fits into a message where the request does.
use Rattle.std.proofs.Common.{◌≡◌, ◌≤◌, ◌+◌, ◌==◌, ℕ, Bool, true, false, cond, Some, None, Result}
use Rattle.std.proofs.Common.{Ok, Err, List, length, length-drop, drop, min, refl, arith}
use Rattle.std.proofs.lemmas.Bool.Decides.{nat_tests}
use Rattle.gb_formats.specs.LoopbackDevice.{loopback_read, loopback_step}
use Rattle.gb_formats.specs.LoopbackRecords.{LoopbackAsk, carried, loopback_asks, read_carried}
use Rattle.gb_formats.specs.LoopbackRecords.{read_loopback_ask}
use Rattle.gb_formats.specs.Records.{PayloadFault, read_row, read_table, row0, whole}
use Rattle.gb_formats.specs.Results.{most_payload}
use Rattle.gb_system.proofs.Fitting.{IsFitting, fitting, plain_fits}

-- what comes back has room
abbrev ComesBack : Result LoopbackAsk PayloadFault → Type 0
ComesBack (Ok (LoopbackAsk.Transfer first second bytes)) = 12 + length bytes ≤ most_payload
ComesBack _ = Unit {0}

carried_long : (first second : ℕ) (bytes : List ℕ)
    → length (carried first second bytes) ≡ 12 + length bytes
carried_long first second bytes = omega arith

read_fits : (read : Result LoopbackAsk PayloadFault) → ComesBack read
    → IsFitting (loopback_read read)
read_fits (Ok LoopbackAsk.Ping) back = plain_fits 0
read_fits (Ok (LoopbackAsk.Transfer first second bytes)) back =
    let long = carried_long first second bytes in
    fitting 0 (carried first second bytes) (omega (arith, long, back))
read_fits (Ok (LoopbackAsk.Sink first second bytes)) back = plain_fits 0
read_fits (Err fault) back = plain_fits _

-- a record of so many bytes, whatever is made of it
of_size : (size : ℕ) (payload : List ℕ) (made : LoopbackAsk)
    → (length payload ≡ size → ComesBack (Ok made)) → ComesBack (whole size payload made)
of_size size payload made back = by (length payload == size) refl
  where
    by : (test : Bool) → (length payload == size) ≡ test
        → ComesBack (cond test (Ok made) (Err (PayloadFault.Mismatch
        (min (length payload) (size + 1)))))
    by true is = back (grind (arith, nat_tests))
    by false is = tt

-- a transfer is as long as its payload
transfer_back : (n first second : ℕ) (payload : List ℕ) → length payload ≤ most_payload
    → ComesBack (whole (12 + n) payload (LoopbackAsk.Transfer first second (drop 12 payload)))
transfer_back n first second payload short =
    of_size (12 + n) payload (LoopbackAsk.Transfer first second (drop 12 payload)) (λ long.
    let rest = length-drop 12 payload in omega (arith, rest, long, short))

ping_back : (kind : ℕ) (payload : List ℕ) → ComesBack (read_table loopback_asks kind payload)
ping_back kind payload = by (0x02 == kind)
  where
    by : (test : Bool)
        → ComesBack (read_row (cond test (Some (row0 0x02 LoopbackAsk.Ping)) None) payload)
    by true = of_size 0 payload LoopbackAsk.Ping (λ long. tt)
    by false = tt

-- What a loopback device answers fits, and it asks nothing.
pub loopback_fits : (kind : ℕ) (payload : List ℕ) → length payload ≤ most_payload
    → IsFitting (loopback_step kind payload)
loopback_fits kind payload short =
    read_fits (read_loopback_ask kind payload) (by (kind == 0x03) (kind == 0x04))
  where
    by : (a b : Bool) → ComesBack (cond a (read_carried LoopbackAsk.Transfer payload)
        (cond b (read_carried LoopbackAsk.Sink payload) (read_table loopback_asks kind payload)))
    by true b = transfer_back _ _ _ payload short
    by false true = of_size _ payload _ (λ long. tt)
    by false false = ping_back kind payload
