-- Answers that fit into messages.
use Rattle.std.proofs.Common.{◌≤◌, ℕ, List, [], length, arith}
use Rattle.gb_base.specs.declared.served.Served.{Served}
use Rattle.gb_formats.specs.Results.{most_payload}
use Rattle.gb_system.specs.Acting.{AreAskable}

-- An answer and the requests of its own that go with it fit into messages.
pub record IsFitting (served : Served) : Type 0 where
  pub payload : length served.payload ≤ most_payload
  pub asks : AreAskable served.asks

-- a short payload fits
pub fitting : (result : ℕ) (payload : List ℕ) → length payload ≤ most_payload
    → IsFitting (record { result = result; payload = payload; asks = [] })
fitting result payload h = record { payload = h; asks = tt }

pub plain_fits : (result : ℕ) → IsFitting (record { result = result; payload = []; asks = [] })
plain_fits result = fitting result [] (omega arith)
