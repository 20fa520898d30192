-- What a responder answers to a request.
use Rattle.std.specs.Prelude.{ℕ, List, []}
pub use Rattle.gb_formats.specs.Results.{invalid, nonexistent, protocol_bad, success}

-- An answer: the result byte and the payload.
pub record Answer : Type 0 where
  pub result : ℕ
  pub payload : List ℕ

-- an answer with a payload
abbrev pub answer : ℕ → List ℕ → Answer
answer result payload = record { result = result; payload = payload }

-- an answer of a result alone
abbrev pub plainly : ℕ → Answer
plainly result = answer result []
