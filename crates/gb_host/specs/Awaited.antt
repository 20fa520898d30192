-- Which connections wait for which requests.
use Rattle.std.specs.Prelude.{◌≡◌, ◌==◌, ℕ, Bool, false, Option, Some, None, List, nat_eq}
use Rattle.std.specs.Prelude.{option_to_list}
use Rattle.std.specs.HashMap.{get}
use Rattle.gb_base.specs.declared.interface.Link.{Link}
use Rattle.gb_base.specs.declared.steps.SequenceStep.{SequenceStep}
use Rattle.gb_host.specs.Numbers.{numbers_where}
use Rattle.gb_host.specs.declared.awaited.Awaited.{Awaited}

-- what is waited for is request n
abbrev pub is_request : ℕ → Option (ℕ × SequenceStep) → Bool
is_request n None = false
is_request n (Some w) = w.0 == n

-- a connection waits for request n
abbrev pub waits_for : ℕ → Link → Bool
waits_for n l = is_request n l.awaits

-- Each request has the number of the connection that waits for it. One waits at most.
abbrev pub AreAwaited : Awaited → List Link → Type 0
AreAwaited x links =
    (n : ℕ) → option_to_list (get nat_eq x.connections n) ≡ numbers_where (waits_for n) links
