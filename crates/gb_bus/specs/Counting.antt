-- How many requests there are, and how they stand.
use Rattle.std.specs.Prelude.{◌≡◌, ℕ, ◌+◌, ◌-◌, Option, Some, None, length}
use Rattle.gb_base.specs.declared.outcome.Outcome.{Outcome}
use Rattle.gb_base.specs.declared.outcome.Outcome.TheVariants as outcome
use Rattle.gb_bus.specs.declared.tally.Tally.{Tally}
use Rattle.gb_machine.specs.Bus as machine
use Rattle.gb_machine.specs.Summary.{is_answered, is_cancelled, is_disconnected, is_sent}
use Rattle.gb_machine.specs.Summary.{is_timed_out, is_unended, standing}

-- no request
abbrev pub no_requests : Tally
no_requests = record {
  requests = 0;
  answered = 0;
  cancelled = 0;
  timeout = 0;
  disconnected = 0;
  sent = 0;
  left_open = 0;
}

-- one more request is counted where it belongs
abbrev pub with_counted : Option Outcome → Tally → Tally
with_counted None s = record s { left_open = s.left_open + 1 }
with_counted (Some (outcome.Answered result payload)) s = record s { answered = s.answered + 1 }
with_counted (Some outcome.Cancelled) s = record s { cancelled = s.cancelled + 1 }
with_counted (Some outcome.Timeout) s = record s { timeout = s.timeout + 1 }
with_counted (Some outcome.Disconnected) s = record s { disconnected = s.disconnected + 1 }
with_counted (Some outcome.Sent) s = record s { sent = s.sent + 1 }

-- one more request
abbrev pub with_one : Option Outcome → Tally → Tally
with_one how s = with_counted how (record s { requests = s.requests + 1 })

-- an open request ended so
abbrev pub one_ended : Outcome → Tally → Tally
one_ended how s = with_counted (Some how) (record s { left_open = s.left_open - 1 })

-- each request is counted once behind the first count
abbrev pub counted_once : Tally → ℕ
counted_once s =
    s.answered + (s.cancelled + (s.timeout + (s.disconnected + (s.sent + s.left_open))))

-- The requests of a bus are so many, and stand so.
pub record Tells (s : Tally) (b : machine.Bus) : Type 0 where
  pub requests : s.requests ≡ length b.requests
  pub answered : s.answered ≡ standing is_answered b
  pub cancelled : s.cancelled ≡ standing is_cancelled b
  pub timeout : s.timeout ≡ standing is_timed_out b
  pub disconnected : s.disconnected ≡ standing is_disconnected b
  pub sent : s.sent ≡ standing is_sent b
  pub left_open : s.left_open ≡ standing is_unended b
