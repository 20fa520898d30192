-- The summary of a made script.
use Rattle.std.specs.Prelude.{◌≡◌, ℕ, zero, suc, ◌+◌, Bool, true, false, if◌then◌else◌, Option}
use Rattle.std.specs.Prelude.{Some, None, List, [], ◌∷◌, length}
use Rattle.gb_base.specs.declared.entry.Entry.{Entry}
use Rattle.gb_base.specs.declared.entry.Entry.TheVariants as entry
use Rattle.gb_base.specs.declared.event.Event.{Event}
use Rattle.gb_base.specs.declared.outcome.Outcome.{Outcome}
use Rattle.gb_base.specs.declared.outcome.Outcome.TheVariants as outcome
use Rattle.gb_formats.specs.Made.{made, made_lines}
use Rattle.gb_formats.specs.ShowTexts.{Counts, summary_text}
use Rattle.gb_machine.specs.Actions.{Told}
use Rattle.gb_machine.specs.Bus.{Bus, Request, outcome_of}
use Rattle.gb_machine.specs.Events.{last_state, trace}
use Rattle.gb_machine.specs.State.{first_state}

-- so many events of a made script, from the k-th on
unfoldable pub made_from : ℕ → ℕ → ℕ → List Event
made_from seed k zero = []
made_from seed k (suc left) = made seed k ∷ made_from seed (k + 1) left

-- The events of a made script.
abbrev pub made_events : ℕ → List Event
made_events seed = made_from seed 1 made_lines

-- an event was refused
abbrev pub is_refused : List Entry → Bool
is_refused (entry.Refused why ∷ es) = true
is_refused _ = false

-- how many events were refused
abbrev pub refused_in : List Told → ℕ
refused_in [] = 0
refused_in (t ∷ ts) =
    let later = refused_in ts in if is_refused t.entries then later + 1 else later

-- a request was answered
abbrev pub is_answered : Option Outcome → Bool
is_answered (Some (outcome.Answered result payload)) = true
is_answered _ = false

-- a request was cancelled
abbrev pub is_cancelled : Option Outcome → Bool
is_cancelled (Some outcome.Cancelled) = true
is_cancelled _ = false

-- a request timed out
abbrev pub is_timed_out : Option Outcome → Bool
is_timed_out (Some outcome.Timeout) = true
is_timed_out _ = false

-- a request was disconnected
abbrev pub is_disconnected : Option Outcome → Bool
is_disconnected (Some outcome.Disconnected) = true
is_disconnected _ = false

-- a unidirectional request was sent
abbrev pub is_sent : Option Outcome → Bool
is_sent (Some outcome.Sent) = true
is_sent _ = false

-- a request hasn't ended
abbrev pub is_unended : Option Outcome → Bool
is_unended None = true
is_unended (Some how) = false

-- how many requests of a list stand so, the first being request n
abbrev pub standing_from : ℕ → (Option Outcome → Bool) → Bus → List Request → ℕ
standing_from n test b [] = 0
standing_from n test b (r ∷ rs) =
    let later = standing_from (n + 1) test b rs in
    if test (outcome_of n b) then later + 1 else later

-- How many requests stand so.
abbrev pub standing : (Option Outcome → Bool) → Bus → ℕ
standing test b = standing_from 1 test b b.requests

-- the counts of a run: how many events were refused, and how its requests stand at the end.
abbrev pub counts_at : ℕ → Bus → Counts
counts_at refused b = record {
  refused = refused;
  requests = length b.requests;
  answered = standing is_answered b;
  cancelled = standing is_cancelled b;
  timeout = standing is_timed_out b;
  disconnected = standing is_disconnected b;
  sent = standing is_sent b;
  left_open = standing is_unended b;
}

-- The counts of a run.
abbrev pub counts : List Told → Counts
counts ts = counts_at (refused_in ts) (last_state first_state ts).bus

-- The summary of the script that is made from a seed.
abbrev pub summary : ℕ → List ℕ
summary seed = summary_text made_lines (counts (trace (made_events seed)))

-- ---- the law of the counts

-- the requests are those that were answered, were cancelled, timed out, were disconnected, were
-- unidirectional, and those that are open
abbrev pub IsSum : Counts → Type 0
IsSum c =
    c.requests ≡ c.answered + c.cancelled + c.timeout + c.disconnected + c.sent + c.left_open

-- In every run each request is counted once.
abbrev pub CountsAddUp : Type 0
CountsAddUp = (es : List Event) → IsSum (counts (trace es))
