-- Which lines of a requester find no slot, where it runs them alone.
use Rattle.std.specs.Prelude.{◌≡◌, ◌<◌, ◌≤◌, ℕ, true, Some, List, length}
use Rattle.gb_desk.specs.Rules.{all_parts}
use Rattle.gb_desk.specs.declared.view.View.{View}
use Rattle.gb_machine.specs.Journal.{events_of}
use Rattle.gb_machine.specs.Shared.{done_in, state_after}
use Rattle.gb_machine.specs.State.{first_state}
use Rattle.gb_share.specs.Doing.{stands_in}
use Rattle.gb_share.specs.Fulls.{AreExact}
use Rattle.gb_share.specs.Names.{AreNames}
use Rattle.gb_share.specs.Placing.{marked}
use Rattle.gb_share.specs.declared.hand.Held.{Held}
use Rattle.gb_share.specs.declared.requester.Requester.{Requester}
use Rattle.gb_system.specs.Stands.{Stands}
use Rattle.gb_system.specs.declared.system.System.{System}

-- all of the history that a pass has seen is its own
abbrev pub HasAll : View → Type 0
HasAll v = (n : ℕ) → n < length v.seen → stands_in n v.mine ≡ true

-- The history is what the requester has run, and the names are those of the machine after it.
pub record HasRunAlone (x : Requester) (v : View) (hs : List Held) : Type 0 where
  pub seen : events_of v.seen ≡ done_in (marked x.lines x.full)
  pub names : AreNames (state_after (marked x.lines x.full)) hs
  pub exact : AreExact (marked x.lines x.full)

-- A pass with all parts was used by one requester alone, on a desk whose first system stands for
-- the machine's first state. It has no more tickets than the requester has run lines.
pub record IsAlone (x : Requester) (v : View) (hs : List Held) : Type 0 where
  pub parts : v.parts ≡ all_parts
  pub few : length v.tickets ≤ length x.full
  pub ran : (z : System) → v.first ≡ Some z → Stands z first_state → HasAll v
      → HasRunAlone x v hs

-- A requester's lines are exact, where all of the history that a pass has seen is its own.
abbrev pub IsExact : Requester → View → Type 0
IsExact x w = (z : System) → w.first ≡ Some z → Stands z first_state → HasAll w
    → AreExact (marked x.lines x.full)
