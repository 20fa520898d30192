-- What is shown, by what the parties tell of themselves.
use Rattle.std.specs.Prelude.{◌≡◌, ℕ, Bool, true, is_some, List, map}
use Rattle.gb_base.specs.declared.entry.Entry.{Entry}
use Rattle.gb_base.specs.declared.entry.Entry.TheVariants as entry
use Rattle.gb_base.specs.declared.name.Name.{Name}
use Rattle.gb_bus.specs.Naming.{asked_for}
use Rattle.gb_bus.specs.declared.overview.Known.{Known}
use Rattle.gb_bus.specs.declared.overview.Waiting.{Waiting}
use Rattle.gb_formats.specs.ShowTexts.{connection_line, queue_line}
use Rattle.gb_machine.specs.Bus.{Bus}
use Rattle.gb_machine.specs.Host.{Host, link_of}
use Rattle.gb_machine.specs.Members.{Each}
use Rattle.gb_machine.specs.Names.{name_before}
use Rattle.gb_machine.specs.Show.{state_of}

-- the order of names with their requests
abbrev pub pair_before : Name × ℕ → Name × ℕ → Bool
pair_before p q = name_before p.0 q.0

-- something asks for the request of each of these names, where these are all that are named
abbrev pub AreTold : List ℕ → List (Name × ℕ) → Bus → Type 0
AreTold numbers names b = Each (λ p. is_some (asked_for numbers p.1 b) ≡ true) names

-- the line of a connection
abbrev pub known_shown : Host → Known → List ℕ
known_shown h k =
    connection_line k.number k.ap k.peer k.protocol (state_of (link_of k.number h)) k.clean

-- the line of a queue
abbrev pub waiting_shown : Waiting → List ℕ
waiting_shown w = queue_line w.at w.count

-- the entries of lines
abbrev pub lines : List (List ℕ) → List Entry
lines texts = map entry.Shown texts
