-- What is read of a script with requesters.
use Rattle.std.specs.Prelude.{◌≡◌, ◌≤◌, ℕ, Result, Ok, Err, List, [], ◌∷◌, ◌++◌, ⊤}
use Rattle.std.specs.List.{AllByRecursion}
use Rattle.gb_base.specs.declared.reasons.LineReason.{LineReason}
use Rattle.gb_base.specs.declared.parts.Asked.{Asked}
use Rattle.gb_base.specs.declared.parts.Parts.{Parts}
use Rattle.gb_formats.specs.Parts as formats
use Rattle.gb_formats.specs.Parts.{most_requesters}
use Rattle.gb_formats.specs.ValidEvents.{IsValid}
use Rattle.gb_script.specs.declared.line_fault.LineFault.{LineFault}
use Rattle.gb_script.specs.declared.line_fault.LineFault.TheVariants as fault
use Rattle.gb_script.specs.declared.requesters.Part.{Part}
use Rattle.gb_script.specs.declared.requesters.Part.TheVariants as part

-- what a line is to the definitions
abbrev pub part_seen : Part → formats.Part
part_seen part.Nothing = formats.Nothing
part_seen (part.Heading who) = formats.Heading who
part_seen (part.Asks e) = formats.Asks e

-- The answer is what the line is. Where memory is wanting it tells nothing.
abbrev pub TellsPart : Result Part LineFault → Result formats.Part LineReason → Type 0
TellsPart (Ok p) said = said ≡ Ok (part_seen p)
TellsPart (Err (fault.Bad why)) said = said ≡ Err why
TellsPart (Err (fault.Memory refused)) said = ⊤

-- The answer is the requester of a heading, or why the heading is bad.
abbrev pub TellsHeading : Result ℕ LineReason → Result formats.Part LineReason → Type 0
TellsHeading (Ok who) said = said ≡ Ok (formats.Heading who)
TellsHeading (Err why) said = said ≡ Err why

-- lines in front of others
abbrev pub in_front : List Asked → Parts → Parts
in_front front p = record { asked = front ++ p.asked; bad = p.bad }

-- A line was taken behind lines of requester `who`: what it and the lines behind it say is now what
-- those say, behind lines of requester `next`.
abbrev pub Takes : ℕ → ℕ → List ℕ → (front more : List Asked) → ℕ → Type 0
Takes number who line front more next = (later : ℕ → Parts)
    → in_front front (formats.parts_with number who (formats.part_of who line) later)
    ≡ in_front more (later next)

-- By cases on the answer. After want of memory nothing is said.
abbrev pub TakesAs : ℕ → ℕ → List ℕ → (front more : List Asked) → ℕ → Result Unit LineFault → Type 0
TakesAs number who line front more next (Ok _) = Takes number who line front more next
TakesAs number who line front more next (Err (fault.Bad why)) =
    (formats.part_of who line ≡ Err why) × (more ≡ front)
TakesAs number who line front more next (Err (fault.Memory refused)) = ⊤

-- Each line says an event that the machine may be given.
abbrev pub AreValidLines : List Asked → Type 0
AreValidLines asked = AllByRecursion (λ a. IsValid a.event) asked

-- The requesters of lines rise from this one on, and are at most 8.
abbrev pub AreRising : ℕ → List Asked → Type 0
AreRising least [] = ⊤
AreRising least (a ∷ more) = (least ≤ a.who) × (a.who ≤ most_requesters) × AreRising a.who more
