-- The lines of `show`, of `share` and of `drive`.
use Rattle.std.specs.Prelude.{ℕ, ◌==◌, Bool, if◌then◌else◌, Option, Some, None, List, [], ◌∷◌, ◌++◌}
use Rattle.std.specs.Prelude.{codes}
use Rattle.std.specs.Fmt.{decimal}
use Rattle.gb_base.specs.declared.end.End.{End}
use Rattle.gb_base.specs.declared.entry.ConnState.{ConnState}
use Rattle.gb_base.specs.declared.entry.IntfStage.{IntfStage}
use Rattle.gb_base.specs.declared.name.Name.{Name}
use Rattle.gb_base.specs.declared.outcome.Outcome.{Outcome}
use Rattle.gb_base.specs.declared.outcome.Outcome.TheVariants as outcome
use Rattle.gb_formats.specs.Bytes.{byte_text, joined}
use Rattle.gb_formats.specs.Texts.{end_text, ended, stage_text, state_text}

-- ---- show, each line without its end

-- `now T`
abbrev pub now_line : ℕ → List ℕ
now_line now = joined (codes "now " ∷ decimal now ∷ [])

-- ` device D`, once the device id is known
abbrev pub device_text : Option ℕ → List ℕ
device_text None = []
device_text (Some d) = joined (codes " device " ∷ decimal d ∷ [])

-- `interface I STAGE`, with the device id
abbrev pub interface_line : ℕ → IntfStage → Option ℕ → List ℕ
interface_line i stage device =
    joined (codes "interface " ∷ decimal i ∷ codes " " ∷ stage_text stage ∷ device_text device ∷ [])

-- ` unclean`, where bytes were injected
abbrev pub unclean_text : Bool → List ℕ
unclean_text clean = if clean then [] else codes " unclean"

-- `connection K ap A END protocol PP STATE`, and whether it is unclean
abbrev pub connection_line : ℕ → ℕ → End → ℕ → ConnState → Bool → List ℕ
connection_line k ap peer protocol state clean =
    joined (codes "connection " ∷ decimal k ∷ codes " ap " ∷ decimal ap ∷ codes " " ∷ end_text peer
    ∷ codes " protocol " ∷ byte_text protocol ∷ codes " " ∷ state_text state
    ∷ unclean_text clean ∷ [])

-- `queue END COUNT`
abbrev pub queue_line : End → ℕ → List ℕ
queue_line at count = joined (codes "queue " ∷ end_text at ∷ codes " " ∷ decimal count ∷ [])

-- how the request of a name stands, without a payload
abbrev pub standing_text : Option Outcome → List ℕ
standing_text None = codes "open"
standing_text (Some (outcome.Answered result payload)) =
    joined (codes "answered " ∷ byte_text result ∷ [])
standing_text (Some outcome.Cancelled) = codes "cancelled"
standing_text (Some outcome.Timeout) = codes "timeout"
standing_text (Some outcome.Disconnected) = codes "disconnected"
standing_text (Some outcome.Sent) = codes "sent"

-- `@x #N OUTCOME`
abbrev pub naming_text : List ℕ → ℕ → Option Outcome → List ℕ
naming_text word n how =
    joined (codes "@" ∷ word ∷ codes " #" ∷ decimal n ∷ codes " " ∷ standing_text how ∷ [])

-- `R `, where the requester isn't 0
abbrev pub requester_text : ℕ → List ℕ
requester_text who = if who == 0 then [] else joined (decimal who ∷ codes " " ∷ [])

-- `name @x #N OUTCOME`, or `name R @x #N OUTCOME`
abbrev pub name_line : Name → ℕ → Option Outcome → List ℕ
name_line name n how =
    joined (codes "name " ∷ requester_text name.who ∷ naming_text name.word n how ∷ [])

-- ---- share

-- a place of the order: the requester, with `f` behind it where its line was answered Full
abbrev pub place_text : ℕ → Bool → List ℕ
place_text who full =
    joined (codes " " ∷ decimal who ∷ (if full then codes "f" else []) ∷ [])

-- the places of the order
abbrev pub places_text : List (ℕ × Bool) → List ℕ
places_text [] = []
places_text ((who, full) ∷ places) = place_text who full ++ places_text places

-- `order` and its places, with the line's end
abbrev pub order_text : List (ℕ × Bool) → List ℕ
order_text places = ended (codes "order" ++ places_text places)

-- `ticket R @NAME #N OUTCOME`
abbrev pub ticket_line : Name → ℕ → Option Outcome → List ℕ
ticket_line name n how =
    joined (codes "ticket " ∷ decimal name.who ∷ codes " " ∷ naming_text name.word n how ∷ [])

-- ---- drive

-- How many lines were refused, how many requests were made, and how they stand at the end.
pub record Counts : Type 0 where
  pub refused : ℕ
  pub requests : ℕ
  pub answered : ℕ
  pub cancelled : ℕ
  pub timeout : ℕ
  pub disconnected : ℕ
  pub sent : ℕ
  pub left_open : ℕ

-- The summary of a made script, with the line's end.
abbrev pub summary_text : ℕ → Counts → List ℕ
summary_text lines c =
    ended (joined (codes "lines " ∷ decimal lines ∷ codes " refused " ∷ decimal c.refused
    ∷ codes " requests " ∷ decimal c.requests ∷ codes " answered " ∷ decimal c.answered
    ∷ codes " cancelled " ∷ decimal c.cancelled ∷ codes " timeout " ∷ decimal c.timeout
    ∷ codes " disconnected " ∷ decimal c.disconnected ∷ codes " sent " ∷ decimal c.sent
    ∷ codes " open " ∷ decimal c.left_open ∷ []))
