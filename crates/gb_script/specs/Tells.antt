-- What a read line says of the grammar.
use Rattle.std.specs.Prelude.{◌≡◌, ◌+◌, ℕ, List, [], ◌∷◌, ◌++◌, Option, Some, None, Result}
use Rattle.std.specs.Prelude.{Ok, Err, ⊤}
use Rattle.gb_base.specs.declared.bridge.BridgeAsk.{BridgeAsk}
use Rattle.gb_base.specs.declared.event.Event.{Event}
use Rattle.gb_base.specs.declared.event.Kind.{Kind}
use Rattle.gb_base.specs.declared.reasons.LineReason.{LineReason}
use Rattle.gb_formats.specs.Grammar.{Said, or_more_kinds}
use Rattle.gb_formats.specs.Said.{Rest, each_word, next_cport, next_word}
use Rattle.gb_script.specs.declared.line_fault.LineFault.{LineFault}
use Rattle.gb_script.specs.declared.line_fault.LineFault.TheVariants as fault

-- The answer is what the line says. Where memory is wanting it tells nothing.
abbrev pub Tells : Result (Option Event) LineFault → Said → Type 0
Tells (Ok event) said = said ≡ Ok event
Tells (Err (fault.Bad reason)) said = said ≡ Err reason
Tells (Err (fault.Memory refused)) said = ⊤

-- The next word fits: the line goes on with its meaning and the words behind.
abbrev pub GoesOn : {A : Type 0} → (List ℕ → Option A) → Rest → A → Rest → Type 0
GoesOn {A} meaning ws value rest =
    (later : A → Rest → Said) → next_word meaning ws later ≡ later value rest

-- The next word is missing or doesn't fit.
abbrev pub StopsWith : {A : Type 0} → (List ℕ → Option A) → Rest → LineReason → Type 0
StopsWith {A} meaning ws why = (later : A → Rest → Said) → next_word meaning ws later ≡ Err why

-- `I C` stands there: the line goes on with both and the words behind.
abbrev pub GoesOnAt : Rest → ℕ → ℕ → Rest → Type 0
GoesOnAt ws i c rest = (later : ℕ → ℕ → Rest → Said) → next_cport ws later ≡ later i c rest

-- `I C` is missing or doesn't fit.
abbrev pub StopsAt : Rest → LineReason → Type 0
StopsAt ws why = (later : ℕ → ℕ → Rest → Said) → next_cport ws later ≡ Err why

-- A kind stands there: the line goes on with it behind the kinds so far. Or no word is left.
abbrev pub GoesOnByKind : Rest → Option (Kind × Rest) → Type 0
GoesOnByKind ws None = ws.1 ≡ []
GoesOnByKind ws (Some f) = (more : List Kind → Rest → Said) (i : ℕ) (kinds : List Kind)
    → or_more_kinds more i kinds ws ≡ more (kinds ++ f.0 ∷ []) f.1

-- The word that stands there is no kind.
abbrev pub StopsAtKind : Rest → LineReason → Type 0
StopsAtKind ws why = (more : List Kind → Rest → Said) (i : ℕ) (kinds : List Kind)
    → or_more_kinds more i kinds ws ≡ Err why

-- the first of the words that are left, and those behind it
abbrev pub IsSplit : Rest → List ℕ → Rest → Type 0
IsSplit ws w rest = (ws.1 ≡ w ∷ rest.1) × (rest.0 ≡ ws.0 + 1)

-- A line stops by a fault: its reason is the one that the grammar has, or memory was wanting.
abbrev pub StopsBy : LineFault → (LineReason → Type 0) → Type 0
StopsBy (fault.Bad why) is_reason = is_reason why
StopsBy (fault.Memory refused) is_reason = ⊤

-- The answer is what the words of a bridged form ask, or why they are bad.
abbrev pub AsksFor : ((BridgeAsk → Event) → Rest → Said) → Rest → Result BridgeAsk LineFault
    → Type 0
AsksFor asking ws (Ok ask) = (make : BridgeAsk → Event) → asking make ws ≡ Ok (Some (make ask))
AsksFor asking ws (Err (fault.Bad reason)) =
    (make : BridgeAsk → Event) → asking make ws ≡ Err reason
AsksFor asking ws (Err (fault.Memory refused)) = ⊤

-- The answer is what all words that are left mean, or why one is bad.
abbrev pub EachWord : {A : Type 0} → (List ℕ → Option A) → Rest → Result (List A) LineFault → Type 0
EachWord {A} meaning ws (Ok values) =
    (make : List A → Event) → each_word meaning make [] ws ≡ Ok (Some (make values))
EachWord {A} meaning ws (Err (fault.Bad reason)) =
    (make : List A → Event) → each_word meaning make [] ws ≡ Err reason
EachWord {A} meaning ws (Err (fault.Memory refused)) = ⊤
