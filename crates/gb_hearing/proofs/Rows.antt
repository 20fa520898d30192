-- Worked scripts with what the application processor hears in them, and what the audit finds.
use Rattle.std.proofs.Common.{◌≡◌, ℕ, Some, None, Ok, Err, List, [], ◌∷◌, ◌++◌, codes, cond}
use Rattle.std.proofs.Common.{map, refl}
use Rattle.gb_base.specs.declared.audit.Finding.TheVariants as finding
use Rattle.gb_base.specs.declared.event.Event.{Event}
use Rattle.gb_formats.specs.Audit.{findings}
use Rattle.gb_formats.specs.Bytes.{hex_text}
use Rattle.gb_formats.specs.Grammar as grammar
use Rattle.gb_formats.specs.Message.{spelling}
use Rattle.gb_formats.specs.Script.{judged}
use Rattle.gb_hearing.specs.Hearing.{Spoken, capture_by, heard_by}
use Rattle.gb_machine.proofs.Scripts.{report_opened, setup}
use Rattle.gb_machine.specs.Runs.{deliveries}

-- the event of a line, in front of others
abbrev event_of : grammar.Said → List Event → List Event
event_of (Ok (Some e)) es = e ∷ es
event_of (Ok None) es = es
event_of (Err why) es = es

-- the events of lines
abbrev events : List (List ℕ) → List Event
events [] = []
events (line ∷ ls) = event_of (judged 0 line) (events ls)

-- a message as a line of a capture
abbrev line_of : Spoken → List ℕ
line_of x = cond x.0 (codes "> ") (codes "< ") ++ hex_text (spelling x.1)

-- what is heard of connection k in a script, as a capture
abbrev capture : ℕ → List (List ℕ) → List (List ℕ)
capture k script = map line_of (heard_by k (events script))

-- requests of the supervisory controller, which are answered where they are taken
pub booted : capture 1 (codes "boot" ∷ codes "settle 9" ∷ [])
    ≡ (codes "< 0a000100010000000001"
    ∷ codes "> 0a000100810000000001"
    ∷ codes "< 0b00020002000000010001"
    ∷ codes "> 0800020082000000" ∷ [])
unfolding report_opened deliveries
booted = refl

-- a request is heard where it is made, and the response to it where it is taken, late or not
pub answered : capture 3 (setup (codes "insert 2 gpio")
    ++ (codes "hold 2 1"
    ∷ codes "gpio @a 2 1 activate 0"
    ∷ codes "gpio @b 2 1 get 0"
    ∷ codes "settle 2"
    ∷ codes "cancel @a"
    ∷ codes "answer 2 1 2"
    ∷ codes "answer 2 1 1"
    ∷ codes "deliver ap 2"
    ∷ codes "gpio @c 2 1 get 1"
    ∷ codes "deliver ap 2" ∷ []))
    ≡ (codes "> 090001000300000000"
    ∷ codes "> 090002000800000000"
    ∷ codes "< 0800020088060000"
    ∷ codes "> 090003000800000001"
    ∷ codes "< 0800010083000000" ∷ [])
unfolding report_opened deliveries
answered = refl

-- where bytes are injected, a response may be found to which there was no request
pub injected : findings (capture_by 3 (events (setup (codes "insert 2 gpio")
    ++ (codes "inject 2 1 0800090083000000"
    ∷ codes "deliver ap 2" ∷ []))))
    ≡ (1, finding.Orphan) ∷ []
unfolding report_opened deliveries
injected = refl
