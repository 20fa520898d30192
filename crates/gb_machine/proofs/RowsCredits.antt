-- A worked script with what it reports: the credits of a UART.
use Rattle.std.proofs.Common.{◌≡◌, ℕ, Bool, true, false, List, [], ◌∷◌, codes, filter, map}
use Rattle.std.proofs.Common.{replicate, refl}
use Rattle.gb_base.specs.declared.bridge.BridgeAsk.TheVariants as ask
use Rattle.gb_base.specs.declared.entry.Entry.{Entry}
use Rattle.gb_base.specs.declared.entry.Entry.TheVariants as entry
use Rattle.gb_base.specs.declared.event.Event.{Event}
use Rattle.gb_base.specs.declared.event.Event.TheVariants as event
use Rattle.gb_formats.specs.Texts.{entries_text}
use Rattle.gb_formats.specs.WordValues.{name_of}
use Rattle.gb_machine.proofs.Scripts.{after, report_opened, setup, text}
use Rattle.gb_machine.specs.Actions.{Told}
use Rattle.gb_machine.specs.Events.{trace_from}
use Rattle.gb_machine.specs.State.{first_state}

-- so many bytes are sent to the UART
abbrev sends_bytes : List ℕ → ℕ → ℕ → Event
sends_bytes name byte count =
    event.Bridge (name_of 0 name) 2 1 (ask.UartSend (replicate count byte))

-- data that came isn't told
abbrev without_data : Entry → Bool
without_data (entry.Received i c bytes) = false
without_data _ = true

abbrev short : Told → List ℕ
short told = entries_text 1 false (filter without_data told.entries)

-- three sends take all credits, and the echoes bring them back
pub credits : map short (trace_from (after first_state (setup (codes "insert 2 uart")))
    (sends_bytes (codes "@a") 171 2037 ∷ sends_bytes (codes "@b") 205 2037 ∷ sends_bytes
    (codes "@c") 239 22
    ∷ sends_bytes (codes "@d") 0 1 ∷ event.Settle 100 ∷ sends_bytes (codes "@d") 0 1 ∷ sends_bytes
    (codes "@e") 0 2038 ∷ []))
    ≡ text (codes "line 1 ok" ∷ codes "ask #16 ap 2 > 2 1 type 02 size 2047" ∷ [])
    ∷ text (codes "line 1 ok" ∷ codes "ask #17 ap 2 > 2 1 type 02 size 2047" ∷ [])
    ∷ text (codes "line 1 ok" ∷ codes "ask #18 ap 2 > 2 1 type 02 size 32" ∷ [])
    ∷ text (codes "line 1 refused NoCredit" ∷ [])
    ∷ text (codes "line 1 ok"
    ∷ codes "reply #16 2 1 > ap 2 result 00 size 8"
    ∷ codes "ask #19 2 1 > ap 2 type 03 size 2048"
    ∷ codes "ask #20 2 1 > ap 2 type 08 size 10"
    ∷ codes "end #16 answered 00 -"
    ∷ codes "reply #19 ap 2 > 2 1 result 00 size 8"
    ∷ codes "reply #20 ap 2 > 2 1 result 00 size 8"
    ∷ codes "credits 2 1 2037"
    ∷ codes "reply #17 2 1 > ap 2 result 00 size 8"
    ∷ codes "ask #21 2 1 > ap 2 type 03 size 2048"
    ∷ codes "ask #22 2 1 > ap 2 type 08 size 10"
    ∷ codes "end #17 answered 00 -"
    ∷ codes "reply #21 ap 2 > 2 1 result 00 size 8"
    ∷ codes "reply #22 ap 2 > 2 1 result 00 size 8"
    ∷ codes "credits 2 1 4074"
    ∷ codes "reply #18 2 1 > ap 2 result 00 size 8"
    ∷ codes "ask #23 2 1 > ap 2 type 03 size 33"
    ∷ codes "ask #24 2 1 > ap 2 type 08 size 10"
    ∷ codes "end #18 answered 00 -"
    ∷ codes "reply #23 ap 2 > 2 1 result 00 size 8"
    ∷ codes "reply #24 ap 2 > 2 1 result 00 size 8"
    ∷ codes "credits 2 1 4096"
    ∷ codes "end #19 answered 00 -"
    ∷ codes "end #20 answered 00 -"
    ∷ codes "end #21 answered 00 -"
    ∷ codes "end #22 answered 00 -"
    ∷ codes "end #23 answered 00 -"
    ∷ codes "end #24 answered 00 -"
    ∷ codes "settled 18" ∷ [])
    ∷ text (codes "line 1 ok" ∷ codes "ask #25 ap 2 > 2 1 type 02 size 11" ∷ [])
    ∷ text (codes "line 1 refused TooLarge" ∷ []) ∷ []
unfolding report_opened
credits = refl
