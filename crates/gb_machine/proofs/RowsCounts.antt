-- How the requests of a run stand at its end.
use Rattle.std.proofs.Common.{◌≡◌, [], ◌∷◌, ◌++◌, codes, refl}
use Rattle.gb_base.specs.declared.end.End.TheVariants as end
use Rattle.gb_base.specs.declared.event.Event.TheVariants as event
use Rattle.gb_formats.specs.Grammar.{name_of, ping_event}
use Rattle.gb_formats.specs.ShowTexts.{summary_text}
use Rattle.gb_machine.proofs.Scripts.{report_opened, text}
use Rattle.gb_machine.specs.Events.{trace}
use Rattle.gb_machine.specs.Summary.{counts}

-- a ping is answered, one cancelled, one times out and one is open; two events are refused
pub counted : summary_text 10 (counts (trace (
    ping_event 0 (codes "@a") ∷ ping_event 0 (codes "@a") ∷ event.Deliver end.Svc
    ∷ event.Deliver (end.Ap 0)
    ∷ ping_event 0 (codes "@b") ∷ event.Cancel (name_of 0 (codes "@b")) ∷ ping_event 0 (codes "@c")
    ∷ event.Tick 1000 ∷ ping_event 0 (codes "@d") ∷ event.Pull 2 ∷ [])))
    ≡ text ((codes "lines 10 refused 2 requests 4 answered 1 cancelled 1 timeout 1 disconnected 0 "
    ++ codes "sent 0 open 1") ∷ [])
unfolding report_opened
counted = refl
