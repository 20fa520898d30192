-- The lines of `show`, `share` and `drive`.
use Rattle.std.proofs.Common.{◌≡◌, true, false, [], ◌∷◌, refl}
use Rattle.std.specs.Prelude.{Some, None, ◌++◌, codes}
use Rattle.std.specs.Fmt.{digits}
use Rattle.hex.specs.Hex.{encode_with}
use Rattle.gb_base.specs.declared.end.End.TheVariants as end
use Rattle.gb_base.specs.declared.entry.ConnState.TheVariants as state
use Rattle.gb_base.specs.declared.entry.IntfStage.TheVariants as stage
use Rattle.gb_base.specs.declared.outcome.Outcome.TheVariants as outcome
use Rattle.gb_formats.specs.ShowTexts.{now_line, interface_line, connection_line, queue_line}
use Rattle.gb_formats.specs.ShowTexts.{name_line, order_text, ticket_line, summary_text}
use Rattle.gb_formats.proofs.Samples.{named_of}

pub now-text : now_line 0 ≡ codes "now 0"
unfolding digits
now-text = refl

pub interface-text : interface_line 2 stage.Enumerating None ≡ codes "interface 2 enumerating"
unfolding digits
interface-text = refl

pub interface-device : interface_line 31 stage.Failed (Some 2)
    ≡ codes "interface 31 failed device 2"
unfolding digits
interface-device = refl

pub connection-text : connection_line 1 0 end.Svc 0x14 state.Open true
    ≡ codes "connection 1 ap 0 svc protocol 14 open"
unfolding digits encode_with
connection-text = refl

pub connection-unclean : connection_line 3 2 (end.Module 2 1) 2 state.Closing false
    ≡ codes "connection 3 ap 2 2 1 protocol 02 closing unclean"
unfolding digits encode_with
connection-unclean = refl

pub queue-text : queue_line (end.Ap 2) 10 ≡ codes "queue ap 2 10"
unfolding digits
queue-text = refl

pub name-text : name_line (named_of 0 (codes "x")) 1 (Some (outcome.Answered 0 (1 ∷ [])))
    ≡ codes "name @x #1 answered 00"
unfolding digits encode_with
name-text = refl

pub name-requester : name_line (named_of 8 (codes "a")) 16 None ≡ codes "name 8 @a #16 open"
unfolding digits
name-requester = refl

pub order-text : order_text ((0, false) ∷ (1, false) ∷ (2, true) ∷ [])
    ≡ codes "order 0 1 2f" ++ 10 ∷ []
unfolding digits
order-text = refl

pub order-empty : order_text [] ≡ codes "order" ++ 10 ∷ []
order-empty = refl

pub ticket-text : ticket_line (named_of 0 (codes "x")) 1 (Some outcome.Disconnected)
    ≡ codes "ticket 0 @x #1 disconnected"
unfolding digits
ticket-text = refl

pub summary-line : summary_text 20024 (record {
  refused = 1;
  requests = 27;
  answered = 2;
  cancelled = 3;
  timeout = 4;
  disconnected = 5;
  sent = 6;
  left_open = 7;
})
    ≡ codes "lines 20024 refused 1 requests 27 answered 2 cancelled 3 timeout 4 disconnected 5 "
    ++ codes "sent 6 open 7" ++ 10 ∷ []
unfolding digits
summary-line = refl
