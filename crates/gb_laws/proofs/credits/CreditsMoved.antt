-- What each moment makes of the credits of connections.
use Rattle.std.proofs.Common.{Bool, List, Some, ap, arith, cond, false, refl, subst, sym, true, ℕ}
use Rattle.std.proofs.Common.{⊎_elim, ◌∙◌, ◌≡◌}
use Rattle.std.specs.List.{list_any}
use Rattle.std.specs.Prelude.{Err, Ok, Result, is_none, ◌&&◌, ◌==◌}
use Rattle.gb_base.specs.declared.end.{End.End}
use Rattle.gb_base.specs.declared.end.End.TheVariants as end
use Rattle.gb_base.specs.declared.event.Event.{Event}
use Rattle.gb_base.specs.declared.event.Event.TheVariants as event
use Rattle.gb_base.specs.declared.interface.Link.{Link}
use Rattle.gb_base.specs.declared.refusal.Refusal.{Refusal}
use Rattle.gb_formats.specs.Records.{PayloadFault, read_far_ask, read_table, row_of}
use Rattle.gb_formats.specs.UartRecords.{UartAsk, read_receive, read_send, read_uart_ask}
use Rattle.gb_formats.specs.UartRecords.{read_uart_ask_of_module, uart_asks}
use Rattle.gb_formats.specs.{Bridges.credits_taken, GpioRecords.GpioAsk}
use Rattle.gb_formats.specs.{GpioRecords.read_gpio_ask_of_module}
use Rattle.gb_machine.proofs.Opened.{machine_opened}
use Rattle.gb_machine.specs.Bus.{place_of}
use Rattle.gb_machine.specs.HostServing.{HostServed, host_refuses, interrupted, served_on}
use Rattle.gb_machine.specs.HostServing.{serves_firmware, serves_gpio, serves_uart}
use Rattle.gb_machine.specs.LawsCredits.{bytes_sent, count_in, count_on, credits_back, is_credits}
use Rattle.gb_machine.specs.LawsCredits.{is_numbered}
use Rattle.gb_machine.specs.Runs.{IsMoment, Moment, after, told_at}
use Rattle.gb_machine.specs.{Events.decided, Host.Host, Host.link_at}
use Rattle.gb_machine.specs.{Members.IsIn, Refusals.refusal}
use Rattle.gb_machine.specs.{Serving.protocol_bad, State.State}
use Rattle.gb_invariants.proofs.Outcomes.{same-number}
use Rattle.gb_laws.proofs.credits.CreditsKept.{IsCreditless, IsKept, credits-start, credits_law}
use Rattle.gb_laws.proofs.credits.CreditsKept.{new as newly, was}
use Rattle.gb_laws.proofs.credits.CreditsLines.{Moved, new, old}
use Rattle.gb_laws.proofs.{links.LinkHosts.same-link, links.LinkRuns.LinkedTo}
use Rattle.gb_laws.proofs.{marks.MarkMoments.refused-state}
use Rattle.gb_laws.proofs.{marks.MarkNotices.far-reads, points.Points.IsBridge}
use Rattle.gb_laws.proofs.{runs.SettleQueues.IsFarEnd}
use Rattle.gb_laws.proofs.{steps.Steps.over-step}

-- ---- events that are no matter of credits

-- neither a bridge line nor a delivery
abbrev pub IsOther : Event → Type 0
IsOther (event.Bridge name i c what) = ⊥
IsOther (event.Deliver at) = ⊥
IsOther _ = Unit {0}

other-line : (e : Event) → IsOther e → IsBridge e → ⊥
other-line (event.Bridge name i c what) o b = o
other-line _ o b = b

pub sent-other : (k : ℕ) (m : Moment) (e : Event) → (IsBridge e → ⊥) → bytes_sent k m e ≡ 0
sent-other k m (event.Bridge name i c what) other = absurd (other tt)
sent-other k m _ other = refl

back-other : (k : ℕ) (m : Moment) (e : Event) → IsOther e → credits_back k m e ≡ 0
back-other k m (event.Deliver at) o = absurd o
back-other k m _ o = refl

-- nothing comes back where no credits are told
pub back-untold : (k : ℕ) (m : Moment) (e : Event) → list_any is_credits (told_at m) ≡ false
    → credits_back k m e ≡ 0
back-untold k m (event.Deliver (end.Ap a)) h =
    ap (λ t. cond t (count_on k m.before.bus (place_of (end.Ap a) m.before.bus.connections)) 0) h
back-untold k m _ h = refl

-- nor at a far end
pub back-far : (k : ℕ) (m : Moment) (at : End) → IsFarEnd at
    → credits_back k m (event.Deliver at) ≡ 0
back-far k m (end.Ap a) far = absurd far
back-far k m end.Svc far = refl
back-far k m (end.Module i c) far = refl

-- nor where what is taken counts nothing
pub if-zero : (t : Bool) (n : ℕ) → n ≡ 0 → cond t n 0 ≡ 0
if-zero true n e = e
if-zero false n e = refl

-- nothing is sent where a line is refused
sent-refused : (k : ℕ) (m : Moment) (e : Event) (why : Refusal)
    → refusal m.before m.event ≡ Some why → bytes_sent k m e ≡ 0
sent-refused k m (event.Bridge name i c what) why refused =
    ap (λ o. cond (is_none o && is_numbered k (link_at i c m.before.host)) (credits_taken what) 0)
    refused
sent-refused k m _ why refused = refl

-- ---- what is served elsewhere

-- on a connection of another protocol the application processor's connections stay as they are
pub plain-links : (l : Link) (kind : ℕ) (payload : List ℕ) (h : Host)
    → (l.protocol == 0x04) ≡ false → (served_on (Some l) kind payload h).host.links ≡ h.links
plain-links l kind payload h other =
    if-links (l.protocol == 0x02) (serves_gpio l kind payload h) _
    (gpio (read_gpio_ask_of_module kind payload))
    (ap (λ t. (cond t (serves_uart l kind payload h) rest).host.links) other
    ∙ if-links (l.protocol == 0x17) (serves_firmware l kind payload h)
    (host_refuses protocol_bad h) refl refl)
  where
    rest : HostServed
    rest = cond (l.protocol == 0x17) (serves_firmware l kind payload h)
        (host_refuses protocol_bad h)

    if-links : (t : Bool) (x y : HostServed) → x.host.links ≡ h.links → y.host.links ≡ h.links
        → (cond t x y).host.links ≡ h.links
    if-links true x y e f = e
    if-links false x y e f = f

    gpio : (r : Result GpioAsk PayloadFault) → (interrupted l r h).host.links ≡ h.links
    gpio (Err fault) = refl
    gpio (Ok (GpioAsk.IrqEvent which)) = refl
    gpio (Ok _) = refl

-- what a module's request counts is what it is read to
pub count-read : (kind : ℕ) (payload : List ℕ) (count : ℕ)
    → read_uart_ask_of_module kind payload ≡ Ok (UartAsk.ReceiveCredits count)
    → count_in (read_uart_ask kind payload) ≡ count
count-read kind payload count e = by (kind == 0x03) refl e
  where
    apart : Err PayloadFault.UnknownKind ≡ Ok (UartAsk.ReceiveCredits count) → ⊥
    apart f = absurd cc

    rest : (kind == 0x03) ≡ false → (u : Bool) → (kind == 0x02) ≡ u
        → read_far_ask uart_asks kind payload ≡ Ok (UartAsk.ReceiveCredits count)
        → count_in (read_uart_ask kind payload) ≡ count
    rest is true two f = absurd (apart
        (ap (λ k. read_far_ask uart_asks k payload) (sym (same-number kind 0x02 two)) ∙ f))
    rest is false two f =
        ap (λ t. count_in (cond t (read_send payload)
        (cond (kind == 0x03) (read_receive payload) (read_table uart_asks kind payload)))) two
        ∙ ap (λ t. count_in (cond t (read_receive payload) (read_table uart_asks kind payload))) is
        ∙ ⊎_elim (λ same. ap count_in (sym same ∙ f)) (λ none. absurd (apart (sym none ∙ f)))
        (far-reads (row_of uart_asks kind) payload)

    by : (t : Bool) → (kind == 0x03) ≡ t
        → cond t (read_receive payload) (read_far_ask uart_asks kind payload)
        ≡ Ok (UartAsk.ReceiveCredits count) → count_in (read_uart_ask kind payload) ≡ count
    by true is f = ap (λ k. count_in (read_uart_ask k payload)) (same-number kind 0x03 is)
        ∙ ap count_in f
    by false is f = rest is (kind == 0x02) refl f

-- ---- moments

module _ (m : Moment) (one : IsMoment m.event) (start : LinkedTo m.told m.before) where
  -- where each connection of a UART has nothing sent and nothing back, and credits stay
  pub stayed : IsCreditless m → ((l : Link) → IsIn l m.before.host.links → l.protocol ≡ 0x04
      → (bytes_sent l.connection m m.event ≡ 0) × (credits_back l.connection m m.event ≡ 0))
      → (l : Link) → IsIn l (after m).host.links → Moved m l
  stayed less none l i =
      by ((over-step m (credits_law m less) one (start.0, credits-start m)).1.1.links l i)
    where
      by : IsKept m l → Moved m l
      by (newly later most) = new later most
      by (was y) = old y.link y.live y.same (λ p.
          let z = none y.link y.live p in
          let sent : bytes_sent l.connection m m.event ≡ 0 =
          ap (λ k. bytes_sent k m m.event) y.same.connection ∙ z.0 in
          let back : credits_back l.connection m m.event ≡ 0 =
          ap (λ k. credits_back k m m.event) y.same.connection ∙ z.1 in record {
            sum = let same = y.credits in omega (arith, sent, back, same);
            bound = λ h. let same = y.credits in omega (arith, same, h);
          })

  -- where an event is refused, nothing changes
  pub moved-refused : (why : Refusal) → refusal m.before m.event ≡ Some why → (l : Link)
      → IsIn l (after m).host.links → Moved m l
  unfolding machine_opened
  moved-refused why refused l i =
      let sent = sent-refused l.connection m m.event why refused in
      let back = back-untold l.connection m m.event
      (ap (λ o. list_any is_credits (decided o m.event m.before).entries) refused) in
      old l (subst (λ (s : State). IsIn l s.host.links) (refused-state m why refused) i)
      (same-link l) (λ p. record { sum = omega (arith, sent, back); bound = λ h. h })

  -- an event that is no matter of credits
  pub moved-other : IsOther m.event → (l : Link) → IsIn l (after m).host.links → Moved m l
  moved-other o = stayed (record {
    line = other-line m.event o;
    served = λ k kind payload x. absurd (subst IsOther x.event o);
  }) (λ l i p. (
    sent-other l.connection m m.event (other-line m.event o),
    back-other l.connection m m.event o,
  ))
