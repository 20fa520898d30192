-- Each send and bridge line that isn't refused asks a request.
use Rattle.std.proofs.Common.{◌≡◌, ℕ, ◌+◌, false, Option, Some, None, List, ◌∷◌, [], ◌++◌}
use Rattle.std.proofs.Common.{refl, sym, ap, ◌∙◌, subst}
use Rattle.std.specs.Prelude.{is_none, option_and_then, Ok}
use Rattle.gb_base.specs.declared.bridge.BridgeAsk.{BridgeAsk}
use Rattle.gb_base.specs.declared.end.End.{End}
use Rattle.gb_base.specs.declared.end.End.TheVariants as end
use Rattle.gb_base.specs.declared.end.Side.TheVariants as side
use Rattle.gb_base.specs.declared.event.Event.{Event}
use Rattle.gb_base.specs.declared.event.Event.TheVariants as event
use Rattle.gb_base.specs.declared.name.Name.{Name}
use Rattle.gb_base.specs.declared.interface.Link.{Link}
use Rattle.gb_base.specs.declared.refusal.Refusal.TheVariants as why
use Rattle.gb_formats.specs.Bridges.{ask_request, bridge_answer}
use Rattle.gb_formats.specs.Grammar.{default_timeout}
use Rattle.gb_formats.specs.ValidEvents.{IsFar}
use Rattle.gb_invariants.proofs.Awaiting.{not-both, sent-new, unended}
use Rattle.gb_invariants.specs.Facts.{OutcomesFit}
use Rattle.gb_machine.proofs.BridgeAnswers.{answered-by}
use Rattle.gb_laws.proofs.runs.OfStates.{reached-told}
use Rattle.gb_laws.specs.Tickets.{Asks, IsTwoway, LinesAsk, asked_in}
use Rattle.gb_machine.proofs.Conditions.{AreUnmet, free}
use Rattle.gb_machine.proofs.Opened.{machine_opened}
use Rattle.gb_machine.proofs.Steps.{step-does}
use Rattle.gb_machine.specs.Actions.{Told, given}
use Rattle.gb_machine.specs.Asking.{asks_with}
use Rattle.gb_machine.specs.Bus.{Connection, connection_of, next_number, outcome_of}
use Rattle.gb_machine.specs.Events.{does}
use Rattle.gb_machine.specs.Host.{link_at, with_link}
use Rattle.gb_machine.specs.HostRefusals.{bridge_conditions, is_kept}
use Rattle.gb_machine.specs.Labels.{cyclic_label, next_label}
use Rattle.gb_machine.specs.LineActions.{ap_draft, bridge_sent, bridges, sends, sends_on, spent}
use Rattle.gb_machine.specs.Lists.{conditions_of}
use Rattle.gb_machine.specs.Names.{bound}
use Rattle.gb_machine.specs.Refusals.{conditions, has_no_label, is_long_payload, refusal}
use Rattle.gb_machine.specs.Sending.{Draft, requested}
use Rattle.gb_machine.specs.State.{State}

-- an action asks a request with this number
record Asked (n : ℕ) (t : Told) : Type 0 where
  told : asked_in t.entries ≡ Some n
  made : IsTwoway n t.state.bus
  unended : outcome_of n t.state.bus ≡ None

asked-on : (name : Name) (k kind : ℕ) (payload : List ℕ) (timeout : ℕ) (s : State)
    → OutcomesFit s.bus → is_none (next_label k side.Ap s.bus) ≡ false
    → Asked (next_number s.bus) (sends_on name k kind payload timeout s)
unfolding machine_opened
asked-on name k kind payload timeout s fits left =
    by (connection_of k s.bus) refl (next_label k side.Ap s.bus) refl
  where
    d : Draft
    d = ap_draft k kind payload (s.now + timeout)

    by : (o : Option Connection) → connection_of k s.bus ≡ o → (l : Option ℕ)
        → next_label k side.Ap s.bus ≡ l
        → Asked (next_number s.bus) (given o (λ c. given l
        (λ label. asks_with (ap_draft k kind payload (s.now + timeout)) c label))
        (bound name (next_number s.bus) s))
    by (Some c) e (Some label) f = record {
      told = refl;
      made = record {
        request = requested d label;
        made = sent-new d label s.bus;
        twoway = refl;
      };
      unended = unended s.bus fits;
    }
    by o e None f =
        absurd (not-both (is_none (next_label k side.Ap s.bus)) (ap is_none f) left)
    by None e (Some label) f =
        absurd (not-both (is_none (next_label k side.Ap s.bus))
        (ap (λ o. is_none (option_and_then (cyclic_label k side.Ap s.bus) o)) e) left)

asked-send : (name : Name) (to : End) (kind : ℕ) (payload : List ℕ) (timeout : ℕ) (s : State)
    → OutcomesFit s.bus → IsFar to → refusal s (event.Send name to kind payload timeout) ≡ None
    → Asked (next_number s.bus) (sends name to kind payload timeout s)
unfolding machine_opened
asked-send name end.Svc kind payload timeout s fits far allowed =
    asked-on name 1 kind payload timeout s fits
    (free s (event.Send name end.Svc kind payload timeout) allowed).1.1.1.0
asked-send name (end.Ap a) kind payload timeout s fits far allowed = absurd far
asked-send name (end.Module i c) kind payload timeout s fits far allowed =
    by (link_at i c s.host) refl
  where
    met : AreUnmet (conditions s (event.Send name (end.Module i c) kind payload timeout))
    met = free s (event.Send name (end.Module i c) kind payload timeout) allowed

    by : (o : Option Link) → link_at i c s.host ≡ o
        → Asked (next_number s.bus)
        (given o (λ l. sends_on name l.connection kind payload timeout) s)
    by None e = absurd (let no = met.1.1.0 in cc (no))
    by (Some l) e =
        let linked = subst (λ o. AreUnmet (conditions_of (λ k.
        (is_kept k kind, why.Unsupported) ∷ (is_long_payload payload, why.TooLarge)
        ∷ (has_no_label k.connection side.Ap s, why.NoLabel) ∷ []) o)) e met.1.1.1.1.1 in
        asked-on name l.connection kind payload timeout s fits linked.1.1.0

asked-bridge : (name : Name) (i c : ℕ) (what : BridgeAsk) (s : State) → OutcomesFit s.bus
    → refusal s (event.Bridge name i c what) ≡ None
    → Asked (next_number s.bus) (bridges name i c what s)
unfolding machine_opened
asked-bridge name i c what s fits allowed = by (link_at i c s.host) refl
  where
    met : AreUnmet (conditions s (event.Bridge name i c what))
    met = free s (event.Bridge name i c what) allowed

    sent : (l : Link) → is_none (next_label l.connection side.Ap s.bus) ≡ false
        → Asked (next_number s.bus) (bridge_sent name l what (Ok (ask_request what)) s)
    sent l left =
        asked-on name l.connection (ask_request what).0 (ask_request what).1 default_timeout
        (record s { host = with_link l.intf l.cport (spent what) s.host }) fits left

    by : (o : Option Link) → link_at i c s.host ≡ o
        → Asked (next_number s.bus)
        (given o (λ l. bridge_sent name l what (bridge_answer l.protocol what)) s)
    by None e = absurd (let no = met.1.1.0 in cc (no))
    by (Some l) e =
        let linked = subst (λ o. AreUnmet (conditions_of
        (λ k. bridge_conditions k what ++ (has_no_label k.connection side.Ap s, why.NoLabel) ∷ [])
        o)) e met.1.1.1.1.1 in
        subst (λ r. Asked (next_number s.bus) (bridge_sent name l what r s))
        (sym (answered-by l.protocol what linked.0 linked.1.0)) (sent l linked.1.1.1.0)

-- what is done is asked
asked-event : (s : State) (e : Event) → refusal s e ≡ None
    → Asked (next_number s.bus) (does e s) → Asks s e
asked-event s e allowed a =
    let t = step-does s e allowed in record {
      told = ap (λ (w : Told). asked_in w.entries) t ∙ a.told;
      made = subst (λ (w : Told). IsTwoway (next_number s.bus) w.state.bus) (sym t) a.made;
      unended = ap (λ (w : Told). outcome_of (next_number s.bus) w.state.bus) t ∙ a.unended;
    }

pub lines-ask : LinesAsk
unfolding does
lines-ask s (event.Send name to kind payload timeout) r valid is allowed =
    asked-event s (event.Send name to kind payload timeout) allowed
    (asked-send name to kind payload timeout s (reached-told s r).0.bus.outcomes valid.1 allowed)
lines-ask s (event.Bridge name i c what) r valid is allowed =
    asked-event s (event.Bridge name i c what) allowed
    (asked-bridge name i c what s (reached-told s r).0.bus.outcomes allowed)
lines-ask s event.Boot r valid is allowed = absurd cc
lines-ask s _ r valid is allowed = absurd cc
