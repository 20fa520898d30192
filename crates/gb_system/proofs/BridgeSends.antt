-- A bridge line is told as refused, or its request is sent, as the machine does.
use Rattle.std.proofs.Common.{◌≡◌, ◌≤◌, ◌<◌, ℕ, false, Some, None}
use Rattle.std.proofs.Common.{Ok, List, [], length, take, drop, sym, ap, ◌∙◌}
use Rattle.std.proofs.Common.{option_map, nat_lt, subst, arith}
use Rattle.std.specs.Prelude.{◌||◌}
use Rattle.std.proofs.Math.Seq.{take-append_seam}
use Rattle.std.proofs.lemmas.Bool.Decides.{nat_tests}
use Rattle.gb_base.specs.declared.bridge.BridgeAsk.{BridgeAsk}
use Rattle.gb_base.specs.declared.bridge.BridgeAsk.TheVariants as ask
use Rattle.gb_base.specs.declared.bridge.Bridged.{Bridged}
use Rattle.gb_base.specs.declared.entry.Entry.{Entry}
use Rattle.gb_base.specs.declared.event.Event.TheVariants as event
use Rattle.gb_base.specs.declared.name.Name.{Name}
use Rattle.gb_base.specs.declared.interface.Link.{Link}
use Rattle.gb_bridge_payload.specs.Serving.{WritesBridged}
use Rattle.gb_formats.specs.Bridges.{Request, ask_request, asks_too_much, bridge_answer}
use Rattle.gb_formats.specs.Results.{most_payload}
use Rattle.gb_host.specs.Stands as host
use Rattle.gb_host.specs.declared.host.Host as code
use Rattle.gb_machine.proofs.BridgeAnswers.{answered-by}
use Rattle.gb_machine.proofs.Conditions.{unmet}
use Rattle.gb_machine.proofs.Opened.{machine_opened}
use Rattle.gb_machine.proofs.Options.{none-of}
use Rattle.gb_machine.specs.Actions.{Action, given}
use Rattle.gb_machine.specs.Host.{Host, link_at, link_of, with_link}
use Rattle.gb_machine.specs.HostRefusals.{bridge_conditions}
use Rattle.gb_machine.specs.LineActions.{bridge_sent, bridges, sends_on, spent}
use Rattle.gb_machine.specs.Lists.{first_met}
use Rattle.gb_machine.specs.Names.{named}
use Rattle.gb_machine.specs.Refusals.{line_conditions}
use Rattle.gb_machine.specs.State.{State}
use Rattle.gb_system.proofs.Bridgings.{IsLink, is-link, line-met}
use Rattle.gb_system.proofs.Doings.{does-by_state, does-given, does-on_host, does-then}
use Rattle.gb_system.proofs.Sends.{SendsOn}
use Rattle.gb_system.proofs.Standing.{rehosted}
use Rattle.gb_laws.specs.Possible.{IsAskable}
use Rattle.gb_system.specs.Bridging.{BridgesTo}
use Rattle.gb_system.specs.Doing.{Does, IsDone}
use Rattle.gb_system.specs.Stands.{PartiesStand, PartsStand}
use Rattle.gb_system.specs.declared.bridging.Bridging.{Bridging}
use Rattle.gb_system.specs.declared.parties.Parties.{Parties}

-- ---- the type of a request

-- a request has a type that a request can have
is-low : (what : BridgeAsk) → (ask_request what).0 < 128
is-low (ask.Gpio kind line value) = grind arith
is-low ask.I2cFunctionality = omega arith
is-low (ask.I2cTransfer ops) = omega arith
is-low ask.SpiConfig = omega arith
is-low (ask.SpiDevice select) = omega arith
is-low (ask.SpiTransfer select mode ops) = omega arith
is-low (ask.UartSend bytes) = omega arith
is-low (ask.UartCoding rate format parity bits flow) = omega arith
is-low (ask.UartByte kind value) = grind arith
is-low ask.LoopPing = omega arith
is-low (ask.LoopBytes kind bytes) = grind arith

-- its payload is what stands at the front, and fits
written-is : (request : Request) (old new : List ℕ) (b : Bridged) → WritesBridged request old new b
    → take b.len new ≡ request.1
written-is request old new b w =
    ap (λ n. take n new) w.len ∙ ap (take (length request.1)) w.bytes
    ∙ take-append_seam request.1 (drop (length request.1) old)

is-short : (what : BridgeAsk) (l : Link) → first_met (bridge_conditions l what) ≡ None
    → length (ask_request what).1 ≤ most_payload
is-short what l met = small (length (ask_request what).1) (unmet (bridge_conditions l what) met).1.0
  where
    small : (n : ℕ) → (nat_lt most_payload n || asks_too_much what) ≡ false → n ≤ most_payload
    small n h = grind (arith, nat_tests)

-- ---- the line

module _ (s : State) (name : Name) (i c : ℕ) (what : BridgeAsk) where
  -- its request
  abbrev asked : Request
  asked = ask_request what

  -- the state once the credits are taken
  abbrev spent_on : Link → State
  spent_on l = record s { host = with_link l.intf l.cport (spent what) s.host }

  -- the machine's action, on the connection of the line
  does-bridges : {y z : Parties} {a b : List Entry} (l : Link) → link_at i c s.host ≡ Some l
      → first_met (bridge_conditions l what) ≡ None → PartsStand [] y (spent_on l)
      → Does z (sends_on name l.connection asked.0 asked.1 1000) (spent_on l) a b
      → Does z (bridges name i c what) s a b
  unfolding machine_opened
  does-bridges {y} {z} {a} {b} l there met st sent =
      does-by_state (λ t. given (link_at i c t.host) on)
      (does-given on l there
      (subst (λ answer. Does z (bridge_sent name l what answer) s a b) (sym answer)
      (does-then (does-on_host (with_link l.intf l.cport (spent what)) st) sent)))
    where
      on : Link → Action
      on k = bridge_sent name k what (bridge_answer k.protocol what)

      answer : bridge_answer l.protocol what ≡ Ok asked
      answer =
          let h = unmet (bridge_conditions l what) met in answered-by l.protocol what h.0 h.1.0

  -- a line is sent
  pub bridge-done : (x z : Parties) (h : code.Host) (old new front : List ℕ) (b : Bridging)
      (before es : List Entry) → PartiesStand x s → BridgesTo s name i c what old new (Ok b)
      → ((g : Host) (l : Link) → host.Stands x.host g → link_of b.connection g ≡ Some l
      → host.Stands h (with_link l.intf l.cport (spent what) g))
      → front ≡ take b.request.len new
      → SendsOn name b.connection b.request.kind front 1000 (record x { host = h }) z before es
      → IsDone z s (event.Bridge name i c what) before es
  unfolding machine_opened
  bridge-done x z h old new front b before es st is spends front_is sends = record {
    allowed = is.allowed;
    done =
        does-bridges l is.there met stand
        (subst (λ k. Does z (sends_on name k asked.0 asked.1 1000) t before es) (sym is.number)
        (subst (λ bytes. Does z (sends_on name b.connection asked.0 bytes 1000) t before es)
        bytes_are
        (subst (λ n. Does z (sends_on name b.connection n front 1000) t before es)
        is.written.kind (sends t stand free askable is.label))));
  }
    where
      l : Link
      l = is.link

      t : State
      t = spent_on l

      met : first_met (bridge_conditions l what) ≡ None
      met = line-met s name i c what l is.there is.allowed

      free : named name s.names ≡ None
      free = none-of (named name s.names) (unmet (line_conditions s name i c what) is.allowed).0

      found : IsLink s.host i c b.connection
      found = is-link s x i c b.connection st (ap (option_map (λ (k : Link). k.connection)) is.there
          ∙ ap Some is.number)

      same : found.link ≡ l
      same = let both : Some found.link ≡ Some l = sym found.there ∙ is.there in cc

      stand : PartsStand [] (record x { host = h }) t
      stand =
          rehosted h t.host st.parts
          (spends s.host l st.parts.host (found.of_number ∙ ap Some same))

      bytes_are : front ≡ asked.1
      bytes_are = front_is ∙ written-is asked old new b.request is.written

      askable : IsAskable b.request.kind front
      askable = (
        subst (λ n. n < 128) (sym is.written.kind) (is-low what),
        subst (λ bytes. length bytes ≤ most_payload) (sym bytes_are) (is-short what l met),
      )
