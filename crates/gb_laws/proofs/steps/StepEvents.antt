-- A law of points goes over what an event does in several changes.
use Rattle.std.proofs.Common.{List, None, Option, Some, ap, false, inl, inr, map, refl, subst, sym}
use Rattle.std.proofs.Common.{true, ℕ, ⊎_elim, [], ◌++◌, ◌+◌, ◌<◌, ◌∙◌, ◌∷◌, ◌≡◌}
use Rattle.std.specs.Prelude.{Err, Ok, Result, is_none, is_some, option_and_then}
use Rattle.gb_base.specs.declared.bridge.BridgeAsk.{BridgeAsk}
use Rattle.gb_base.specs.declared.bridge.Reading.TheVariants as reading
use Rattle.gb_base.specs.declared.end.End.{End}
use Rattle.gb_base.specs.declared.end.End.TheVariants as end
use Rattle.gb_base.specs.declared.end.Side.TheVariants as side
use Rattle.gb_base.specs.declared.entry.Entry.TheVariants as entry
use Rattle.gb_base.specs.declared.event.Event.TheVariants as event
use Rattle.gb_base.specs.declared.name.Name.{Name}
use Rattle.gb_base.specs.declared.outcome.Outcome.{Outcome}
use Rattle.gb_base.specs.declared.outcome.Outcome.TheVariants as outcome
use Rattle.gb_base.specs.declared.interface.Link.{Link}
use Rattle.gb_base.specs.declared.refusal.Refusal.TheVariants as why
use Rattle.gb_formats.specs.{Bridges.BridgeFault, Bridges.bridge_answer, Devices.Stir}
use Rattle.gb_formats.specs.{Grammar.default_timeout, Module.Module}
use Rattle.gb_formats.specs.{ModuleLoads.loader_at, ModuleSteps.module_stir, Results.Stirred}
use Rattle.gb_formats.specs.{Results.success}
use Rattle.gb_machine.proofs.{Conditions.AreUnmet, Conditions.free, Opened.machine_opened}
use Rattle.gb_machine.proofs.{Options.none-of}
use Rattle.gb_machine.specs.Actions.{by_state, change, given, on_bus, on_host, tell, ◌▸◌}
use Rattle.gb_machine.specs.Bus.{Connection, Place, Request, connection_of, is_open, next_number}
use Rattle.gb_machine.specs.Bus.{outcome_of, request_of}
use Rattle.gb_machine.specs.Host.{is_link, link_at, with_link}
use Rattle.gb_machine.specs.HostRefusals.{bridge_conditions, is_ending, is_kept, link_conditions}
use Rattle.gb_machine.specs.Labels.{cyclic_label, next_label}
use Rattle.gb_machine.specs.LineActions.{ap_draft, bridge_sent, bridges, injects}
use Rattle.gb_machine.specs.LineActions.{injects_at, sends, sends_on, spent, stirred, stirs}
use Rattle.gb_machine.specs.Refusals.{has_no_label, is_long_payload, module_place, refusal}
use Rattle.gb_machine.specs.{Arriving.state_takes, Asking.asks_with, Events.shows, GivingUp.cancels}
use Rattle.gb_machine.specs.{GivingUp.gives_up, HostActs.follows}
use Rattle.gb_machine.specs.{Lists.conditions_of, Lists.holds_of, Members.IsIn, Modules.module_at}
use Rattle.gb_machine.specs.{Modules.with_module, Names.bound, Names.named, OwnAsking.far_asks_all}
use Rattle.gb_machine.specs.{Requests.gave_up, Runs.Moment, Sending.Draft, Show.lines_shown}
use Rattle.gb_machine.specs.{Show.shown, State.State}
use Rattle.gb_invariants.proofs.{Awaiting.is-open, Awaiting.not-both, Lists.at_first-back}
use Rattle.gb_invariants.proofs.{Lists.found-in}
use Rattle.gb_laws.proofs.points.PointParts.{AreSilent, IsGivenUpFor, Untouched}
use Rattle.gb_laws.proofs.points.Points.{IsBridge, IsPlain, Law, as_before}
use Rattle.gb_laws.proofs.points.Points.{gives_up as giving_up, injects as injecting, loader_in}
use Rattle.gb_laws.proofs.points.Points.{names, others, spends}
use Rattle.gb_laws.proofs.svc.StayPlugged.{module-plugs, open-takes, place-module}
use Rattle.gb_laws.proofs.steps.LoaderStays.{stir-keeps}
use Rattle.gb_laws.proofs.steps.LoadersPlugged.{keeps-module, module-there}
use Rattle.gb_laws.proofs.steps.StepActions.{At, goes-far_asks_all, goes-tell_all}
use Rattle.gb_laws.proofs.steps.StepPlugs.{Rests, rests-nothing, rests-▸}
use Rattle.gb_laws.proofs.points.LowTypes.{AreLow, bridge-low, stir-low}
use Rattle.gb_laws.proofs.{points.Naming.made-named}
use Rattle.gb_laws.proofs.{steps.StepActLaws.acting}
use Rattle.gb_laws.proofs.steps.StepLoads.{goes-follows}

module _ (m : Moment) (law : Law m) where
  -- ---- requests of lines

  pub rests-sends_on : (name : Name) (k kind : ℕ) (payload : List ℕ) (timeout : ℕ) (s : State)
      → IsPlain s (ap_draft k kind payload (s.now + timeout))
      → is_none (next_label k side.Ap s.bus) ≡ false → kind < 128
      → Rests m law (sends_on name k kind payload timeout) s
  unfolding machine_opened
  rests-sends_on name k kind payload timeout s plain left low told at =
      by (connection_of k s.bus) refl (next_label k side.Ap s.bus) refl
    where
      d : Draft
      d = ap_draft k kind payload (s.now + timeout)

      by : (o : Option Connection) → connection_of k s.bus ≡ o → (l : Option ℕ)
          → next_label k side.Ap s.bus ≡ l → At m (acting m law) None [] Untouched
          (told ++ (given o (λ c. given l
          (λ label. asks_with (ap_draft k kind payload (s.now + timeout)) c label))
          (bound name (next_number s.bus) s)).entries)
          (given o (λ c. given l (λ label. asks_with (ap_draft k kind payload (s.now + timeout)) c
          label)) (bound name (next_number s.bus) s)).state
      by (Some c) e (Some label) f = law.kept _
          (names name (ap_draft k kind payload (s.now + timeout)) c label refl e f
          (refl, plain, refl, low)) at
      by o e None f = absurd (not-both (is_none (next_label k side.Ap s.bus)) (ap is_none f) left)
      by None e (Some label) f =
          absurd (not-both (is_none (next_label k side.Ap s.bus))
          (ap (λ o. is_none (option_and_then (cyclic_label k side.Ap s.bus) o)) e) left)

  pub rests-sends : (name : Name) (to : End) (kind : ℕ) (payload : List ℕ) (timeout : ℕ) (s : State)
      → refusal s (event.Send name to kind payload timeout) ≡ None → kind < 128
      → Rests m law (sends name to kind payload timeout) s
  unfolding machine_opened
  rests-sends name end.Svc kind payload timeout s allowed low = λ told at.
      rests-sends_on name 1 kind payload timeout s
      (inl ((free s (event.Send name end.Svc kind payload timeout) allowed).1.0, refl))
      (free s (event.Send name end.Svc kind payload timeout) allowed).1.1.1.0 low told at
  rests-sends name (end.Ap a) kind payload timeout s allowed low =
      λ told at. rests-nothing m law s told at
  rests-sends name (end.Module i c) kind payload timeout s allowed low =
      λ told at. by (link_at i c s.host) refl told at
    where
      by : (o : Option Link) → link_at i c s.host ≡ o
          → Rests m law (given o (λ l. sends_on name l.connection kind payload timeout)) s
      by None e = rests-nothing m law s
      by (Some l) e =
          let met = free s (event.Send name (end.Module i c) kind payload timeout) allowed in
          let linked = subst (λ o. AreUnmet (conditions_of (λ k.
          (is_kept k kind, why.Unsupported) ∷ (is_long_payload payload, why.TooLarge)
          ∷ (has_no_label k.connection side.Ap s, why.NoLabel) ∷ []) o)) e met.1.1.1.1.1 in
          rests-sends_on name l.connection kind payload timeout s (inr (
            l,
            (found-in (is_link i c) s.host.links l e).0,
            refl,
            open-takes l (subst (λ o. AreUnmet (link_conditions is_ending o)) e
                (met.1.1.0, (met.1.1.1.0, (met.1.1.1.1.0, tt)))),
          )) linked.1.1.0 low

  pub rests-bridges : IsBridge m.event → (name : Name) (i c : ℕ) (what : BridgeAsk) (s : State)
      → refusal s (event.Bridge name i c what) ≡ None → Rests m law (bridges name i c what) s
  unfolding machine_opened
  rests-bridges of name i c what s allowed = by (link_at i c s.host) refl
    where
      still : (l : Link) → IsIn l s.host.links → (d : ℕ) → d ≡ l.connection
          → state_takes l.state ≡ true
          → (k : Link) × IsIn k (with_link l.intf l.cport (spent what) s.host).links
          × (d ≡ k.connection) × (state_takes k.state ≡ true)
      still l live d on took = ⊎_elim (λ o. (l, o, on, took)) (λ w. (spent what l, w, on, took))
          (at_first-back (is_link l.intf l.cport) (spent what) s.host.links l live)

      sent_by : (l : Link) → IsIn l s.host.links → state_takes l.state ≡ true
          → is_none (next_label l.connection side.Ap s.bus) ≡ false
          → (r : Result (ℕ × List ℕ) BridgeFault) → bridge_answer l.protocol what ≡ r
          → Rests m law (bridge_sent name l what r) s
      sent_by l live took left (Err fault) is = rests-nothing m law s
      sent_by l live took left (Ok request) is =
          rests-▸ m law (on_host (with_link l.intf l.cport (spent what)))
          (sends_on name l.connection request.0 request.1 default_timeout) s
          (λ told at. law.kept _ (spends l.intf l.cport what (refl, of)) at)
          (rests-sends_on name l.connection request.0 request.1 default_timeout
          (record s { host = with_link l.intf l.cport (spent what) s.host })
          (inr (still l live l.connection refl took)) left
          (bridge-low l.protocol what request is))

      by : (o : Option Link) → link_at i c s.host ≡ o
          → Rests m law (given o (λ l. bridge_sent name l what (bridge_answer l.protocol what))) s
      by None e = rests-nothing m law s
      by (Some l) e =
          let met = free s (event.Bridge name i c what) allowed in
          let linked = subst (λ o. AreUnmet (conditions_of
          (λ k. bridge_conditions k what ++ (has_no_label k.connection side.Ap s, why.NoLabel) ∷ [])
          o)) e met.1.1.1.1.1 in
          sent_by l (found-in (is_link i c) s.host.links l e).0 (open-takes l
          (subst (λ o. AreUnmet (link_conditions is_ending o)) e
          (met.1.1.0, (met.1.1.1.0, (met.1.1.1.1.0, tt))))) linked.1.1.1.0
          (bridge_answer l.protocol what) refl

  -- ---- what comes from outside

  pub rests-stirs : (i c : ℕ) (stir : Stir) (s : State) → Rests m law (stirs i c stir) s
  unfolding machine_opened
  rests-stirs i c stir s = at_module (module_at i s.modules) refl
    where
      placed : (t : Stirred Module) → AreLow t.asks → (w : State)
          → loader_in i c w.modules ≡ None → (o : Option Place) → module_place i c w ≡ o
          → Rests m law (given o (λ p. far_asks_all p.connection.number t.asks)) w
      placed t low w none None e = rests-nothing m law w
      placed t low w none (Some p) e = λ told at.
          goes-far_asks_all m (acting m law) [] Untouched i c p.connection.number t.asks w
          (place-module i c w.bus p (law.basis _ at).bus.numbers.rise e) low (inr none) told at

      stirred_by : (x : Module) → module_at i s.modules ≡ Some x → (o : Option (Stirred Module))
          → module_stir x c stir ≡ o → Rests m law (given o (stirred i c)) s
      stirred_by x there None is = rests-nothing m law s
      stirred_by x there (Some t) is =
          let keeps = stir-keeps x c stir t is in
          rests-▸ m law (change (λ w. record w { modules = with_module i t.after w.modules }))
          (by_state (λ w. given (module_place i c w)
          (λ p. far_asks_all p.connection.number t.asks))) s
          (λ told at. law.kept _ (others s.booted s.holds s.ports
          (with_module i t.after s.modules) (
            inl (
              module-plugs s i t.after,
              as_before refl,
              record { hand = refl; pending = refl; asked = refl },
              λ k n. inl n,
            ),
            keeps-module i t.after x s.modules there keeps.0,
          )) at)
          (placed t (stir-low x c stir t is)
          (record s { modules = with_module i t.after s.modules })
          (ap (option_and_then (λ y. loader_at y c)) (module-there i t.after x s.modules there)
          ∙ keeps.1) (module_place i c s) refl)

      at_module : (o : Option Module) → module_at i s.modules ≡ o
          → Rests m law (given o (λ x. given (module_stir x c stir) (stirred i c))) s
      at_module None e = rests-nothing m law s
      at_module (Some x) e = stirred_by x e (module_stir x c stir) refl

  pub rests-injects : (i c : ℕ) (bytes : List ℕ) (s : State) → Rests m law (injects i c bytes) s
  unfolding machine_opened
  rests-injects i c bytes s = by (module_place i c s) refl
    where
      by : (o : Option Place) → module_place i c s ≡ o
          → Rests m law (given o (injects_at i c bytes)) s
      by None e = rests-nothing m law s
      by (Some p) e = λ told at. law.kept _ (injecting i c p bytes refl e) at

  quiet-shown : (lines : List (List ℕ)) → AreSilent (map entry.Shown lines)
  quiet-shown [] = tt
  quiet-shown (l ∷ ls) = (refl, quiet-shown ls)

  pub rests-shows : (s : State) → Rests m law shows s
  unfolding machine_opened
  rests-shows s =
      goes-tell_all m (acting m law) None [] Untouched (shown s) s (quiet-shown (lines_shown s))

  -- ---- giving up

  -- what is given up wasn't answered
  unanswered : (s : State) (n : ℕ) (how : Outcome) (result : ℕ) (payload : List ℕ)
      → how ≡ outcome.Answered result payload → IsGivenUpFor m s how n → ⊥
  unanswered s n outcome.Cancelled r p e cause = absurd cc
  unanswered s n outcome.Timeout r p e cause = absurd cc
  unanswered s n _ r p e cause = cause

  pub rests-gives_up : (n : ℕ) (how : Outcome) (s : State) → is_open n s.bus ≡ true
      → IsGivenUpFor m s how n → Rests m law (gives_up how n) s
  unfolding machine_opened
  rests-gives_up n how s unended cause =
      rests-▸ m law (on_bus (gave_up n how) ▸ tell (entry.Ended n how reading.Nothing))
      (follows n how) s (λ told at. law.kept _ (giving_up n how refl unended cause) at)
      (goes-follows m law n how (record s { bus = gave_up n how s.bus })
      (λ r p e. absurd (unanswered s n how r p e cause))
      (λ p e. absurd (unanswered s n how success p e cause)))

  pub rests-cancels : (name : Name) → m.event ≡ event.Cancel name
      → refusal m.before (event.Cancel name) ≡ None → Rests m law (cancels name) m.before
  unfolding machine_opened
  rests-cancels name is allowed = by (named name m.before.names) refl
    where
      some-made : (o : Option Request) → is_some o ≡ true → (r : Request) × (o ≡ Some r)
      some-made None h = absurd cc
      some-made (Some r) h = (r, refl)

      by : (o : Option ℕ) → named name m.before.names ≡ o
          → Rests m law (given o (gives_up outcome.Cancelled)) m.before
      by None e = rests-nothing m law m.before
      by (Some n) e = λ told at.
          let met = free m.before (event.Cancel name) allowed in
          let unended : is_some (outcome_of n m.before.bus) ≡ false =
          sym (ap (holds_of (λ k. is_some (outcome_of k m.before.bus))) e) ∙ met.1.0 in
          let made = some-made (request_of n m.before.bus)
          (made-named name m.before.names n m.before.bus (law.basis _ at).names e) in
          rests-gives_up n outcome.Cancelled m.before
          (is-open n m.before.bus made.0 made.1 (none-of (outcome_of n m.before.bus) unended))
          (record { name = name; event = is; named = e }) told at
