-- A law of points goes over the actions of the machine: the combinators, and asking.
use Rattle.std.proofs.Common.{Bool, List, None, Option, Some, ap, append-nil, append_assoc, false}
use Rattle.std.proofs.Common.{inl, inr, refl, subst, sym, true, ℕ, [], ◌++◌, ◌+◌, ◌<◌, ◌∙◌, ◌∷◌}
use Rattle.std.proofs.Common.{◌≡◌, ◌⊎◌}
use Rattle.std.specs.Prelude.{option_map, ◌==◌}
use Rattle.gb_base.specs.declared.bridge.Reading.TheVariants as reading
use Rattle.gb_base.specs.declared.end.End.{End}
use Rattle.gb_base.specs.declared.end.End.TheVariants as end
use Rattle.gb_base.specs.declared.end.Side.TheVariants as side
use Rattle.gb_base.specs.declared.entry.Entry.{Entry}
use Rattle.gb_base.specs.declared.entry.Entry.TheVariants as entry
use Rattle.gb_base.specs.declared.outcome.Outcome.TheVariants as outcome
use Rattle.gb_base.specs.declared.served.OwnAsk.{OwnAsk}
use Rattle.gb_formats.specs.Grammar.{default_timeout}
use Rattle.gb_machine.proofs.Opened.{machine_opened}
use Rattle.gb_machine.specs.Actions.{Action, each, given, nothing, tell, tell_all, when, ◌▸◌}
use Rattle.gb_machine.specs.Asking.{asked, asks as asking, asks_with}
use Rattle.gb_machine.specs.Bus.{Bus, Connection, connection_of, has_number, next_number}
use Rattle.gb_machine.specs.Sending.{Draft, draft, is_wired, label_for, sent}
use Rattle.gb_machine.specs.{OwnAsking.far_asks, OwnAsking.far_asks_all, Runs.Moment, State.State}
use Rattle.gb_machine.specs.{Turns.Act}
use Rattle.gb_invariants.proofs.{Awaiting.none-some, Awaiting.same-some, Found.find-changed}
use Rattle.gb_invariants.proofs.{ItemChanges.asked_on-self, Labels.asked_on, Labels.asked_on-number}
use Rattle.gb_laws.proofs.points.PointParts.{AreSilent, Hand, Wires, is_silent, sent_told}
use Rattle.gb_laws.proofs.points.Points.{IsFarAsking, IsUnloaded, asks, by_far, by_module}
use Rattle.gb_laws.proofs.points.Points.{loader_in, tells}
use Rattle.gb_laws.proofs.steps.LoaderStays.{AsksUnloaded}
use Rattle.gb_laws.proofs.{points.LowTypes.AreLow, steps.ServedOn.HasPeer, steps.StepActLaws.ActLaw}

-- the far end of a connection stays where a request was made there
peer-sent : (d : Draft) (label : ℕ) (e : End) (b : Bus) → HasPeer d.connection e b
    → HasPeer d.connection e (sent d label b)
peer-sent d label e b to c is = by (connection_of d.connection b) refl
  where
    changed : connection_of d.connection (sent d label b)
        ≡ option_map (asked_on d label b) (connection_of d.connection b)
    changed = find-changed (has_number d.connection) (asked_on d label b) b.connections
        (λ x. ap (λ n. n == d.connection) (asked_on-number d label b x))

    by : (o : Option Connection) → connection_of d.connection b ≡ o → c.peer ≡ e
    by None f = absurd (none-some (sym (changed ∙ ap (option_map (asked_on d label b)) f) ∙ is))
    by (Some x) f =
        let same = same-some (asked_on d label b x) c
        (sym (changed ∙ ap (option_map (asked_on d label b)) f) ∙ is) in
        sym (ap (λ (y : Connection). y.peer) same) ∙ (asked_on-self d label b x).peer ∙ to x f

-- so it does where a far side asks, and modules stay
pub far-asked : (k : ℕ) (x : OwnAsk) (e : End) (s : State) → HasPeer k e s.bus
    → HasPeer k e (far_asks k x s).state.bus × ((far_asks k x s).state.modules ≡ s.modules)
unfolding machine_opened
far-asked k x e s to = wired (is_wired (connection_of k s.bus))
  where
    d : Draft
    d = draft k side.Far x.kind x.payload (s.now + default_timeout) x.oneway

    Stay : State → Type 0
    Stay w = HasPeer k e w.bus × (w.modules ≡ s.modules)

    oneway : (t : Bool) (n : ℕ) (w : State) → Stay w
        → Stay (when t (tell (entry.Ended n outcome.Sent reading.Nothing)) w).state
    oneway true n w h = h
    oneway false n w h = h

    by : (o : Option Connection) (l : Option ℕ) → Stay (given o (λ c. given l
        (λ label. asks_with (draft k side.Far x.kind x.payload (s.now + default_timeout) x.oneway) c
        label)) s).state
    by None l = (to, refl)
    by (Some c) None = (to, refl)
    by (Some c) (Some label) = oneway x.oneway (next_number s.bus)
        (record s { bus = sent d label s.bus }) (peer-sent d label e s.bus to, refl)

    wired : (t : Bool) → Stay
        (when t (asking (draft k side.Far x.kind x.payload (s.now + default_timeout) x.oneway))
        s).state
    wired true = by (connection_of k s.bus) (label_for d s.bus)
    wired false = (to, refl)

-- a CPort has no firmware device, nor has that at the far end of a connection to it
unloaded-at : (i p : ℕ) (c : Connection) (s : State) → c.peer ≡ end.Module i p
    → loader_in i p s.modules ≡ None → IsUnloaded s c
unloaded-at i p c s peer none j q other =
    let same = sym other ∙ peer in
    ap (λ n. loader_in n q s.modules) (intf same) ∙ ap (λ n. loader_in i n s.modules) (cport same)
    ∙ none
  where
    intf : end.Module j q ≡ end.Module i p → j ≡ i
    intf e = cc

    cport : end.Module j q ≡ end.Module i p → q ≡ p
    cport e = cc

module _ (m : Moment) (law : ActLaw m) where
  -- the law at a point
  abbrev pub At : Option Hand → List Act → Wires → List Entry → State → Type 0
  At hand acts wires told s =
      law.holds (record {
        told = told;
        state = s;
        hand = hand;
        pending = acts;
        wires = wires;
        asked = None;
      })

  -- an action leads from the law at a state to the law behind it
  abbrev pub Goes : Option Hand → List Act → Wires → Option Hand → List Act → Wires → Action → State
      → Type 0
  Goes hand acts wires hand2 acts2 wires2 f s =
      (told : List Entry) → At hand acts wires told s
      → At hand2 acts2 wires2 (told ++ (f s).entries) (f s).state

  -- an action that changes nothing that the law has beside what was told and the state
  abbrev pub Stays : Option Hand → List Act → Wires → Action → State → Type 0
  Stays hand acts wires f s = Goes hand acts wires hand acts wires f s

  pub goes-▸ : {hand hand2 hand3 : Option Hand} {acts acts2 acts3 : List Act}
      {wires wires2 wires3 : Wires} (f g : Action) {s : State}
      → Goes hand acts wires hand2 acts2 wires2 f s
      → Goes hand2 acts2 wires2 hand3 acts3 wires3 g (f s).state
      → Goes hand acts wires hand3 acts3 wires3 (f ▸ g) s
  unfolding machine_opened
  goes-▸ {hand3} {acts3} {wires3} f g {s} h k told at =
      subst (λ es. At hand3 acts3 wires3 es (g (f s).state).state)
      (append_assoc told (f s).entries (g (f s).state).entries)
      (k (told ++ (f s).entries) (h told at))

  pub goes-nothing : (hand : Option Hand) (acts : List Act) (wires : Wires) (s : State)
      → Stays hand acts wires nothing s
  unfolding machine_opened
  goes-nothing hand acts wires s told at =
      subst (λ es. At hand acts wires es s) (sym (append-nil told)) at

  pub goes-tell : (hand : Option Hand) (acts : List Act) (wires : Wires) (e : Entry) (s : State)
      → is_silent e ≡ true → Stays hand acts wires (tell e) s
  unfolding machine_opened
  goes-tell hand acts wires e s quiet told at = law.kept _ (tells e quiet) tt at

  pub goes-tell_all : (hand : Option Hand) (acts : List Act) (wires : Wires) (es : List Entry)
      (s : State) → AreSilent es → Stays hand acts wires (tell_all es) s
  unfolding machine_opened
  goes-tell_all hand acts wires [] s quiet told at =
      subst (λ es. At hand acts wires es s) (sym (append-nil told)) at
  goes-tell_all hand acts wires (e ∷ es) s quiet told at =
      subst (λ all. At hand acts wires all s) (append_assoc told (e ∷ []) es)
      (goes-tell_all hand acts wires es s quiet.1 (told ++ e ∷ [])
      (law.kept _ (tells e quiet.0) tt at))

  pub goes-when : (hand : Option Hand) (acts : List Act) (wires : Wires) (b : Bool) (f : Action)
      (s : State) → (b ≡ true → Stays hand acts wires f s) → Stays hand acts wires (when b f) s
  unfolding machine_opened
  goes-when hand acts wires true f s h = h refl
  goes-when hand acts wires false f s h = goes-nothing hand acts wires s

  -- ---- asking

  pub goes-asks : (acts : List Act) (wires : Wires) (d : Draft) (s : State)
      → ((c : Connection) → connection_of d.connection s.bus ≡ Some c
      → IsFarAsking m c d × (c.wired ≡ true) × ((d.connection ≡ 1) ⊎ IsUnloaded s c))
      → d.kind < 128 → Stays None acts wires (asking d) s
  unfolding machine_opened
  goes-asks acts wires d s who low told at =
      by (connection_of d.connection s.bus) refl (label_for d s.bus) refl
    where
      oneway : (t : Bool) (w : State) (e : Entry) (n : ℕ)
          → At None acts wires (told ++ e ∷ sent_told t n) w
          → At None acts wires (told ++ e ∷ (when t
          (tell (entry.Ended n outcome.Sent reading.Nothing)) w).entries)
          (when t (tell (entry.Ended n outcome.Sent reading.Nothing)) w).state
      oneway true w e n h = h
      oneway false w e n h = h

      by : (o : Option Connection) → connection_of d.connection s.bus ≡ o → (l : Option ℕ)
          → label_for d s.bus ≡ l
          → At None acts wires (told ++ (given o (λ c. given l (λ label. asks_with d c label))
          s).entries) (given o (λ c. given l (λ label. asks_with d c label)) s).state
      by None e l f = goes-nothing None acts wires s told at
      by (Some c) e None f = goes-nothing None acts wires s told at
      by (Some c) e (Some label) f =
          oneway d.oneway (record s { bus = sent d label s.bus }) (asked d c label s.bus)
          (next_number s.bus)
          (law.kept _ (asks d c label refl e f
          (by_far (who c e).0 ((who c e).1, low) (who c e).2)) tt at)

  pub goes-far_asks : (acts : List Act) (wires : Wires) (k : ℕ) (own : OwnAsk) (s : State)
      → ((c : Connection) → connection_of k s.bus ≡ Some c → IsFarAsking m c
      (draft k side.Far own.kind own.payload (s.now + default_timeout) own.oneway)
      × ((k ≡ 1) ⊎ IsUnloaded s c)) → own.kind < 128 → Stays None acts wires (far_asks k own) s
  unfolding machine_opened
  goes-far_asks acts wires k own s who low =
      goes-when None acts wires (is_wired (connection_of k s.bus))
      (asking (draft k side.Far own.kind own.payload (s.now + default_timeout) own.oneway)) s
      (λ e. goes-asks acts wires (draft k side.Far own.kind own.payload (s.now + default_timeout)
      own.oneway) s (λ c f. ((who c f).0, sym (ap is_wired f) ∙ e, (who c f).1)) low)

  -- a module's requests, one after another, on a connection to it
  pub goes-far_asks_all : (acts : List Act) (wires : Wires) (i p k : ℕ) (own : List OwnAsk)
      (s : State) → HasPeer k (end.Module i p) s.bus → AreLow own
      → AsksUnloaded own (loader_in i p s.modules) → Stays None acts wires (far_asks_all k own) s
  unfolding machine_opened
  goes-far_asks_all acts wires i p k [] s to low unloaded = goes-nothing None acts wires s
  goes-far_asks_all acts wires i p k (x ∷ xs) s to low (inl empty) = absurd cc
  goes-far_asks_all acts wires i p k (x ∷ xs) s to low (inr none) =
      let after = far-asked k x (end.Module i p) s to in
      goes-▸ (far_asks k x) (each xs (far_asks k))
      (goes-far_asks acts wires k x s (λ c e. (
        by_module i p (to c e) refl,
        inr (unloaded-at i p c s (to c e) none),
      )) low.0)
      (goes-far_asks_all acts wires i p k xs (far_asks k x s).state after.0 low.1
      (inr (ap (loader_in i p) after.1 ∙ none)))
