-- What comes to modules from outside.
use Rattle.std.proofs.Common.{◌≡◌, ◌≤◌, ℕ, Option, Some, None, is_none, option_map, Result, Ok, Err}
use Rattle.std.proofs.Common.{List, [], ◌∷◌, length, set, refl, sym, ap, ◌∙◌, subst}
use Rattle.std.specs.Prelude.{option_and_then}
use Rattle.std.specs.List.{position_from}
use Rattle.gb_base.specs.declared.entry.Entry.{Entry}
use Rattle.gb_base.specs.declared.event.Event.{Event}
use Rattle.gb_base.specs.declared.refusal.Refusal.TheVariants as why
use Rattle.gb_base.specs.declared.served.OwnAsk.{OwnAsk}
use Rattle.gb_bus.specs.Wiring.{number_of}
use Rattle.gb_formats.specs.Devices.{Stir}
use Rattle.gb_formats.specs.Module.{Module}
use Rattle.gb_formats.specs.ModuleSteps.{module_stir}
use Rattle.gb_formats.specs.Results.{Stirred, most_payload}
use Rattle.gb_invariants.proofs.Awaiting.{same-some}
use Rattle.gb_invariants.proofs.Manifests.{stir-manifest}
use Rattle.gb_machine.proofs.Opened.{machine_opened}
use Rattle.gb_machine.specs.Actions.{Action, by_state, given}
use Rattle.gb_machine.specs.Bus.{Place}
use Rattle.gb_machine.specs.Events.{does}
use Rattle.gb_machine.specs.LineActions.{stirred, stirs}
use Rattle.gb_machine.specs.Lists.{Condition, first_met}
use Rattle.gb_machine.specs.Modules.{is_plugged_at, module_at, with_module}
use Rattle.gb_machine.specs.OwnAsking.{far_asks_all}
use Rattle.gb_machine.specs.Refusals.{module_place, refusal, stir_conditions}
use Rattle.gb_machine.specs.State.{Plugged, State}
use Rattle.gb_module.specs.Stirring.{StirsAs}
use Rattle.gb_module.specs.Views.{stir_of}
use Rattle.gb_module.specs.declared.stir.Stir as code
use Rattle.gb_module.specs.declared.stir.Stir.TheVariants as stir
use Rattle.gb_module.specs.declared.stir.StirFault.{StirFault}
use Rattle.gb_module.specs.declared.stir.StirFault.TheVariants as fault
use Rattle.gb_system.proofs.Doings.{does-by_state, does-change}
use Rattle.gb_system.proofs.Doings.{does-given, does-given_none, does-then}
use Rattle.gb_system.proofs.Fits.{stir-asks}
use Rattle.gb_system.proofs.ModuleServes.{short-at, short-with, with_modules}
use Rattle.gb_system.proofs.Plugged.{IsPlaced, none-there}
use Rattle.gb_system.proofs.Standing.{modules-stay, stands-with}
use Rattle.gb_system.specs.Acting.{AreAskable}
use Rattle.gb_system.specs.Doing.{Does, IsDone, IsRefused}
use Rattle.gb_system.specs.Plugging.{StirsAt, StirsThere, event_of_stir}
use Rattle.gb_system.specs.Stands.{PartiesStand, PartsStand}
use Rattle.gb_system.specs.declared.parties.Parties.{Parties}

-- ---- the modules

-- where none is plugged, none is stirred
pub none-stirs : (i c : ℕ) (what : Stir) (ps : List Plugged) (o : Option ℕ)
    → o ≡ position_from (is_plugged_at i) 0 ps → o ≡ None
    → StirsThere i c what (module_at i ps) ps ps (Ok None)
none-stirs i c what ps o first is =
    subst (λ m. StirsThere i c what m ps ps (Ok None))
    (sym (none-there i ps o first is)) (refl, refl)

-- an answer of one module, as one of them all
abbrev pub of_all : Result (List OwnAsk) StirFault → Result (Option (List OwnAsk)) StirFault
of_all (Ok own) = Ok (Some own)
of_all (Err why) = Err why

-- a module is stirred among the others
stirs-at : (i : ℕ) (o : Option (Stirred Module)) (x y : Module) (ps zs : List Plugged)
    (r : Result (List OwnAsk) StirFault) → StirsAs o x y r → zs ≡ with_module i y ps
    → (y ≡ x → zs ≡ ps) → StirsAt i o ps zs (of_all r)
stirs-at i o x y ps zs (Ok own) h changed kept =
    subst (λ (p : Option (Stirred Module)). StirsAt i p ps zs (Ok (Some own))) (sym h)
    (refl, changed)
stirs-at i o x y ps zs (Err fault.NoCport) h changed kept =
    subst (λ (p : Option (Stirred Module)). StirsAt i p ps zs (Err fault.NoCport)) (sym h.0)
    (refl, kept h.1)
stirs-at i None x y ps zs (Err (fault.Memory refused)) h changed kept = absurd (cc (h.0))
stirs-at i (Some t) x y ps zs (Err (fault.Memory refused)) h changed kept = kept h.1

-- the module at a place is stirred
pub one-stirs : (i c : ℕ) (what : Stir) {ps zs : List Plugged} {n : ℕ} {x : Plugged} (m : Module)
    (r : Result (List OwnAsk) StirFault) → IsPlaced i ps zs n x
    → StirsAs (module_stir x.body c what) x.body m r
    → StirsThere i c what (module_at i ps) ps (set zs n (record x { body = m })) (of_all r)
one-stirs i c what {ps} {zs} {n} {x} m r one stirred =
    let after = set zs n (record x { body = m }) in
    subst (λ o. StirsThere i c what o ps after (of_all r)) (sym one.found)
    (stirs-at i (module_stir x.body c what) x.body m ps after r stirred (one.changed m)
    (one.kept m))

-- ---- the event

-- what refuses it, and what it does
refuses-stir : (i c : ℕ) (what : code.Stir) (s : State)
    → refusal s (event_of_stir i c what) ≡ first_met (stir_conditions s i c (stir_of what))
refuses-stir i c (stir.Level line value) s = refl
refuses-stir i c (stir.Serial control) s = refl

does-stir : (i c : ℕ) (what : code.Stir)
    → does (event_of_stir i c what) ≡ stirs i c (stir_of what)
unfolding machine_opened
does-stir i c (stir.Level line value) = refl
does-stir i c (stir.Serial control) = refl

-- the conditions of its refusals, by what is plugged
abbrev refusals_by : ℕ → Stir → Option Module → List Condition
refusals_by c what o =
    (is_none o, why.NoInterface)
    ∷ (is_none (option_and_then (λ m. module_stir m c what) o), why.NoCport)
    ∷ []

refusal-is : (x : Parties) (i c : ℕ) (what : code.Stir) (s : State) → PartiesStand x s
    → refusal s (event_of_stir i c what)
    ≡ first_met (refusals_by c (stir_of what) (module_at i x.modules))
refusal-is x i c what s st =
    refuses-stir i c what s
    ∙ ap (λ ms. first_met (refusals_by c (stir_of what) (module_at i ms))) st.parts.plugged.modules

-- none is plugged at the interface
pub stir-nowhere : (x : Parties) (s : State) (i c : ℕ) (what : code.Stir) (mods : List Plugged)
    → PartiesStand x s
    → StirsThere i c (stir_of what) (module_at i x.modules) x.modules mods (Ok None)
    → IsRefused (record x { modules = mods }) s (event_of_stir i c what) why.NoInterface
stir-nowhere x s i c what mods st h = by (module_at i x.modules) refl h
  where
    by : (o : Option Module) → module_at i x.modules ≡ o
        → StirsThere i c (stir_of what) o x.modules mods (Ok None)
        → IsRefused (record x { modules = mods }) s (event_of_stir i c what) why.NoInterface
    by None there t = record {
      refused =
          refusal-is x i c what s st
          ∙ ap (λ o. first_met (refusals_by c (stir_of what) o)) there;
      stand = modules-stay mods t.1 st.parts;
    }
    by (Some m) there t = absurd (no (module_stir m c (stir_of what)) t)
      where
        no : (o : Option (Stirred Module)) → StirsAt i o x.modules mods (Ok None) → ⊥
        no None u = cc (u.0)
        no (Some v) u = cc (u.0)

-- the module has no such device
pub stir-unfit : (x : Parties) (s : State) (i c : ℕ) (what : code.Stir) (mods : List Plugged)
    → PartiesStand x s
    → StirsThere i c (stir_of what) (module_at i x.modules) x.modules mods (Err fault.NoCport)
    → IsRefused (record x { modules = mods }) s (event_of_stir i c what) why.NoCport
stir-unfit x s i c what mods st h = by (module_at i x.modules) refl h
  where
    by : (o : Option Module) → module_at i x.modules ≡ o
        → StirsThere i c (stir_of what) o x.modules mods (Err fault.NoCport)
        → IsRefused (record x { modules = mods }) s (event_of_stir i c what) why.NoCport
    by None there t = absurd (cc (t.0))
    by (Some m) there t = at (module_stir m c (stir_of what)) refl t
      where
        at : (o : Option (Stirred Module)) → module_stir m c (stir_of what) ≡ o
            → StirsAt i o x.modules mods (Err fault.NoCport)
            → IsRefused (record x { modules = mods }) s (event_of_stir i c what) why.NoCport
        at None none u = record {
          refused =
              refusal-is x i c what s st
              ∙ ap (λ o. first_met (refusals_by c (stir_of what) o)) there
              ∙ ap (λ o. first_met ((is_none o, why.NoCport) ∷ [])) none;
          stand = modules-stay mods u.1 st.parts;
        }
        at (Some v) some u = absurd u

-- ---- the requests of its own

-- requests of a module's own on the wired connection at its CPort
unfoldable asks_there : ℕ → ℕ → List OwnAsk → Action
asks_there i c own =
    by_state (λ t. given (module_place i c t) (λ p. far_asks_all p.connection.number own))

-- what a module asks where its device was stirred
asked-there : {x y : Parties} {s : State} {a b : List Entry} (i c : ℕ) (own : List OwnAsk)
    (o : Option ℕ) → o ≡ option_map number_of (module_place i c s) → PartsStand [] x s
    → ((k : ℕ) → o ≡ Some k → Does y (far_asks_all k own) s a b)
    → (o ≡ None → (y ≡ x) × (b ≡ a))
    → Does y (asks_there i c own) s a b
unfolding asks_there
asked-there {x} {y} {s} {a} {b} i c own o is st asks still =
    does-by_state (λ t. given (module_place i c t) at) (by (module_place i c s) refl is)
  where
    at : Place → Action
    at p = far_asks_all p.connection.number own

    by : (p : Option Place) → module_place i c s ≡ p → o ≡ option_map number_of p
        → Does y (given (module_place i c s) at) s a b
    by None there e =
        let same = still e in
        subst (λ (z : Parties). Does z (given (module_place i c s) at) s a b) (sym same.0)
        (subst (λ (es : List Entry). Does x (given (module_place i c s) at) s a es) (sym same.1)
        (does-given_none at there st))
    by (Some p) there e = does-given at p there (asks p.connection.number e)

-- the machine's action, by what is plugged
does-stirs : {x y : Parties} {s : State} {a b : List Entry} (i c : ℕ) (what : Stir) (m : Module)
    (v : Stirred Module) → module_at i s.modules ≡ Some m → module_stir m c what ≡ Some v
    → PartsStand [] x (with_modules (with_module i v.after s.modules) s)
    → Does y (asks_there i c v.asks) (with_modules (with_module i v.after s.modules) s) a b
    → Does y (stirs i c what) s a b
unfolding machine_opened asks_there
does-stirs {x} {y} {s} i c what m v found some stand asks =
    does-by_state (λ w. given (module_at i w.modules)
    (λ n. given (module_stir n c what) (stirred i c)))
    (does-given (λ n. given (module_stir n c what) (stirred i c)) m found
    (does-given (stirred i c) v some
    (does-then (does-change (λ w. with_modules (with_module i v.after w.modules) w) stand) asks)))

-- A device is stirred, and the module asks.
stir-done : (x y : Parties) (s : State) (i c : ℕ) (what : code.Stir) (mods : List Plugged)
    (own : List OwnAsk) (o : Option ℕ) (before es : List Entry) → PartiesStand x s
    → StirsThere i c (stir_of what) (module_at i x.modules) x.modules mods (Ok (Some own))
    → ((t : State) → PartsStand [] (record x { modules = mods }) t
    → o ≡ option_map number_of (module_place i c t))
    → ((k : ℕ) (t : State) → o ≡ Some k → PartsStand [] (record x { modules = mods }) t
    → AreAskable own → Does y (far_asks_all k own) t before es)
    → (o ≡ None → (y ≡ record x { modules = mods }) × (es ≡ before))
    → IsDone y s (event_of_stir i c what) before es
stir-done x y s i c what mods own o before es st h names asks still =
    by (module_at i x.modules) refl h
  where
    e : Event
    e = event_of_stir i c what

    by : (p : Option Module) → module_at i x.modules ≡ p
        → StirsThere i c (stir_of what) p x.modules mods (Ok (Some own))
        → IsDone y s e before es
    by None there t = absurd (cc (t.0))
    by (Some m) there t = at (module_stir m c (stir_of what)) refl t
      where
        found : module_at i s.modules ≡ Some m
        found = ap (module_at i) st.parts.plugged.modules ∙ there

        at : (v : Option (Stirred Module)) → module_stir m c (stir_of what) ≡ v
            → StirsAt i v x.modules mods (Ok (Some own)) → IsDone y s e before es
        at None none u = absurd (cc (u.0))
        at (Some v) some u = record {
          allowed = allowed;
          done =
              subst (λ (f : Action). Does y f s before es) (sym (does-stir i c what)) stirs-as;
        }
          where
            allowed : refusal s e ≡ None
            allowed =
                refusal-is x i c what s st
                ∙ ap (λ p. first_met (refusals_by c (stir_of what) p)) there
                ∙ ap (λ p. first_met ((is_none p, why.NoCport) ∷ [])) some

            own_is : own ≡ v.asks
            own_is = let same : Some own ≡ Some v.asks = u.0 in cc

            t1 : State
            t1 = with_modules (with_module i v.after s.modules) s

            short : length v.after.manifest ≤ most_payload
            short =
                subst (λ (bytes : List ℕ). length bytes ≤ most_payload)
                (sym (stir-manifest m c (stir_of what) v some))
                (short-at i s.modules m st.parts.plugged.short found)

            stand : PartsStand [] (record x { modules = mods }) t1
            stand =
                stands-with (with_module i v.after s.modules) mods
                (ap (with_module i v.after) st.parts.plugged.modules ∙ sym u.1)
                (short-with i v.after s.modules short st.parts.plugged.short) st.parts

            askable : AreAskable own
            askable = subst AreAskable (sym own_is) (stir-asks m c (stir_of what) v some)

            stirs-as : Does y (stirs i c (stir_of what)) s before es
            stirs-as =
                does-stirs i c (stir_of what) m v found some stand
                (subst (λ (qs : List OwnAsk). Does y (asks_there i c qs) t1 before es) own_is
                (asked-there i c own o (names t1 stand) stand
                (λ k is. asks k t1 is stand askable) still))

-- its CPort is wired
pub stir-wired : (x y : Parties) (s : State) (i c : ℕ) (what : code.Stir) (mods : List Plugged)
    (own : List OwnAsk) (o : Option ℕ) (k : ℕ) (before es : List Entry) → PartiesStand x s
    → StirsThere i c (stir_of what) (module_at i x.modules) x.modules mods (Ok (Some own))
    → ((t : State) → PartsStand [] (record x { modules = mods }) t
    → o ≡ option_map number_of (module_place i c t))
    → o ≡ Some k
    → ((t : State) → PartsStand [] (record x { modules = mods }) t → AreAskable own
    → Does y (far_asks_all k own) t before es)
    → IsDone y s (event_of_stir i c what) before es
stir-wired x y s i c what mods own o k before es st h names at asks =
    stir-done x y s i c what mods own o before es st h names
    (λ j t is stand askable.
    subst (λ n. Does y (far_asks_all n own) t before es)
    (same-some k j (sym at ∙ is)) (asks t stand askable))
    (λ none. absurd (let both : Some k ≡ None = sym at ∙ none in cc))

-- it isn't
pub stir-unwired : (x : Parties) (s : State) (i c : ℕ) (what : code.Stir) (mods : List Plugged)
    (own : List OwnAsk) (o : Option ℕ) (told : List Entry) → PartiesStand x s
    → StirsThere i c (stir_of what) (module_at i x.modules) x.modules mods (Ok (Some own))
    → ((t : State) → PartsStand [] (record x { modules = mods }) t
    → o ≡ option_map number_of (module_place i c t))
    → ((k : ℕ) → o ≡ Some k → ⊥)
    → IsDone (record x { modules = mods }) s (event_of_stir i c what) told told
stir-unwired x s i c what mods own o told st h names none =
    stir-done x (record x { modules = mods }) s i c what mods own o told told st h names
    (λ j t is. absurd (none j is)) (λ same. (refl, refl))
