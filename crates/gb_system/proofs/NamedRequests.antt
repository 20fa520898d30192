-- The request of a name is cancelled, and names are copied and freed, as the machine does.
use Rattle.std.proofs.Common.{◌≡◌, ℕ, Bool, true, false, cond, not, Option, Some, None, is_some}
use Rattle.std.proofs.Common.{is_none, ◌&&◌, List, [], ◌∷◌, ◌++◌, map, length, ◌<◌, refl, sym}
use Rattle.std.proofs.Common.{ap, ◌∙◌, subst}
use Rattle.gb_base.specs.declared.bridge.Reading.TheVariants as reading
use Rattle.gb_base.specs.declared.entry.Entry.{Entry}
use Rattle.gb_base.specs.declared.entry.Entry.TheVariants as entry
use Rattle.gb_base.specs.declared.event.Event.TheVariants as event
use Rattle.gb_base.specs.declared.name.Name.{Name}
use Rattle.gb_base.specs.declared.outcome.Outcome.{Outcome}
use Rattle.gb_base.specs.declared.outcome.Outcome.TheVariants as outcome
use Rattle.gb_base.specs.declared.refusal.Refusal.{Refusal}
use Rattle.gb_base.specs.declared.refusal.Refusal.TheVariants as why
use Rattle.gb_bus.proofs.Named.{alike}
use Rattle.gb_bus.specs.Cancelling.{GivesUp, GivesUpNothing}
use Rattle.gb_bus.specs.Naming.{KeepsAs, asked_for, with_name, without_name}
use Rattle.gb_bus.specs.Slots.{most_names}
use Rattle.gb_bus.specs.Stands as bus
use Rattle.gb_bus.specs.declared.bus.Bus as code
use Rattle.gb_laws.proofs.runs.Reached.{reached-gave_up, reached-names}
use Rattle.gb_machine.proofs.Options.{none-of}
use Rattle.gb_machine.proofs.Opened.{machine_opened}
use Rattle.gb_machine.specs.Actions.{change, given, tell, ◌▸◌}
use Rattle.gb_machine.specs.Bus.{Bus, Request, outcome_of, request_of}
use Rattle.gb_machine.specs.Events.{does}
use Rattle.gb_machine.specs.GivingUp.{gives_up}
use Rattle.gb_machine.specs.HostActs.{follows}
use Rattle.gb_machine.specs.Lists.{Condition, first_met, holds_of, in_order, sorted, without}
use Rattle.gb_machine.specs.Members.{Each}
use Rattle.gb_machine.specs.Names.{bound, freed, named, same_name}
use Rattle.gb_machine.specs.Requests.{gave_up}
use Rattle.gb_machine.specs.State.{State}
use Rattle.gb_system.proofs.BoundNames.{apart-bound, apart-freed, named-sorted, sorted-bound}
use Rattle.gb_system.proofs.BoundNames.{sorted-freed}
use Rattle.gb_system.proofs.Doings.{does-by_state, does-change, does-given}
use Rattle.gb_system.proofs.Endings.{lost}
use Rattle.gb_system.proofs.NameCounts.{count-bound, count-freed, length-sorted, made-bound}
use Rattle.gb_system.proofs.NameCounts.{made-freed, named-asked}
use Rattle.gb_system.proofs.Standing.{rebussed}
use Rattle.gb_system.specs.Doing.{Does, IsDone, IsRefused}
use Rattle.gb_system.specs.Ending.{IsAwaited}
use Rattle.gb_laws.specs.Possible.{MayFollow}
use Rattle.gb_system.specs.NameOrder.{AreApart}
use Rattle.gb_system.specs.Showing.{pair_before}
use Rattle.gb_system.specs.Stands.{PartiesStand, PartsStand, around_bus, held_items, names_of}
use Rattle.gb_system.specs.Ticking.{given_up}
use Rattle.gb_system.specs.declared.parties.Parties.{Parties}

-- what a name names in the state that the parties stand for
pub named-parts : (x : Parties) (s : State) (name : Name) → PartsStand [] x s
    → named name s.names ≡ named name x.names
named-parts x s name st =
    sym (named-sorted name s.names st.names.apart) ∙ ap (named name) st.names.listed

pub named-is : (x : Parties) (s : State) (name : Name) → PartiesStand x s
    → named name s.names ≡ named name x.names
named-is x s name st = named-parts x s name st.parts

-- what it names, where a key is the name
pub named-as : {key name : Name} (names : List (Name × ℕ)) {o : Option ℕ} → key ≡ name
    → o ≡ named key names → named name names ≡ o
named-as names same is = ap (λ n. named n names) (sym same) ∙ sym is

-- The parties stand for a state with other names, and a bus with these.
renamed : (x : Parties) (s : State) (y : code.Bus) {names : List (Name × ℕ)}
    (others : List (Name × ℕ)) → PartsStand [] x s
    → bus.Stands (bus.around_of (held_items s) (map (λ p. p.1) others)) y s.bus
    → sorted pair_before others ≡ names → AreApart others
    → PartsStand [] (record x { bus = y; names = names }) (record s { names = others })
renamed x s y others st stands same apart = record {
  bus = stands;
  requests = st.requests;
  ports = st.ports;
  plugged = st.plugged;
  host = st.host;
  names = record { listed = same; apart = apart };
  rest = st.rest;
}

-- A name is bound to a request, where it was free, and fewer names were than have a number.
pub record Binds (old new : List (Name × ℕ)) (name : Name) (n : ℕ) : Type 0 where
  pub bound : named name old ≡ None → new ≡ in_order pair_before (name, n) old
  pub room : length old < most_names

-- a request has one more name
abbrev pub Keeps : code.Bus → code.Bus → ℕ → Type 0
Keeps old new n = (around : bus.Around) (b : Bus) → bus.Stands around old b
    → KeepsAs around new n b

-- a request has one name less
abbrev pub Loosens : code.Bus → code.Bus → ℕ → Type 0
Loosens old new n = (around : bus.Around) (b : Bus) → bus.Stands around old b
    → bus.Stands (without_name n around) new b

-- one name more is bound
pub bound-stand : (x : Parties) (s : State) (y : code.Bus) (names : List (Name × ℕ)) (name : Name)
    (n : ℕ) → PartsStand [] x s → named name s.names ≡ None → Binds x.names names name n
    → Keeps x.bus y n → is_some (asked_for (names_of s) n s.bus) ≡ true
    → PartsStand [] (record x { bus = y; names = names }) (bound name n s)
bound-stand x s y names name n st free binds keeps asked =
    renamed x s y (s.names ++ (name, n) ∷ []) st
    (alike (with_name n (around_bus [] s)) (names_of (bound name n s)) y s.bus
    (λ m. count-bound m n name s.names)
    (made-bound n name s.names s.bus with_it.named.0 st.bus.named)
    with_it)
    (sorted-bound name n s.names free
    ∙ ap (in_order pair_before (name, n)) st.names.listed
    ∙ sym (binds.bound (sym (named-parts x s name st) ∙ free)))
    (apart-bound name n s.names st.names.apart free)
  where
    room : length (names_of s) < most_names
    room = subst (λ k. k < most_names)
        (ap length (sym st.names.listed) ∙ length-sorted s.names) binds.room

    with_it : bus.Stands (with_name n (around_bus [] s)) y s.bus
    with_it = subst (λ t. bus.Stands (cond t (with_name n (around_bus [] s)) (around_bus [] s)) y
        s.bus) asked (keeps (around_bus [] s) s.bus st.bus room)

-- a name is free again
pub freed-stand : (x : Parties) (s : State) (y : code.Bus) (names : List (Name × ℕ)) (name : Name)
    (n : ℕ) → PartsStand [] x s → named name s.names ≡ Some n
    → names ≡ without (λ p. same_name p.0 name) x.names → Loosens x.bus y n
    → PartsStand [] (record x { bus = y; names = names }) (freed name s)
freed-stand x s y names name n st names_it is loosens =
    renamed x s y (without (λ p. same_name p.0 name) s.names) st
    (alike (without_name n (around_bus [] s)) (names_of (freed name s)) y s.bus
    (λ m. count-freed m n name s.names st.names.apart names_it)
    (made-freed (λ p. same_name p.0 name) s.names s.bus st.bus.named)
    (loosens (around_bus [] s) s.bus st.bus))
    (sorted-freed (λ p. same_name p.0 name) s.names st.names.apart
    ∙ ap (without (λ p. same_name p.0 name)) st.names.listed ∙ sym is)
    (apart-freed (λ p. same_name p.0 name) s.names st.names.apart)

-- ---- cancels

-- the conditions of a cancel's refusals, by what the name names
abbrev cancel_conditions : State → Option ℕ → List Condition
cancel_conditions s o =
    (is_none o, why.NoName)
    ∷ (holds_of (λ n. is_some (outcome_of n s.bus)) o, why.AlreadyEnded)
    ∷ []

-- a name that names nothing
pub cancel-unnamed : (x : Parties) (s : State) (name : Name) → PartiesStand x s
    → named name x.names ≡ None → IsRefused x s (event.Cancel name) why.NoName
cancel-unnamed x s name st h = record {
  refused = ap (λ o. first_met (cancel_conditions s o)) (named-is x s name st ∙ h);
  stand = st.parts;
}

-- an open request has no outcome
unended : (r : Option Request) (o : Option Outcome) → is_some r && is_none o ≡ true → o ≡ None
unended (Some r) None h = refl
unended (Some r) (Some how) h = absurd cc
unended None o h = absurd cc

-- one that was made and isn't open has one
over : (r : Option Request) (o : Option Outcome) → is_some r ≡ true
    → is_some r && is_none o ≡ false → is_some o ≡ true
over (Some r) (Some how) made h = refl
over (Some r) None made h = absurd cc
over None o made h = absurd cc

-- the request that a name names was made
named-made : (names : List (Name × ℕ)) (name : Name) (n : ℕ) (b : Bus)
    → Each (λ (p : Name × ℕ). is_some (request_of p.1 b) ≡ true) names → named name names ≡ Some n
    → is_some (request_of n b) ≡ true
named-made [] name n b made h = absurd cc
named-made (p ∷ ps) name n b made h = by (named-made ps name n b made.1) (same_name p.0 name) h
  where
    by : (named name ps ≡ Some n → is_some (request_of n b) ≡ true) → (c : Bool)
        → cond c (Some p.1) (named name ps) ≡ Some n → is_some (request_of n b) ≡ true
    by later true e = subst (λ m. is_some (request_of m b) ≡ true) (cc (e)) made.0
    by later false e = later e

-- a request that had ended before
pub cancel-ended : (x : Parties) (z : code.Bus) (s : State) (name : Name) (n : ℕ)
    → PartiesStand x s → named name x.names ≡ Some n → GivesUpNothing (around_bus [] s) z n s.bus
    → IsRefused (record x { bus = z }) s (event.Cancel name) why.AlreadyEnded
cancel-ended x z s name n st h cancels =
    let names_it = named-is x s name st ∙ h in
    let made = named-made s.names name n s.bus (reached-names s st.run) names_it in
    let ended = over (request_of n s.bus) (outcome_of n s.bus) made cancels.over in record {
      refused =
          ap (λ o. first_met (cancel_conditions s o)) names_it
          ∙ ap (λ b. first_met ((b, why.AlreadyEnded) ∷ [])) ended;
      stand = rebussed [] z s.bus st.parts cancels.stands refl;
    }

-- what is done where a request is given up
pub does-gives_up : {y : Parties} (s : State) (how : Outcome) (n : ℕ) {before es : List Entry}
    → Does y (tell (entry.Ended n how reading.Nothing) ▸ follows n how) (given_up n how s) before es
    → Does y (gives_up how n) s before es
unfolding machine_opened
does-gives_up s how n d = record { told_is = d.told_is; stand = d.stand }

-- what a cancel does
does-cancels : {y : Parties} (s : State) (name : Name) (n : ℕ) {before es : List Entry}
    → named name s.names ≡ Some n → Does y (gives_up outcome.Cancelled n) s before es
    → Does y (does (event.Cancel name)) s before es
unfolding machine_opened
does-cancels s name n is d =
    does-by_state (λ t. given (named name t.names) (gives_up outcome.Cancelled))
    (does-given (gives_up outcome.Cancelled) n is d)

-- an open request is given up
pub cancel-done : (x y : Parties) (z : code.Bus) (s : State) (name : Name) (n : ℕ)
    (before es : List Entry) → PartiesStand x s → named name x.names ≡ Some n
    → GivesUp (around_bus [] s) z outcome.Cancelled n s.bus
    → (PartsStand [] (record x { bus = z }) (given_up n outcome.Cancelled s)
    → IsAwaited n (given_up n outcome.Cancelled s)
    → MayFollow n outcome.Cancelled (given_up n outcome.Cancelled s)
    → Does y (tell (entry.Ended n outcome.Cancelled reading.Nothing) ▸ follows n outcome.Cancelled)
    (given_up n outcome.Cancelled s) before es)
    → IsDone y s (event.Cancel name) before es
cancel-done x y z s name n before es st h cancels ends =
    let names_it = named-is x s name st ∙ h in
    let still = unended (request_of n s.bus) (outcome_of n s.bus) cancels.unended in record {
      allowed =
          ap (λ o. first_met (cancel_conditions s o)) names_it
          ∙ ap (λ o. first_met ((is_some o, why.AlreadyEnded) ∷ [])) still;
      done =
          does-cancels s name n names_it (does-gives_up s outcome.Cancelled n (ends
          (rebussed [] z (gave_up n outcome.Cancelled s.bus) st.parts cancels.stands refl)
          (lost n outcome.Cancelled s cancels.unended)
          (reached-gave_up s n outcome.Cancelled st.run)));
    }

-- ---- copies

-- why a copy is refused, by what the two names name
abbrev copy_refusal : Option ℕ → Option ℕ → Option Refusal
copy_refusal from to = first_met
    ((not (is_some from), why.NoName) ∷ (is_some to, why.Occupied) ∷ [])

-- the name to be copied names nothing
pub copy-unnamed : (x : Parties) (s : State) (from to : Name) → PartiesStand x s
    → named from x.names ≡ None → IsRefused x s (event.Copy from to) why.NoName
copy-unnamed x s from to st h = record {
  refused = ap (λ o. copy_refusal o (named to s.names)) (named-is x s from st ∙ h);
  stand = st.parts;
}

-- the new name names something
pub copy-occupied : (x : Parties) (s : State) (from to : Name) (n : ℕ) → PartiesStand x s
    → named from x.names ≡ Some n → is_some (named to x.names) ≡ true
    → IsRefused x s (event.Copy from to) why.Occupied
copy-occupied x s from to n st h taken = record {
  refused =
      ap (λ o. copy_refusal o (named to s.names)) (named-is x s from st ∙ h)
      ∙ ap (λ b. first_met ((b, why.Occupied) ∷ [])) (ap is_some (named-is x s to st) ∙ taken);
  stand = st.parts;
}

-- what a copy does
does-copies : {y : Parties} (s : State) (from to : Name) (n : ℕ) {before : List Entry}
    → named from s.names ≡ Some n → PartsStand [] y (bound to n s)
    → Does y (does (event.Copy from to)) s before before
unfolding machine_opened
does-copies s from to n is st =
    does-by_state (λ t. given (named from t.names) (λ m. change (bound to m)))
    (does-given (λ m. change (bound to m)) n is (does-change (bound to n) st))

-- a request gets another name
pub copy-done : (x : Parties) (y : code.Bus) (names : List (Name × ℕ)) (s : State)
    (from to : Name) (n : ℕ) (told : List Entry) → PartiesStand x s → named from x.names ≡ Some n
    → is_some (named to x.names) ≡ false → Binds x.names names to n → Keeps x.bus y n
    → IsDone (record x { bus = y; names = names }) s (event.Copy from to) told told
copy-done x y names s from to n told st h free binds keeps =
    let names_it = named-is x s from st ∙ h in
    let none = none-of (named to x.names) free in
    let free_there = named-is x s to st ∙ none in record {
      allowed =
          ap (λ o. copy_refusal o (named to s.names)) names_it
          ∙ ap (copy_refusal (Some n)) free_there;
      done =
          does-copies s from to n names_it
          (bound-stand x s y names to n st.parts free_there binds keeps
          (named-asked from s.names n s.bus names_it
          (named-made s.names from n s.bus (reached-names s st.run) names_it)));
    }

-- ---- frees

-- the name names nothing
pub forget-unnamed : (x : Parties) (s : State) (name : Name) → PartiesStand x s
    → named name x.names ≡ None → IsRefused x s (event.Forget name) why.NoName
forget-unnamed x s name st h = record {
  refused = ap (λ o. first_met ((not (is_some o), why.NoName) ∷ [])) (named-is x s name st ∙ h);
  stand = st.parts;
}

-- what a free does
does-frees : {y : Parties} (s : State) (name : Name) {before : List Entry}
    → PartsStand [] y (freed name s) → Does y (does (event.Forget name)) s before before
unfolding machine_opened
does-frees s name st = does-change (freed name) st

-- the name is free again
pub forget-done : (x : Parties) (y : code.Bus) (names : List (Name × ℕ)) (s : State)
    (name : Name) (n : ℕ) (told : List Entry) → PartiesStand x s → named name x.names ≡ Some n
    → names ≡ without (λ p. same_name p.0 name) x.names → Loosens x.bus y n
    → IsDone (record x { bus = y; names = names }) s (event.Forget name) told told
forget-done x y names s name n told st h same loosens = record {
  allowed = ap (λ o. first_met ((not (is_some o), why.NoName) ∷ [])) (named-is x s name st ∙ h);
  done =
      does-frees s name
      (freed-stand x s y names name n st.parts (named-is x s name st ∙ h) same loosens);
}
