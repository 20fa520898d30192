-- What the application processor does at an insertion or a removal of a module: the turns of its
-- interfaces, one after another, each from how it is then.
use Rattle.std.proofs.Common.{Bool, List, None, Option, Some, ap, append_assoc, arith, cond, false}
use Rattle.std.proofs.Common.{inl, inr, refl, suc, sym, true, zero, ℕ, [], ◌++◌, ◌+◌, ◌<◌}
use Rattle.std.proofs.Common.{◌∙◌, ◌∷◌, ◌≡◌, ◌≢◌, ◌≤◌}
use Rattle.std.proofs.lemmas.Bool.Decides.{nat_tests}
use Rattle.std.specs.Prelude.{nat_lt, ◌==◌}
use Rattle.gb_base.specs.declared.entry.Entry.{Entry}
use Rattle.gb_base.specs.declared.entry.Entry.TheVariants as entry
use Rattle.gb_base.specs.declared.entry.IntfStage.TheVariants as stage
use Rattle.gb_base.specs.declared.end.Side.TheVariants as side
use Rattle.gb_base.specs.declared.host_event.HostEvent.TheVariants as host_event
use Rattle.gb_base.specs.declared.interface.{Interface.Interface, Link.Link}
use Rattle.gb_base.specs.declared.steps.SequenceStep.TheVariants as steps
use Rattle.gb_formats.specs.SvcRecords.{SvcAsk, svc_ask_payload}
use Rattle.gb_machine.proofs.Opened.{machine_opened}
use Rattle.gb_machine.specs.Actions.{Action, Told, by_state, change, each, given, ◌▸◌}
use Rattle.gb_machine.specs.Asking.{asks_with}
use Rattle.gb_machine.specs.Bus.{Connection, connection_of, next_number}
use Rattle.gb_machine.specs.Host.{Host, interfaces_of, intf_before, is_intf}
use Rattle.gb_machine.specs.Host.{new_interface, staged, with_interface, with_new_interface}
use Rattle.gb_machine.specs.HostActs.{acts, asked_with, host_draft, notices, turns, with_awaited}
use Rattle.gb_machine.specs.HostTurns.{host_inserted, host_removed, links_left, links_of}
use Rattle.gb_machine.specs.HostTurns.{one_by_one, without_interface}
use Rattle.gb_machine.specs.Labels.{next_label}
use Rattle.gb_machine.specs.Lists.{at_first, in_order, span}
use Rattle.gb_machine.specs.Members.{Each, IsIn}
use Rattle.gb_machine.specs.Sending.{label_for}
use Rattle.gb_machine.specs.SequenceSteps.{purpose}
use Rattle.gb_machine.specs.State.{State}
use Rattle.gb_machine.specs.Turns.{Act, Asking, Turn}
use Rattle.gb_invariants.proofs.HostChanges.{Notice, at_insertion, at_removal, turn_of}

-- The application processor takes notice of something in one turn.
abbrev pub takes_notice : Notice → Action
takes_notice x = by_state (λ s. turns (turn_of x s.host))

-- ---- actions

each-after : {A : Type 0} (f : A → Action) (xs ys : List A) (s : State)
    → each (xs ++ ys) f s ≡ (each xs f ▸ each ys f) s
unfolding machine_opened
each-after f [] ys s = refl
each-after f (x ∷ xs) ys s = ap (λ (r : Told). record {
  state = r.state;
  entries = (f x s).entries ++ r.entries;
}) (each-after f xs ys (f x s).state) ∙ ap (λ es. record {
  state = (each ys f (each xs f (f x s).state).state).state;
  entries = es;
}) (sym (append_assoc (f x s).entries (each xs f (f x s).state).entries
    (each ys f (each xs f (f x s).state).state).entries))

-- the application processor is another
abbrev upon : (Host → Host) → State → State
upon F s = record s { host = F s.host }

-- an act is the same before and behind a change of the application processor
abbrev Passes : (Host → Host) → Act → Type 0
Passes F x = (s : State)
    → acts x (upon F s) ≡ record { state = upon F (acts x s).state; entries = (acts x s).entries }

passes-all : (F : Host → Host) (xs : List Act) → Each (Passes F) xs → (s : State)
    → each xs acts (upon F s)
    ≡ record { state = upon F (each xs acts s).state; entries = (each xs acts s).entries }
unfolding machine_opened
passes-all F [] passes s = refl
passes-all F (x ∷ xs) passes s = ap (λ (r : Told). record {
  state = (each xs acts r.state).state;
  entries = r.entries ++ (each xs acts r.state).entries;
}) (passes.0 s) ∙ ap (λ (r : Told). record {
  state = r.state;
  entries = (acts x s).entries ++ r.entries;
}) (passes-all F xs passes.1 (acts x s).state)

-- ---- one turn after another

module _ (one : ℕ → Host → Turn) where
  abbrev last_host : List ℕ → Host → Host
  last_host is h = (one_by_one one is h).host

  -- the first turn can be done before the others are decided
  record Joins (i : ℕ) (is : List ℕ) (s : State) : Type 0 where
    passes : Each (Passes (last_host is)) (one i s.host).acts
    later : (one_by_one one is (turns (one i s.host) s).state.host).acts
        ≡ (one_by_one one is (one i s.host).host).acts

  joined : (i : ℕ) (is : List ℕ) (s : State) → Joins i is s
      → turns (one_by_one one (i ∷ is) s.host) s
      ≡ (turns (one i s.host) ▸ by_state (λ t. turns (one_by_one one is t.host))) s
  unfolding machine_opened
  joined i is s h =
      each-after acts first.acts (one_by_one one is first.host).acts (upon (last_host is) at)
      ∙ ap (λ (r : Told). record {
        state = (each later acts r.state).state;
        entries = r.entries ++ (each later acts r.state).entries;
      }) (passes-all (last_host is) first.acts h.passes at)
      ∙ ap (λ (xs : List Act). record {
        state = (each xs acts then).state;
        entries = (each first.acts acts at).entries ++ (each xs acts then).entries;
      }) (sym h.later)
    where
      first : Turn
      first = one i s.host

      at : State
      at = record s { host = first.host }

      later : List Act
      later = (one_by_one one is first.host).acts

      then : State
      then = upon (last_host is) (each first.acts acts at).state

  -- each of these is joined with those behind it
  abbrev AreJoined : List ℕ → Type 0
  AreJoined [] = Unit {0}
  AreJoined (i ∷ is) = ((s : State) → Joins i is s) × AreJoined is

  turns-each : (is : List ℕ) → AreJoined is → (s : State)
      → turns (one_by_one one is s.host) s
      ≡ each is (λ i. by_state (λ t. turns (one i t.host))) s
  unfolding machine_opened
  turns-each [] joins s = refl
  turns-each (i ∷ is) joins s = joined i is s (joins.0 s) ∙ ap (λ (r : Told). record {
    state = r.state;
    entries = (turns (one i s.host) s).entries ++ r.entries;
  }) (turns-each is joins.1 (turns (one i s.host) s).state)

-- ---- a removal

-- closing connections neither reads nor changes the application processor
left-passes : (F : Host → Host) (ls : List Link) (e : Entry)
    → Each (Passes F) (links_left ls ++ Act.Tell e ∷ [])
unfolding machine_opened
left-passes F [] e = (λ s. refl, tt)
left-passes F (l ∷ ls) e = (λ s. refl, (λ s. refl, (λ s. refl, left-passes F ls e)))

pub left-host : (ls : List Link) (e : Entry) (s : State)
    → (each (links_left ls ++ Act.Tell e ∷ []) acts s).state.host ≡ s.host
unfolding machine_opened
left-host [] e s = refl
left-host (l ∷ ls) e s =
    left-host ls e (acts (Act.Leave l.connection) (acts (Act.Shut l.connection) s).state).state

left-requests : (ls : List Link) (e : Entry) (s : State)
    → (each (links_left ls ++ Act.Tell e ∷ []) acts s).state.bus.requests ≡ s.bus.requests
unfolding machine_opened
left-requests [] e s = refl
left-requests (l ∷ ls) e s =
    left-requests ls e (acts (Act.Leave l.connection) (acts (Act.Shut l.connection) s).state).state

-- One interface is removed: the application processor is without it,
pub removed-host : (i : ℕ) (s : State)
    → (takes_notice (at_removal i) s).state.host ≡ without_interface i s.host
unfolding machine_opened
removed-host i s =
    left-host (links_of i s.host) (entry.Interface i stage.Removed)
    (record s { host = without_interface i s.host })

-- and no request was made.
pub removed-requests : (i : ℕ) (s : State)
    → (takes_notice (at_removal i) s).state.bus.requests ≡ s.bus.requests
unfolding machine_opened
removed-requests i s =
    left-requests (links_of i s.host) (entry.Interface i stage.Removed)
    (record s { host = without_interface i s.host })

joined-removed : (is : List ℕ) → AreJoined host_removed is
unfolding machine_opened
joined-removed [] = tt
joined-removed (i ∷ is) = (
  λ s. record {
    passes = left-passes _ (links_of i s.host) (entry.Interface i stage.Removed);
    later = ap (λ h. (one_by_one host_removed is h).acts) (removed-host i s);
  },
  joined-removed is,
)

-- The removal of a module is that of its interfaces, one after another.
pub removed-each : (p : ℕ) (s : State) → notices (host_event.Removed p) s
    ≡ each (interfaces_of p s.host) (λ i. takes_notice (at_removal i)) s
unfolding machine_opened
removed-each p s =
    turns-each host_removed (interfaces_of p s.host) (joined-removed (interfaces_of p s.host)) s

-- ---- an insertion

-- the request with which the enumeration of an interface begins
abbrev pub enabling : ℕ → Asking
enabling i = record {
  on = 1;
  kind = 0x21;
  payload = svc_ask_payload (SvcAsk.VsysEnable i);
  purpose = purpose i 0 steps.EnableVsys;
}

-- What is done where the application processor is so changes one interface of it, always alike.
record IsLocal (i : ℕ) (f : Host → Told) (h : Host) : Type 0 where
  change : Interface → Interface
  intf : (x : Interface) → (change x).intf ≡ x.intf
  primary : (x : Interface) → (change x).primary ≡ x.primary
  does : (g : Host) → f g ≡ record {
    state = record (f h).state { host = with_interface i change g };
    entries = (f h).entries;
  }

asked-local : (i : ℕ) (s : State)
    → IsLocal i (λ g. acts (Act.Ask (enabling i)) (record s { host = g })) s.host
unfolding machine_opened
asked-local i s = by (next_label 1 side.Ap s.bus)
  where
    wait : ℕ
    wait = next_number s.bus

    made : (o : Option Connection) (l : Option ℕ) → IsLocal i (λ g. (given o (λ c. given l
        (λ label. asks_with (host_draft (enabling i) s.now) c label))
        ▸ change (with_awaited (purpose i 0 steps.EnableVsys) (next_number s.bus)))
        (record s { host = g })) s.host
    made None l = record {
      change = λ x. record x { awaits = Some (next_number s.bus, steps.EnableVsys) };
      intf = λ x. refl;
      primary = λ x. refl;
      does = λ g. refl;
    }
    made (Some c) None = record {
      change = λ x. record x { awaits = Some (next_number s.bus, steps.EnableVsys) };
      intf = λ x. refl;
      primary = λ x. refl;
      does = λ g. refl;
    }
    made (Some c) (Some label) = record {
      change = λ x. record x { awaits = Some (next_number s.bus, steps.EnableVsys) };
      intf = λ x. refl;
      primary = λ x. refl;
      does = λ g. refl;
    }

    by : (o : Option ℕ)
        → IsLocal i (λ g. asked_with o (enabling i) (record s { host = g })) s.host
    by None = record {
      change = staged stage.Failed;
      intf = λ x. refl;
      primary = λ x. refl;
      does = λ g. refl;
    }
    by (Some label) = made (connection_of 1 s.bus) (label_for (host_draft (enabling i) s.now) s.bus)

-- a change of the application processor and one of an interface can be made in either order
abbrev Commutes : ℕ → (Host → Host) → Type 0
Commutes i F = (f : Interface → Interface) → ((x : Interface) → (f x).intf ≡ x.intf) → (h : Host)
    → F (with_interface i f h) ≡ with_interface i f (F h)

asked-passes : (i : ℕ) (F : Host → Host) → Commutes i F → Passes F (Act.Ask (enabling i))
asked-passes i F commutes s =
    let l = asked-local i s in
    l.does (F s.host) ∙ ap (λ (g : Host). record {
      state = record (acts (Act.Ask (enabling i)) s).state { host = g };
      entries = (acts (Act.Ask (enabling i)) s).entries;
    }) (sym (commutes l.change l.intf s.host)
    ∙ ap F (sym (ap (λ (r : Told). r.state.host) (l.does s.host))))

-- another interface more, and one that changes
ordered-changed : (i : ℕ) (f : Interface → Interface) → ((x : Interface) → (f x).intf ≡ x.intf)
    → (y : Interface) → (y.intf == i) ≡ false → (xs : List Interface)
    → in_order intf_before y (at_first (is_intf i) f xs)
    ≡ at_first (is_intf i) f (in_order intf_before y xs)
ordered-changed i f same y other [] =
    ap (λ t. cond t (f y ∷ []) (y ∷ [])) (sym other)
ordered-changed i f same y other (x ∷ xs) =
    by (is_intf i x) refl (nat_lt y.intf x.intf) refl (ordered-changed i f same y other xs)
  where
    front : (zs : List Interface)
        → at_first (is_intf i) f (y ∷ zs) ≡ y ∷ at_first (is_intf i) f zs
    front zs = ap (λ t. cond t (f y ∷ zs) (y ∷ at_first (is_intf i) f zs)) other

    by : (t : Bool) → is_intf i x ≡ t → (u : Bool) → nat_lt y.intf x.intf ≡ u
        → in_order intf_before y (at_first (is_intf i) f xs)
        ≡ at_first (is_intf i) f (in_order intf_before y xs)
        → in_order intf_before y (cond t (f x ∷ xs) (x ∷ at_first (is_intf i) f xs))
        ≡ at_first (is_intf i) f (cond u (y ∷ x ∷ xs) (x ∷ in_order intf_before y xs))
    by true e true g rec =
        ap (λ v. cond v (y ∷ f x ∷ xs) (f x ∷ in_order intf_before y xs))
        (ap (nat_lt y.intf) (same x) ∙ g) ∙ sym (front (x ∷ xs)
        ∙ ap (λ v. y ∷ cond v (f x ∷ xs) (x ∷ at_first (is_intf i) f xs)) e)
    by true e false g rec =
        ap (λ v. cond v (y ∷ f x ∷ xs) (f x ∷ in_order intf_before y xs))
        (ap (nat_lt y.intf) (same x) ∙ g) ∙ sym (ap (λ v. cond v (f x ∷ in_order intf_before y xs)
        (x ∷ at_first (is_intf i) f (in_order intf_before y xs))) e)
    by false e true g rec =
        ap (λ v. cond v (y ∷ x ∷ at_first (is_intf i) f xs)
        (x ∷ in_order intf_before y (at_first (is_intf i) f xs))) g ∙ sym (front (x ∷ xs)
        ∙ ap (λ v. y ∷ cond v (f x ∷ xs) (x ∷ at_first (is_intf i) f xs)) e)
    by false e false g rec =
        ap (λ v. cond v (y ∷ x ∷ at_first (is_intf i) f xs)
        (x ∷ in_order intf_before y (at_first (is_intf i) f xs))) g ∙ ap (λ zs. x ∷ zs) rec
        ∙ sym (ap (λ v. cond v (f x ∷ in_order intf_before y xs)
        (x ∷ at_first (is_intf i) f (in_order intf_before y xs))) e)

inserted-changed : (p i j : ℕ) → (j == i) ≡ false → Commutes i (with_new_interface p j)
inserted-changed p i j other f same h = ap (λ xs. record h { interfaces = xs })
    (ordered-changed i f same (new_interface p j) other h.interfaces)

-- so it is with more interfaces, of which that isn't one
inserted-all : (p i : ℕ) (is : List ℕ) → (IsIn i is → ⊥)
    → Commutes i (λ h. (one_by_one (host_inserted p) is h).host)
inserted-all p i [] out f same h = refl
inserted-all p i (j ∷ js) out f same h =
    ap (λ g. (one_by_one (host_inserted p) js g).host)
    (inserted-changed p i j (other i j (λ e. out (inl e))) f same h)
    ∙ inserted-all p i js (λ k. out (inr k)) f same (with_new_interface p j h)
  where
    other : (a b : ℕ) → a ≢ b → (b == a) ≡ false
    other a b apart = grind (arith, nat_tests, apart)

-- what is done where the enumerations of these interfaces begin
abbrev pub enabling_acts : List ℕ → List Act
enabling_acts [] = []
enabling_acts (i ∷ is) =
    Act.Tell (entry.Interface i stage.Enumerating) ∷ Act.Ask (enabling i) ∷ enabling_acts is

-- It doesn't depend on how the application processor is.
pub inserted-acts : (p : ℕ) (is : List ℕ) (h : Host)
    → (one_by_one (host_inserted p) is h).acts ≡ enabling_acts is
inserted-acts p [] h = refl
inserted-acts p (i ∷ is) h =
    ap (λ xs. Act.Tell (entry.Interface i stage.Enumerating) ∷ Act.Ask (enabling i) ∷ xs)
    (inserted-acts p is (with_new_interface p i h))

-- each number of a span
pub in-span : (i n count : ℕ) → IsIn i (span n count) → (n ≤ i) × (i < n + count)
in-span i n zero j = absurd j
in-span i n (suc more) (inl e) = (omega (arith, e), omega (arith, e))
in-span i n (suc more) (inr j) =
    let r = in-span i (n + 1) more j in
    let low = r.0 in
    let high = r.1 in
    (omega (arith, low), omega (arith, high))

joined-inserted : (p n count : ℕ) → AreJoined (host_inserted p) (span n count)
unfolding machine_opened
joined-inserted p n zero = tt
joined-inserted p n (suc more) = (
  λ s. record {
    passes = (
      λ t. refl,
      (
        asked-passes n (λ h. (one_by_one (host_inserted p) (span (n + 1) more) h).host)
            (inserted-all p n (span (n + 1) more)
            (λ j. let low = (in-span n (n + 1) more j).0 in omega (arith, low))),
        tt,
      ),
    );
    later = inserted-acts p (span (n + 1) more) _ ∙ sym (inserted-acts p (span (n + 1) more) _);
  },
  joined-inserted p (n + 1) more,
)

-- The insertion of a module is that of its interfaces, one after another.
pub inserted-each : (p count : ℕ) (s : State) → notices (host_event.Inserted p count) s
    ≡ each (span p count) (λ i. takes_notice (at_insertion p i)) s
unfolding machine_opened
inserted-each p count s =
    turns-each (host_inserted p) (span p count) (joined-inserted p p count) s

-- One interface is inserted: the application processor has it, and it alone may have changed.
pub inserted-host : (p i : ℕ) (s : State) → (f : Interface → Interface)
    × ((x : Interface) → (f x).intf ≡ x.intf) × ((x : Interface) → (f x).primary ≡ x.primary)
    × ((takes_notice (at_insertion p i) s).state.host
    ≡ with_interface i f (with_new_interface p i s.host))
unfolding machine_opened
inserted-host p i s =
    let l = asked-local i (record s { host = with_new_interface p i s.host }) in (
      l.change,
      l.intf,
      l.primary,
      ap (λ (r : Told). r.state.host)
          (l.does (with_new_interface p i s.host)),
    )
