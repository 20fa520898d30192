-- The parts of a module are plugged one after another, as the machine does.
use Rattle.std.proofs.Common.{◌≡◌, ◌≤◌, ◌<◌, ◌+◌, ◌==◌, ℕ, Bool, true, false, if◌then◌else◌, Some}
use Rattle.std.proofs.Common.{None, is_some, List, [], ◌∷◌, length, refl, sym, ap, ◌∙◌, subst}
use Rattle.std.proofs.Common.{arith, get_or, drop, drop-cons, add-one, map, drop_of_length-le}
use Rattle.std.proofs.lemmas.Bool.Decides.{nat_tests}
use Rattle.gb_base.specs.declared.entry.Entry.{Entry}
use Rattle.gb_base.specs.declared.event.Kind.{Kind}
use Rattle.gb_base.specs.declared.event.Event.TheVariants as event
use Rattle.gb_formats.specs.Module.{Module, module_of_kind, module_raw}
use Rattle.gb_formats.specs.Results.{most_payload}
use Rattle.gb_invariants.proofs.Lists.{each-from, each-in}
use Rattle.gb_invariants.proofs.Manifests.{short-plugged, kind-short, raw-short}
use Rattle.gb_machine.proofs.Conditions.{unmet}
use Rattle.gb_machine.proofs.Opened.{machine_opened}
use Rattle.gb_machine.specs.Actions.{Action, change, each, nothing, when, ◌▸◌}
use Rattle.gb_machine.specs.Lists.{first_met}
use Rattle.gb_machine.specs.Modules.{plugged}
use Rattle.gb_machine.specs.Plugging.{parts_from, parts_of, plugs, tells_inserted, with_plugged}
use Rattle.gb_machine.specs.Ports.{is_powered, port_of, powered}
use Rattle.gb_machine.specs.Reached.{OfARun}
use Rattle.gb_machine.specs.Refusals.{is_taken, insert_conditions}
use Rattle.gb_machine.specs.State.{Plugged, State}
use Rattle.gb_switch.specs.Stands as switch
use Rattle.gb_switch.specs.declared.ladder.Ladder.{Ladder}
use Rattle.gb_system.proofs.Doings.{does-by_state, does-change, does-then}
use Rattle.gb_system.proofs.Inserts.{free-spans, inserted-kinds, inserted-raw}
use Rattle.gb_system.proofs.Midways.{Midway, each-cons, each-nil, midway-as, midway-end}
use Rattle.gb_system.proofs.Midways.{midway-first, midway-more}
use Rattle.gb_system.proofs.Plugged.{part_of}
use Rattle.gb_system.proofs.Standing.{relevelled, stands-with}
use Rattle.gb_system.specs.Doing.{Does, IsDone}
use Rattle.gb_system.specs.Stands.{IsShort, PartsStand, PartiesStand}
use Rattle.gb_system.specs.declared.parties.Parties.{Parties}
use Rattle.std.proofs.lemmas.List.{length-map}

-- the parties stand for the state with the part
pub plugged-stand : (x : Parties) (s : State) (p : Plugged) (modules : List Plugged) (l : Ladder)
    → PartsStand [] x s → modules ≡ plugged p x.modules → length p.body.manifest ≤ most_payload
    → switch.Stands l (powered p.intf s.ports)
    → PartsStand [] (record x { modules = modules; ladder = l }) (with_plugged p s)
plugged-stand x s p modules l st is short ports =
    relevelled l (powered p.intf s.ports)
    (stands-with (plugged p s.modules) modules (ap (plugged p) st.plugged.modules ∙ sym is)
    (each-from IsShort (plugged p s.modules)
    (short-plugged p s.modules (λ q k. each-in IsShort s.modules q st.plugged.short k) short)) st)
    ports

-- a part is plugged
abbrev pub plugs_part : Plugged → Action
plugs_part p = change (with_plugged p)

-- whether the supervisory controller has started is no matter of it
plugging-booted : (ps : List Plugged) (s : State) → (each ps plugs_part s).state.booted ≡ s.booted
unfolding machine_opened
plugging-booted [] s = refl
plugging-booted (p ∷ ps) s = plugging-booted ps (with_plugged p s)

-- no other interface gets power
still-free : (p : Plugged) (t : State) (j : ℕ) → (p.intf ≡ j → ⊥) → is_powered j t.ports ≡ false
    → is_powered j (plugs_part p t).state.ports ≡ false
unfolding machine_opened
still-free p t j other free = by (p.intf == j) refl
  where
    by : (u : Bool) → (p.intf == j) ≡ u
        → is_some (if u then Some (record { intf = p.intf; level = 0; device = None })
        else port_of j t.ports) ≡ false
    by true e = absurd (other (grind (arith, nat_tests, e)))
    by false e = free

-- Of a module with this primary interface and so many others the parts from one on are left.
pub record IsPlugging (x : Parties) (s : State) (primary count i : ℕ) (all left : List Module)
    (told : List Entry) : Type 0 where
  pub midway : Midway x (each (parts_of primary all) plugs_part)
      (each (parts_from (primary + i) primary count left) plugs_part) s told told
  pub free : (j : ℕ) → primary + i ≤ j → j < primary + count
      → is_powered j midway.state.ports ≡ false

-- at first all are
pub plugging-first : {x : Parties} {s : State} {told : List Entry} (i count : ℕ)
    (all : List Module) → OfARun s → PartsStand [] x s → is_taken i count s ≡ false
    → count ≡ length all → IsPlugging x s i count 0 all all told
plugging-first {x} {s} {told} i count all run st free same =
    let none : i ≡ i + 0 = omega arith in record {
      midway = midway-as _
          (ap (λ n. each (parts_from i i n all) plugs_part) (sym same)
          ∙ ap (λ k. each (parts_from k i count all) plugs_part) none)
          (midway-first (each (parts_of i all) plugs_part) st);
      free = λ j from to. free-spans s i count j run free (omega (arith, from)) to;
    }

-- one more is plugged
pub plugging-next : {x y : Parties} {s : State} {told : List Entry} (primary count i : ℕ)
    (m : Module) {all : List Module} (left : List Module) → i < count
    → (g : IsPlugging x s primary count i all (m ∷ left) told)
    → ((t : State) → PartsStand [] x t → is_powered (primary + i) t.ports ≡ false
    → PartsStand [] y (with_plugged (part_of (primary + i) primary count m) t))
    → IsPlugging y s primary count (i + 1) all left told
plugging-next {x} {y} {s} {told} primary count i m {all} left within g stand =
    let next : (primary + i) + 1 ≡ primary + (i + 1) = omega arith in
    let t = g.midway.state in
    let p = part_of (primary + i) primary count m in
    let free = g.free (primary + i) (omega arith) (omega (arith, within)) in
    let d = does-change (with_plugged p) (stand t g.midway.stand free) in
    let rest = each (parts_from (primary + (i + 1)) primary count left) plugs_part in record {
      midway = midway-more (plugs_part p) rest
          (midway-as (plugs_part p ▸ rest)
          (each-cons p (parts_from ((primary + i) + 1) primary count left) plugs_part
          ∙ ap (λ k. plugs_part p ▸ each (parts_from k primary count left) plugs_part) next)
          g.midway) d;
      free = λ j from to.
          still-free p t j (λ e. omega (arith, from, e)) (g.free j (omega (arith, from)) to);
    }

-- all are, and the module is told
pub plugging-done : {x y : Parties} {s : State} {before es : List Entry} (primary count i : ℕ)
    (all left : List Module) → IsPlugging x s primary count i all left before → left ≡ []
    → length all ≡ count
    → ((t : State) → PartsStand [] x t
    → Does y (when t.booted (tells_inserted primary count)) t before es)
    → Does y (plugs primary all) s before es
unfolding machine_opened
plugging-done {x} {y} {s} {before} {es} primary count i all left g none same told =
    let whole = each (parts_of primary all) plugs_part in
    let d = midway-end (midway-as nothing
    (ap (λ (ms : List Module). each (parts_from (primary + i) primary count ms) plugs_part) none
    ∙ each-nil plugs_part) g.midway) in
    let t = (whole s).state in
    does-by_state (λ u. whole ▸ when u.booted (tells_inserted primary (length all)))
    (does-then d (subst (λ n. Does y (when s.booted (tells_inserted primary n)) t before es)
    (sym same) (subst (λ b. Does y (when b (tells_inserted primary count)) t before es)
    (plugging-booted (parts_of primary all) s) (told t d.stand))))

-- ---- by kinds

-- an insert that isn't refused finds its interfaces free
free-of : (s : State) (i count : ℕ) (manifest : List ℕ)
    → None ≡ first_met (insert_conditions s i count manifest) → is_taken i count s ≡ false
free-of s i count manifest allowed =
    (unmet (insert_conditions s i count manifest) (sym allowed)).1.0

-- a part whose manifest fits is plugged at an interface without power
abbrev pub PlugsOne : Parties → Parties → ℕ → ℕ → ℕ → Module → Type 0
PlugsOne x y intf primary count m =
    (t : State) → PartsStand [] x t → is_powered intf t.ports ≡ false
    → length m.manifest ≤ most_payload
    → PartsStand [] y (with_plugged (part_of intf primary count m) t)

-- at first no part is plugged
pub kinds-first : {x : Parties} {s : State} {told : List Entry} (i count : ℕ) (kinds : List Kind)
    → PartiesStand x s → count ≡ length kinds
    → None ≡ first_met (insert_conditions s i count [])
    → IsPlugging x s i count 0 (map module_of_kind kinds) (map module_of_kind kinds) told
kinds-first {s = s} i count kinds st same allowed =
    plugging-first i count (map module_of_kind kinds) st.run st.parts
    (free-of s i count [] allowed) (same ∙ sym (length-map kinds module_of_kind))

-- the part of one more kind is
pub kinds-next : {x y : Parties} {s : State} {told : List Entry} (primary count i : ℕ)
    (kinds : List Kind) (d : Kind) (m : Module) → i < length kinds → count ≡ length kinds
    → m ≡ module_of_kind (get_or kinds i d)
    → IsPlugging x s primary count i (map module_of_kind kinds)
    (map module_of_kind (drop i kinds)) told
    → PlugsOne x y (primary + i) primary count m
    → IsPlugging y s primary count (i + 1) (map module_of_kind kinds)
    (map module_of_kind (drop (i + 1) kinds)) told
kinds-next {x} {y} {s} {told} primary count i kinds d m within same is g plugged =
    let k = get_or kinds i d in
    let later = map module_of_kind (drop (i + 1) kinds) in
    let next : map module_of_kind (drop i kinds) ≡ m ∷ later =
    ap (map module_of_kind) (drop-cons kinds i d within
    ∙ ap (λ n. k ∷ drop n kinds) (sym (add-one i))) ∙ ap (λ b. b ∷ later) (sym is) in
    plugging-next primary count i m later (subst (λ n. i < n) (sym same) within)
    (subst (λ ms. IsPlugging x s primary count i (map module_of_kind kinds) ms told) next g)
    (λ t stand free. plugged t stand free
    (subst (λ (b : Module). length b.manifest ≤ most_payload) (sym is) (kind-short k)))

-- all are
pub kinds-done : {x : Parties} (y : Parties) (s : State) (i count j : ℕ) (kinds : List Kind)
    (before es : List Entry) → count ≡ length kinds
    → None ≡ first_met (insert_conditions s i count [])
    → IsPlugging x s i count j (map module_of_kind kinds) (map module_of_kind (drop j kinds)) before
    → length kinds ≤ j
    → ((t : State) → PartsStand [] x t
    → Does y (when t.booted (tells_inserted i count)) t before es)
    → IsDone y s (event.Insert i kinds) before es
kinds-done y s i count j kinds before es same allowed g past told =
    inserted-kinds y s i kinds before es
    (allowed ∙ ap (λ n. first_met (insert_conditions s i n [])) same)
    (plugging-done i count j (map module_of_kind kinds) (map module_of_kind (drop j kinds)) g
    (ap (map module_of_kind) (drop_of_length-le kinds past))
    (length-map kinds module_of_kind ∙ sym same) told)

-- ---- by a manifest

pub raw-done : {x y : Parties} (z : Parties) (s : State) (i : ℕ) (manifest : List ℕ) (m : Module)
    (before es : List Entry) → PartiesStand x s → m ≡ module_raw manifest
    → None ≡ first_met (insert_conditions s i 1 manifest)
    → PlugsOne x y i i 1 m
    → ((t : State) → PartsStand [] y t → Does z (when t.booted (tells_inserted i 1)) t before es)
    → IsDone z s (event.InsertRaw i manifest) before es
raw-done {x} {y} z s i manifest m before es st is allowed plugged told =
    let here : i ≡ i + 0 = omega arith in
    let below : 0 < 1 = omega arith in
    let first = plugging-first i 1 (m ∷ []) st.run st.parts (free-of s i 1 manifest allowed) refl in
    let short = subst (λ (b : Module). length b.manifest ≤ most_payload) (sym is)
    (raw-short s i manifest (sym allowed)) in
    let last = plugging-next i 1 0 m [] below first (λ t stand free.
    subst (λ k. PartsStand [] y (with_plugged (part_of k i 1 m) t)) here
    (plugged t stand (subst (λ k. is_powered k t.ports ≡ false) (sym here) free) short)) in
    inserted-raw z s i manifest before es allowed
    (subst (λ (b : Module). Does z (plugs i (b ∷ [])) s before es) is
    (plugging-done i 1 1 (m ∷ []) [] last refl refl told))
