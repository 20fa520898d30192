-- What a ladder goes on to stand for.
use Rattle.std.proofs.Common.{◌≡◌, ℕ, false, cond, Option, Some, None, option_map, option_and_then}
use Rattle.std.proofs.Common.{List, refl, sym, ap, ◌∙◌, ⊎_elim, subst, is_some}
use Rattle.std.proofs.lemmas.Bool.{cases_eq, eq-eqb, ne_eqb, true≢false}
use Rattle.gb_machine.specs.Ports.{device_of, level_in, level_of, port_of, powered, unpowered}
use Rattle.gb_machine.specs.Ports.{unrouted, with_port}
use Rattle.gb_machine.specs.State as machine
use Rattle.gb_switch.proofs.Ports.{Keeps, once_changed, once_left, port_changed, port_left}
use Rattle.gb_switch.proofs.Ports.{port_other, port_pulled, within_changed, within_left}
use Rattle.gb_switch.specs.Climbing.{device_at}
use Rattle.gb_switch.specs.Levels.{PutsAt, level_number, plugged_at, port_for}
use Rattle.gb_switch.specs.Stands.{AreInterfaces, IsInterface, IsOnce, Stands}
use Rattle.gb_switch.specs.declared.ladder.Ladder.{Ladder}
use Rattle.gb_switch.specs.declared.port.Port.{Port}

-- what a slot stands for, at the changed interface and at any other
put_here : (x y : Ladder) (i j : ℕ) (o : Option Port) → PutsAt x y i o → j ≡ i → plugged_at j y ≡ o
put_here x y i j o put e = put j ∙ ap (λ b. cond b o (plugged_at j x)) (eq-eqb j i e)

put_there : (x y : Ladder) (i j : ℕ) (o : Option Port)
    → PutsAt x y i o → (j ≡ i → ⊥) → plugged_at j y ≡ plugged_at j x
put_there x y i j o put ne = put j ∙ ap (λ b. cond b o (plugged_at j x)) (ne_eqb j i ne)

-- a plugged interface changes
pub changed : (x y : Ladder) (i : ℕ) (p q : Port) (f : machine.Port → machine.Port)
    (ports : List machine.Port)
    → Stands x ports
    → Keeps f → plugged_at i x ≡ Some p → PutsAt x y i (Some q) → port_for i q ≡ f (port_for i p)
    → Stands y (with_port i f ports)
changed x y i p q f ports s keeps there put same = record {
  each = λ j. ⊎_elim (here j) (other j) (cases_eq j i);
  once = once_changed i f ports keeps s.once;
  within = within_changed i f ports keeps s.within;
}
  where
    Says : ℕ → Type 0
    Says j = port_of j (with_port i f ports) ≡ option_map (port_for j) (plugged_at j y)

    own : Says i
    own =
        port_changed i f ports keeps
        ∙ ap (option_map f) (s.each i ∙ ap (option_map (port_for i)) there)
        ∙ ap Some (sym same)
        ∙ sym (ap (option_map (port_for i)) (put_here x y i i (Some q) put refl))

    here : (j : ℕ) → j ≡ i → Says j
    here j e = subst Says (sym e) own

    other : (j : ℕ) → (j ≡ i → ⊥) → Says j
    other j ne =
        port_other i j f ports keeps ne ∙ s.each j
        ∙ sym (ap (option_map (port_for j)) (put_there x y i j (Some q) put ne))

-- an interface is pulled
pub pulled : (x y : Ladder) (i : ℕ) (ports : List machine.Port)
    → Stands x ports → PutsAt x y i None → Stands y (unpowered i ports)
pulled x y i ports s put = record {
  each = λ j. ⊎_elim (here j) (other j) (cases_eq j i);
  once = once_left i ports s.once;
  within = within_left i ports s.within;
}
  where
    Says : ℕ → Type 0
    Says j = port_of j (unpowered i ports) ≡ option_map (port_for j) (plugged_at j y)

    here : (j : ℕ) → j ≡ i → Says j
    here j e =
        subst Says (sym e)
        (port_pulled i ports ∙ sym (ap (option_map (port_for i)) (put_here x y i i None put refl)))

    other : (j : ℕ) → (j ≡ i → ⊥) → Says j
    other j ne =
        port_left i j ports ne
        ∙ s.each j
        ∙ sym (ap (option_map (port_for j)) (put_there x y i j None put ne))

-- what a module that was just plugged stands for
abbrev pub IsOff : Port → Type 0
IsOff q = (level_number q.level ≡ 0) × (q.device ≡ None)

-- An interface is plugged in front of those that don't speak of it.
plugged_before : (x y : Ladder) (i : ℕ) (q : Port) (ports rest : List machine.Port)
    → Stands x ports → IsInterface i → PutsAt x y i (Some q) → IsOff q
    → port_of i rest ≡ None
    → ((j : ℕ) → (j ≡ i → ⊥) → port_of j rest ≡ port_of j ports) → IsOnce rest → AreInterfaces rest
    → Stands y (powered i rest)
plugged_before x y i q ports rest s interface put off free same once within = record {
  each = λ j. ⊎_elim (here j) (other j) (cases_eq j i);
  once = (free, once);
  within = (interface, within);
}
  where
    Says : ℕ → Type 0
    Says j = port_of j (powered i rest) ≡ option_map (port_for j) (plugged_at j y)

    new : machine.Port
    new = record { intf = i; level = 0; device = None }

    own : Says i
    own =
        ap (λ b. cond b (Some new) (port_of i rest)) (eq-eqb i i refl)
        ∙ sym (ap (option_map (port_for i)) (put_here x y i i (Some q) put refl)
        ∙ ap Some (rw (off.0, off.1) refl))

    here : (j : ℕ) → j ≡ i → Says j
    here j e = subst Says (sym e) own

    other : (j : ℕ) → (j ≡ i → ⊥) → Says j
    other j ne =
        ap (λ b. cond b (Some new) (port_of j rest)) (ne_eqb i j (λ e. ne (sym e)))
        ∙ (same j ne ∙ s.each j
        ∙ sym (ap (option_map (port_for j)) (put_there x y i j (Some q) put ne)))

-- a module is plugged, whatever was there
pub plugged : (x y : Ladder) (i : ℕ) (q : Port) (ports : List machine.Port)
    → Stands x ports → IsInterface i → PutsAt x y i (Some q) → IsOff q
    → Stands y (powered i (unpowered i ports))
plugged x y i q ports s interface put off =
    plugged_before x y i q ports (unpowered i ports) s interface put off (port_pulled i ports)
    (λ j ne. port_left i j ports ne)
    (once_left i ports s.once) (within_left i ports s.within)

-- a module is plugged where nothing was
pub plugged_first : (x y : Ladder) (i : ℕ) (q : Port) (ports : List machine.Port)
    → Stands x ports → IsInterface i → port_of i ports ≡ None → PutsAt x y i (Some q) → IsOff q
    → Stands y (powered i ports)
plugged_first x y i q ports s interface free put off =
    plugged_before x y i q ports ports s interface put off free (λ j ne. refl) s.once s.within

-- the level and the device id of an interface
pub level_is : (x : Ladder) (i : ℕ) (p : Port) (ports : List machine.Port)
    → Stands x ports → plugged_at i x ≡ Some p → level_of i ports ≡ level_number p.level
level_is x i p ports s there = ap level_in (s.each i ∙ ap (option_map (port_for i)) there)

pub device_is : (x : Ladder) (i : ℕ) (ports : List machine.Port)
    → Stands x ports → device_of i ports ≡ device_at i x
device_is x i ports s =
    ap (option_and_then (λ (p : machine.Port). p.device)) (s.each i) ∙ own (plugged_at i x)
  where
    own : (o : Option Port)
        → option_and_then (λ (p : machine.Port). p.device) (option_map (port_for i) o)
        ≡ option_and_then (λ (p : Port). p.device) o
    own None = refl
    own (Some p) = refl

-- a routed interface loses its route
pub unrouted_from : (x y : Ladder) (i : ℕ) (p q : Port) (ports : List machine.Port)
    → Stands x ports → plugged_at i x ≡ Some p → level_number p.level ≡ 6
    → PutsAt x y i (Some q) → level_number q.level ≡ 5 → q.device ≡ p.device
    → (level_of i ports ≡ 6) × Stands y (unrouted i ports)
unrouted_from x y i p q ports s there six put five same = (
  level_is x i p ports s there ∙ six,
  changed x y i p q (λ p. record p { level = 5 }) ports s (λ p. refl) there put
      (rw (five, same) refl),
)

-- nothing is plugged
pub is_none_from : {A : Type 0} (o : Option A) → is_some o ≡ false → o ≡ None
is_none_from None e = refl
is_none_from (Some v) e = absurd (true≢false e)
