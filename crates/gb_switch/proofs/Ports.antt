-- What lists of interfaces go on to say.
use Rattle.std.proofs.Common.{◌≡◌, ℕ, cond, eqb, Some, None, option_map, List, [], ◌∷◌, refl, sym}
use Rattle.std.proofs.Common.{ap, ◌∙◌, ⊎_elim, subst}
use Rattle.std.proofs.lemmas.Bool.{cases_eq, eq-eqb, ne_eqb}
use Rattle.gb_machine.specs.Ports.{port_of, unpowered, with_port}
use Rattle.gb_machine.specs.State.{Port}
use Rattle.gb_switch.specs.Stands.{AreInterfaces, IsInterface, IsOnce}

-- a change that leaves the number of an interface
abbrev pub Keeps : (Port → Port) → Type 0
Keeps f = (p : Port) → (f p).intf ≡ p.intf

-- the changed interface
pub port_changed : (i : ℕ) (f : Port → Port) (ps : List Port)
    → Keeps f → port_of i (with_port i f ps) ≡ option_map f (port_of i ps)
port_changed i f [] keeps = refl
port_changed i f (p ∷ ps) keeps =
    ⊎_elim here (there (port_changed i f ps keeps)) (cases_eq p.intf i)
  where
    Says : Type 0
    Says = port_of i (with_port i f (p ∷ ps)) ≡ option_map f (port_of i (p ∷ ps))

    here : p.intf ≡ i → Says
    here h = rw (eq-eqb p.intf i h, eq-eqb (f p).intf i (keeps p ∙ h)) refl

    there : port_of i (with_port i f ps) ≡ option_map f (port_of i ps) → (p.intf ≡ i → ⊥) → Says
    there later h = rw (ne_eqb p.intf i h, ne_eqb p.intf i h) later

-- any other
pub port_other : (i j : ℕ) (f : Port → Port) (ps : List Port)
    → Keeps f → (j ≡ i → ⊥) → port_of j (with_port i f ps) ≡ port_of j ps
port_other i j f [] keeps other = refl
port_other i j f (p ∷ ps) keeps other =
    ⊎_elim here (there (port_other i j f ps keeps other)) (cases_eq p.intf i)
  where
    Says : Type 0
    Says = port_of j (with_port i f (p ∷ ps)) ≡ port_of j (p ∷ ps)

    here : p.intf ≡ i → Says
    here h =
        let not_j : p.intf ≡ j → ⊥ = λ e. other (sym e ∙ h) in
        let nor_f : (f p).intf ≡ j → ⊥ = λ e. other (sym e ∙ (keeps p ∙ h)) in
        rw (eq-eqb p.intf i h, ne_eqb (f p).intf j nor_f, ne_eqb p.intf j not_j) refl

    there : port_of j (with_port i f ps) ≡ port_of j ps → (p.intf ≡ i → ⊥) → Says
    there later h = rw (ne_eqb p.intf i h) (ap (λ o. cond (eqb p.intf j) (Some p) o) later)

-- each is there once still
pub once_changed : (i : ℕ) (f : Port → Port) (ps : List Port)
    → Keeps f → IsOnce ps → IsOnce (with_port i f ps)
once_changed i f [] keeps h = tt
once_changed i f (p ∷ ps) keeps h =
    ⊎_elim here (there (once_changed i f ps keeps h.1)) (cases_eq p.intf i)
  where
    here : p.intf ≡ i → IsOnce (with_port i f (p ∷ ps))
    here e = rw (eq-eqb p.intf i e) (ap (λ n. port_of n ps) (keeps p) ∙ h.0, h.1)

    there : IsOnce (with_port i f ps) → (p.intf ≡ i → ⊥) → IsOnce (with_port i f (p ∷ ps))
    there later ne = rw (ne_eqb p.intf i ne) (port_other i p.intf f ps keeps ne ∙ h.0, later)

pub within_changed : (i : ℕ) (f : Port → Port) (ps : List Port)
    → Keeps f → AreInterfaces ps → AreInterfaces (with_port i f ps)
within_changed i f [] keeps h = tt
within_changed i f (p ∷ ps) keeps h =
    ⊎_elim here (there (within_changed i f ps keeps h.1)) (cases_eq p.intf i)
  where
    here : p.intf ≡ i → AreInterfaces (with_port i f (p ∷ ps))
    here e = rw (eq-eqb p.intf i e) (subst IsInterface (sym (keeps p)) h.0, h.1)

    there : AreInterfaces (with_port i f ps)
        → (p.intf ≡ i → ⊥) → AreInterfaces (with_port i f (p ∷ ps))
    there later ne = rw (ne_eqb p.intf i ne) (h.0, later)

-- where an interface was pulled, nothing is plugged
pub port_pulled : (i : ℕ) (ps : List Port) → port_of i (unpowered i ps) ≡ None
port_pulled i [] = refl
port_pulled i (p ∷ ps) =
    ⊎_elim (here (port_pulled i ps)) (there (port_pulled i ps)) (cases_eq p.intf i)
  where
    here : port_of i (unpowered i ps) ≡ None → p.intf ≡ i → port_of i (unpowered i (p ∷ ps)) ≡ None
    here later e = rw (eq-eqb p.intf i e) later

    there : port_of i (unpowered i ps) ≡ None
        → (p.intf ≡ i → ⊥) → port_of i (unpowered i (p ∷ ps)) ≡ None
    there later ne = rw (ne_eqb p.intf i ne, ne_eqb p.intf i ne) later

-- any other interface says what it said
pub port_left : (i j : ℕ) (ps : List Port) → (j ≡ i → ⊥) → port_of j (unpowered i ps) ≡ port_of j ps
port_left i j [] other = refl
port_left i j (p ∷ ps) other =
    ⊎_elim (here (port_left i j ps other)) (there (port_left i j ps other)) (cases_eq p.intf i)
  where
    Says : Type 0
    Says = port_of j (unpowered i (p ∷ ps)) ≡ port_of j (p ∷ ps)

    here : port_of j (unpowered i ps) ≡ port_of j ps → p.intf ≡ i → Says
    here later h =
        let not_j : p.intf ≡ j → ⊥ = λ e. other (sym e ∙ h) in
        rw (eq-eqb p.intf i h, ne_eqb p.intf j not_j) later

    there : port_of j (unpowered i ps) ≡ port_of j ps → (p.intf ≡ i → ⊥) → Says
    there later h = rw (ne_eqb p.intf i h) (ap (λ o. cond (eqb p.intf j) (Some p) o) later)

pub once_left : (i : ℕ) (ps : List Port) → IsOnce ps → IsOnce (unpowered i ps)
once_left i [] h = tt
once_left i (p ∷ ps) h =
    ⊎_elim (here (once_left i ps h.1)) (there (once_left i ps h.1)) (cases_eq p.intf i)
  where
    here : IsOnce (unpowered i ps) → p.intf ≡ i → IsOnce (unpowered i (p ∷ ps))
    here later e = rw (eq-eqb p.intf i e) later

    there : IsOnce (unpowered i ps) → (p.intf ≡ i → ⊥) → IsOnce (unpowered i (p ∷ ps))
    there later ne = rw (ne_eqb p.intf i ne) (port_left i p.intf ps ne ∙ h.0, later)

pub within_left : (i : ℕ) (ps : List Port) → AreInterfaces ps → AreInterfaces (unpowered i ps)
within_left i [] h = tt
within_left i (p ∷ ps) h =
    ⊎_elim (here (within_left i ps h.1)) (there (within_left i ps h.1)) (cases_eq p.intf i)
  where
    here : AreInterfaces (unpowered i ps) → p.intf ≡ i → AreInterfaces (unpowered i (p ∷ ps))
    here later e = rw (eq-eqb p.intf i e) later

    there : AreInterfaces (unpowered i ps) → (p.intf ≡ i → ⊥) → AreInterfaces (unpowered i (p ∷ ps))
    there later ne = rw (ne_eqb p.intf i ne) (h.0, later)
