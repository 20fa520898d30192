-- Whether another interface has a device id.
use Rattle.std.proofs.Common.{◌≡◌, ℕ, Bool, true, false, not, cond, eqb, ◌&&◌, Some}
use Rattle.std.proofs.Common.{option_and_then, List, [], ◌∷◌, refl, sym, ap, ◌∙◌, ⊎_elim, subst}
use Rattle.std.proofs.lemmas.Bool.{cases_eq, eq-eqb, ne_eqb, and_from, and_left, and_right, or_from}
use Rattle.std.proofs.lemmas.Bool.{or_left, or_right}
use Rattle.gb_machine.specs.Host.{is_device}
use Rattle.gb_machine.specs.Ports.{device_of, is_elsewhere, port_of}
use Rattle.gb_machine.specs.State.{Port}
use Rattle.gb_switch.specs.Stands.{IsOnce}

-- one that has it is found
pub is_found : (i j d : ℕ) (ps : List Port)
    → (j ≡ i → ⊥) → is_device d (device_of j ps) ≡ true → is_elsewhere i d ps ≡ true
is_found i j d [] other has = has
is_found i j d (p ∷ ps) other has =
    ⊎_elim here (there (λ rest. is_found i j d ps other rest)) (cases_eq p.intf j)
  where
    here : p.intf ≡ j → is_elsewhere i d (p ∷ ps) ≡ true
    here e =
        let not_i : p.intf ≡ i → ⊥ = λ k. other (sym e ∙ k) in
        let own : is_device d p.device ≡ true =
        ap (λ b.
        is_device d (option_and_then (λ (q : Port). q.device) (cond b (Some p) (port_of j ps))))
        (sym (eq-eqb p.intf j e))
        ∙ has in
        or_left (not (eqb p.intf i) && is_device d p.device) (is_elsewhere i d ps)
        (and_from (not (eqb p.intf i)) (is_device d p.device) (ap not (ne_eqb p.intf i not_i)) own)

    there : (is_device d (device_of j ps) ≡ true → is_elsewhere i d ps ≡ true)
        → (p.intf ≡ j → ⊥) → is_elsewhere i d (p ∷ ps) ≡ true
    there later ne =
        let rest : is_device d (device_of j ps) ≡ true =
        ap (λ b.
        is_device d (option_and_then (λ (q : Port). q.device) (cond b (Some p) (port_of j ps))))
        (sym (ne_eqb p.intf j ne))
        ∙ has in
        or_right (not (eqb p.intf i) && is_device d p.device) (is_elsewhere i d ps) (later rest)

-- where each is there once, and none has it, none is found
pub is_free : (i d : ℕ) (ps : List Port) → IsOnce ps
    → ((j : ℕ) → (j ≡ i → ⊥) → is_device d (device_of j ps) ≡ false) → is_elsewhere i d ps ≡ false
is_free i d [] once none = refl
is_free i d (p ∷ ps) once none =
    or_from (not (eqb p.intf i) && is_device d p.device) (is_elsewhere i d ps) head
    (is_free i d ps once.1 behind)
  where
    At : ℕ → Bool → Type 0
    At j b =
        is_device d (option_and_then (λ (q : Port). q.device) (cond b (Some p) (port_of j ps)))
        ≡ false

    head : (not (eqb p.intf i) && is_device d p.device) ≡ false
    head =
        ⊎_elim (λ e.
        and_left (not (eqb p.intf i)) (is_device d p.device) (ap not (eq-eqb p.intf i e)))
        (λ ne. and_right (not (eqb p.intf i)) (is_device d p.device)
        (subst (At p.intf) (eq-eqb p.intf p.intf refl) (none p.intf ne)))
        (cases_eq p.intf i)

    behind : (j : ℕ) → (j ≡ i → ⊥) → is_device d (device_of j ps) ≡ false
    behind j other =
        ⊎_elim (λ e. ap (λ o. is_device d (option_and_then (λ (q : Port). q.device) o))
        (ap (λ n. port_of n ps) (sym e) ∙ once.0))
        (λ ne. subst (At j) (ne_eqb p.intf j ne) (none j other))
        (cases_eq p.intf j)
