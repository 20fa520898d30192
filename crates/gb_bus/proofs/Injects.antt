-- Injected bytes wait as the machine's do.
use Rattle.std.proofs.Common.{◌≡◌, ℕ, Bool, true, false, cond, Some, List, [], ◌∷◌}
use Rattle.std.proofs.Common.{refl, sym, ap, ◌∙◌, subst}
use Rattle.std.specs.List.{find}
use Rattle.gb_base.specs.declared.end.Side.{Side}
use Rattle.gb_base.specs.declared.end.Side.TheVariants as side
use Rattle.gb_bus.proofs.Changing.{twice}
use Rattle.gb_bus.proofs.ConnectionChanges.{put-shown, put-number, put-ops, put-seen, soiled-ops}
use Rattle.gb_bus.proofs.Sides.{sides-changed}
use Rattle.gb_bus.proofs.Standing.{AreShown, ShownAs, changed}
use Rattle.gb_bus.proofs.Wires.{shows-connections}
use Rattle.gb_bus.specs.Connection as code
use Rattle.gb_bus.specs.Parts.{numbered, put, soiled}
use Rattle.gb_bus.specs.Raw.{raw_item}
use Rattle.gb_bus.specs.Stands.{Around, Stands}
use Rattle.gb_bus.specs.declared.bus.Bus.{Bus}
use Rattle.gb_bus.specs.declared.queue.Item.{Item}
use Rattle.gb_formats.specs.Wire.{raw_message}
use Rattle.gb_invariants.proofs.Apart.{apart-changed}
use Rattle.gb_invariants.proofs.Changes.{injected-keeps}
use Rattle.gb_machine.specs.Bus as machine
use Rattle.gb_machine.specs.Bus.{Connection, connection_of, has_number}
use Rattle.gb_machine.specs.Labels.{last_label}
use Rattle.gb_machine.specs.Lists.{at_first}
use Rattle.gb_machine.specs.Sending as sending
use Rattle.gb_machine.specs.Sending.{is_wired, queued}
use Rattle.gb_machine.specs.Wiring.{injected}

-- a change of the first that passes is another where both do the same to it
same-first : {A : Type 0} (test : A → Bool) (f g : A → A) (xs : List A)
    → ((x : A) → find test xs ≡ Some x → f x ≡ g x) → at_first test f xs ≡ at_first test g xs
same-first test f g [] same = refl
same-first test f g (x ∷ xs) same =
    by (test x) refl (λ later. same-first test f g xs later)
  where
    by : (w : Bool) → test x ≡ w
        → (((y : _) → find test xs ≡ Some y → f y ≡ g y) → at_first test f xs ≡ at_first test g xs)
        → cond w (f x ∷ xs) (x ∷ at_first test f xs) ≡ cond w (g x ∷ xs) (x ∷ at_first test g xs)
    by true e rec = ap (λ y. y ∷ xs) (same x (ap (λ w. cond w (Some x) (find test xs)) e))
    by false e rec =
        ap (λ ys. x ∷ ys)
        (rec (λ y h. same y (ap (λ w. cond w (Some x) (find test xs)) e ∙ h)))

-- The bus after an injection.
pub injects : (around : Around) (x y : Bus) (b : machine.Bus) (k : ℕ) (bytes : List ℕ)
    → y ≡ record x {
      connections = at_first (numbered k) (put side.Ap (raw_item (raw_message bytes)))
          (at_first (numbered k) soiled x.connections);
    }
    → Stands around x b → is_wired (connection_of k b) ≡ true
    → Stands around y (injected k bytes b)
injects around x y b k bytes moved s live =
    subst (λ (w : Bus). Stands around w (injected k bytes b)) (sym (moved ∙ once)) (record {
      shows = shows-connections around.names x b (at_first (numbered k) f x.connections)
          (injected k bytes b).connections
          (subst (λ cs. AreShown b.requests (at_first (numbered k) f x.connections) cs)
          same-queues
          (changed b.requests k f h f x.connections b.connections
          (λ v. put-seen side.Ap i (soiled v)) made s.shows.connections))
          (sides-changed x.connections b k f g
          (λ v. put-number side.Ap i (soiled v)) (λ c. refl)
          (λ at v. put-ops side.Ap i at (soiled v) ∙ soiled-ops at v) lasts s.shows.sides) s.shows;
      named = s.named;
      facts = record {
        fits = injected-keeps around.items k bytes b s.facts.fits;
        apart = apart-changed b k g (λ c. record { number = refl; ap = refl; peer = refl })
            s.facts.apart;
      };
    })
  where
    i : Item
    i = raw_item (raw_message bytes)

    m : machine.Item
    m = machine.Raw bytes

    f : code.Connection → code.Connection
    f v = put side.Ap i (soiled v)

    g : Connection → Connection
    g c = queued side.Ap m (record c { clean = false })

    h : Connection → Connection
    h c = sending.put side.Ap m (record c { clean = false })

    once : record x {
      connections = at_first (numbered k) (put side.Ap i)
          (at_first (numbered k) soiled x.connections);
    } ≡ record x { connections = at_first (numbered k) f x.connections }
    once =
        ap (λ xs. record x { connections = xs })
        (twice (numbered k) (put side.Ap i) soiled x.connections (λ v. refl))

    made : ShownAs b.requests h f
    made c = put-shown b.requests side.Ap m (record c { clean = false })

    is-live : (c : Connection) → find (has_number k) b.connections ≡ Some c → c.wired ≡ true
    is-live c e = sym (ap is_wired e) ∙ live

    same-queues : at_first (has_number k) h b.connections ≡ at_first (has_number k) g b.connections
    same-queues =
        same-first (has_number k) h g b.connections
        (λ c e. ap (λ w. cond w (g c) (record c { clean = false })) (is-live c e))

    lasts : (at : Side) (c : Connection) → last_label at (g c) ≡ last_label at c
    lasts side.Ap c = refl
    lasts side.Far c = refl
