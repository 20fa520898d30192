-- Bridge lines on connections.
use Rattle.std.proofs.Common.{◌≡◌, ◌<◌, ◌≤◌, ◌-◌, ◌==◌, ℕ, Bool, true, false, not, cond, nat_le}
use Rattle.std.proofs.Common.{is_none, Option, Some, None, Ok, Err, List, [], ◌∷◌, refl, sym, ap}
use Rattle.std.proofs.Common.{◌∙◌, arith}
use Rattle.std.proofs.lemmas.Bool.Decides.{nat_tests}
use Rattle.std.specs.List.{find}
use Rattle.gb_base.specs.declared.bridge.BridgeAsk.{BridgeAsk}
use Rattle.gb_base.specs.declared.interface.Link.{Link}
use Rattle.gb_base.specs.declared.refusal.Refusal.TheVariants as why
use Rattle.gb_formats.specs.Bridges.{Request, TooLarge, Unsupported, credits_taken}
use Rattle.gb_formats.specs.UartDevice.{credits_spent}
use Rattle.gb_host.proofs.LinksByNumber.{same-link}
use Rattle.gb_host.specs.Changes.{with_fewer}
use Rattle.gb_host.specs.Stands.{Stands}
use Rattle.gb_host.specs.declared.host.Host.{Host}
use Rattle.gb_machine.specs.Host as machine
use Rattle.gb_machine.specs.Host.{is_link, link_of, with_link}
use Rattle.gb_machine.specs.LineActions.{spent}
use Rattle.gb_machine.specs.Lists.{at_first, first_met}

pub unsupported-is : (a b c : Bool) (request : Request)
    → cond a (cond b (Err TooLarge) (Ok request)) (Err Unsupported) ≡ Err Unsupported
    → first_met ((not a, why.Unsupported) ∷ (b, why.TooLarge) ∷ (c, why.NoCredit) ∷ [])
    ≡ Some why.Unsupported
unsupported-is true true c request h = absurd cc
unsupported-is true false c request h = absurd cc
unsupported-is false b c request h = refl

pub too_large-is : (a b c : Bool) (request : Request)
    → cond a (cond b (Err TooLarge) (Ok request)) (Err Unsupported) ≡ Err TooLarge
    → first_met ((not a, why.Unsupported) ∷ (b, why.TooLarge) ∷ (c, why.NoCredit) ∷ [])
    ≡ Some why.TooLarge
too_large-is true true c request h = refl
too_large-is true false c request h = absurd cc
too_large-is false b c request h = absurd cc

-- a request that is written
pub written-is : (a b c : Bool) (request r : Request)
    → cond a (cond b (Err TooLarge) (Ok request)) (Err Unsupported) ≡ Ok r
    → (request ≡ r)
    × (first_met ((not a, why.Unsupported) ∷ (b, why.TooLarge) ∷ (c, why.NoCredit) ∷ [])
    ≡ cond c (Some why.NoCredit) None)
written-is true true c request r h = absurd cc
written-is true false c request r h = (cc, refl)
written-is false b c request r h = absurd cc

pub short : (credits n : ℕ) → credits < n → is_none (credits_spent credits n) ≡ true
short credits n h =
    let test : nat_le n credits ≡ false = grind (arith, nat_tests) in
    ap (λ b. is_none (cond b (Some (credits - n)) None)) test

pub enough : (credits n : ℕ) → n ≤ credits → is_none (credits_spent credits n) ≡ false
enough credits n h =
    let test : nat_le n credits ≡ true = grind (arith, nat_tests) in
    ap (λ b. is_none (cond b (Some (credits - n)) None)) test

-- the credits of a bridge line are taken
pub takes-credits : (x : Host) (h : machine.Host) (what : BridgeAsk) (k : ℕ) (o : Option Link)
    (link l : Link) (n : ℕ) (items : List Link)
    → Stands x h → o ≡ find (λ l. l.connection == k) x.links.items → o ≡ Some link
    → link_of k h ≡ Some l → n ≡ credits_taken what
    → items ≡ at_first (is_link link.intf link.cport) (with_fewer n) x.links.items
    → with_link l.intf l.cport (spent what) h
    ≡ record { interfaces = x.interfaces; links = items; images = x.images }
takes-credits x h what k o link l n items s e is there taken new =
    let links = x.links.items in
    let same = same-link x h k o link l s e is there in
    ap (λ g. with_link l.intf l.cport (spent what) g) s
    ∙ ap (λ (m : Link). record {
      interfaces = x.interfaces;
      links = at_first (is_link m.intf m.cport) (with_fewer (credits_taken what)) links;
      images = x.images;
    }) same
    ∙ ap (λ m. record {
      interfaces = x.interfaces;
      links = at_first (is_link link.intf link.cport) (with_fewer m) links;
      images = x.images;
    }) (sym taken)
    ∙ ap (λ ls. record { interfaces = x.interfaces; links = ls; images = x.images }) (sym new)

-- a line that takes no credits leaves connections as they are
same-credits : (test : Link → Bool) (what : BridgeAsk) (ls : List Link) → credits_taken what ≡ 0
    → at_first test (spent what) ls ≡ ls
same-credits test what [] none = refl
same-credits test what (l ∷ ls) none = by (test l) (same-credits test what ls none)
  where
    by : (b : Bool) → at_first test (spent what) ls ≡ ls
        → cond b (spent what l ∷ ls) (l ∷ at_first test (spent what) ls) ≡ l ∷ ls
    by true later =
        let e : l.credits - credits_taken what ≡ l.credits = omega (arith, none) in
        ap (λ n. record l { credits = n } ∷ ls) e
    by false later = ap (λ ms. l ∷ ms) later

pub takes-none : (x : Host) (h : machine.Host) (what : BridgeAsk) (l : Link) → Stands x h
    → credits_taken what ≡ 0 → Stands x (with_link l.intf l.cport (spent what) h)
takes-none x h what l s none =
    ap (λ ls. record h { links = ls }) (same-credits (is_link l.intf l.cport) what h.links none) ∙ s
