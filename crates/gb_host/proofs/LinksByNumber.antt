-- What is looked up is what the machine's application processor has.
use Rattle.std.proofs.Common.{◌≡◌, ◌==◌, ℕ, Option, Some, None, sym, ap, ◌∙◌}
use Rattle.std.specs.List.{find}
use Rattle.gb_base.specs.declared.interface.Link.{Link}
use Rattle.gb_host.specs.Stands.{Stands}
use Rattle.gb_host.specs.declared.host.Host.{Host}
use Rattle.gb_machine.specs.Host as machine
use Rattle.gb_machine.specs.Host.{link_of}

-- a connection that is looked up by its number
pub looked : (x : Host) (h : machine.Host) (k : ℕ) (o p : Option Link) → Stands x h
    → o ≡ find (λ l. l.connection == k) x.links.items
    → o ≡ p → link_of k h ≡ p
looked x h k o p s e is = ap (link_of k) s ∙ sym e ∙ is

-- it is the one that there is
pub same-link : (x : Host) (h : machine.Host) (k : ℕ) (o : Option Link) (link l : Link) → Stands x h
    → o ≡ find (λ l. l.connection == k) x.links.items → o ≡ Some link
    → link_of k h ≡ Some l → l ≡ link
same-link x h k o link l s e is there =
    let both : Some l ≡ Some link = sym there ∙ looked x h k o (Some link) s e is in cc

-- there is none
pub no-link : (x : Host) (h : machine.Host) (k : ℕ) (o : Option Link) (l : Link) → Stands x h
    → o ≡ find (λ l. l.connection == k) x.links.items → o ≡ None → link_of k h ≡ Some l → ⊥
no-link x h k o l s e is there =
    let both : Some l ≡ None = sym there ∙ looked x h k o None s e is in absurd cc

-- there is one
pub some-link : (x : Host) (h : machine.Host) (k : ℕ) (o : Option Link) (link : Link) → Stands x h
    → o ≡ find (λ l. l.connection == k) x.links.items → o ≡ Some link → link_of k h ≡ None → ⊥
some-link x h k o link s e is none =
    let both : Some link ≡ None = sym (looked x h k o (Some link) s e is) ∙ none in absurd cc
