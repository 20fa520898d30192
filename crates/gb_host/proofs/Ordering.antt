-- Where an interface goes in order.
use Rattle.std.proofs.Common.{◌≡◌, ℕ, nat_lt, Option, Some, None, List, length, ap, ◌∙◌, sym}
use Rattle.std.specs.List.{insert, position_from}
use Rattle.gb_base.specs.declared.interface.Interface.{Interface}
use Rattle.gb_machine.proofs.Ordering as ordering
use Rattle.gb_machine.specs.Host.{intf_before}
use Rattle.gb_machine.specs.Lists.{in_order}

-- the order is that of numbers
by_number : (k : ℕ) (ys : List Interface) (o : Option ℕ) (x : Interface)
    → o ≡ position_from (λ y. nat_lt k y.intf) 0 ys → x.intf ≡ k
    → o ≡ position_from (intf_before x) 0 ys
by_number k ys o x e same = e ∙ sym (ap (λ n. position_from (λ y. nat_lt n y.intf) 0 ys) same)

-- an interface with a number goes where the first of a greater number stands
pub placed : (k : ℕ) (ys : List Interface) (o : Option ℕ) (i : ℕ)
    → o ≡ position_from (λ y. nat_lt k y.intf) 0 ys → o ≡ Some i
    → (x : Interface) → x.intf ≡ k → insert ys i x ≡ in_order intf_before x ys
placed k ys o i e is x same = ordering.placed intf_before x ys o i (by_number k ys o x e same) is

-- or at the end
pub placed-last : (k : ℕ) (ys : List Interface) (o : Option ℕ)
    → o ≡ position_from (λ y. nat_lt k y.intf) 0 ys → o ≡ None
    → (x : Interface) → x.intf ≡ k → insert ys (length ys) x ≡ in_order intf_before x ys
placed-last k ys o e is x same =
    ordering.placed-last intf_before x ys o (by_number k ys o x e same) is
