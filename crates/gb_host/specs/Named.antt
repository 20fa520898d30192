-- Which connections are at which far ends.
use Rattle.std.specs.Prelude.{◌≡◌, ◌+◌, ◌*◌, ◌<◌, ℕ, List, nat_eq, option_to_list}
use Rattle.std.specs.HashMap.{get}
use Rattle.gb_base.specs.declared.interface.Link.{Link}
use Rattle.gb_host.specs.Numbers.{numbers_where}
use Rattle.gb_host.specs.declared.ends.Ends.{Ends}
use Rattle.gb_machine.specs.Host.{is_link}

-- a CPort of an interface, as one number
abbrev pub end_number : ℕ → ℕ → ℕ
end_number intf cport = intf * 65536 + cport

-- Each far end has the number of the connection to it. There is one at most.
abbrev pub AreNamed : Ends → List Link → Type 0
AreNamed x links =
    (i c : ℕ) → c < 65536 → option_to_list (get nat_eq x.numbers (end_number i c))
    ≡ numbers_where (is_link i c) links
