-- The connections of a bus once one changes, and which is found.
use Rattle.std.proofs.Common.{◌≡◌, ℕ, Option, Some, None, option_map, List, [], ◌∷◌, ◌++◌, map}
use Rattle.std.proofs.Common.{sym, ap, ◌∙◌}
use Rattle.std.proofs.lemmas.List.{map-append}
use Rattle.std.specs.List.{find}
use Rattle.gb_bus.proofs.Mapped.{find-map, map-at_first, map-same_first, map-without}
use Rattle.gb_bus.specs.Connection.{Connection}
use Rattle.gb_bus.specs.Parts.{numbered}
use Rattle.gb_bus.specs.Shown.{connection_in, without_ops}
use Rattle.gb_invariants.proofs.Awaiting.{same-some}
use Rattle.gb_machine.specs.Bus as machine
use Rattle.gb_machine.specs.Bus.{Request, has_number}
use Rattle.gb_machine.specs.Lists.{at_first, without}

-- a connection of a bus is this one of the machine
abbrev pub IsShown : List Request → Connection → machine.Connection → Type 0
IsShown rs x c = without_ops x ≡ connection_in rs c

-- the connections of a bus are these of the machine
abbrev pub AreShown : List Request → List Connection → List machine.Connection → Type 0
AreShown rs xs cs = map without_ops xs ≡ map (connection_in rs) cs

-- ---- changes

-- a change of a connection is seen as this one, which leaves out the requests of its sides
abbrev pub SeenAs : (Connection → Connection) → (Connection → Connection) → Type 0
SeenAs f h = (x : Connection) → without_ops (f x) ≡ h (without_ops x)

-- a change of the machine's connection is shown as this one
abbrev pub ShownAs : List Request → (machine.Connection → machine.Connection)
    → (Connection → Connection) → Type 0
ShownAs rs g h = (c : machine.Connection) → connection_in rs (g c) ≡ h (connection_in rs c)

-- the connection with a number changes
pub changed : (rs : List Request) (k : ℕ) (f : Connection → Connection)
    (g : machine.Connection → machine.Connection) (h : Connection → Connection)
    (xs : List Connection) (cs : List machine.Connection)
    → SeenAs f h → ShownAs rs g h → AreShown rs xs cs
    → AreShown rs (at_first (numbered k) f xs) (at_first (has_number k) g cs)
changed rs k f g h xs cs near far s =
    map-at_first without_ops (numbered k) f h xs near
    ∙ ap (at_first (numbered k) h) s
    ∙ sym (map-at_first (connection_in rs) (numbered k) g h cs far)

-- the requests of its sides do
pub stays-for : (rs : List Request) (k : ℕ) (f : Connection → Connection) (xs : List Connection)
    (cs : List machine.Connection) → SeenAs f (λ x. x) → AreShown rs xs cs
    → AreShown rs (at_first (numbered k) f xs) cs
stays-for rs k f xs cs same s = map-same_first without_ops (numbered k) f xs same ∙ s

-- one more connection
pub one-more : (rs : List Request) (x : Connection) (c : machine.Connection) (xs : List Connection)
    (cs : List machine.Connection) → IsShown rs x c → AreShown rs xs cs
    → AreShown rs (xs ++ x ∷ []) (cs ++ c ∷ [])
one-more rs x c xs cs same s =
    map-append without_ops xs (x ∷ [])
    ∙ ap (λ ys. ys ++ without_ops x ∷ []) s
    ∙ ap (λ y. map (connection_in rs) cs ++ y ∷ []) same
    ∙ sym (map-append (connection_in rs) cs (c ∷ []))

-- the connection with a number is there no more
pub removed : (rs : List Request) (k : ℕ) (xs : List Connection) (cs : List machine.Connection)
    → AreShown rs xs cs → AreShown rs (without (numbered k) xs) (without (has_number k) cs)
removed rs k xs cs s =
    map-without without_ops (numbered k) xs
    ∙ ap (without (numbered k)) s
    ∙ sym (map-without (connection_in rs) (numbered k) cs)

-- ---- what is found

-- a connection that is found, or none
abbrev pub IsFound : List Request → Option Connection → Option machine.Connection → Type 0
IsFound rs o p = option_map without_ops o ≡ option_map (connection_in rs) p

-- the connection with a number
pub found-number : (rs : List Request) (k : ℕ) (xs : List Connection) (cs : List machine.Connection)
    → AreShown rs xs cs → IsFound rs (find (numbered k) xs) (find (has_number k) cs)
found-number rs k xs cs s =
    sym (find-map without_ops (numbered k) xs)
    ∙ ap (find (numbered k)) s
    ∙ find-map (connection_in rs) (numbered k) cs

-- what is the same of each connection is the same of what is found
pub same-of : {A : Type 0} (rs : List Request) (f : Option Connection → A)
    (g : Option machine.Connection → A) (o : Option Connection) (p : Option machine.Connection)
    → f None ≡ g None
    → ((x : Connection) (c : machine.Connection) → IsShown rs x c → f (Some x) ≡ g (Some c))
    → IsFound rs o p → f o ≡ g p
same-of rs f g None None n s e = n
same-of rs f g (Some x) (Some c) n s e =
    s x c (same-some (without_ops x) (connection_in rs c) e)
same-of rs f g None (Some c) n s e = absurd cc
same-of rs f g (Some x) None n s e = absurd cc
