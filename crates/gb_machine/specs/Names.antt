-- The names of requests.
use Rattle.std.specs.Prelude.{ℕ, ◌==◌, nat_lt, Bool, true, false, ◌&&◌, ◌||◌, if◌then◌else◌, Option}
use Rattle.std.specs.Prelude.{Some, None, is_some, List, [], ◌∷◌, ◌++◌}
use Rattle.std.specs.Str.{bytes_eq}
use Rattle.gb_base.specs.declared.name.Name.{Name}
use Rattle.gb_machine.specs.Lists.{sorted, without}
use Rattle.gb_machine.specs.State.{State}

-- two names are one
abbrev pub same_name : Name → Name → Bool
same_name a b = a.who == b.who && bytes_eq a.word b.word

-- the request that a name names
abbrev pub named : Name → List (Name × ℕ) → Option ℕ
named name [] = None
named name (p ∷ ps) = if same_name p.0 name then Some p.1 else named name ps

-- a name names a request
abbrev pub is_bound : Name → State → Bool
is_bound name s = is_some (named name s.names)

-- the name names request n
abbrev pub bound : Name → ℕ → State → State
bound name n s = record s { names = s.names ++ (name, n) ∷ [] }

-- the name names nothing any more
abbrev pub freed : Name → State → State
freed name s = record s { names = without (λ p. same_name p.0 name) s.names }

-- byte order of words, a word coming before the longer ones that begin with it
abbrev pub word_before : List ℕ → List ℕ → Bool
word_before [] [] = false
word_before [] (b ∷ ys) = true
word_before (a ∷ xs) [] = false
word_before (a ∷ xs) (b ∷ ys) = nat_lt a b || a == b && word_before xs ys

-- the order of names: by requester, then by word
abbrev pub name_before : Name → Name → Bool
name_before a b = nat_lt a.who b.who || a.who == b.who && word_before a.word b.word

-- The names in their order.
abbrev pub names_in_order : State → List (Name × ℕ)
names_in_order s = sorted (λ p q. name_before p.0 q.0) s.names
