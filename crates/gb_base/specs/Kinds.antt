-- The kinds of a module's interfaces.
use Rattle.std.specs.Prelude.{ℕ}

-- the most interfaces that a module has
abbrev pub most_kinds : ℕ
most_kinds = 4
