-- By which protocol the application processor reads what comes on a connection.
use Rattle.std.specs.Prelude.{◌≡◌, ℕ, Option, Some, None, List}
use Rattle.gb_base.specs.declared.bridge.Reading.TheVariants as reading
use Rattle.gb_base.specs.declared.interface.Link.{Link}
use Rattle.gb_formats.specs.Bridges.{reading_of}

-- what a protocol has to do with what is known of a connection
abbrev pub IsReadBy : Option Link → ℕ → Type 0
IsReadBy (Some l) protocol = protocol ≡ l.protocol
IsReadBy None protocol =
    (kind : ℕ) (payload : List ℕ) → reading_of protocol kind payload ≡ reading.Nothing
