-- The CPort of a descriptor.
use Rattle.std.specs.Prelude.{◌≡◌, Option, Some, None, List, ◌∷◌}
use Rattle.gb_formats.specs.Descriptors.{Descriptor}
use Rattle.gb_formats.specs.Module.{ModulePort, ports_in}

-- a CPort in front of others, if it is there
abbrev pub put_front : Option ModulePort → List ModulePort → List ModulePort
put_front None ports = ports
put_front (Some port) ports = port ∷ ports

-- A descriptor declares this CPort with a device, or none.
abbrev pub Declares : Descriptor → Option ModulePort → Type 0
Declares d port = (later : List Descriptor) → ports_in (d ∷ later) ≡ put_front port (ports_in later)
