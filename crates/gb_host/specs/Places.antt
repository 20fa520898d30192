-- The places that connections have or had.
use Rattle.std.specs.Prelude.{◌<◌, ◌&&◌, Bool, if◌then◌else◌, List, [], ◌∷◌}
use Rattle.std.specs.List.{AllPairs}
use Rattle.gb_base.specs.declared.interface.Link.{Link}
use Rattle.gb_host.specs.declared.places.Place.{Place}

-- the connections that are there, in order
abbrev pub there_in : List Place → List Link
there_in [] = []
there_in (h ∷ hs) = if h.there then h.link ∷ there_in hs else there_in hs

-- a connection is there, and passes a test
abbrev pub has : (Link → Bool) → Place → Bool
has test h = h.there && test h.link

-- The numbers of all rise, those of gone connections too.
abbrev pub AllRise : List Place → Type 0
AllRise places = AllPairs (λ h g. h.link.connection < g.link.connection) places
