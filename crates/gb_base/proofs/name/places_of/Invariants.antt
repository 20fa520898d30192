-- The bytes before this one are a name's, and stand in their places.
use Rattle.std.proofs.Common.{◌≡◌, ◌++◌, ◌-◌, drop, take}
use Rattle.std.specs.List.{list_all}
use Rattle.std.specs.Prelude.{replicate}
use Rattle.gb_base.specs.Name.{is_name_byte}
use Rattle.gb_base.proofs.name.places_of.Given as goal

abbrev pub invariant-loop-i : goal.invariant-loop-i
invariant-loop-i l = record {
  even : list_all is_name_byte (drop l.i l.bytes) ≡ list_all is_name_byte l.bytes;
  placed : l.places ≡ take l.i l.bytes ++ replicate (16 - l.i) 0;
}
