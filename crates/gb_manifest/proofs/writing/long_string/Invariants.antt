-- The first string that is too long is among those that are left.
use Rattle.std.proofs.Common.{◌≡◌, map, drop}
use Rattle.gb_formats.specs.ManifestSpec.{long_string}
use Rattle.gb_manifest.specs.Writes.{string_spec}
use Rattle.gb_manifest.proofs.writing.long_string.Given as goal

abbrev pub invariant-loop-s : goal.invariant-loop-s
invariant-loop-s l =
    long_string (map string_spec l.strings)
    ≡ long_string (map string_spec (drop l.s-index l.strings))
