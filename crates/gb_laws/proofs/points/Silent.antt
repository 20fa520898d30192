-- What tells of no connection is quiet.
use Rattle.std.proofs.Common.{true, ◌≡◌}
use Rattle.gb_base.specs.declared.entry.Entry.{Entry}
use Rattle.gb_base.specs.declared.entry.Entry.TheVariants as entry
use Rattle.gb_laws.proofs.points.PointParts.{is_quiet, is_silent}

pub silent-quiet : (e : Entry) → is_silent e ≡ true → is_quiet e ≡ true
silent-quiet (entry.Connection k ap i c state) h = absurd cc
silent-quiet _ h = h
