-- An id that isn't in use leaves all as it was.
use Rattle.std.proofs.Common.{rules}
use Rattle.gb_firmware.proofs.Lent.{stays}
use Rattle.gb_firmware.proofs.images.Images.release.Goals as goal

pub returns-then-not-free : goal.returns-then-not-free
returns-then-not-free c =
    stays c.args.connection c.args.id c.self.inside.given c.self.inside.loans c.free.new.self
    c.args.self.now c.refused.result c.self.view_is (search rules) c.free.ensures.freed
    c.refused.ensures
