use Rattle.gb_script.proofs.Readings.{lf-search}
use Rattle.gb_script.proofs.piece.first_lf.Goals as goal

pub returns : goal.returns
returns c = lf-search c.args.bytes.now c.memchr.result c.memchr.ensures
