use Rattle.gb_laws.proofs.firmware.KeptRuns.{kept-is_the_image}
use Rattle.gb_laws.proofs.laws.kept_is_the_image.Goals as goal

pub returns : goal.returns
returns c = kept-is_the_image
