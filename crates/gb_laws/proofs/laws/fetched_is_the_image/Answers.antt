use Rattle.gb_laws.proofs.firmware.Fetched.{fetched-is_the_image}
use Rattle.gb_laws.proofs.laws.fetched_is_the_image.Goals as goal

pub returns : goal.returns
returns c = fetched-is_the_image
