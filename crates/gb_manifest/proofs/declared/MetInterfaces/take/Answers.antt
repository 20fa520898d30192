use Rattle.std.proofs.Common.{refl}
use Rattle.gb_manifest.proofs.Declarations.{interface_taken}
use Rattle.gb_manifest.proofs.declared.MetInterfaces.take.Goals as goal

pub returns : goal.returns
returns c before v p f h = interface_taken _ _ before _ v p f refl c.first_place-self.ensures h
