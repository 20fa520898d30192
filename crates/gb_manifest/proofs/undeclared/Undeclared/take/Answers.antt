use Rattle.std.proofs.Common.{refl, arith, ◌∙◌}
use Rattle.gb_manifest.proofs.Spoken.{interface_seen, cport_seen, passed}
use Rattle.gb_manifest.proofs.undeclared.Undeclared.take.Goals as goal

pub returns-in-Interface : goal.returns-in-Interface
returns-in-Interface c all before declared h =
    rw c.in-Interface.is
    (interface_seen _ _ all before _ _ _ _ _ _ refl c.first_place-self.ensures
    c.first_place-self-in-Interface.ensures (c.lacks.ensures all declared.strings)
    (c.lacks-in-Interface.ensures all declared.strings) h)

pub returns-in-Cport : goal.returns-in-Cport
returns-in-Cport c all before declared h =
    rw c.in-Cport.is
    (cport_seen _ _ all before _ _ _ _ _ c.first_place-self-in-Cport.ensures refl refl
    (c.has.ensures ∙ declared.bundles.met c.in-Cport.bundle (omega arith)) h)

pub returns-in-Words : goal.returns-in-Words
returns-in-Words c all before declared h =
    rw c.in-Words.is (passed _ all before _ _ refl refl refl h)

pub returns-in-Bundle : goal.returns-in-Bundle
returns-in-Bundle c all before declared h =
    rw c.in-Bundle.is (passed _ all before _ _ refl refl refl h)
