use Rattle.gb_manifest.proofs.Declarations.{declared_interface, declared_words, declared_bundle}
use Rattle.gb_manifest.proofs.Declarations.{declared_cport}
use Rattle.gb_manifest.proofs.declared.Declared.take.Goals as goal

pub returns-in-Interface : goal.returns-in-Interface
returns-in-Interface c before h =
    rw c.in-Interface.is
    (declared_interface _ _ before _ _ _ _ (c.take.ensures before _ _ _ h.interfaces) h)

pub returns-in-Words : goal.returns-in-Words
returns-in-Words c before h =
    rw c.in-Words.is
    (declared_words _ _ before _ _ _ (c.take-in-Words.ensures before _ h.strings) h)

pub returns-in-Bundle : goal.returns-in-Bundle
returns-in-Bundle c before h =
    rw c.in-Bundle.is
    (declared_bundle _ _ before _ _ _ (c.take-in-Bundle.ensures before _ h.bundles) h)

pub returns-in-Cport : goal.returns-in-Cport
returns-in-Cport c before h =
    rw c.in-Cport.is (declared_cport _ _ before _ _ _ _ (c.take-in-Cport.ensures before h.cports) h)
