use Rattle.std.proofs.Common.{refl, sym}
use Rattle.gb_mnfs.proofs.Drafts.{said}
use Rattle.gb_mnfs.proofs.draft.Draft.say.Goals as goal

pub returns : goal.returns
returns c f h =
    said c.args.self.now _ f c.in-Some.field-0 _ c.args.key.now c.args.value.now h
    (sym c.in-Some.ensures.value) c.in_ok-section.ensures refl refl refl refl refl refl
