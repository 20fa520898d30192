use Rattle.std.proofs.Common.{refl, sym}
use Rattle.std.proofs.lemmas.Result.{on_ok_weaker}
use Rattle.gb_mnfs.proofs.Drafts.{closed}
use Rattle.gb_mnfs.proofs.draft.Draft.close.Goals as goal

pub returns : goal.returns
returns c f h =
    on_ok_weaker c.add.result
    (λ added. closed c.args.self.now _ f c.in-Some.field-0 h (sym c.in-Some.ensures.value) added
    c.lacking_with-self.ensures refl refl c.take.ensures.after)
    c.add.ensures
