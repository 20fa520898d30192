use Rattle.std.proofs.Common.{refl, sym, ◌∙◌, None}
use Rattle.gb_formats.specs.Source.{sections_of}
use Rattle.gb_mnfs.proofs.Drafts.{finished}
use Rattle.gb_mnfs.proofs.draft.Draft.finish.Goals as goal

pub returns-in-Some : goal.returns-in-Some
returns-in-Some c f h =
    let closed = c.in_ok-close.ensures f h in (
      sym (c.missing.ensures (record { closed = sections_of f; last = None }) closed refl)
          ∙ c.in-Some.is,
      refl,
    )

pub returns : goal.returns
returns c f h =
    let closed = c.in_ok-close.ensures f h in
    finished c.close.new.self (sections_of f) c.missing.result
    (c.missing.ensures (record { closed = sections_of f; last = None }) closed refl)
    c.in_default.is closed
