-- A check accepted the bytes, so the walk over them meets no refusal.
use Rattle.std.proofs.Common.{ap, refl, ◌∙◌}
use Rattle.std.specs.Result.{is_ok}
use Rattle.gb_manifest.specs.Walks.{descriptors_in, walk_from}
use Rattle.gb_manifest.proofs.Checked.{answer_rules, manifest_is}
use Rattle.gb_manifest.proofs.Law.{accepts}
use Rattle.gb_manifest.proofs.manifest.Manifest.accepted.Goals as goal

pub new-requires : goal.new-requires
new-requires c =
    let a = accepts c.args.bytes.now c.requires in
    ap is_ok (c.new-walk.ensures
    ∙ ap (λ xs. walk_from 4 xs) c.split_at.ensures.back ∙ a.checked.walked)

pub returns : goal.returns
returns c =
    let a = accepts c.args.bytes.now c.requires in
    let walk_is =
    c.new-walk.ensures ∙ ap (λ xs. walk_from 4 xs) c.split_at.ensures.back ∙ a.checked.walked in
    answer_rules c.args.bytes.now a.checked.placed _ a.checked.header a.checked.walked
    a.checked.ruled
    ∙ manifest_is _ _ _ _ _ (c.read_u16-size.ensures ∙ a.headed.size)
    (c.new.ensures ∙ ap descriptors_in walk_is) refl
