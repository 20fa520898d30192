use Rattle.std.proofs.Common.{◌≡◌, Some, None, length, option_map, sym, ap, ◌∙◌}
use Rattle.std.proofs.lemmas.Result.{err_from_is_err_and}
use Rattle.gb_formats.specs.Manifest.{refusal_in}
use Rattle.gb_formats.specs.ManifestRules.{rules_refusal}
use Rattle.gb_manifest.specs.Values.{refused_of}
use Rattle.gb_manifest.specs.Walks.{walk_from}
use Rattle.gb_manifest.proofs.Checked.{answer_descriptor, answer_rules}
use Rattle.gb_manifest.proofs.checks.checked.Goals as goal

pub returns-in_err-gather : goal.returns-in_err-gather
returns-in_err-gather c =
    let walk_is =
    ap (λ xs. walk_from 4 xs) (sym c.split_at.ensures.back) ∙ sym c.new-walk.ensures in
    let p = err_from_is_err_and c.from_residual-in_err-gather.result
    c.from_residual-in_err-gather.ensures.1 in
    rw (p.1, p.2)
    (answer_descriptor c.args.bytes.now _ c.in_ok-size.ensures.sound
    (walk_is ∙ c.in_err-gather.ensures))

pub returns-in-Some : goal.returns-in-Some
returns-in-Some c =
    let walk_is =
    ap (λ xs. walk_from 4 xs) (sym c.split_at.ensures.back) ∙ sym c.new-walk.ensures in
    let header = c.in_ok-size.ensures in
    let declares = c.in_ok-gather.ensures in
    let all = declares.all in
    let undeclared = c.undeclared-undeclared.ensures all declares.whole declares.declared_are in
    let ruled = c.rules_refusal.ensures all declares.declared_are undeclared in
    let found : option_map refused_of c.rules_refusal.result ≡ Some (refused_of c.in-Some.refused) =
    ap (λ r. option_map refused_of r) c.in-Some.is in
    let broken : rules_refusal (length c.args.bytes.now) all ≡ Some (refused_of c.in-Some.refused) =
    ap (λ n. rules_refusal n all) (sym header.size_is) ∙ sym ruled ∙ found in
    answer_rules c.args.bytes.now all _ header.sound (walk_is ∙ declares.whole) broken

pub accepted-requires : goal.accepted-requires
accepted-requires c =
    let walk_is =
    ap (λ xs. walk_from 4 xs) (sym c.split_at.ensures.back) ∙ sym c.new-walk.ensures in
    let header = c.in_ok-size.ensures in
    let declares = c.in_ok-gather.ensures in
    let all = declares.all in
    let undeclared = c.undeclared-undeclared.ensures all declares.whole declares.declared_are in
    let ruled = c.rules_refusal.ensures all declares.declared_are undeclared in
    let found : option_map refused_of c.rules_refusal.result ≡ None =
    ap (λ r. option_map refused_of r) c.in-None.is in
    let broken : rules_refusal (length c.args.bytes.now) all ≡ None =
    ap (λ n. rules_refusal n all) (sym header.size_is) ∙ sym ruled ∙ found in
    ap refusal_in
    (answer_rules c.args.bytes.now all _ header.sound (walk_is ∙ declares.whole) broken)
