use Rattle.std.proofs.Common.{◌≡◌, ◌≤◌, None, map, sym, ap, ◌∙◌, arith, Ok}
use Rattle.gb_formats.specs.ManifestSpec.{long_string, plain_size}
use Rattle.gb_manifest.specs.Writes.{spec_of, string_spec}
use Rattle.gb_manifest.proofs.Written.{checked_back, write_plain, write_rule, write_too_long}
use Rattle.gb_manifest.proofs.writing.write.Goals as goal

pub returns-in-Some-broken_rule-clause-answer : goal.returns-in-Some-broken_rule-clause-answer
returns-in-Some-broken_rule-clause-answer c =
    let short : long_string (spec_of c.args.spec.now).strings ≡ None =
    ap (λ ss. long_string (map string_spec ss)) (sym c.items.ensures) ∙ sym c.in_default.ensures in
    write_rule (spec_of c.args.spec.now) _ short (sym c.in-Some-broken_rule.ensures)

pub returns-in_default-size-clause-answer : goal.returns-in_default-size-clause-answer
returns-in_default-size-clause-answer c =
    let short : long_string (spec_of c.args.spec.now).strings ≡ None =
    ap (λ ss. long_string (map string_spec ss)) (sym c.items.ensures) ∙ sym c.in_default.ensures in
    write_too_long (spec_of c.args.spec.now) short (sym c.in_default-broken_rule.ensures)
    c.in_default-size.ensures

pub returns-clause-answer : goal.returns-clause-answer
returns-clause-answer c =
    let spec = spec_of c.args.spec.now in
    let short : long_string spec.strings ≡ None =
    ap (λ ss. long_string (map string_spec ss)) (sym c.items.ensures) ∙ sym c.in_default.ensures in
    let has = c.in-Some-size.ensures in
    let fits : plain_size spec ≤ 65535 = omega (arith, has.size_is, has.within) in
    write_plain spec short (sym c.in_default-broken_rule.ensures) fits
    ∙ ap (λ l. Ok l) (sym c.in_ok-bytes.ensures)

pub returns-clause-back : goal.returns-clause-back
returns-clause-back c =
    let spec = spec_of c.args.spec.now in
    let has = c.in-Some-size.ensures in
    let fits : plain_size spec ≤ 65535 = omega (arith, has.size_is, has.within) in
    checked_back spec _ c.in_ok-bytes.ensures has.fit fits (sym c.in_default-broken_rule.ensures)
