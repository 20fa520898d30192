use Rattle.std.proofs.Common.{◌≡◌, rules, ap, ◌∙◌, option_map}
use Rattle.gb_manifest.proofs.Listing.{reason_of}
use Rattle.gb_manifest.proofs.writing.broken_rule.Goals as goal

pub returns : goal.returns
returns c =
    let undeclared = c.undeclared_by-undeclared.ensures c.declared_by-declared.ensures in
    let ruled = c.rules_refusal.ensures _ c.declared_by-declared.ensures undeclared in
    let mapped : c.map.result ≡ option_map (λ w. w.reason) c.rules_refusal.result = search rules in
    mapped ∙ reason_of c.rules_refusal.result ∙ ap (λ r. option_map (λ why. why.reason) r) ruled
