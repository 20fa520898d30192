-- A manifest that is refused.
use Rattle.std.proofs.Common.{◌≡◌, ℕ, Option, Some, None, option_map, Result, Ok, Err, List, sym}
use Rattle.std.proofs.Common.{ap, ◌∙◌}
use Rattle.gb_base.specs.declared.entry.Entry.TheVariants as entry
use Rattle.gb_base.specs.declared.steps.Purpose.{Purpose}
use Rattle.gb_formats.specs.Manifest.{Manifest, refusal_in}
use Rattle.gb_formats.specs.ManifestRules as rules
use Rattle.gb_machine.specs.Failures.{interface_fails}
use Rattle.gb_machine.specs.Host.{Host}
use Rattle.gb_machine.specs.Sequences.{manifest_checked}
use Rattle.gb_machine.specs.Turns.{failed_turn, telling}
use Rattle.gb_manifest.specs.Values.{refused_of}
use Rattle.gb_manifest.specs.declared.refusal.Refused.{Refused}

pub refused-checked : (answer : Result Manifest rules.Refused) (o : Option Refused) (why : Refused)
    (p : Purpose) (bytes : List ℕ) (h : Host)
    → option_map refused_of o ≡ refusal_in answer → o ≡ Some why
    → telling (entry.Manifest p.intf why.at why.reason) (failed_turn (interface_fails p h))
    ≡ manifest_checked answer p bytes h
refused-checked (Ok m) o why p bytes h e is =
    let both : Some (refused_of why) ≡ None = sym (ap (λ w. option_map refused_of w) is) ∙ e in
    absurd cc
refused-checked (Err w) o why p bytes h e is =
    let both : Some (refused_of why) ≡ Some w = sym (ap (λ v. option_map refused_of v) is) ∙ e in
    let same : refused_of why ≡ w = cc in
    ap (λ (v : rules.Refused).
    telling (entry.Manifest p.intf v.at v.reason) (failed_turn (interface_fails p h))) same
