-- The first breach is in what is left.
use Rattle.std.proofs.Common.{◌≡◌, map, drop}
use Rattle.gb_formats.specs.ManifestRules.{breach, first_of}
use Rattle.gb_manifest.proofs.rules.first_of.Given as goal

abbrev pub invariant-loop-reason : goal.invariant-loop-reason
invariant-loop-reason l =
    first_of (map (λ b. breach b.0 b.1) l.breaches)
    ≡ first_of (map (λ b. breach b.0 b.1) (drop l.reason-index l.breaches))
