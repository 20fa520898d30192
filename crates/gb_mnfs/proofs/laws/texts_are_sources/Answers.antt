use Rattle.std.proofs.Common.{◌∙◌, ap}
use Rattle.gb_formats.specs.Source.{made_of}
use Rattle.gb_formats.specs.SourceTexts.{manifest_spec, source_text}
use Rattle.gb_mnfs.proofs.ManifestFits.{manifest_fits}
use Rattle.gb_mnfs.proofs.Sources.{made_of_source}
use Rattle.gb_mnfs.proofs.SourceWhole.{source_back}
use Rattle.gb_formats.specs.ManifestSpec.{write_answer}
use Rattle.gb_mnfs.proofs.PlainBack.{spec_is}
use Rattle.gb_mnfs.proofs.Rewritten.{manifest_written}
use Rattle.gb_mnfs.proofs.laws.texts_are_sources.Goals as goal

pub returns-clause-spec : goal.returns-clause-spec
returns-clause-spec c spec h = source_back spec h

pub returns-clause-manifest : goal.returns-clause-manifest
returns-clause-manifest c bytes m are h =
    source_back (manifest_spec m) (manifest_fits bytes m are h)

pub returns-clause-back : goal.returns-clause-back
returns-clause-back c bytes m are h =
    made_of_source (source_text (manifest_spec m)) (manifest_spec m)
    (source_back (manifest_spec m) (manifest_fits bytes m are h))
    ∙ ap (λ r. made_of r) (manifest_written bytes m are h)

pub returns-clause-same : goal.returns-clause-same
returns-clause-same c spec bytes m fit w are h =
    let same = spec_is spec bytes m fit w h in
    made_of_source (source_text (manifest_spec m)) (manifest_spec m)
    (source_back (manifest_spec m) (manifest_fits bytes m are h))
    ∙ ap (λ s. made_of (write_answer s)) same.0
    ∙ ap (λ r. made_of r) w
