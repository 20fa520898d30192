-- The lines that were read are those of the script.
use Rattle.std.proofs.Common.{◌≡◌, rules}
use Rattle.gb_formats.specs.Parts.{parts}
use Rattle.gb_script.proofs.PartReading.{rising-parts, valid-parts}
use Rattle.gb_script.proofs.requesters.parts.Goals as goal

pub returns-in-Err-Bad-clause-valid : goal.returns-in-Err-Bad-clause-valid
returns-in-Err-Bad-clause-valid c =
    let whole : c.up_to.result ≡ parts c.args.text.now = search rules in
    valid-parts c.args.text.now c.up_to.result whole

pub returns-in-Err-Bad-clause-rising : goal.returns-in-Err-Bad-clause-rising
returns-in-Err-Bad-clause-rising c =
    let whole : c.up_to.result ≡ parts c.args.text.now = search rules in
    rising-parts c.args.text.now c.up_to.result whole

pub returns-clause-valid : goal.returns-clause-valid
returns-clause-valid c =
    let whole : c.up_to-2.result ≡ parts c.args.text.now = search rules in
    valid-parts c.args.text.now c.up_to-2.result whole

pub returns-clause-rising : goal.returns-clause-rising
returns-clause-rising c =
    let whole : c.up_to-2.result ≡ parts c.args.text.now = search rules in
    rising-parts c.args.text.now c.up_to-2.result whole
