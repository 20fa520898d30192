-- A byte of a name joins those before it.
use Rattle.std.proofs.Common.{◌∙◌, sym}
use Rattle.gb_base.proofs.Names.{all-behind, placed-more}
use Rattle.gb_base.proofs.name.places_of.Goals as goal

pub loop-i-preserved : goal.loop-i-preserved
loop-i-preserved c =
    let w = c.args.bytes.now in
    record {
      even =
          all-behind w c.loop-i.i c.loop-i-test.true
          (sym c.is_name_byte.ensures ∙ c.if-not-is_name_byte.false)
          ∙ c.loop-i.invariant.even;
      placed =
          placed-more w c.loop-i.places c.loop-i.i c.loop-i-test.true c.requires
          c.loop-i.invariant.placed;
    }
