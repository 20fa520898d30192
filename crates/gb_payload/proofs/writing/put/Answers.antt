use Rattle.std.proofs.Common.{rules}
use Rattle.gb_payload.specs.declared.writing.Field.TheVariants as field
use Rattle.gb_payload.proofs.Written.{field_more}
use Rattle.gb_payload.proofs.writing.put.Goals as goal

pub loop-field-preserved : goal.loop-field-preserved
loop-field-preserved c =
    field_more c.args.fields.now (field.U8 0) _ c.loop-field.out c.write.new.out
    c.loop-field.field-index c.loop-field.at c.size-at.result (search rules) (search rules)
    (search rules) c.write.ensures c.loop-field.invariant
