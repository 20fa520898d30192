use Rattle.gb_payload.specs.Fields.{spelled}
use Rattle.gb_bridge_payload.proofs.Fronts.{fronted_more}
use Rattle.gb_bridge_payload.proofs.writing.put_behind.Goals as goal

pub returns-clause-bytes : goal.returns-clause-bytes
returns-clause-bytes c = λ front base e f.
    fronted_more front (spelled c.args.fields.now) base c.args.out.now c.put.new.out c.args.at e
    c.requires c.in-Ok.ensures.2 f
