use Rattle.std.proofs.Common.{rules}
use Rattle.gb_bridge_payload.specs.Views.{carried_of}
use Rattle.gb_bridge_payload.proofs.Again.{is_read}
use Rattle.gb_bridge_payload.proofs.LoopbackLaws.{carried_again, carried_pieces}
use Rattle.gb_bridge_payload.proofs.carried.Carried.write.Goals as goal

pub returns-clause-again : goal.returns-clause-again
returns-clause-again c =
    is_read carried_pieces (carried_of c.args.self.now) c.args.out.now c.put.new.out c.put.result
    (carried_again c.args.self.now.first c.args.self.now.second c.args.self.now.bytes.now
    (search rules) (search rules) c.requires)
    (search rules)
