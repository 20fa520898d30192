use Rattle.std.proofs.Common.{arith, refl}
use Rattle.gb_bridge_payload.specs.Views.{loopback_ask_of}
use Rattle.gb_bridge_payload.proofs.LoopbackLaws.{loopback_ask_means}
use Rattle.gb_bridge_payload.proofs.loopback_ask.LoopbackAsk.read.Goals as goal

pub returns-clause-means : goal.returns-clause-means
returns-clause-means c =
    loopback_ask_means loopback_ask_of c.args.kind c.args.payload.now
    (λ i. omega (arith, c.type_inv.payload i)) (λ bytes. refl) c.row.result c.row.ensures
