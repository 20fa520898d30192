use Rattle.std.proofs.Common.{arith}
use Rattle.gb_wire.proofs.Decoded.{answer-spells, answer-only}
use Rattle.gb_wire.proofs.decoder.decode.Goals as goal

pub returns-clause-found : goal.returns-clause-found
returns-clause-found c =
    answer-spells c.front_message.result c.args.bytes.now (λ k. omega (arith, c.type_inv.bytes k))
    c.front_message.ensures

pub returns-clause-only : goal.returns-clause-only
returns-clause-only c =
    answer-only c.front_message.result c.args.bytes.now c.front_message.ensures
