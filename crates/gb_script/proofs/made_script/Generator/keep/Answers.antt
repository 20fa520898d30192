-- One draw further.
use Rattle.std.proofs.Common.{◌≡◌, ◌-◌, ◌/◌, ◌%◌, suc, arith}
use Rattle.gb_script.proofs.MadeSteps.{names-next, names-same}
use Rattle.gb_script.proofs.made_script.Generator.keep.Goals as goal

pub returns-then-row-le3 : goal.returns-then-row-le3
returns-then-row-le3 c = λ seed d after.
    let k = c.args.k in
    let more : k ≡ suc (k - 1) = omega (arith, c.requires.first) in
    let row : c.row.result ≡ c.args.number / 65536 % 8 = cc in
    names-next seed (k - 1) k c.args.self.now.number c.args.self.now.named c.args.number
    c.row.result more d after c.requires.small row c.if-row-le3.true

pub returns-else-row-le3 : goal.returns-else-row-le3
returns-else-row-le3 c = λ seed d after.
    let k = c.args.k in
    let more : k ≡ suc (k - 1) = omega (arith, c.requires.first) in
    let row : c.row.result ≡ c.args.number / 65536 % 8 = cc in
    names-same seed (k - 1) k c.args.self.now.number c.args.self.now.named c.args.number
    c.row.result more d after c.requires.small row c.if-row-le3.false
