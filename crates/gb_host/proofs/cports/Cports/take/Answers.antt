-- The CPort of the connection is counted once more.
use Rattle.std.proofs.Common.{◌<◌, ◌≤◌, length, rules, arith}
use Rattle.gb_host.proofs.Counts.{counted-comes, least-rises, outside-comes}
use Rattle.gb_host.proofs.cports.Cports.take.Goals as goal

pub returns-then-i-len : goal.returns-then-i-len
returns-then-i-len c = λ ls few counted.
    let within : c.from-i.result < length c.args.self.now.counts.items = search rules in
    let next = c.unused-self.ensures in
    counted-comes c.args.self.now _ ls c.args.link c.from-i.result c.index.result.now
    c.saturating_add-count.result c.from-i.ensures within few c.index.ensures
    c.saturating_add-count.ensures next.counts
    (λ was some. least-rises c.args.self.now.counts.items c.unused-self.new.self.counts.items
    c.args.self.now.full.items c.unused-self.new.self.full.items c.from-i.result
    c.saturating_add-count.result c.args.self.now.least c.unused-self.result within some
    next.within next.taken next.here next.«from» was) counted

pub returns-else-i-len : goal.returns-else-i-len
returns-else-i-len c = λ ls few counted.
    let over : length c.args.self.now.counts.items ≤ c.from-i.result = search rules in
    let at = c.from-i.ensures in
    outside-comes c.args.self.now ls c.args.link (omega (arith, over, at)) counted
