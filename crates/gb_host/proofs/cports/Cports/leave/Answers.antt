-- The CPort of the connection is counted once less.
use Rattle.std.proofs.Common.{◌<◌, ◌≤◌, ◌/◌, ap, length, refl, rules, set, sym, arith, subst}
use Rattle.gb_host.proofs.Counts.{counted-leaves, either-some, least-falls, least-stays}
use Rattle.gb_host.proofs.Counts.{outside-leaves}
use Rattle.gb_host.specs.Counts.{IsLeast}
use Rattle.gb_host.proofs.cports.Cports.leave.Goals as goal

pub returns-then-link-ge-LEAST_CPORT : goal.returns-then-link-ge-LEAST_CPORT
returns-then-link-ge-LEAST_CPORT c = λ front behind counted.
    let within : c.from-i.result < length c.args.self.now.counts.items = search rules in
    let at = c.from-i.ensures in
    let low = c.if-link-ge-LEAST_CPORT.true in
    let min = c.min-self.ensures in
    let kept = c.mark.ensures.least in
    counted-leaves c.args.self.now _ front behind c.args.link c.from-i.result c.index.result.now
    c.saturating_sub-count.result at within c.index.ensures c.saturating_sub-count.ensures
    c.mark.ensures.counts
    (λ was less. subst (λ n. IsLeast (set c.args.self.now.counts.items c.from-i.result n)
    c.mark.new.self.full.items c.min-self.result) (sym c.if-count-eq0.true)
    (subst (λ bs. IsLeast (set c.args.self.now.counts.items c.from-i.result 0) bs
    c.min-self.result) (sym c.mark.ensures.full)
    (least-falls c.args.self.now.counts.items c.args.self.now.full.items c.from-i.result
    (c.args.link.ap / 64) c.args.self.now.least c.min-self.result within
    (omega (arith, at, low)) (ap (λ n. n / 64) (sym at)) (omega (arith, min, kept))
    (omega (arith, at, min)) (λ h. omega (arith, at, min, kept, h)) (λ h. omega (
      arith,
      at,
      min,
      kept,
      h,
    )) was))) counted

pub returns-else-count-eq0 : goal.returns-else-count-eq0
returns-else-count-eq0 c = λ front behind counted.
    let within : c.from-i.result < length c.args.self.now.counts.items = search rules in
    counted-leaves c.args.self.now _ front behind c.args.link c.from-i.result c.index.result.now
    c.saturating_sub-count.result c.from-i.ensures within c.index.ensures
    c.saturating_sub-count.ensures refl
    (λ was less. least-stays c.args.self.now.counts.items c.args.self.now.full.items
    c.from-i.result c.saturating_sub-count.result c.args.self.now.least within less
    (either-some c.saturating_sub-count.result c.args.link.ap c.from-i.result c.from-i.ensures
    c.else-count-eq0.either) was) counted

pub returns-else-i-len : goal.returns-else-i-len
returns-else-i-len c = λ front behind counted.
    let over : length c.args.self.now.counts.items ≤ c.from-i.result = search rules in
    let at = c.from-i.ensures in
    outside-leaves c.args.self.now front behind c.args.link (omega (arith, over, at)) counted
