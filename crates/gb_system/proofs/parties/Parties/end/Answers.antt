-- The end is told. Where nothing waits for the request, at most its connection closes then.
use Rattle.std.proofs.Common.{ap, option_map, sym}
use Rattle.gb_base.specs.declared.entry.Entry.TheVariants as entry
use Rattle.gb_system.proofs.Doings.{does-tell, does-then}
use Rattle.gb_system.proofs.Endings.{follow-told, follows-then, loads-none, over-told, quiet-told}
use Rattle.gb_system.proofs.Endings.{unawaited}
use Rattle.gb_system.proofs.parties.Parties.end.Goals as goal

pub returns : goal.returns
returns c = record {
  step = λ s st is may.
      let n = c.args.over.number in
      let how = c.args.outcome in
      let e = entry.Ended n how c.args.reading in
      let told = does-tell e st c.in_ok-push.ensures.ok in
      let rested = unawaited n how (quiet-told e n how s
      (c.is_awaited.ensures.host s how st c.if-is_awaited.false)) told.stand in
      let noticed = follows-then c.args.over how (over-told e is) rested
      (c.in_ok-idle_behind.ensures.step _ _ rested.stand (follow-told e may).idle
      (over-told e is)) in
      does-then told (loads-none n how told.stand noticed
      (sym (ap (option_map (λ l. how)) (c.is_awaited.ensures.load c.if-is_awaited.false))));
}
