use Rattle.std.proofs.Common.{ap, arith, sym, ◌∙◌}
use Rattle.gb_share.proofs.Partings.{are_requesters, first_more, long_more}
use Rattle.gb_share.specs.Picks.{lines_by}
use Rattle.gb_share.proofs.parting.requesters.Goals as goal

pub loop-who-preserved : goal.loop-who-preserved
loop-who-preserved c = record {
  first = first_more c.args.asked c.loop-who.all.items c.push.new.self.items
      c.in_ok-requester.requester c.loop-who.who c.loop-who.invariant.first
      c.loop-who.invariant.long c.in_ok-push.ensures.items c.in_ok-requester.ensures.who
      (c.in_ok-requester.ensures.lines
      ∙ ap (λ ls. lines_by c.loop-who.who ls) c.in_ok-script.ensures.ok)
      c.in_ok-requester.ensures.full;
  long = long_more c.loop-who.all.items c.push.new.self.items c.in_ok-requester.requester
      c.loop-who.who c.loop-who.invariant.long c.in_ok-push.ensures.items;
}

pub returns : goal.returns
returns c =
    are_requesters c.args.asked c.loop-who.all.items c.greatest.result
    c.loop-who.invariant.first
    (omega (
      arith,
      c.loop-who.invariant.long,
      c.loop-who-test.false,
      c.loop-who.auto.who-end,
      c.from-who-end.ensures,
    )) c.greatest.type_inv
    (λ r high. ap (λ ls. lines_by r ls)
    (sym (c.items.ensures ∙ c.deref.ensures ∙ c.in_ok-script.ensures.ok))
    ∙ c.greatest.ensures r high)
