-- The end is told, and what waited for the request goes on: the application processor, and then
-- a download.
use Rattle.std.proofs.Common.{◌++◌, ◌∷◌, [], sym, ap, ◌∙◌}
use Rattle.gb_base.specs.declared.entry.Entry.TheVariants as entry
use Rattle.gb_base.specs.declared.outcome.Outcome.{Outcome}
use Rattle.gb_system.proofs.Doings.{does-tell, does-then}
use Rattle.gb_system.proofs.Endings.{awaited-is, follow-told, loads-none, loads-then, over-told}
use Rattle.gb_system.proofs.parties.Parties.end_awaited.Goals as goal

pub returns-in_default : goal.returns-in_default
returns-in_default c = record {
  step = λ s st is may.
      let e = entry.Ended c.args.over.number c.args.outcome c.args.reading in
      let told = does-tell e st (c.in_ok-push.ensures.ok
      ∙ ap (λ (o : Outcome). c.args.told.now
      ++ entry.Ended c.args.over.number o c.args.reading ∷ []) c.in_ok-copy.ensures.same) in
      let hosted = c.in_ok-host_on.ensures.step _ told.stand (over-told e is)
      (follow-told e may) in
      does-then told (loads-none c.args.over.number c.args.outcome told.stand hosted
      (sym c.in_default.is ∙ c.in_ok-awaited.ensures));
}

pub returns : goal.returns
returns c = record {
  step = λ s st is may.
      let e = entry.Ended c.args.over.number c.args.outcome c.args.reading in
      let told = does-tell e st (c.in_ok-push.ensures.ok
      ∙ ap (λ (o : Outcome). c.args.told.now
      ++ entry.Ended c.args.over.number o c.args.reading ∷ []) c.in_ok-copy.ensures.same) in
      let hosted = c.in_ok-host_on.ensures.step _ told.stand (over-told e is)
      (follow-told e may) in
      does-then told (loads-then c.args.over.number c.args.outcome c.in-Some.outcome
      (awaited-is _ c.in-Some.outcome c.args.outcome (sym c.in-Some.is ∙ c.in_ok-awaited.ensures))
      hosted (c.in_ok-load_on.ensures.step _ hosted.stand));
}
