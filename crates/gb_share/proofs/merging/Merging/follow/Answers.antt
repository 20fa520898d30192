use Rattle.std.proofs.Common.{◌∙◌, List, subst}
use Rattle.gb_base.specs.declared.journal.JournalEntry.{JournalEntry}
use Rattle.gb_share.specs.Placing.{HasLed}
use Rattle.gb_share.proofs.merging.Merging.follow.Goals as goal

pub loop-done-preserved : goal.loop-done-preserved
loop-done-preserved c = record {
  hex = c.take.ensures.hex ∙ c.loop-done.invariant.hex;
  led = λ asked last h.
      c.in_ok-take.ensures.takes asked _ last
      (subst (λ (es : List JournalEntry). HasLed asked c.loop-done.self es last)
      c.in-Some.ensures (c.loop-done.invariant.led asked last h));
}

pub returns-clause-follows : goal.returns-clause-follows
returns-clause-follows c asked last h =
    subst (λ (es : List JournalEntry). HasLed asked c.loop-done.self es last)
    c.in_default.ensures.0 (c.loop-done.invariant.led asked last h)
