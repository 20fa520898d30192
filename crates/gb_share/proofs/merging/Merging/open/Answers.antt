use Rattle.std.proofs.Common.{◌∙◌, List, subst}
use Rattle.gb_base.specs.declared.journal.JournalEntry.{JournalEntry}
use Rattle.gb_share.specs.Placing.{Begins}
use Rattle.gb_share.proofs.Placings.{opened, zero_full, zero_placed, zero_some}
use Rattle.gb_share.proofs.merging.Merging.open.Goals as goal

pub loop-next-preserved-in-Continue-1 : goal.loop-next-preserved-in-Continue-1
loop-next-preserved-in-Continue-1 c = record {
  hex = c.place_full.ensures.hex ∙ c.loop-next.invariant.hex;
  begins = λ asked last b.
      (let now = c.loop-next.invariant.begins asked last b in
      zero_full asked c.loop-next.self c.place_full.new.self _ last now
      (c.in_ok-place_full.ensures.stands asked _ last now.stands)
      c.in_ok-place_full.ensures.order);
}

pub returns-in_default-next-clause-opens : goal.returns-in_default-next-clause-opens
returns-in_default-next-clause-opens c asked last b =
    zero_some asked c.loop-next.self _ last c.in-Some.next c.in-Some.ensures c.if-next.false
    (c.loop-next.invariant.begins asked last b) c.in_default-next.ensures.0 _

pub loop-next-preserved : goal.loop-next-preserved
loop-next-preserved c = record {
  hex = c.place_done.ensures.hex ∙ c.loop-next.invariant.hex;
  begins = λ asked last b.
      zero_placed asked c.loop-next.self c.place_done.new.self _ _ last c.in-Some.next
      c.in-Some.ensures c.if-next.false
      (subst (λ (es : List JournalEntry). Begins asked c.loop-next.self es last)
      c.in-Some-next.ensures (c.loop-next.invariant.begins asked last b))
      (λ mine s. c.in_ok-place_done.ensures.stands asked _ last mine s)
      c.in_ok-place_done.ensures.order;
}

pub returns-clause-opens : goal.returns-clause-opens
returns-clause-opens c asked last b =
    opened asked c.loop-next.self _ last (c.loop-next.invariant.begins asked last b)
    c.in_default.ensures
