-- One mark is cleared, where its word is there.
use Rattle.std.proofs.Common.{ap, arith, slice_index}
use Rattle.gb_labels.proofs.Marks.{frees}
use Rattle.gb_labels.proofs.labels.Labels.free.Goals as goal

pub returns-then-place-len : goal.returns-then-place-len
returns-then-place-len c =
    frees c.args.self.now c.self.inside.words.items c.self.inside.last c.args.label
    c.from-place.result c.index_mut.result.now
    (λ i. ap (λ s. slice_index s.words i) c.self.view_is) (ap (λ s. s.last) c.self.view_is)
    c.from-place.ensures
    (omega (arith, c.if-place-len.true, c.len.ensures, c.self.inside.words.ok.0))
    c.index_mut.ensures.value
