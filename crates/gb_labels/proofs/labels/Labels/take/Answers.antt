-- One mark is set.
use Rattle.std.proofs.Common.{◌<◌, ◌∙◌, ap, length, slice_index, subst, sym}
use Rattle.gb_labels.proofs.Marks.{takes}
use Rattle.gb_labels.proofs.labels.Labels.take.Goals as goal

pub returns : goal.returns
returns c =
    takes c.args.self.now c.self.inside.words.items c.args.label c.from-place.result
    c.index_mut.result.now
    (λ i. ap (λ s. slice_index s.words i) c.self.view_is ∙ c.reach.ensures.same i)
    c.from-place.ensures
    (subst (λ s. c.from-place.result < length s.words) (sym c.self.view_is) c.reach.ensures.there)
    c.index_mut.ensures.value
