-- Names are in the order of their requesters, and then of their words' numbers.
use Rattle.std.proofs.Common.{◌∙◌, ap}
use Rattle.std.specs.Ordering.{nat_cmp, ordering_then}
use Rattle.gb_system.proofs.WordNumbers.{by-words}
use Rattle.gb_system.proofs.key.Key.cmp_names.Goals as goal

pub returns : goal.returns
returns c =
    let a = c.args.self.now in
    let b = c.args.other.now in
    let requesters =
    c.cmp-requesters.ensures
    ∙ ap (λ n. nat_cmp n.who c.other.inside.name.who) c.self.view_is
    ∙ ap (λ n. nat_cmp a.who n.who) c.other.view_is
    in
    let words =
    by-words a.word b.word c.word.result c.word-2.result c.word.ensures.number
    c.word-2.ensures.number c.word.ensures.name c.word-2.ensures.name
    in
    c.then.ensures
    ∙ ap (λ o. ordering_then o c.cmp.result) requesters
    ∙ ap (ordering_then (nat_cmp a.who b.who)) (c.cmp.ensures ∙ words)
