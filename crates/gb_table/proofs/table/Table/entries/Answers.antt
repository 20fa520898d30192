-- Each place adds its entry, and no number stands twice.
use Rattle.std.proofs.Common.{ap, subst, sym, ◌∙◌, ◌++◌, ◌∷◌, [], eqb, ◌+◌, arith}
use Rattle.std.specs.List.{IsDistinct}
use Rattle.std.specs.Map.{keys_of}
use Rattle.gb_table.proofs.Looking.{all-listed, distinct, inside, listed}
use Rattle.gb_table.specs.Table.{entries_from, item_at}
use Rattle.gb_table.proofs.table.Table.entries.Goals as goal

pub loop-place-preserved : goal.loop-place-preserved
loop-place-preserved g c =
    listed c.self.inside.first c.loop-place.place _ c.self.inside.places.items
    c.loop-place.entries c.list.new.entries c.args.self.now (omega arith)
    (omega (arith, c.loop-place-test.true, c.len-place-end.ensures, c.self.inside.places.ok))
    (c.in_ok-list.ensures.added
    ∙ ap (λ o. c.loop-place.entries
    ++ entries_from (c.self.inside.first + c.loop-place.place) (o ∷ [])) c.item_in.ensures)
    c.loop-place.invariant

pub returns-clause-distinct : goal.returns-clause-distinct
returns-clause-distinct g c =
    subst (λ es. IsDistinct eqb (keys_of es))
    (c.self.view_is
    ∙ sym (all-listed c.self.inside.first c.loop-place.place c.self.inside.places.items
    c.loop-place.entries c.args.self.now
    (omega (arith, c.loop-place-test.false, c.len-place-end.ensures, c.self.inside.places.ok))
    c.loop-place.invariant))
    (distinct c.self.inside.first c.self.inside.places.items)

pub returns-in_err-list-clause-few : goal.returns-in_err-list-clause-few
returns-in_err-list-clause-few g c = λ none.
    let nothing =
    c.item_in.ensures
    ∙ sym (inside c.self.inside.first c.loop-place.place c.self.inside.places.items)
    ∙ ap (λ es. item_at es (c.self.inside.first + c.loop-place.place)) (c.self.view_is ∙ none) in
    absurd (cc (c.in_err-list.ensures.few nothing))
