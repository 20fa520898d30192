-- The place with the number, where its connection is there.
use Rattle.std.proofs.Common.{◌≡◌, true, sym, ◌∙◌}
use Rattle.gb_host.proofs.LinksThere.{place-gone, place-none, place-there}
use Rattle.gb_host.proofs.places.place_of.Goals as goal

pub returns-in_err-place-clause-first : goal.returns-in_err-place-clause-first
returns-in_err-place-clause-first c = λ rise.
    let says : c.args.rising ≡ true = search in
    c.from_residual.ensures
    ∙ sym (place-none c.args.connection c.args.places.now c.place_rising.result (rise says)
    (c.place_rising.ensures.first (rise says)) c.in_err-place.was)

pub returns-then-not-places-place-clause-first : goal.returns-then-not-places-place-clause-first
returns-then-not-places-place-clause-first c = λ rise.
    let says : c.args.rising ≡ true = search in
    sym (place-gone c.args.connection c.args.places.now c.place_rising.result c.in_ok-place.place _
    (rise says) (c.place_rising.ensures.first (rise says)) c.in_ok-place.was
    c.if-not-places-place.true)

pub returns-clause-first : goal.returns-clause-first
returns-clause-first c = λ rise.
    let says : c.args.rising ≡ true = search in
    sym (place-there c.args.connection c.args.places.now c.place_rising.result c.in_ok-place.place _
    (rise says) (c.place_rising.ensures.first (rise says)) c.in_ok-place.was
    c.if-not-places-place.false)
