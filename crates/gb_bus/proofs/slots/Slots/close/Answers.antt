-- Each request closes before the rest.
use Rattle.std.proofs.Common.{◌<◌, ◌≤◌, ◌+◌, [], drop, length, subst, sym, get_or}
use Rattle.std.proofs.lemmas.List.{drop_all, drop_more}
use Rattle.gb_bus.proofs.SlotClosing.{closes-first, closes-none, forgets-first}
use Rattle.gb_bus.proofs.slots.Slots.close.Goals as goal
use Rattle.gb_bus.specs.Slots.{Closes}

pub loop-n-init : goal.loop-n-init
loop-n-init c = λ k h. h

pub loop-n-preserved : goal.loop-n-preserved
loop-n-preserved c = λ k h.
    let ns = c.args.unended.now in
    let i = c.loop-n.n-index in
    let within : i < length ns = c.loop-n-test.true in
    c.loop-n.invariant k
    (subst (λ xs. Closes xs c.args.late.now c.loop-n.self k) (sym (drop_more ns i 0 within))
    (closes-first c.loop-n.self c.end.new.self k (get_or ns i 0) (drop (i + 1) ns)
    c.args.late.now c.end.ensures h))

pub loop-n-2-init : goal.loop-n-2-init
loop-n-2-init c = λ k h.
    let ns = c.args.unended.now in
    let i = c.loop-n.n-index in
    let past : length ns ≤ i = c.loop-n-test.false in
    c.loop-n.invariant k
    (subst (λ xs. Closes xs c.args.late.now c.loop-n.self k) (sym (drop_all i ns past)) h)

pub loop-n-2-preserved : goal.loop-n-2-preserved
loop-n-2-preserved c = λ k h.
    let ns = c.args.late.now in
    let i = c.loop-n-2.n-index in
    let within : i < length ns = c.loop-n-2-test.true in
    c.loop-n-2.invariant k
    (subst (λ xs. Closes [] xs c.loop-n-2.self k) (sym (drop_more ns i 0 within))
    (forgets-first c.loop-n-2.self c.forget.new.self k (get_or ns i 0) (drop (i + 1) ns)
    c.forget.ensures h))

pub returns : goal.returns
returns c =
    let ns = c.args.late.now in
    let i = c.loop-n-2.n-index in
    let past : length ns ≤ i = c.loop-n-2-test.false in
    c.loop-n-2.invariant c.loop-n-2.self
    (subst (λ xs. Closes [] xs c.loop-n-2.self c.loop-n-2.self) (sym (drop_all i ns past))
    (closes-none c.loop-n-2.self))
