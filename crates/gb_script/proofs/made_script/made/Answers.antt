-- All events before the wanted one were passed over.
use Rattle.std.proofs.Common.{◌≡◌, ◌+◌, ◌∙◌, ap, subst, IfOk, arith}
use Rattle.gb_base.specs.declared.event.Event.{Event}
use Rattle.gb_formats.specs.Made.{made}
use Rattle.gb_script.proofs.made_script.made.Goals as goal

pub returns : goal.returns
returns c =
    let maker = c.loop.maker in
    let place : maker.given + 1 ≡ c.args.k =
    omega (
      arith,
      c.loop.invariant.given,
      c.loop-test.false,
      c.loop.auto.counter,
      c.requires.first,
    ) in
    subst (λ (line : Event). IfOk c.next.result (λ e. e ≡ line))
    (ap (λ seed. made seed (maker.given + 1)) c.loop.invariant.seed
    ∙ ap (λ k. made c.args.seed k) place)
    c.next.ensures.event
