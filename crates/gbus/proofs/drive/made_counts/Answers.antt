-- Each event is one that the machine may be given, and the system goes on as it does.
use Rattle.std.proofs.Common.{◌+◌, ◌-◌, subst, sym, ap, ◌∙◌, arith}
use Rattle.gb_base.specs.declared.event.Event.{Event}
use Rattle.gb_formats.proofs.MadeValid.{made-valid}
use Rattle.gb_formats.specs.Made.{made}
use Rattle.gb_formats.specs.ValidEvents.{IsValid}
use Rattle.gb_machine.specs.Events.{step}
use Rattle.gb_machine.specs.State.{first_state}
use Rattle.gbus.proofs.Driving.{all-counted, first-stage, made-next, next-stage}
use Rattle.gbus.proofs.drive.made_counts.Goals as goal
use Rattle.gb_script.specs.Making.{Making}
use Rattle.gbus.specs.Driving.{Goes}

pub loop-init : goal.loop-init
loop-init c = record {
  seed = c.new-maker.ensures.seed;
  given = c.new-maker.ensures.given;
  state = first_state;
  stage = first-stage c.in_ok-driven.driven c.args.seed c.in_ok-driven.ensures.stands
      c.in_ok-driven.ensures.refused;
  taken = c.in_ok-driven.ensures.taken;
  few = let none = c.in_ok-driven.ensures.refused in omega (arith, none);
}

pub take-requires-clause-valid : goal.take-requires-clause-valid
take-requires-clause-valid c =
    let inv = c.loop.invariant in
    let event = c.in_ok-event.ensures.event
    ∙ made-next c.loop.maker c.args.seed c.loop.counter inv.seed inv.given in
    subst (λ (e : Event). IsValid e) (sym event)
    (made-valid c.args.seed (c.loop.counter + 1) (omega arith)
    (omega (arith, c.loop-test.true)))

pub loop-preserved : goal.loop-preserved
loop-preserved c =
    let inv = c.loop.invariant in
    let event = c.in_ok-event.ensures.event
    ∙ made-next c.loop.maker c.args.seed c.loop.counter inv.seed inv.given in
    let goes = subst (λ (e : Event). Goes c.loop.driven c.take.new.self inv.state e)
    event (c.in_ok-take.ensures.goes inv.state inv.stage.stands) in
    record {
      seed = ap (λ (m : Making). m.seed) c.in_ok-event.ensures.ok ∙ inv.seed;
      given = ap (λ (m : Making). m.given) c.in_ok-event.ensures.ok ∙ ap (λ n. n + 1) inv.given;
      state = (step inv.state (made c.args.seed (c.loop.counter + 1))).state;
      stage = next-stage c.loop.driven c.take.new.self c.args.seed
          (c.loop.counter + 1) (20024 - c.loop.counter)
          (20024 - (c.loop.counter + 1)) inv.state
          (omega (arith, c.loop-test.true)) inv.stage goes;
      taken = c.in_ok-take.ensures.taken ∙ ap (λ n. n + 1) inv.taken;
      few = omega (arith, c.in_ok-take.ensures.few, inv.few);
    }

pub returns : goal.returns
returns c =
    let inv = c.loop.invariant in
    c.counts.ensures inv.state inv.stage.stands
    ∙ all-counted c.loop.driven c.args.seed (c.loop.counter + 1)
    (20024 - c.loop.counter) inv.state (omega (arith, c.loop-test.false)) inv.stage
