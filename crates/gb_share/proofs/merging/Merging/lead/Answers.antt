use Rattle.std.proofs.Common.{◌≡◌, ◌∙◌, arith, subst}
use Rattle.std.specs.Prelude.{ℕ}
use Rattle.gb_share.proofs.Placings.{HasBegun, begun_next, led_all}
use Rattle.gb_share.proofs.merging.Merging.lead.Goals as goal

pub loop-who-preserved : goal.loop-who-preserved
loop-who-preserved c = record {
  hex = c.skip.ensures.hex ∙ c.loop-who.invariant.hex;
  begun = λ asked entries last h.
      (let now = c.loop-who.invariant.begun asked entries last h in
      begun_next asked c.loop-who.self c.skip.new.self entries last c.loop-who.who
      (omega (arith, c.loop-who.auto.who)) now
      (c.in_ok-skip.ensures.stands asked entries last now.stands) c.in_ok-skip.ensures.order
      c.in_ok-skip.ensures.ready c.in_ok-skip.ensures.others);
}

pub returns-clause-leads : goal.returns-clause-leads
returns-clause-leads c asked entries last h =
    led_all asked c.loop-who.self entries last
    (let all : c.loop-who.who ≡ 256 =
    omega (arith, c.loop-who-test.false, c.loop-who.auto.who-end) in
    subst (λ (n : ℕ). HasBegun asked c.loop-who.self entries last n) all
    (c.loop-who.invariant.begun asked entries last h))
