-- A line that is drawn is that of the number behind the line before it.
use Rattle.std.proofs.Common.{◌≡◌, ◌<◌, ◌+◌, ◌-◌, ◌/◌, suc, ◌∙◌, ap, subst, sym, arith}
use Rattle.gb_formats.specs.Made.{last_named, made, made_draw}
use Rattle.gb_script.proofs.MadeSteps.{made-is-drawn, made_drawn-is, number-next}
use Rattle.gb_script.proofs.made_script.Maker.next.Goals as goal
use Rattle.gb_script.specs.Making.{Making}

pub returns-clause-event : goal.returns-clause-event
returns-clause-event c =
    let x = c.self.inside in
    let line = x.given + 1 - 23 in
    let below : x.given < 20024 =
    subst (λ (m : Making). m.given < 20024) (sym c.self.view_is) c.requires in
    let more : line ≡ suc (x.given - 23) = omega (arith, c.if-k-le-FIRST_LINES.false) in
    let before : x.given - 23 ≡ line - 1 = omega arith in
    let named : x.generator.named ≡ last_named x.seed (line - 1) =
    c.self.invariant.named_is ∙ ap (last_named x.seed) before in
    let number = number-next x.seed (x.given - 23) line x.generator.number c.next-number.result
    more c.self.invariant.number_is c.next-number.ensures.value in
    let draw : c.draw.result ≡ made_draw x.seed line
    = c.draw.ensures ∙ ap (λ n. n / 65536) number in
    subst (λ (m : Making). c.in_ok-event.event ≡ made m.seed (m.given + 1)) c.self.view_is
    (c.in_ok-event.ensures
    ∙ made_drawn-is x.seed line x.generator.named c.draw.result named draw
    ∙ made-is-drawn x.seed (x.given + 1) (omega arith) (omega arith))
