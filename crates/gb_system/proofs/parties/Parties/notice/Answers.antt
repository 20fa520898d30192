-- The acts of a turn are done one after another.
use Rattle.std.proofs.Common.{Bool, List, [], reverse, ap, sym, ◌∙◌, subst}
use Rattle.std.proofs.lemmas.List.{reverse-reverse}
use Rattle.gb_host.specs.Turning.{Turns}
use Rattle.gb_host.specs.declared.acts.Act.{Act}
use Rattle.gb_machine.specs.HostActs.{notices}
use Rattle.gb_machine.specs.HostTurns.{host_turn}
use Rattle.gb_system.proofs.Midways.{reverse-last}
use Rattle.gb_system.proofs.Notices.{Acting, acting-end, acting-first, acting-more, acting-skip}
use Rattle.gb_system.proofs.Notices.{interfaces-fit}
use Rattle.gb_system.proofs.Standing.{reroomed}
use Rattle.gb_system.proofs.parties.Parties.notice.Goals as goal

pub loop-act-init : goal.loop-act-init
loop-act-init c = λ s st may.
    let all = reverse c.reverse.new.self in
    acting-first c.args.event c.on_into.new.self all (reroomed c.replace-acts.new.dest st)
    (subst (λ (acts : List Act). Turns (host_turn c.args.event s.host) [] c.on_into.new.self acts)
    (sym (ap reverse c.reverse.ensures ∙ reverse-reverse c.on_into.new.acts))
    (c.in_ok-on_into.ensures.step s.host st.host (interfaces-fit c.args.event may.0))) may

pub loop-act-preserved-then-skips : goal.loop-act-preserved-then-skips
loop-act-preserved-then-skips c = λ s st may.
    acting-skip (reverse c.loop-act.acts) (reverse c.pop.new.self) c.in-Some.act
    (reverse-last c.loop-act.acts c.pop.new.self c.in-Some.act c.in-Some.ensures)
    (subst (λ (t : Bool). Acting c.loop-act.self (notices c.args.event) t
    (reverse c.loop-act.acts) s c.args.told.now c.loop-act.told) c.if-skips.true
    (c.loop-act.invariant s st may))

pub loop-act-preserved : goal.loop-act-preserved
loop-act-preserved c = λ s st may.
    let g = subst (λ (t : Bool). Acting c.loop-act.self (notices c.args.event) t
    (reverse c.loop-act.acts) s c.args.told.now c.loop-act.told) c.if-skips.false
    (c.loop-act.invariant s st may) in
    acting-more (reverse c.loop-act.acts) (reverse c.pop.new.self) c.in-Some.act
    c.in_ok-skips.skips
    (reverse-last c.loop-act.acts c.pop.new.self c.in-Some.act c.in-Some.ensures) g
    (c.in_ok-skips.ensures.step g.midway.state g.midway.stand)

pub returns : goal.returns
returns c = record {
  step = λ s st may.
      let done = acting-end c.loop-act.skips (reverse c.loop-act.acts)
      (ap reverse c.in_default.ensures.0) (c.loop-act.invariant s st may) in record {
        told_is = done.told_is;
        stand = reroomed c.pop.new.self done.stand;
      };
}
