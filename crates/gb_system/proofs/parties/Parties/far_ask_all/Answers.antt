-- A far side makes all its requests.
use Rattle.std.proofs.Common.{◌+◌, List, ℕ, drop, drop_of_length-le, ap, ◌∙◌, subst}
use Rattle.gb_machine.specs.OwnAsking.{far_asks, far_asks_all}
use Rattle.gb_system.proofs.Asks.{far-cons, far-nil}
use Rattle.gb_system.proofs.Midways.{drop-next, midway-as, midway-end, midway-first, midway-more}
use Rattle.gb_system.specs.Acting.{AreAskable}
use Rattle.gb_laws.specs.Possible.{IsAskable}
use Rattle.gb_system.specs.Doing.{Does}
use Rattle.gb_system.specs.Drafts.{own_ask}
use Rattle.gb_system.proofs.parties.Parties.far_ask_all.Goals as goal

pub loop-ask-init : goal.loop-ask-init
loop-ask-init c = λ s st askable.
    (midway-first (far_asks_all c.args.connection c.args.own.now) st, askable)

pub loop-ask-preserved : goal.loop-ask-preserved
loop-ask-preserved c = λ s st askable.
    let m = c.loop-ask.invariant s st askable in
    let own = c.ask-item.result in
    let rest = drop (c.loop-ask.ask-index + 1) c.args.own.now in
    let next = drop-next c.args.own.now c.loop-ask.ask-index own c.loop-ask-test.true
    c.ask-item.is in
    let left = subst AreAskable next m.1 in (
      midway-more (far_asks c.args.connection own) (far_asks_all c.args.connection rest)
          (midway-as _ (ap (far_asks_all c.args.connection) next
          ∙ far-cons c.args.connection own rest) m.0)
          (subst (λ (p : List ℕ). IsAskable own.kind p → Does c.far_ask.new.self
          (far_asks c.args.connection (own_ask own.kind p own.oneway)) m.0.state c.loop-ask.told
          c.far_ask.new.told) c.items.ensures (c.in_ok-far_ask.ensures.step m.0.state m.0.stand)
          left.0),
      left.1,
    )

pub returns : goal.returns
returns c = record {
  step = λ s st askable.
      let m = c.loop-ask.invariant s st askable in
      midway-end (midway-as _ (ap (far_asks_all c.args.connection)
      (drop_of_length-le c.args.own.now c.loop-ask-test.false) ∙ far-nil c.args.connection) m.0);
}
