-- The request is made where there is a connection for it, and its number is kept.
use Rattle.std.proofs.Common.{List, ℕ, sym, subst}
use Rattle.gb_machine.specs.OwnAsking.{far_asks}
use Rattle.gb_system.proofs.Doings.{does-given_none}
use Rattle.gb_system.proofs.LoadEnds.{load-asked}
use Rattle.gb_laws.specs.Possible.{IsAskable}
use Rattle.gb_system.specs.Doing.{Does}
use Rattle.gb_system.specs.Drafts.{own_ask}
use Rattle.gb_system.specs.Loading.{asks_last}
use Rattle.gb_system.proofs.parties.Parties.load_ask.Goals as goal

pub returns-in_default : goal.returns-in_default
returns-in_default c = record {
  step = λ s st askable.
      does-given_none (λ k. asks_last k c.args.intf c.args.cport c.args.own.now) c.in_default.is st;
}

pub returns : goal.returns
returns c = record {
  step = λ s st askable.
      let own = c.args.own.now in
      load-asked c.args.way c.in-Some.connection c.args.intf c.args.cport c.in_ok-number.number own
      c.put.new.self st c.in-Some.is (c.in_ok-number.ensures.number s st) c.in_ok-put.ensures
      (λ t stand.
      subst (λ (p : List ℕ). Does c.far_ask.new.self
      (far_asks c.in-Some.connection (own_ask own.kind p own.oneway)) t c.args.told.now
      c.far_ask.new.told) c.items.ensures
      (c.in_ok-far_ask.ensures.step t stand
      (subst (λ (p : List ℕ). IsAskable own.kind p) (sym c.items.ensures) askable)));
}
