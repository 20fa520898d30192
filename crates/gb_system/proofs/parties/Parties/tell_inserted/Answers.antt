-- It is what the supervisory controller asks.
use Rattle.gb_system.proofs.Inserts.{does-tells_inserted, inserted-askable}
use Rattle.gb_system.proofs.parties.Parties.tell_inserted.Goals as goal

pub returns : goal.returns
returns c = record {
  step = λ s st.
      does-tells_inserted c.args.primary c.args.count
      (c.in_ok-svc_ask.ensures.step s st (inserted-askable c.args.primary c.args.count));
}
