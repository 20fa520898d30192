-- What stood at the number stands there again where no memory was found for the identifier.
use Rattle.std.proofs.Common.{ap, is_some, refl, rules, sym}
use Rattle.gb_ops.proofs.Maps.{covers_more, restored}
use Rattle.gb_ops.proofs.tables.Tables.enter.Goals as goal

pub restore-requires : goal.restore-requires
restore-requires c = ap is_some c.in_ok-former.ensures.put.here

pub returns-in-Err-clause-unchanged : goal.returns-in-Err-clause-unchanged
returns-in-Err-clause-unchanged c = record {
  holders = search rules;
  pending =
      restored c.args.self.now.pending c.insert.new.self c.restore.new.pending c.args.n _
      c.in_ok-former.former (sym c.in_ok-former.ensures.former) c.in_ok-former.ensures.put
      c.restore.ensures.restored c.insert.ensures.was_ordered c.restore.ensures.ordered;
  soonest = refl;
}

pub returns-clause-entered : goal.returns-clause-entered
returns-clause-entered c = record {
  holder = search rules;
  pending = c.in_ok-former.ensures.put;
  covered =
      covers_more c.args.self.now.pending c.insert.new.self c.args.n _ _ _
      c.in_ok-former.ensures.put c.min-self.ensures;
}
