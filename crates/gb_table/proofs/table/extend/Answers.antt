-- One place more is there, and nothing stands at it.
use Rattle.std.proofs.Common.{◌∙◌, arith, ap}
use Rattle.gb_table.proofs.Looking.{longer}
use Rattle.gb_table.specs.Table.{entries_from}
use Rattle.gb_table.proofs.table.extend.Goals as goal

pub loop-places-preserved : goal.loop-places-preserved
loop-places-preserved g c = record {
  same = λ n. ap (entries_from n) c.in_ok-push_back.ensures.items
      ∙ longer n c.loop-places.places.items ∙ c.loop-places.invariant.same n;
  end = λ last within old.
      omega (
        arith,
        within,
        c.loop-places-test.true,
        c.len.ensures,
        c.in_ok-push_back.ensures.len,
        c.push_back.new.self.ok,
      );
}
