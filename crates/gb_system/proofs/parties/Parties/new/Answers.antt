-- The parties before the first event stand for the first state.
use Rattle.std.proofs.Common.{refl, sym, ap, rules}
use Rattle.gb_system.specs.Held.{is_marked}
use Rattle.gb_system.proofs.parties.Parties.new.Goals as goal

pub returns : goal.returns
returns c = record {
  bus = c.in_ok-new.ensures;
  requests = record { sound = search rules; held = search rules };
  ports = c.new-2.ensures;
  plugged = record {
    modules = sym c.new-3.ensures;
    loads = sym c.new-4.ensures;
    short = search rules;
  };
  host = c.in_ok-new-2.ensures;
  names = record { listed = sym c.new-6.ensures; apart = search rules };
  rest = record {
    booted = refl;
    time = refl;
    holds = λ k. ap (is_marked k) (sym c.new-7.ensures);
  };
}
