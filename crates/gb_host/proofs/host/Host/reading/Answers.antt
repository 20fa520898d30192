-- The answer is read by the protocol of its connection.
use Rattle.std.proofs.Common.{Some, ap, sym, ◌∙◌}
use Rattle.gb_host.proofs.LinksByNumber.{looked}
use Rattle.gb_host.specs.Bridging.{reading_on}
use Rattle.gb_host.proofs.host.Host.reading.Goals as goal

pub returns-in-Some : goal.returns-in-Some
returns-in-Some c = record {
  step = λ h s.
      c.read.ensures
      ∙ sym (ap (λ o. reading_on o c.args.kind c.args.payload.now) (looked c.args.self.now h
      c.args.connection c.of.result (Some c.in-Some.link) s c.of.ensures c.in-Some.is));
}
