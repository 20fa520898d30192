-- The requester of a heading is at most 8.
use Rattle.std.proofs.Common.{Ok, ap, ◌∙◌}
use Rattle.gb_script.proofs.PartReading.{heading-rises}
use Rattle.gb_script.specs.PartLines.{part_seen}
use Rattle.gb_script.proofs.requesters.Requesters.take.Goals as goal

pub invariant_of-self : goal.invariant_of-self
invariant_of-self c = record {
  small = (heading-rises c.args.self.now.who c.in-Heading.next c.args.line.now
      (c.in_ok-line_part.ensures ∙ ap (λ p. Ok (part_seen p)) c.in-Heading.is)).1;
}
