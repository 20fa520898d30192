-- An image is given, or that is refused.
use Rattle.std.proofs.Common.{Err, subst}
use Rattle.gb_host.specs.Images.{GivesAs}
use Rattle.gb_system.proofs.LoadStarts.{image-done, image-taken}
use Rattle.gb_system.proofs.parties.Parties.image.Goals as goal

pub returns-in-Ok : goal.returns-in-Ok
returns-in-Ok c = record {
  step = λ s told st.
      image-done c.image.new.self c.args.tag.now c.args.bytes.now tt st.parts
      (c.in-Ok.ensures.step s.host st.parts.host);
}

pub returns-in-Err-Taken : goal.returns-in-Err-Taken
returns-in-Err-Taken c = record {
  step = λ s told st.
      image-taken c.image.new.self c.args.tag.now c.args.bytes.now st.parts
      (subst (λ why. GivesAs c.args.tag.now c.args.bytes.now s.host c.args.self.now.host
      c.image.new.self (Err why)) c.in-Err-Taken.field-0-is
      (c.in-Err-Taken.ensures.step s.host st.parts.host));
}
