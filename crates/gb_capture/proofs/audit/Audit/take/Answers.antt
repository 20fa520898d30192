-- What is kept and counted after a message.
use Rattle.gb_capture.specs.Audits.{heard_at}
use Rattle.gb_wire.specs.MessageOf.{message_of}
use Rattle.gb_capture.proofs.Counting.{asking-more, findings-more, pairs-more}
use Rattle.gb_capture.proofs.audit.Audit.take.Goals as goal

pub returns-clause-stands : goal.returns-clause-stands
returns-clause-stands c past s =
    let m = heard_at c.args.line c.args.from_ap (message_of c.args.m.now) in
    let found = c.hear-found.ensures.finding past s.keeps in record {
      keeps = c.hear-found.ensures.keeps past s.keeps;
      faults = findings-more past m _ _ _ _ s.faults found c.is_some.ensures c.one_if.ensures.value;
      pairs_are = pairs-more past m _ _ _ _ _ s.pairs_are found c.is_response.ensures
          c.is_none.ensures c.one_if-2.ensures.value;
      asked = asking-more past m _ _ _ s.asked (c.is_asking.ensures c.args.line c.args.from_ap)
          c.one_if-3.ensures.value;
      below = λ line less. (less, s.below c.args.line c.requires);
    }
