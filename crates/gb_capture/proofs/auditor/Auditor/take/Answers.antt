-- What is written of a line, and which lines were taken then.
use Rattle.std.proofs.Common.{◌≡◌, ℕ, ◌+◌, [], ◌++◌, reverse, ap, sym, subst, ◌∙◌}
use Rattle.std.proofs.Common.{arith}
use Rattle.gb_base.specs.declared.reasons.CaptureFault.TheVariants as capture
use Rattle.gb_capture.specs.Audits.{Stands, heard_at}
use Rattle.gb_capture.proofs.Taking.{adds-at, adds-nothing, found-is, last-first, long-is}
use Rattle.gb_capture.proofs.Taking.{nothing-is}
use Rattle.gb_capture.proofs.Taking.{one-longer, same-messages, stops-as, stops-at, whole-is}
use Rattle.gb_capture.proofs.Taking.{written-is}
use Rattle.gb_formats.specs.AuditTexts.{audited}
use Rattle.gb_formats.specs.Captures.{captured, heard}
use Rattle.gb_wire.specs.MessageOf.{message_of}
use Rattle.gb_capture.proofs.auditor.Auditor.take.Goals as goal

number-is : (number old count : ℕ) → number ≡ old + 1 → old ≡ count → number ≡ 1 + count
number-is number old count e h = omega (arith, e, h)

longer-is : (number old count now : ℕ) → number ≡ old + 1 → old ≡ count → now ≡ count + 1
    → number ≡ now
longer-is number old count now e h l = omega (arith, e, h, l)

pub returns-then-line-clause-turn : goal.returns-then-line-clause-turn
returns-then-line-clause-turn c given whole t is =
    let stops = stops-at given whole capture.TooLong t.good
    (long-is whole (sym is.1 ∙ c.if-line.true)) in record {
      text = stops-as given whole capture.TooLong _ _ stops
          (number-is _ _ _ c.requires t.number)
          (written-is _ _ _ c.in_ok-append_bad_capture.ensures c.clear.ensures.bytes);
      bad = stops.bad;
    }

pub returns-in_ok-append_bad_capture-in-Err-clause-turn :
    goal.returns-in_ok-append_bad_capture-in-Err-clause-turn
returns-in_ok-append_bad_capture-in-Err-clause-turn c given whole t is =
    let same = whole-is _ whole is.0 (sym is.1 ∙ c.if-line.false) in
    let stops = stops-at given whole c.in-Err.why t.good
    (sym (ap captured same) ∙ sym c.in-Err.ensures) in record {
      text = stops-as given whole c.in-Err.why _ _ stops (number-is _ _ _ c.requires t.number)
          (written-is _ _ _ c.in_ok-append_bad_capture-in-Err.ensures c.clear.ensures.bytes);
      bad = stops.bad;
    }

pub returns-in-Ok-None-clause-turn : goal.returns-in-Ok-None-clause-turn
returns-in-Ok-None-clause-turn c given whole t is =
    let same = whole-is _ whole is.0 (sym is.1 ∙ c.if-line.false) in
    let adds = adds-nothing given whole t.good
    (sym (ap captured same) ∙ sym (rw c.in-Ok-None.field-0-is at c.in-Ok-None.ensures)) in record {
      taken = record {
        stands = subst (Stands c.args.self.now.audit) (same-messages given whole [] adds) t.stands;
        number = longer-is _ _ _ _ c.requires t.number (one-longer given whole);
        good = adds.good;
      };
      text = adds.text_is ∙ ap (λ x. audited given ++ x) (sym c.clear.ensures.bytes);
    }

pub returns-in_ok-append_finding-in-Ok-Some-clause-turn :
    goal.returns-in_ok-append_finding-in-Ok-Some-clause-turn
returns-in_ok-append_finding-in-Ok-Some-clause-turn c given whole t is =
    let same = whole-is _ whole is.0 (sym is.1 ∙ c.if-line.false) in
    let adds = adds-at given c.args.line.bytes.now whole c.args.line.number c.in-Ok-Some.from_ap
    (message_of c.in-Ok-Some.m) t.good same
    (sym (rw c.in-Ok-Some.field-0-is at c.in-Ok-Some.ensures))
    (number-is _ _ _ c.requires t.number) in
    let h = heard_at c.args.line.number c.in-Ok-Some.from_ap (message_of c.in-Ok-Some.m) in record {
      taken = record {
        stands = subst (Stands c.take.new.self) (last-first given whole h _ adds)
            (c.take.ensures.stands (reverse (heard given)) t.stands);
        number = longer-is _ _ _ _ c.requires t.number (one-longer given whole);
        good = adds.good;
      };
      text = adds.text_is ∙ ap (λ x. audited given ++ x)
          (found-is c.args.line.number _ c.in-Some.found
          (sym (c.in-Some.ensures.finding (reverse (heard given)) t.stands))
          ∙ sym (written-is _ _ _ c.in_ok-append_finding-in-Ok-Some.ensures c.clear.ensures.bytes));
    }

pub returns-in_default-clause-turn : goal.returns-in_default-clause-turn
returns-in_default-clause-turn c given whole t is =
    let same = whole-is _ whole is.0 (sym is.1 ∙ c.if-line.false) in
    let adds = adds-at given c.args.line.bytes.now whole c.args.line.number c.in-Ok-Some.from_ap
    (message_of c.in-Ok-Some.m) t.good same
    (sym (rw c.in-Ok-Some.field-0-is at c.in-Ok-Some.ensures))
    (number-is _ _ _ c.requires t.number) in
    let h = heard_at c.args.line.number c.in-Ok-Some.from_ap (message_of c.in-Ok-Some.m) in record {
      taken = record {
        stands = subst (Stands c.take.new.self) (last-first given whole h _ adds)
            (c.take.ensures.stands (reverse (heard given)) t.stands);
        number = longer-is _ _ _ _ c.requires t.number (one-longer given whole);
        good = adds.good;
      };
      text = adds.text_is ∙ ap (λ x. audited given ++ x)
          (nothing-is c.args.line.number _
          (sym (c.in_default.ensures.finding (reverse (heard given)) t.stands))
          ∙ sym c.clear.ensures.bytes);
    }
