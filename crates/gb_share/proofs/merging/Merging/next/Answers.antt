use Rattle.std.proofs.Common.{◌≡◌, [], refl, subst, sym}
use Rattle.std.proofs.lemmas.Option.{slice_get_past}
use Rattle.std.specs.Prelude.{MatchOption}
use Rattle.gb_share.specs.Placing.{IsNext, left}
use Rattle.gb_share.specs.declared.merging.Next.{Next}
use Rattle.std.specs.Prelude.{Option}
use Rattle.gb_share.proofs.Queues.{at_of, none_line, none_mark, past_of}
use Rattle.gb_share.proofs.merging.Merging.next.Goals as goal

pub returns-in_err-line : goal.returns-in_err-line
returns-in_err-line c =
    subst (λ (o : Option Next). MatchOption o (left c.args.self.now c.args.who ≡ [])
    (λ n. IsNext n c.args.self.now c.args.who)) (sym c.from_residual-in_err-line.ensures)
    (none_line _ _ c.args.who c.in_ok-requester.requester.now c.in_ok-at.field-0.now
    (at_of _ _ _ _ _ c.deref-2.ensures.value c.from-2.ensures
    c.in_ok-requester.ensures.lookup.3.0 c.in_ok-requester.ensures.lookup.1)
    (at_of _ _ _ _ _ c.deref.ensures.value c.from.ensures c.in_ok-at.ensures.lookup.3.0
    c.in_ok-at.ensures.lookup.1)
    (slice_get_past _ _ c.in_err-line.ensures))

pub returns-in_err-full : goal.returns-in_err-full
returns-in_err-full c =
    subst (λ (o : Option Next). MatchOption o (left c.args.self.now c.args.who ≡ [])
    (λ n. IsNext n c.args.self.now c.args.who)) (sym c.from_residual-in_err-full.ensures)
    (none_mark _ _ c.args.who c.in_ok-requester.requester.now c.in_ok-at.field-0.now
    (at_of _ _ _ _ _ c.deref-2.ensures.value c.from-2.ensures
    c.in_ok-requester.ensures.lookup.3.0 c.in_ok-requester.ensures.lookup.1)
    (at_of _ _ _ _ _ c.deref.ensures.value c.from.ensures c.in_ok-at.ensures.lookup.3.0
    c.in_ok-at.ensures.lookup.1)
    (past_of _ _ _ c.items.ensures c.in_err-full.ensures.lookup.3))

pub returns : goal.returns
returns c = record {
  line = c.in_ok-line.line.now;
  requester = c.in_ok-requester.requester.now;
  here = at_of _ _ _ _ _ c.deref.ensures.value c.from.ensures c.in_ok-at.ensures.lookup.3.0
      c.in_ok-at.ensures.lookup.1;
  there = at_of _ _ _ _ _ c.deref-2.ensures.value c.from-2.ensures
      c.in_ok-requester.ensures.lookup.3.0 c.in_ok-requester.ensures.lookup.1;
  line_is = c.in_ok-line.ensures;
  full_is = at_of _ _ _ _ _ c.items.ensures refl c.in_ok-full.ensures.lookup.3.0
      c.in_ok-full.ensures.lookup.1;
  number = refl;
}
