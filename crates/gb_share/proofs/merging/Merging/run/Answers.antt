use Rattle.std.proofs.Common.{List, subst, sym}
use Rattle.gb_base.specs.declared.journal.JournalEntry.{JournalEntry}
use Rattle.gb_share.specs.Placing.{Begins}
use Rattle.gb_share.proofs.merging.Merging.run.Goals as goal

pub returns-clause-places : goal.returns-clause-places
returns-clause-places c asked last b =
    c.in_ok-follow.ensures.follows asked last
    (c.in_ok-lead.ensures.leads asked _ last (c.in_ok-open.ensures.opens asked last
    (subst (λ (es : List JournalEntry). Begins asked c.args.self.now es last)
    (sym c.events-events.ensures) b)))
