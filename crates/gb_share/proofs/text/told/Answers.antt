use Rattle.std.proofs.Common.{◌∙◌, ap, arith, length}
use Rattle.gb_machine.specs.Journal.{after, events_of}
use Rattle.gb_machine.specs.State.{first_state}
use Rattle.gb_share.proofs.Begins.{begins, zeros}
use Rattle.gb_share.proofs.Tellings.{told}
use Rattle.gb_share.proofs.text.told.Goals as goal

pub returns : goal.returns
returns c asked were =
    let last = after first_state (events_of c.args.journal.now) in
    told c.args.hex asked c.run.new.self last _
    (c.in_ok-run.ensures.places asked last
    (begins asked were.fresh c.args.all.items c.args.journal.now last c.in_ok-merging.merging
    were.are were.same were.shared.whole were.shared.run were.shared.late were.shared.exact
    were.shared.legal (ap (λ v. v.items) c.in_ok-merging.ensures.all)
    (zeros c.in_ok-merging.merging.at.items c.args.all.len (length c.args.all.items)
    c.in_ok-merging.ensures.at (omega (arith, c.args.all.ok.0)))
    c.in_ok-merging.ensures.order c.in_ok-merging.ensures.text))
    (c.run.ensures.hex ∙ c.in_ok-merging.ensures.hex)
    (c.in_ok-text.ensures last were.shared.stands)
