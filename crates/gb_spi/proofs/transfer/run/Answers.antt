use Rattle.gb_bridge_payload.specs.Views.{entry_of}
use Rattle.gb_spi.proofs.Runs.{next_few}
use Rattle.gb_spi.proofs.transfer.run.Goals as goal

pub returns-in_err-later-clause-few : goal.returns-in_err-later-clause-few
returns-in_err-later-clause-few c few =
    let fails = c.in_err-later.ensures.few
    (next_few _ c.loop-entry.progress.last c.loop-entry.later.now c.loop-entry.progress.read
    c.loop-entry.left c.take_first.new.self (entry_of c.in-Some.entry) c.in-Some.ensures
    c.loop-entry.invariant few) in
    cc
