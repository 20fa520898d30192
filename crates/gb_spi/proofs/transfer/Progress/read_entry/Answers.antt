use Rattle.std.proofs.Common.{◌++◌, List, ℕ, arith, ap, ◌∙◌}
use Rattle.gb_bridge_payload.specs.Views.{entry_of}
use Rattle.gb_formats.specs.Results.{most_payload}
use Rattle.gb_spi.proofs.Runs.{repeated}
use Rattle.gb_spi.proofs.transfer.Progress.read_entry.Goals as goal

pub returns-in_ok-extend-2-clause-read : goal.returns-in_ok-extend-2-clause-read
returns-in_ok-extend-2-clause-read c =
    let room = c.requires.room in
    let size = c.read_size-size.ensures in
    c.in_ok-extend-2.ensures.ok
    ∙ ap (λ (xs : List ℕ). c.args.self.now.read ++ xs)
    (repeated c.args.self.now.last c.read_size-size.result most_payload c.writes.result
    (entry_of c.args.entry) c.args.bytes.now c.writes.ensures c.if-writes.false size
    (omega (arith, room, size)))
