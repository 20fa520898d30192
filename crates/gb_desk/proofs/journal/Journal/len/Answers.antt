use Rattle.std.proofs.Common.{ap, arith, length}
use Rattle.gb_desk.proofs.Cuts.{cut_length}
use Rattle.gb_desk.proofs.journal.Journal.len.Goals as goal

pub returns : goal.returns
returns c =
    let view = ap (λ l. length l) c.self.view_is in
    let is = cut_length c.self.inside.heads.items c.self.inside.entries.items in
    let whole = c.self.inside.heads.ok.0 in
    let long = c.len.ensures in omega arith
