-- The far end of the connection has a number.
use Rattle.std.proofs.Common.{◌≡◌, false, sym, ◌∙◌}
use Rattle.gb_host.proofs.FarEnds.{ends-new, on-ok}
use Rattle.gb_host.proofs.ends.Ends.add.Goals as goal

pub returns : goal.returns
returns c = λ ls named says.
    let none : c.contains_key.result ≡ false = search in
    ends-new c.args.self.now (record { numbers = c.insert.new.self }) ls c.args.link
    c.far_end-end.result c.far_end-end.ensures.fits c.far_end-end.ensures.number
    (sym c.contains_key.ensures ∙ none)
    (on-ok c.insert.result c.insert.ensures.updates (sym c.is_ok.ensures.value ∙ says)) named
