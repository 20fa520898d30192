-- The first entry from the connection's first key on tells.
use Rattle.std.proofs.Common.{◌==◌, ap, sym, ◌∙◌}
use Rattle.std.specs.List.{list_any}
use Rattle.gb_formats.specs.Images.{is_loan}
use Rattle.gb_firmware.proofs.InTurn.{none-from, one-from, other-from}
use Rattle.gb_firmware.proofs.loans.Loans.first_id.Goals as goal

pub returns-in_err-key : goal.returns-in_err-key
returns-in_err-key c =
    rw c.from_residual.ensures
    (sym (ap (list_any (λ l. l.connection == c.args.connection)) c.self.view_is)
    ∙ none-from c.args.connection c.self.inside.count c.self.inside.lent c.range.result
    (c.range.ensures.in_range tt) c.in_err-key.ensures.steps.0)

pub returns-then-key-connection : goal.returns-then-key-connection
returns-then-key-connection c =
    sym (ap (list_any (is_loan c.args.connection c.in_ok-key.key.now.1)) c.self.view_is)
    ∙ one-from c.args.connection c.self.inside.count c.self.inside.lent
    (c.in_ok-key.key.now, c.in_ok-key.field-0-1.now) c.range.result c.next.new.self
    c.self.invariant (c.range.ensures.in_range tt) c.in_ok-key.ensures.steps
    c.if-key-connection.true

pub returns-else-key-connection : goal.returns-else-key-connection
returns-else-key-connection c =
    sym (ap (list_any (λ l. l.connection == c.args.connection)) c.self.view_is)
    ∙ other-from c.args.connection c.self.inside.count c.self.inside.lent
    (c.in_ok-key.key.now, c.in_ok-key.field-0-1.now) c.range.result c.next.new.self
    (c.range.ensures.in_range tt) c.in_ok-key.ensures.steps c.if-key-connection.false
