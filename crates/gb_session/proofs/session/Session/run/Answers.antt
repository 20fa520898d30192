use Rattle.std.proofs.Common.{Some, List, ℕ, sym, subst, ◌∙◌}
use Rattle.gb_session.specs.Sessions.{EndsAs}
use Rattle.gb_session.proofs.Sessions.{goes-on}
use Rattle.gb_session.proofs.session.Session.run.Goals as goal

pub returns-else-is_wanting : goal.returns-else-is_wanting
returns-else-is_wanting c =
    goes-on c.args.self.now c.in-Some.reporter c.run_in-ended.new.reporter c.args.bytes.now
    c.run_in-ended.result c.in-Some.is (sym c.is_wanting.ensures ∙ c.if-is_wanting.false)
    (λ hex n s stands. subst
    (λ (l : List ℕ). EndsAs (Some c.run_in-ended.new.reporter) hex n l s c.run_in-ended.result)
    c.line_in.ensures (c.run_in-ended.ensures hex n s stands))
