-- The first condition that is met is the machine's.
use Rattle.std.proofs.Common.{[], ◌∷◌, sym, ap, ◌∙◌}
use Rattle.gb_base.specs.declared.refusal.Refusal.TheVariants as why
use Rattle.gb_machine.specs.Lists.{first_met}
use Rattle.gb_system.proofs.Inserts.{insert-beyond, insert-fits, insert-large, insert-occupied}
use Rattle.gb_system.proofs.Inserts.{taken-is}
use Rattle.gb_system.specs.Stands.{around_bus}
use Rattle.gb_system.proofs.parties.Parties.insert_refusal.Goals as goal

pub returns-then-intf-count-gt-INTERFACES_END-clause-is
    : goal.returns-then-intf-count-gt-INTERFACES_END-clause-is
returns-then-intf-count-gt-INTERFACES_END-clause-is c = λ s manifest st same.
    insert-beyond s c.args.intf c.args.count manifest
    c.if-intf-count-gt-INTERFACES_END.true

pub returns-then-any-clause-is : goal.returns-then-any-clause-is
returns-then-any-clause-is c = λ s manifest st same.
    insert-occupied s c.args.intf c.args.count manifest
    c.if-intf-count-gt-INTERFACES_END.false
    (taken-is c.args.self.now s c.args.intf c.args.count c.any.result st c.any.ensures
    ∙ c.if-any.true)

pub returns-then-size-gt-MOST_PAYLOAD-clause-is : goal.returns-then-size-gt-MOST_PAYLOAD-clause-is
returns-then-size-gt-MOST_PAYLOAD-clause-is c = λ s manifest st same.
    insert-large s c.args.intf c.args.count c.args.size manifest
    c.if-intf-count-gt-INTERFACES_END.false
    (taken-is c.args.self.now s c.args.intf c.args.count c.any.result st c.any.ensures
    ∙ c.if-any.false) same c.if-size-gt-MOST_PAYLOAD.true

pub returns-then-spent-clause-is : goal.returns-then-spent-clause-is
returns-then-spent-clause-is c = λ s manifest st same.
    sym (insert-fits s c.args.intf c.args.count c.args.size manifest
    c.if-intf-count-gt-INTERFACES_END.false
    (taken-is c.args.self.now s c.args.intf c.args.count c.any.result st c.any.ensures
    ∙ c.if-any.false) same c.if-size-gt-MOST_PAYLOAD.false
    ∙ ap (λ b. first_met ((b, why.NoLabel) ∷ []))
    (sym (c.spent.ensures (around_bus [] s) s.bus st.bus) ∙ c.if-spent.true))

pub returns-clause-is : goal.returns-clause-is
returns-clause-is c = λ s manifest st same.
    sym (insert-fits s c.args.intf c.args.count c.args.size manifest
    c.if-intf-count-gt-INTERFACES_END.false
    (taken-is c.args.self.now s c.args.intf c.args.count c.any.result st c.any.ensures
    ∙ c.if-any.false) same c.if-size-gt-MOST_PAYLOAD.false
    ∙ ap (λ b. first_met ((b, why.NoLabel) ∷ []))
    (sym (c.spent.ensures (around_bus [] s) s.bus st.bus) ∙ c.if-spent.false))
