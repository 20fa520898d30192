use Rattle.std.proofs.Common.{refl}
use Rattle.gb_desk.proofs.Cuts.{added, added_is}
use Rattle.gb_desk.proofs.journal.Journal.push.Goals as goal

pub invariant_of-self-in-Ok : goal.invariant_of-self-in-Ok
invariant_of-self-in-Ok c =
    added c.self.inside.heads.items c.reserve.new.self.items c.push_reserved.new.self.items _
    c.self.inside.entries.items c.add_copies.new.all.items c.args.entries.now c.self.invariant
    c.reserve.ensures.items c.push_reserved.ensures.items c.in-Ok.ensures.ok refl

pub returns-in-Ok-clause-ok : goal.returns-in-Ok-clause-ok
returns-in-Ok-clause-ok c =
    added_is c.args.self.now c.self.inside.heads.items c.reserve.new.self.items
    c.push_reserved.new.self.items _ c.self.inside.entries.items c.add_copies.new.all.items
    c.args.entries.now c.self.view_is c.self.invariant c.reserve.ensures.items
    c.push_reserved.ensures.items c.in-Ok.ensures.ok refl
