use Rattle.std.proofs.Common.{subst, sym}
use Rattle.gb_desk.specs.Slots.{AreKept}
use Rattle.gb_desk.proofs.SlotLists.{kept_noted, none_noted}
use Rattle.gb_desk.proofs.slots.Slots.note.Goals as goal

pub returns-else-tell_an_end : goal.returns-else-tell_an_end
returns-else-tell_an_end c =
    sym (none_noted c.args.entries.now (c.tell_an_end.ensures c.if-tell_an_end.false)
    c.args.self.now)

pub invariant_of-self : goal.invariant_of-self
invariant_of-self c =
    subst (λ slots. AreKept slots c.self.inside.used) (sym c.note_all.ensures)
    (kept_noted c.args.entries.now c.self.inside.items c.self.inside.used c.self.invariant)
