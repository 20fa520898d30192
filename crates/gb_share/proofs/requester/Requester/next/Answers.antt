use Rattle.std.proofs.Common.{inl, inr, refl}
use Rattle.gb_share.proofs.Alones.{alone_done, alone_full}
use Rattle.gb_share.proofs.Marks.{done_runs, full_runs, kept_runs, read_there}
use Rattle.gb_share.proofs.Using.{kept_uses, ran_uses}
use Rattle.gb_share.proofs.requester.Requester.next.Goals as goal

pub returns-in_ok-note-in-Ok-clause-runs : goal.returns-in_ok-note-in-Ok-clause-runs
returns-in_ok-note-in-Ok-clause-runs c =
    done_runs c.args.self.now c.note.new.self c.in-Some.line.now _ _
    (read_there _ _ _ _ c.items.ensures c.in-Some.ensures)
    c.in_ok-note-in-Ok.ensures.who c.in_ok-note-in-Ok.ensures.lines
    c.in_ok-note-in-Ok.ensures.noted c.in-Ok.ensures.does
    c.tried.ensures.few

pub returns-in_ok-note-in-Err-Full-clause-runs : goal.returns-in_ok-note-in-Err-Full-clause-runs
returns-in_ok-note-in-Err-Full-clause-runs c =
    let does = rw c.in-Err-Full.field-0-is at c.in-Err-Full.ensures.does in
    full_runs c.args.self.now c.note-in-Err-Full.new.self c.in-Some.line.now _ _
    (read_there _ _ _ _ c.items.ensures c.in-Some.ensures)
    c.in_ok-note-in-Err-Full.ensures.who c.in_ok-note-in-Err-Full.ensures.lines
    c.in_ok-note-in-Err-Full.ensures.noted does.0 does.2 c.in-Err-Full.ensures.kept

pub returns-in-Err-Busy-clause-runs : goal.returns-in-Err-Busy-clause-runs
returns-in-Err-Busy-clause-runs c =
    let does = rw c.in-Err-Busy.field-0-is at c.in-Err-Busy.ensures.does in
    kept_runs c.args.self.now _ _ _ refl refl refl does.0 c.in-Err-Busy.ensures.kept

pub returns-in_ok-note-in-Ok-clause-alone : goal.returns-in_ok-note-in-Ok-clause-alone
returns-in_ok-note-in-Ok-clause-alone c a =
    alone_done c.args.self.now c.note.new.self c.in-Some.line.now c.args.self.now.who
    c.in-Ok.told _ _ _ _ (record {
      line = read_there _ _ _ _ c.items.ensures c.in-Some.ensures;
      within = c.requires.left;
      short = c.args.self.now.short;
      lines = c.in_ok-note-in-Ok.ensures.lines;
      full = c.in_ok-note-in-Ok.ensures.noted;
      valid = c.requires.valid;
    }) c.args.hand.now.within c.args.hand.now.tickets (c.in-Ok.ensures.names a.parts) a
    c.tried.ensures.few

pub returns-in_ok-note-in-Err-Full-clause-alone : goal.returns-in_ok-note-in-Err-Full-clause-alone
returns-in_ok-note-in-Err-Full-clause-alone c a =
    let does = rw c.in-Err-Full.field-0-is at c.in-Err-Full.ensures.does in
    let names = rw c.in-Err-Full.field-0-is at (c.in-Err-Full.ensures.names a.parts) in
    alone_full c.args.self.now c.note-in-Err-Full.new.self c.in-Some.line.now _ _ _ _
    (record {
      line = read_there _ _ _ _ c.items.ensures c.in-Some.ensures;
      within = c.requires.left;
      short = c.args.self.now.short;
      lines = c.in_ok-note-in-Err-Full.ensures.lines;
      full = c.in_ok-note-in-Err-Full.ensures.noted;
      valid = c.requires.valid;
    }) c.args.hand.now.within c.args.hand.now.tickets does.1 names.0 names.1 a
    c.in-Err-Full.ensures.kept

pub returns-in-Err-Busy-clause-alone : goal.returns-in-Err-Busy-clause-alone
returns-in-Err-Busy-clause-alone c a =
    let does = rw c.in-Err-Busy.field-0-is at c.in-Err-Busy.ensures.does in
    absurd (does.1 a.parts)

pub returns-in_ok-note-in-Ok-clause-left : goal.returns-in_ok-note-in-Ok-clause-left
returns-in_ok-note-in-Ok-clause-left c =
    ran_uses c.args.self.now c.note.new.self _ c.tried.result _ _ c.requires.left
    c.in_ok-note-in-Ok.ensures.lines c.in_ok-note-in-Ok.ensures.noted c.tried.ensures.grows
    c.tried.ensures.few

pub returns-in_ok-note-in-Err-Full-clause-left : goal.returns-in_ok-note-in-Err-Full-clause-left
returns-in_ok-note-in-Err-Full-clause-left c =
    ran_uses c.args.self.now c.note-in-Err-Full.new.self _ c.tried.result _ _ c.requires.left
    c.in_ok-note-in-Err-Full.ensures.lines c.in_ok-note-in-Err-Full.ensures.noted
    c.tried.ensures.grows c.tried.ensures.few

pub returns-in-Err-Busy-clause-left : goal.returns-in-Err-Busy-clause-left
returns-in-Err-Busy-clause-left c =
    kept_uses c.args.self.now _ _ c.in-Err-Busy.ensures.grows c.in-Err-Busy.ensures.kept

pub returns-in-Err-JournalSpent-clause-spent : goal.returns-in-Err-JournalSpent-clause-spent
returns-in-Err-JournalSpent-clause-spent c is =
    let does = rw c.in-Err-JournalSpent.field-0-is at c.in-Err-JournalSpent.ensures.does in
    inl does

pub returns-in-Err-PassSpent-clause-spent : goal.returns-in-Err-PassSpent-clause-spent
returns-in-Err-PassSpent-clause-spent c is =
    let does = rw c.in-Err-PassSpent.field-0-is at c.in-Err-PassSpent.ensures.does in
    inr does
