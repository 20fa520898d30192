-- The slots after a message are what is kept then.
use Rattle.std.proofs.Common.{◌≡◌, ℕ, ◌≤◌, ◌<◌, ◌==◌, true, false, nat_le, refl, sym, ◌∙◌, ◌%◌}
use Rattle.std.proofs.Common.{arith}
use Rattle.std.proofs.lemmas.Bool.Decides.{nat_tests}
use Rattle.gb_capture.specs.Audits.{heard_at, last_of}
use Rattle.gb_capture.specs.Tables.{answered_by, last_in}
use Rattle.gb_wire.specs.MessageOf.{message_of}
use Rattle.std.proofs.Common.{ap}
use Rattle.gb_capture.proofs.Changing.{changes-agree, nothing-changes, request-changes}
use Rattle.gb_capture.proofs.Changing.{response-changes}
use Rattle.gb_capture.proofs.hearing.hear.Goals as goal

is-from : (kind : ℕ) → 128 ≤ kind → nat_le 128 kind ≡ true
is-from kind h = grind (arith, nat_tests)

is-below : (kind : ℕ) → kind < 128 → nat_le 128 kind ≡ false
is-below kind h = grind (arith, nat_tests)

is-some : (id : ℕ) → ¬ (id ≡ 0) → (id == 0) ≡ false
is-some id h = grind (arith, nat_tests)

pub returns-then-m-ge-RESPONSE-clause-keeps : goal.returns-then-m-ge-RESPONSE-clause-keeps
returns-then-m-ge-RESPONSE-clause-keeps c past keeps =
    let m = heard_at c.args.line c.args.from_ap (message_of c.args.m.now) in
    changes-agree (last_in c.args.table.now) (last_in c.answer.new.table) (last_of past) _ _ _ _ _
    c.answer.ensures.after
    (response-changes m past (is-from c.args.m.now.kind c.if-m-ge-RESPONSE.true))
    (ap (answered_by (c.args.m.now.kind % 128)) (keeps _ _ (omega arith))) keeps

pub returns-then-id-eq0-clause-keeps : goal.returns-then-id-eq0-clause-keeps
returns-then-id-eq0-clause-keeps c past keeps from_ap id less =
    let m = heard_at c.args.line c.args.from_ap (message_of c.args.m.now) in
    keeps from_ap id less
    ∙ sym (nothing-changes m past (is-below c.args.m.now.kind c.if-m-ge-RESPONSE.false)
    c.if-id-eq0.true from_ap id)

pub returns-clause-keeps : goal.returns-clause-keeps
returns-clause-keeps c past keeps =
    let m = heard_at c.args.line c.args.from_ap (message_of c.args.m.now) in
    changes-agree (last_in c.args.table.now) (last_in c.ask.new.table) (last_of past) _ _ _ _ _
    c.ask.ensures.after
    (request-changes m past (is-below c.args.m.now.kind c.if-m-ge-RESPONSE.false)
    (is-some c.args.m.now.id c.if-id-eq0.false))
    refl keeps
