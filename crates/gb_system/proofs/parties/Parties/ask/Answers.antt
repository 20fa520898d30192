-- A request is made and told, or not.
use Rattle.std.proofs.Common.{[], Some, option_map, refl, sym, ap, ◌∙◌}
use Rattle.gb_bus.specs.Wiring.{ends_of}
use Rattle.gb_machine.specs.Bus.{next_number}
use Rattle.gb_system.proofs.Asks.{ask-made, ask-nowhere, ask-unlabelled, number-nowhere}
use Rattle.gb_system.proofs.Asks.{told-oneway, told-twoway, unlabelled-gone}
use Rattle.gb_system.proofs.Standing.{rebussed}
use Rattle.gb_system.specs.Drafts.{draft_of}
use Rattle.gb_system.specs.Stands.{around_bus}
use Rattle.gb_system.proofs.parties.Parties.ask.Goals as goal

pub returns-in_default-clause-number : goal.returns-in_default-clause-number
returns-in_default-clause-number c = λ s st.
    number-nowhere ends_of (draft_of c.args.q.now) s.bus
    (c.in_default.ensures (around_bus [] s) s.bus st.bus)

pub returns-in-Err-NoLabel-clause-number : goal.returns-in-Err-NoLabel-clause-number
returns-in-Err-NoLabel-clause-number c = λ s st.
    let none = rw c.in-Err-NoLabel.field-0-is at
    (c.in-Err-NoLabel.ensures.step (around_bus [] s) s.bus st.bus) in
    sym (ap (option_map (λ l. next_number s.bus)) none.label)

pub returns-in-Err-NoConnection-clause-number : goal.returns-in-Err-NoConnection-clause-number
returns-in-Err-NoConnection-clause-number c = λ s st.
    let none = rw c.in-Err-NoConnection.field-0-is at
    (c.in-Err-NoConnection.ensures.step (around_bus [] s) s.bus st.bus) in
    sym (ap (option_map (λ l. next_number s.bus))
    (unlabelled-gone (draft_of c.args.q.now) s.bus none.gone))

pub returns-in_ok-tell_sent-clause-number : goal.returns-in_ok-tell_sent-clause-number
returns-in_ok-tell_sent-clause-number c = λ s st.
    let sent = c.in-Ok.ensures.step (around_bus [] s) s.bus st.bus in
    ap Some sent.number ∙ sym (ap (option_map (λ l. next_number s.bus)) sent.label)

pub returns-else-q-clause-number : goal.returns-else-q-clause-number
returns-else-q-clause-number c = λ s st.
    let sent = c.in-Ok.ensures.step (around_bus [] s) s.bus st.bus in
    ap Some sent.number ∙ sym (ap (option_map (λ l. next_number s.bus)) sent.label)

pub returns-in_default-clause-step : goal.returns-in_default-clause-step
returns-in_default-clause-step c = λ s st askable twoway.
    ask-nowhere (draft_of c.args.q.now) st (c.in_default.ensures (around_bus [] s) s.bus st.bus)

pub returns-in-Err-NoLabel-clause-step : goal.returns-in-Err-NoLabel-clause-step
returns-in-Err-NoLabel-clause-step c = λ s st askable twoway.
    let none = rw c.in-Err-NoLabel.field-0-is at
    (c.in-Err-NoLabel.ensures.step (around_bus [] s) s.bus st.bus) in
    ask-unlabelled (draft_of c.args.q.now)
    (rebussed [] c.send.new.self s.bus st none.stands refl) none.label

pub returns-in-Err-NoConnection-clause-step : goal.returns-in-Err-NoConnection-clause-step
returns-in-Err-NoConnection-clause-step c = λ s st askable twoway.
    let none = rw c.in-Err-NoConnection.field-0-is at
    (c.in-Err-NoConnection.ensures.step (around_bus [] s) s.bus st.bus) in
    ask-unlabelled (draft_of c.args.q.now)
    (rebussed [] c.send.new.self s.bus st none.stands refl)
    (unlabelled-gone (draft_of c.args.q.now) s.bus none.gone)

pub returns-in_ok-tell_sent-clause-step : goal.returns-in_ok-tell_sent-clause-step
returns-in_ok-tell_sent-clause-step c = λ s st askable twoway.
    let d = draft_of c.args.q.now in
    ask-made c.send.new.self d c.in-Some.ends c.in-Ok.sent st askable twoway
    (c.in-Some.ensures (around_bus [] s) s.bus st.bus)
    (c.in-Ok.ensures.step (around_bus [] s) s.bus st.bus)
    (told-oneway c.args.told.now c.push.new.self c.tell_sent.new.told c.in_ok-asked.field-0 d
    c.in-Some.ends c.in-Ok.sent c.if-q.true (c.in_ok-asked.ensures askable)
    c.in_ok-push.ensures.ok c.in_ok-tell_sent.ensures)

pub returns-else-q-clause-step : goal.returns-else-q-clause-step
returns-else-q-clause-step c = λ s st askable twoway.
    let d = draft_of c.args.q.now in
    ask-made c.send.new.self d c.in-Some.ends c.in-Ok.sent st askable twoway
    (c.in-Some.ensures (around_bus [] s) s.bus st.bus)
    (c.in-Ok.ensures.step (around_bus [] s) s.bus st.bus)
    (told-twoway c.args.told.now c.push.new.self c.in_ok-asked.field-0 d
    c.in-Some.ends c.in-Ok.sent c.if-q.false (c.in_ok-asked.ensures askable)
    c.in_ok-push.ensures.ok)
