-- The line is written, or refused in the order of its conditions.
use Rattle.std.proofs.Common.{◌<◌, ◌≤◌, ◌==◌, Err, Ok, Some, None, ap, sym, ◌∙◌, is_none, cond}
use Rattle.std.proofs.Common.{rules, subst}
use Rattle.gb_base.specs.declared.interface.Link.{Link}
use Rattle.gb_base.specs.declared.refusal.Refusal.TheVariants as why
use Rattle.gb_bridge_payload.specs.Serving.{WritesBridged, bridge_fault_of}
use Rattle.gb_formats.specs.Bridges.{ask_protocol, ask_request, credits_taken, is_too_large}
use Rattle.gb_formats.specs.UartDevice.{credits_spent}
use Rattle.gb_host.proofs.Bridges.{enough, short, too_large-is, unsupported-is, written-is}
use Rattle.gb_host.proofs.LinksByNumber.{same-link, some-link}
use Rattle.gb_host.specs.Bridging.{BridgesOn}
use Rattle.gb_host.proofs.host.Host.bridge.Goals as goal

pub returns-in-Err-Unsupported-clause-step : goal.returns-in-Err-Unsupported-clause-step
returns-in-Err-Unsupported-clause-step c = λ h l s there.
    let same = same-link c.args.self.now h c.args.connection c.of.result c.in-Some.link l s
    c.of.ensures c.in-Some.is there in
    subst (λ (m : Link).
    BridgesOn m c.args.ask.now c.args.out.now c.written.new.out (Err why.Unsupported)) (sym same)
    (unsupported-is (ask_protocol c.args.ask.now == c.in-Some.link.protocol)
    (is_too_large c.args.ask.now)
    (is_none (credits_spent c.in-Some.link.credits (credits_taken c.args.ask.now)))
    (ask_request c.args.ask.now)
    (c.in-Err-Unsupported.ensures.fault ∙ ap (λ w. Err (bridge_fault_of w))
    c.in-Err-Unsupported.field-0-is))

pub returns-in-Err-TooLarge-clause-svc : goal.returns-in-Err-TooLarge-clause-svc
returns-in-Err-TooLarge-clause-svc c = λ h s none.
    absurd (some-link c.args.self.now h c.args.connection c.of.result c.in-Some.link s
    c.of.ensures c.in-Some.is none)

pub returns-in-Err-TooLarge-clause-step : goal.returns-in-Err-TooLarge-clause-step
returns-in-Err-TooLarge-clause-step c = λ h l s there.
    let same = same-link c.args.self.now h c.args.connection c.of.result c.in-Some.link l s
    c.of.ensures c.in-Some.is there in
    subst (λ (m : Link).
    BridgesOn m c.args.ask.now c.args.out.now c.written.new.out (Err why.TooLarge)) (sym same)
    (too_large-is (ask_protocol c.args.ask.now == c.in-Some.link.protocol)
    (is_too_large c.args.ask.now)
    (is_none (credits_spent c.in-Some.link.credits (credits_taken c.args.ask.now)))
    (ask_request c.args.ask.now)
    (c.in-Err-TooLarge.ensures.fault ∙ ap (λ w. Err (bridge_fault_of w))
    c.in-Err-TooLarge.field-0-is))

pub returns-then-credits-from-clause-svc : goal.returns-then-credits-from-clause-svc
returns-then-credits-from-clause-svc c = λ h s none.
    absurd (some-link c.args.self.now h c.args.connection c.of.result c.in-Some.link s
    c.of.ensures c.in-Some.is none)

pub returns-then-credits-from-clause-step : goal.returns-then-credits-from-clause-step
returns-then-credits-from-clause-step c = λ h l s there.
    let same = same-link c.args.self.now h c.args.connection c.of.result c.in-Some.link l s
    c.of.ensures c.in-Some.is there in
    let w = c.in-Ok.ensures in
    let spent = credits_spent c.in-Some.link.credits (credits_taken c.args.ask.now) in
    let is = written-is (ask_protocol c.args.ask.now == c.in-Some.link.protocol)
    (is_too_large c.args.ask.now) (is_none spent) (ask_request c.args.ask.now) w.0 w.1 in
    let less : c.from.result < c.credits.result = search rules in
    let fewer : c.in-Some.link.credits < credits_taken c.args.ask.now =
    subst (λ n. c.in-Some.link.credits < n) c.credits.ensures
    (subst (λ n. n < c.credits.result) c.from.ensures less) in
    subst (λ (m : Link).
    BridgesOn m c.args.ask.now c.args.out.now c.written.new.out (Err why.NoCredit)) (sym same)
    (is.1 ∙ ap (λ b. cond b (Some why.NoCredit) None)
    (short c.in-Some.link.credits (credits_taken c.args.ask.now) fewer))

pub returns-clause-svc : goal.returns-clause-svc
returns-clause-svc c = λ h s none.
    absurd (some-link c.args.self.now h c.args.connection c.of.result c.in-Some.link s
    c.of.ensures c.in-Some.is none)

pub returns-clause-step : goal.returns-clause-step
returns-clause-step c = λ h l s there.
    let same = same-link c.args.self.now h c.args.connection c.of.result c.in-Some.link l s
    c.of.ensures c.in-Some.is there in
    let w = c.in-Ok.ensures in
    let spent = credits_spent c.in-Some.link.credits (credits_taken c.args.ask.now) in
    let is = written-is (ask_protocol c.args.ask.now == c.in-Some.link.protocol)
    (is_too_large c.args.ask.now) (is_none spent) (ask_request c.args.ask.now) w.0 w.1 in
    let most : c.credits.result ≤ c.from.result = search rules in
    let there_are : credits_taken c.args.ask.now ≤ c.in-Some.link.credits =
    subst (λ n. n ≤ c.in-Some.link.credits) c.credits.ensures
    (subst (λ n. c.credits.result ≤ n) c.from.ensures most) in
    subst (λ (m : Link).
    BridgesOn m c.args.ask.now c.args.out.now c.written.new.out (Ok c.in-Ok.bridged)) (sym same) (
      is.1 ∙ ap (λ b. cond b (Some why.NoCredit) None)
          (enough c.in-Some.link.credits (credits_taken c.args.ask.now) there_are),
      subst (λ r. WritesBridged r c.args.out.now c.written.new.out c.in-Ok.bridged)
          (sym is.0) w.2,
    )
