use Rattle.std.proofs.Common.{length, subst, sym, ◌+◌, ◌<◌, ◌∙◌, ap, ℕ}
use Rattle.gb_desk.specs.Steps.{goes, stays}
use Rattle.gb_desk.specs.declared.view.View.{View}
use Rattle.gb_share.proofs.Rests.{numbered_same, same_length}
use Rattle.gb_share.proofs.Marked.{both_have}
use Rattle.gb_share.proofs.Teams.{front_get, last_get, room_for}
use Rattle.gb_share.proofs.Results.{err_same}
use Rattle.gb_share.proofs.Using.{left_beside, most_joined, uses_beside, uses_idle}
use Rattle.gb_share.proofs.threads.+together.Goals as goal
use Rattle.gb_share.specs.Hands.{knows}
use Rattle.gb_share.specs.Requesters.{HaveRun, Runs, parts_for}

pub run_all-split-own-requires-clause-room : goal.run_all-split-own-requires-clause-room
run_all-split-own-requires-clause-room g t c =
    (room_for _ _ _ (length (knows c.args.hand.now).tickets) c.parts.result
    (knows c.args.hand.now).parts c.in-Some.ensures.cases.0 c.requires.parts c.parts.ensures).0

pub run_all-both-ran-requires-clause-fresh : goal.run_all-both-ran-requires-clause-fresh
run_all-both-ran-requires-clause-fresh g t c κs within n x at =
    c.requires.fresh n x (front_get _ _ _ c.in-Some.ensures.cases.0 n x at)

pub run_all-both-ran-requires-clause-numbered : goal.run_all-both-ran-requires-clause-numbered
run_all-both-ran-requires-clause-numbered g t c κs within n x at =
    c.requires.numbered n x (front_get _ _ _ c.in-Some.ensures.cases.0 n x at)

pub run_all-both-ran-requires-clause-valid : goal.run_all-both-ran-requires-clause-valid
run_all-both-ran-requires-clause-valid g t c κs within = (
  c.requires.valid (length c.in-Some.others.now) c.in-Some.last.now
      (last_get _ _ _ c.in-Some.ensures.cases.0),
  (λ n x at. c.requires.valid n x (front_get _ _ _ c.in-Some.ensures.cases.0 n x at)),
)

pub run_all-both-ran-requires-clause-parts : goal.run_all-both-ran-requires-clause-parts
run_all-both-ran-requires-clause-parts g t c κs within =
    subst (λ (v : View). length v.tickets + parts_for c.in-Some.others.now < v.parts)
    (sym c.split-own.ensures.stays)
    (room_for _ _ _ (length (knows c.args.hand.now).tickets) c.parts.result
    (knows c.args.hand.now).parts c.in-Some.ensures.cases.0 c.requires.parts c.parts.ensures).1

pub run_all-returns-clause-ran : goal.run_all-returns-clause-ran
run_all-returns-clause-ran g t c =
    let last = last_get _ _ _ c.in-Some.ensures.cases.0 in
    let parts : ℕ = c.parts.result in
    let had : HaveRun c.both-ran.new.others (stays parts (knows c.args.hand.now))
    (knows c.both-ran.new.hand) =
    subst (λ v. HaveRun c.both-ran.new.others v (knows c.both-ran.new.hand))
    {y = stays parts (knows c.args.hand.now)} c.split-own.ensures.stays
    c.in_ok-ran.ensures.others in
    let ran : Runs c.in-Some.last.now c.both-ran.new.last (goes parts (knows c.args.hand.now))
    (knows c.both-ran.new.own) =
    subst (λ v. Runs c.in-Some.last.now c.both-ran.new.last v (knows c.both-ran.new.own))
    {y = goes parts (knows c.args.hand.now)} c.split-own.ensures.goes
    c.in_ok-ran.ensures.last in
    both_have (knows c.args.hand.now) (knows c.both-ran.new.hand) (knows c.both-ran.new.own)
    (knows c.join-joined.new.self) c.parts.result c.both-ran.new.others c.in-Some.last.now
    c.both-ran.new.last c.requires.none c.both-ran.new.hand.within c.both-ran.new.own.within
    had ran
    (c.requires.fresh (length c.in-Some.others.now) c.in-Some.last.now last)
    (c.requires.numbered (length c.in-Some.others.now) c.in-Some.last.now last
    ∙ ap (λ n. n + 1) (sym (same_length c.in-Some.others.now c.both-ran.new.others
    c.both-ran.ensures.same)))
    c.both-ran.ensures.who
    (numbered_same c.in-Some.others.now c.both-ran.new.others c.both-ran.ensures.same
    (λ n x at. c.requires.numbered n x (front_get _ _ _ c.in-Some.ensures.cases.0 n x at)))
    c.join-joined.ensures.joined

pub run_all-returns-in_default-clause-uses : goal.run_all-returns-in_default-clause-uses
run_all-returns-in_default-clause-uses g t c =
    uses_idle _ _

pub run_all-returns-in_err-ran-clause-uses : goal.run_all-returns-in_err-ran-clause-uses
run_all-returns-in_err-ran-clause-uses g t c =
    uses_beside _ _ _ c.parts.result 0 0 (knows c.args.hand.now) _ _ _ _ _
    c.in-Some.ensures.cases.0 c.split-own.ensures.stays c.split-own.ensures.goes
    c.both-ran.ensures.uses c.both-ran.ensures.uses_own c.join-joined.ensures.joined
    c.join-joined.ensures.few

pub run_all-returns-in_err-joined-clause-uses : goal.run_all-returns-in_err-joined-clause-uses
run_all-returns-in_err-joined-clause-uses g t c =
    uses_beside _ _ _ c.parts.result 0 0 (knows c.args.hand.now) _ _ _ _ _
    c.in-Some.ensures.cases.0 c.split-own.ensures.stays c.split-own.ensures.goes
    c.both-ran.ensures.uses c.both-ran.ensures.uses_own c.join-joined.ensures.joined
    c.join-joined.ensures.few

pub run_all-returns-clause-uses : goal.run_all-returns-clause-uses
run_all-returns-clause-uses g t c =
    uses_beside _ _ _ c.parts.result 0 0 (knows c.args.hand.now) _ _ _ _ _
    c.in-Some.ensures.cases.0 c.split-own.ensures.stays c.split-own.ensures.goes
    c.both-ran.ensures.uses c.both-ran.ensures.uses_own c.join-joined.ensures.joined
    c.join-joined.ensures.few

pub run_all-returns-clause-left : goal.run_all-returns-clause-left
run_all-returns-clause-left g t c =
    left_beside _ _ c.both-ran.new.others _ c.both-ran.new.last c.parts.result
    (knows c.args.hand.now) _ _ _ _ _ c.in-Some.ensures.cases.0
    c.split-own.ensures.stays c.split-own.ensures.goes c.in_ok-ran.ensures.left
    c.in_ok-ran.ensures.left_own c.join-joined.ensures.joined c.join-joined.ensures.few

pub run_all-returns-in_err-ran-clause-spent : goal.run_all-returns-in_err-ran-clause-spent
run_all-returns-in_err-ran-clause-spent g t c is =
    most_joined c.in-Some.last.now c.parts.result _ (knows c.args.hand.now) _ _ _ _ _
    c.split-own.ensures.stays c.split-own.ensures.goes c.both-ran.ensures.uses
    c.both-ran.ensures.uses_own c.both-ran.ensures.parts.1 c.parts.ensures
    c.join-joined.ensures.joined
    (c.in_err-ran.ensures.spent (err_same _ _ _ c.from_residual.ensures.1 is))
