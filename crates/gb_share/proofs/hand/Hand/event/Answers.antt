use Rattle.gb_share.proofs.Following.{follows_bridge, follows_call, follows_copy, follows_forget}
use Rattle.gb_share.proofs.Following.{follows_send, plain_event}
use Rattle.std.proofs.Common.{ap}
use Rattle.gb_share.proofs.hand.Hand.event.Goals as goal

pub returns-in-Send-clause-names : goal.returns-in-Send-clause-names
returns-in-Send-clause-names c =
    follows_send _ _ _ _ _ _ _ _ _ _ _ _ c.in-Send.is c.requires.valid c.open.ensures.opens

pub returns-in-Bridge-clause-names : goal.returns-in-Bridge-clause-names
returns-in-Bridge-clause-names c =
    follows_bridge _ _ _ _ _ _ _ _ _ _ _ c.in-Bridge.is c.requires.valid
    c.open-in-Bridge.ensures.opens

pub returns-in-Copy-clause-names : goal.returns-in-Copy-clause-names
returns-in-Copy-clause-names c =
    follows_copy _ _ _ _ _ _ _ _ _ c.in-Copy.is c.requires.valid c.copy.ensures.copies

pub returns-in-Forget-clause-names : goal.returns-in-Forget-clause-names
returns-in-Forget-clause-names c =
    follows_forget _ _ _ _ _ _ _ _ c.in-Forget.is c.requires.valid c.forget.ensures.forgets

pub returns-in_default-clause-names : goal.returns-in_default-clause-names
returns-in_default-clause-names c =
    follows_call _ _ _ _ _ _ _ c.requires.valid
    (plain_event c.args.e.now c.in_default.not-Send c.in_default.not-Bridge c.in_default.not-Copy
    c.in_default.not-Forget)
    (ap (λ h. h.items) c.call.ensures.held) c.call.ensures.calls
