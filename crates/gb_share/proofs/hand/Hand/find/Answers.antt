use Rattle.std.proofs.Common.{◌≡◌, false, rules, true}
use Rattle.std.proofs.lemmas.Iterator.{IsFirst-from_position, YieldsList-from_slice}
use Rattle.gb_machine.specs.Names.{same_name}
use Rattle.gb_share.proofs.HandNames.{place_is}
use Rattle.gb_share.proofs.hand.Hand.find.Goals as goal
use Rattle.gb_share.specs.declared.hand.Held.{Held}

pub returns-clause-place : goal.returns-clause-place
returns-clause-place c =
    place_is c.args.self.now.held.items c.args.name.now c.position.result
    (IsFirst-from_position _ _ c.position.result
    (λ (h : Held). same_name h.name c.args.name.now ≡ true)
    (λ (h : Held). same_name h.name c.args.name.now ≡ false) c.position.ensures.ran
    (YieldsList-from_slice c.args.self.now.held.items cc)
    (λ x q k. search rules) (λ x q k. search rules))
