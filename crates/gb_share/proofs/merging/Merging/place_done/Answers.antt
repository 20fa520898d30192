use Rattle.std.proofs.Common.{ap, refl, ◌∙◌, ◌∷◌, [], ◌++◌}
use Rattle.std.specs.String.{string_bytes}
use Rattle.gb_share.proofs.Placings.{done_stands, moved, shorter}
use Rattle.gb_desk.specs.Journals.{past_of}
use Rattle.gb_share.proofs.merging.Merging.place_done.Goals as goal

pub returns-clause-stands : goal.returns-clause-stands
returns-clause-stands c asked entries last by s =
    done_stands asked c.args.self.now c.place.new.self (past_of c.args.done.now) entries last
    c.args.who c.args.next _ c.requires.next refl c.place.ensures.hex
    (moved c.args.self.now c.place.new.self c.args.who c.args.next _ c.requires.next
    c.requires.full c.place.ensures.all c.in_ok-place.ensures.at)
    (c.in_ok-place.ensures.order
    ∙ ap (λ f. c.args.self.now.order.items ++ (c.args.who, f) ∷ []) c.requires.full)
    (ap string_bytes c.place.ensures.text ∙ c.in_ok-append_all.ensures) by s

pub returns-clause-others : goal.returns-clause-others
returns-clause-others c =
    (moved c.args.self.now c.place.new.self c.args.who c.args.next _ c.requires.next
    c.requires.full c.place.ensures.all c.in_ok-place.ensures.at).there

pub returns-clause-shorter : goal.returns-clause-shorter
returns-clause-shorter c =
    shorter c.args.who _ _ _
    (moved c.args.self.now c.place.new.self c.args.who c.args.next _ c.requires.next
    c.requires.full c.place.ensures.all c.in_ok-place.ensures.at)
