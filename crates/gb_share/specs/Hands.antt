-- What the pass of a hand knows.
use Rattle.gb_desk.specs.Passes.{known}
use Rattle.gb_desk.specs.declared.view.View.{View}
use Rattle.gb_share.specs.declared.hand.Hand.{Hand}

-- what the pass of a hand knows
abbrev pub knows : Hand → View
knows h = known h.pass
