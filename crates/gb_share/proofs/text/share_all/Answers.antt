use Rattle.gb_share.proofs.Partings.{first_ready, others_ready, valid_ready}
use Rattle.gb_share.proofs.text.share_all.Goals as goal

pub share-requires-clause-first : goal.share-requires-clause-first
share-requires-clause-first g c κs within =
    first_ready _ _ _ c.in-Some.ensures.cases.0 c.requires

pub share-requires-clause-others : goal.share-requires-clause-others
share-requires-clause-others g c κs within =
    others_ready _ _ _ c.in-Some.ensures.cases.0 c.requires

pub share-requires-clause-valid : goal.share-requires-clause-valid
share-requires-clause-valid g c κs within =
    valid_ready _ _ _ c.in-Some.ensures.cases.0 c.requires
