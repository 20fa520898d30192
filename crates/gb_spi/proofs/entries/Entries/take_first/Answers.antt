use Rattle.gb_spi.proofs.Stepping.{entries_more}
use Rattle.gb_spi.proofs.entries.Entries.take_first.Goals as goal

pub returns : goal.returns
returns c =
    rw (← c.self.view_is)
    (entries_more _ _ _ c.if-self-lt-ENTRY_SIZE.false c.first.ensures.entry c.first.ensures.rest)
