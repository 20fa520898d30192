-- No connection has a CPort.
use Rattle.std.proofs.Common.{refl}
use Rattle.gb_host.proofs.Counts.{none-counted}
use Rattle.gb_host.proofs.cports.Cports.new.Goals as goal

pub returns : goal.returns
returns c =
    none-counted (record { counts = c.in_ok-vec.field-0; full = c.in_ok-vec-2.field-0; least = 1 })
    4096 64 refl
    (c.in_ok-vec.ensures.items_if_clones_equal (λ y same. same))
    (c.in_ok-vec-2.ensures.items_if_clones_equal (λ y same. same)) refl
