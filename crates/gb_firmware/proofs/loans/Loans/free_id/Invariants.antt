-- The least id is the least from here on.
use Rattle.std.proofs.Common.{◌≡◌, ◌-◌}
use Rattle.std.specs.List.{list_any}
use Rattle.gb_formats.specs.Images.{is_loan}
use Rattle.gb_formats.specs.Lists.{first_free}
use Rattle.gb_firmware.proofs.loans.Loans.free_id.Given as goal

abbrev pub invariant-loop-id : goal.invariant-loop-id
invariant-loop-id l =
    first_free (λ id. list_any (is_loan l.connection id) l.self) (256 - l.id) l.id
    ≡ first_free (λ id. list_any (is_loan l.connection id) l.self) 255 1
