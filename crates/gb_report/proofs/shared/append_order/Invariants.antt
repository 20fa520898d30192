-- The text so far and that of the places that are left are the order.
use Rattle.std.proofs.Common.{◌≡◌, ◌++◌, codes, drop}
use Rattle.std.specs.String.{string_bytes}
use Rattle.gb_formats.specs.ShowTexts.{places_text}
use Rattle.gb_report.proofs.shared.append_order.Given as goal

abbrev pub invariant-loop-place : goal.invariant-loop-place
invariant-loop-place l =
    string_bytes l.out ++ places_text (drop l.place-index l.places)
    ≡ string_bytes l.fn.out ++ (codes "order" ++ places_text l.places)
