-- What was taken grows by the piece that was written.
use Rattle.std.proofs.Common.{◌++◌, take, append_assoc, sym, ap, ◌∙◌, arith}
use Rattle.std.proofs.lemmas.List.{take-append-drop}
use Rattle.gbus.proofs.Fronts.{appends_more}
use Rattle.gbus.proofs.output.write_all.Goals as goal

pub loop-rest-preserved : goal.loop-rest-preserved
loop-rest-preserved g c =
    let inv = c.loop-rest.invariant in
    let n = c.in_ok-n.n in
    let rest = c.loop-rest.rest.now in
    record {
      front = inv.front ++ take n rest;
      whole = inv.whole ∙ ap (λ r. inv.front ++ r)
          (sym (take-append-drop n rest) ∙ ap (λ r. take n rest ++ r) (sym c.split_at.ensures.back))
          ∙ sym (append_assoc inv.front (take n rest) c.split_at.result.1.now);
      taken = appends_more _ _ _ inv.front (take n rest) inv.taken c.in_ok-n.ensures.bytes;
      later = omega (arith, c.write.ensures.later);
    }
