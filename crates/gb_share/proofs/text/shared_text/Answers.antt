use Rattle.std.proofs.Common.{List, ap, arith, length, subst, sym}
use Rattle.gb_share.proofs.Begins.{pasted}
use Rattle.gb_share.proofs.Partings.{ready}
use Rattle.gb_share.proofs.Rests.{same_length}
use Rattle.gb_share.specs.Parting.{AreReadyToRun, AreRequesters}
use Rattle.gb_share.specs.Shares.{WereRun}
use Rattle.gb_share.specs.declared.requester.Requester.{Requester}
use Rattle.gb_share.proofs.text.shared_text.Goals as goal

pub share_all-requires-after_bounds : goal.share_all-requires-after_bounds
share_all-requires-after_bounds g c κs within =
    subst (λ (xs : List Requester). AreReadyToRun xs) (sym c.as_mut_slice.ensures.value)
    (ready c.args.asked c.in_ok-all.all.items c.in_ok-all.ensures c.requires.valid
    c.requires.few)

pub returns : goal.returns
returns g c =
    let are : AreRequesters c.args.asked c.as_mut_slice.result.now =
    subst (λ (xs : List Requester). AreRequesters c.args.asked xs)
    (sym c.as_mut_slice.ensures.value) c.in_ok-all.ensures in
    let long = same_length c.as_mut_slice.result.now c.share_all.new.all c.share_all.ensures.same in
    let were = ap (λ (xs : List Requester). length xs) c.as_mut_slice.ensures.value in
    c.in_ok-text.ensures c.args.asked
    (subst (λ (xs : List Requester).
    WereRun c.args.asked xs c.in_ok-system.system c.in_ok-system.journal)
    (sym (pasted c.in_ok-all.all.len c.share_all.new.all c.in_ok-all.all.items
    (omega (arith, c.as_mut_slice.ensures.len, long, were)) (omega (arith, long, were))))
    (record {
      fresh = c.as_mut_slice.result.now;
      are = are;
      same = c.share_all.ensures.same;
      shared = c.in_ok-system.ensures.shared;
    }))
