-- A requester that runs its lines alone, at first and in the end.
use Rattle.std.proofs.Common.{◌≡◌, ℕ, Some, List, [], ◌∷◌, length, refl, sym, ap, ◌∙◌}
use Rattle.std.proofs.Common.{subst, arith}
use Rattle.gb_base.specs.declared.event.Event.{Event}
use Rattle.gb_base.specs.declared.journal.JournalEntry.{JournalEntry}
use Rattle.gb_desk.specs.Calls.{Closes, first_view}
use Rattle.gb_desk.specs.declared.view.View.{View}
use Rattle.gb_machine.specs.Journal.{events_of}
use Rattle.gb_machine.specs.State.{first_state}
use Rattle.gb_share.proofs.Alones.{marked_fresh, run_as}
use Rattle.gb_share.proofs.Places.{longer_length, once_low, some_stands}
use Rattle.gb_share.specs.Alone.{IsAlone, IsExact}
use Rattle.gb_share.specs.Fulls.{AreExact}
use Rattle.gb_share.specs.Doing.{Adds}
use Rattle.gb_share.specs.Names.{AreNames}
use Rattle.gb_share.specs.Placing.{marked}
use Rattle.gb_share.specs.declared.hand.Held.{Held}
use Rattle.gb_share.specs.declared.requester.Requester.{Requester}
use Rattle.gb_system.specs.Stands.{Stands}
use Rattle.gb_system.specs.declared.system.System.{System}

no_lines : AreExact []
no_lines [] back a full same = absurd cc
no_lines (m ∷ front) back a full same = absurd cc

-- nothing was run
pub alone_first : (x : Requester) (v : View) (hs : List Held) (z : System) → x.full ≡ []
    → v ≡ first_view z → hs ≡ [] → IsAlone x v hs
alone_first x v hs z fresh is none =
    let lines : marked x.lines x.full ≡ [] =
    ap (λ fs. marked x.lines fs) fresh ∙ marked_fresh x.lines in record {
      parts = ap (λ (u : View). u.parts) is;
      few = (
          let tickets = ap (λ (u : View). length u.tickets) is in
          omega arith);
      ran = λ y first stands all. run_as x v hs [] lines
          (ap (λ (u : View). events_of u.seen) is)
          (subst (AreNames first_state) (sym none) (record { names = refl; apart = tt }))
          no_lines;
    }

-- other requesters have run their lines behind that
pub alone_later : (x : Requester) (v w : View) (hs : List Held) (more : ℕ → List Event)
    → IsAlone x v hs → Adds more v w → IsExact x w
alone_later x v w hs more a adds z first stands all =
    let long = longer_length v.seen w.seen adds.seen in
    (a.ran z (sym adds.first ∙ first) stands
    (λ n low. sym (adds.low n low) ∙ all n (omega arith))).exact

-- A desk is closed by a pass with all parts, to which all places belong.
pub closed_exact : (x : Requester) (z system : System) (w : View) (journal : List JournalEntry)
    → IsExact x w → w.first ≡ Some z → Stands z first_state → Closes w system journal
    → AreExact (marked x.lines x.full)
closed_exact x z system w journal exact first stands closes =
    exact z first stands (λ n low.
    (let long = longer_length w.seen journal closes.seen in
    let once = once_low n (length journal) (omega arith) in
    let is = closes.places n in
    some_stands n w.mine (omega arith)))
