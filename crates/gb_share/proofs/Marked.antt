-- Requesters with their full lines, as their passes are joined.
use Rattle.std.proofs.Common.{◌≡◌, ℕ, ◌+◌, Some, List, [], ◌∷◌, ◌++◌, length, sym, ap}
use Rattle.std.proofs.Common.{◌∙◌, arith, subst, ⊎_elim}
use Rattle.std.specs.List.{slice_get}
use Rattle.gb_desk.specs.Steps.{goes, stays}
use Rattle.gb_desk.specs.declared.view.View.{View}
use Rattle.gb_share.proofs.BehindFull.{first_marked, fresh_marks, second_marked}
use Rattle.gb_share.proofs.Marks.{snoc_get}
use Rattle.gb_share.proofs.Teams.{both_ran, get_low, goes_none, ran_by_none, tagged_other}
use Rattle.gb_share.specs.Doing.{HasNone, IsJoined, IsWithin, done_by, tagged}
use Rattle.gb_share.specs.Requesters.{AreNumbered, HaveRun, IsMarked, Runs, ran_by}
use Rattle.gb_share.specs.declared.requester.Requester.{Requester}

-- The last requester in a thread of its own, and the others beside it.
pub both_have : (v w u j : View) (k : ℕ) (xs : List Requester) (x y : Requester) → HasNone v
    → IsWithin w → IsWithin u → HaveRun xs (stays k v) w → Runs x y (goes k v) u
    → x.full ≡ [] → x.who ≡ length xs + 1 → y.who ≡ x.who → AreNumbered xs → IsJoined w u j
    → HaveRun (xs ++ y ∷ []) v j
both_have v w u j k xs x y none one two others last fresh who same numbered joined = record {
  adds = both_ran v w u j k xs x y none one two others.adds last fresh who same numbered joined;
  marked = λ n z at.
      ⊎_elim (λ (early : slice_get xs n ≡ Some z). front n z early)
      (λ is. subst (λ t. IsMarked t j) is.1 behind) (snoc_get xs y z n at);
}
  where
    front : (n : ℕ) (z : Requester) → slice_get xs n ≡ Some z → IsMarked z j
    front n z at =
        let low = get_low xs n z at in
        let number = numbered n z at in
        first_marked w u j z joined one two
        (last.adds.done z.who
        ∙ (ap (λ l. l ++ tagged x.who last.more z.who) (goes_none k v z.who)
        ∙ tagged_other x.who z.who last.more (λ by. omega arith)))
        (others.marked n z at)

    idle : done_by y.who w ≡ []
    idle = others.adds.done y.who
        ∙ (ap (λ l. l ++ ran_by xs y.who) (none y.who (omega arith))
        ∙ ran_by_none xs y.who (λ n z at by.
        (let low = get_low xs n z at in
        let number = numbered n z at in omega arith)))

    behind : IsMarked y j
    behind = second_marked w u j y joined one two (last.adds.first ∙ sym others.adds.first) idle
        (last.marks (fresh_marks x (goes k v) fresh (goes_none k v x.who)))
