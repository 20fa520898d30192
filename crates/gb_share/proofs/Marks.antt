-- The lines that a requester runs one after the other.
use Rattle.std.proofs.Common.{◌≡◌, ◌⊎◌, ℕ, zero, suc, ◌+◌, ◌≤◌, inl, inr, ⊎_elim, Bool, true}
use Rattle.std.proofs.Common.{false, Some, List, [], ◌∷◌, ◌++◌, length, refl, sym, ap, ◌∙◌, arith}
use Rattle.std.proofs.Common.{append_assoc, subst}
use Rattle.std.proofs.lemmas.List.{append-nil, length-append}
use Rattle.std.specs.List.{slice_get}
use Rattle.std.specs.Prelude.{if◌then◌else◌}
use Rattle.gb_base.specs.declared.event.Event.{Event}
use Rattle.gb_desk.specs.declared.view.View.{View}
use Rattle.gb_share.proofs.BehindFull.{done_marks, full_marks, kept_marks}
use Rattle.gb_share.proofs.Teams.{ran_none, tagged_none}
use Rattle.gb_share.specs.Doing.{Adds, HaveAsked, Stays, done_by, tagged}
use Rattle.gb_share.specs.Lines.{AreAsking, MayBeFull, ran}
use Rattle.gb_share.specs.Requesters.{Runs, ran_of}
use Rattle.gb_base.specs.declared.parts.Asked.{Asked}
use Rattle.gb_share.specs.declared.requester.Requester.{Requester}

-- what a line adds to the events that were done, by its mark
abbrev marked : Bool → Event → List Event
marked m e = if m then [] else e ∷ []

pub ran_next : (ls : List Asked) (ms : List Bool) (m : Bool) (l : Asked)
    → slice_get ls (length ms) ≡ Some l → ran ls (ms ++ m ∷ []) ≡ ran ls ms ++ marked m l.event
ran_next [] ms m l at = absurd cc
ran_next (x ∷ xs) [] m l at =
    let same : x ≡ l = cc in
    ap (λ es. marked m x.event ++ es) (ran_none xs)
    ∙ (append-nil (marked m x.event) ∙ ap (λ (y : Asked). marked m y.event) same)
ran_next (x ∷ xs) (n ∷ ns) m l at =
    ap (λ es. marked n x.event ++ es) (ran_next xs ns m l at)
    ∙ sym (append_assoc (marked n x.event) (ran xs ns) (marked m l.event))

-- the line behind those that have a mark
pub read_there : (ls : List Asked) (ms' ms : List Bool) (l : Asked) → ms' ≡ ms
    → slice_get ls (length ms') ≡ Some l → slice_get ls (length ms) ≡ Some l
read_there ls ms' ms l marks at =
    subst (λ (ns : List Bool). slice_get ls (length ns) ≡ Some l) marks at

pub snoc_get : {A : Type 0} (xs : List A) (x y : A) (n : ℕ) → slice_get (xs ++ x ∷ []) n ≡ Some y
    → (slice_get xs n ≡ Some y) ⊎ ((n ≡ length xs) × (x ≡ y))
snoc_get [] x y zero at = inr (refl, cc)
snoc_get [] x y (suc n) at = absurd cc
snoc_get (z ∷ zs) x y zero at = inl at
snoc_get (z ∷ zs) x y (suc n) at =
    ⊎_elim (λ early. inl early) (λ last. inr (ap suc last.0, last.1)) (snoc_get zs x y n at)

pub asking_next : (ls : List Asked) (ms : List Bool) (m : Bool) → AreAsking ls ms
    → MayBeFull ls ms m → AreAsking ls (ms ++ m ∷ [])
asking_next ls ms m all may n l at mark =
    ⊎_elim (λ early. all n l at early)
    (λ last. may l (subst (λ k. slice_get ls k ≡ Some l) last.0 at) last.1)
    (snoc_get ms m true n mark)

-- the requester has run a line more, by its mark
noted : (x y : Requester) (m : Bool) (l : Asked) → slice_get x.lines (length x.full) ≡ Some l
    → y.lines ≡ x.lines → y.full ≡ x.full ++ m ∷ [] → ran_of y ≡ ran_of x ++ marked m l.event
noted x y m l at lines full =
    ap (λ ls. ran ls y.full) lines
    ∙ (ap (λ ms. ran x.lines ms) full ∙ ran_next x.lines x.full m l at)

longer : (x y : Requester) (m : Bool) → y.full ≡ x.full ++ m ∷ []
    → length y.full ≡ length x.full + 1
longer x y m full =
    let long = ap (λ (ms : List Bool). length ms) full in
    omega (arith, length-append x.full (m ∷ []))

-- a line that was done
pub done_runs : (x y : Requester) (l : Asked) (v w : View)
    → slice_get x.lines (length x.full) ≡ Some l → y.who ≡ x.who → y.lines ≡ x.lines
    → y.full ≡ x.full ++ false ∷ [] → Adds (tagged x.who (l.event ∷ [])) v w
    → length w.tickets ≤ length v.tickets + 1 → Runs x y v w
done_runs x y l v w at who lines full adds few = record {
  more = l.event ∷ [];
  ran = noted x y false l at lines full;
  adds = adds;
  few = (let long = longer x y false full in omega arith);
  marks = done_marks x y l.event v w who full adds;
}

stays_adds : (by : ℕ) (v w : View) → Stays v w → Adds (tagged by []) v w
stays_adds by v w s = record {
  seen = s.seen;
  low = s.low;
  done = λ r. s.done r ∙ ap (λ l. done_by r v ++ l) (sym (tagged_none by r));
  first = s.first;
  told = s.told;
}

-- a line that found no slot
pub full_runs : (x y : Requester) (l : Asked) (v w : View)
    → slice_get x.lines (length x.full) ≡ Some l → y.who ≡ x.who → y.lines ≡ x.lines
    → y.full ≡ x.full ++ true ∷ [] → Stays v w → HaveAsked w.first w.seen
    → length w.tickets ≤ length v.tickets → Runs x y v w
full_runs x y l v w at who lines full stays asked few = record {
  more = [];
  ran = noted x y true l at lines full;
  adds = stays_adds x.who v w stays;
  few = (let long = longer x y true full in omega arith);
  marks = full_marks x y v w who full stays asked;
}

-- a line that is kept
pub kept_runs : (x y : Requester) (v w : View) → ran_of y ≡ ran_of x → y.who ≡ x.who
    → y.full ≡ x.full → Stays v w → length w.tickets ≤ length v.tickets → Runs x y v w
kept_runs x y v w same who full stays few = record {
  more = [];
  ran = same ∙ sym (append-nil (ran_of x));
  adds = stays_adds x.who v w stays;
  few = (let long = ap (λ (fs : List Bool). length fs) full in omega arith);
  marks = kept_marks x y v w who full stays;
}
