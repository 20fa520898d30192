-- What is done behind a full line, as passes do more, are joined and end.
use Rattle.std.proofs.Common.{◌≡◌, ℕ, ◌+◌, Bool, true, false, Option}
use Rattle.std.proofs.Common.{Some, None, List, [], ◌∷◌, ◌++◌, length, refl, sym, ap}
use Rattle.std.proofs.Common.{◌∙◌, arith, subst}
use Rattle.std.proofs.lemmas.List.{append-nil, length-append}
use Rattle.std.specs.Prelude.{option_map}
use mathlib.Core.List.{IsPrefix}
use Rattle.gb_base.specs.declared.event.Event.{Event}
use Rattle.gb_base.specs.declared.journal.JournalEntry.{JournalEntry}
use Rattle.gb_desk.specs.Calls.{Closes}
use Rattle.gb_desk.specs.declared.view.View.{View}
use Rattle.gb_machine.specs.Events.{step}
use Rattle.gb_machine.specs.Journal.{IsLegal, after, events_of}
use Rattle.gb_machine.specs.Runs as runs
use Rattle.gb_machine.specs.State.{State, first_state}
use Rattle.gb_share.proofs.Early.{events_both}
use Rattle.gb_share.proofs.Places.{all_from, append_from, joined_from, later_from, longer_length}
use Rattle.gb_share.proofs.Places.{longer_same, once_low, same_from, some_stands}
use Rattle.gb_share.proofs.Requests.{requests_are}
use Rattle.gb_share.proofs.Teams.{longer_both, tagged_same}
use Rattle.gb_share.proofs.Views.{joined_first, joined_second}
use Rattle.gb_share.specs.Doing.{Adds, HaveAsked, IsJoined, IsWithin, Stays, done_by, done_from}
use Rattle.gb_share.specs.Doing.{tagged}
use Rattle.gb_share.specs.Lines.{before_full, count_done}
use Rattle.gb_share.specs.Requesters.{AreLateFrom, IsLate, IsMarked}
use Rattle.gb_share.specs.Shares.{AreLate}
use Rattle.gb_share.specs.declared.requester.Requester.{Requester}
use Rattle.gb_system.specs.Stands.{Stands}
use Rattle.gb_system.specs.declared.system.System.{System}

-- ---- a pass that does more

late_kept : (more : ℕ → List Event) (v w : View) (r k : ℕ) → Adds more v w → IsLate r k v
    → IsLate r k w
late_kept more v w r k a l =
    let low = longer_length l.early v.seen l.begins in record {
      early = l.early;
      begins = longer_both l.early v.seen w.seen l.begins a.seen;
      asked = λ x is s stands. l.asked x (sym a.first ∙ is) s stands;
      few = (let same = ap (λ (es : List Event). length es)
          (same_from r v.mine w.mine 0 l.early (length l.early) (omega arith)
          (λ m below. a.low m (omega arith))) in
          let few = l.few in omega arith);
    }

from_kept : (more : ℕ → List Event) (v w : View) (r : ℕ) (o : Option ℕ) → Adds more v w
    → AreLateFrom r o v → AreLateFrom r o w
from_kept more v w r None a l = tt
from_kept more v w r (Some k) a l = late_kept more v w r k a l

-- a requester of which nothing was done
pub others_marked : (more : ℕ → List Event) (v w : View) (x : Requester) → Adds more v w
    → more x.who ≡ [] → IsMarked x v → IsMarked x w
others_marked more v w x a none m = record {
  count = ap (λ (es : List Event). length es)
      (a.done x.who ∙ (ap (λ es. done_by x.who v ++ es) none ∙ append-nil (done_by x.who v)))
      ∙ m.count;
  late = from_kept more v w x.who (before_full x.full) a m.late;
}

-- ---- one line more

before_done : (fs : List Bool) → before_full (fs ++ false ∷ []) ≡ before_full fs
before_done [] = refl
before_done (true ∷ fs) = refl
before_done (false ∷ fs) = ap (λ o. option_map (λ n. n + 1) o) (before_done fs)

count_more : (fs : List Bool) → count_done (fs ++ false ∷ []) ≡ count_done fs + 1
count_more [] = refl
count_more (true ∷ fs) = count_more fs
count_more (false ∷ fs) = ap (λ n. n + 1) (count_more fs)

pub done_marks : (x y : Requester) (e : Event) (v w : View) → y.who ≡ x.who
    → y.full ≡ x.full ++ false ∷ [] → Adds (tagged x.who (e ∷ [])) v w → IsMarked x v
    → IsMarked y w
done_marks x y e v w who full a m = record {
  count = ap (λ n. length (done_by n w)) who
      ∙ (ap (λ (es : List Event). length es) (a.done x.who)
      ∙ (ap (λ es. length (done_by x.who v ++ es)) (tagged_same x.who (e ∷ []))
      ∙ (length-append (done_by x.who v) (e ∷ [])
      ∙ (ap (λ n. n + 1) m.count
      ∙ sym (ap (λ fs. count_done fs) full ∙ count_more x.full)))));
  late = subst (λ n. AreLateFrom n (before_full y.full) w) (sym who)
      (subst (λ o. AreLateFrom x.who o w)
      (sym (ap (λ fs. before_full fs) full ∙ before_done x.full))
      (from_kept (tagged x.who (e ∷ [])) v w x.who (before_full x.full) a m.late));
}

-- the first number, or else the second
abbrev or_this : Option ℕ → ℕ → ℕ
or_this None n = n
or_this (Some k) n = k

before_more : (fs : List Bool)
    → before_full (fs ++ true ∷ []) ≡ Some (or_this (before_full fs) (count_done fs))
before_more [] = refl
before_more (true ∷ fs) = refl
before_more (false ∷ fs) =
    ap (λ o. option_map (λ n. n + 1) o) (before_more fs) ∙ go (before_full fs)
  where
    go : (o : Option ℕ) → Some (or_this o (count_done fs) + 1)
        ≡ Some (or_this (option_map (λ n. n + 1) o) (count_done fs + 1))
    go None = refl
    go (Some k) = refl

count_same : (fs : List Bool) → count_done (fs ++ true ∷ []) ≡ count_done fs
count_same [] = refl
count_same (true ∷ fs) = count_same fs
count_same (false ∷ fs) = ap (λ n. n + 1) (count_same fs)

pub full_marks : (x y : Requester) (v w : View) → y.who ≡ x.who → y.full ≡ x.full ++ true ∷ []
    → Stays v w → HaveAsked w.first w.seen → IsMarked x v → IsMarked y w
full_marks x y v w who full stays asked m = record {
  count = ap (λ n. length (done_by n w)) who
      ∙ (same ∙ (m.count ∙ sym (ap (λ fs. count_done fs) full ∙ count_same x.full)));
  late = subst (λ n. AreLateFrom n (before_full y.full) w) (sym who)
      (subst (λ o. AreLateFrom x.who o w)
      (sym (ap (λ fs. before_full fs) full ∙ before_more x.full))
      (go (before_full x.full) m.late));
}
  where
    same : length (done_by x.who w) ≡ length (done_by x.who v)
    same = ap (λ (es : List Event). length es)
        (stays.done x.who ∙ append-nil (done_by x.who v))

    go : (o : Option ℕ) → AreLateFrom x.who o v
        → IsLate x.who (or_this o (count_done x.full)) w
    go None late = record {
      early = w.seen;
      begins = ([], append-nil w.seen);
      asked = asked;
      few = (let count = m.count in let long = same in omega arith);
    }
    go (Some k) late = late_kept (λ r. []) v w x.who k stays late

-- a line that is kept
pub kept_marks : (x y : Requester) (v w : View) → y.who ≡ x.who → y.full ≡ x.full → Stays v w
    → IsMarked x v → IsMarked y w
kept_marks x y v w who full stays m =
    let on = others_marked (λ r. []) v w x stays refl m in record {
      count = ap (λ n. length (done_by n w)) who
          ∙ (on.count ∙ sym (ap (λ fs. count_done fs) full));
      late = subst (λ n. AreLateFrom n (before_full y.full) w) (sym who)
          (subst (λ fs. AreLateFrom x.who (before_full fs) w) (sym full) on.late);
    }

-- ---- the first line

pub fresh_marks : (x : Requester) (v : View) → x.full ≡ [] → done_by x.who v ≡ [] → IsMarked x v
fresh_marks x v fresh none = record {
  count = ap (λ (es : List Event). length es) none ∙ sym (ap (λ fs. count_done fs) fresh);
  late = subst (λ fs. AreLateFrom x.who (before_full fs) v) (sym fresh) tt;
}

-- ---- passes that are joined

no_front : (xs ys : List Event) → xs ++ ys ≡ [] → xs ≡ []
no_front [] ys none = refl
no_front (x ∷ xs) ys none = absurd cc

none_early : (r : ℕ) (mine : List ℕ) (early seen : List JournalEntry) → IsPrefix early seen
    → done_from r mine 0 seen ≡ [] → done_from r mine 0 early ≡ []
none_early r mine early seen p none =
    no_front (done_from r mine 0 early) (done_from r mine (0 + length early) p.0)
    (sym (append_from r mine 0 early p.0)
    ∙ (ap (λ es. done_from r mine 0 es) p.1 ∙ none))

late_joined : (v u w : View) (r : ℕ) (o : Option ℕ) (from : View) → IsPrefix from.seen w.seen
    → w.first ≡ from.first
    → ((early : List JournalEntry) → IsPrefix early w.seen
    → done_from r w.mine 0 early ≡ done_from r from.mine 0 early)
    → AreLateFrom r o from → AreLateFrom r o w
late_joined v u w r None from seen first same l = tt
late_joined v u w r (Some k) from seen first same l =
    let begins = longer_both l.early from.seen w.seen l.begins seen in record {
      early = l.early;
      begins = begins;
      asked = λ x is s stands. l.asked x (sym first ∙ is) s stands;
      few = (let is = ap (λ (es : List Event). length es) (same l.early begins) in
          let few = l.few in omega arith);
    }

-- a requester of the first pass
pub first_marked : (v u w : View) (x : Requester) → IsJoined v u w → IsWithin v → IsWithin u
    → done_by x.who u ≡ [] → IsMarked x v → IsMarked x w
first_marked v u w x j one two none m = record {
  count = ap (λ (es : List Event). length es) (joined_first v u w x.who j one two none) ∙ m.count;
  late = late_joined v u w x.who (before_full x.full) v j.this j.first
      (λ early begins. ap (λ ms. done_from x.who ms 0 early) j.mine
      ∙ joined_from x.who v.mine u.mine 0 early
      (none_early x.who u.mine early w.seen begins
      (longer_same x.who u.mine u.seen w.seen j.that two ∙ none)))
      m.late;
}

-- a requester of the second pass
pub second_marked : (v u w : View) (x : Requester) → IsJoined v u w → IsWithin v → IsWithin u
    → u.first ≡ v.first → done_by x.who v ≡ [] → IsMarked x u → IsMarked x w
second_marked v u w x j one two first none m = record {
  count = ap (λ (es : List Event). length es) (joined_second v u w x.who j one two none)
      ∙ m.count;
  late = late_joined v u w x.who (before_full x.full) u j.that (j.first ∙ sym first)
      (λ early begins. ap (λ ms. done_from x.who ms 0 early) j.mine
      ∙ later_from x.who v.mine u.mine 0 early
      (none_early x.who v.mine early w.seen begins
      (longer_same x.who v.mine v.seen w.seen j.this one ∙ none)))
      m.late;
}

-- ---- the end

valid_front : (xs ys : List Event) → runs.AreValid (xs ++ ys) → runs.AreValid xs
valid_front [] ys valid = tt
valid_front (x ∷ xs) ys valid = (valid.0, valid_front xs ys valid.1)

legal_front : (s t : State) (xs ys : List JournalEntry) → IsLegal s (xs ++ ys) t
    → IsLegal s xs (after s (events_of xs))
legal_front s t [] ys legal = refl
legal_front s t (x ∷ xs) ys legal =
    (legal.0, legal_front (step s x.event).state t xs ys legal.1)

pub late_closed : (w : View) (system x : System) (journal : List JournalEntry) (r k : ℕ)
    → Closes w system journal → w.first ≡ Some x → Stands x first_state
    → runs.AreValid (events_of journal)
    → IsLegal first_state journal (after first_state (events_of journal)) → IsLate r k w
    → AreLate r k journal
late_closed w system x journal r k closes began stands valid legal l =
    let begins = longer_both l.early w.seen journal l.begins closes.seen in
    let long = longer_length l.early journal begins in record {
      early = l.early;
      begins = begins;
      enough = (let asked = l.asked x began first_state stands in
          let is = ap (λ (ns : List ℕ). length ns)
          (requests_are l.early (after first_state (events_of l.early))
          (valid_front (events_of l.early) (events_of begins.0)
          (subst runs.AreValid (ap (λ es. events_of es) (sym begins.1)
          ∙ events_both l.early begins.0) valid))
          (legal_front first_state (after first_state (events_of journal)) l.early begins.0
          (subst (λ es. IsLegal first_state es (after first_state (events_of journal)))
          (sym begins.1) legal))) in omega arith);
      few = (let is = ap (λ (es : List Event). length es)
          (all_from r w.mine 0 l.early (length l.early) (omega arith) (λ m low.
          (let once = once_low m (length journal) (omega arith) in
          let at = closes.places m in
          some_stands m w.mine (omega arith)))) in
          let few = l.few in omega arith);
    }
