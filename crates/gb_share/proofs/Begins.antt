-- What a run with requesters leaves, before its lines are put into an order.
use Rattle.std.proofs.Common.{◌≡◌, ℕ, zero, suc, ◌+◌, ◌<◌, ◌≤◌, Bool, true, false, Option, Some}
use Rattle.std.proofs.Common.{None, List, [], ◌∷◌, ◌++◌, length, refl, sym, ap, ◌∙◌, arith, subst}
use Rattle.std.proofs.Common.{drop, replicate, take}
use Rattle.std.proofs.lemmas.Bool.Decides.{nat_tests}
use Rattle.std.proofs.lemmas.List.{append-nil, drop_all, take_all}
use Rattle.std.specs.List.{filter, slice_get}
use Rattle.std.specs.Prelude.{◌==◌, if◌then◌else◌, map}
use Rattle.std.specs.String.{string_bytes}
use Rattle.gb_base.specs.declared.event.Event.{Event}
use Rattle.gb_base.specs.declared.journal.JournalEntry.{JournalEntry}
use Rattle.gb_base.specs.declared.parts.Asked.{Asked}
use Rattle.gb_formats.specs.Orders.{AreOpening, Merged, is_by}
use Rattle.gb_machine.specs.Journal.{IsLegal, events_of}
use Rattle.gb_machine.specs.Shared.{done_in}
use Rattle.gb_machine.specs.State.{State, first_state}
use Rattle.gb_share.specs.Doing.{events_by}
use Rattle.gb_share.specs.Fulls.{AreExact, ComeLate, DoAsk}
use Rattle.gb_share.specs.Lines.{before_full, ran}
use Rattle.gb_share.specs.Parting.{AreRequesters}
use Rattle.gb_share.specs.Picks.{lines_by}
use Rattle.gb_share.specs.Placing.{ArePlaced, Begins, left, left_by, marked}
use Rattle.gb_share.specs.Requesters.{AreSame, AreWhole, ran_by, ran_of}
use Rattle.gb_share.specs.Shares.{AreLate, IsRunOf}
use Rattle.gb_share.specs.declared.merging.Merging.{Merging}
use Rattle.gb_share.specs.declared.requester.Requester.{Requester}
use Rattle.gb_share.proofs.Early.{asks_all, comes_late, full_at, most_longer}
use Rattle.gb_share.proofs.Queues.{marked_lines}
use Rattle.gb_share.proofs.Rests.{same_get, same_length}
use Rattle.gb_share.proofs.Teams.{get_low}

-- ---- requesters that are the same

-- the requesters of a script, each at its place
pub record IsOwn (asked : List Asked) (y : Requester) (n : ℕ) : Type 0 where
  pub who : y.who ≡ n
  pub lines : y.lines ≡ lines_by n asked

pub own : (asked : List Asked) (xs ys : List Requester) → AreRequesters asked xs → AreSame xs ys
    → (n : ℕ) (y : Requester) → slice_get ys n ≡ Some y → IsOwn asked y n
own asked xs ys are same n y at =
    let from = same_get xs ys same n y at in
    let first = are.first n from.0 from.1 in record {
      who = ap (λ p. p.0) from.2 ∙ first.0;
      lines = ap (λ p. p.1) from.2 ∙ first.1;
    }

-- ---- what they have run, by tag

low_none : (zs : List Requester) (k : ℕ)
    → ((n : ℕ) (z : Requester) → slice_get zs n ≡ Some z → z.who ≡ k + n) → (r : ℕ) → r < k
    → ran_by zs r ≡ []
low_none [] k own r low = refl
low_none (z ∷ zs) k own r low =
    let whose = own zero z refl in
    let apart : (z.who == r) ≡ false = grind (arith, nat_tests) in
    ap (λ b. (if b then ran_of z else []) ++ ran_by zs r) apart
    ∙ low_none zs (suc k) (λ n y at. own (suc n) y at ∙ omega arith) r (omega arith)

-- what a requester has run that may not be there
abbrev ran_some : Option Requester → List Event
ran_some None = []
ran_some (Some z) = ran_of z

ran_at : (zs : List Requester) (k : ℕ)
    → ((n : ℕ) (z : Requester) → slice_get zs n ≡ Some z → z.who ≡ k + n) → (n : ℕ)
    → ran_by zs (k + n) ≡ ran_some (slice_get zs n)
ran_at [] k own n = refl
ran_at (z ∷ zs) k own zero =
    let whose = own zero z refl in
    let mine : (z.who == k + 0) ≡ true = grind (arith, nat_tests) in
    ap (λ b. (if b then ran_of z else []) ++ ran_by zs (k + 0)) mine
    ∙ (ap (λ l. ran_of z ++ l)
    (low_none zs (suc k) (λ n y at. own (suc n) y at ∙ omega arith) (k + 0) (omega arith))
    ∙ append-nil (ran_of z))
ran_at (z ∷ zs) k own (suc n) =
    let whose = own zero z refl in
    let apart : (z.who == k + suc n) ≡ false = grind (arith, nat_tests) in
    let next : k + suc n ≡ suc k + n = omega arith in
    ap (λ b. (if b then ran_of z else []) ++ ran_by zs (k + suc n)) apart
    ∙ (ap (λ m. ran_by zs m) next
    ∙ ran_at zs (suc k) (λ m y at. own (suc m) y at ∙ omega arith) n)

ran_marked : (ls : List Asked) (fs : List Bool) → done_in (marked ls fs) ≡ ran ls fs
ran_marked [] fs = refl
ran_marked (x ∷ xs) [] = refl
ran_marked (x ∷ xs) (true ∷ fs) = ran_marked xs fs
ran_marked (x ∷ xs) (false ∷ fs) = ap (λ l. x.event ∷ l) (ran_marked xs fs)

-- ---- what is left in front of all

zeros_get : (k n : ℕ) → n < k → slice_get {X = ℕ} (replicate k 0) n ≡ Some 0
zeros_get zero n low = absurd (omega arith)
zeros_get (suc k) zero low = refl
zeros_get (suc k) (suc n) low = zeros_get k n (omega arith)

get_high : {A : Type 0} (xs : List A) (n : ℕ) → slice_get xs n ≡ None → length xs ≤ n
get_high [] n at = omega arith
get_high (y ∷ ys) zero at = absurd cc
get_high (y ∷ ys) (suc n) at = let high = get_high ys n at in omega arith

-- the lines of a requester that may not be there
abbrev whole_of : Option Requester → List Merged
whole_of None = []
whole_of (Some z) = marked z.lines z.full

left_all : (x : Merging) (ys : List Requester) → x.all.items ≡ ys
    → x.at.items ≡ replicate (length ys) 0 → (r : ℕ) → left x r ≡ whole_of (slice_get ys r)
left_all x ys all at r =
    ap (λ (zs : List Requester). left_by (slice_get zs r) (slice_get x.at.items r)) all
    ∙ (ap (λ (ns : List ℕ). left_by (slice_get ys r) (slice_get ns r)) at
    ∙ go (slice_get ys r) refl)
  where
    go : (o : Option Requester) → slice_get ys r ≡ o
        → left_by o (slice_get (replicate (length ys) 0) r) ≡ whole_of o
    go None is = refl
    go (Some z) is =
        ap (λ k. left_by (Some z) k) (zeros_get (length ys) r (get_low ys r z is))

-- an empty list has no member
none_at : {A : Type 0} (front back : List A) (x : A) → [] ≡ front ++ x ∷ back → ⊥
none_at [] back x is = absurd cc
none_at (y ∷ ys) back x is = absurd cc

-- where a requester has a full line, its later events come late
abbrev pub ComeLateBehind : List Requester → List JournalEntry → Type 0
ComeLateBehind ys journal = (n : ℕ) (y : Requester) (k : ℕ) → slice_get ys n ≡ Some y
    → before_full y.full ≡ Some k → AreLate y.who k journal

-- each requester's facts
record IsFresh (asked : List Asked) (journal : List JournalEntry) (r : ℕ) (ms : List Merged)
    : Type 0 where
  each : filter (is_by r) asked ≡ map (λ (m : Merged). m.0) ms
  ran : done_in ms ≡ events_by r journal
  may : DoAsk (events_of journal) ms
  ahead : (front back : List Merged) (a : Asked) → ms ≡ front ++ (a, true) ∷ back
      → ComeLate r (length (done_in front)) [] journal

fresh : (asked : List Asked) (xs ys : List Requester) (journal : List JournalEntry)
    → AreRequesters asked xs → AreSame xs ys → AreWhole ys → IsRunOf ys journal
    → ComeLateBehind ys journal → (r : ℕ) → IsFresh asked journal r (whole_of (slice_get ys r))
fresh asked xs ys journal are same whole run late r = go (slice_get ys r) refl
  where
    zero_first : r ≡ 0 + r
    zero_first = omega arith

    done : events_by r journal ≡ ran_some (slice_get ys r)
    done = run.each r ∙ (ap (λ k. ran_by ys k) zero_first ∙ ran_at ys 0 (λ n y at.
        (let whose = (own asked xs ys are same n y at).who in omega arith)) r)

    go : (o : Option Requester) → slice_get ys r ≡ o → IsFresh asked journal r (whole_of o)
    go None is = record {
      each = are.none r (let high = get_high ys r is in
          let long = same_length xs ys same in omega arith);
      ran = sym (done ∙ ap ran_some is);
      may = tt;
      ahead = λ front back a at. absurd (none_at front back (a, true) at);
    }
    go (Some y) is =
        let mine = own asked xs ys are same r y is in record {
          each = sym mine.lines ∙ sym (marked_lines y.lines y.full (whole r y is));
          ran = ran_marked y.lines y.full ∙ sym (done ∙ ap ran_some is);
          may = asks_all (events_of journal) y.lines y.full y.asking
              (λ k at. (let l = late r y k is at in most_longer l.early journal l.begins l.enough));
          ahead = λ front back a at.
              (let b = full_at y.lines y.full front back a at in
              let l = late r y b.count is b.is in
              subst (λ n. ComeLate n (length (done_in front)) [] journal) mine.who
              (comes_late y.who b.count (length (done_in front)) l.early journal l.begins l.enough
              l.few b.less));
        }

pub begins : (asked : List Asked) (xs ys : List Requester) (journal : List JournalEntry)
    (last : State) (x : Merging) → AreRequesters asked xs → AreSame xs ys → AreWhole ys
    → IsRunOf ys journal → ComeLateBehind ys journal
    → ((y : Requester) → slice_get ys 0 ≡ Some y → AreExact (marked y.lines y.full))
    → IsLegal first_state journal last → x.all.items ≡ ys
    → x.at.items ≡ replicate (length ys) 0 → x.order.items ≡ [] → string_bytes x.text ≡ []
    → Begins asked x journal last
begins asked xs ys journal last x are same whole run late exact legal all at order text = record {
  stands = subst (λ o. ArePlaced asked x.hex o (string_bytes x.text) (left x) journal last)
      (sym order)
      (subst (λ t. ArePlaced asked x.hex [] t (left x) journal last) (sym text) placed_none);
  opens = subst (λ o. AreOpening o) (sym order) tt;
  parted = record {
    opening = run.opening;
    threads = run.threads;
    parts = run.journal_is;
    opens = run.opens;
    follow = run.follow;
  };
  few = λ r high. are.none r (let few = are.few in omega arith);
}
  where
    mine : (r : ℕ) → IsFresh asked journal r (left x r)
    mine r = subst (λ (ms : List Merged). IsFresh asked journal r ms) (sym (left_all x ys all at r))
        (fresh asked xs ys journal are same whole run late r)

    exact_all : (o : Option Requester) → slice_get ys 0 ≡ o → AreExact (whole_of o)
    exact_all None is = λ front back a full at. absurd (none_at front back (a, full) at)
    exact_all (Some y) is = exact y is

    map_length : (ms : List Merged) → length (map (λ (m : Merged). m.0) ms) ≡ length ms
    map_length [] = refl
    map_length (m ∷ ms) = ap suc (map_length ms)

    placed_none : ArePlaced asked x.hex [] [] (left x) journal last
    placed_none = record {
      placed = [];
      rest = asked;
      state = first_state;
      leads = λ more. refl;
      reports = λ more. refl;
      ends = λ more. refl;
      legal = legal;
      each = λ r. (mine r).each;
      ran = λ r. (mine r).ran;
      counts = λ r.
          (let long = ap (λ (l : List Asked). length l) (mine r).each ∙ map_length (left x r) in
          omega (arith, long));
      all = events_of journal;
      all_is = refl;
      asking = tt;
      may = λ r. (mine r).may;
      behind = λ r had. absurd cc;
      ahead = λ r. (mine r).ahead;
      going = λ front back a at had. absurd (none_at front back (a, false) at);
      exact = subst (λ (ms : List Merged). AreExact ms) (sym (left_all x ys all at 0))
          (exact_all (slice_get ys 0) refl);
    }

-- ---- requesters that were lent and came back

pub pasted : {A : Type 0} (n : ℕ) (new old : List A) → n ≡ length old → length new ≡ length old
    → take n (new ++ drop (length new) old) ≡ new
pasted n new old all same =
    ap (λ l. take n (new ++ l)) (drop_all (length new) old (omega arith))
    ∙ (ap (λ l. take n l) (append-nil new) ∙ take_all n new (omega arith))

pub zeros : (ns : List ℕ) (n m : ℕ) → ns ≡ replicate n 0 → n ≡ m → ns ≡ replicate m 0
zeros ns n m is same = is ∙ ap (λ k. replicate k 0) same
