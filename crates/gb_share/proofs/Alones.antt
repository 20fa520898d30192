-- What a requester runs alone.
use Rattle.std.proofs.Common.{◌≡◌, ◌⊎◌, ℕ, suc, ◌+◌, ◌<◌, ◌≤◌, inl, inr, ⊎_elim, Bool, true, false}
use Rattle.std.proofs.Common.{Some, List, [], ◌∷◌, ◌++◌, length, refl, sym, ap, ◌∙◌, subst, arith}
use Rattle.std.proofs.lemmas.List.{append-nil, length-append}
use Rattle.std.specs.List.{slice_get}
use Rattle.std.specs.Prelude.{◌&&◌}
use mathlib.Core.List.{IsPrefix}
use Rattle.gb_base.specs.declared.entry.Entry.{Entry}
use Rattle.gb_base.specs.declared.event.Event.{Event}
use Rattle.gb_base.specs.declared.journal.JournalEntry.{JournalEntry}
use Rattle.gb_base.specs.declared.parts.Asked.{Asked}
use Rattle.gb_desk.specs.Calls.{AreTaken, Entered, SawFull}
use Rattle.gb_desk.specs.Slots.{requests_in}
use Rattle.gb_desk.specs.Tickets.{HasTicket}
use Rattle.gb_desk.specs.Turns.{entry_of}
use Rattle.gb_desk.specs.declared.view.View.{View}
use Rattle.gb_formats.specs.Orders.{Merged}
use Rattle.gb_machine.specs.AskingEvents.{asks}
use Rattle.gb_machine.specs.Events.{step}
use Rattle.gb_machine.specs.Journal.{IsLegal, after, events_of}
use Rattle.gb_machine.specs.Runs as runs
use Rattle.gb_machine.specs.Shared.{done_in, has_no_room, requests_from, state_after}
use Rattle.gb_machine.specs.State.{State, first_state}
use Rattle.gb_share.proofs.Following.{legal_parts}
use Rattle.gb_share.proofs.Places.{new_place}
use Rattle.gb_share.proofs.Requests.{first_reached, requests_are, requests_once}
use Rattle.gb_share.proofs.Rooms.{none_taken, taken_none}
use Rattle.gb_share.specs.Alone.{HasAll, HasRunAlone, IsAlone}
use Rattle.gb_share.specs.Fulls.{AreExact}
use Rattle.gb_share.specs.Doing.{IsWithin, stands_in}
use Rattle.gb_share.specs.Lines.{AreValid}
use Rattle.gb_share.specs.Names.{AreNames, Follows}
use Rattle.gb_share.specs.Placing.{marked}
use Rattle.gb_share.specs.Tickets.{AreHeld}
use Rattle.gb_share.specs.declared.hand.Held.{Held}
use Rattle.gb_share.specs.declared.requester.Requester.{Requester}
use Rattle.gb_system.specs.Stands.{Stands}
use Rattle.gb_system.specs.declared.system.System.{System}

-- ---- one line more

-- without marks there are no marked lines
pub marked_fresh : (ls : List Asked) → marked ls [] ≡ []
marked_fresh [] = refl
marked_fresh (x ∷ xs) = refl

pub marked_more : (ls : List Asked) (fs : List Bool) (l : Asked) (f : Bool)
    → slice_get ls (length fs) ≡ Some l
    → marked ls (fs ++ f ∷ []) ≡ marked ls fs ++ (l, f) ∷ []
marked_more [] fs l f at = absurd cc
marked_more (x ∷ xs) [] l f at =
    let same : x ≡ l = cc in
    ap (λ ms. (x, f) ∷ ms) (marked_fresh xs) ∙ ap (λ (a : Asked). (a, f) ∷ []) same
marked_more (x ∷ xs) (g ∷ gs) l f at = ap (λ ms. (x, g) ∷ ms) (marked_more xs gs l f at)

done_more : (ms : List Merged) (l : Asked)
    → done_in (ms ++ (l, false) ∷ []) ≡ done_in ms ++ l.event ∷ []
done_more [] l = refl
done_more ((a, true) ∷ ms) l = done_more ms l
done_more ((a, false) ∷ ms) l = ap (λ es. a.event ∷ es) (done_more ms l)

full_more : (ms : List Merged) (l : Asked) → done_in (ms ++ (l, true) ∷ []) ≡ done_in ms
full_more [] l = refl
full_more ((a, true) ∷ ms) l = full_more ms l
full_more ((a, false) ∷ ms) l = ap (λ es. a.event ∷ es) (full_more ms l)

after_one : (s : State) (es : List Event) (e : Event)
    → after s (es ++ e ∷ []) ≡ (step (after s es) e).state
after_one s [] e = refl
after_one s (x ∷ es) e = after_one (step s x).state es e

events_more : (es : List JournalEntry) (e : JournalEntry)
    → events_of (es ++ e ∷ []) ≡ events_of es ++ e.event ∷ []
events_more [] e = refl
events_more (x ∷ es) e = ap (λ xs. x.event ∷ xs) (events_more es e)

-- the events of valid lines are valid
valid_done : (ls : List Asked) (fs : List Bool) → AreValid ls
    → runs.AreValid (done_in (marked ls fs))
valid_done [] fs valid = tt
valid_done (x ∷ xs) [] valid = tt
valid_done (x ∷ xs) (true ∷ fs) valid = valid_done xs fs (λ n l at. valid (suc n) l at)
valid_done (x ∷ xs) (false ∷ fs) valid =
    (valid 0 x refl, valid_done xs fs (λ n l at. valid (suc n) l at))

-- ---- a list with a member at its end

head_is : {A : Type 0} (x y : A) (xs ys : List A) → x ∷ xs ≡ y ∷ ys → x ≡ y
head_is x y xs ys same = cc

tail_is : {A : Type 0} (x y : A) (xs ys : List A) → x ∷ xs ≡ y ∷ ys → xs ≡ ys
tail_is x y xs ys same = cc

-- a member of it stands in front of the last, or is the last
parted_more : (ms front back : List Merged) (x y : Merged) → ms ++ x ∷ [] ≡ front ++ y ∷ back
    → ((behind : List Merged) × (ms ≡ front ++ y ∷ behind)) ⊎ ((ms ≡ front) × (x ≡ y))
parted_more [] [] back x y same = inr (refl, head_is x y [] back same)
parted_more [] (z ∷ []) back x y same = absurd (let no = tail_is x z [] (y ∷ back) same in cc)
parted_more [] (z ∷ w ∷ zs) back x y same =
    absurd (let no = tail_is x z [] (w ∷ zs ++ y ∷ back) same in cc)
parted_more (m ∷ ms) [] back x y same =
    inl (ms, ap (λ z. z ∷ ms) (head_is m y (ms ++ x ∷ []) back same))
parted_more (m ∷ ms) (z ∷ zs) back x y same =
    let first = head_is m z (ms ++ x ∷ []) (zs ++ y ∷ back) same in
    ⊎_elim
    (λ (early : (behind : List Merged) × (ms ≡ zs ++ y ∷ behind)).
    inl (early.0, ap (λ l. m ∷ l) early.1 ∙ ap (λ h. h ∷ zs ++ y ∷ early.0) first))
    (λ (last : (ms ≡ zs) × (x ≡ y)).
    inr (ap (λ l. m ∷ l) last.0 ∙ ap (λ h. h ∷ zs) first, last.1))
    (parted_more ms zs back x y (tail_is m z (ms ++ x ∷ []) (zs ++ y ∷ back) same))

-- lines are exact with one more that is
exact_more : (ms : List Merged) (l : Asked) (f : Bool) → AreExact ms
    → f ≡ (asks l.event && has_no_room ms) → AreExact (ms ++ (l, f) ∷ [])
exact_more ms l f exact is front back a full same =
    ⊎_elim
    (λ (early : (behind : List Merged) × (ms ≡ front ++ (a, full) ∷ behind)).
    exact front early.0 a full early.1)
    (λ (last : (ms ≡ front) × ((l, f) ≡ (a, full))).
    sym (ap (λ (m : Merged). m.1) last.1) ∙ is
    ∙ ap (λ (m : Merged). asks m.0.event && has_no_room ms) last.1
    ∙ ap (λ xs. asks a.event && has_no_room xs) last.0)
    (parted_more ms front back (l, f) (a, full) same)

-- ---- a history that is a pass's own

-- what goes on from what was seen without a gap is what was seen
no_gap : (v : View) (before : List JournalEntry) → IsWithin v → IsPrefix v.seen before
    → ((n : ℕ) → n < length before → stands_in n v.mine ≡ true) → before ≡ v.seen
no_gap v before within p all = sym p.1 ∙ by p.0 (ap (λ (es : List JournalEntry). length es) p.1)
  where
    by : (rest : List JournalEntry) → length (v.seen ++ rest) ≡ length before
        → v.seen ++ rest ≡ v.seen
    by [] long = append-nil v.seen
    by (r ∷ rs) long =
        let low : length v.seen < length before =
        omega (arith, length-append v.seen (r ∷ rs)) in
        let here = all (length v.seen) low in
        let none = within (length v.seen) (omega arith) in absurd (cc (here, none))

-- before its last event
entered_all : (v : View) (by : ℕ) (e : Event) (entries : List Entry) (w : View)
    (d : Entered v by e entries w) → HasAll w → (n : ℕ) → n < length d.before
    → stands_in n v.mine ≡ true
entered_all v by e entries w d all n low =
    let long = ap (λ (es : List JournalEntry). length es) d.seen in
    sym (new_place n v.mine (length d.before) (λ at. omega arith))
    ∙ (sym (ap (λ ms. stands_in n ms) d.mine)
    ∙ all n (omega (arith, length-append d.before (entry_of by e entries ∷ []))))

entered_before : (v : View) (by : ℕ) (e : Event) (entries : List Entry) (w : View)
    (d : Entered v by e entries w) → IsWithin v → HasAll w → d.before ≡ v.seen
entered_before v by e entries w d within all =
    no_gap v d.before within d.begins (entered_all v by e entries w d all)

-- ---- room

-- the requests of a history that is lines that were run
made_are : (h : List JournalEntry) (ms : List Merged) → events_of h ≡ done_in ms
    → runs.AreValid (done_in ms) → IsLegal first_state h (after first_state (events_of h))
    → requests_in h ≡ requests_from first_state (done_in ms)
made_are h ms is valid legal =
    requests_are h (after first_state (events_of h)) (subst runs.AreValid (sym is) valid) legal
    ∙ ap (λ es. requests_from first_state es) is

-- a line that was done and asks found room
done_exact : (ms : List Merged) (l : Asked) (h : List JournalEntry) (v : View) (hs : List Held)
    → events_of h ≡ done_in ms → runs.AreValid (done_in ms)
    → IsLegal first_state h (after first_state (events_of h))
    → AreNames (state_after ms) hs → AreHeld hs v.tickets
    → (asks l.event ≡ true → AreTaken (after first_state (events_of h)) h (HasTicket v.tickets) → ⊥)
    → false ≡ (asks l.event && has_no_room ms)
done_exact ms l h v hs is valid legal names held free = by (asks l.event) refl (has_no_room ms) refl
  where
    by : (b : Bool) → asks l.event ≡ b → (c : Bool) → has_no_room ms ≡ c → false ≡ (b && c)
    by true asking true full =
        absurd (free asking (subst (λ es. AreTaken (after first_state es) h (HasTicket v.tickets))
        (sym is)
        (none_taken (state_after ms) h (requests_from first_state (done_in ms)) hs v.tickets
        (made_are h ms is valid legal)
        (requests_once first_state (done_in ms) first_reached valid) names held full)))
    by true asking false full = refl
    by false asking c full = refl

-- one that is full found none
full_exact : (ms : List Merged) (l : Asked) (h : List JournalEntry) (v w : View) (hs : List Held)
    → events_of h ≡ done_in ms → runs.AreValid (done_in ms)
    → IsLegal first_state h (after first_state (events_of h))
    → AreNames (state_after ms) hs → AreHeld hs v.tickets → asks l.event ≡ true
    → (so : ℕ → Type 0) → ((n : ℕ) → so n → HasTicket v.tickets n)
    → AreTaken (after first_state (events_of h)) h so
    → true ≡ (asks l.event && has_no_room ms)
full_exact ms l h v w hs is valid legal names held asking so has taken =
    sym (ap (λ b. b && has_no_room ms) asking
    ∙ taken_none (state_after ms) h (requests_from first_state (done_in ms)) hs v.tickets so
    (made_are h ms is valid legal) names held has
    (subst (λ es. AreTaken (after first_state es) h so) is taken))

-- ---- a line that was run

-- a requester that ran one line more
pub record IsNoted (x y : Requester) (l : Asked) (f : Bool) : Type 0 where
  pub line : slice_get x.lines (length x.full) ≡ Some l
  pub within : length x.full < length x.lines
  pub short : length x.lines < 4294967295
  pub lines : y.lines ≡ x.lines
  pub full : y.full ≡ x.full ++ f ∷ []
  pub valid : AreValid x.lines

-- the marked lines then
noted_lines : (x y : Requester) (l : Asked) (f : Bool) → IsNoted x y l f
    → marked y.lines y.full ≡ marked x.lines x.full ++ (l, f) ∷ []
noted_lines x y l f n =
    ap (λ ls. marked ls y.full) n.lines
    ∙ (ap (λ fs. marked x.lines fs) n.full ∙ marked_more x.lines x.full l f n.line)

noted_long : (x y : Requester) (l : Asked) (f : Bool) → IsNoted x y l f
    → length y.full ≡ length x.full + 1
noted_long x y l f n =
    ap (λ (fs : List Bool). length fs) n.full ∙ length-append x.full (f ∷ [])

-- what was run alone, as a list of lines
pub run_as : (x : Requester) (v : View) (hs : List Held) (ms : List Merged)
    → marked x.lines x.full ≡ ms → events_of v.seen ≡ done_in ms → AreNames (state_after ms) hs
    → AreExact ms → HasRunAlone x v hs
run_as x v hs ms is seen names exact = record {
  seen = seen ∙ ap (λ ns. done_in ns) (sym is);
  names = subst (λ ns. AreNames (state_after ns) hs) (sym is) names;
  exact = subst AreExact (sym is) exact;
}

-- a line that was done
module _ (x y : Requester) (l : Asked) (by : ℕ) (entries : List Entry) (v w : View)
    (hs ks : List Held) (n : IsNoted x y l false) (within : IsWithin v)
    (held : AreHeld hs v.tickets) (f : Follows v hs by l.event entries w ks)
    (a : IsAlone x v hs) where
  ms : List Merged
  ms = marked x.lines x.full

  done_ran : (z : System) → w.first ≡ Some z → Stands z first_state → HasAll w
      → HasRunAlone y w ks
  unfolding ms
  done_ran z first stands all =
      let before = entered_before v by l.event entries w f.entered within all in
      let own : HasAll v = λ k low. entered_all v by l.event entries w f.entered all k
      (subst (λ (es : List JournalEntry). k < length es) (sym before) low) in
      let old = a.ran z (sym (ap (λ (u : View). u.first) f.entered.rest) ∙ first) stands own in
      let is : events_of f.entered.before ≡ done_in ms = ap events_of before ∙ old.seen in
      let legal = (legal_parts first_state
      (after first_state (events_of (f.entered.before ++ entry_of by l.event entries ∷ [])))
      f.entered.before (entry_of by l.event entries)
      (subst (λ j. IsLegal first_state j (after first_state (events_of j))) f.entered.seen
      (f.entered.legal z first first_state stands))).0 in
      let valid = valid_done x.lines x.full n.valid in
      let low = a.few in
      let short = n.short in
      let inside = n.within in
      let parts = a.parts in
      let room : length v.tickets < v.parts = omega arith in
      let names = f.names room z first first_state stands
      (subst (λ es. AreNames (after first_state es) hs) (sym is) old.names) in
      run_as y w ks (ms ++ (l, false) ∷ []) (noted_lines x y l false n)
      (ap events_of f.entered.seen
      ∙ (events_more f.entered.before (entry_of by l.event entries)
      ∙ (ap (λ es. es ++ l.event ∷ []) is ∙ sym (done_more ms l))))
      (subst (λ t. AreNames t ks)
      (ap (λ es. (step (after first_state es) l.event).state) is
      ∙ (sym (after_one first_state (done_in ms) l.event)
      ∙ ap (λ es. after first_state es) (sym (done_more ms l))))
      names)
      (exact_more ms l false old.exact
      (done_exact ms l f.entered.before v hs is valid legal old.names held
      (λ asking. f.free asking a.parts z first first_state stands)))

  pub alone_done : length w.tickets ≤ length v.tickets + 1 → IsAlone y w ks
  alone_done few = record {
    parts = ap (λ (u : View). u.parts) f.entered.rest ∙ a.parts;
    few = (let low = a.few in let long = noted_long x y l false n in omega arith);
    ran = done_ran;
  }

-- a line that is full
module _ (x y : Requester) (l : Asked) (v w : View) (hs ks : List Held)
    (n : IsNoted x y l true) (within : IsWithin v) (held : AreHeld hs v.tickets)
    (asking : asks l.event ≡ true) (f : SawFull v w) (same : ks ≡ hs) (a : IsAlone x v hs) where
  mine_same : w.mine ≡ v.mine
  mine_same = ap (λ (u : View). u.mine) f.rest

  full_ran : (z : System) → w.first ≡ Some z → Stands z first_state → HasAll w
      → HasRunAlone y w ks
  full_ran z first stands all =
      let now = marked x.lines x.full in
      let seen = no_gap v w.seen within f.seen (λ k low.
      sym (ap (λ ms. stands_in k ms) mine_same) ∙ all k low) in
      let own : HasAll v = λ k low. sym (ap (λ ms. stands_in k ms) mine_same)
      ∙ all k (subst (λ (es : List JournalEntry). k < length es) (sym seen) low) in
      let old = a.ran z (sym (ap (λ (u : View). u.first) f.rest) ∙ first) stands own in
      let is : events_of w.seen ≡ done_in now = ap events_of seen ∙ old.seen in
      let valid = valid_done x.lines x.full n.valid in
      run_as y w ks (now ++ (l, true) ∷ []) (noted_lines x y l true n)
      (is ∙ sym (full_more now l))
      (subst (λ t. AreNames t ks) (ap (λ es. after first_state es) (sym (full_more now l)))
      (subst (AreNames (state_after now)) (sym same) old.names))
      (exact_more now l true old.exact
      (full_exact now l w.seen v w hs is valid (f.legal z first first_state stands) old.names held
      asking _ (f.own a.parts) (f.full z first first_state stands)))

  pub alone_full : length w.tickets ≤ length v.tickets → IsAlone y w ks
  alone_full few = record {
    parts = ap (λ (u : View). u.parts) f.rest ∙ a.parts;
    few = (let low = a.few in let long = noted_long x y l true n in omega arith);
    ran = full_ran;
  }
