-- How much requesters add to a history, and that it is never used up.
use Rattle.std.proofs.Common.{◌≡◌, ◌⊎◌, ⊎_elim, ℕ, zero, suc, ◌+◌, ◌<◌, ◌≤◌, Bool, Result, Ok}
use Rattle.std.proofs.Common.{Err, Some, List, [], ◌∷◌, ◌++◌, length, refl, sym, ap, ◌∙◌, arith}
use Rattle.std.proofs.Common.{subst}
use Rattle.std.proofs.lemmas.List.{append-nil, length-append}
use Rattle.std.specs.List.{slice_get}
use Rattle.std.specs.Prelude.{slice_set}
use Rattle.gb_base.specs.declared.entry.Entry.{Entry}
use Rattle.gb_base.specs.declared.journal.JournalEntry.{JournalEntry}
use Rattle.gb_desk.specs.Calls.{Closes, first_view}
use Rattle.gb_desk.specs.Rules.{all_parts}
use Rattle.gb_desk.specs.Steps.{goes, stays}
use Rattle.gb_desk.specs.declared.desk_fault.DeskFault.{DeskFault}
use Rattle.gb_desk.specs.declared.desk_fault.DeskFault.TheVariants as fault
use Rattle.gb_desk.specs.declared.ticket.Ticket.{Ticket}
use Rattle.gb_desk.specs.declared.view.View.{View}
use Rattle.gb_share.proofs.Counting.{places_few}
use Rattle.gb_share.proofs.Places.{longer_length}
use Rattle.gb_share.proofs.Teams.{longer_both}
use Rattle.gb_share.specs.Doing.{IsAlike, IsJoined}
use Rattle.gb_share.specs.Requesters.{parts_for}
use Rattle.gb_share.specs.Uses.{Grows, HasMost, IsSpent, Uses, all_left, lines_left, places_for}
use Rattle.gb_share.specs.declared.requester.Requester.{Requester}
use Rattle.gb_system.specs.Stands.{taken_of}
use Rattle.gb_system.specs.declared.system.System.{System}

-- ---- one call

pub grows_none : (v : View) → Grows 0 v v
grows_none v = record {
  seen = ([], append-nil v.seen);
  first = refl;
  few = omega arith;
}

pub grows_same : (v w : View) → w ≡ v → Grows 0 v w
grows_same v w is = subst (λ (u : View). Grows 0 v u) (sym is) (grows_none v)

pub grows_on : (n : ℕ) (u v w : View) → Grows 0 u v → Grows n v w → Grows n u w
grows_on n u v w a b =
    let low = a.few in
    let high = b.few in record {
      seen = longer_both u.seen v.seen w.seen a.seen b.seen;
      first = b.first ∙ a.first;
      few = omega arith;
    }

-- tickets make no difference
pub grows_alike : (n : ℕ) (u v w : View) → Grows n u v → IsAlike v w → Grows n u w
grows_alike n u v w a is =
    subst (λ (x : View). Grows n u x) (sym is) (record {
      seen = a.seen;
      first = a.first;
      few = a.few;
    })

pub busy_grows : (u v w : View) (answer : Result (List Entry) DeskFault)
    → answer ≡ Err fault.Busy → Grows 0 u v → Grows (places_for answer) v w → Grows 0 u w
busy_grows u v w answer is a b =
    grows_on 0 u v w a
    (subst (λ (r : Result (List Entry) DeskFault). Grows (places_for r) v w) is b)

places_one : (answer : Result (List Entry) DeskFault) → places_for answer ≤ 1
places_one (Ok entries) = omega arith
places_one (Err why) = omega arith

-- ---- the lines of a requester

pub uses_none : (n : ℕ) (v : View) → Uses n n v v
uses_none n v = record {
  seen = ([], append-nil v.seen);
  first = refl;
  places = omega arith;
  tickets = omega arith;
}

-- nothing is run
pub uses_idle : (n : ℕ) (v : View) → Uses n 0 v v
uses_idle n v = record {
  seen = ([], append-nil v.seen);
  first = refl;
  places = omega arith;
  tickets = omega arith;
}

-- one after the other
pub uses_more : (n m k : ℕ) (u v w : View) → Uses n m u v → Uses m k v w → Uses n k u w
uses_more n m k u v w a b =
    let places_low = a.places in
    let places_high = b.places in
    let tickets_low = a.tickets in
    let tickets_high = b.tickets in record {
      seen = longer_both u.seen v.seen w.seen a.seen b.seen;
      first = b.first ∙ a.first;
      places = omega arith;
      tickets = omega arith;
    }

-- the lines of some, and then of others
pub uses_both : (n m j : ℕ) (u v w : View) → Uses n m u v → Uses j 0 v w → Uses (n + j) 0 u w
uses_both n m j u v w a b =
    let places_low = a.places in
    let places_high = b.places in
    let tickets_low = a.tickets in
    let tickets_high = b.tickets in record {
      seen = longer_both u.seen v.seen w.seen a.seen b.seen;
      first = b.first ∙ a.first;
      places = omega arith;
      tickets = omega arith;
    }

-- less is said
pub uses_less : (n m j k : ℕ) (v w : View) → n ≤ m → k ≤ j → Uses n j v w → Uses m k v w
uses_less n m j k v w more fewer a =
    let places_low = a.places in
    let tickets_low = a.tickets in record {
      seen = a.seen;
      first = a.first;
      places = omega arith;
      tickets = omega arith;
    }

-- the next line is tried
pub next_uses : (x : Requester) (answer : Result (List Entry) DeskFault) (v w : View)
    → length x.full < length x.lines → Grows (places_for answer) v w
    → length w.tickets ≤ length v.tickets + 1 → Uses (lines_left x) 0 v w
next_uses x answer v w left g few =
    let one = places_one answer in
    let places = g.few in record {
      seen = g.seen;
      first = g.first;
      places = omega arith;
      tickets = omega arith;
    }

-- it was run
pub ran_uses : (x y : Requester) (m : Bool) (answer : Result (List Entry) DeskFault)
    (v w : View) → length x.full < length x.lines → y.lines ≡ x.lines
    → y.full ≡ x.full ++ m ∷ [] → Grows (places_for answer) v w
    → length w.tickets ≤ length v.tickets + 1 → Uses (lines_left x) (lines_left y) v w
ran_uses x y m answer v w left lines full g few =
    let one = places_one answer in
    let places = g.few in
    let all = ap (λ ls. length ls) lines in
    let now = ap (λ (ms : List Bool). length ms) full in
    let long = length-append x.full (m ∷ []) in record {
      seen = g.seen;
      first = g.first;
      places = omega arith;
      tickets = omega arith;
    }

-- it is kept
pub kept_uses : (x : Requester) (v w : View) → Grows 0 v w
    → length w.tickets ≤ length v.tickets → Uses (lines_left x) (lines_left x) v w
kept_uses x v w g few =
    let places = g.few in record {
      seen = g.seen;
      first = g.first;
      places = omega arith;
      tickets = omega arith;
    }

-- ---- several requesters

pub left_append : (xs : List Requester) (x : Requester)
    → all_left (xs ++ x ∷ []) ≡ all_left xs + lines_left x
left_append [] x = omega arith
left_append (y ∷ ys) x = let later = left_append ys x in omega arith

pub left_parts : (xs : List Requester) → all_left xs ≤ parts_for xs
left_parts [] = omega arith
left_parts (x ∷ xs) = let later = left_parts xs in omega arith

left_get : (ys : List Requester) (k : ℕ) (y : Requester) → slice_get ys k ≡ Some y
    → lines_left y ≤ all_left ys
left_get [] k y at = absurd cc
left_get (x ∷ xs) zero y at =
    let same : x ≡ y = cc in
    let is = ap lines_left same in omega arith
left_get (x ∷ xs) (suc k) y at = let later = left_get xs k y at in omega arith

left_set : (ys : List Requester) (k : ℕ) (y z : Requester) → slice_get ys k ≡ Some y
    → all_left (slice_set ys k z) + lines_left y ≡ all_left ys + lines_left z
left_set [] k y z at = absurd cc
left_set (x ∷ xs) zero y z at =
    let same : x ≡ y = cc in
    let is = ap lines_left same in omega arith
left_set (x ∷ xs) (suc k) y z at = let later = left_set xs k y z at in omega arith

-- one of them runs on
pub uses_set : (n : ℕ) (ys : List Requester) (k : ℕ) (y z : Requester) (u v w : View)
    → slice_get ys k ≡ Some y → Uses n (all_left ys) u v
    → Uses (lines_left y) (lines_left z) v w → Uses n (all_left (slice_set ys k z)) u w
uses_set n ys k y z u v w at a b =
    let is = left_set ys k y z at in
    let places_low = a.places in
    let places_high = b.places in
    let tickets_low = a.tickets in
    let tickets_high = b.tickets in record {
      seen = longer_both u.seen v.seen w.seen a.seen b.seen;
      first = b.first ∙ a.first;
      places = omega arith;
      tickets = omega arith;
    }

pub uses_stop : (n : ℕ) (ys : List Requester) (k : ℕ) (y : Requester) (u v w : View)
    → slice_get ys k ≡ Some y → Uses n (all_left ys) u v → Uses (lines_left y) 0 v w
    → Uses n 0 u w
uses_stop n ys k y u v w at a b =
    let one = left_get ys k y at in
    uses_more n (all_left ys) 0 u v w a
    (uses_less (lines_left y) (all_left ys) 0 0 v w one (omega arith) b)

-- The last requester in a thread of its own, and the others beside it.
pub uses_joined : (all xs : List Requester) (x : Requester) (p m k : ℕ) (v h o j : View)
    → all ≡ xs ++ x ∷ [] → Uses (all_left xs) m (stays p v) h
    → Uses (lines_left x) k (goes p v) o → IsJoined h o j
    → length j.tickets ≤ length h.tickets + length o.tickets → Uses (all_left all) (m + k) v j
uses_joined all xs x p m k v h o j is a b joined few =
    let sum : all_left all ≡ all_left xs + lines_left x = ap all_left is ∙ left_append xs x in
    let mine = ap (λ (ms : List ℕ). length ms) joined.mine in
    let long = length-append h.mine o.mine in
    let places_one : length h.mine + m ≤ length v.mine + all_left xs = a.places in
    let places_two : length o.mine + k ≤ 0 + lines_left x = b.places in
    let tickets_one : length h.tickets + m ≤ length v.tickets + all_left xs = a.tickets in
    let tickets_two : length o.tickets + k ≤ 0 + lines_left x = b.tickets in record {
      seen = longer_both v.seen h.seen j.seen a.seen joined.this;
      first = joined.first ∙ a.first;
      places = omega arith;
      tickets = omega arith;
    }

pub uses_beside : (all xs : List Requester) (x : Requester) (p m k : ℕ) (v s g h o j : View)
    → all ≡ xs ++ x ∷ [] → s ≡ stays p v → g ≡ goes p v → Uses (all_left xs) m s h
    → Uses (lines_left x) k g o → IsJoined h o j
    → length j.tickets ≤ length h.tickets + length o.tickets → Uses (all_left all) (m + k) v j
uses_beside all xs x p m k v s g h o j is stay go a b joined few =
    uses_joined all xs x p m k v h o j is
    (subst (λ (u : View). Uses (all_left xs) m u h) stay a)
    (subst (λ (u : View). Uses (lines_left x) k u o) go b) joined few

pub left_beside : (all xs ys : List Requester) (x y : Requester) (p : ℕ) (v s g h o j : View)
    → all ≡ xs ++ x ∷ [] → s ≡ stays p v → g ≡ goes p v → Uses (all_left xs) (all_left ys) s h
    → Uses (lines_left x) (lines_left y) g o → IsJoined h o j
    → length j.tickets ≤ length h.tickets + length o.tickets
    → Uses (all_left all) (all_left (ys ++ y ∷ [])) v j
left_beside all xs ys x y p v s g h o j is stay go a b joined few =
    subst (λ n. Uses (all_left all) n v j) (sym (left_append ys y))
    (uses_beside all xs x p (all_left ys) (lines_left y) v s g h o j is stay go a b joined few)

-- Requester 0 has run its lines, and the others theirs in threads: there is room for the rest.
pub rest_room : (n m : ℕ) (first : Requester) (others : List Requester) (u v w : View)
    → u.tickets ≡ [] → length first.lines + parts_for others < all_parts
    → Uses (lines_left first) n u v → Uses (all_left others) m v w
    → length w.tickets + m < all_parts
rest_room n m first others u v w none few a b =
    let empty = ap (λ (ts : List Ticket). length ts) none in
    let left = left_parts others in
    let low = a.tickets in
    let high = b.tickets in omega arith

pub first_room : (first : Requester) (others : List Requester) (u : View) → u.tickets ≡ []
    → length first.lines + parts_for others < all_parts
    → length u.tickets + lines_left first < all_parts
first_room first others u none few =
    let empty = ap (λ (ts : List Ticket). length ts) none in omega arith

-- ---- what is used up

-- a history doesn't get shorter
pub most_later : (v w : View) → w.first ≡ v.first → length v.seen ≤ length w.seen → HasMost v
    → HasMost w
most_later v w first long most x is =
    let low = most x (sym first ∙ is) in omega arith

-- no pass is spent that had more parts than tickets and lines
pub room_most : (n p : ℕ) (v w : View) → w.parts ≡ p → length v.tickets + n < p → Uses n 0 v w
    → IsSpent w → HasMost w
room_most n p v w parts room a spent =
    ⊎_elim (λ (most : HasMost w). most)
    (λ (full : length w.tickets ≡ w.parts). absurd (let tickets = a.tickets in omega arith)) spent

-- Of two passes that are joined one had seen a history that is as long as it can get.
pub most_joined : (x : Requester) (p n : ℕ) (v s g h o j : View) → s ≡ stays p v → g ≡ goes p v
    → Uses n 0 s h → Uses (lines_left x) 0 g o → o.parts ≡ g.parts → p ≡ length x.lines + 1
    → IsJoined h o j → IsSpent o ⊎ HasMost h → HasMost j
most_joined x p n v s g h o j stay go a b parts is joined spent =
    ⊎_elim
    (λ (own : IsSpent o).
    most_later o j
    (joined.first ∙ (a.first ∙ (ap (λ (u : View). u.first) stay
    ∙ (sym (ap (λ (u : View). u.first) go) ∙ sym b.first))))
    (longer_length o.seen j.seen joined.that)
    (room_most (lines_left x) p g o (parts ∙ ap (λ (u : View). u.parts) go) room b own))
    (λ (most : HasMost h).
    most_later h j joined.first (longer_length h.seen j.seen joined.this) most)
    spent
  where
    room : length g.tickets + lines_left x < p
    room = let none = ap (λ (u : View). length u.tickets) go in omega arith

-- Requesters with fewer lines than that use up no history.
pub never_most : (first : Requester) (others : List Requester) (v w : View)
    (x system : System) (journal : List JournalEntry)
    → length first.lines + parts_for others < all_parts → v ≡ first_view x → taken_of x ≡ 0
    → Uses (lines_left first + all_left others) 0 v w → Closes w system journal → HasMost w → ⊥
never_most first others v w x system journal few is none a closes most =
    let room : length first.lines + parts_for others < 4294967295 = few in
    let began : w.first ≡ Some x = a.first ∙ ap (λ (u : View). u.first) is in
    let long : 4294967295 ≤ taken_of x + length w.seen = most x began in
    let longer = longer_length w.seen journal closes.seen in
    let all = places_few (length journal) w.mine closes.places in
    let mine = a.places in
    let empty = ap (λ (u : View). length u.mine) is in
    let left = left_parts others in
    omega arith
