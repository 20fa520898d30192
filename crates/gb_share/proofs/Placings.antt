-- Lines that get their places.
use Rattle.std.proofs.Common.{◌≡◌, ◌≢◌, ℕ, zero, suc, ◌+◌, ◌<◌, ◌≤◌, Bool, true, false, Some}
use Rattle.std.proofs.Common.{List, [], ◌∷◌, ◌++◌, length, refl, sym, ap, ◌∙◌, add-one, arith}
use Rattle.std.proofs.Common.{subst}
use Rattle.std.proofs.lemmas.Bool.Decides.{nat_tests}
use Rattle.std.specs.List.{filter, slice_set}
use Rattle.std.specs.Prelude.{◌==◌, if◌then◌else◌, nat_lt, not}
use Rattle.std.specs.String.{string_bytes}
use Rattle.gb_base.specs.declared.entry.Entry.{Entry}
use Rattle.gb_base.specs.declared.entry.Entry.TheVariants as entry
use Rattle.gb_base.specs.declared.event.Event.{Event}
use Rattle.gb_base.specs.declared.journal.JournalEntry.{JournalEntry}
use Rattle.gb_base.specs.declared.parts.Asked.{Asked}
use Rattle.gb_base.specs.declared.refusal.Refusal.TheVariants as why
use Rattle.gb_formats.specs.Orders.{AreOpening, Merged, is_by}
use Rattle.gb_formats.specs.Texts.{entries_text}
use Rattle.gb_machine.specs.Shared.{done_in}
use Rattle.gb_machine.specs.State.{State}
use Rattle.gb_share.specs.Doing.{events_by}
use Rattle.gb_share.specs.Placing.{ArePlaced, AreParted, Begins, GrowsFull, HasLed}
use Rattle.gb_share.specs.Placing.{HasOpened, IsLed, IsNext, IsReady, Pops, Stands, left}
use Rattle.gb_share.specs.declared.merging.Merging.{Merging}
use Rattle.gb_share.specs.declared.merging.Next.{Next}
use Rattle.gb_share.proofs.Growing.{own_events, place_done, place_full}
use Rattle.gb_share.proofs.Queues.{by_who, next_left, popped}
use Rattle.gb_share.proofs.Shapes.{led_first, led_last, led_more, opening_more, threaded_more}

-- ---- the next line

pub next_is : (x : Merging) (who : ℕ) (n : Next) (f : Bool) (is : IsNext n x who) → n.full ≡ f
    → (more : List Merged) × (left x who ≡ (is.line, f) ∷ more)
next_is x who n f is mark = (
  _,
  next_left x.all.items x.at.items who is.requester n.at is.line f is.there is.here
      is.line_is (is.full_is ∙ ap (λ b. Some b) mark),
)

pub next_ready : (x : Merging) (who : ℕ) (n : Next) → IsNext n x who → n.full ≡ false
    → IsReady (left x who)
next_ready x who n is mark =
    subst (λ (ms : List Merged). IsReady ms) (sym (next_is x who n false is mark).1) refl

pub not_ready : (x : Merging) (who : ℕ) (n : Next) → IsNext n x who → n.full ≡ true
    → (A : Type 0) → IsReady (left x who) → A
not_ready x who n is mark A ready =
    let is_false : true ≡ false =
    subst (λ (ms : List Merged). IsReady ms) (next_is x who n true is mark).1 ready in
    absurd cc

-- the next line was placed
pub moved : (x y : Merging) (who : ℕ) (n : Next) (f : Bool) (is : IsNext n x who) → n.full ≡ f
    → y.all ≡ x.all → y.at.items ≡ slice_set x.at.items who (n.at + 1)
    → Pops who (is.line, f) (left x) (left y)
moved x y who n f is mark all at =
    popped x.all.items y.all.items x.at.items y.at.items who is.requester n.at is.line f is.there
    is.here is.line_is (is.full_is ∙ ap (λ b. Some b) mark) (ap (λ xs. xs.items) all) at

pub shorter : (who : ℕ) (m : Merged) (q p : ℕ → List Merged) → Pops who m q p
    → length (p who) < length (q who)
shorter who m q p pops =
    let long = ap (λ (ms : List Merged). length ms) pops.here in omega arith

pub full_stands : (asked : List Asked) (x y : Merging) (entries : List JournalEntry) (last : State)
    (who : ℕ) (n : Next) (told : List Entry) (is : IsNext n x who) → n.full ≡ true
    → told ≡ entry.Refused why.Full ∷ [] → y.hex ≡ x.hex
    → Pops who (is.line, true) (left x) (left y)
    → y.order.items ≡ x.order.items ++ (who, true) ∷ []
    → string_bytes y.text ≡ string_bytes x.text ++ entries_text n.line x.hex told
    → Stands asked x entries last → Stands asked y entries last
full_stands asked x y entries last who n told is mark refused hex pops order text s =
    subst (λ h. ArePlaced asked h y.order.items (string_bytes y.text) (left y) entries last)
    (sym hex)
    (place_full asked x.hex x.order.items y.order.items (string_bytes x.text)
    (string_bytes y.text) (left x) (left y) entries last who is.line s pops order
    (text ∙ (ap (λ l. string_bytes x.text ++ entries_text l x.hex told) is.number
    ∙ ap (λ (es : List Entry). string_bytes x.text ++ entries_text is.line.line x.hex es)
    refused)))

pub done_stands : (asked : List Asked) (x y : Merging) (e : JournalEntry)
    (entries : List JournalEntry) (last : State) (who : ℕ) (n : Next) (told : List Entry)
    (is : IsNext n x who) → told ≡ e.entries → y.hex ≡ x.hex
    → Pops who (is.line, false) (left x) (left y)
    → y.order.items ≡ x.order.items ++ (who, false) ∷ []
    → string_bytes y.text ≡ string_bytes x.text ++ entries_text n.line x.hex told
    → e.by ≡ who → Stands asked x (e ∷ entries) last → Stands asked y entries last
done_stands asked x y e entries last who n told is same hex pops order text by s =
    subst (λ h. ArePlaced asked h y.order.items (string_bytes y.text) (left y) entries last)
    (sym hex)
    (place_done asked x.hex x.order.items y.order.items (string_bytes x.text)
    (string_bytes y.text) (left x) (left y) e entries last is.line s
    (subst (λ w. Pops w (is.line, false) (left x) (left y)) (sym by) pops)
    (order ∙ ap (λ w. x.order.items ++ (w, false) ∷ []) (sym by))
    (text ∙ (ap (λ l. string_bytes x.text ++ entries_text l x.hex told) is.number
    ∙ ap (λ (es : List Entry). string_bytes x.text ++ entries_text is.line.line x.hex es) same)))

-- ---- the lines of requester 0

-- requester 0 has done a further line: the next entry is its own
opening_next : (e : JournalEntry) (es : List JournalEntry) (d : Event) (ds : List Event)
    → AreParted (e ∷ es) → events_by 0 (e ∷ es) ≡ d ∷ ds → (e.by ≡ 0) × AreParted es
opening_next e es d ds p some = go p.opening p.parts p.opens
  where
    go : (front : List JournalEntry) → e ∷ es ≡ front ++ p.threads
        → ((r : ℕ) → 0 < r → events_by r front ≡ []) → (e.by ≡ 0) × AreParted es
    go [] parts opens =
        let none : events_by 0 (e ∷ es) ≡ [] =
        ap (λ (l : List JournalEntry). events_by 0 l) parts ∙ p.follow in absurd cc
    go (x ∷ xs) parts opens =
        let head : x ≡ e = cc in
        let tail : es ≡ xs ++ p.threads = cc in (
          ap (λ (y : JournalEntry). y.by) (sym head) ∙ by_zero x.by refl,
          record {
            opening = xs;
            threads = p.threads;
            parts = tail;
            opens = λ r up. rest x xs r (opens r up);
            follow = p.follow;
          },
        )
      where
        by_zero : (n : ℕ) → x.by ≡ n → x.by ≡ 0
        by_zero zero is = is
        by_zero (suc n) is = absurd (
            let mine = own_events x xs in
            let none = opens x.by (omega arith) in cc)

        rest : (y : JournalEntry) (ys : List JournalEntry) (r : ℕ) → events_by r (y ∷ ys) ≡ []
            → events_by r ys ≡ []
        rest y ys r none = both (y.by == r) none
          where
            both : (b : Bool)
                → (if b then y.event ∷ [] else []) ++ events_by r ys ≡ [] → events_by r ys ≡ []
            both true is = absurd cc
            both false is = is

-- a line of requester 0 that was done
zero_done : (asked : List Asked) (x : Merging) (entries : List JournalEntry) (last : State)
    (n : Next) (is : IsNext n x 0) → n.full ≡ false → Stands asked x entries last
    → (ds : List Event) × (events_by 0 entries ≡ is.line.event ∷ ds)
zero_done asked x entries last n is mark s =
    let next = next_is x 0 n false is mark in
    (done_in next.0, sym (s.ran 0) ∙ ap (λ (ms : List Merged). done_in ms) next.1)

pub zero_next : (asked : List Asked) (x : Merging) (e : JournalEntry) (es : List JournalEntry)
    (last : State) (n : Next) → IsNext n x 0 → n.full ≡ false → Begins asked x (e ∷ es) last
    → (e.by ≡ 0) × AreParted es
zero_next asked x e es last n is mark b =
    let done = zero_done asked x (e ∷ es) last n is mark b.stands in
    opening_next e es is.line.event done.0 b.parted done.1

pub zero_some : (asked : List Asked) (x : Merging) (entries : List JournalEntry) (last : State)
    (n : Next) → IsNext n x 0 → n.full ≡ false → Begins asked x entries last → entries ≡ []
    → (A : Type 0) → A
zero_some asked x entries last n is mark b none A =
    let done = zero_done asked x entries last n is mark b.stands in
    let nothing : events_by 0 entries ≡ [] =
    ap (λ (l : List JournalEntry). events_by 0 l) none in absurd (let d = done.1 in cc)

pub zero_full : (asked : List Asked) (x y : Merging) (entries : List JournalEntry) (last : State)
    → Begins asked x entries last → Stands asked y entries last
    → y.order.items ≡ x.order.items ++ (0, true) ∷ [] → Begins asked y entries last
zero_full asked x y entries last b s order = record {
  stands = s;
  opens = subst (λ o. AreOpening o) (sym order) (opening_more x.order.items true b.opens);
  parted = b.parted;
  few = b.few;
}

pub zero_placed : (asked : List Asked) (x y : Merging) (e : JournalEntry) (es : List JournalEntry)
    (last : State) (n : Next) → IsNext n x 0 → n.full ≡ false → Begins asked x (e ∷ es) last
    → (e.by ≡ 0 → Stands asked x (e ∷ es) last → Stands asked y es last)
    → y.order.items ≡ x.order.items ++ (0, false) ∷ [] → Begins asked y es last
zero_placed asked x y e es last n is mark b stands order =
    let next = zero_next asked x e es last n is mark b in record {
      stands = stands next.0 b.stands;
      opens = subst (λ o. AreOpening o) (sym order) (opening_more x.order.items false b.opens);
      parted = next.1;
      few = b.few;
    }

pub opened : (asked : List Asked) (x : Merging) (entries : List JournalEntry) (last : State)
    → Begins asked x entries last → left x 0 ≡ [] → HasOpened asked x entries last
opened asked x entries last b none = record {
  stands = b.stands;
  opens = b.opens;
  none = none;
  few = b.few;
}

-- ---- full lines in front

-- some requesters' full lines are placed
pub record HasBegun (asked : List Asked) (x : Merging) (entries : List JournalEntry) (last : State)
    (at : ℕ) : Type 0 where
  pub stands : Stands asked x entries last
  pub led : IsLed at x.order.items
  pub none : left x 0 ≡ []
  pub ready : (r : ℕ) → r < at → IsReady (left x r)
  pub few : (r : ℕ) → 255 < r → filter (is_by r) asked ≡ []

pub begun : (asked : List Asked) (x : Merging) (entries : List JournalEntry) (last : State)
    → HasOpened asked x entries last → HasBegun asked x entries last 1
begun asked x entries last h = record {
  stands = h.stands;
  led = led_first x.order.items h.opens;
  none = h.none;
  ready = first;
  few = h.few;
}
  where
    first : (r : ℕ) → r < 1 → IsReady (left x r)
    first zero low = subst (λ (ms : List Merged). IsReady ms) (sym h.none) tt
    first (suc r) low = absurd (omega arith)

pub begun_more : (asked : List Asked) (x y : Merging) (entries : List JournalEntry) (last : State)
    (at : ℕ) → 0 < at → HasBegun asked x entries last at → Stands asked y entries last
    → GrowsFull at x.order.items y.order.items → IsReady (left y at)
    → ((r : ℕ) → r ≢ at → left y r ≡ left x r) → HasBegun asked y entries last (suc at)
begun_more asked x y entries last at some h stands grows ready others = record {
  stands = stands;
  led = led_more at x.order.items y.order.items h.led grows;
  none = others 0 (λ same. absurd (omega arith)) ∙ h.none;
  ready = λ r low. by_who (λ s. s < suc at → IsReady (left y s)) at (λ l. ready)
      (λ s apart l. subst (λ (ms : List Merged). IsReady ms) (sym (others s apart))
      (h.ready s (omega arith))) r low;
  few = h.few;
}

pub begun_next : (asked : List Asked) (x y : Merging) (entries : List JournalEntry) (last : State)
    (at : ℕ) → 0 < at → HasBegun asked x entries last at → Stands asked y entries last
    → GrowsFull at x.order.items y.order.items → IsReady (left y at)
    → ((r : ℕ) → r ≢ at → left y r ≡ left x r) → HasBegun asked y entries last (at + 1)
begun_next asked x y entries last at some h stands grows ready others =
    subst (λ n. HasBegun asked y entries last n) (sym (add-one at))
    (begun_more asked x y entries last at some h stands grows ready others)

no_lines : {A : Type 0} (xs : List A) → length xs ≡ 0 → xs ≡ []
no_lines [] is = refl
no_lines (x ∷ xs) is = absurd (omega arith)

pub led_all : (asked : List Asked) (x : Merging) (entries : List JournalEntry) (last : State)
    → HasBegun asked x entries last 256 → HasLed asked x entries last
led_all asked x entries last h = record {
  stands = h.stands;
  threaded = led_last 256 x.order.items h.led;
  none = h.none;
  ready = λ r. either r (nat_lt r 256) refl;
}
  where
    either : (r : ℕ) (b : Bool) → nat_lt r 256 ≡ b → IsReady (left x r)
    either r true is = h.ready r (grind (arith, nat_tests))
    either r false is =
        let high : 255 < r = grind (arith, nat_tests) in
        let counts = h.stands.counts r in
        let none = ap (λ (l : List Asked). length l) (h.few r high) in
        let empty : left x r ≡ [] = no_lines (left x r) (omega arith) in
        subst (λ (ms : List Merged). IsReady ms) (sym empty) tt

-- ---- an entry of a thread

-- its requester has a line that isn't full
pub due : (asked : List Asked) (x : Merging) (e : JournalEntry) (es : List JournalEntry)
    (last : State) → HasLed asked x (e ∷ es) last → left x e.by ≡ [] → (A : Type 0) → A
due asked x e es last h none A =
    let ran = h.stands.ran e.by in
    let mine = own_events e es in
    let nothing : done_in (left x e.by) ≡ [] =
    ap (λ (ms : List Merged). done_in ms) none in absurd cc

from_one : (asked : List Asked) (x : Merging) (e : JournalEntry) (es : List JournalEntry)
    (last : State) → HasLed asked x (e ∷ es) last → 1 ≤ e.by
from_one asked x e es last h = go e.by refl
  where
    go : (n : ℕ) → e.by ≡ n → 1 ≤ n
    go zero is = absurd (due asked x e es last h
        (ap (λ n. left x n) is ∙ h.none) ⊥)
    go (suc n) is = omega arith

pub took : (asked : List Asked) (x y z : Merging) (e : JournalEntry) (es : List JournalEntry)
    (last : State) → HasLed asked x (e ∷ es) last
    → (e.by ≡ e.by → Stands asked x (e ∷ es) last → Stands asked y es last)
    → y.order.items ≡ x.order.items ++ (e.by, false) ∷ []
    → ((r : ℕ) → r ≢ e.by → left y r ≡ left x r)
    → (Stands asked y es last → Stands asked z es last) → IsReady (left z e.by)
    → ((r : ℕ) → r ≢ e.by → left z r ≡ left y r)
    → GrowsFull e.by y.order.items z.order.items → HasLed asked z es last
took asked x y z e es last h first order others second ready stay grows =
    let some = from_one asked x e es last h in record {
      stands = second (first refl h.stands);
      threaded = threaded_more e.by x.order.items y.order.items z.order.items some h.threaded order
          grows;
      none = stay 0 (λ same. absurd (omega arith)) ∙ (others 0 (λ same. absurd (omega arith))
          ∙ h.none);
      ready = by_who (λ r. IsReady (left z r)) e.by ready
          (λ r apart. subst (λ (ms : List Merged). IsReady ms)
          (sym (stay r apart ∙ others r apart)) (h.ready r));
    }

pub not_is : (b : Bool) → not b ≡ true → b ≡ false
not_is true is = absurd cc
not_is false is = refl
