-- Lines of requesters that are put into an order, one after the other.
use Rattle.std.specs.Prelude.{◌≡◌, ◌≢◌, ◌+◌, ◌<◌, ℕ, Bool, true, false, Option, Some, None, List}
use Rattle.std.specs.Prelude.{[], ◌∷◌, ◌++◌, drop, length, map, replicate}
use Rattle.std.specs.List.{filter, slice_get}
use Rattle.std.specs.String.{string_bytes}
use Rattle.gb_base.specs.declared.event.Event.{Event}
use Rattle.gb_base.specs.declared.journal.JournalEntry.{JournalEntry}
use Rattle.gb_base.specs.declared.parts.Asked.{Asked}
use Rattle.gb_formats.specs.Orders.{AreLeading, AreOpening, AreThreaded, Merged, Place, is_by}
use Rattle.gb_formats.specs.Orders.{merge, times_of, who_at}
use Rattle.gb_machine.specs.Journal.{IsLegal, after, events_of}
use Rattle.gb_machine.specs.Shared.{done_in, has_full, report_merged}
use Rattle.gb_machine.specs.State.{State, first_state}
use Rattle.gb_share.specs.Doing.{events_by}
use Rattle.gb_share.specs.Fulls.{AreExact, ComeLate, DoAsk, GoOnLate, own_lines}
use Rattle.gb_share.specs.declared.merging.Merging.{Merging}
use Rattle.gb_share.specs.declared.merging.Next.{Next}
use Rattle.gb_share.specs.declared.requester.Requester.{Requester}

-- ---- the lines that are left

-- lines with their marks
abbrev pub marked : List Asked → List Bool → List Merged
marked [] fs = []
marked (a ∷ ls) [] = []
marked (a ∷ ls) (f ∷ fs) = (a, f) ∷ marked ls fs

-- the lines of a requester behind the first ones, of which there are so many
abbrev pub left_by : Option Requester → Option ℕ → List Merged
left_by None n = []
left_by (Some x) None = []
left_by (Some x) (Some n) = drop n (marked x.lines x.full)

-- the lines that are left, by requester
abbrev pub left_of : List Requester → List ℕ → ℕ → List Merged
left_of xs ns r = left_by (slice_get xs r) (slice_get ns r)

-- the lines of a requester that have no place yet
abbrev pub left : Merging → ℕ → List Merged
left x r = left_of x.all.items x.at.items r

-- Where a requester's next line stands, and whether it is full.
pub record IsNext (n : Next) (x : Merging) (who : ℕ) : Type 0 where
  pub line : Asked
  pub requester : Requester
  pub here : slice_get x.at.items who ≡ Some n.at
  pub there : slice_get x.all.items who ≡ Some requester
  pub line_is : slice_get requester.lines n.at ≡ Some line
  pub full_is : slice_get requester.full n.at ≡ Some n.full
  pub number : n.line ≡ line.line

-- a requester's next line isn't full
abbrev pub IsReady : List Merged → Type 0
IsReady [] = Unit
IsReady (m ∷ ms) = m.1 ≡ false

-- no requester's next line is full
abbrev pub AreReady : (ℕ → List Merged) → Type 0
AreReady q = (r : ℕ) → IsReady (q r)

-- of the lines that were left the next one of a requester was taken
pub record Pops (who : ℕ) (m : Merged) (q p : ℕ → List Merged) : Type 0 where
  pub here : q who ≡ m ∷ p who
  pub there : (r : ℕ) → r ≢ who → p r ≡ q r

-- ---- what was placed

-- Some lines have their places in an order, and what is reported of them is a text. These lines are
-- left, and of the history, which ends in `last`, these entries. The full ones are as they may be.
pub record ArePlaced (asked : List Asked) (hex : Bool) (order : List Place) (text : List ℕ)
    (q : ℕ → List Merged) (entries : List JournalEntry) (last : State) : Type 0 where
  pub placed : List Merged
  pub rest : List Asked
  pub state : State
  pub leads : (more : List Place) → merge asked (order ++ more) ≡ placed ++ merge rest more
  pub reports : (more : List Merged) → report_merged hex first_state (placed ++ more)
      ≡ text ++ report_merged hex state more
  pub ends : (more : List Merged)
      → after first_state (done_in (placed ++ more)) ≡ after state (done_in more)
  pub legal : IsLegal state entries last
  pub each : (r : ℕ) → filter (is_by r) rest ≡ map (λ (m : Merged). m.0) (q r)
  pub ran : (r : ℕ) → done_in (q r) ≡ events_by r entries
  pub counts : (r : ℕ) → times_of r (who_at order) + length (q r)
      ≡ length (filter (is_by r) asked)
  pub all : List Event
  pub all_is : done_in placed ++ events_of entries ≡ all
  pub asking : DoAsk all placed
  pub may : (r : ℕ) → DoAsk all (q r)
  pub behind : (r : ℕ) → has_full r placed ≡ true → ComeLate r 0 placed entries
  pub ahead : (r : ℕ) (front back : List Merged) (a : Asked) → q r ≡ front ++ (a, true) ∷ back
      → ComeLate r (length (done_in front)) placed entries
  pub going : GoOnLate placed
  pub exact : AreExact (own_lines 0 placed ++ q 0)

-- the same of what is being merged
abbrev pub Stands : List Asked → Merging → List JournalEntry → State → Type 0
Stands asked x entries last =
    ArePlaced asked x.hex x.order.items (string_bytes x.text) (left x) entries last

-- ---- how an order grows

-- An order grew by full places of a requester.
pub record GrowsFull (who : ℕ) (old new : List Place) : Type 0 where
  pub count : ℕ
  pub is : new ≡ old ++ replicate count (who, true)

-- An order may go on with leading places from a requester on.
pub record IsLed (least : ℕ) (order : List Place) : Type 0 where
  pub opening : List Place
  pub leading : List Place
  pub order_is : order ≡ opening ++ leading
  pub opens : AreOpening opening
  pub leads : (more : List Place) → AreLeading least more → AreLeading 1 (leading ++ more)

-- An order may go on with places of threads.
pub record IsThreaded (order : List Place) : Type 0 where
  pub opening : List Place
  pub leading : List Place
  pub threads : List Place
  pub last : ℕ
  pub order_is : order ≡ opening ++ leading ++ threads
  pub opens : AreOpening opening
  pub leads : AreLeading 1 leading
  pub follow : (more : List Place) → AreThreaded last more → AreThreaded 0 (threads ++ more)

-- ---- how far the merging is

-- The entries of requester 0 come first.
pub record AreParted (entries : List JournalEntry) : Type 0 where
  pub opening : List JournalEntry
  pub threads : List JournalEntry
  pub parts : entries ≡ opening ++ threads
  pub opens : (r : ℕ) → 0 < r → events_by r opening ≡ []
  pub follow : events_by 0 threads ≡ []

-- Only lines of requester 0 are placed.
pub record Begins (asked : List Asked) (x : Merging) (entries : List JournalEntry) (last : State)
    : Type 0 where
  pub stands : Stands asked x entries last
  pub opens : AreOpening x.order.items
  pub parted : AreParted entries
  pub few : (r : ℕ) → 255 < r → filter (is_by r) asked ≡ []

-- The lines of requester 0 are placed, and no others.
pub record HasOpened (asked : List Asked) (x : Merging) (entries : List JournalEntry)
    (last : State) : Type 0 where
  pub stands : Stands asked x entries last
  pub opens : AreOpening x.order.items
  pub none : left x 0 ≡ []
  pub few : (r : ℕ) → 255 < r → filter (is_by r) asked ≡ []

-- The lines of requester 0 are placed, and no requester's next line is full.
pub record HasLed (asked : List Asked) (x : Merging) (entries : List JournalEntry) (last : State)
    : Type 0 where
  pub stands : Stands asked x entries last
  pub threaded : IsThreaded x.order.items
  pub none : left x 0 ≡ []
  pub ready : AreReady (left x)
