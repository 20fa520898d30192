-- Each item was put on its own connection, by a request, a reply or an injection that was told.
use Rattle.std.proofs.Common.{Bool, List, None, Some, ap, false, inl, length, refl, subst, sym, ℕ}
use Rattle.std.proofs.Common.{⊎_elim, ◌++◌, ◌∙◌, ◌≡◌, ◌⊎◌}
use Rattle.gb_base.specs.declared.end.{End.End, Side.Side}
use Rattle.gb_base.specs.declared.end.End.TheVariants as end
use Rattle.gb_base.specs.declared.end.Side.TheVariants as side
use Rattle.gb_base.specs.declared.entry.Entry.{Entry}
use Rattle.gb_base.specs.declared.entry.Entry.TheVariants as entry
use Rattle.gb_formats.specs.Message.{message_size, request, response, spelling}
use Rattle.gb_machine.specs.Bus.{Ask, Bus, Connection, Item, Raw, RawReply, Reply, end_of}
use Rattle.gb_machine.specs.Bus.{has_number, next_number, other_side, queue, request_of}
use Rattle.gb_machine.specs.Sending.{Draft, is_lost, requested}
use Rattle.gb_machine.specs.{LawsHotPlug.IsOwnItem, LawsHotPlug.told_since, Lists.at_first}
use Rattle.gb_machine.specs.{Members.IsIn}
use Rattle.gb_invariants.proofs.{Apart.SameEnds, BusChanges.KeepsRequests, Lists.in-behind}
use Rattle.gb_invariants.proofs.{Lists.in-front, Numbers.in-changed, Selves.SameSelf}
use Rattle.gb_invariants.specs.Facts.{Loose, NumbersRise}
use Rattle.gb_laws.proofs.points.PointParts.{Point, asked_told, loose}
use Rattle.gb_laws.proofs.points.ToldSince.{IsOpened, opened-more, since-more}

-- items were told, and connections to modules were opened
pub record OwnTold (a : Point) : Type 0 where
  pub waiting : (c : Connection) (at : Side) (item : Item) → IsIn c a.state.bus.connections
      → IsIn item (queue at c) → IsOwnItem a.told a.state.bus c at item
  pub hanging : (c : Connection) (l : Loose) → IsIn c a.state.bus.connections → IsIn l (loose a)
      → c.number ≡ l.connection → IsOwnItem a.told a.state.bus c l.side l.item
  pub opened : (c : Connection) (i p : ℕ) → IsIn c a.state.bus.connections → c.peer ≡ end.Module i p
      → IsOpened c.number a.told

-- what is said of a connection's number and ends is said of one that has the same
pub at-ends : (P : ℕ → ℕ → End → Type 0) {c d : Connection} → SameEnds c d → P c.number c.ap c.peer
    → P d.number d.ap d.peer
at-ends P {c} {d} h x =
    subst (λ k. P k d.ap d.peer) (sym h.number)
    (subst (λ a. P c.number a d.peer) (sym h.ap) (subst (λ e. P c.number c.ap e) (sym h.peer) x))

-- an item's own telling is so still once more is told, on a connection with the same ends
pub own-more : (told es : List Entry) (b after : Bus) {c : Connection} (d : Connection) (at : Side)
    (item : Item) → SameEnds c d → KeepsRequests b after
    → IsOwnItem told b c at item → IsOwnItem (told ++ es) after d at item
own-more told es b after d side.Ap (Ask n) self keeps h = (
  h.0,
  keeps n h.0 h.1,
  h.2 ∙ sym self.number,
  h.3,
  at-ends (λ k a p. IsIn (entry.Asked n p (end.Ap a) h.0.kind (message_size h.0.payload)
      (spelling (request h.0.label h.0.kind h.0.payload)) false) (told ++ es)) self
      (in-front _ told es h.4),
)
own-more told es b after d side.Far (Ask n) self keeps h = (
  h.0,
  keeps n h.0 h.1,
  h.2 ∙ sym self.number,
  h.3,
  at-ends (λ k a p. IsIn (entry.Asked n (end.Ap a) p h.0.kind (message_size h.0.payload)
      (spelling (request h.0.label h.0.kind h.0.payload)) false) (told ++ es)) self
      (in-front _ told es h.4),
)
own-more told es b after d side.Ap (Reply n result payload) self keeps h = (
  h.0,
  keeps n h.0 h.1,
  h.2 ∙ sym self.number,
  h.3,
  at-ends (λ k a p. IsIn (entry.Replied (Some n) p (end.Ap a) result (message_size payload)
      (spelling (response h.0.label h.0.kind result payload))) (told ++ es)) self
      (in-front _ told es h.4),
)
own-more told es b after d side.Far (Reply n result payload) self keeps h = (
  h.0,
  keeps n h.0 h.1,
  h.2 ∙ sym self.number,
  h.3,
  at-ends (λ k a p. IsIn (entry.Replied (Some n) (end.Ap a) p result (message_size payload)
      (spelling (response h.0.label h.0.kind result payload))) (told ++ es)) self
      (in-front _ told es h.4),
)
own-more told es b after {c} d at (Raw bytes) self keeps h = (
  h.0,
  at-ends (λ k a p. IsIn (entry.Raw p (end.Ap a) (length bytes) bytes) (told_since k (told ++ es)))
      self (since-more c.number told es (entry.Raw c.peer (end.Ap c.ap) (length bytes) bytes) h.1),
)
own-more told es b after {c} d at (RawReply label kind result payload) self keeps h = (
  h.0,
  at-ends (λ k a p. IsIn (entry.Replied None (end.Ap a) p result (message_size payload)
      (spelling (response label kind result payload))) (told_since k (told ++ es))) self
      (since-more c.number told es (entry.Replied None (end.Ap c.ap) c.peer result
      (message_size payload) (spelling (response label kind result payload))) h.1),
)

-- Where a connection and its items come from.
pub record OwnSource (a after : Point) (c : Connection) : Type 0 where
  pub was : Connection
  pub live : IsIn was a.state.bus.connections
  pub self : SameEnds was c
  pub items : (at : Side) (item : Item) → IsIn item (queue at c)
      → IsIn item (queue at was) ⊎ IsOwnItem after.told after.state.bus c at item

-- Items stay told where connections come from those before, with new items that are told.
pub own-changed : (a : Point) {after : Point} (es : List Entry) → after.told ≡ a.told ++ es
    → KeepsRequests a.state.bus after.state.bus
    → ((c : Connection) → IsIn c after.state.bus.connections → OwnSource a after c)
    → ((l : Loose) → IsIn l (loose after) → IsIn l (loose a)
    ⊎ ((c : Connection) → IsIn c after.state.bus.connections → c.number ≡ l.connection
    → IsOwnItem after.told after.state.bus c l.side l.item)) → OwnTold a → OwnTold after
own-changed a {after} es told keeps came hung h = record {
  waiting = λ c at item live i.
      let s = came c live in
      ⊎_elim (λ old. still s.was c at item s.self (h.waiting s.was at item s.live old)) (λ new. new)
      (s.items at item i);
  hanging = λ c l live i on.
      let s = came c live in
      ⊎_elim (λ old. still s.was c l.side l.item s.self
      (h.hanging s.was l s.live old (sym s.self.number ∙ on))) (λ new. new c live on) (hung l i);
  opened = λ c i p live at.
      let s = came c live in
      subst (λ k. IsOpened k after.told) (sym s.self.number)
      (subst (IsOpened s.was.number) (sym told)
      (opened-more s.was.number a.told es (h.opened s.was i p s.live (sym s.self.peer ∙ at))));
}
  where
    still : (c d : Connection) (at : Side) (item : Item) → SameEnds c d
        → IsOwnItem a.told a.state.bus c at item → IsOwnItem after.told after.state.bus d at item
    still c d at item self x =
        subst (λ t. IsOwnItem t after.state.bus d at item) (sym told)
        (own-more a.told es a.state.bus after.state.bus d at item self keeps x)

-- ---- where connections stay, or one of them changes

pub ends-same : (c : Connection) → SameEnds c c
ends-same c = record { number = refl; ap = refl; peer = refl }

pub ends-of : {c d : Connection} → SameSelf c d → SameEnds c d
ends-of h = record { number = h.number; ap = h.ap; peer = h.peer }

-- loose items that were loose
abbrev pub IsLooseOf : Point → Point → Type 0
IsLooseOf a after = (l : Loose) → IsIn l (loose after) → IsIn l (loose a)

pub own-still : {a after : Point} (es : List Entry) → after.told ≡ a.told ++ es
    → KeepsRequests a.state.bus after.state.bus
    → after.state.bus.connections ≡ a.state.bus.connections → IsLooseOf a after → OwnTold a
    → OwnTold after
own-still {a} es told keeps same fewer h = own-changed a es told keeps (λ c live. record {
  was = c;
  live = subst (λ cs. IsIn c cs) same live;
  self = ends-same c;
  items = λ at item i. inl i;
}) (λ l i. inl (fewer l i)) h

pub own-with : {a after : Point} (es : List Entry) (k : ℕ) (change : Connection → Connection)
    → NumbersRise a.state.bus
    → after.told ≡ a.told ++ es → KeepsRequests a.state.bus after.state.bus
    → after.state.bus.connections ≡ at_first (has_number k) change a.state.bus.connections
    → ((c : Connection) → SameEnds c (change c))
    → ((c : Connection) (at : Side) (item : Item) → IsIn c a.state.bus.connections → c.number ≡ k
    → IsIn item (queue at (change c))
    → IsIn item (queue at c) ⊎ IsOwnItem after.told after.state.bus (change c) at item)
    → ((l : Loose) → IsIn l (loose after) → IsIn l (loose a)
    ⊎ ((c : Connection) → IsIn c after.state.bus.connections → c.number ≡ l.connection
    → IsOwnItem after.told after.state.bus c l.side l.item)) → OwnTold a → OwnTold after
own-with {a} {after} es k change numbers told keeps same ends items hung h =
    own-changed a es told keeps (λ c live. ⊎_elim
    (λ o. record { was = c; live = o.0; self = ends-same c; items = λ at item i. inl i })
    (λ w. subst (λ x. OwnSource a after x) (sym w.3) (record {
      was = w.0;
      live = w.1;
      self = ends w.0;
      items = λ at item i. items w.0 at item w.1 w.2 i;
    })) (in-changed a.state.bus.connections k change c numbers.rise
    (subst (λ cs. IsIn c cs) same live))) hung h

-- ---- where a request is made

-- the request that is made on a wired connection is its own
pub own-new : (told : List Entry) (b after : Bus) (d : Draft) (c y : Connection) (label : ℕ)
    → SameEnds c y → y.number ≡ d.connection → is_lost d b ≡ false
    → request_of (next_number b) after ≡ Some (requested d label)
    → IsOwnItem (told ++ asked_told d c label b) after y (other_side d.side) (Ask (next_number b))
own-new told b after d c y label ends on wired made = by d.side refl
  where
    entry_as : Side → Bool → Entry
    entry_as s lost =
        entry.Asked (next_number b) (end_of s c) (end_of (other_side s) c) d.kind
        (message_size d.payload) (spelling (request label d.kind d.payload)) lost

    told_as : (s : Side) → d.side ≡ s → IsIn (entry_as s false) (told ++ asked_told d c label b)
    told_as s e = in-behind (entry_as s false) told (asked_told d c label b)
        (inl (ap (entry_as s) (sym wired) ∙ ap (λ t. entry_as t (is_lost d b)) (sym e)))

    by : (s : Side) → d.side ≡ s
        → IsOwnItem (told ++ asked_told d c label b) after y (other_side s) (Ask (next_number b))
    by side.Ap e = (
      requested d label,
      made,
      sym on,
      e,
      at-ends (λ k a p. IsIn (entry.Asked (next_number b) (end.Ap a) p d.kind
          (message_size d.payload) (spelling (request label d.kind d.payload)) false)
          (told ++ asked_told d c label b)) ends (told_as side.Ap e),
    )
    by side.Far e = (
      requested d label,
      made,
      sym on,
      e,
      at-ends (λ k a p. IsIn (entry.Asked (next_number b) p (end.Ap a) d.kind
          (message_size d.payload) (spelling (request label d.kind d.payload)) false)
          (told ++ asked_told d c label b)) ends (told_as side.Far e),
    )
