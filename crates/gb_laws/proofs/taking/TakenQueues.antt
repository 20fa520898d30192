-- What waits toward a side of a connection once the front item was taken: whatever becomes of the
-- bus, what stood behind it stays in front, until the connection is unwired or goes.
use Rattle.std.proofs.Common.{Bool, List, Some, ap, append-nil, append_assoc, cond, false, refl}
use Rattle.std.proofs.Common.{sym, true, ℕ, [], ◌++◌, ◌∙◌, ◌∷◌, ◌≡◌}
use Rattle.std.specs.Prelude.{option_map, ◌==◌}
use Rattle.gb_base.specs.declared.end.Side.{Side}
use Rattle.gb_base.specs.declared.end.Side.TheVariants as side
use Rattle.gb_machine.specs.Bus.{Ask, Bus, Connection, Item, connection_of, has_number, next_number}
use Rattle.gb_machine.specs.Bus.{other_side, queue}
use Rattle.gb_machine.specs.Sending.{drawn, put, queued}
use Rattle.gb_machine.specs.{Delivery.popped, Delivery.without_front, Lists.behind_first}
use Rattle.gb_machine.specs.{Members.EachTwo, Members.IsIn}
use Rattle.gb_invariants.proofs.BusChanges.{Becomes, BusChange, becomes, bus_after, changes, goes}
use Rattle.gb_invariants.proofs.BusChanges.{is_gone, left_by, number_of, stays, what-becomes}
use Rattle.gb_invariants.proofs.BusChanges.{wired_by}
use Rattle.gb_invariants.proofs.{Found.find-changed, Numbers.found-by_number, Numbers.found-number}
use Rattle.gb_invariants.proofs.{Selves.drawn-queue, Wires.cuts_of}
use Rattle.gb_invariants.specs.{Facts.IsBefore}

-- Connection k is live and wired, and its queue toward a side begins so.
pub record IsLeft (k : ℕ) (at : Side) (front : List Item) (b : Bus) : Type 0 where
  pub connection : Connection
  pub more : List Item
  pub live : IsIn connection b.connections
  pub number : connection.number ≡ k
  pub wired : connection.wired ≡ true
  pub left : queue at connection ≡ front ++ more

-- ---- one connection that changes

-- a queue has more behind it, or is the same
abbrev HasMore : Side → Connection → Connection → Type 0
HasMore s c d = (more : List Item) × (queue s d ≡ queue s c ++ more)

more-same : (s : Side) (c d : Connection) → queue s d ≡ queue s c → HasMore s c d
more-same s c d same = ([], same ∙ sym (append-nil (queue s c)))

more-queued : (s at : Side) (item : Item) (c : Connection) → HasMore s c (queued at item c)
more-queued side.Ap side.Ap item c = (item ∷ [], refl)
more-queued side.Far side.Far item c = (item ∷ [], refl)
more-queued side.Ap side.Far item c = more-same side.Ap c (queued side.Far item c) refl
more-queued side.Far side.Ap item c = more-same side.Far c (queued side.Ap item c) refl

more-put : (s at : Side) (item : Item) (c : Connection) → HasMore s c (put at item c)
more-put s at item c = by c.wired
  where
    by : (t : Bool) → HasMore s c (cond t (queued at item c) c)
    by true = more-queued s at item c
    by false = more-same s c c refl

-- nothing is taken
abbrev pub IsUntaken : BusChange → Type 0
IsUntaken (BusChange.takes k at) = ⊥
IsUntaken _ = Unit {0}

uncut-by : (x : BusChange) → (cuts_of x ≡ Some (number_of x) → ⊥) → wired_by x true ≡ true
uncut-by (BusChange.unwires k) uncut = absurd (uncut refl)
uncut-by (BusChange.wires k) uncut = refl
uncut-by _ uncut = refl

more-becomes : (x : BusChange) (b : Bus) (s : Side) (c : Connection) → IsUntaken x
    → (cuts_of x ≡ Some (number_of x) → ⊥) → HasMore s c (becomes x b c)
more-becomes (BusChange.takes k at) b s c untaken uncut = absurd untaken
more-becomes (BusChange.unwires k) b s c untaken uncut = absurd (uncut refl)
more-becomes (BusChange.sends d label) b s c untaken uncut =
    let w = more-put s (other_side d.side) (Ask (next_number b)) (drawn d label c) in
    (w.0, w.1 ∙ ap (λ is. is ++ w.0) (drawn-queue s d label c))
more-becomes (BusChange.puts k at item) b s c untaken uncut = more-put s at item c
more-becomes (BusChange.injects k bytes) b side.Ap c untaken uncut = (_ ∷ [], refl)
more-becomes (BusChange.injects k bytes) b side.Far c untaken uncut =
    more-same side.Far c (becomes (BusChange.injects k bytes) b c) refl
more-becomes (BusChange.wires k) b side.Ap c untaken uncut =
    more-same side.Ap c (becomes (BusChange.wires k) b c) refl
more-becomes (BusChange.wires k) b side.Far c untaken uncut =
    more-same side.Far c (becomes (BusChange.wires k) b c) refl
more-becomes (BusChange.shuts k) b side.Ap c untaken uncut =
    more-same side.Ap c (becomes (BusChange.shuts k) b c) refl
more-becomes (BusChange.shuts k) b side.Far c untaken uncut =
    more-same side.Far c (becomes (BusChange.shuts k) b c) refl
more-becomes _ b s c untaken uncut = more-same s c c refl

-- ---- the bus

gone-cut : (x : BusChange) (k : ℕ) → left_by x ≡ Some k → cuts_of x ≡ Some k
gone-cut (BusChange.leaves j) k e = e
gone-cut _ k e = absurd cc

-- What stays in front stays so, where nothing is taken and the connection isn't cut.
pub left-after : (x : BusChange) (k : ℕ) (at : Side) (front : List Item) {b : Bus} → IsUntaken x
    → (cuts_of x ≡ Some k → ⊥) → IsLeft k at front b → IsLeft k at front (bus_after x b)
left-after x k at front {b} untaken uncut h = by (what-becomes x b h.connection h.live)
  where
    by : Becomes x b h.connection → IsLeft k at front (bus_after x b)
    by (stays o) = record {
      connection = h.connection;
      more = h.more;
      live = o;
      number = h.number;
      wired = h.wired;
      left = h.left;
    }
    by (changes same o) =
        let apart : cuts_of x ≡ Some (number_of x) → ⊥ =
        λ e. uncut (e ∙ ap Some (sym same ∙ h.number)) in
        let g = goes x b h.connection in
        let w = more-becomes x b at h.connection untaken apart in record {
          connection = becomes x b h.connection;
          more = h.more ++ w.0;
          live = o;
          number = g.ends.number ∙ h.number;
          wired = g.wired ∙ ap (wired_by x) h.wired ∙ uncut-by x apart;
          left = w.1 ∙ ap (λ is. is ++ w.0) h.left ∙ append_assoc front h.more w.0;
        }
    by (is_gone e) = absurd (uncut (gone-cut x k (e ∙ ap Some h.number)))

-- ---- once the front item is taken

without-left : (at : Side) (c : Connection)
    → (queue at (without_front at c) ≡ behind_first (queue at c) ++ [])
    × ((without_front at c).wired ≡ c.wired) × ((without_front at c).number ≡ c.number)
without-left side.Ap c = (sym (append-nil (behind_first c.to_ap)), refl, refl)
without-left side.Far c = (sym (append-nil (behind_first c.to_far)), refl, refl)

pub popped-left : (at : Side) (c : Connection) (b : Bus) → EachTwo IsBefore b.connections
    → IsIn c b.connections → c.wired ≡ true
    → IsLeft c.number at (behind_first (queue at c)) (popped c.number at b)
popped-left at c b rise live on =
    let w = without-left at c in
    let found : connection_of c.number (popped c.number at b) ≡ Some (without_front at c) =
    find-changed (has_number c.number) (without_front at) b.connections
    (λ x. ap (λ n. n == c.number) (without-left at x).2)
    ∙ ap (option_map (without_front at)) (found-by_number b.connections c rise live) in
    record {
      connection = without_front at c;
      more = [];
      live = (found-number c.number (popped c.number at b) (without_front at c) found).0;
      number = w.2;
      wired = w.1 ∙ on;
      left = w.0;
    }
