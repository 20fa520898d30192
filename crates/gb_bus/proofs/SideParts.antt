-- What a change of one connection leaves of its number and of its sides.
use Rattle.std.proofs.Common.{◌≡◌, ℕ, Bool, true, false, cond, refl, ap, ◌∙◌}
use Rattle.gb_base.specs.declared.end.End.{End}
use Rattle.gb_base.specs.declared.end.Side.{Side}
use Rattle.gb_base.specs.declared.end.Side.TheVariants as side
use Rattle.gb_bus.proofs.ConnectionChanges.{put-last}
use Rattle.gb_bus.specs.Parts.{new_connection, ops_of, with_ops}
use Rattle.gb_bus.specs.Connection.{Connection}
use Rattle.gb_machine.specs.Bus as machine
use Rattle.gb_machine.specs.Labels.{last_label, with_last_label}
use Rattle.gb_machine.specs.Sending as sending
use Rattle.gb_machine.specs.Sending.{Draft, drawn, queued}
use Rattle.gb_machine.specs.Wiring as wiring
use Rattle.gb_ops.specs.Calls.{no_operations}
use Rattle.gb_ops.specs.Operations.{Operations}

-- ---- other operations of a side

pub with_ops-own : (at : Side) (o : Operations) (x : Connection) → ops_of at (with_ops at o x) ≡ o
with_ops-own side.Ap o x = refl
with_ops-own side.Far o x = refl

pub with_ops-other : (at on : Side) (o : Operations) (x : Connection) → (at ≡ on → ⊥)
    → ops_of on (with_ops at o x) ≡ ops_of on x
with_ops-other side.Ap side.Ap o x other = absurd (other refl)
with_ops-other side.Far side.Far o x other = absurd (other refl)
with_ops-other side.Ap side.Far o x other = refl
with_ops-other side.Far side.Ap o x other = refl

queued-number : (at : Side) (i : machine.Item) (c : machine.Connection)
    → (queued at i c).number ≡ c.number
queued-number side.Ap i c = refl
queued-number side.Far i c = refl

put-stays : (at : Side) (i : machine.Item) (c : machine.Connection)
    → (sending.put at i c).number ≡ c.number
put-stays at i c = by c.wired
  where
    by : (t : Bool) → (cond t (queued at i c) c).number ≡ c.number
    by true = queued-number at i c
    by false = refl

-- ---- an identifier is drawn

labelled-number : (at : Side) (label : ℕ) (c : machine.Connection)
    → (with_last_label at label c).number ≡ c.number
labelled-number side.Ap label c = refl
labelled-number side.Far label c = refl

drawn-number : (d : Draft) (label : ℕ) (c : machine.Connection)
    → (drawn d label c).number ≡ c.number
drawn-number d label c = by d.oneway
  where
    by : (t : Bool) → (cond t c (with_last_label d.side label c)).number ≡ c.number
    by true = refl
    by false = labelled-number d.side label c

labelled-own : (at : Side) (label : ℕ) (c : machine.Connection)
    → last_label at (with_last_label at label c) ≡ label
labelled-own side.Ap label c = refl
labelled-own side.Far label c = refl

labelled-other : (on at : Side) (label : ℕ) (c : machine.Connection) → (at ≡ on → ⊥)
    → last_label on (with_last_label at label c) ≡ last_label on c
labelled-other side.Ap side.Ap label c other = absurd (other refl)
labelled-other side.Far side.Far label c other = absurd (other refl)
labelled-other side.Ap side.Far label c other = refl
labelled-other side.Far side.Ap label c other = refl

drawn-other : (on : Side) (d : Draft) (label : ℕ) (c : machine.Connection) → (d.side ≡ on → ⊥)
    → last_label on (drawn d label c) ≡ last_label on c
drawn-other on d label c other = by d.oneway
  where
    by : (t : Bool) → last_label on (cond t c (with_last_label d.side label c)) ≡ last_label on c
    by true = refl
    by false = labelled-other on d.side label c other

-- ---- the connection on which a request is made

-- it draws the identifier, and has the message where it is wired
abbrev pub asking : Draft → ℕ → machine.Item → machine.Connection → machine.Connection
asking d label i c = sending.put (machine.other_side d.side) i (drawn d label c)

pub asking-number : (d : Draft) (label : ℕ) (i : machine.Item) (c : machine.Connection)
    → (asking d label i c).number ≡ c.number
asking-number d label i c =
    put-stays (machine.other_side d.side) i (drawn d label c) ∙ drawn-number d label c

pub asking-own : (d : Draft) (label : ℕ) (i : machine.Item) (c : machine.Connection)
    → d.oneway ≡ false → last_label d.side (asking d label i c) ≡ label
asking-own d label i c twoway =
    put-last (machine.other_side d.side) i d.side (drawn d label c)
    ∙ ap (λ t. last_label d.side (cond t c (with_last_label d.side label c))) twoway
    ∙ labelled-own d.side label c

pub asking-other : (on : Side) (d : Draft) (label : ℕ) (i : machine.Item) (c : machine.Connection)
    → (d.side ≡ on → ⊥) → last_label on (asking d label i c) ≡ last_label on c
asking-other on d label i c other =
    put-last (machine.other_side d.side) i on (drawn d label c) ∙ drawn-other on d label c other

pub asking-oneway : (on : Side) (d : Draft) (label : ℕ) (i : machine.Item)
    (c : machine.Connection)
    → d.oneway ≡ true → last_label on (asking d label i c) ≡ last_label on c
asking-oneway on d label i c oneway =
    put-last (machine.other_side d.side) i on (drawn d label c)
    ∙ ap (λ t. last_label on (cond t c (with_last_label d.side label c))) oneway

-- ---- a new connection

pub new-ops : (at : Side) (k a : ℕ) (peer : End) (protocol : ℕ)
    → no_operations ≡ ops_of at (new_connection k a peer protocol)
new-ops side.Ap k a peer protocol = refl
new-ops side.Far k a peer protocol = refl

pub new-last : (at : Side) (k a : ℕ) (peer : End) (protocol : ℕ)
    → 0 ≡ last_label at (wiring.new_connection k a peer protocol)
new-last side.Ap k a peer protocol = refl
new-last side.Far k a peer protocol = refl
