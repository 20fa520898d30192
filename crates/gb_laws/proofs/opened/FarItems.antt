-- Raw bytes never wait toward a far end, in each state of a run.
use Rattle.std.proofs.Common.{◌≡◌, ℕ, Bool, true, false, cond, Option, Some, None, List, [], ◌∷◌}
use Rattle.std.proofs.Common.{inl, inr, refl, sym, ap, ◌∙◌, subst, ⊎_elim}
use Rattle.gb_base.specs.declared.end.Side.{Side}
use Rattle.gb_base.specs.declared.end.Side.TheVariants as side
use Rattle.gb_base.specs.declared.entry.Entry.{Entry}
use Rattle.gb_invariants.proofs.Labels.{asked_on}
use Rattle.gb_invariants.proofs.Lists.{in-at_first, in-pushed, in-without}
use Rattle.gb_laws.proofs.points.Awaited.{awaited-rest}
use Rattle.gb_laws.proofs.basis.Basics.{Based, basis, basis-first, rested}
use Rattle.gb_laws.proofs.points.PointParts.{Point}
use Rattle.gb_laws.proofs.points.Points.{Change, Law, acts_asked, acts_left, acts_made, acts_shut}
use Rattle.gb_laws.proofs.points.Points.{asks}
use Rattle.gb_laws.proofs.points.Points.{changed, injects, names, replies, takes, unwires, upon}
use Rattle.gb_laws.proofs.points.Points.{wires}
use Rattle.gb_laws.proofs.runs.Runs.{HoldsByMoments, throughout, weaker}
use Rattle.gb_laws.proofs.steps.Steps.{over-step}
use Rattle.gb_machine.specs.Bus.{Ask, Bus, Connection, Item, Raw, RawReply, Reply, has_number}
use Rattle.gb_machine.specs.Bus.{next_number, other_side, svc_connection}
use Rattle.gb_machine.specs.Delivery.{without_front}
use Rattle.gb_machine.specs.Incoming.{Incoming, reply_item, reply_to}
use Rattle.gb_machine.specs.Labels.{with_last_label}
use Rattle.gb_machine.specs.Lists.{at_first, behind_first}
use Rattle.gb_machine.specs.Members.{IsIn}
use Rattle.gb_machine.specs.Runs.{Moment}
use Rattle.gb_machine.specs.Sending.{Draft, drawn, put, queued}
use Rattle.gb_machine.specs.Serving.{Answer}
use Rattle.gb_machine.specs.State.{State}

-- an item is raw bytes
abbrev pub is_raw : Item → Bool
is_raw (Raw bytes) = true
is_raw (Ask n) = false
is_raw (Reply n result payload) = false
is_raw (RawReply label kind result payload) = false

-- none of these items is
abbrev pub NoneRaw : List Item → Type 0
NoneRaw items = (item : Item) → IsIn item items → is_raw item ≡ false

-- none that waits toward a far end is
abbrev pub NoneRawToFar : List Connection → Type 0
NoneRawToFar cs = (c : Connection) → IsIn c cs → NoneRaw c.to_far

-- ---- a connection changes

-- an item goes toward a side
unraw-put : (at : Side) (item : Item) (c : Connection) → is_raw item ≡ false → NoneRaw c.to_far
    → NoneRaw (put at item c).to_far
unraw-put at item c plain h = by at c.wired
  where
    by : (s : Side) (t : Bool) → NoneRaw (cond t (queued s item c) c).to_far
    by s false = h
    by side.Ap true = h
    by side.Far true = λ i k.
        ⊎_elim (h i) (λ e. ap is_raw e ∙ plain) (in-pushed i c.to_far item k)

-- an identifier is drawn
drawn-far : (d : Draft) (label : ℕ) (c : Connection) → (drawn d label c).to_far ≡ c.to_far
drawn-far d label c = by d.side d.oneway
  where
    by : (s : Side) (t : Bool) → (cond t c (with_last_label s label c)).to_far ≡ c.to_far
    by s true = refl
    by side.Ap false = refl
    by side.Far false = refl

-- a request goes toward the other side
unraw-asked : (d : Draft) (label : ℕ) (b : Bus) (c : Connection) → NoneRaw c.to_far
    → NoneRaw (asked_on d label b c).to_far
unraw-asked d label b c h =
    unraw-put (other_side d.side) (Ask (next_number b)) (drawn d label c) refl
    (subst NoneRaw (sym (drawn-far d label c)) h)

-- a reply is no raw bytes
reply-plain : (q : Incoming) (r : Answer) → is_raw (reply_item q r) ≡ false
reply-plain q r = by q.number
  where
    by : (o : Option ℕ) → is_raw (reply_to o q r) ≡ false
    by None = refl
    by (Some n) = refl

-- the front item is taken
unraw-front : (at : Side) (c : Connection) → NoneRaw c.to_far
    → NoneRaw (without_front at c).to_far
unraw-front side.Ap c h = h
unraw-front side.Far c h = by c.to_far h
  where
    by : (items : List Item) → NoneRaw items → NoneRaw (behind_first items)
    by [] g = g
    by (x ∷ xs) g = λ i k. g i (inr k)

-- one connection changes
unraw-changed : (cs : List Connection) (k : ℕ) (change : Connection → Connection)
    → ((c : Connection) → NoneRaw c.to_far → NoneRaw (change c).to_far) → NoneRawToFar cs
    → NoneRawToFar (at_first (has_number k) change cs)
unraw-changed cs k change keeps h c live =
    ⊎_elim (λ old. h c old)
    (λ w. subst (λ (x : Connection). NoneRaw x.to_far) (sym w.3) (keeps w.0 (h w.0 w.1)))
    (in-at_first (has_number k) change cs c live)

-- ---- each single change

pub unraw-kept : (m : Moment) (a : Point) (x : Change m a)
    → NoneRawToFar a.state.bus.connections → NoneRawToFar (changed m a x).state.bus.connections
unraw-kept m a (asks d c label free live got who) h =
    unraw-changed a.state.bus.connections d.connection (asked_on d label a.state.bus)
    (unraw-asked d label a.state.bus) h
unraw-kept m a (names name d c label free live got host) h =
    unraw-changed a.state.bus.connections d.connection (asked_on d label a.state.bus)
    (unraw-asked d label a.state.bus) h
unraw-kept m a (takes at p item free start is named front) h =
    unraw-changed a.state.bus.connections p.connection.number (without_front p.side)
    (unraw-front p.side) h
unraw-kept m a (replies x q r is made twoway) h =
    unraw-changed a.state.bus.connections x.connection.number
    (put (other_side x.side) (reply_item q r))
    (λ c. unraw-put (other_side x.side) (reply_item q r) c (reply-plain q r)) h
unraw-kept m a (wires k free untouched live powered) h =
    unraw-changed a.state.bus.connections k (λ c. record c { wired = true }) (λ c g. g) h
unraw-kept m a (unwires k free before live) h =
    unraw-changed a.state.bus.connections k
    (λ c. record c { wired = false; to_ap = []; to_far = [] }) (λ c g i n. absurd n) h
unraw-kept m a (injects i c p bytes free named) h =
    unraw-changed a.state.bus.connections p.connection.number
    (λ x. queued side.Ap (Raw bytes) (record x { clean = false })) (λ x g. g) h
unraw-kept m a (acts_shut k rest free is cause) h =
    unraw-changed a.state.bus.connections k (λ c. record c { shut = true }) (λ c g. g) h
unraw-kept m a (acts_left k rest free untouched is) h = λ c live.
    h c (in-without (has_number k) a.state.bus.connections c live).0
unraw-kept m a (acts_made w q rest free is) h = λ c live.
    ⊎_elim (h c) (λ e. subst (λ (x : Connection). NoneRaw x.to_far) (sym e) (λ i n. absurd n))
    (in-pushed c a.state.bus.connections _ live)
unraw-kept m a (acts_asked q n rest is) h =
    subst NoneRawToFar
    (sym (ap (λ (b : Bus). b.connections) (awaited-rest q.purpose n {s = a.state}).bus)) h
unraw-kept m a _ h = h

-- ---- throughout

unraw-first : NoneRawToFar (svc_connection ∷ [])
unraw-first c (inl e) = subst (λ (x : Connection). NoneRaw x.to_far) (sym e) (λ i n. absurd n)
unraw-first c (inr n) = absurd n

abbrev pub unraw_law : (m : Moment) → Law m
unraw_law m =
    upon (basis m) (λ a. NoneRawToFar a.state.bus.connections) (λ a x g h. unraw-kept m a x h)

abbrev pub UnrawTo : List Entry → State → Type 0
UnrawTo told s = Based told s × NoneRawToFar s.bus.connections

pub unraw-throughout : HoldsByMoments (λ told s. NoneRawToFar s.bus.connections)
unraw-throughout = weaker UnrawTo (λ told s. NoneRawToFar s.bus.connections) (λ told s h. h.1)
    (throughout UnrawTo (basis-first, unraw-first) (λ m one h.
    let r = over-step m (unraw_law m) one h in (rested _ _ r.0 r.1.0, r.1.1)))
