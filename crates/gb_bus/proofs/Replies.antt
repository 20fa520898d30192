-- A reply stands for the machine's.
use Rattle.std.proofs.Common.{◌≡◌, ◌≤◌, ℕ, ◌+◌, Bool, true, false, cond, Option, Some, None, Result}
use Rattle.std.proofs.Common.{Ok, Err, option_map, List, ◌∷◌, ◌++◌, refl, inr, subst, arith, sym}
use Rattle.std.proofs.Common.{ap, ◌∙◌}
use Rattle.gb_base.specs.declared.end.Side.{Side}
use Rattle.gb_base.specs.declared.reasons.RawFault.{RawFault}
use Rattle.gb_bus.proofs.Loosening.{fits-first}
use Rattle.gb_bus.proofs.ConnectionChanges.{put-last, put-shown, put-number, put-ops, shown-put}
use Rattle.gb_bus.proofs.Sides.{sides-changed}
use Rattle.gb_bus.proofs.Wires.{shows-connections}
use Rattle.gb_bus.specs.Delivering.{MayReply, Names, taken_from}
use Rattle.gb_bus.specs.Parts.{numbered, put}
use Rattle.gb_bus.specs.Shown.{item_in, reply_in}
use Rattle.gb_bus.specs.Stands.{Stands, around_of}
use Rattle.gb_bus.specs.Taking.{reply_by, reply_item}
use Rattle.gb_bus.specs.declared.answers.Asked.{Asked}
use Rattle.gb_bus.specs.declared.bus.Bus.{Bus}
use Rattle.gb_bus.specs.declared.queue.Item.{Item}
use Rattle.gb_bus.specs.declared.queue.Item.TheVariants as code
use Rattle.gb_formats.specs.Message.{Message}
use Rattle.gb_formats.specs.Wire.{raw_message}
use Rattle.gb_invariants.proofs.Apart.{apart-changed}
use Rattle.gb_invariants.proofs.Awaiting.{same-some}
use Rattle.gb_invariants.proofs.Changes.{raw-new, replied-keeps, reply-new}
use Rattle.gb_invariants.proofs.Counts.{one, times-cons}
use Rattle.gb_invariants.proofs.Items.{IsNew}
use Rattle.gb_invariants.proofs.Selves.{put-self}
use Rattle.gb_invariants.specs.Facts.{BusFits, Loose, times_in}
use Rattle.gb_machine.specs.Bus as machine
use Rattle.gb_machine.specs.Bus.{Connection, Request, other_side, request_of}
use Rattle.gb_machine.specs.Delivery.{replied}
use Rattle.gb_machine.specs.Incoming as machine_in
use Rattle.gb_machine.specs.Incoming.{Incoming, incoming, incoming_raw, is_request, raw_request}
use Rattle.gb_machine.specs.Incoming.{request_in}
use Rattle.gb_machine.specs.LawsBus.{is_item_of}
use Rattle.gb_machine.specs.Lists.{at_first}
use Rattle.gb_machine.specs.Members.{IsIn}
use Rattle.gb_machine.specs.Sending as sending
use Rattle.gb_machine.specs.Serving.{answer}

-- an item that was taken is replied to
record Replied (k : ℕ) (at : Side) (rest : List Loose) (item : machine.Item) (i : Item)
    (m : machine.Item) (b : machine.Bus) : Type 0 where
  is : i ≡ item_in b.requests m
  new : (c : Connection) → IsIn c b.connections → c.number ≡ k → IsNew b c (other_side at) m
  counts : (n : ℕ) → times_in (is_item_of n) rest b + one (is_item_of n) m
      ≤ times_in (is_item_of n) (taken_from k at item ∷ rest) b

-- the bus then
replies-with : (x y : Bus) (k : ℕ) (at : Side) (i : Item) (m item : machine.Item)
    (names : List ℕ) (before after : List Loose) (b : machine.Bus)
    → y ≡ record x { connections = at_first (numbered k) (put (other_side at) i) x.connections }
    → Stands (around_of (before ++ taken_from k at item ∷ after) names) x b
    → (BusFits (taken_from k at item ∷ before ++ after) b
    → Replied k at (before ++ after) item i m b)
    → Stands (around_of (before ++ after) names) y (replied k (other_side at) m b)
replies-with x y k at i m item names before after b moved s how =
    let rest = before ++ after in
    let fits = fits-first before (taken_from k at item) after b s.facts.fits in
    let r = how fits in
    subst (λ (w : Bus). Stands (around_of rest names) w (replied k (other_side at) m b))
    (sym moved) (record {
      shows = shows-connections names x b
          (at_first (numbered k) (put (other_side at) i) x.connections)
          (replied k (other_side at) m b).connections
          (shown-put b.requests k (other_side at) i m (sending.put (other_side at) m)
          x.connections b.connections r.is (put-shown b.requests (other_side at) m)
          s.shows.connections)
          (sides-changed x.connections b k (put (other_side at) i)
          (sending.put (other_side at) m) (put-number (other_side at) i)
          (λ c. (put-self (other_side at) m c).number) (put-ops (other_side at) i)
          (put-last (other_side at) m) s.shows.sides) s.shows;
      named = s.named;
      facts = record {
        fits = replied-keeps (taken_from k at item ∷ rest) rest k (other_side at) m b
            (λ l i. inr i) r.new r.counts fits;
        apart = apart-changed b k (sending.put (other_side at) m) (λ c.
            let f = put-self (other_side at) m c in
            record { number = f.number; ap = f.ap; peer = f.peer }) s.facts.apart;
      };
    })

-- request n is replied to
to-request : (k : ℕ) (at : Side) (rest : List Loose) (n label result : ℕ) (payload : List ℕ)
    (r : Request) (b : machine.Bus)
    → request_of n b ≡ Some r → r.oneway ≡ false → label ≡ r.label
    → BusFits (taken_from k at (machine.Ask n) ∷ rest) b
    → Replied k at rest (machine.Ask n) (reply_by (Some n) label result payload)
    (machine.Reply n result payload) b
to-request k at rest n label result payload r b made twoway label_is fits = record {
  is = ap (λ l. code.Reply n l result payload) label_is
      ∙ sym (ap (reply_in n result payload) made);
  new = reply-new rest b k n result payload at r made twoway fits;
  counts = λ j. let t = times-cons (λ (l : Loose). is_item_of j l.item)
      (taken_from k at (machine.Ask n)) rest in omega (arith, t);
}

-- a request that came as raw bytes is
to-raw : (k : ℕ) (at : Side) (rest : List Loose) (bytes : List ℕ) (m : Message) (label result : ℕ)
    (payload : List ℕ) (b : machine.Bus) → label ≡ m.id
    → BusFits (taken_from k at (machine.Raw bytes) ∷ rest) b
    → Replied k at rest (machine.Raw bytes) (reply_by None label result payload)
    (machine.RawReply m.id m.kind result payload) b
to-raw k at rest bytes m label result payload b label_is fits = record {
  is = ap (λ l. code.RawReply l result payload) label_is;
  new = raw-new rest b k m.id m.kind result bytes payload at fits;
  counts = λ j. let t = times-cons (λ (l : Loose). is_item_of j l.item)
      (taken_from k at (machine.Raw bytes)) rest in omega (arith, t);
}

-- ---- which request an item is

asked-is : (n : ℕ) (q : Incoming) (o : Option Request) → option_map (incoming n) o ≡ Some q
    → (r : Request) × (o ≡ Some r) × (incoming n r ≡ q)
asked-is n q None e = absurd cc
asked-is n q (Some r) e = (r, refl, same-some (incoming n r) q e)

raw-is : (q : Incoming) (w : Result Message RawFault) → raw_request w ≡ Some q
    → (m : Message) × (incoming_raw m ≡ q)
raw-is q (Err fault) e = absurd cc
raw-is q (Ok m) e = by (is_request m) e
  where
    by : (t : Bool) → cond t (Some (incoming_raw m)) None ≡ Some q
        → (m : Message) × (incoming_raw m ≡ q)
    by true f = (m, same-some (incoming_raw m) q f)
    by false f = absurd cc

-- The bus after a reply.
pub replies : (x y : Bus) (k : ℕ) (at : Side) (asked : Asked) (result : ℕ) (payload : List ℕ)
    (names : List ℕ) (before after : List Loose) (b : machine.Bus) (item : machine.Item)
    → y ≡ record x {
      connections = at_first (numbered k)
          (put (other_side at) (reply_item asked result payload)) x.connections;
    }
    → Stands (around_of (before ++ taken_from k at item ∷ after) names) x b
    → (may : MayReply asked b item)
    → Stands (around_of (before ++ after) names) y
    (replied k (other_side at) (machine_in.reply_item may.request (answer result payload)) b)
replies x y k at asked result payload names before after b item moved s may =
    by item may.request may.is may.names may.twoway s
  where
    -- the item that the bus puts in its queue, by the number
    puts : (o : Option ℕ) → asked.number ≡ o
        → y ≡ record x {
          connections = at_first (numbered k)
              (put (other_side at) (reply_by o asked.label result payload)) x.connections;
        }
    puts o e = subst (λ w. y ≡ record x {
      connections = at_first (numbered k)
          (put (other_side at) (reply_by w asked.label result payload)) x.connections;
    }) e moved

    by : (item : machine.Item) (q : Incoming) → request_in item b ≡ Some q → Names asked q
        → q.oneway ≡ false
        → Stands (around_of (before ++ taken_from k at item ∷ after) names) x b
        → Stands (around_of (before ++ after) names) y
        (replied k (other_side at) (machine_in.reply_item q (answer result payload)) b)
    by (machine.Ask n) q e is twoway s =
        let a = asked-is n q (request_of n b) e in
        subst (λ (w : Incoming). Names asked w → w.oneway ≡ false
        → Stands (around_of (before ++ after) names) y
        (replied k (other_side at) (machine_in.reply_item w (answer result payload)) b)) a.2
        (λ is twoway. replies-with x y k at (reply_by (Some n) asked.label result payload)
        (machine.Reply n result payload) (machine.Ask n) names before after b
        (puts (Some n) is.number) s
        (to-request k at (before ++ after) n asked.label result payload a.0 b a.1 twoway is.label))
        is twoway
    by (machine.Raw bytes) q e is twoway s =
        let a = raw-is q (raw_message bytes) e in
        subst (λ (w : Incoming). Names asked w
        → Stands (around_of (before ++ after) names) y
        (replied k (other_side at) (machine_in.reply_item w (answer result payload)) b)) a.1
        (λ is. replies-with x y k at (reply_by None asked.label result payload)
        (machine.RawReply a.0.id a.0.kind result payload) (machine.Raw bytes) names before after b
        (puts None is.number) s
        (to-raw k at (before ++ after) bytes a.0 asked.label result payload b is.label)) is
    by (machine.Reply n r bytes) q e is twoway s = absurd cc
    by (machine.RawReply l j r bytes) q e is twoway s = absurd cc
