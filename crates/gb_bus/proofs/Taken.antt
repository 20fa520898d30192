-- The bus once the front item of a place is taken, and what becomes of it then.
use Rattle.std.proofs.Common.{◌≡◌, ℕ, ◌==◌, Bool, true, false, cond, not, Some, List, [], ◌∷◌, refl}
use Rattle.std.proofs.Common.{sym, ap, ◌∙◌, inl, subst, arith}
use Rattle.std.specs.List.{find}
use Rattle.gb_base.specs.declared.end.Side.{Side}
use Rattle.gb_base.specs.declared.end.Side.TheVariants as side
use Rattle.gb_base.specs.declared.outcome.Outcome.{Outcome}
use Rattle.gb_bus.proofs.Endings.{shows-ended, shows-forgotten}
use Rattle.gb_bus.proofs.Finding.{twin}
use Rattle.gb_bus.proofs.Loosening.{fits-without}
use Rattle.gb_bus.proofs.ConnectionChanges.{front-last, front-shown, front-ops, front-seen}
use Rattle.gb_bus.proofs.ConnectionChanges.{queue-number}
use Rattle.gb_bus.proofs.Sides.{sides-changed}
use Rattle.gb_bus.proofs.Standing.{AreShown, IsShown, changed}
use Rattle.gb_bus.proofs.Wires.{shows-connections}
use Rattle.gb_bus.specs.Connection.{Connection}
use Rattle.gb_bus.specs.Delivering.{taken_at, taken_from}
use Rattle.gb_bus.specs.Moving.{ChangesRequest}
use Rattle.gb_bus.specs.Parts.{is_soiled, is_unclean, numbered, queue_of, without_front}
use Rattle.gb_bus.specs.Slots.{ended_at, ends_so, forgets}
use Rattle.gb_bus.specs.Stands.{AreMade, Around, KeepSides, Shows, Stands}
use Rattle.gb_bus.specs.declared.bus.Bus.{Bus}
use Rattle.gb_invariants.proofs.Apart.{apart-changed}
use Rattle.gb_invariants.proofs.Awaiting.{not-both, same-some}
use Rattle.gb_invariants.proofs.Changes.{ended-keeps, forgotten-keeps, popped-keeps}
use Rattle.gb_invariants.proofs.Changes.{unclean-answers}
use Rattle.gb_invariants.proofs.ItemChanges.{NoneAnswers}
use Rattle.gb_invariants.proofs.Numbers.{found-number}
use Rattle.gb_invariants.proofs.Selves.{front-self}
use Rattle.gb_invariants.specs.Facts.{BusFits, Loose, is_numbered}
use Rattle.gb_machine.specs.Bus as machine
use Rattle.gb_machine.specs.Bus.{Place, Request, is_open, queue}
use Rattle.gb_machine.specs.Bus.{request_of}
use Rattle.gb_machine.specs.Delivery as delivery
use Rattle.gb_machine.specs.Delivery.{ended, forgotten}
use Rattle.gb_machine.specs.LawsBus.{AreApart}
use Rattle.gb_machine.specs.Lists.{at_first, behind_first, first}
use Rattle.gb_machine.specs.Members.{EachTwo, IsIn}

-- the item that was taken, out of the queues
abbrev pub loose_at : Place → machine.Item → Loose
loose_at p item = taken_from p.connection.number p.side item

-- what holds once the front item of a place is taken
pub record Taken (around : Around) (y : Bus) (p : Place) (b : machine.Bus)
    (item : machine.Item) : Type 0 where
  pub shows : Shows around.names y (taken_at p b)
  pub named : AreMade around.names b
  pub fits : BusFits (loose_at p item ∷ around.items) (taken_at p b)
  pub apart : EachTwo AreApart (taken_at p b).connections
  pub found : Connection
  pub there : find (numbered p.connection.number) y.connections ≡ Some found
  pub clean : found.clean ≡ p.connection.clean

-- the bus, the item being handled
pub settled : (around : Around) (y : Bus) (p : Place) (b : machine.Bus) (item : machine.Item)
    → Taken around y p b item → Stands around y (taken_at p b)
settled around y p b item t = record {
  shows = t.shows;
  named = t.named;
  facts = record
      { fits = fits-without (loose_at p item) around.items (taken_at p b) t.fits; apart = t.apart };
}

-- the bus once an open request is answered by the item
pub stands-ended : (around : Around) (y z : Bus) (b : machine.Bus) (p : Place)
    (item : machine.Item) (n : ℕ) (how : Outcome)
    → Taken around y p b item → is_open n b ≡ true
    → AreShown b.requests z.connections (taken_at p b).connections
    → KeepSides z.connections (ended n how (taken_at p b))
    → NoneAnswers around.items (taken_at p b) n
    → ChangesRequest y z n (ends_so how) (ended_at n how y.slots)
    → Stands around z (ended n how (taken_at p b))
stands-ended around y z b p item n how t unended shown sides none after =
    let fits = fits-without (loose_at p item) around.items (taken_at p b) t.fits in
    let stays : Stands around (record y { connections = z.connections; slots = z.slots })
    (ended n how (taken_at p b)) = record {
      shows = shows-ended around.names y (taken_at p b) n how z.connections z.slots fits.outcomes
          unended shown sides after.moves t.shows;
      named = t.named;
      facts = record {
        fits = ended-keeps around.items around.items n how (taken_at p b) unended (λ l i. i)
            (λ m. omega arith) none fits;
        apart = t.apart;
      };
    } in
    subst (λ (w : Bus). Stands around w (ended n how (taken_at p b))) (sym after.rest) stays

-- the bus once one that was given up is
pub stands-forgotten : (around : Around) (y z : Bus) (b : machine.Bus) (p : Place)
    (item : machine.Item) (n : ℕ)
    → Taken around y p b item → is_open n b ≡ false
    → AreShown b.requests z.connections (taken_at p b).connections
    → KeepSides z.connections (forgotten n (taken_at p b))
    → NoneAnswers around.items (taken_at p b) n
    → ChangesRequest y z n forgets y.slots.tally
    → Stands around z (forgotten n (taken_at p b))
stands-forgotten around y z b p item n t closed shown sides none after =
    let fits = fits-without (loose_at p item) around.items (taken_at p b) t.fits in
    let stays : Stands around (record y { connections = z.connections; slots = z.slots })
    (forgotten n (taken_at p b)) = record {
      shows = shows-forgotten around.names y (taken_at p b) n z.connections z.slots closed shown
          sides after.moves t.shows;
      named = t.named;
      facts = record {
        fits = forgotten-keeps around.items around.items n (taken_at p b) (λ l i. i)
            (λ m. omega arith) none fits;
        apart = t.apart;
      };
    } in
    subst (λ (w : Bus). Stands around w (forgotten n (taken_at p b))) (sym after.rest) stays

-- ---- clean or not

-- the bus knows whether the connection is clean
pub unclean-is : (around : Around) (y : Bus) (p : Place) (b : machine.Bus) (item : machine.Item)
    → Taken around y p b item
    → is_unclean p.connection.number y.connections ≡ not p.connection.clean
unclean-is around y p b item t = ap is_soiled t.there ∙ ap not t.clean

-- an item without a number was taken from an unclean connection
pub unnumbered-unclean : (around : Around) (y : Bus) (p : Place) (b : machine.Bus)
    (item : machine.Item)
    → Taken around y p b item → is_numbered item ≡ false → p.connection.clean ≡ false
unnumbered-unclean around y p b item t numberless = by p.connection.clean refl
  where
    by : (w : Bool) → p.connection.clean ≡ w → w ≡ false
    by false e = refl
    by true e =
        let k = p.connection.number in
        let two = twin b.requests k y.connections (taken_at p b).connections t.found
        t.shows.connections t.there in
        let f = found-number k (taken_at p b) two.connection two.live in
        let a = t.fits.items.answerable_loose two.connection (loose_at p item) f.0 (inl refl) f.1 in
        absurd (not-both (is_numbered item)
        (a.numbered (sym (ap (λ (v : Connection). v.clean) two.shown) ∙ t.clean ∙ e)) numberless)

-- nothing that was taken answers a request of an unclean connection
pub unclean-none : (around : Around) (y : Bus) (p : Place) (b : machine.Bus) (item : machine.Item)
    (n : ℕ) (r : Request)
    → Taken around y p b item → p.connection.clean ≡ false → request_of n b ≡ Some r
    → r.connection ≡ p.connection.number → NoneAnswers around.items (taken_at p b) n
unclean-none around y p b item n r t unclean made on =
    let k = p.connection.number in
    let two = twin b.requests k y.connections (taken_at p b).connections t.found
    t.shows.connections t.there in
    let f = found-number k (taken_at p b) two.connection two.live in
    unclean-answers around.items (taken_at p b) n r two.connection
    (fits-without (loose_at p item) around.items (taken_at p b) t.fits) made f.0 (on ∙ sym f.1)
    (sym (ap (λ (v : Connection). v.clean) two.shown) ∙ t.clean ∙ unclean)

-- ---- the item is taken

-- the connection with a number is found still once it changes
found-changed : (k : ℕ) (f : Connection → Connection) (xs : List Connection) (x : Connection)
    → ((v : Connection) → (f v).number ≡ v.number) → find (numbered k) xs ≡ Some x
    → find (numbered k) (at_first (numbered k) f xs) ≡ Some (f x)
found-changed k f [] x same e = absurd cc
found-changed k f (y ∷ ys) x same e = by (numbered k y) refl e (found-changed k f ys x same)
  where
    by : (t : Bool) → numbered k y ≡ t → cond t (Some y) (find (numbered k) ys) ≡ Some x
        → (find (numbered k) ys ≡ Some x
        → find (numbered k) (at_first (numbered k) f ys) ≡ Some (f x))
        → find (numbered k) (cond t (f y ∷ ys) (y ∷ at_first (numbered k) f ys)) ≡ Some (f x)
    by true is e later =
        ap (λ t. cond t (Some (f y)) (find (numbered k) ys)) (ap (λ n. n == k) (same y) ∙ is)
        ∙ ap (λ v. Some (f v)) (same-some y x e)
    by false is e later =
        ap (λ t. cond t (Some y) (find (numbered k) (at_first (numbered k) f ys))) is ∙ later e

-- once the front message is taken
pub taken : (around : Around) (x y : Bus) (b : machine.Bus) (p : Place) (item : machine.Item)
    (found : Connection)
    → Stands around x b → IsIn p.connection b.connections
    → first (queue p.side p.connection) ≡ Some item
    → find (numbered p.connection.number) x.connections ≡ Some found
    → IsShown b.requests found p.connection
    → y ≡ record x {
      connections = at_first (numbered p.connection.number) (without_front p.side)
          x.connections;
    } → Taken around y p b item
taken around x y b p item found s live front looks shown e =
    let k = p.connection.number in
    let rest = λ (v : Connection). behind_first (queue_of p.side v) in
    subst (λ (w : Bus). Taken around w p b item) (sym e) (record {
      shows = shows-connections around.names x b
          (at_first (numbered k) (without_front p.side) x.connections)
          (taken_at p b).connections
          (changed b.requests k (without_front p.side) (delivery.without_front p.side)
          (without_front p.side) x.connections b.connections (front-seen p.side)
          (front-shown b.requests p.side) s.shows.connections)
          (sides-changed x.connections b k (without_front p.side) (delivery.without_front p.side)
          (λ v. queue-number p.side (rest v) v) (λ c. (front-self p.side c).number)
          (front-ops p.side) (front-last p.side) s.shows.sides) s.shows;
      named = s.named;
      fits = popped-keeps around.items p.side item p.connection b live front s.facts.fits;
      apart = apart-changed b k (delivery.without_front p.side)
          (λ c. let f = front-self p.side c in
          record { number = f.number; ap = f.ap; peer = f.peer }) s.facts.apart;
      found = without_front p.side found;
      there = found-changed k (without_front p.side) x.connections found
          (λ v. queue-number p.side (rest v) v) looks;
      clean = front-clean p.side found ∙ ap (λ (v : Connection). v.clean) shown;
    })
  where
    front-clean : (at : Side) (v : Connection) → (without_front at v).clean ≡ v.clean
    front-clean side.Ap v = refl
    front-clean side.Far v = refl
