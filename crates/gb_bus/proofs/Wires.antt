-- Connections that are made, wired, unwired, closed and removed stand for the machine's.
use Rattle.std.proofs.Common.{◌≡◌, ◌≤◌, ℕ, ◌+◌, ◌==◌, Bool, cond, not, true, false, eqb, nat_le}
use Rattle.std.proofs.Common.{List, [], ◌∷◌, ◌++◌, map, refl, sym, ap, ◌∙◌, subst, arith}
use Rattle.std.proofs.lemmas.Bool.Decides.{nat_tests}
use Rattle.gb_base.specs.declared.end.End.TheVariants as end
use Rattle.gb_base.specs.declared.end.Side.{Side}
use Rattle.gb_base.specs.declared.end.Side.TheVariants as side
use Rattle.gb_bus.proofs.Changing.{twice}
use Rattle.gb_bus.proofs.Closing.{are-open, opened-on, tell_closed, tells-side}
use Rattle.gb_bus.proofs.Counted.{tells-same}
use Rattle.gb_bus.proofs.ConnectionChanges.{wire-last, wire-ops}
use Rattle.gb_bus.proofs.Sides.{sides-attached, sides-changed, sides-closed, sides-detached}
use Rattle.gb_bus.proofs.Standing.{AreShown, changed, one-more, removed}
use Rattle.gb_bus.specs.Counting.{Tells}
use Rattle.gb_bus.specs.Listing.{AreThose}
use Rattle.gb_bus.specs.Parts.{cleared, closed, new_connection, numbered, ops_of, with_ops}
use Rattle.gb_bus.specs.Parts.{with_wire}
use Rattle.gb_bus.specs.Seen.{connection_before}
use Rattle.gb_bus.specs.Shown.{connection_in, without_ops}
use Rattle.gb_bus.specs.Slots.{Closes, SlotsKept, all_disconnected, is_late_on, is_open_on, slot_at}
use Rattle.gb_bus.specs.Stands.{Around, KeepSides, Keeps, Shows, Stands}
use Rattle.gb_bus.specs.Wiring.{Attaches, EndsAs, IsOther, MayAttach, elsewhere}
use Rattle.gb_bus.specs.declared.bus.Bus.{Bus}
use Rattle.gb_bus.specs.Connection.{Connection}
use Rattle.gb_invariants.proofs.Apart.{apart-attached, apart-changed, apart-detached}
use Rattle.gb_invariants.proofs.Changes.{attached-keeps, detached-keeps, shut-keeps, unwired-keeps}
use Rattle.gb_invariants.proofs.Changes.{wired-keeps}
use Rattle.gb_invariants.proofs.Awaiting.{not-both}
use Rattle.gb_invariants.proofs.Counts.{times-filter}
use Rattle.gb_invariants.proofs.Lists.{each-from, each-in, each-weaker, in-without}
use Rattle.gb_invariants.proofs.Outcomes.{is-same}
use Rattle.gb_invariants.specs.Facts.{IsMade, Loose, times_in}
use Rattle.gb_machine.specs.Bus as machine
use Rattle.gb_machine.specs.Labels.{last_label}
use Rattle.gb_machine.specs.LawsBus.{AreApart, is_item_of}
use Rattle.gb_machine.specs.Lists.{at_first, in_order, without}
use Rattle.gb_machine.specs.Members.{Each, IsIn}
use Rattle.gb_machine.specs.Wiring as wiring
use Rattle.gb_machine.specs.Wiring.{attached, detached, next_connection, shut_down, side_ended}
use Rattle.gb_machine.specs.Wiring.{unwired, wired, with_connection}
use Rattle.gb_ops.specs.Calls.{emptied}

-- only connections change
pub shows-connections : (names : List ℕ) (x : Bus) (b : machine.Bus) (xs : List Connection)
    (cs : List machine.Connection)
    → AreShown b.requests xs cs → KeepSides xs (record b { connections = cs }) → Shows names x b
    → Shows names (record x { connections = xs }) (record b { connections = cs })
shows-connections names x b xs cs h sides s = record {
  made = s.made;
  connections = h;
  sides = sides;
  slots = s.slots;
  tally = tells-same x.slots.tally b (record b { connections = cs }) refl (λ m. refl) s.tally;
}

pub wires : (around : Around) (x y : Bus) (b : machine.Bus) (k : ℕ) → Stands around x b
    → y ≡ record x { connections = at_first (numbered k) with_wire x.connections }
    → Stands around y (wired k b)
wires around x y b k s e =
    subst (λ (w : Bus). Stands around w (wired k b)) (sym e) (record {
      shows = shows-connections around.names x b (at_first (numbered k) with_wire x.connections)
          (wired k b).connections
          (changed b.requests k with_wire (λ c. record c { wired = true }) with_wire x.connections
          b.connections (λ v. refl) (λ c. refl) s.shows.connections)
          (sides-changed x.connections b k with_wire (λ c. record c { wired = true }) (λ v. refl)
          (λ c. refl) wire-ops wire-last s.shows.sides) s.shows;
      named = s.named;
      facts = record {
        fits = wired-keeps around.items k b s.facts.fits;
        apart = apart-changed b k (λ c. record c { wired = true })
            (λ c. record { number = refl; ap = refl; peer = refl }) s.facts.apart;
      };
    })

pub detaches : (around : Around) (x y : Bus) (b : machine.Bus) (k : ℕ) → Stands around x b
    → y ≡ record x { connections = without (numbered k) x.connections }
    → Stands around y (detached k b)
detaches around x y b k s e =
    subst (λ (w : Bus). Stands around w (detached k b)) (sym e) (record {
      shows = shows-connections around.names x b (without (numbered k) x.connections)
          (detached k b).connections
          (removed b.requests k x.connections b.connections s.shows.connections)
          (sides-detached x.connections b k s.shows.sides) s.shows;
      named = s.named;
      facts = record {
        fits = detached-keeps around.items k b s.facts.fits;
        apart =
            apart-detached b k s.facts.apart;
      };
    })

-- ---- a connection is made

new_ends : (loose : List Loose) (b : machine.Bus) (a i c protocol : ℕ) → Keeps loose b
    → MayAttach a i c b
    → Each (λ x. AreApart x (wiring.new_connection (next_connection b) a (end.Module i c) protocol))
    b.connections
new_ends loose b a i c protocol f may =
    each-from (λ x. AreApart x (wiring.new_connection (next_connection b) a (end.Module i c)
    protocol)) b.connections
    (λ x live.
    let own = each-in (IsOther a i c) b.connections x may live in
    let range = each-in (IsMade b) b.connections x f.fits.numbers.range live in
    record {
      numbers = λ e. absurd (omega (arith, e, range.1));
      aps = own.ap;
      peers = own.peer;
    })

each-map : {A B : Type 0} (P : B → Type 0) (f : A → B) (xs : List A) → Each (λ x. P (f x)) xs
    → Each P (map f xs)
each-map P f [] h = tt
each-map P f (x ∷ xs) h = (h.0, each-map P f xs h.1)

each-mapped : {A B : Type 0} (P : B → Type 0) (f : A → B) (xs : List A) → Each P (map f xs)
    → Each (λ x. P (f x)) xs
each-mapped P f [] h = tt
each-mapped P f (x ∷ xs) h = (h.0, each-mapped P f xs h.1)

in_order-last : {A : Type 0} (before : A → A → Bool) (x : A) (ys : List A)
    → Each (λ y. before x y ≡ false) ys → in_order before x ys ≡ ys ++ x ∷ []
in_order-last before x [] h = refl
in_order-last before x (y ∷ ys) h =
    ap (λ b. cond b (x ∷ y ∷ ys) (y ∷ in_order before x ys)) h.0
    ∙ ap (λ zs. y ∷ zs) (in_order-last before x ys h.1)

-- The next number belongs behind all, since numbers of connections rise.
pub next-last : (around : Around) (x : Bus) (b : machine.Bus) (c : Connection) → Stands around x b
    → c.number ≡ x.made + 1 → in_order connection_before c x.connections ≡ x.connections ++ c ∷ []
next-last around x b c s number =
    in_order-last connection_before c x.connections
    (each-mapped IsBelow without_ops x.connections
    (subst (Each IsBelow) (sym s.shows.connections)
    (each-map IsBelow (connection_in b.requests) b.connections
    (each-weaker (IsMade b) (λ d. IsBelow (connection_in b.requests d)) b.connections
    (λ d made. above c.number d.number x.made b.made number s.shows.made made.1)
    s.facts.fits.numbers.range))))
  where
    IsBelow : Connection → Type 0
    IsBelow d = connection_before c d ≡ false

    above : (n m made last : ℕ) → n ≡ made + 1 → made ≡ last → m ≤ last → nat_le n m ≡ false
    above n m made last e f low = grind (arith, nat_tests)

pub attaches : (around : Around) (x y : Bus) (b : machine.Bus) (a i c protocol k : ℕ)
    → Stands around x b → MayAttach a i c b → k ≡ x.made + 1
    → y ≡ record x {
      made = k;
      connections =
          x.connections ++ new_connection k a (end.Module i c) protocol ∷ [];
    }
    → Attaches around y a i c protocol b k
attaches around x y b a i c protocol k s may number e =
    let next : k ≡ next_connection b = number ∙ ap (λ n. n + 1) s.shows.made in
    record {
      number = next;
      stands = subst (λ (w : Bus). Stands around w (attached a i c protocol b)) (sym e) (record {
        shows = record {
          made = next;
          connections = one-more b.requests (new_connection k a (end.Module i c) protocol)
              (wiring.new_connection (next_connection b) a (end.Module i c) protocol) x.connections
              b.connections
              (ap (λ n. new_connection n a (end.Module i c) protocol) next) s.shows.connections;
          sides = subst (λ n. KeepSides
              (x.connections ++ new_connection n a (end.Module i c) protocol ∷ [])
              (attached a i c protocol b)) (sym next)
              (sides-attached x.connections b a i c protocol s.shows.connections
              s.facts.fits.numbers s.shows.sides);
          slots = s.shows.slots;
          tally = tells-same x.slots.tally b (attached a i c protocol b) refl (λ m. refl)
              s.shows.tally;
        };
        named = s.named;
        facts = record {
          fits = attached-keeps around.items b a i c protocol s.facts.fits;
          apart = apart-attached b a i c protocol
              (new_ends around.items b a i c protocol s.facts may)
              s.facts.apart;
        };
      });
    }

-- ---- a side ends

-- connections change, and a side of one ends
shows-closed : (names : List ℕ) (x : Bus) (b : machine.Bus) (k : ℕ) (at : Side)
    (xs : List Connection) (cs : List machine.Connection) (unended late : List ℕ) (y : SlotsKept)
    → AreShown b.requests xs cs → KeepSides xs (side_ended k at (record b { connections = cs }))
    → AreThose (λ n. is_open_on k at (slot_at x.slots n)) unended
    → AreThose (λ n. is_late_on k at (slot_at x.slots n)) late
    → Closes unended late x.slots y → Shows names x b
    → Shows names (record x { connections = xs; slots = y })
    (side_ended k at (record b { connections = cs }))
shows-closed names x b k at xs cs unended late y h sides opens lates closes s =
    let c = record b { connections = cs } in
    record {
      made = s.made;
      connections = h;
      sides = sides;
      slots = tell_closed x.slots y names c k at unended late opens.each lates.each s.slots
          closes.at;
      tally = subst (λ t. Tells t (side_ended k at c))
          (sym (closes.tally_is (are-open x.slots names c k at unended s.slots opens)
          ∙ ap (λ ns. all_disconnected ns x.slots.tally)
          (opened-on x.slots names c k at unended s.slots opens)))
          (tells-side x.slots.tally c k at
          (tells-same x.slots.tally b c refl (λ m. refl) s.tally));
    }

-- a connection changes but for its sides, and then one of them ends
sides-over : (xs : List Connection) (b : machine.Bus) (k : ℕ) (at : Side)
    (f h : Connection → Connection) (g : machine.Connection → machine.Connection)
    → ((x : Connection) → (f x).number ≡ x.number)
    → ((c : machine.Connection) → (g c).number ≡ c.number)
    → ((s : Side) (x : Connection) → ops_of s (f x) ≡ ops_of s x)
    → ((s : Side) (c : machine.Connection) → last_label s (g c) ≡ last_label s c)
    → (λ (x : Connection). with_ops at (emptied (ops_of at (f x))) (f x)) ≡ h
    → KeepSides xs b
    → KeepSides (at_first (numbered k) h xs) (side_ended k at (with_connection k g b))
sides-over xs b k at f h g number same ops last is keeps =
    subst (λ (ys : List Connection). KeepSides ys (side_ended k at (with_connection k g b)))
    (twice (numbered k) (λ x. with_ops at (emptied (ops_of at x)) x) f xs
    (λ x. ap (λ n. eqb n k) (number x)) ∙ ap (λ c. at_first (numbered k) c xs) is)
    (sides-closed (at_first (numbered k) f xs) (with_connection k g b) k at
    (sides-changed xs b k f g number same ops last keeps))

-- a connection without its wire and what waited there, as its sides are
abbrev cut : Connection → Connection
cut x = record x { wired = false; to_ap = []; to_far = [] }

abbrev cut_off : machine.Connection → machine.Connection
cut_off c = record c { wired = false; to_ap = []; to_far = [] }

cut-ops : (s : Side) (x : Connection) → ops_of s (cut x) ≡ ops_of s x
cut-ops side.Ap x = refl
cut-ops side.Far x = refl

cut-last : (s : Side) (c : machine.Connection) → last_label s (cut_off c) ≡ last_label s c
cut-last side.Ap c = refl
cut-last side.Far c = refl

shut-ops : (s : Side) (x : Connection) → ops_of s (record x { shut = true }) ≡ ops_of s x
shut-ops side.Ap x = refl
shut-ops side.Far x = refl

shut-last : (s : Side) (c : machine.Connection)
    → last_label s (record c { shut = true }) ≡ last_label s c
shut-last side.Ap c = refl
shut-last side.Far c = refl

-- items that are of other connections are among those that there are
of-elsewhere : (k : ℕ) (around : Around) (l : Loose) → IsIn l (elsewhere k around).items
    → IsIn l around.items × (l.connection ≡ k → ⊥)
of-elsewhere k around l i =
    let w = in-without (λ (m : Loose). m.connection == k) around.items l i in
    (w.0, λ e. other (l.connection) e w.1)
  where
    other : (n : ℕ) → n ≡ k → (n == k) ≡ false → ⊥
    other n e h = not-both (n == k) (ap (λ m. m == k) e ∙ is-same k) h

fewer-elsewhere : (k : ℕ) (around : Around) (b : machine.Bus) (n : ℕ)
    → times_in (is_item_of n) (elsewhere k around).items b ≤ times_in (is_item_of n) around.items b
fewer-elsewhere k around b n =
    let t = times-filter (λ (l : Loose). is_item_of n l.item)
    (λ (m : Loose). not (m.connection == k)) around.items in
    omega (arith, t)

pub unwires : (around : Around) (x y : Bus) (b : machine.Bus) (k : ℕ)
    (was later unended late : List ℕ)
    → Stands around x b
    → y ≡ record x {
      connections = at_first (numbered k) cleared x.connections;
      slots = y.slots;
    }
    → AreThose (λ n. is_open_on k side.Far (slot_at x.slots n)) unended
    → AreThose (λ n. is_late_on k side.Far (slot_at x.slots n)) late
    → Closes unended late x.slots y.slots → later ≡ was ++ unended
    → EndsAs (elsewhere k around) y k side.Far b (unwired k b) was later
unwires around x y b k was later unended late s e opens lates closes after = record {
  stands = subst (λ (w : Bus). Stands (elsewhere k around) w (unwired k b)) (sym e) (record {
    shows = shows-closed around.names x b k side.Far
        (at_first (numbered k) cleared x.connections)
        (with_connection k cut_off b).connections unended late y.slots
        (changed b.requests k cleared cut_off cut x.connections b.connections (λ v. refl)
        (λ c. refl) s.shows.connections)
        (sides-over x.connections b k side.Far cut cleared cut_off (λ v. refl) (λ c. refl) cut-ops
        cut-last refl s.shows.sides) opens lates closes s.shows;
    named = s.named;
    facts = record {
      fits = unwired-keeps around.items (elsewhere k around).items k b
          (λ l i. (of-elsewhere k around l i).0) (λ l i. (of-elsewhere k around l i).1)
          (fewer-elsewhere k around b) s.facts.fits;
      apart = apart-changed b k cut_off
          (λ c. record { number = refl; ap = refl; peer = refl }) s.facts.apart;
    };
  });
  ended = after
      ∙ ap (λ ns. was ++ ns)
      (opened-on x.slots around.names b k side.Far unended s.shows.slots opens);
}

pub shuts : (around : Around) (x y : Bus) (b : machine.Bus) (k : ℕ)
    (was later unended late : List ℕ)
    → Stands around x b
    → y ≡ record x {
      connections = at_first (numbered k) closed x.connections;
      slots = y.slots;
    }
    → AreThose (λ n. is_open_on k side.Ap (slot_at x.slots n)) unended
    → AreThose (λ n. is_late_on k side.Ap (slot_at x.slots n)) late
    → Closes unended late x.slots y.slots → later ≡ was ++ unended
    → EndsAs around y k side.Ap b (shut_down k b) was later
shuts around x y b k was later unended late s e opens lates closes after = record {
  stands = subst (λ (w : Bus). Stands around w (shut_down k b)) (sym e) (record {
    shows = shows-closed around.names x b k side.Ap (at_first (numbered k) closed x.connections)
        (with_connection k (λ c. record c { shut = true }) b).connections unended late y.slots
        (changed b.requests k closed (λ c. record c { shut = true }) (λ v. record v { shut = true })
        x.connections b.connections (λ v. refl) (λ c. refl) s.shows.connections)
        (sides-over x.connections b k side.Ap (λ v. record v { shut = true }) closed
        (λ c. record c { shut = true }) (λ v. refl) (λ c. refl) shut-ops shut-last refl
        s.shows.sides) opens lates closes s.shows;
    named = s.named;
    facts = record {
      fits = shut-keeps around.items k b s.facts.fits;
      apart = apart-changed b k (λ c. record c { shut = true })
          (λ c. record { number = refl; ap = refl; peer = refl }) s.facts.apart;
    };
  });
  ended = after
      ∙ ap (λ ns. was ++ ns)
      (opened-on x.slots around.names b k side.Ap unended s.shows.slots opens);
}
