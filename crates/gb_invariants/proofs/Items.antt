-- Items stay those of their connection and can be answered, whatever becomes of the bus.
use Rattle.std.proofs.Common.{List, Some, arith, false, inl, refl, subst, sym, true, ℕ, ⊎_elim, ◌∙◌}
use Rattle.std.proofs.Common.{◌≡◌, ◌≤◌, ◌⊎◌}
use Rattle.gb_base.specs.declared.end.Side.{Side}
use Rattle.gb_base.specs.declared.end.Side.TheVariants as side
use Rattle.gb_machine.specs.Bus.{Ask, Bus, Connection, Item, Raw, RawReply, Reply, Request, queue}
use Rattle.gb_machine.specs.Bus.{request_of}
use Rattle.gb_machine.specs.{LawsBus.is_awaited, Members.IsIn}
use Rattle.gb_invariants.specs.Facts.{IsAnswerable, IsDue, IsOwn, ItemsFit, Loose, asker}

-- An item lies on a connection: it waits there, or is loose.
pub data Lies (loose : List Loose) (c : Connection) (at : Side) (item : Item) : Type 0 where
  waits : IsIn item (queue at c) → Lies loose c at item
  hangs : (l : Loose) → IsIn l loose → c.number ≡ l.connection → l.side ≡ at → l.item ≡ item
      → Lies loose c at item

-- an item toward a side of a connection is as it should be
pub record IsNew (b : Bus) (c : Connection) (at : Side) (item : Item) : Type 0 where
  pub own : IsOwn b c.number at item
  pub answerable : IsAnswerable b c at item

-- What a connection was before, and where its items come from.
pub record Source (b after : Bus) (c : Connection) : Type 0 where
  pub was : Connection
  pub live : IsIn was b.connections
  pub number : was.number ≡ c.number
  pub clean : c.clean ≡ true → was.clean ≡ true
  pub shut : c.shut ≡ false → was.shut ≡ false
  pub items : (at : Side) (item : Item) → IsIn item (queue at c)
      → IsIn item (queue at was) ⊎ IsNew after c at item

-- a loose item is as it should be
pub record IsNewLoose (b : Bus) (l : Loose) : Type 0 where
  pub own : IsOwn b l.connection l.side l.item
  pub made : l.connection ≤ b.made
  pub answerable : (c : Connection) → IsIn c b.connections → c.number ≡ l.connection
      → IsAnswerable b c l.side l.item

-- What a change of the bus has to show: where each connection and each item comes from, that
-- requests stay, and that what is due stays due.
pub record Changes (loose later : List Loose) (b after : Bus) : Type 0 where
  pub came : (c : Connection) → IsIn c after.connections → Source b after c
  pub made : b.made ≤ after.made
  pub hung : (l : Loose) → IsIn l later → IsIn l loose ⊎ IsNewLoose after l
  pub own : (k : ℕ) (at : Side) (item : Item) → IsOwn b k at item → IsOwn after k at item
  pub due : (c : Connection) (at : Side) (item : Item) → IsIn c after.connections
      → Lies later c at item
      → IsOwn b c.number at item → c.clean ≡ true → (asker at item ≡ side.Ap → c.shut ≡ false)
      → IsDue b item → IsDue after item

-- and then items are as they should be again
pub fit-changed : (loose later : List Loose) (b after : Bus) → Changes loose later b after
    → ItemsFit loose b → ItemsFit later after
fit-changed loose later b after x h = record {
  own = λ c at item live i. ⊎_elim (λ old. own_old c at item live old) (λ n. n.own)
      ((x.came c live).items at item i);
  own_loose = λ l i. ⊎_elim (λ old. x.own l.connection l.side l.item (h.own_loose l old))
      (λ n. n.own) (x.hung l i);
  made_loose = λ l i. ⊎_elim (λ old. let low = h.made_loose l old in omega (arith, low, x.made))
      (λ n. n.made) (x.hung l i);
  answerable = λ c at item live i. ⊎_elim (λ old. still c at item live old i) (λ n. n.answerable)
      ((x.came c live).items at item i);
  answerable_loose = λ c l live i is. ⊎_elim (λ old. hanging c l live i old is)
      (λ n. n.answerable c live is) (x.hung l i);
}
  where
    owned : (c : Connection) (at : Side) (item : Item) (live : IsIn c after.connections)
        → IsIn item (queue at (x.came c live).was) → IsOwn b c.number at item
    owned c at item live old =
        let s = x.came c live in
        subst (λ k. IsOwn b k at item) s.number (h.own s.was at item s.live old)

    own_old : (c : Connection) (at : Side) (item : Item) (live : IsIn c after.connections)
        → IsIn item (queue at (x.came c live).was) → IsOwn after c.number at item
    own_old c at item live old = x.own c.number at item (owned c at item live old)

    still : (c : Connection) (at : Side) (item : Item) (live : IsIn c after.connections)
        → IsIn item (queue at (x.came c live).was) → IsIn item (queue at c)
        → IsAnswerable after c at item
    still c at item live old i =
        let s = x.came c live in
        let a = h.answerable s.was at item s.live old in record {
          numbered = λ clean. a.numbered (s.clean clean);
          due = λ clean unshut. x.due c at item live (waits i) (owned c at item live old) clean
              unshut (a.due (s.clean clean) (λ e. s.shut (unshut e)));
        }

    hanging : (c : Connection) (l : Loose) → IsIn c after.connections → IsIn l later → IsIn l loose
        → c.number ≡ l.connection → IsAnswerable after c l.side l.item
    hanging c l live i old is =
        let s = x.came c live in
        let a = h.answerable_loose s.was l s.live old (s.number ∙ is) in record {
          numbered = λ clean. a.numbered (s.clean clean);
          due = λ clean unshut. x.due c l.side l.item live (hangs l i is refl refl)
              (subst (λ k. IsOwn b k l.side l.item) (sym is) (h.own_loose l old)) clean unshut
              (a.due (s.clean clean) (λ e. s.shut (unshut e)));
        }

-- ---- connections that come from those before

-- a connection that didn't change
pub unchanged : (b after : Bus) (c : Connection) → IsIn c b.connections → Source b after c
unchanged b after c live = record {
  was = c;
  live = live;
  number = refl;
  clean = λ h. h;
  shut = λ h. h;
  items = λ at item i. inl i;
}

-- where fewer requests, or none, are made
pub own-same : (b after : Bus)
    → ((n : ℕ) (r : Request) → request_of n b ≡ Some r → request_of n after ≡ Some r)
    → (k : ℕ) (at : Side) (item : Item) → IsOwn b k at item → IsOwn after k at item
own-same b after keeps k at (Ask n) h = (h.0, keeps n h.0 h.1, h.2, h.3)
own-same b after keeps k at (Reply n result payload) h = (h.0, keeps n h.0 h.1, h.2, h.3)
own-same b after keeps k at (Raw bytes) h = tt
own-same b after keeps k at (RawReply label kind result payload) h = tt

-- the number of an item that has one
pub data HasNumber (n : ℕ) (item : Item) : Type 0 where
  asks : item ≡ Ask n → HasNumber n item
  answers : (result : ℕ) (payload : List ℕ) → item ≡ Reply n result payload → HasNumber n item

-- what is due stays due where it is awaited still
pub due-same : (b after : Bus) (item : Item)
    → ((n : ℕ) (r : Request) → request_of n after ≡ Some r → HasNumber n item
    → request_of n b ≡ Some r)
    → ((n : ℕ) → HasNumber n item → is_awaited n b ≡ true → is_awaited n after ≡ true)
    → IsDue b item → IsDue after item
due-same b after (Ask n) was keeps h = λ r made twoway. keeps n (asks refl)
    (h r (was n r made (asks refl)) twoway)
due-same b after (Reply n result payload) was keeps h = keeps n (answers result payload refl) h
due-same b after (Raw bytes) was keeps h = tt
due-same b after (RawReply label kind result payload) was keeps h = tt
