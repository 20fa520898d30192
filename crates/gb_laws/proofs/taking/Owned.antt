-- Each item is of its own connection, at every point.
use Rattle.std.proofs.Common.{None, Option, Some, ap, append-nil, arith, false, inl, inr, length}
use Rattle.std.proofs.Common.{map, refl, subst, sym, true, ℕ, ⊎_elim, [], ◌++◌, ◌∙◌, ◌∷◌, ◌≡◌, ◌⊎◌}
use Rattle.std.specs.Prelude.{not, ◌==◌}
use Rattle.gb_base.specs.declared.end.Side.{Side}
use Rattle.gb_base.specs.declared.end.End.TheVariants as end
use Rattle.gb_base.specs.declared.end.Side.TheVariants as side
use Rattle.gb_base.specs.declared.entry.Entry.{Entry}
use Rattle.gb_base.specs.declared.entry.ConnState.TheVariants as state
use Rattle.gb_base.specs.declared.entry.Entry.TheVariants as entry
use Rattle.gb_machine.specs.Bus.{Ask, Bus, Connection, Item, Raw, connection_of, end_of, has_number}
use Rattle.gb_machine.specs.Bus.{next_number, other_side, queue, request_of}
use Rattle.gb_machine.specs.Delivery.{popped, replied, without_front}
use Rattle.gb_machine.specs.Sending.{Draft, drawn, is_wired, put, queued, sent}
use Rattle.gb_machine.specs.Wiring.{attached, injected, new_connection, next_connection}
use Rattle.gb_machine.specs.{Holding.held_on, Incoming.reply_entry, Incoming.reply_item}
use Rattle.gb_machine.specs.{LawsHotPlug.IsOwnItem, LawsHotPlug.told_since, Lists.nth}
use Rattle.gb_machine.specs.{Lists.without, Members.IsIn, Runs.Moment}
use Rattle.gb_invariants.proofs.Numbers.{found-number, in-changed, same-connection}
use Rattle.gb_invariants.proofs.Selves.{SameSelf, both-self, drawn-body, drawn-queue, front-queue}
use Rattle.gb_invariants.proofs.Selves.{front-self, put-queue, put-self}
use Rattle.gb_invariants.proofs.{Apart.SameEnds, Awaiting.sent-new, Awaiting.sent-request}
use Rattle.gb_invariants.proofs.{ItemChanges.asked_on-self, ItemChanges.first-in, Labels.asked_on}
use Rattle.gb_invariants.proofs.{Lists.in-pushed, Lists.in-without}
use Rattle.gb_invariants.specs.Facts.{Loose}
use Rattle.gb_laws.proofs.basis.Loosening.{fewer-held, fewer-taken, fewer-without, held-at}
use Rattle.gb_laws.proofs.taking.Owning.{IsLooseOf, OwnTold, ends-of, ends-same, own-changed}
use Rattle.gb_laws.proofs.taking.Owning.{own-more}
use Rattle.gb_laws.proofs.taking.Owning.{own-new, own-still, own-with}
use Rattle.gb_laws.proofs.points.Places.{IsPlace, module-far, place-is}
use Rattle.gb_laws.proofs.points.PointParts.{Basis, Hand, Point, asked_told, loose, loose_hand}
use Rattle.gb_laws.proofs.points.PointParts.{loose_held}
use Rattle.gb_laws.proofs.points.Points.{Change, acts_asked, acts_failed, acts_left, acts_made}
use Rattle.gb_laws.proofs.points.Points.{acts_shut, acts_told, answers, asks, changed, drops}
use Rattle.gb_laws.proofs.points.Points.{forgets}
use Rattle.gb_laws.proofs.points.Points.{gives_up, holds, injects, names, replies, takes}
use Rattle.gb_laws.proofs.points.Points.{takes_held}
use Rattle.gb_laws.proofs.points.Points.{tells, unwires, wires}
use Rattle.gb_laws.proofs.points.ToldSince.{IsOpened, opened-more, opening-opened}
use Rattle.gb_laws.proofs.{points.Awaited.awaited-rest, basis.BasisParts.loose_of}
use Rattle.gb_laws.proofs.{basis.BasisParts.taken-is}
use Rattle.gb_laws.proofs.{taking.OwnReplies.own-reply}

-- what isn't in hand
free-loose : (a : Point) (l : Loose) → a.hand ≡ None → IsIn l (map loose_held a.state.held)
    → IsIn l (loose a)
free-loose a l free i =
    subst (λ o. IsIn l (loose_hand o (map loose_held a.state.held))) (sym free) i

-- what is held, where something is in hand
held-loose : (a : Point) (x : Hand) (l : Loose) → a.hand ≡ Some x
    → IsIn l (loose_of x ∷ map loose_held a.state.held) → IsIn l (loose a)
held-loose a x l is i = subst (λ o. IsIn l (loose_hand o (map loose_held a.state.held))) (sym is) i

dropped-loose : (a : Point) (l : Loose) → IsIn l (map loose_held a.state.held) → IsIn l (loose a)
dropped-loose a l i = by a.hand refl
  where
    by : (o : Option Hand) → a.hand ≡ o → IsIn l (loose a)
    by None e = free-loose a l e i
    by (Some x) e = held-loose a x l e (inr i)

-- where a request is made
own-asked : (a after : Point) (d : Draft) (c : Connection) (label : ℕ) → Basis a
    → connection_of d.connection a.state.bus ≡ Some c
    → after.told ≡ a.told ++ asked_told d c label a.state.bus
    → after.state.bus ≡ sent d label a.state.bus → IsLooseOf a after → OwnTold a → OwnTold after
own-asked a after d c label basis found told bus fewer h =
    own-with (asked_told d c label a.state.bus) d.connection (asked_on d label a.state.bus)
    basis.bus.numbers told
    (λ n r made. ap (request_of n) bus ∙ sent-request d label a.state.bus n r made)
    (ap (λ (b : Bus). b.connections) bus) (λ x. ends-of (asked_on-self d label a.state.bus x)) items
    (λ l i. inl (fewer l i)) h
  where
    there : (IsIn c a.state.bus.connections) × (c.number ≡ d.connection)
    there = found-number d.connection a.state.bus c found

    items : (x : Connection) (at : Side) (item : Item) → IsIn x a.state.bus.connections
        → x.number ≡ d.connection → IsIn item (queue at (asked_on d label a.state.bus x))
        → IsIn item (queue at x)
        ⊎ IsOwnItem after.told after.state.bus (asked_on d label a.state.bus x) at item
    items x at item live on i =
        let y = asked_on d label a.state.bus x in
        let self = asked_on-self d label a.state.bus x in
        let same = same-connection a.state.bus.connections c x basis.bus.numbers.rise there.0 live
        (there.1 ∙ sym on) in
        ⊎_elim (λ old. inl (subst (λ is. IsIn item is) (drawn-queue at d label x) old))
        (λ new. inr (subst (λ t. IsOwnItem t after.state.bus y at item) (sym told)
        (subst (λ s. IsOwnItem (a.told ++ asked_told d c label a.state.bus) after.state.bus y s
        item) (sym new.0)
        (subst (λ z. IsOwnItem (a.told ++ asked_told d c label a.state.bus) after.state.bus y
        (other_side d.side) z) (sym new.1) (own-new a.told a.state.bus after.state.bus d c y label
        (subst (λ z. SameEnds z y) (sym same) (ends-of self)) (self.number ∙ on)
        (ap (λ o. not (is_wired o)) found ∙ ap (λ (z : Connection). not z.wired) same
        ∙ ap not (sym ((drawn-body d label x).wired) ∙ new.2))
        (ap (request_of (next_number a.state.bus)) bus ∙ sent-new d label a.state.bus))))))
        (put-queue at (other_side d.side) (Ask (next_number a.state.bus)) item (drawn d label x) i)

wired-queue : (c : Connection) (s : Side) (x : Item) → IsIn x (queue s (record c { wired = true }))
    → IsIn x (queue s c)
wired-queue c side.Ap x i = i
wired-queue c side.Far x i = i

shut-queue : (c : Connection) (s : Side) (x : Item) → IsIn x (queue s (record c { shut = true }))
    → IsIn x (queue s c)
shut-queue c side.Ap x i = i
shut-queue c side.Far x i = i

cleared-queue : (c : Connection) (s : Side) (x : Item)
    → IsIn x (queue s (record c { wired = false; to_ap = []; to_far = [] })) → IsIn x (queue s c)
cleared-queue c side.Ap x i = absurd i
cleared-queue c side.Far x i = absurd i

pub own-kept : (m : Moment) (a : Point) (x : Change m a) → Basis a → OwnTold a
    → OwnTold (changed m a x)
own-kept m a (tells e quiet) basis h =
    own-still (e ∷ []) refl (λ k r made. made) refl (λ l i. i) h
own-kept m a (asks d c label free live is who) basis h =
    own-asked a _ d c label basis live refl refl (λ l i. i) h
own-kept m a (names name d c label free live is host) basis h =
    own-asked a _ d c label basis live refl refl (λ l i. i) h
own-kept m a (takes at p item free start is named front) basis h =
    let live = subst (λ s. IsIn p.connection s.bus.connections) (sym start)
    (place-is at m.before.bus.connections p named).live in
    own-with [] p.connection.number
    (without_front p.side) basis.bus.numbers refl (λ k r made. made) refl
    (λ c. ends-of (front-self p.side c)) (λ c s x there on i. inl (front-queue s p.side x c i))
    (λ l i. ⊎_elim (λ e. inr (λ c alive on. subst (λ (y : Loose). IsOwnItem (a.told ++ [])
    (popped p.connection.number p.side a.state.bus) c y.side y.item) (sym e)
    (taken c alive live (on ∙ ap (λ (y : Loose). y.connection) e))))
    (λ j. inl (free-loose a l free j)) i) h
  where
    taken : (c : Connection) → IsIn c (popped p.connection.number p.side a.state.bus).connections
        → IsIn p.connection a.state.bus.connections → c.number ≡ p.connection.number
        → IsOwnItem (a.told ++ []) (popped p.connection.number p.side a.state.bus) c p.side item
    taken c alive live on =
        ⊎_elim (λ o. absurd (o.1 on))
        (λ w. let is = same-connection a.state.bus.connections w.0 p.connection
        basis.bus.numbers.rise w.1 live w.2 in
        own-more a.told [] a.state.bus (popped p.connection.number p.side a.state.bus) c p.side item
        (subst (λ y. SameEnds p.connection y) (ap (without_front p.side) (sym is) ∙ sym w.3)
        (ends-of (front-self p.side p.connection))) (λ k r made. made)
        (h.waiting p.connection p.side item live (first-in (queue p.side p.connection) item front)))
        (in-changed a.state.bus.connections p.connection.number (without_front p.side) c
        basis.bus.numbers.rise alive)
own-kept m a (takes_held i c place p x free start is at held) basis h =
    let there = subst (λ s. nth place (held_on p.connection.number s.held) ≡ Some x) (sym start)
    held in
    let far = module-far i c p.side p.connection
    (place-is (end.Module i c) m.before.bus.connections p at).is in
    let on = (held-at p.connection.number place a.state.held x there).1 in
    own-still [] refl (λ k r made. made) refl
    (λ l j. free-loose a l free ((fewer-taken p.connection.number place a.state.held x
    (record { connection = p.connection.number; side = p.side; item = x.item }) there
    (taken-is p.connection.number x.connection p.side x.item on far)).within l j)) h
own-kept m a drops basis h = own-still [] (sym (append-nil a.told))
    (λ k r made. made) refl (dropped-loose a) h
own-kept m a (holds x is far) basis h =
    own-still [] refl (λ k r made. made) refl (λ l i. held-loose a x l is ((fewer-held (loose_of x)
    (record { connection = x.connection.number; item = x.item }) a.state.held
    (taken-is x.connection.number x.connection.number x.side x.item refl far)).within l i)) h
own-kept m a (replies x q r is made twoway) basis h =
    own-with (reply_entry x.side x.connection q r ∷ []) x.connection.number
    (put (other_side x.side) (reply_item q r)) basis.bus.numbers refl (λ k r made. made) refl
    (λ c. ends-of (put-self (other_side x.side) (reply_item q r) c))
    items (λ l i. inl (dropped-loose a l i)) h
  where
    items : (c : Connection) (s : Side) (item : Item) → IsIn c a.state.bus.connections
        → c.number ≡ x.connection.number
        → IsIn item (queue s (put (other_side x.side) (reply_item q r) c))
        → IsIn item (queue s c) ⊎ IsOwnItem (a.told ++ reply_entry x.side x.connection q r ∷ [])
        (replied x.connection.number (other_side x.side) (reply_item q r) a.state.bus)
        (put (other_side x.side) (reply_item q r) c) s item
    items c s item live on i =
        let still = basis.hand x is in
        let same = same-connection a.state.bus.connections c still.now basis.bus.numbers.rise live
        still.live (on ∙ sym still.self.number) in
        let put_ends = put-self (other_side x.side) (reply_item q r) c in
        let ends = subst (λ y. SameSelf x.connection y) (sym same) still.self in
        ⊎_elim (λ old. inl old)
        (λ new. inr (subst (λ t. IsOwnItem (a.told ++ reply_entry x.side x.connection q r ∷ [])
        (replied x.connection.number (other_side x.side) (reply_item q r) a.state.bus)
        (put (other_side x.side) (reply_item q r) c) t item) (sym new.0)
        (subst (λ y. IsOwnItem (a.told ++ reply_entry x.side x.connection q r ∷ [])
        (replied x.connection.number (other_side x.side) (reply_item q r) a.state.bus)
        (put (other_side x.side) (reply_item q r) c) (other_side x.side) y) (sym new.1)
        (own-reply a.told a.state.bus (replied x.connection.number (other_side x.side)
        (reply_item q r) a.state.bus) c x.side x.item q r (ends-of
        (both-self x.connection c (put (other_side x.side) (reply_item q r) c) ends put_ends))
        (sym put_ends.number) (λ k r made. made) made
        (h.hanging c (loose_of x) live (held-loose a x (loose_of x) is (inl refl)) on)))))
        (put-queue s (other_side x.side) (reply_item q r) item c i)
own-kept m a (answers x n result payload is says which) basis h =
    own-still (_ ∷ []) refl (λ k r made. made) refl (dropped-loose a) h
own-kept m a (forgets x n is which) basis h =
    own-still [] refl (λ k r made. made) refl (dropped-loose a) h
own-kept m a (gives_up n how free unended cause) basis h =
    own-still (_ ∷ []) refl (λ k r made. made) refl (λ l i. i) h
own-kept m a (wires k free untouched live powered) basis h =
    own-with [] k (λ c. record c { wired = true }) basis.bus.numbers refl (λ k r made. made) refl
    (λ c. record { number = refl; ap = refl; peer = refl })
    (λ c s x there on i. inl (wired-queue c s x i)) (λ l i. inl i) h
own-kept m a (unwires k free before live) basis h =
    own-with _ k (λ c. record c { wired = false; to_ap = []; to_far = [] }) basis.bus.numbers
    refl (λ k r made. made) refl (λ c. record { number = refl; ap = refl; peer = refl })
    (λ c s x there on i. inl (cleared-queue c s x i)) (λ l i. inl (free-loose a l free
    ((fewer-without k a.state.held).within l (subst (λ o. IsIn l (loose_hand o
    (map loose_held (without (λ y. y.connection == k) a.state.held)))) free i)))) h
own-kept m a (injects i c p bytes free named) basis h =
    own-with (raw ∷ []) p.connection.number
    (λ x. queued side.Ap (Raw bytes) (record x { clean = false })) basis.bus.numbers refl
    (λ k r made. made) refl
    (λ x. record { number = refl; ap = refl; peer = refl }) items (λ l j. inl j) h
  where
    raw : Entry
    raw = entry.Raw (end.Module i c) (end.Ap p.connection.ap) (length bytes) bytes

    place : IsPlace (end.Module i c) a.state.bus.connections p
    place = place-is (end.Module i c) a.state.bus.connections p named

    peer : p.connection.peer ≡ end.Module i c
    peer = sym (ap (λ s. end_of s p.connection) (module-far i c p.side p.connection
        (place-is (end.Module i c) a.state.bus.connections p named).is))
        ∙ (place-is (end.Module i c) a.state.bus.connections p named).is

    told_here : IsIn (entry.Raw p.connection.peer (end.Ap p.connection.ap) (length bytes) bytes)
        (told_since p.connection.number (a.told ++ raw ∷ []))
    told_here = subst (λ e. IsIn (entry.Raw e (end.Ap p.connection.ap) (length bytes) bytes)
        (told_since p.connection.number (a.told ++ raw ∷ []))) (sym peer)
        (h.opened p.connection i c (place-is (end.Module i c) a.state.bus.connections p named).live
        peer (raw ∷ []) raw (inl refl))

    items : (x : Connection) (s : Side) (item : Item) → IsIn x a.state.bus.connections
        → x.number ≡ p.connection.number
        → IsIn item (queue s (queued side.Ap (Raw bytes) (record x { clean = false })))
        → IsIn item (queue s x) ⊎ IsOwnItem (a.told ++ raw ∷ [])
        (injected p.connection.number bytes a.state.bus)
        (queued side.Ap (Raw bytes) (record x { clean = false })) s item
    items x side.Far item live on j = inl j
    items x side.Ap item live on j =
        let same = same-connection a.state.bus.connections x p.connection basis.bus.numbers.rise
        live place.live on in
        ⊎_elim (λ old. inl old) (λ e. inr (subst (λ y. IsOwnItem (a.told ++ raw ∷ [])
        (injected p.connection.number bytes a.state.bus)
        (queued side.Ap (Raw bytes) (record x { clean = false })) side.Ap y) (sym e) (
          refl,
          subst (λ (y : Connection). IsIn (entry.Raw y.peer (end.Ap y.ap) (length bytes) bytes)
              (told_since y.number (a.told ++ raw ∷ []))) (sym same) told_here,
        ))) (in-pushed item x.to_ap (Raw bytes) j)
own-kept m a (acts_told e rest is quiet) basis h =
    own-still (e ∷ []) refl (λ k r made. made) refl (λ l i. i) h
own-kept m a (acts_shut k rest free is cause) basis h =
    own-with _ k (λ c. record c { shut = true }) basis.bus.numbers refl (λ k r made. made) refl
    (λ c. record { number = refl; ap = refl; peer = refl })
    (λ c s x there on i. inl (shut-queue c s x i)) (λ l i. inl i) h
own-kept m a (acts_left k rest free untouched is) basis h =
    own-changed a [] refl (λ k r made. made) (λ c live. record {
      was = c;
      live = (in-without (has_number k) a.state.bus.connections c live).0;
      self = record { number = refl; ap = refl; peer = refl };
      items = λ s x i. inl i;
    }) (λ l i. inl i) h
own-kept m a (acts_made w q rest free is) basis h = record {
  waiting = λ c s x live i. ⊎_elim
      (λ old. own-more a.told (opening ∷ []) a.state.bus after c s x (ends-same c)
      (λ k r made. made) (h.waiting c s x old i))
      (λ e. absurd (none s x (subst (λ y. IsIn x (queue s y)) e i)))
      (in-pushed c a.state.bus.connections new live);
  hanging = λ c l live i on. ⊎_elim
      (λ old. own-more a.told (opening ∷ []) a.state.bus after c l.side l.item (ends-same c)
      (λ k r made. made) (h.hanging c l old i on))
      (λ e. let low = basis.bus.items.made_loose l i in absurd
      (omega (arith, low, on, ap (λ (y : Connection). y.number) e)))
      (in-pushed c a.state.bus.connections new live);
  opened = λ c i p live at. ⊎_elim
      (λ old. opened-more c.number a.told (opening ∷ []) (h.opened c i p old at))
      (λ e. subst (λ k. IsOpened k (a.told ++ opening ∷ []))
      (sym (ap (λ (y : Connection). y.number) e))
      (opening-opened (next_connection a.state.bus) w.ap w.intf w.cport a.told))
      (in-pushed c a.state.bus.connections new live);
}
  where
    new : Connection
    new = new_connection (next_connection a.state.bus) w.ap (end.Module w.intf w.cport) w.protocol

    opening : Entry
    opening = entry.Connection (next_connection a.state.bus) w.ap w.intf w.cport state.Opening

    after : Bus
    after = attached w.ap w.intf w.cport w.protocol a.state.bus

    none : (s : Side) (x : Item) → IsIn x
        (queue s (new_connection (next_connection a.state.bus) w.ap (end.Module w.intf w.cport)
        w.protocol)) → ⊥
    none side.Ap x i = i
    none side.Far x i = i
own-kept m a (acts_asked q n rest is) basis h =
    let r = awaited-rest q.purpose n in
    own-still [] refl (λ k x made. ap (request_of k) r.bus ∙ made)
    (ap (λ (b : Bus). b.connections) r.bus)
    (λ l i. subst (λ hs. IsIn l (loose_hand a.hand (map loose_held hs))) r.held i) h
own-kept m a (acts_failed q rest is quiet) basis h =
    own-still _ refl (λ k r made. made) refl (λ l i. i) h
own-kept m a _ basis h =
    own-still [] refl (λ k r made. made) refl (λ l i. i) h
