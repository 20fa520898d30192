-- Places of ends, and connections that stay live.
use Rattle.std.proofs.Common.{Bool, Some, ap, cond, false, inl, inr, refl}
use Rattle.std.proofs.Common.{subst, sym, true, ℕ, ⊎_elim, [], ◌++◌, ◌∙◌, ◌∷◌, ◌≡◌}
use Rattle.std.specs.List.{list_any}
use Rattle.std.specs.Prelude.{◌==◌}
use Rattle.gb_base.specs.declared.end.{Side.Side}
use Rattle.gb_base.specs.declared.end.End.TheVariants as end
use Rattle.gb_base.specs.declared.end.Side.TheVariants as side
use Rattle.gb_machine.specs.Bus.{Bus, Connection, Item, Place, end_of, has_number}
use Rattle.gb_machine.specs.Bus.{other_side}
use Rattle.gb_machine.specs.{Delivery.replied, Holding.marked, Incoming.Incoming}
use Rattle.gb_machine.specs.{Incoming.reply_item, Members.IsIn, Refusals.module_place, Sending.put}
use Rattle.gb_machine.specs.{Sending.queued, State.State}
use Rattle.gb_invariants.proofs.Lists.{at_first-back, in-at_first, in-pushed}
pub use Rattle.gb_invariants.proofs.Places.{IsPlace, place-is, same_end-is}
use Rattle.gb_laws.proofs.points.Points.{AreMarked, IsAfterReply, IsLive, replied_to, unreplied}

-- the place of a module's CPort is at the far side
pub module-far : (i c : ℕ) (s : Side) (x : Connection) → end_of s x ≡ end.Module i c → s ≡ side.Far
module-far i c side.Far x h = refl
module-far i c side.Ap x h = absurd cc

-- ---- a connection that changes stays live

-- connections stay live, wired or not, with their ends
abbrev pub LivesOn : Bus → Bus → Type 0
LivesOn b after = (k : ℕ) (t : Bool) (l : IsLive k t b) → (n : IsLive k t after)
    × (n.intf ≡ l.intf) × (n.cport ≡ l.cport) × (n.connection.ap ≡ l.connection.ap)

pub lives-replied : (k : ℕ) (at : Side) (item : Item) (b : Bus) → LivesOn b (replied k at item b)
lives-replied k at item b n t h =
    ⊎_elim (λ i. still h.connection i refl refl refl refl)
    (λ i. let s = same h.connection at h.connection.wired in
    still (put at item h.connection) i s.0 s.1 s.2 s.3)
    (at_first-back (has_number k) (put at item) b.connections h.connection h.live)
  where
    same : (c : Connection) (s : Side) (w : Bool) → ((cond w (queued s item c) c).number ≡ c.number)
        × ((cond w (queued s item c) c).wired ≡ c.wired)
        × ((cond w (queued s item c) c).peer ≡ c.peer) × ((cond w (queued s item c) c).ap ≡ c.ap)
    same c side.Ap true = (refl, refl, refl, refl)
    same c side.Far true = (refl, refl, refl, refl)
    same c s false = (refl, refl, refl, refl)

    still : (x : Connection) → IsIn x (replied k at item b).connections
        → x.number ≡ h.connection.number
        → x.wired ≡ h.connection.wired → x.peer ≡ h.connection.peer → x.ap ≡ h.connection.ap
        → (l : IsLive n t (replied k at item b)) × (l.intf ≡ h.intf) × (l.cport ≡ h.cport)
        × (l.connection.ap ≡ h.connection.ap)
    still x i number wired peer ap_same = (
      record {
        connection = x;
        live = i;
        number = number ∙ h.number;
        wired = wired ∙ h.wired;
        intf = h.intf;
        cport = h.cport;
        peer = peer ∙ h.peer;
      },
      refl,
      refl,
      ap_same,
    )

-- each connection was there, wired or not as it is, with its far end
abbrev pub ComesFrom : Bus → Bus → Type 0
ComesFrom b after = (c : Connection) → IsIn c after.connections
    → (x : Connection) × IsIn x b.connections × (x.wired ≡ c.wired) × (x.peer ≡ c.peer)

comes-replied : (k : ℕ) (at : Side) (item : Item) (b : Bus) → ComesFrom b (replied k at item b)
comes-replied k at item b c live =
    ⊎_elim (λ o. (c, o, refl, refl)) (λ w. let s = same w.0 at w.0.wired in (
      w.0,
      w.1,
      sym (ap (λ (x : Connection). x.wired) w.3 ∙ s.0),
      sym (ap (λ (x : Connection). x.peer) w.3 ∙ s.1),
    )) (in-at_first (has_number k) (put at item) b.connections c live)
  where
    same : (x : Connection) (s : Side) (w : Bool) → ((cond w (queued s item x) x).wired ≡ x.wired)
        × ((cond w (queued s item x) x).peer ≡ x.peer)
    same x side.Ap true = (refl, refl)
    same x side.Far true = (refl, refl)
    same x s false = (refl, refl)

-- once what was taken was replied to, or not
pub lives-after : {k : ℕ} {at : Side} {q : Incoming} {b after : Bus} → IsAfterReply k at q b after
    → LivesOn b after
lives-after {b} (unreplied e) =
    subst (LivesOn b) (sym e) (λ n t l. (l, refl, refl, refl))
lives-after {k} {at} {q} {b} (replied_to r e) =
    subst (LivesOn b) (sym e) (lives-replied k (other_side at) (reply_item q r) b)

pub comes-after : {k : ℕ} {at : Side} {q : Incoming} {b after : Bus} → IsAfterReply k at q b after
    → ComesFrom b after
comes-after {b} (unreplied e) =
    subst (ComesFrom b) (sym e) (λ c live. (c, live, refl, refl))
comes-after {k} {at} {q} {b} (replied_to r e) =
    subst (ComesFrom b) (sym e) (comes-replied k (other_side at) (reply_item q r) b)

-- ---- marks

-- what is marked to hold is the connection of a module
pub place-marked : (i c : ℕ) (s : State) (p : Place) → module_place i c s ≡ Some p
    → AreMarked s (marked p.connection.number s.holds)
place-marked i c s p e = by (list_any (λ j. j == p.connection.number) s.holds)
  where
    by : (t : Bool) → AreMarked s (cond t s.holds (s.holds ++ p.connection.number ∷ []))
    by true k n = inl n
    by false k n = ⊎_elim (λ o. inl o) (λ same.
        let place = place-is (end.Module i c) s.bus.connections p e in
        inr (
          p.connection,
          i,
          c,
          place.live,
          sym same,
          sym (ap (λ x. end_of x p.connection) (module-far i c p.side p.connection place.is))
              ∙ place.is,
        )) (in-pushed k s.holds p.connection.number n)
