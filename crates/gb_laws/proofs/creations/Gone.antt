-- A connection is unwired where the request to destroy it is served.
use Rattle.std.proofs.Common.{None, Option, Some, ap, false, refl, sym, true, ℕ, ⊎_elim, [], ◌∙◌}
use Rattle.std.proofs.Common.{◌≡◌}
use Rattle.std.specs.List.{find}
use Rattle.std.specs.Prelude.{Err, Ok, Result, option_map, ◌&&◌, ◌==◌}
use Rattle.gb_base.specs.declared.end.End.TheVariants as end
use Rattle.gb_base.specs.declared.end.Side.TheVariants as side
use Rattle.gb_base.specs.declared.interface.Link.{Link}
use Rattle.gb_formats.specs.{Records.PayloadFault, SvcRecords.SvcAsk}
use Rattle.gb_machine.specs.Bus.{Bus, Connection, connection_of, has_number, same_end}
use Rattle.gb_machine.specs.Delivery.{popped, replied, without_front}
use Rattle.gb_machine.specs.Wiring.{joining, joins, unwired}
use Rattle.gb_machine.specs.{Host.Host, Host.is_link, Members.IsIn}
use Rattle.gb_invariants.proofs.Awaiting.{none-some, not-both, same-some}
use Rattle.gb_invariants.proofs.Lists.{at_first-back, found-in, in-at_first}
use Rattle.gb_invariants.proofs.Selves.{front-body, front-self, svc-no-module}
use Rattle.gb_invariants.proofs.{Found.find-changed, Found.find-none, Outcomes.both-true}
use Rattle.gb_invariants.proofs.{Outcomes.is-same}
use Rattle.gb_laws.proofs.links.Links.{IsKnown, leaving, linked, supervisory}
use Rattle.gb_laws.proofs.steps.ServedDestroy.{IsDestroyed, cut, uncut}
use Rattle.gb_laws.proofs.{creations.Creating.IsBetween, creations.Creating.is_destroy}
use Rattle.gb_laws.proofs.{links.LinkFrom.Linked}
use Rattle.gb_laws.proofs.{links.LinkLists.found-at, points.Places.same_end-is}

-- a record that destroys a connection
pub record IsDestroy (r : Result SvcAsk PayloadFault) : Type 0 where
  pub i1 : ℕ
  pub a : ℕ
  pub i : ℕ
  pub c : ℕ
  pub is : r ≡ Ok (SvcAsk.ConnDestroy i1 a i c)

pub destroy-is : (r : Result SvcAsk PayloadFault) → is_destroy r ≡ true → IsDestroy r
destroy-is (Ok (SvcAsk.ConnDestroy x y z w)) e =
    record { i1 = x; a = y; i = z; c = w; is = refl }
destroy-is (Ok _) e = absurd cc
destroy-is (Err fault) e = absurd cc

module _ (before : Bus) (h : Host) (links : Linked before h []) (rise : (c : Connection)
    → IsIn c before.connections → connection_of c.number before ≡ Some c)
    (w : Connection) (live : IsIn w before.connections) (wired : w.wired ≡ true) (l : Link)
    (known : IsIn l h.links) (number : w.number ≡ l.connection) (w_ap : w.ap ≡ l.ap)
    (w_peer : w.peer ≡ end.Module l.intf l.cport) (k i1 a i c : ℕ)
    (between : IsBetween l.ap l.intf l.cport (Ok (SvcAsk.ConnDestroy i1 a i c))) where
  at : end.Module l.intf l.cport ≡ end.Module i c
  at = ap (λ x. end.Module x l.cport) (sym between.2) ∙ ap (end.Module i) (sym between.3)

  -- a connection that the request speaks of is that of the link, and is wired
  joined : (x : Connection) → joining a i c (popped k side.Far before) ≡ Some x
      → (x.number ≡ w.number) × (x.wired ≡ true)
  joined x e =
      let f = found-in (joins a i c) (popped k side.Far before).connections x e in
      let both = both-true (x.ap == a) (same_end x.peer (end.Module i c)) f.1 in
      ⊎_elim (λ old. same x old (same_end-is x.peer (end.Module i c) both.1)) (λ v.
      let self = front-self side.Far v.0 in
      let was = same v.0 v.1 (sym self.peer ∙ ap (λ (y : Connection). y.peer) (sym v.3)
      ∙ same_end-is x.peer (end.Module i c) both.1) in (
        ap (λ (y : Connection). y.number) v.3 ∙ self.number ∙ was.0,
        ap (λ (y : Connection). y.wired) v.3 ∙ (front-body side.Far v.0).wired ∙ was.1,
      )) (in-at_first (has_number k) (without_front side.Far) before.connections x f.0)
    where
      intf-same : (i j x y : ℕ) → end.Module i x ≡ end.Module j y → i ≡ j
      intf-same i j x y e = cc

      cport-same : (i j x y : ℕ) → end.Module i x ≡ end.Module j y → x ≡ y
      cport-same i j x y e = cc

      same : (y : Connection) → IsIn y before.connections → y.peer ≡ end.Module i c
          → (y.number ≡ w.number) × (y.wired ≡ true)
      same y there peer =
          let on = by (links.known y there) in
          let is = same-some y w (sym (rise y there) ∙ ap (λ n. connection_of n before) on
          ∙ rise w live) in
          (on, ap (λ (z : Connection). z.wired) is ∙ wired)
        where
          by : IsKnown y h.links [] → y.number ≡ w.number
          by (supervisory one) = absurd (svc-no-module (sym (links.svc y there one).peer ∙ peer))
          by (leaving j) = absurd j
          by (linked t j of) =
              let both = sym of.peer ∙ peer ∙ sym at in
              let one = same-some t l (sym (found-at h.links t links.host.links.rise j)
              ∙ ap (λ n. find (is_link n t.cport) h.links)
              (intf-same t.intf l.intf t.cport l.cport both)
              ∙ ap (λ n. find (is_link l.intf n) h.links)
              (cport-same t.intf l.intf t.cport l.cport both)
              ∙ found-at h.links l links.host.links.rise known) in
              of.number ∙ ap (λ (z : Link). z.connection) one ∙ sym number

  -- and it is found
  found : (x : Connection) × (joining a i c (popped k side.Far before) ≡ Some x)
  found = by (joining a i c (popped k side.Far before)) refl
    where
      speaks : (x : Connection) → x.ap ≡ w.ap → x.peer ≡ w.peer → joins a i c x ≡ true
      speaks x ap_same peer_same =
          ap (λ n. (n == a) && same_end x.peer (end.Module i c)) (ap_same ∙ w_ap ∙ sym between.1)
          ∙ ap (λ p. (a == a) && same_end p (end.Module i c)) (peer_same ∙ w_peer ∙ at)
          ∙ ap (λ t. t && same_end (end.Module i c) (end.Module i c)) (is-same a)
          ∙ ap (λ t. t && (c == c)) (is-same i) ∙ is-same c

      by : (o : Option Connection) → joining a i c (popped k side.Far before) ≡ o
          → (x : Connection) × (joining a i c (popped k side.Far before) ≡ Some x)
      by (Some x) e = (x, e)
      by None e = absurd (⊎_elim (λ old. not-both (joins a i c w) (speaks w refl refl)
          (find-none (joins a i c) (popped k side.Far before).connections w e old))
          (λ v. let self = front-self side.Far w in
          not-both (joins a i c (without_front side.Far w))
          (speaks (without_front side.Far w) self.ap self.peer)
          (find-none (joins a i c) (popped k side.Far before).connections
          (without_front side.Far w) e v))
          (at_first-back (has_number k) (without_front side.Far) before.connections w live))

  -- So it isn't wired afterwards.
  pub gone-unwired : {after : Bus} → IsDestroyed k i1 a i c (popped k side.Far before) after
      → (x : Connection) → connection_of x.number after ≡ Some x → x.number ≡ w.number
      → x.wired ≡ false
  gone-unwired {after} (cut item y e is) x there on =
      by (connection_of x.number (replied k side.Ap item (popped k side.Far before))) refl
    where
      off : Connection → Connection
      off z = record z { wired = false; to_ap = []; to_far = [] }

      after-is : connection_of x.number after ≡ option_map off
          (connection_of x.number (replied k side.Ap item (popped k side.Far before)))
      after-is = ap (connection_of x.number) (is ∙ ap (λ n. unwired n
          (replied k side.Ap item (popped k side.Far before))) ((joined y e).0 ∙ sym on))
          ∙ find-changed (has_number x.number) off
          (replied k side.Ap item (popped k side.Far before)).connections (λ z. refl)

      by : (o : Option Connection)
          → connection_of x.number (replied k side.Ap item (popped k side.Far before)) ≡ o
          → x.wired ≡ false
      by None g = absurd (none-some (sym (after-is ∙ ap (option_map off) g) ∙ there))
      by (Some z) g = ap (λ (v : Connection). v.wired)
          (same-some x (off z) (sym there ∙ after-is ∙ ap (option_map off) g))
  gone-unwired (uncut item none is) x there on =
      absurd (not-both found.0.wired (joined found.0 found.1).1 (none between.0 found.0 found.1))
