-- A turn of the application processor fits its connections, and so do two that follow each other.
use Rattle.std.proofs.Common.{List, None, Some, map, refl, subst, sym, ℕ, [], ◌++◌}
use Rattle.std.proofs.Common.{◌∙◌, ◌∷◌, ◌≡◌}
use Rattle.gb_base.specs.declared.entry.Entry.{Entry}
use Rattle.gb_base.specs.declared.interface.{Interface.Interface, Link.Link}
use Rattle.gb_base.specs.declared.steps.SequenceStep.{SequenceStep}
use Rattle.gb_machine.specs.Host.{Host, with_interface, with_link}
use Rattle.gb_machine.specs.Turns.{Act, Turn, turn}
use Rattle.gb_machine.specs.{Bus.Bus, Members.Each, Members.IsIn}
use Rattle.gb_invariants.proofs.HostChanges.{AsksNone}
use Rattle.gb_invariants.proofs.Lists.{in-behind, in-front}
use Rattle.gb_laws.proofs.links.LinkHosts.{ComeFrom, KeepsAt, Stay, come-changed, come-same}
use Rattle.gb_laws.proofs.links.LinkHosts.{come-then, host-interface, host-link, stay-changed}
use Rattle.gb_laws.proofs.links.LinkHosts.{stay-same, then-same}
use Rattle.gb_laws.proofs.links.Links.{ArePending, HasNoControl, HostFits}
use Rattle.gb_laws.proofs.links.Links.{IsFollowed, IsWaiting, SameLink, leaves, stays}

-- What a turn keeps.
pub record TurnFits (b : Bus) (h : Host) (t : Turn) : Type 0 where
  pub host : HostFits b t.host
  pub pending : ArePending t.host t.acts
  pub followed : (l : Link) → IsIn l h.links → IsFollowed l t.host.links t.acts
  pub come : ComeFrom h.links t.host.links

-- ---- turns that do nothing but telling

pending-told : (h : Host) (es : List Entry) → ArePending h (map Act.Tell es)
pending-told h [] = tt
pending-told h (e ∷ es) = (tt, pending-told h es)

-- the connections stay
pub fits-stay : {b : Bus} {h g : Host} (es : List Entry) → Stay h.links g.links
    → ComeFrom h.links g.links → HostFits b g → TurnFits b h (turn g (map Act.Tell es))
fits-stay {g} es stay come fits = record {
  host = fits;
  pending = pending-told g es;
  followed = λ l i. let s = stay l i in stays s.0 s.1 s.2;
  come = come;
}

-- none of them changes
pub fits-same : {b : Bus} {h g : Host} (es : List Entry) → g.links ≡ h.links → HostFits b g
    → TurnFits b h (turn g (map Act.Tell es))
fits-same {h} es same fits =
    fits-stay es (subst (Stay h.links) (sym same) (stay-same h.links))
    (subst (ComeFrom h.links) (sym same) (come-same h.links)) fits

-- one of them changes, and is what it was in what never changes
pub fits-link : {b : Bus} {h : Host} (i c : ℕ) (f : Link → Link) (es : List Entry)
    → ((l : Link) → SameLink l (f l)) → KeepsAt i c f h.links → HostFits b h
    → TurnFits b h (turn (with_link i c f h) (map Act.Tell es))
fits-link {h} i c f es same keeps fits =
    fits-stay es (stay-changed h.links i c f same) (come-changed h.links i c f same keeps)
    (host-link i c f same keeps fits)

-- an interface changes, and waits for what it waited for
pub fits-interface : {b : Bus} {h : Host} (i : ℕ) (f : Interface → Interface) (es : List Entry)
    → ((x : Interface) → (f x).intf ≡ x.intf) → ((x : Interface) → (f x).awaits ≡ x.awaits)
    → HostFits b h → TurnFits b h (turn (with_interface i f h) (map Act.Tell es))
fits-interface {h} i f es same waits fits =
    fits-same es refl (host-interface i f same (λ x j is e w k.
    let old = e w (sym (waits x) ∙ k) in
    (old.0, λ early. subst (λ n. HasNoControl n h.links) (sym (same x)) (old.1 early))) fits)

-- ---- two turns

-- acts that ask for nothing are pending where connections come from those where they are
front-pending : (g k : Host) (acts rest : List Act) → Each AsksNone acts → ArePending g acts
    → ComeFrom g.links k.links → ArePending k rest → ArePending k (acts ++ rest)
front-pending g k [] rest none p come later = later
front-pending g k (Act.Ask q ∷ acts) rest none p come later = absurd none.0
front-pending g k (Act.Make w q ∷ acts) rest none p come later = absurd none.0
front-pending g k (Act.Tell e ∷ acts) rest none p come later =
    (tt, front-pending g k acts rest none.1 p.1 come later)
front-pending g k (Act.Shut n ∷ acts) rest none p come later = (
  (p.0.0, λ l i on. let w = come l i in w.3 (p.0.1 w.0 w.1 (sym w.2.connection ∙ on))),
  front-pending g k acts rest none.1 p.1 come later,
)
front-pending g k (Act.Leave n ∷ acts) rest none p come later = (
  (p.0.0, λ l i on. let w = come l i in p.0.1 w.0 w.1 (sym w.2.connection ∙ on)),
  front-pending g k acts rest none.1 p.1 come later,
)

-- One follows another that asks for nothing.
pub fits-then : {b : Bus} {h : Host} (g : Host) (acts : List Act) (t : Turn) → Each AsksNone acts
    → TurnFits b h (turn g acts) → TurnFits b g t → TurnFits b h (turn t.host (acts ++ t.acts))
fits-then {b} {h} g acts t none first later = record {
  host = later.host;
  pending = front-pending g t.host acts t.acts none first.pending later.come later.pending;
  followed = λ l i. by l (first.followed l i);
  come = come-then h.links g.links t.host.links first.come later.come;
}
  where
    via : (l k : Link) → SameLink l k → IsFollowed k t.host.links t.acts
        → IsFollowed l t.host.links (acts ++ t.acts)
    via l k same (stays j x s) = stays j x (then-same {l = l} {k = k} j same s)
    via l k same (leaves j) = leaves (in-behind _ acts t.acts
        (subst (λ n. IsIn (Act.Leave n) t.acts) same.connection j))

    by : (l : Link) → IsFollowed l g.links acts → IsFollowed l t.host.links (acts ++ t.acts)
    by l (stays k j same) = via l k same (later.followed k j)
    by l (leaves j) = leaves (in-front _ acts t.acts j)

-- a connection that waits for nothing
pub waits-not : (l : Link) → l.awaits ≡ None → IsWaiting l
waits-not l none w e = absurd (by w (sym none ∙ e))
  where
    by : (w : ℕ × SequenceStep) → None ≡ Some w → ⊥
    by w e = cc
