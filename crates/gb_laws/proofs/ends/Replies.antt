-- A reply that waits on a clean connection is awaited, and the application processor takes nothing
-- where its side is closed.
use Rattle.std.proofs.Common.{List, Some, ap, false, subst, sym, true, [], ◌∙◌, ◌≡◌}
use Rattle.gb_base.specs.declared.end.Side.TheVariants as side
use Rattle.gb_base.specs.declared.entry.Entry.{Entry}
use Rattle.gb_machine.specs.Bus.{Bus, Connection, Item, Reply}
use Rattle.gb_machine.specs.LawsBus.{AreAwaited, HaveAwaited, IsAwaited}
use Rattle.gb_machine.specs.{Arriving.link_takes, Arriving.takes, Host.link_of, Members.IsIn}
use Rattle.gb_machine.specs.{State.State}
use Rattle.gb_invariants.proofs.{Awaiting.not-both, Lists.each-from, Selves.far-no-ap}
use Rattle.gb_invariants.specs.Facts.{IsAnswerable}
use Rattle.gb_laws.proofs.links.Links.{IsKnown, leaving, linked, supervisory}
use Rattle.gb_laws.proofs.{links.LinkFrom.Linked, links.LinkLists.found-link}
use Rattle.gb_laws.proofs.{links.LinkRuns.LinkedTo}
use Rattle.gb_laws.proofs.{links.LinkRuns.linked-throughout, runs.Runs.HoldsByMoments}
use Rattle.gb_laws.proofs.{runs.Runs.weaker}

awaited-ap : (b : Bus) (c : Connection) (item : Item) → IsAnswerable b c side.Ap item
    → c.clean ≡ true → c.shut ≡ false → IsAwaited b item
awaited-ap b c (Reply n result payload) h clean open_ = h.due clean (λ e. open_)
awaited-ap b c _ h clean open_ = tt

awaited-far : (b : Bus) (c : Connection) (item : Item) → IsAnswerable b c side.Far item
    → c.clean ≡ true → IsAwaited b item
awaited-far b c (Reply n result payload) h clean = h.due clean (λ e. absurd (far-no-ap e))
awaited-far b c _ h clean = tt

-- a side that is closed takes nothing
shut-deaf : (s : State) (c : Connection) → Linked s.bus s.host [] → IsIn c s.bus.connections
    → c.shut ≡ true → takes side.Ap c s ≡ false
shut-deaf s c links live shut = by (links.known c live)
  where
    by : IsKnown c s.host.links [] → takes side.Ap c s ≡ false
    by (supervisory one) = absurd (not-both c.shut shut (links.svc c live one).shut)
    by (leaving i) = absurd i
    by (linked l i of) =
        ap link_takes (subst (λ n. link_of n s.host ≡ Some l) (sym of.number)
        (found-link s.host.links l links.host.links.rise i))
        ∙ (links.host.links.deaf l c i live of.number shut).takes

awaited-at : (told : List Entry) (s : State) → LinkedTo told s → HaveAwaited told s
awaited-at told s h = each-from (AreAwaited s) s.bus.connections (λ c live. record {
  to_ap = λ clean open_. each-from (IsAwaited s.bus) c.to_ap
      (λ item i. awaited-ap s.bus c item (h.0.bus.items.answerable c side.Ap item live i) clean
      open_);
  to_far = λ clean. each-from (IsAwaited s.bus) c.to_far
      (λ item i. awaited-far s.bus c item (h.0.bus.items.answerable c side.Far item live i) clean);
  shut = shut-deaf s c h.1 live;
})

-- On a clean connection a reply that waits is awaited.
pub replies-by_moments : HoldsByMoments HaveAwaited
replies-by_moments = weaker LinkedTo HaveAwaited awaited-at linked-throughout
