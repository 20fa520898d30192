-- Credits stay at a moment at which no bridge line is done and no credits are taken: each
-- connection behind it was there before with the same credits, or is new and has the most.
use Rattle.std.proofs.Common.{List, None, Option, Some, ap, arith, refl, subst, sym, ℕ, ⊎_elim, ◌+◌}
use Rattle.std.proofs.Common.{◌<◌, ◌∙◌, ◌≡◌, ◌≤◌}
use Rattle.gb_base.specs.declared.interface.Link.{Link}
use Rattle.gb_base.specs.declared.steps.SequenceStep.{SequenceStep}
use Rattle.gb_formats.specs.UartDevice.{most_credits}
use Rattle.gb_machine.specs.{Bus.Bus, Host.Host, Host.with_new_link, HostActs.with_awaited}
use Rattle.gb_machine.specs.{HostServing.host_serves, Members.IsIn, Runs.Moment, Turns.Making}
use Rattle.gb_machine.specs.{Wiring.next_connection}
use Rattle.gb_invariants.proofs.Lists.{in-pushed}
use Rattle.gb_laws.proofs.links.LinkSources.{CameFrom, LinksFrom, from-links, from-turn}
use Rattle.gb_laws.proofs.links.LinkSources.{from-unsent}
use Rattle.gb_laws.proofs.links.LinkSources.{from-waiting}
use Rattle.gb_laws.proofs.points.Points.{Change, IsBridge, Law, acts_asked, acts_failed}
use Rattle.gb_laws.proofs.points.Points.{acts_made}
use Rattle.gb_laws.proofs.points.Points.{changed, gives, serves, spends, turns, upon}
use Rattle.gb_laws.proofs.{points.Awaited.awaited-rest, basis.Basics.basis}
use Rattle.gb_laws.proofs.{links.LinkActs.awaited-host}
use Rattle.gb_laws.proofs.{links.LinkBuses.new_link, links.LinkHosts.then-same}
use Rattle.gb_laws.proofs.{points.PointParts.IsServed}
use Rattle.gb_laws.proofs.{points.PointParts.Point}

-- A connection was there before with the same credits, or is new and has the most.
pub data IsKept (m : Moment) (l : Link) : Type 0 where
  was : CameFrom l m.before.host → IsKept m l
  new : m.before.bus.made < l.connection → l.credits ≡ most_credits → IsKept m l

-- all are
pub record CreditsAt (m : Moment) (count : ℕ) (h : Host) : Type 0 where
  pub links : (l : Link) → IsIn l h.links → IsKept m l
  pub made : m.before.bus.made ≤ count

kept-from : (m : Moment) (l : Link) (h : Host) (x : CameFrom l h) → IsKept m x.link → IsKept m l
kept-from m l h x (was y) = was (record {
  link = y.link;
  live = y.live;
  same = then-same l y.same x.same;
  credits = x.credits ∙ y.credits;
})
kept-from m l h x (new later most) =
    new (subst (λ n. m.before.bus.made < n) (sym x.same.connection) later) (x.credits ∙ most)

credits-from : {w : Option (ℕ × SequenceStep)} (m : Moment) {made : ℕ} {h g : Host}
    → LinksFrom w h g → CreditsAt m made h → CreditsAt m made g
credits-from m {made} {h} from f = record {
  links = λ l i. let x = (from l i).from in kept-from m l h x (f.links x.link x.live);
  made = f.made;
}

pub credits-start : (m : Moment) → CreditsAt m m.before.bus.made m.before.host
credits-start m = record {
  links = λ l i. was (from-links {w = None} m.before.host m.before.host refl l i).from;
  made = omega arith;
}

-- a connection more
credits-opened : (m : Moment) (b : Bus) (w : Making) {h : Host} → CreditsAt m b.made h
    → CreditsAt m (b.made + 1) (with_new_link (next_connection b) w.ap w.intf w.cport w.protocol h)
credits-opened m b w {h} f = record {
  links = λ l i. ⊎_elim (λ o. f.links l o)
      (λ e. subst (IsKept m) (sym e) (new (let low = f.made in omega (arith, low)) refl))
      (in-pushed l h.links (new_link (next_connection b) w) i);
  made = let low = f.made in omega (arith, low);
}

-- What a moment must be for credits to stay.
pub record IsCreditless (m : Moment) : Type 0 where
  pub line : IsBridge m.event → ⊥
  pub served : (k kind : ℕ) (payload : List ℕ) → IsServed m k kind payload
      → (host_serves k kind payload m.before.host).host.links ≡ m.before.host.links

pub credits-kept : (m : Moment) → IsCreditless m → (a : Point) (x : Change m a)
    → CreditsAt m a.state.bus.made a.state.host
    → CreditsAt m (changed m a x).state.bus.made (changed m a x).state.host
credits-kept m less a (turns e free untouched none cause) h =
    credits-from m (from-turn e a.state.host) h
credits-kept m less a (acts_made w q rest free is) h =
    credits-opened m a.state.bus w h
credits-kept m less a (acts_asked q n rest is) h =
    subst (λ (b : Bus). CreditsAt m b.made (with_awaited q.purpose n a.state).host)
    (sym (awaited-rest q.purpose n).bus)
    (subst (λ g. CreditsAt m a.state.bus.made g) (sym (awaited-host q.purpose n a.state))
    (credits-from m (from-waiting (Some (n, q.purpose.step)) q.purpose a.state.host) h))
credits-kept m less a (acts_failed q rest is quiet) h =
    credits-from m (from-unsent q.purpose a.state.host) h
credits-kept m less a (serves k kind payload none) h = record {
  links = λ l i. (credits-start m).links l (subst (λ ls. IsIn l ls)
      (ap (λ g. (host_serves k kind payload g).host.links) none.2
      ∙ less.served k kind payload none.1) i);
  made = h.made;
}
credits-kept m less a (spends i c what none) h = absurd (less.line none.1)
credits-kept m less a (gives tag bytes at none) h = record { links = h.links; made = h.made }
credits-kept m less a _ h = h

abbrev pub credits_law : (m : Moment) → IsCreditless m → Law m
credits_law m less = upon (basis m) (λ a. CreditsAt m a.state.bus.made a.state.host)
    (λ a x g h. credits-kept m less a x h)

-- ---- connections are made, and none is unmade

pub made-kept : (m : Moment) (a : Point) (x : Change m a) → m.before.bus.made ≤ a.state.bus.made
    → m.before.bus.made ≤ (changed m a x).state.bus.made
made-kept m a (acts_made w q rest free is) h = omega (arith, h)
made-kept m a (acts_asked q n rest is) h =
    subst (λ (b : Bus). m.before.bus.made ≤ b.made) (sym (awaited-rest q.purpose n).bus) h
made-kept m a _ h = h

abbrev pub made_law : (m : Moment) → Law m
made_law m = upon (basis m) (λ a. m.before.bus.made ≤ a.state.bus.made)
    (λ a x g h. made-kept m a x h)
