-- What is known where the answer of success to the last request of a firmware device is delivered.
use Rattle.std.proofs.Common.{Bool, List, None, Some, ap, false, inl, inr, refl, subst, sym, true}
use Rattle.std.proofs.Common.{ℕ, [], ◌∙◌, ◌∷◌, ◌≡◌, ◌≢◌}
use Rattle.std.specs.Prelude.{◌==◌}
use Rattle.gb_base.specs.declared.download.Next.{Next}
use Rattle.gb_base.specs.declared.end.End.TheVariants as end
use Rattle.gb_base.specs.declared.end.Side.TheVariants as side
use Rattle.gb_base.specs.declared.outcome.Outcome.TheVariants as outcome
use Rattle.gb_formats.specs.Loader.{Loaded, Loader}
use Rattle.gb_formats.specs.Module.{Module}
use Rattle.gb_formats.specs.Results.{success}
use Rattle.gb_machine.specs.Bus.{Connection, Place, Reply, Request, queue, same_end}
use Rattle.gb_machine.specs.LawsBus.{AreApart}
use Rattle.gb_machine.specs.LawsFirmware.{WasClean}
use Rattle.gb_machine.specs.Lists.{first}
use Rattle.gb_machine.specs.Members.{EachTwo, IsIn}
use Rattle.gb_machine.specs.Modules.{with_module}
use Rattle.gb_machine.specs.Runs.{Moment}
use Rattle.gb_machine.specs.State.{Load}
use Rattle.gb_invariants.proofs.Awaiting.{same-some}
use Rattle.gb_invariants.proofs.ItemChanges.{first-in}
use Rattle.gb_invariants.proofs.Lists.{each-in, found-in, not-both}
use Rattle.gb_invariants.proofs.Selves.{svc-no-module}
use Rattle.gb_laws.proofs.firmware.MomentToPoint.{FromBefore, UncleanAreKnown, one-place}
use Rattle.gb_laws.proofs.firmware.LoaderSteps.{ChangesIn, EndsLoader, IsNoFailure, changes-in}
use Rattle.gb_laws.proofs.firmware.LoaderSteps.{ended-loader}
use Rattle.gb_laws.proofs.firmware.NextPieces.{Answered, FollowsSo, answered-so}
use Rattle.gb_laws.proofs.firmware.Running.{FitsAt, Free, IsGood, QuietAt, RunAt, RunIn, Running}
use Rattle.gb_laws.proofs.points.Places.{place-is}
use Rattle.gb_laws.proofs.points.PointParts.{Point, Wired}
use Rattle.gb_laws.proofs.points.Points.{HearsBack, loader_in}
use Rattle.gb_laws.proofs.runs.SettleQueues.{end-self}

-- ---- one connection for a far end

apart-peers : (c d : Connection) → AreApart c d → c.peer ≡ d.peer → ⊥
apart-peers c d h e = not-both (same_end c.peer d.peer)
    (ap (same_end c.peer) (sym e) ∙ end-self c.peer) h.peers

-- connections with one far end are one
pub one-peer : (cs : List Connection) (c d : Connection) → EachTwo AreApart cs → IsIn c cs
    → IsIn d cs → c.peer ≡ d.peer → c ≡ d
one-peer [] c d apart i j e = absurd i
one-peer (x ∷ xs) c d apart (inl i) (inl j) e = i ∙ sym j
one-peer (x ∷ xs) c d apart (inl i) (inr j) e = absurd (apart-peers x d
    (each-in (AreApart x) xs d apart.0 j) (ap (λ (y : Connection). y.peer) (sym i) ∙ e))
one-peer (x ∷ xs) c d apart (inr i) (inl j) e = absurd (apart-peers x c
    (each-in (AreApart x) xs c apart.0 i) (ap (λ (y : Connection). y.peer) (sym j) ∙ sym e))
one-peer (x ∷ xs) c d apart (inr i) (inr j) e = one-peer xs c d apart.1 i j e

-- ---- what is heard

-- The download that runs at a CPort, the answer to its request, and what follows.
pub record Heard (m : Moment) (a : Point) (i c : ℕ) (x : Module) (what : Next) : Type 0 where
  pub last : Load
  pub inside : IsIn last a.state.loads
  pub intf : last.intf ≡ i
  pub cport : last.cport ≡ c
  pub before : Loader
  pub loaded : Loaded
  pub changes : ChangesIn i c before loaded.after a.state.modules (with_module i x a.state.modules)
  pub payload : List ℕ
  pub answered : Answered payload before loaded
  pub follows : FollowsSo answered.download payload before loaded.after what
  pub run : Running (FitsAt m) m.before.bus.connections a.hand a.told a.state last
      answered.download
  pub reply : WasClean run.trail.connection a.state
      → QuietAt run.trail.connection a.state.bus
      × IsGood (FitsAt m) a.state run.trail.connection answered.download.awaits answered.download
      payload
  pub live : (d : Connection) → IsIn d a.state.bus.connections → d.wired ≡ true
      → d.peer ≡ end.Module i c → d.number ≡ run.trail.connection

module _ (m : Moment) (a : Point) (rested : RunAt m.told m.before)
    (remembered : UncleanAreKnown m.before)
    (apart : EachTwo AreApart m.before.bus.connections) (on : FromBefore m a)
    (runs : RunIn m a) where
  pub heard : (i c : ℕ) (x : Module) (what : Next) → HearsBack m a.state i c x what
      → IsNoFailure what → Heard m a i c x what
  heard i c x what h good = record {
    last = h.last;
    inside = inside;
    intf = h.intf;
    cport = h.cport;
    before = ends.before;
    loaded = ends.loaded;
    changes = changes;
    payload = h.payload;
    answered = said;
    follows = subst (FollowsSo said.download h.payload ends.before ends.loaded.after) ends.next
        said.follows;
    run = run;
    reply = λ w. (run.clean w).reply h.payload (inr (
      h.heard.place.connection,
      live,
      number,
      waits w,
    ));
    live = own;
  }
    where
      inside : IsIn h.last a.state.loads
      inside = (found-in (λ (l : Load). l.request == h.last.request) a.state.loads h.last h.load).0

      ends : EndsLoader h.body c (outcome.Answered success h.payload) x what
      ends = ended-loader h.body c (outcome.Answered success h.payload) x what h.ends good

      changes : ChangesIn i c ends.before ends.loaded.after a.state.modules
          (with_module i x a.state.modules)
      changes = changes-in i c ends.before ends.loaded.after a.state.modules h.body x h.plugged
          ends.changes

      said : Answered h.payload ends.before ends.loaded
      said = answered-so h.payload ends.before ends.loaded ends.ended

      at : loader_in h.last.intf h.last.cport a.state.modules ≡ Some ends.before
      at = subst (λ j. loader_in j h.last.cport a.state.modules ≡ Some ends.before) (sym h.intf)
          (subst (λ d. loader_in i d a.state.modules ≡ Some ends.before) (sym h.cport) changes.was)

      run : Running (FitsAt m) m.before.bus.connections a.hand a.told a.state h.last said.download
      run = runs h.last inside ends.before at said.download said.ran

      rest : Running Free m.before.bus.connections None m.told m.before h.last said.download
      rest = rested h.last (subst (λ ls. IsIn h.last ls) h.loads inside) ends.before
          (subst (λ ms. loader_in h.last.intf h.last.cport ms ≡ Some ends.before) h.modules at)
          said.download said.ran

      request : h.heard.request ≡ rest.request
      request = same-some h.heard.request rest.request (sym h.heard.made ∙ rest.is)

      trail : rest.trail.connection ≡ run.trail.connection
      trail = sym rest.connection ∙ ap (λ (r : Request). r.connection)
          (same-some rest.request run.request
          (sym (on.requests h.last.request rest.request rest.is) ∙ run.is)) ∙ run.connection

      p : Place
      p = h.heard.place

      live : IsIn p.connection m.before.bus.connections
      live = (place-is h.heard.at m.before.bus.connections p h.heard.named).live

      far : p.side ≡ side.Far
      far = sym h.heard.side ∙ ap (λ (r : Request). r.side) request ∙ rest.side

      old_number : p.connection.number ≡ rest.trail.connection
      old_number = sym h.heard.on ∙ ap (λ (r : Request). r.connection) request ∙ rest.connection

      number : p.connection.number ≡ run.trail.connection
      number = old_number ∙ trail

      peer : p.connection.peer ≡ end.Module i c
      peer = rest.far p.connection live old_number
          ∙ ap (λ j. end.Module j h.last.cport) h.intf ∙ ap (end.Module i) h.cport

      waits : WasClean run.trail.connection a.state
          → IsIn (Reply h.last.request success h.payload) p.connection.to_far
      waits w = by p.connection.clean refl
        where
          by : (t : Bool) → p.connection.clean ≡ t
              → IsIn (Reply h.last.request success h.payload) p.connection.to_far
          by false e = absurd (w (on.unclean run.trail.connection
              (subst (λ n. IsIn n m.before.past.unclean) number
              (remembered p.connection live e))))
          by true e = first-in p.connection.to_far (Reply h.last.request success h.payload)
              (subst (λ s. first (queue s p.connection) ≡ Some (Reply h.last.request success
              h.payload)) far (h.heard.front ∙ ap Some (h.heard.numbered e)))

      unwired : a.wires ≢ Wired
      unwired e =
          let s = on.svc e in
          svc-no-module (sym s.svc ∙ ap (λ (q : Place). q.connection.peer)
          (one-place m s.at h.heard.at s.place p s.event h.heard.event s.named h.heard.named)
          ∙ peer)

      own : (d : Connection) → IsIn d a.state.bus.connections → d.wired ≡ true
          → d.peer ≡ end.Module i c → d.number ≡ run.trail.connection
      own d j wired is =
          let w = on.wired unwired d j wired in
          w.2.number ∙ ap (λ (y : Connection). y.number)
          (one-peer m.before.bus.connections w.0 p.connection apart w.1 live
          (sym w.2.peer ∙ is ∙ sym peer)) ∙ number
