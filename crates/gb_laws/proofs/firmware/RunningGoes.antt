-- What is known of the downloads that run is kept where one goes on or is done.
use Rattle.std.proofs.Common.{List, None, Some, ap, ap₂, refl, subst, sym, true, ℕ, ⊎_elim, ◌++◌}
use Rattle.std.proofs.Common.{◌<◌, ◌∙◌, ◌≡◌, ◌≤◌}
use Rattle.std.specs.List.{find}
use Rattle.std.specs.Prelude.{◌==◌}
use Rattle.gb_base.specs.declared.download.Next.TheVariants as next
use Rattle.gb_base.specs.declared.end.End.TheVariants as end
use Rattle.gb_base.specs.declared.served.OwnAsk.{OwnAsk}
use Rattle.gb_formats.specs.FirmwareRecords.{read_firmware_ask}
use Rattle.gb_formats.specs.Loader.{Download, Loader}
use Rattle.gb_formats.specs.Module.{Module}
use Rattle.gb_formats.specs.ValidEvents.{IsTag}
use Rattle.gb_machine.specs.Bus.{Connection, connection_of, next_number}
use Rattle.gb_machine.specs.LawsBus.{AreApart}
use Rattle.gb_machine.specs.LawsFirmware.{Follow, WasAsked, WasClean, range_in, range_of, ranges_of}
use Rattle.gb_machine.specs.Loading.{is_trail_at}
use Rattle.gb_machine.specs.Members.{EachTwo, IsIn}
use Rattle.gb_machine.specs.Modules.{with_module}
use Rattle.gb_machine.specs.Runs.{Moment}
use Rattle.gb_machine.specs.Sending.{Draft, label_for, requested}
use Rattle.gb_machine.specs.State.{Load, State, Trail}
use Rattle.gb_invariants.proofs.Awaiting.{none-some, same-some}
use Rattle.gb_invariants.proofs.Lists.{each-in, found-in}
use Rattle.gb_invariants.proofs.Numbers.{found-number}
use Rattle.gb_invariants.proofs.Outcomes.{both-true, same-number}
use Rattle.gb_invariants.specs.Facts.{BusFits, IsMade, Loose}
use Rattle.gb_laws.proofs.firmware.MomentToPoint.{FromBefore, UncleanAreKnown}
use Rattle.gb_laws.proofs.firmware.HeardBack.{Heard, heard}
use Rattle.gb_laws.proofs.firmware.NextPieces.{Finished, GoesOn, Piece, Went, behind_fetch}
use Rattle.gb_laws.proofs.firmware.NextPieces.{behind_find, last, more}
use Rattle.gb_laws.proofs.firmware.PiecesKnown.{goes-known}
use Rattle.gb_laws.proofs.firmware.Running.{AsksFor, FitsAt, HasSoFar, IsFresh, IsGood, QuietAt}
use Rattle.gb_laws.proofs.firmware.Running.{RunAt, RunIn, Running, reached}
use Rattle.gb_laws.proofs.firmware.RunningAsks.{asked-now, other-load, run-other}
use Rattle.gb_laws.proofs.firmware.RunningKept.{one-or_apart}
use Rattle.gb_laws.proofs.firmware.RunningMoved.{trails-kept}
use Rattle.gb_laws.proofs.firmware.RunningNew.{Apart, longer, longer-aside, longer-found, new-only}
use Rattle.gb_laws.proofs.firmware.RunningNew.{run-new}
use Rattle.gb_laws.proofs.firmware.RunningStays.{run-moved}
use Rattle.gb_laws.proofs.opened.OpeningTold.{told-stays}
use Rattle.gb_laws.proofs.points.PointParts.{Basis, Point, loose}
use Rattle.gb_laws.proofs.points.Points.{HearsBack, IsAskedBy, IsFarAsking, IsGoing, IsIdle, asks}
use Rattle.gb_laws.proofs.points.Points.{by_loader, changed, continues, finishes, loader_in}

-- ---- the next request

piece-asks : (id size : ℕ) (d e : Download) (own : OwnAsk) (draft : Draft) (label : ℕ)
    → draft.kind ≡ own.kind → draft.payload ≡ own.payload → Piece id size d own e
    → AsksFor e.awaits e (requested draft label)
piece-asks id size d e own draft label kind payload (last all is so) =
    subst (λ x. AsksFor x.awaits x (requested draft label)) (sym so) tt
piece-asks id size d e own draft label kind payload (more part is so) =
    subst (λ x. AsksFor x.awaits x (requested draft label)) (sym so)
    (kind ∙ ap (λ (o : OwnAsk). o.kind) is, payload ∙ ap (λ (o : OwnAsk). o.payload) is)

piece-tag : (id size : ℕ) (d e : Download) (own : OwnAsk) → Piece id size d own e → e.tag ≡ d.tag
piece-tag id size d e own (last all is so) = ap (λ (x : Download). x.tag) so
piece-tag id size d e own (more part is so) = ap (λ (x : Download). x.tag) so

piece-fresh : (id size : ℕ) (d e : Download) (own : OwnAsk) → Piece id size d own e
    → IsFresh e.awaits e
piece-fresh id size d e own (last all is so) = subst (λ x. IsFresh x.awaits x) (sym so) tt
piece-fresh id size d e own (more part is so) = subst (λ x. IsFresh x.awaits x) (sym so) tt

-- what is so of each piece is so of each way to go on
goes-all : (d e : Download) (payload : List ℕ) (own : OwnAsk) (So : Type 0)
    → ((id size : ℕ) (f : Download) → f.tag ≡ d.tag → Piece id size f own e → So)
    → GoesOn d payload own e → So
goes-all d e payload own So h (behind_find id size at read p) = h id size d refl p
goes-all d e payload own So h (behind_fetch id size at long p) =
    h id size (record d { bytes = d.bytes ++ payload }) refl p

-- ---- what goes on

module _ (m : Moment) (a : Point) (rested : RunAt m.told m.before)
    (remembered : UncleanAreKnown m.before)
    (apart : EachTwo AreApart m.before.bus.connections) (before : List Loose)
    (was : BusFits before m.before.bus) (basis : Basis a) (on : FromBefore m a)
    (runs : RunIn m a) where
  pub continues-kept : (d : Draft) (c : Connection) (label : ℕ) (free : a.hand ≡ None)
      (live : connection_of d.connection a.state.bus ≡ Some c)
      (drawn : label_for d a.state.bus ≡ Some label) (i p : ℕ) (x : Module)
      (going : IsGoing m a.state c d (continues i p x)) (far : IsFarAsking m c d)
      (wired : (c.wired ≡ true) × (d.kind < 128))
      → RunIn m (changed m a (asks d c label free live drawn (by_loader (continues i p x) going far
      wired)))
  continues-kept d c label free live drawn i p x going far wired l j r at e ran =
      ⊎_elim old new (other-load i p (next_number a.state.bus) a.state.loads l j)
    where
      who : IsAskedBy m a c d
      who = by_loader (continues i p x) going far wired

      after : State
      after = (changed m a (asks d c label free live drawn who)).state

      Runs : Load → Download → Type 0
      Runs l e = Running (FitsAt m) m.before.bus.connections
          (changed m a (asks d c label free live drawn who)).hand
          (changed m a (asks d c label free live drawn who)).told after l e

      own : OwnAsk
      own = going.0

      h : Heard m a i p x (next.Ask own)
      h = heard m a rested remembered apart on runs i p x (next.Ask own) going.2 tt

      went : Went h.answered.download h.payload own h.before h.loaded.after
      went = h.follows

      c_live : IsIn c a.state.bus.connections × (c.number ≡ d.connection)
      c_live = found-number d.connection a.state.bus c live

      number : d.connection ≡ h.run.trail.connection
      number = sym c_live.1 ∙ h.live c c_live.0 wired.0 going.1

      old : IsIn l a.state.loads × Apart l.intf l.cport i p → Runs l e
      old o = run-other m a basis on runs d c label free live drawn who i p l e
          (runs l o.0 r (sym (h.changes.others l.intf l.cport o.1) ∙ at) e ran) going.1 o.1
          (longer-aside i p (next_number a.state.bus) l.intf l.cport a.state.past.loading
          (λ s t. o.1 (sym s) (sym t)))

      trail : Trail
      trail = longer (next_number a.state.bus) h.run.trail

      found : find (is_trail_at i p) a.state.past.loading ≡ Some h.run.trail
      found = subst (λ k. find (is_trail_at k p) a.state.past.loading ≡ Some h.run.trail) h.intf
          (subst (λ k. find (is_trail_at h.last.intf k) a.state.past.loading ≡ Some h.run.trail)
          h.cport h.run.found)

      at_own : end.Module h.run.trail.intf h.run.trail.cport ≡ end.Module i p
      at_own =
          let f = (found-in (is_trail_at i p) a.state.past.loading h.run.trail found).1 in
          let s = both-true (h.run.trail.intf == i) (h.run.trail.cport == p) f in
          ap₂ end.Module (same-number h.run.trail.intf i s.0)
          (same-number h.run.trail.cport p s.1)

      made : d.connection ≤ a.state.bus.made
      made = subst (λ n. n ≤ a.state.bus.made) c_live.1 (each-in (IsMade a.state.bus)
          a.state.bus.connections c basis.bus.numbers.range c_live.0).1

      load : Load
      load = record { intf = i; cport = p; request = next_number a.state.bus }

      known : (f : WasClean h.run.trail.connection a.state)
          → Follow 0 (ranges_of h.run.trail.requests a.state.bus)
          (reached h.answered.download.awaits h.answered.download)
          × Follow (reached h.answered.download.awaits h.answered.download)
          (range_of (Some (requested d label))) (reached went.download.awaits went.download)
          × HasSoFar (FitsAt m) after (next_number a.state.bus) d.connection went.download.awaits
          went.download
      known f =
          let fetches = h.run.clean f in
          let reply = h.reply f in
          let k = goes-known (FitsAt m) after (next_number a.state.bus) d.connection on.short
          (new-only a.state after d label refl (loose a) basis.bus before m.before was on.requests
          going.3.0 made
          (subst (λ n. QuietAt n a.state.bus) (sym number) reply.0))
          a.state h.last.request h.answered.download h.payload own went.download refl h.run.fresh
          (subst (λ n. HasSoFar (FitsAt m) a.state h.last.request n h.answered.download.awaits
          h.answered.download) (sym number) fetches.has)
          (subst (λ n. IsGood (FitsAt m) a.state n h.answered.download.awaits h.answered.download
          h.payload) (sym number) reply.1) went.goes in (
            fetches.ranges,
            subst (λ rs. Follow (reached h.answered.download.awaits h.answered.download) rs
                (reached went.download.awaits went.download))
                (sym (ap₂ (λ u v. range_in (read_firmware_ask u v)) going.3.1 going.3.2)) k.1,
            k.0,
          )

      fresh : Runs load went.download
      fresh = subst (λ hand. Running (FitsAt m) m.before.bus.connections hand
          (changed m a (asks d c label free live drawn who)).told after load went.download)
          (sym free)
          (run-new a.state after d label refl (loose a) basis.bus before m.before was on.requests
          going.3.0 made a.told (changed m a (asks d c label free live drawn who)).told
          (told-stays m a (asks d c label free live drawn who)) (FitsAt m) load went.download c
          trail
          h.run.trail.requests (reached h.answered.download.awaits h.answered.download) refl
          c_live.0 c_live.1 going.1 (sym number) refl
          (longer-found i p (next_number a.state.bus) a.state.past.loading h.run.trail found)
          (trails-kept a.told a.told a.state a.state h.run.trail trail h.run.trail.requests
          (λ x i. i) (λ n r e. e) (refl, refl, refl) h.run.made) (λ s. h.run.other (sym number ∙ s))
          (subst IsTag (sym (goes-all h.answered.download went.download h.payload own
          (went.download.tag ≡ h.answered.download.tag)
          (λ id size f t q. piece-tag id size f went.download own q ∙ t) went.goes)) h.run.tag)
          (goes-all h.answered.download went.download h.payload own
          (IsFresh went.download.awaits went.download)
          (λ id size f t q. piece-fresh id size f went.download own q) went.goes)
          (goes-all h.answered.download went.download h.payload own
          (AsksFor went.download.awaits went.download (requested d label))
          (λ id size f t q. piece-asks id size f went.download own d label going.3.1 going.3.2 q)
          went.goes)
          (subst (λ k. WasAsked (changed m a (asks d c label free live drawn who)).told
          (next_number a.state.bus) k) (sym at_own)
          (asked-now m a basis on runs d c label free live drawn who i p going.3.0 going.1))
          (λ w. known (subst (λ n. WasClean n a.state) number w)))

      new : l ≡ load → Runs l e
      new s = subst (λ k. Runs k e) (sym s) (subst (Runs load) (same-some went.download e
          (sym went.running ∙ ap (λ (k : Loader). k.running) (same-some h.loaded.after r
          (sym h.changes.is ∙ subst (λ (k : Load). loader_in k.intf k.cport
          (with_module i x a.state.modules) ≡ Some r) s at)) ∙ ran)) fresh)

  pub finishes-kept : (i p : ℕ) (x : Module) (tag : List ℕ) (size : ℕ) (idle : IsIdle a)
      (hears : HearsBack m a.state i p x (next.Done tag size))
      → RunIn m (changed m a (finishes i p x tag size idle hears))
  finishes-kept i p x tag size idle hears l j r at e ran =
      ⊎_elim here there (one-or_apart l.intf l.cport i p)
    where
      h : Heard m a i p x (next.Done tag size)
      h = heard m a rested remembered apart on runs i p x (next.Done tag size) hears tt

      done : Finished h.answered.download tag size h.loaded.after
      done = h.follows

      Runs : Type 0
      Runs = Running (FitsAt m) m.before.bus.connections a.hand
          (changed m a (finishes i p x tag size idle hears)).told
          (changed m a (finishes i p x tag size idle hears)).state l e

      here : (l.intf ≡ i) × (l.cport ≡ p) → Runs
      here s =
          let at_own = subst (λ k. loader_in k p (with_module i x a.state.modules) ≡ Some r) s.0
          (subst (λ k. loader_in l.intf k (with_module i x a.state.modules) ≡ Some r) s.1 at) in
          absurd (none-some (sym done.running
          ∙ ap (λ (k : Loader). k.running) (same-some h.loaded.after r (sym h.changes.is ∙ at_own))
          ∙ ran))

      there : Apart l.intf l.cport i p → Runs
      there o = run-moved m a (finishes i p x tag size idle hears) l e basis on
          (runs l j r (sym (h.changes.others l.intf l.cport o) ∙ at) e ran) (λ n f brings. brings)
          refl
