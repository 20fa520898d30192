-- What holds where the loader of a firmware device asks: the last requests of others and their
-- downloads stay, the request is told, and where a download begins no other loader changes.
use Rattle.std.proofs.Common.{List, None, Some, ap, false, inl, inr, refl, subst, sym, ℕ, ⊎_elim}
use Rattle.std.proofs.Common.{◌∙◌, ◌≡◌, ◌⊎◌}
use Rattle.std.specs.List.{find}
use Rattle.std.specs.Prelude.{◌&&◌, ◌==◌}
use Rattle.gb_base.specs.declared.end.End.TheVariants as end
use Rattle.gb_base.specs.declared.end.Side.TheVariants as side
use Rattle.gb_formats.specs.Loader.{Download, loader_begun}
use Rattle.gb_formats.specs.Message.{message_size, request, spelling}
use Rattle.gb_formats.specs.Module.{Module}
use Rattle.gb_formats.specs.ModuleLoads.{module_load}
use Rattle.gb_machine.specs.Asking.{asked}
use Rattle.gb_machine.specs.Bus.{Connection, connection_of, end_of, next_number, other_side}
use Rattle.gb_machine.specs.LawsFirmware.{WasAsked}
use Rattle.gb_machine.specs.Lists.{without}
use Rattle.gb_machine.specs.Loading.{is_load_at, is_trail_at, last_asked}
use Rattle.gb_machine.specs.Members.{IsIn}
use Rattle.gb_machine.specs.Modules.{with_module}
use Rattle.gb_machine.specs.Runs.{Moment}
use Rattle.gb_machine.specs.Sending.{Draft, is_lost, label_for}
use Rattle.gb_machine.specs.State.{Load, State}
use Rattle.gb_invariants.proofs.Lists.{in-behind, in-pushed, in-without, not-both}
use Rattle.gb_invariants.proofs.Numbers.{found-number}
use Rattle.gb_invariants.proofs.Outcomes.{is-same}
use Rattle.gb_laws.proofs.firmware.LoaderSteps.{ChangesIn, begun, changes-in}
use Rattle.gb_laws.proofs.firmware.MomentToPoint.{FromBefore}
use Rattle.gb_laws.proofs.firmware.Running.{FitsAt, RunIn, Running}
use Rattle.gb_laws.proofs.firmware.RunningNew.{Apart}
use Rattle.gb_laws.proofs.firmware.RunningStays.{run-moved}
use Rattle.gb_laws.proofs.points.PointParts.{Basis, Point, asked_told}
use Rattle.gb_laws.proofs.points.Points.{Change, IsAskedBy, IsGoing, asks, begins, changed}

-- the last request of another one stays
pub other-load : (i p n : ℕ) (loads : List Load) (l : Load) → IsIn l (last_asked i p n loads)
    → (IsIn l loads × Apart l.intf l.cport i p)
    ⊎ (l ≡ record { intf = i; cport = p; request = n })
other-load i p n loads l j = ⊎_elim
    (λ o. let w = in-without (is_load_at i p) loads l o in inl (w.0, apart w.1)) (λ e. inr e)
    (in-pushed l (without (is_load_at i p) loads) (record { intf = i; cport = p; request = n }) j)
  where
    apart : is_load_at i p l ≡ false → Apart l.intf l.cport i p
    apart f e g = not-both (is_load_at i p l)
        (ap (λ b. b && (l.cport == p)) (ap (λ x. x == i) e ∙ is-same i) ∙ ap (λ x. x == p) g
        ∙ is-same p) f

-- what becomes of loaders where one begins
pub begins-changes : (m : Moment) (s : State) (c : Connection) (d : Draft) (i p : ℕ) (x : Module)
    (going : IsGoing m s c d (begins i p x))
    → ChangesIn i p going.7 (loader_begun going.0 going.7) s.modules (with_module i x s.modules)
begins-changes m s c d i p x going =
    let loader = going.7 in
    let after = loader_begun going.0 loader in
    subst (λ y. ChangesIn i p loader after s.modules (with_module i y s.modules)) (sym going.6)
    (changes-in i p loader after s.modules going.1 (module_load going.1 p going.0) going.5
    (begun going.1 p going.0 loader going.8))

same-module : (i p j d : ℕ) → end.Module i p ≡ end.Module j d → (i ≡ j) × (p ≡ d)
same-module i p j d e = (cc, cc)

module _ (m : Moment) (a : Point) (basis : Basis a) (on : FromBefore m a) (runs : RunIn m a)
    (d : Draft) (c : Connection) (label : ℕ) (free : a.hand ≡ None)
    (live : connection_of d.connection a.state.bus ≡ Some c)
    (drawn : label_for d a.state.bus ≡ Some label) (who : IsAskedBy m a c d) where
  abbrev ask : Change m a
  ask = asks d c label free live drawn who

  abbrev after : State
  after = (changed m a ask).state

  abbrev Runs : Load → Download → Type 0
  Runs l e = Running (FitsAt m) m.before.bus.connections (changed m a ask).hand
      (changed m a ask).told after l e

  c_live : IsIn c a.state.bus.connections × (c.number ≡ d.connection)
  c_live = found-number d.connection a.state.bus c live

  -- what is told of the request
  pub asked-now : (i p : ℕ) → d.side ≡ side.Far → c.peer ≡ end.Module i p
      → WasAsked (changed m a ask).told (next_number a.state.bus) (end.Module i p)
  asked-now i p far peer = subst (WasAsked (changed m a ask).told (next_number a.state.bus))
      (ap (λ s. end_of s c) far ∙ peer) (record {
        to = end_of (other_side d.side) c;
        kind = d.kind;
        size = message_size d.payload;
        bytes = spelling (request label d.kind d.payload);
        lost = is_lost d a.state.bus;
        said = in-behind (asked d c label a.state.bus) a.told (asked_told d c label a.state.bus)
            (inl refl);
      })

  -- another download is none of its business
  pub run-other : (i p : ℕ) (l : Load) (e : Download)
      → Running (FitsAt m) m.before.bus.connections a.hand a.told a.state l e
      → c.peer ≡ end.Module i p
      → Apart l.intf l.cport i p
      → find (is_trail_at l.intf l.cport) after.past.loading
      ≡ find (is_trail_at l.intf l.cport) a.state.past.loading → Runs l e
  run-other i p l e run peer apart same = run-moved m a ask l e basis on run
      (λ n at brings. let s = same-module l.intf l.cport i p
      (sym (run.far c c_live.0 (c_live.1 ∙ at)) ∙ peer) in apart s.0 s.1) same
