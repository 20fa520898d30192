-- What is known of the downloads that run is kept by each single change.
use Rattle.std.proofs.Common.{Bool, List, None, Option, Some, ap, false, inl, inr, refl, subst, sym}
use Rattle.std.proofs.Common.{true, ℕ, ⊎_elim, ◌∙◌, ◌≡◌, ◌⊎◌}
use Rattle.std.specs.List.{find}
use Rattle.std.specs.Prelude.{◌==◌}
use Rattle.gb_base.specs.declared.end.Side.TheVariants as side
use Rattle.gb_formats.specs.Loader.{Download, Loader, first_loader, loader_failed}
use Rattle.gb_machine.specs.Bus.{Ask, other_side}
use Rattle.gb_machine.specs.Incoming.{Incoming, reply_to}
use Rattle.gb_machine.specs.Loading.{is_trail_at}
use Rattle.gb_machine.specs.Members.{IsIn}
use Rattle.gb_machine.specs.Modules.{module_at}
use Rattle.gb_machine.specs.Runs.{Moment}
use Rattle.gb_machine.specs.Sending.{Draft}
use Rattle.gb_machine.specs.Serving.{Answer}
use Rattle.gb_machine.specs.State.{Load, Plugged, Port}
use Rattle.gb_invariants.proofs.Awaiting.{none-some, same-some}
use Rattle.gb_invariants.proofs.BusChanges.{number_of}
use Rattle.gb_invariants.proofs.Found.{find-left}
use Rattle.gb_invariants.proofs.Lists.{in-without, not-both}
use Rattle.gb_invariants.proofs.Numbers.{found-number}
use Rattle.gb_invariants.proofs.Outcomes.{both-true, is-same, same-number}
use Rattle.gb_invariants.proofs.Selves.{ap-no-far}
use Rattle.gb_laws.proofs.firmware.MomentToPoint.{FromBefore, SameDownloads, awaited-downloads}
use Rattle.gb_laws.proofs.firmware.FirmwareQueues.{BringsTo}
use Rattle.gb_laws.proofs.firmware.Running.{FitsAt, RunIn, Running}
use Rattle.gb_laws.proofs.firmware.RunningNew.{Apart}
use Rattle.gb_laws.proofs.firmware.RunningStays.{run-moved}
use Rattle.gb_laws.proofs.points.ChangeBuses.{bus_change}
use Rattle.gb_laws.proofs.points.PointParts.{Basis, Point}
use Rattle.gb_laws.proofs.points.Points.{Change, IsElse, IsOfSvc, KeepLoaders, StaysOrFails}
use Rattle.gb_laws.proofs.points.Points.{acts_asked, asks, by_far, by_host, by_loader, changed}
use Rattle.gb_laws.proofs.points.Points.{finishes, injects, loader_in, names, others, replies}
use Rattle.gb_laws.proofs.points.Points.{unloads}

-- ---- changes by which no download goes on

-- no firmware device asks, is done, fails or is gone
abbrev pub IsAside : (m : Moment) (a : Point) → Change m a → Type 0
IsAside m a (asks d c label free live drawn (by_loader x going far on)) = ⊥
IsAside m a (finishes i c x tag size idle is) = ⊥
IsAside m a (unloads i of gone) = ⊥
IsAside m a (others booted marks ports modules same) = ⊥
IsAside m a _ = Unit {0}

-- then all of them stay
pub same-downloads : (m : Moment) (a : Point) (x : Change m a) → IsAside m a x
    → SameDownloads a.state (changed m a x).state
same-downloads m a (acts_asked q n rest is) plain =
    (awaited-downloads q.purpose n a.state).0
same-downloads m a (asks d c label free live drawn (by_host q rest is draft none)) plain =
    record { modules = refl; loads = refl; loading = refl; loaded = refl }
same-downloads m a (asks d c label free live drawn (by_far who on unloaded)) plain =
    record { modules = refl; loads = refl; loading = refl; loaded = refl }
same-downloads m a (asks d c label free live drawn (by_loader x going far on)) plain = absurd plain
same-downloads m a (finishes i c x tag size idle is) plain = absurd plain
same-downloads m a (unloads i of gone) plain = absurd plain
same-downloads m a (others booted marks ports modules same) plain = absurd plain
same-downloads m a _ plain =
    record { modules = refl; loads = refl; loading = refl; loaded = refl }

-- a reply is no request
reply-no-ask : (o : Option ℕ) (q : Incoming) (r : Answer) (n : ℕ) → Ask n ≡ reply_to o q r → ⊥
reply-no-ask None q r n e = absurd cc
reply-no-ask (Some k) q r n e = absurd cc

-- and no request comes on the connection of a download
none-comes : (m : Moment) (a : Point) (x : Change m a) → IsAside m a x → (l : Load) (d : Download)
    (r : Loader) → loader_in l.intf l.cport a.state.modules ≡ Some r
    → (run : Running (FitsAt m) m.before.bus.connections a.hand a.told a.state l d) (n : ℕ)
    → number_of (bus_change x) ≡ run.trail.connection
    → BringsTo (bus_change x) a.state.bus side.Ap (Ask n) → ⊥
none-comes m a (asks d' c label free live drawn (by_host q rest is draft none)) plain l d r at run n
    on brings = ap-no-far (brings.0 ∙ ap (λ (y : Draft). other_side y.side) draft)
none-comes m a (asks d' c label free live drawn (by_far who wired unloaded)) plain l d r at run n on
    brings = ⊎_elim (λ one. run.other (sym on ∙ one))
    (λ none. let f = found-number d'.connection a.state.bus c live in
    none-some (sym (none l.intf l.cport (run.far c f.0 (f.1 ∙ on))) ∙ at)) unloaded
none-comes m a (asks d' c label free live drawn (by_loader x going far wired)) plain l d r at run n
    on brings = plain
none-comes m a (names name d' c label free live drawn host) plain l d r at run n on brings =
    ap-no-far (brings.0 ∙ ap other_side host.0)
none-comes m a (replies h q y is made twoway) plain l d r at run n on brings =
    reply-no-ask q.number q y n brings.1
none-comes m a (injects i c p bytes free named) plain l d r at run n on brings = absurd cc
none-comes m a _ plain l d r at run n on brings = absurd brings

pub aside-kept : (m : Moment) (a : Point) (x : Change m a) → IsAside m a x → Basis a
    → FromBefore m a → RunIn m a → RunIn m (changed m a x)
aside-kept m a x plain basis on runs l i r at d ran =
    run-moved m a x l d basis on run
    (none-comes m a x plain l d r was run)
    (ap (find (is_trail_at l.intf l.cport)) same.loading)
  where
    same : SameDownloads a.state (changed m a x).state
    same = same-downloads m a x plain

    was : loader_in l.intf l.cport a.state.modules ≡ Some r
    was = ap (loader_in l.intf l.cport) (sym same.modules) ∙ at

    run : Running (FitsAt m) m.before.bus.connections a.hand a.told a.state l d
    run = runs l (subst (λ ls. IsIn l ls) same.loads i) r was d ran

-- ---- CPorts

-- two CPorts are one, or not
pub one-or_apart : (i c j d : ℕ) → ((i ≡ j) × (c ≡ d)) ⊎ Apart i c j d
one-or_apart i c j d = by (i == j) refl (c == d) refl
  where
    by : (t : Bool) → (i == j) ≡ t → (u : Bool) → (c == d) ≡ u
        → ((i ≡ j) × (c ≡ d)) ⊎ Apart i c j d
    by true e true f = inl (same-number i j e, same-number c d f)
    by false e u f = inr (λ s v. not-both (i == j) (ap (λ n. i == n) (sym s) ∙ is-same i) e)
    by true e false f = inr (λ s v. not-both (c == d) (ap (λ n. c == n) (sym v) ∙ is-same c) f)

-- ---- downloads that fail, are done, or are gone

-- no download runs in a loader that has none
unrunning : (r s : Loader) (d : Download) → r ≡ s → s.running ≡ None → r.running ≡ Some d → ⊥
unrunning r s d e none ran =
    none-some (sym none ∙ ap (λ (l : Loader). l.running) (sym e) ∙ ran)

pub others-kept : (m : Moment) (a : Point) (booted : Bool) (marks : List ℕ) (ports : List Port)
    (modules : List Plugged) (same : IsElse m a booted marks ports modules
    × KeepLoaders a.state.modules modules) → Basis a → FromBefore m a → RunIn m a
    → RunIn m (changed m a (others booted marks ports modules same))
others-kept m a booted marks ports modules same basis on runs l i r at d ran =
    run-moved m a (others booted marks ports modules same) l d basis on
    (by (loader_in l.intf l.cport a.state.modules) refl (same.1 l.intf l.cport))
    (λ n e brings. brings) refl
  where
    by : (o : Option Loader) → loader_in l.intf l.cport a.state.modules ≡ o
        → StaysOrFails o (loader_in l.intf l.cport modules)
        → Running (FitsAt m) m.before.bus.connections a.hand a.told a.state l d
    by o e (inl stays) = runs l i r (e ∙ sym stays ∙ at) d ran
    by o e (inr (inl none)) = absurd (none-some (sym none ∙ at))
    by o e (inr (inr (inl fresh))) =
        absurd (unrunning r first_loader d (sym (same-some first_loader r (sym fresh ∙ at))) refl
        ran)
    by None e (inr (inr (inr failed))) = absurd (none-some (sym failed ∙ at))
    by (Some s) e (inr (inr (inr failed))) = absurd (unrunning r (loader_failed s) d
        (sym (same-some (loader_failed s) r (sym failed ∙ at))) refl ran)

pub unloads-kept : (m : Moment) (a : Point) (i : ℕ) (of : IsOfSvc m.event)
    (gone : module_at i a.state.modules ≡ None) → Basis a → FromBefore m a → RunIn m a
    → RunIn m (changed m a (unloads i of gone))
unloads-kept m a i of gone basis on runs l j r at d ran =
    let w = in-without (λ (x : Load). x.intf == i) a.state.loads l j in
    run-moved m a (unloads i of gone) l d basis on (runs l w.0 r at d ran) (λ n e brings. brings)
    (find-left (is_trail_at l.intf l.cport) (λ t. t.intf == i) a.state.past.loading
    (λ t e. ap (λ n. n == i) (same-number t.intf l.intf
    (both-true (t.intf == l.intf) (t.cport == l.cport) e).0) ∙ w.1))
