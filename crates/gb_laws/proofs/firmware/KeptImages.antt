-- What a firmware device keeps came by its last download that was done.
use Rattle.std.proofs.Common.{Bool, List, None, Option, Some, ap, cond, false, inl, inr, length}
use Rattle.std.proofs.Common.{refl, subst, sym, true, ℕ, ⊎_elim, [], ◌++◌, ◌<◌, ◌∙◌, ◌∷◌, ◌≡◌}
use Rattle.std.proofs.lemmas.List.Folds.{find-append}
use Rattle.std.specs.List.{filter, find}
use Rattle.std.specs.Option.{option_or}
use Rattle.std.specs.Prelude.{option_and_then, ◌==◌}
use Rattle.gb_base.specs.declared.download.Next.TheVariants as next
use Rattle.gb_base.specs.declared.entry.Entry.{Entry}
use Rattle.gb_formats.specs.Images.{Image}
use Rattle.gb_formats.specs.Loader.{Loader, loader_begun}
use Rattle.gb_formats.specs.Module.{Module}
use Rattle.gb_formats.specs.ModuleLoads.{kept_at, loader_at}
use Rattle.gb_machine.specs.Bus.{Connection, connection_of}
use Rattle.gb_machine.specs.LawsBus.{AreApart}
use Rattle.gb_machine.specs.LawsFirmware.{AreLoaded, Follow, IsLoaded, kept, ranges_of}
use Rattle.gb_machine.specs.Lists.{without}
use Rattle.gb_machine.specs.Loading.{is_trail_at}
use Rattle.gb_machine.specs.Members.{EachTwo}
use Rattle.gb_machine.specs.Modules.{module_at}
use Rattle.gb_machine.specs.Runs.{Moment}
use Rattle.gb_machine.specs.Sending.{Draft, label_for}
use Rattle.gb_machine.specs.State.{Plugged, Port, State, Trail}
use Rattle.gb_invariants.proofs.Awaiting.{none-some, same-some}
use Rattle.gb_invariants.proofs.BusChanges.{KeepsRequests}
use Rattle.gb_invariants.proofs.Found.{find-left, none-of}
use Rattle.gb_invariants.proofs.Lists.{found-in, in-filter, not-both}
use Rattle.gb_invariants.proofs.Outcomes.{both-true, same-number}
use Rattle.gb_laws.proofs.firmware.MomentToPoint.{FromBefore, UncleanAreKnown, unclean-kept}
use Rattle.gb_laws.proofs.firmware.HeardBack.{Heard, heard}
use Rattle.gb_laws.proofs.firmware.LoaderSteps.{ChangesIn}
use Rattle.gb_laws.proofs.firmware.NextPieces.{Finished, Went}
use Rattle.gb_laws.proofs.firmware.Running.{FitsAt, HasSoFar, RunAt, RunIn, reached}
use Rattle.gb_laws.proofs.firmware.RunningAsks.{begins-changes}
use Rattle.gb_laws.proofs.firmware.RunningKept.{IsAside, one-or_apart, same-downloads}
use Rattle.gb_laws.proofs.firmware.RunningMoved.{ranges-kept, trails-kept}
use Rattle.gb_laws.proofs.firmware.RunningNew.{Apart, trail-apart}
use Rattle.gb_laws.proofs.firmware.RunningStays.{image-kept}
use Rattle.gb_laws.proofs.opened.OpeningTold.{told-stays}
use Rattle.gb_laws.proofs.points.ChangeBuses.{keeps-requests}
use Rattle.gb_laws.proofs.points.PointParts.{Point}
use Rattle.gb_laws.proofs.points.Points.{Change, HearsBack, IsElse, IsFarAsking, IsGoing, IsIdle}
use Rattle.gb_laws.proofs.points.Points.{IsOfSvc, KeepLoaders, StaysOrFails, asks, begins}
use Rattle.gb_laws.proofs.points.Points.{by_loader, changed, continues, finishes, loader_in, others}
use Rattle.gb_laws.proofs.points.Points.{unloads}

-- ---- by loaders

-- the image that a loader keeps
abbrev pub kept_of : Option Loader → Option Image
kept_of o = option_and_then (λ (l : Loader). l.kept) o

-- what a firmware device keeps is what its loader keeps
pub kept-loader : (i c : ℕ) (s : State) → kept i c s ≡ kept_of (loader_in i c s.modules)
kept-loader i c s = by (module_at i s.modules)
  where
    by : (o : Option Module) → option_and_then (λ m. kept_at m c) o
        ≡ kept_of (option_and_then (λ m. loader_at m c) o)
    by None = refl
    by (Some m) = refl

-- ---- what came so

-- It came so still, where its trail is remembered.
pub loaded-moved : (m : Moment) (a : Point) (x : Change m a) (i c : ℕ) (image : Image)
    → find (is_trail_at i c) (changed m a x).state.past.loaded
    ≡ find (is_trail_at i c) a.state.past.loaded
    → IsLoaded a.told a.state i c image
    → IsLoaded (changed m a x).told (changed m a x).state i c image
loaded-moved m a x i c image same h = record {
  trail = h.trail;
  is = same ∙ h.is;
  made = trails-kept a.told (changed m a x).told a.state after h.trail h.trail h.trail.requests
      (told-stays m a x) stay (refl, refl, refl) h.made;
  ranges = λ w. subst (λ rs. Follow 0 rs (length image.bytes))
      (sym (ranges-kept a.told a.state after h.trail h.trail.requests stay h.made))
      (h.ranges (λ j. w (unclean-kept m a x h.trail.connection j)));
  given = λ w. image-kept m a x image.tag image.bytes
      (h.given (λ j. w (unclean-kept m a x h.trail.connection j)));
}
  where
    after : State
    after = (changed m a x).state

    stay : KeepsRequests a.state.bus after.bus
    stay = keeps-requests m a x

-- each image that is kept did
abbrev pub KeptAt : Point → Type 0
KeptAt a = AreLoaded a.told a.state

-- where the loader of a CPort keeps what it kept
kept-same : (i c : ℕ) (s t : State) (image : Image)
    → kept_of (loader_in i c t.modules) ≡ kept_of (loader_in i c s.modules)
    → kept i c t ≡ Some image → kept i c s ≡ Some image
kept-same i c s t image same e = kept-loader i c s ∙ sym same ∙ sym (kept-loader i c t) ∙ e

pub aside-loaded : (m : Moment) (a : Point) (x : Change m a) → IsAside m a x → KeptAt a
    → KeptAt (changed m a x)
aside-loaded m a x plain h i c image e =
    let same = same-downloads m a x plain in
    loaded-moved m a x i c image (ap (find (is_trail_at i c)) same.loaded)
    (h i c image (kept-same i c a.state (changed m a x).state image
    (ap (λ ms. kept_of (loader_in i c ms)) same.modules) e))

-- where a loader changes that keeps its image
loader-kept : (m : Moment) (a : Point) (x : Change m a) (i c : ℕ) (before after : Loader)
    → ChangesIn i c before after a.state.modules (changed m a x).state.modules
    → after.kept ≡ before.kept → (changed m a x).state.past.loaded ≡ a.state.past.loaded
    → KeptAt a → KeptAt (changed m a x)
loader-kept m a x i c before after changes same loaded h j d image e =
    loaded-moved m a x j d image (ap (find (is_trail_at j d)) loaded)
    (h j d image (kept-same j d a.state (changed m a x).state image
    (⊎_elim here (λ o. ap kept_of (changes.others j d o)) (one-or_apart j d i c)) e))
  where
    here : (j ≡ i) × (d ≡ c) → kept_of (loader_in j d (changed m a x).state.modules)
        ≡ kept_of (loader_in j d a.state.modules)
    here s = ap (λ k. kept_of (loader_in k d (changed m a x).state.modules)) s.0
        ∙ ap (λ k. kept_of (loader_in i k (changed m a x).state.modules)) s.1
        ∙ ap kept_of changes.is ∙ same ∙ sym (ap kept_of changes.was)
        ∙ ap (λ k. kept_of (loader_in i k a.state.modules)) (sym s.1)
        ∙ ap (λ k. kept_of (loader_in k d a.state.modules)) (sym s.0)

-- where one begins
pub begins-loaded : (m : Moment) (a : Point) (d : Draft) (c : Connection) (label : ℕ)
    (free : a.hand ≡ None) (live : connection_of d.connection a.state.bus ≡ Some c)
    (drawn : label_for d a.state.bus ≡ Some label) (i p : ℕ) (x : Module)
    (going : IsGoing m a.state c d (begins i p x)) (far : IsFarAsking m c d)
    (wired : (c.wired ≡ true) × (d.kind < 128)) → KeptAt a
    → KeptAt (changed m a (asks d c label free live drawn (by_loader (begins i p x) going far
    wired)))
begins-loaded m a d c label free live drawn i p x going far wired =
    loader-kept m a (asks d c label free live drawn (by_loader (begins i p x) going far wired)) i p
    going.7 (loader_begun going.0 going.7) (begins-changes m a.state c d i p x going) refl refl

-- where loaders fail or are gone
pub others-loaded : (m : Moment) (a : Point) (booted : Bool) (marks : List ℕ) (ports : List Port)
    (modules : List Plugged) (same : IsElse m a booted marks ports modules
    × KeepLoaders a.state.modules modules) → KeptAt a
    → KeptAt (changed m a (others booted marks ports modules same))
others-loaded m a booted marks ports modules same h i c image e =
    loaded-moved m a (others booted marks ports modules same) i c image refl
    (h i c image (kept-loader i c a.state
    ∙ by (loader_in i c a.state.modules) (same.1 i c)))
  where
    now : kept_of (loader_in i c modules) ≡ Some image
    now = sym (kept-loader i c (changed m a (others booted marks ports modules same)).state) ∙ e

    by : (o : Option Loader) → StaysOrFails o (loader_in i c modules) → kept_of o ≡ Some image
    by o (inl stays) = ap kept_of (sym stays) ∙ now
    by o (inr (inl none)) = absurd (none-some (ap kept_of (sym none) ∙ now))
    by o (inr (inr (inl fresh))) = absurd (none-some (ap kept_of (sym fresh) ∙ now))
    by None (inr (inr (inr failed))) = absurd (none-some (ap kept_of (sym failed) ∙ now))
    by (Some s) (inr (inr (inr failed))) = ap kept_of (sym failed) ∙ now

pub unloads-loaded : (m : Moment) (a : Point) (i : ℕ) (of : IsOfSvc m.event)
    (gone : module_at i a.state.modules ≡ None) → KeptAt a
    → KeptAt (changed m a (unloads i of gone))
unloads-loaded m a i of gone h j c image e =
    loaded-moved m a (unloads i of gone) j c image
    (find-left (is_trail_at j c) (λ t. t.intf == i) a.state.past.loaded (λ t f. other
    (sym (same-number t.intf j (both-true (t.intf == j) (t.cport == c) f).0)) (t.intf == i) refl))
    (h j c image e)
  where
    other : {k : ℕ} → j ≡ k → (t : Bool) → (k == i) ≡ t → (k == i) ≡ false
    other s false f = f
    other {k} s true f = absurd (none-some
        (sym (ap (λ o. option_and_then (λ m. kept_at m c) o) gone)
        ∙ ap (λ n. kept n c a.state) (sym (same-number k i f) ∙ sym s) ∙ e))

-- ---- a download that is done

find-own : {A : Type 0} (test : A → Bool) (xs : List A) → find test (filter test xs) ≡ find test xs
find-own test [] = refl
find-own test (x ∷ xs) = by (test x) refl (find-own test xs)
  where
    by : (t : Bool) → test x ≡ t → find test (filter test xs) ≡ find test xs
        → find test (cond t (x ∷ filter test xs) (filter test xs)) ≡ cond t (Some x) (find test xs)
    by true e rec = ap (λ t. cond t (Some x) (find test (filter test xs))) e
    by false e rec = rec

-- none of another CPort is found among those of one
find-none_of : (i c j d : ℕ) (ts : List Trail) → Apart i c j d
    → find (is_trail_at j d) (filter (is_trail_at i c) ts) ≡ None
find-none_of i c j d ts other = by (find (is_trail_at j d) (filter (is_trail_at i c) ts)) refl
  where
    by : (o : Option Trail) → find (is_trail_at j d) (filter (is_trail_at i c) ts) ≡ o → o ≡ None
    by None e = refl
    by (Some t) e =
        let f = found-in (is_trail_at j d) (filter (is_trail_at i c) ts) t e in
        absurd (not-both (is_trail_at j d t) f.1 (trail-apart i c j d t other
        (in-filter (is_trail_at i c) ts t f.0).1))

or-none : {A : Type 0} (o : Option A) → option_or o None ≡ o
or-none None = refl
or-none (Some x) = refl

-- what is remembered of one that is done
loaded-here : (i c : ℕ) (loaded loading : List Trail)
    → find (is_trail_at i c) (without (is_trail_at i c) loaded ++ filter (is_trail_at i c) loading)
    ≡ find (is_trail_at i c) loading
loaded-here i c loaded loading =
    find-append (is_trail_at i c) (without (is_trail_at i c) loaded)
    (filter (is_trail_at i c) loading)
    ∙ ap (λ o. option_or o (find (is_trail_at i c) (filter (is_trail_at i c) loading)))
    (none-of (is_trail_at i c) loaded)
    ∙ find-own (is_trail_at i c) loading

loaded-aside : (i c j d : ℕ) (loaded loading : List Trail) → Apart i c j d
    → find (is_trail_at j d) (without (is_trail_at i c) loaded ++ filter (is_trail_at i c) loading)
    ≡ find (is_trail_at j d) loaded
loaded-aside i c j d loaded loading other =
    find-append (is_trail_at j d) (without (is_trail_at i c) loaded)
    (filter (is_trail_at i c) loading)
    ∙ ap (option_or (find (is_trail_at j d) (without (is_trail_at i c) loaded)))
    (find-none_of i c j d loading other)
    ∙ or-none (find (is_trail_at j d) (without (is_trail_at i c) loaded))
    ∙ find-left (is_trail_at j d) (is_trail_at i c) loaded
    (λ t e. trail-apart j d i c t (λ a b. other (sym a) (sym b)) e)

module _ (m : Moment) (a : Point) (rested : RunAt m.told m.before)
    (remembered : UncleanAreKnown m.before)
    (apart : EachTwo AreApart m.before.bus.connections) (on : FromBefore m a)
    (runs : RunIn m a) where
  -- where one goes on
  pub continues-loaded : (d : Draft) (c : Connection) (label : ℕ)
      (free : a.hand ≡ None) (live : connection_of d.connection a.state.bus ≡ Some c)
      (drawn : label_for d a.state.bus ≡ Some label) (i p : ℕ) (x : Module)
      (going : IsGoing m a.state c d (continues i p x)) (far : IsFarAsking m c d)
      (wired : (c.wired ≡ true) × (d.kind < 128)) → KeptAt a
      → KeptAt (changed m a (asks d c label free live drawn (by_loader (continues i p x) going far
      wired)))
  continues-loaded d c label free live drawn i p x going far wired =
      loader-kept m a (asks d c label free live drawn (by_loader (continues i p x) going far wired))
      i p h.before h.loaded.after h.changes went.kept refl
    where
      h : Heard m a i p x (next.Ask going.0)
      h = heard m a rested remembered apart on runs i p x (next.Ask going.0) going.2 tt

      went : Went h.answered.download h.payload going.0 h.before h.loaded.after
      went = h.follows

  -- what is kept is what the download has
  pub finishes-loaded : (i p : ℕ) (x : Module) (tag : List ℕ) (size : ℕ) (idle : IsIdle a)
      (hears : HearsBack m a.state i p x (next.Done tag size)) → KeptAt a
      → KeptAt (changed m a (finishes i p x tag size idle hears))
  finishes-loaded i p x tag size idle hears kept_so j d image e =
      ⊎_elim here there (one-or_apart j d i p)
    where
      change : Change m a
      change = finishes i p x tag size idle hears

      after : State
      after = (changed m a change).state

      told : List Entry
      told = (changed m a change).told

      h : Heard m a i p x (next.Done tag size)
      h = heard m a rested remembered apart on runs i p x (next.Done tag size) hears tt

      done : Finished h.answered.download tag size h.loaded.after
      done = h.follows

      found : find (is_trail_at i p) a.state.past.loading ≡ Some h.run.trail
      found = subst (λ k. find (is_trail_at k p) a.state.past.loading ≡ Some h.run.trail) h.intf
          (subst (λ k. find (is_trail_at h.last.intf k) a.state.past.loading ≡ Some h.run.trail)
          h.cport h.run.found)

      new : Image
      new = record { tag = h.answered.download.tag; bytes = h.answered.download.bytes }

      new-loaded : IsLoaded told after i p new
      new-loaded = record {
        trail = h.run.trail;
        is = loaded-here i p a.state.past.loaded a.state.past.loading ∙ found;
        made = trails-kept a.told (changed m a change).told a.state after h.run.trail h.run.trail
            h.run.trail.requests (told-stays m a change) (λ n r f. f) (refl, refl, refl) h.run.made;
        ranges = λ w. subst (λ v. Follow 0 (ranges_of h.run.trail.requests a.state.bus)
            (reached v h.answered.download)) done.awaits (h.run.clean w).ranges;
        given = λ w. subst (λ v. HasSoFar (FitsAt m) a.state h.last.request h.run.trail.connection v
            h.answered.download) done.awaits (h.run.clean w).has;
      }

      here : (j ≡ i) × (d ≡ p) → IsLoaded told after j d image
      here s =
          let now = sym done.kept ∙ sym (ap kept_of h.changes.is)
          ∙ ap (λ k. kept_of (loader_in i k after.modules)) (sym s.1)
          ∙ ap (λ k. kept_of (loader_in k d after.modules)) (sym s.0)
          ∙ sym (kept-loader j d after) ∙ e in
          subst (λ k. IsLoaded told after k d image) (sym s.0)
          (subst (λ k. IsLoaded told after i k image) (sym s.1)
          (subst (λ y. IsLoaded told after i p y) (same-some new image now) new-loaded))

      there : Apart j d i p → IsLoaded told after j d image
      there o = loaded-moved m a change j d image
          (loaded-aside i p j d a.state.past.loaded a.state.past.loading
          (λ s t. o (sym s) (sym t)))
          (kept_so j d image (kept-same j d a.state after image
          (ap kept_of (h.changes.others j d o)) e))
