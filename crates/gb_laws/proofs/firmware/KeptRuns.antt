-- What a firmware device keeps is the image that was given, in every state of every run.
use Rattle.std.proofs.Common.{List, ap, false, inl, inr, refl, ℕ, ◌++◌, ◌≡◌}
use Rattle.gb_base.specs.declared.end.End.{End}
use Rattle.gb_base.specs.declared.end.End.TheVariants as end
use Rattle.gb_base.specs.declared.entry.Entry.{Entry}
use Rattle.gb_formats.specs.Images.{Image}
use Rattle.gb_machine.specs.Bus.{Connection}
use Rattle.gb_machine.specs.LawsBus.{AreApart}
use Rattle.gb_machine.specs.LawsFirmware.{AreLoaded, IsLoaded, IsOnTrail, KeptIsTheImage, WasAsked}
use Rattle.gb_machine.specs.Members.{Each, EachTwo, IsIn}
use Rattle.gb_machine.specs.Runs.{IsMoment, Moment, after, happenings, told_at}
use Rattle.gb_machine.specs.State.{State, Trail, first_state}
use Rattle.gb_invariants.proofs.Awaiting.{none-some}
use Rattle.gb_invariants.proofs.Lists.{each-weaker, not-both}
use Rattle.gb_laws.proofs.basis.Basics.{basis}
use Rattle.gb_laws.proofs.firmware.MomentToPoint.{FromBefore, UncleanAreKnown, from_before-kept}
use Rattle.gb_laws.proofs.firmware.ImageFacts.{AreShort}
use Rattle.gb_laws.proofs.firmware.KeptImages.{KeptAt, aside-loaded, begins-loaded}
use Rattle.gb_laws.proofs.firmware.KeptImages.{continues-loaded, finishes-loaded, others-loaded}
use Rattle.gb_laws.proofs.firmware.KeptImages.{unloads-loaded}
use Rattle.gb_laws.proofs.firmware.Running.{RunAt, RunIn}
use Rattle.gb_laws.proofs.firmware.RunningBegins.{begins-kept}
use Rattle.gb_laws.proofs.firmware.RunningGoes.{continues-kept, finishes-kept}
use Rattle.gb_laws.proofs.firmware.RunningKept.{aside-kept, others-kept, unloads-kept}
use Rattle.gb_laws.proofs.firmware.RunningMoved.{asked-kept}
use Rattle.gb_laws.proofs.firmware.RunningRests.{runs-end, runs-start}
use Rattle.gb_laws.proofs.identifiers.Endpoints.{ApartTo, apart-first, apart-over}
use Rattle.gb_laws.proofs.points.Happened.{happened-told, told-happened}
use Rattle.gb_laws.proofs.points.PointParts.{Basis, Point, resting}
use Rattle.gb_laws.proofs.points.Points.{Change, Law, asks, begins, by_loader, changed, continues}
use Rattle.gb_laws.proofs.points.Points.{finishes, others, unloads, upon}
use Rattle.gb_laws.proofs.runs.AllRuns.{SeesHappenings, of-all}
use Rattle.gb_laws.proofs.runs.Runs.{HoldsByMoments, throughout, weaker}
use Rattle.gb_laws.proofs.steps.Steps.{over-step}

-- What holds of firmware devices in a state at rest.
pub record DownloadsTo (told : List Entry) (s : State) : Type 0 where
  pub apart : ApartTo told s
  pub remembered : UncleanAreKnown s
  pub short : AreShort s.host.images
  pub runs : RunAt told s
  pub kept : AreLoaded told s

module _ (m : Moment) (one : IsMoment m.event) (start : DownloadsTo m.told m.before) where
  -- ---- each single change

  -- what is known of downloads and of what is kept
  abbrev DownloadsAt : Point → Type 0
  DownloadsAt a = RunIn m a × KeptAt a

  abbrev ends : EachTwo AreApart m.before.bus.connections
  ends = start.apart.apart

  downloads-kept : (a : Point) (x : Change m a) → Basis a → FromBefore m a → DownloadsAt a
      → DownloadsAt (changed m a x)
  downloads-kept a (asks d c label free live drawn (by_loader (begins i p x) going far wired)) b on
      h = (
        begins-kept m a one start.apart.links.1 _ start.apart.links.0.bus b on h.0 d c label free
            live drawn i p x going far wired,
        begins-loaded m a d c label free live drawn i p x going far wired h.1,
      )
  downloads-kept a (asks d c label free live drawn (by_loader (continues i p x) going far wired)) b
      on h = (
        continues-kept m a start.runs start.remembered ends _ start.apart.links.0.bus b on h.0 d c
            label free live drawn i p x going far wired,
        continues-loaded m a start.runs start.remembered ends on h.0 d c label free live drawn i p x
            going far wired h.1,
      )
  downloads-kept a (finishes i p x tag size idle hears) b on h = (
    finishes-kept m a start.runs start.remembered ends _ start.apart.links.0.bus b on h.0 i p x tag
        size idle hears,
    finishes-loaded m a start.runs start.remembered ends on h.0 i p x tag size idle hears h.1,
  )
  downloads-kept a (unloads i of gone) b on h =
      (unloads-kept m a i of gone b on h.0, unloads-loaded m a i of gone h.1)
  downloads-kept a (others booted marks ports modules same) b on h = (
    others-kept m a booted marks ports modules same b on h.0,
    others-loaded m a booted marks ports modules same h.1,
  )
  downloads-kept a x b on h = (aside-kept m a x tt b on h.0, aside-loaded m a x tt h.1)

  -- ---- a moment

  abbrev from_before_law : Law m
  from_before_law = upon (basis m) (FromBefore m) (λ a x g h. from_before-kept m a x one h)

  abbrev downloads_law : Law m
  downloads_law = upon from_before_law DownloadsAt (λ a x g h. downloads-kept a x g.0 g.1 h)

  first-point : FromBefore m (resting m.told m.before)
  first-point = record {
    taken = λ h e ap_side. absurd (none-some e);
    requests = λ n r e. e;
    unclean = λ n i. i;
    wired = λ n d live on. (d, live, record { number = refl; ap = refl; peer = refl }, on);
    svc = λ e. absurd cc;
    remembered = start.remembered;
    short = start.short;
  }

  pub downloads-over : DownloadsTo (m.told ++ told_at m) (after m)
  downloads-over =
      let r = over-step m downloads_law one (
        (start.apart.links.0, first-point),
        (
          runs-start m _ start.apart.links.0.bus start.remembered start.short start.runs,
          start.kept,
        ),
      ) in record {
        apart = apart-over m one start.apart;
        remembered = r.1.0.1.remembered;
        short = r.1.0.1.short;
        runs = runs-end _ m.before.bus.connections (after m) (m.told ++ told_at m) r.1.1.0;
        kept = r.1.1.1;
      }

-- ---- throughout

downloads-throughout : HoldsByMoments DownloadsTo
downloads-throughout = throughout DownloadsTo (record {
  apart = apart-first;
  remembered = λ c live dirty. clean c live dirty;
  short = λ i j. absurd j;
  runs = λ l i r at d ran. absurd i;
  kept = λ i c image e. absurd cc;
}) (λ m one h. downloads-over m one h)
  where
    clean : (c : Connection) → IsIn c first_state.bus.connections → c.clean ≡ false
        → IsIn c.number first_state.past.unclean
    clean c (inl e) dirty =
        absurd (not-both c.clean (ap (λ (x : Connection). x.clean) e) dirty)
    clean c (inr i) dirty = absurd i

-- It is no matter what else was told than what happened.
kept-seen : SeesHappenings AreLoaded
kept-seen = record {
  there = λ told s h i c image e. loaded-seen told (happenings told) s i c image
      (λ n from. asked-there told n from) (h i c image e);
  back = λ told s h i c image e. loaded-seen (happenings told) told s i c image
      (λ n from. asked-kept (happenings told) told n from (λ x j. happened-told x told j))
      (h i c image e);
}
  where
    asked-there : (told : List Entry) (n : ℕ) (from : End) → WasAsked told n from
        → WasAsked (happenings told) n from
    asked-there told n from h = record {
      to = h.to;
      kind = h.kind;
      size = h.size;
      bytes = h.bytes;
      lost = h.lost;
      said = told-happened _ told refl h.said;
    }

    trails-seen : (told more : List Entry) (s : State) (t : Trail) (ns : List ℕ)
        → ((n : ℕ) (from : End) → WasAsked told n from → WasAsked more n from)
        → Each (IsOnTrail told s t) ns → Each (IsOnTrail more s t) ns
    trails-seen told more s t ns f h = each-weaker (IsOnTrail told s t) (IsOnTrail more s t) ns
        (λ n x. record {
          request = x.request;
          is = x.is;
          connection = x.connection;
          side = x.side;
          asked = f n (end.Module t.intf t.cport) x.asked;
        }) h

    loaded-seen : (told more : List Entry) (s : State) (i c : ℕ) (image : Image)
        → ((n : ℕ) (from : End) → WasAsked told n from → WasAsked more n from)
        → IsLoaded told s i c image → IsLoaded more s i c image
    loaded-seen told more s i c image f h = record {
      trail = h.trail;
      is = h.is;
      made = trails-seen told more s h.trail h.trail.requests f h.made;
      ranges = h.ranges;
      given = h.given;
    }

-- What a firmware device keeps is the image that was given.
pub kept-is_the_image : KeptIsTheImage
kept-is_the_image = of-all AreLoaded kept-seen
    (weaker DownloadsTo AreLoaded (λ told s h. h.kept) downloads-throughout)
