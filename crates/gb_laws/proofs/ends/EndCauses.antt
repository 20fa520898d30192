-- What causes an end by cancelling, timeout or disconnection at a moment.
use Rattle.std.proofs.Common.{Bool, List, Some, arith, false, inl, inr, map, refl, subst, sym, true}
use Rattle.std.proofs.Common.{ℕ, [], ◌∙◌, ◌∷◌, ◌≡◌, ◌≢◌, ◌⊎◌}
use Rattle.std.specs.Prelude.{◌==◌}
use Rattle.gb_base.specs.declared.end.Side.{Side}
use Rattle.gb_base.specs.declared.end.Side.TheVariants as side
use Rattle.gb_base.specs.declared.entry.Entry.{Entry}
use Rattle.gb_base.specs.declared.entry.Entry.TheVariants as entry
use Rattle.gb_base.specs.declared.outcome.Outcome.TheVariants as outcome
use Rattle.gb_base.specs.declared.interface.Link.{Link}
use Rattle.gb_machine.specs.Bus.{Bus, Connection, Request, next_number, request_of}
use Rattle.gb_machine.specs.{Host.link_of, LawsEnds.IsDisconnect, LawsEnds.IsRemovalOf}
use Rattle.gb_machine.specs.{Members.Each, Members.IsIn, Requests.is_of, Requests.open_on}
use Rattle.gb_machine.specs.{Runs.Moment, Runs.after, Sending.Draft, SvcQueues.HandlesRemoval}
use Rattle.gb_machine.specs.{Wires.disconnected_told}
use Rattle.gb_invariants.proofs.{Awaiting.is_of-is, Lists.found-in, Lists.in-filter}
use Rattle.gb_invariants.proofs.{Outcomes.in-open_requests, Outcomes.same-number}
use Rattle.gb_laws.proofs.points.PointParts.{AreQuiet, IsGivenUpFor, IsShutFor, Point, Unwired}
use Rattle.gb_laws.proofs.points.PointParts.{asked_told}
use Rattle.gb_laws.proofs.points.PointParts.{disconnected, idle, is_quiet, removed, sent_told}
use Rattle.gb_laws.proofs.{links.LinkLists.found-link, links.LinkRuns.LinkedTo}
use Rattle.gb_laws.proofs.{links.Departing.departing-handled}
use Rattle.gb_laws.proofs.{points.PointToPoint.StaysTo}

-- ---- what causes an end

-- a connection was wired before a moment, and is there and isn't wired
pub record IsCut (m : Moment) (a : Point) (k : ℕ) : Type 0 where
  pub wires : a.wires ≡ Unwired
  pub was : Connection
  pub before : IsIn was m.before.bus.connections
  pub was_number : was.number ≡ k
  pub was_wired : was.wired ≡ true
  pub now : Connection
  pub live : IsIn now a.state.bus.connections
  pub number : now.number ≡ k
  pub wired : now.wired ≡ false

-- what cuts the requests of a side of a connection
abbrev pub IsCutOn : Moment → Point → Side → ℕ → Type 0
IsCutOn m a side.Ap k = IsDisconnect m k ⊎ IsRemovalOf m k
IsCutOn m a side.Far k = IsCut m a k

pub record IsDisconnected (m : Moment) (a : Point) (n : ℕ) : Type 0 where
  pub request : Request
  pub made : request_of n a.state.bus ≡ Some request
  pub other : request.connection ≢ 1
  pub cut : IsCutOn m a request.side request.connection

-- an entry tells an end that has its cause, or none that needs one
abbrev pub IsFine : Moment → Point → Entry → Type 0
IsFine m a (entry.Ended n outcome.Cancelled read) = IsGivenUpFor m a.state outcome.Cancelled n
IsFine m a (entry.Ended n outcome.Timeout read) = IsGivenUpFor m a.state outcome.Timeout n
IsFine m a (entry.Ended n outcome.Disconnected read) = IsDisconnected m a n
IsFine m a _ = Unit {0}

-- it stays fine
pub fine-on : (m : Moment) (a after : Point) (e : Entry) → StaysTo a after → IsFine m a e
    → IsFine m after e
fine-on m a after (entry.Ended n outcome.Cancelled read) on h = h
fine-on m a after (entry.Ended n outcome.Timeout read) on h = record {
  millis = h.millis;
  request = h.request;
  event = h.event;
  made = on.requests n h.request h.made;
  due = let due = h.due in let later = on.now in omega (arith, due, later);
}
fine-on m a after (entry.Ended n outcome.Disconnected read) on h = record {
  request = h.request;
  made = on.requests n h.request h.made;
  other = h.other;
  cut = cut-on h.request.side h.cut;
}
  where
    cut-on : (s : Side) → IsCutOn m a s h.request.connection
        → IsCutOn m after s h.request.connection
    cut-on side.Ap c = c
    cut-on side.Far c =
        let f = on.forth c.wires in
        let d = f.1 c.now c.live c.wired in record {
          wires = f.0;
          was = c.was;
          before = c.before;
          was_number = c.was_number;
          was_wired = c.was_wired;
          now = d.0;
          live = d.1;
          number = d.2 ∙ c.number;
          wired = d.3;
        }
fine-on m a after (entry.Ended n outcome.Sent read) on h = tt
fine-on m a after (entry.Ended n (outcome.Answered result payload) read) on h = tt
fine-on m a after entry.Done on h = tt
fine-on m a after _ on h = tt

pub quiet-fine : (m : Moment) (a : Point) (e : Entry) → is_quiet e ≡ true → IsFine m a e
quiet-fine m a (entry.Ended n how read) quiet = absurd cc
quiet-fine m a entry.Done quiet = tt
quiet-fine m a _ quiet = tt

pub quiet-all-fine : (m : Moment) (a : Point) (es : List Entry) → AreQuiet es → Each (IsFine m a) es
quiet-all-fine m a [] h = tt
quiet-all-fine m a (e ∷ es) h = (quiet-fine m a e h.0, quiet-all-fine m a es h.1)

pub sent-fine : (m : Moment) (a : Point) (d : Draft) (c : Connection) (label : ℕ) (b : Bus)
    → Each (IsFine m a) (asked_told d c label b)
sent-fine m a d c label b = (tt, by d.oneway)
  where
    by : (t : Bool) → Each (IsFine m a) (sent_told t (next_number b))
    by true = (tt, tt)
    by false = tt

-- ---- a side is closed or unwired

-- the requests that end so are of that side of the connection
pub ended-fine : (m : Moment) (a : Point) (at : Side) (k : ℕ) (b : Bus)
    → ((n : ℕ) (r : Request) → request_of n b ≡ Some r → request_of n a.state.bus ≡ Some r)
    → k ≢ 1 → IsCutOn m a at k → Each (IsFine m a) (map disconnected_told (open_on k at b))
ended-fine m a at k b stay other cut = all (open_on k at b) (λ n i. i)
  where
    one : (n : ℕ) → IsIn n (open_on k at b) → IsDisconnected m a n
    one n i =
        let o = in-open_requests (is_of k at) b n i in
        let of = is_of-is k at o.0 o.2 in record {
          request = o.0;
          made = stay n o.0 o.1;
          other = λ e. other (sym of.0 ∙ e);
          cut = subst (λ s. IsCutOn m a s o.0.connection) of.1
              (subst (IsCutOn m a at) (sym of.0) cut);
        }

    all : (ns : List ℕ) → ((n : ℕ) → IsIn n ns → IsIn n (open_on k at b))
        → Each (IsFine m a) (map disconnected_told ns)
    all [] within = tt
    all (n ∷ ns) within = (one n (within n (inl refl)), all ns (λ j i. within j (inr i)))

-- what is known where a moment begins
abbrev pub Start : Moment → Type 0
Start m = LinkedTo m.told m.before

-- the application processor's side of a connection to a module is closed by a disconnect or a
-- removal, or nothing is open on it
pub shut-cause : (m : Moment) (k : ℕ) (b : Bus) → Start m → IsShutFor m k b
    → ((k ≢ 1) × (IsDisconnect m k ⊎ IsRemovalOf m k)) ⊎ (open_on k side.Ap b ≡ [])
shut-cause m k b start (idle none) = inr none
shut-cause m k b start (disconnected i c l is at own) = inl (
  λ e. let two = (start.1.host.links.numbered l (found-in _ m.before.host.links l at).0).from_two in
      absurd (omega (arith, two, own, e)),
  inl (i, c, l, is, at, own),
)
shut-cause m k b start (removed p i l noticed known live own) =
    let f = in-filter (λ (x : Link). x.intf == i) m.before.host.links l live in inl (
      λ e. let two = (start.1.host.links.numbered l f.0).from_two in absurd
          (omega (arith, two, own, e)),
      inr (
        l,
        subst (λ n. link_of n m.before.host ≡ Some l) own
            (found-link m.before.host.links l start.1.host.links.rise f.0),
        subst (λ j. HandlesRemoval j m) (sym (same-number l.intf i f.1))
            (departing-handled i p m start.0 start.1 start.2 noticed known),
      ),
    )
