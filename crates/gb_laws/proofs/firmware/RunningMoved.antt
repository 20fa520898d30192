-- What is known of a running download stays where something else changes.
use Rattle.std.proofs.Common.{List, Option, Some, ap, ap₂, arith, inl, inr, refl, subst, sym, ℕ}
use Rattle.std.proofs.Common.{⊎_elim, [], ◌++◌, ◌∙◌, ◌∷◌, ◌≡◌, ◌≤◌, ◌⊎◌}
use Rattle.gb_base.specs.declared.end.End.{End}
use Rattle.gb_base.specs.declared.end.End.TheVariants as end
use Rattle.gb_base.specs.declared.end.Side.{Side}
use Rattle.gb_base.specs.declared.end.Side.TheVariants as side
use Rattle.gb_base.specs.declared.entry.Entry.{Entry}
use Rattle.gb_base.specs.declared.entry.Entry.TheVariants as entry
use Rattle.gb_formats.specs.Images.{image_of}
use Rattle.gb_formats.specs.Loader.{Awaits, Download}
use Rattle.gb_formats.specs.Results.{success}
use Rattle.gb_machine.specs.Bus.{Ask, Bus, Connection, Reply, queue}
use Rattle.gb_machine.specs.LawsFirmware.{Follow, IsOnTrail, WasAsked, range_of, ranges_of}
use Rattle.gb_machine.specs.Members.{Each, IsIn}
use Rattle.gb_machine.specs.State.{State, Trail}
use Rattle.gb_invariants.proofs.BusChanges.{BusChange, KeepsRequests, Was, bus_after, came}
use Rattle.gb_invariants.proofs.BusChanges.{number_of, requests-after, stayed, was, went}
use Rattle.gb_invariants.proofs.Wires.{made-number}
use Rattle.gb_laws.proofs.firmware.FirmwareQueues.{BringsTo, NoneBehind, OnlyAsk, Queued}
use Rattle.gb_laws.proofs.firmware.FirmwareQueues.{behind-queued, in-queued, queue-after}
use Rattle.gb_laws.proofs.firmware.ImageFacts.{LentAs}
use Rattle.gb_laws.proofs.firmware.Running.{AtNumber, Fetches, Fits, HasReply, HasSoFar, IsGood}
use Rattle.gb_laws.proofs.firmware.Running.{QuietAt, Replied, reached}
use Rattle.gb_laws.proofs.points.PointParts.{Hand}

-- ---- requests

-- a trail of the same CPort over the same connection
abbrev pub SameTrail : Trail → Trail → Type 0
SameTrail t u = (u.connection ≡ t.connection) × (u.intf ≡ t.intf) × (u.cport ≡ t.cport)

-- what was told is told still
abbrev pub Grows : List Entry → List Entry → Type 0
Grows told more = (e : Entry) → IsIn e told → IsIn e more

pub asked-kept : (told more : List Entry) (n : ℕ) (from : End) → Grows told more
    → WasAsked told n from → WasAsked more n from
asked-kept told more n from grows h = record {
  to = h.to;
  kind = h.kind;
  size = h.size;
  bytes = h.bytes;
  lost = h.lost;
  said = grows (entry.Asked n from h.to h.kind h.size h.bytes h.lost) h.said;
}

trail-kept : (told more : List Entry) (s after : State) (t u : Trail) (n : ℕ) → Grows told more
    → KeepsRequests s.bus after.bus → SameTrail t u → IsOnTrail told s t n
    → IsOnTrail more after u n
trail-kept told more s after t u n grows keeps same h = record {
  request = h.request;
  is = keeps n h.request h.is;
  connection = h.connection ∙ sym same.0;
  side = h.side;
  asked = asked-kept told more n (end.Module u.intf u.cport) grows
      (subst (λ i. WasAsked told n (end.Module i u.cport)) (sym same.1)
      (subst (λ c. WasAsked told n (end.Module t.intf c)) (sym same.2) h.asked));
}

pub trails-kept : (told more : List Entry) (s after : State) (t u : Trail) (ns : List ℕ)
    → Grows told more → KeepsRequests s.bus after.bus → SameTrail t u
    → Each (IsOnTrail told s t) ns → Each (IsOnTrail more after u) ns
trails-kept told more s after t u [] grows keeps same h = tt
trails-kept told more s after t u (n ∷ ns) grows keeps same h = (
  trail-kept told more s after t u n grows keeps same h.0,
  trails-kept told more s after t u ns grows keeps same h.1,
)

pub ranges-kept : (told : List Entry) (s after : State) (t : Trail) (ns : List ℕ)
    → KeepsRequests s.bus after.bus → Each (IsOnTrail told s t) ns
    → ranges_of ns after.bus ≡ ranges_of ns s.bus
ranges-kept told s after t [] keeps h = refl
ranges-kept told s after t (n ∷ ns) keeps h =
    ap₂ (λ (a b : List (ℕ × ℕ)). a ++ b)
    (ap range_of (keeps n h.0.request h.0.is ∙ sym h.0.is))
    (ranges-kept told s after t ns keeps h.1)

-- ---- connections

-- A connection of a number that was there already, before a change: its ends are the same, and its
-- queues are, or the change is of that number.
pub record Older (x : BusChange) (b : Bus) (k : ℕ) (c : Connection) : Type 0 where
  pub was : Connection
  pub live : IsIn was b.connections
  pub number : was.number ≡ k
  pub peer : c.peer ≡ was.peer
  pub queues : (at : Side) → (queue at c ≡ queue at was)
      ⊎ ((number_of x ≡ k) × Queued x b at (queue at was) (queue at c))

pub older : (x : BusChange) (b : Bus) (k : ℕ) (c : Connection) → k ≤ b.made
    → IsIn c (bus_after x b).connections → c.number ≡ k → Older x b k c
older x b k c low i number = by (was x b c i)
  where
    by : Was x b c → Older x b k c
    by (stayed o) = record {
      was = c;
      live = o;
      number = number;
      peer = refl;
      queues = λ at. inl refl;
    }
    by (went d o at is g) =
        let own : d.number ≡ k = sym g.ends.number ∙ number in record {
          was = d;
          live = o;
          number = own;
          peer = g.ends.peer;
          queues = λ s. inr (
            sym at ∙ own,
            subst (λ (y : Connection). Queued x b s (queue s d) (queue s y)) (sym is)
                (queue-after x b d s),
          );
        }
    by (came e) =
        let new = made-number x b c e in
        absurd (omega (arith, low, new, number))

-- ---- a download

module _ (s after : State) (x : BusChange) (is : after.bus ≡ bus_after x s.bus) (k w : ℕ)
    (low : k ≤ s.bus.made) where
  before : (c : Connection) → IsIn c after.bus.connections → c.number ≡ k → Older x s.bus k c
  before c i number =
      older x s.bus k c low (subst (λ (b : Bus). IsIn c b.connections) is i) number

  pub keeps : KeepsRequests s.bus after.bus
  keeps = subst (KeepsRequests s.bus) (sym is) (requests-after x s.bus)

  -- no request comes there
  abbrev pub NoneCome : Type 0
  NoneCome = (n : ℕ) → number_of x ≡ k → BringsTo x s.bus side.Ap (Ask n) → ⊥

  pub far-moved : (e : End) → AtNumber k s.bus.connections (λ c. c.peer ≡ e)
      → AtNumber k after.bus.connections (λ c. c.peer ≡ e)
  far-moved e h c i number =
      let o = before c i number in o.peer ∙ h o.was o.live o.number

  pub behind-moved : NoneCome → AtNumber k s.bus.connections (λ c. NoneBehind w c.to_ap)
      → AtNumber k after.bus.connections (λ c. NoneBehind w c.to_ap)
  behind-moved none h c i number =
      let o = before c i number in
      let old = h o.was o.live o.number in
      ⊎_elim (λ e. subst (NoneBehind w) (sym e) old)
      (λ q. behind-queued w q.1 (λ n brings. none n q.0 brings) old) (o.queues side.Ap)

  pub only-moved : NoneCome → AtNumber k s.bus.connections (λ c. OnlyAsk w c.to_ap)
      → AtNumber k after.bus.connections (λ c. OnlyAsk w c.to_ap)
  only-moved none h c i number n j =
      let o = before c i number in
      let old = h o.was o.live o.number n in
      ⊎_elim (λ e. old (subst (λ xs. IsIn (Ask n) xs) e j))
      (λ q. ⊎_elim (λ was. old was) (λ brings. absurd (none n q.0 brings))
      (in-queued (Ask n) q.1 j)) (o.queues side.Ap)

  pub quiet-moved : NoneCome → QuietAt k s.bus → QuietAt k after.bus
  quiet-moved none h c i number n j =
      let o = before c i number in
      let old = h o.was o.live o.number n in
      ⊎_elim (λ e. old (subst (λ xs. IsIn (Ask n) xs) e j))
      (λ q. ⊎_elim (λ was. old was) (λ brings. none n q.0 brings)
      (in-queued (Ask n) q.1 j)) (o.queues side.Ap)

  -- an answer waited, or comes
  pub reply-moved : (p : List ℕ) → HasReply k w p after.bus.connections
      → HasReply k w p s.bus.connections
      ⊎ ((number_of x ≡ k) × BringsTo x s.bus side.Far (Reply w success p))
  reply-moved p h =
      let o = before h.0 h.1 h.2 in
      ⊎_elim
      (λ e. inl (o.was, o.live, o.number, subst (λ xs. IsIn (Reply w success p) xs) e h.3))
      (λ q. ⊎_elim (λ was. inl (o.was, o.live, o.number, was)) (λ brings. inr (q.0, brings))
      (in-queued (Reply w success p) q.1 h.3)) (o.queues side.Far)

  -- ---- what it has of the image

  module _ (fits : Fits) (d : Download) (none : NoneCome)
      (given : (img : List ℕ) → image_of d.tag s.host.images ≡ Some img
      → image_of d.tag after.host.images ≡ Some img)
      (lent : (id : ℕ) → fits k id d.tag → LentAs k id d.tag s.host.images
      → LentAs k id d.tag after.host.images) where
    pub has-moved : (a : Awaits) → HasSoFar fits s w k a d → HasSoFar fits after w k a d
    has-moved Awaits.Find h = tt
    has-moved (Awaits.Fetch id size) h = record {
      image = h.image;
      given = given h.image h.given;
      whole = h.whole;
      bytes = h.bytes;
      less = h.less;
      lent = lent id h.suits h.lent;
      suits = h.suits;
      only = only-moved none h.only;
    }
    has-moved Awaits.Release h = given d.bytes h

    -- a good answer is good still, where the image is known
    pub good-moved : (a : Awaits) (p : List ℕ) → HasSoFar fits s w k a d → IsGood fits s k a d p
        → IsGood fits after k a d p
    good-moved Awaits.Find p has g = record {
      id = g.id;
      image = g.image;
      given = given g.image g.given;
      is = g.is;
      lent = lent g.id g.suits g.lent;
      suits = g.suits;
    }
    good-moved (Awaits.Fetch id size) p has g = λ image e.
        g image (has.given ∙ sym (given has.image has.given) ∙ e)
    good-moved Awaits.Release p has g = tt

    -- What is known of a download stays.
    pub fetches-moved : (old : List Connection) (hand next : Option Hand) (told : List Entry)
        (t : Trail) → t.connection ≡ k → Each (IsOnTrail told s t) t.requests
        → ((p : List ℕ) → number_of x ≡ k → BringsTo x s.bus side.Far (Reply w success p)
        → QuietAt k s.bus × IsGood fits s k d.awaits d p)
        → ((h : Hand) → next ≡ Some h → h.side ≡ side.Ap → h.item ≡ Ask w → QuietAt k after.bus)
        → Fetches fits old hand s w t d → Fetches fits old next after w t d
    fetches-moved old hand next told t on made comes takes f = record {
      ranges = subst (λ rs. Follow 0 rs (reached d.awaits d))
          (sym (ranges-kept told s after t t.requests keeps made)) f.ranges;
      behind = subst (λ n. AtNumber n after.bus.connections (λ c. NoneBehind w c.to_ap)) (sym on)
          (behind-moved none (subst (λ n. AtNumber n s.bus.connections
          (λ c. NoneBehind w c.to_ap)) on f.behind));
      has = subst (λ n. HasSoFar fits after w n d.awaits d) (sym on) (has-moved d.awaits has);
      reply = λ p r. subst (λ n. QuietAt n after.bus × IsGood fits after n d.awaits d p) (sym on)
          (answer p (subst (λ n. Replied old after.bus n w p) on r));
      taken = λ h e ap_side item.
          subst (λ n. QuietAt n after.bus) (sym on) (takes h e ap_side item);
    }
      where
        has : HasSoFar fits s w k d.awaits d
        has = subst (λ n. HasSoFar fits s w n d.awaits d) on f.has

        kept : (p : List ℕ) → QuietAt k s.bus × IsGood fits s k d.awaits d p
            → QuietAt k after.bus × IsGood fits after k d.awaits d p
        kept p g = (quiet-moved none g.0, good-moved d.awaits p has g.1)

        known : (p : List ℕ) → Replied old s.bus k w p
            → QuietAt k s.bus × IsGood fits s k d.awaits d p
        known p r = subst (λ n. QuietAt n s.bus × IsGood fits s n d.awaits d p) on
            (f.reply p (subst (λ n. Replied old s.bus n w p) (sym on) r))

        answer : (p : List ℕ) → Replied old after.bus k w p
            → QuietAt k after.bus × IsGood fits after k d.awaits d p
        answer p (inr o) = kept p (known p (inr o))
        answer p (inl now) = ⊎_elim (λ o. kept p (known p (inl o)))
            (λ brings. kept p (comes p brings.0 brings.1)) (reply-moved p now)
