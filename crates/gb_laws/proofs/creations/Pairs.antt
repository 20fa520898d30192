-- What is known of the requests that are remembered for connections.
use Rattle.std.proofs.Common.{List, None, Option, Some, ap, arith, false, inl, refl, subst, sym}
use Rattle.std.proofs.Common.{true, ℕ, ⊎_elim, ◌+◌, ◌<◌, ◌∙◌, ◌≡◌, ◌≤◌, ◌⊎◌}
use Rattle.gb_base.specs.declared.end.Side.TheVariants as side
use Rattle.gb_base.specs.declared.interface.Link.{Link}
use Rattle.gb_base.specs.declared.steps.SequenceStep.{SequenceStep}
use Rattle.gb_base.specs.declared.steps.SequenceStep.TheVariants as steps
use Rattle.gb_formats.specs.SvcRecords.{read_svc_ask}
use Rattle.gb_machine.specs.Bus.{Bus, Request, request_of}
use Rattle.gb_machine.specs.Host.{Host, is_link, with_link}
use Rattle.gb_machine.specs.HostServing.{host_serves, with_credits}
use Rattle.gb_machine.specs.SequenceSteps.{Target, asks_control, is_for_connection, kind_of}
use Rattle.gb_machine.specs.SequenceSteps.{payload_of}
use Rattle.gb_machine.specs.{Members.IsIn, SvcQueues.is_for_link, SvcQueues.speaks_of_connection}
use Rattle.gb_machine.specs.{Turns.Asking}
use Rattle.gb_invariants.proofs.{Awaiting.none-some, Awaiting.same-some, BusChanges.KeepsRequests}
use Rattle.gb_invariants.proofs.{Found.in-first, Outcomes.same-number}
use Rattle.gb_laws.proofs.links.LinkActs.{ServedHost, as_before, host-served, with_images}
use Rattle.gb_laws.proofs.links.LinkActs.{with_more}
use Rattle.gb_laws.proofs.links.LinkSources.{LinksFrom}

-- request n was made by the application processor to the supervisory controller, for a reply
pub record IsSvcRequest (n : ℕ) (b : Bus) : Type 0 where
  pub request : Request
  pub made : request_of n b ≡ Some request
  pub on : request.connection ≡ 1
  pub by_ap : request.side ≡ side.Ap
  pub twoway : request.oneway ≡ false

-- request n was made as it was to be asked, behind all that are remembered
pub record IsAskedAs (q : Asking) (n : ℕ) (b : Bus) (pairs : List (ℕ × ℕ)) : Type 0 where
  pub request : Request
  pub made : request_of n b ≡ Some request
  pub on : request.connection ≡ q.on
  pub by_ap : request.side ≡ side.Ap
  pub twoway : request.oneway ≡ false
  pub kind : request.kind ≡ q.kind
  pub payload : request.payload ≡ q.payload
  pub behind : (j k : ℕ) → IsIn (j, k) pairs → j < n

-- A connection that waits was asked nothing for itself behind what it waits for, and that is
-- remembered for it.
pub record IsBound (l : Link) (w : ℕ × SequenceStep) (pairs : List (ℕ × ℕ)) : Type 0 where
  pub last : (n : ℕ) → IsIn (n, l.connection) pairs → n ≤ w.0
  pub own : is_for_connection w.1 ≡ true → IsIn (w.0, l.connection) pairs

-- What is remembered was asked of the supervisory controller, for a connection of the interface
-- that the request speaks of.
pub record PairsFit (b : Bus) (h : Host) (pairs : List (ℕ × ℕ)) (asked : Option (Asking × ℕ))
    : Type 0 where
  pub made : (n k : ℕ) → IsIn (n, k) pairs → IsSvcRequest n b
  pub given : (n k : ℕ) → IsIn (n, k) pairs → k ≤ b.made
  pub of : (n i : ℕ) (l : Link) (r : Request) → IsIn l h.links → IsIn (n, l.connection) pairs
      → request_of n b ≡ Some r → is_for_link i r ≡ true → l.intf ≡ i
  pub bound : (l : Link) → IsIn l h.links → (w : ℕ × SequenceStep) → l.awaits ≡ Some w
      → IsBound l w pairs
  pub asks : (q : Asking) (n : ℕ) → asked ≡ Some (q, n) → IsAskedAs q n b pairs

-- ---- hosts

-- a connection comes from one that waited for the same, or it waits for nothing
abbrev pub ComeFrom : Host → Host → Type 0
ComeFrom h g = (l : Link) → IsIn l g.links → (x : Link) × IsIn x h.links
    × (x.connection ≡ l.connection) × (x.intf ≡ l.intf)
    × ((l.awaits ≡ x.awaits) ⊎ (l.awaits ≡ None))

pub come-from : (h g : Host) → LinksFrom None h g → ComeFrom h g
come-from h g from l i =
    let x = from l i in
    (x.from.link, x.from.live, sym x.from.same.connection, sym x.from.same.intf, x.awaits)

pub come-link : (h : Host) (i c : ℕ) (f : Link → Link)
    → ((l : Link) → (f l).connection ≡ l.connection)
    → ((l : Link) → (f l).intf ≡ l.intf) → ((l : Link) → (f l).awaits ≡ l.awaits)
    → ComeFrom h (with_link i c f h)
come-link h i c f connection intf waits l j = ⊎_elim (λ o. (l, o, refl, refl, inl refl)) (λ v. (
  v.0,
  v.1,
  sym (ap (λ (x : Link). x.connection) v.3 ∙ connection v.0),
  sym (ap (λ (x : Link). x.intf) v.3 ∙ intf v.0),
  inl (ap (λ (x : Link). x.awaits) v.3 ∙ waits v.0),
)) (in-first (is_link i c) f h.links l j)

-- ---- where no more is remembered

pub pairs-on : (b after : Bus) (h g : Host) (pairs : List (ℕ × ℕ)) (asked now : Option (Asking × ℕ))
    → KeepsRequests b after → b.made ≤ after.made → ComeFrom h g
    → ((q : Asking) (n : ℕ) → now ≡ Some (q, n) → IsAskedAs q n after pairs)
    → PairsFit b h pairs asked → PairsFit after g pairs now
pairs-on b after h g pairs asked now keeps more come asking f = record {
  made = λ n k i. let r = f.made n k i in record {
    request = r.request;
    made = keeps n r.request r.made;
    on = r.on;
    by_ap = r.by_ap;
    twoway = r.twoway;
  };
  given = λ n k i. let low = f.given n k i in omega (arith, low, more);
  of = λ n i l r live j made is.
      let x = come l live in
      let pair = subst (λ k. IsIn (n, k) pairs) (sym x.2) j in
      let was = f.made n x.0.connection pair in
      let same = same-some was.request r (sym (keeps n was.request was.made) ∙ made) in
      sym x.3 ∙ f.of n i x.0 r x.1 pair (was.made ∙ ap Some same) is;
  bound = λ l live w e.
      let x = come l live in
      ⊎_elim (λ same.
      let old = f.bound x.0 x.1 w (sym same ∙ e) in record {
        last = λ n j. old.last n (subst (λ k. IsIn (n, k) pairs) (sym x.2) j);
        own = λ s. subst (λ k. IsIn (w.0, k) pairs) x.2 (old.own s);
      }) (λ none. absurd (none-some (sym none ∙ e))) x.4;
  asks = asking;
}

pub asked-more : (q : Asking) (n : ℕ) (b after : Bus) (pairs : List (ℕ × ℕ)) → KeepsRequests b after
    → IsAskedAs q n b pairs → IsAskedAs q n after pairs
asked-more q n b after pairs keeps x = record {
  request = x.request;
  made = keeps n x.request x.made;
  on = x.on;
  by_ap = x.by_ap;
  twoway = x.twoway;
  kind = x.kind;
  payload = x.payload;
  behind = x.behind;
}

pub come-same : (h : Host) → ComeFrom h h
come-same h l i = (l, i, refl, refl, inl refl)

-- a request that the application processor serves changes at most the credits of a link
pub come-served : (k kind : ℕ) (payload : List ℕ) (h : Host)
    → ComeFrom h (host_serves k kind payload h).host
come-served k kind payload h = by (host-served k kind payload)
  where
    by : ServedHost h (host_serves k kind payload h)
        → ComeFrom h (host_serves k kind payload h).host
    by (as_before e) = subst (ComeFrom h) (sym e) (come-same h)
    by (with_more i c total e) = subst (ComeFrom h) (sym e)
        (come-link h i c (with_credits total) (λ l. refl) (λ l. refl) (λ l. refl))
    by (with_images x e) = subst (ComeFrom h) (sym e) (come-same h)

-- ---- a sequence waits

-- the request of a step that creates or destroys a connection speaks of its interface
pub speaks-of : (i : ℕ) (step : SequenceStep) (t : Target) → is_for_connection step ≡ true
    → speaks_of_connection i (read_svc_ask (kind_of step) (payload_of step t)) ≡ true → t.intf ≡ i
speaks-of i steps.CreateControl t s h = omega (arith, same-number (t.intf + 0) i h)
speaks-of i steps.CreateConnection t s h = omega (arith, same-number (t.intf + 0) i h)
speaks-of i steps.DestroyConnection t s h = omega (arith, same-number (t.intf + 0) i h)
speaks-of i _ t s h = absurd cc

-- and goes to the supervisory controller
pub asks-svc : (step : SequenceStep) → is_for_connection step ≡ true → asks_control step ≡ false
asks-svc steps.CreateControl s = refl
asks-svc steps.CreateConnection s = refl
asks-svc steps.DestroyConnection s = refl
asks-svc _ s = absurd cc
