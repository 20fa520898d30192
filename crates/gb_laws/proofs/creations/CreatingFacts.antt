-- What is known of the requests that create connections, beside what is remembered of them.
use Rattle.std.proofs.Common.{List, Option, Some, ap, arith, false, inl, inr, length, subst, sym}
use Rattle.std.proofs.Common.{true, ℕ, ⊎_elim, [], ◌∙◌, ◌∷◌, ◌≡◌, ◌≤◌, ◌⊎◌}
use Rattle.std.specs.Prelude.{Result}
use Rattle.gb_base.specs.declared.interface.Link.{Link}
use Rattle.gb_base.specs.declared.end.Side.TheVariants as side
use Rattle.gb_formats.specs.{Records.PayloadFault, SvcRecords.SvcAsk, SvcRecords.read_svc_ask}
use Rattle.gb_machine.specs.Bus.{Bus, Request, next_number, request_of}
use Rattle.gb_machine.specs.Sending.{Draft, requested, sent}
use Rattle.gb_machine.specs.{Host.Host, Host.link_at, Lists.nth, Members.Each, Members.IsIn}
use Rattle.gb_machine.specs.{Turns.Act, Turns.Asking}
use Rattle.gb_invariants.proofs.{Awaiting.not-both, Awaiting.sent-made, HostChanges.is_creating}
use Rattle.gb_laws.proofs.creations.Creating.{IsBetween, IsMade, creates_one}
use Rattle.gb_laws.proofs.{creations.CreatingTurns.AreOrderly, creations.CreatingTurns.IsAimed}
use Rattle.gb_laws.proofs.{links.Links.SameLink}

-- Each request of the application processor to the supervisory controller that creates a connection
-- is remembered for one, but for the one for which a sequence is still to wait. It creates that
-- connection, and no other request does.
pub record CreatesFit (rs : List Request) (ls : List Link) (pairs : List (ℕ × ℕ))
    (asked : Option (Asking × ℕ)) : Type 0 where
  pub own : (n : ℕ) (r : Request) → nth n rs ≡ Some r → r.connection ≡ 1 → r.side ≡ side.Ap
      → creates_one r ≡ true
      → ((q : Asking) × (asked ≡ Some (q, n))) ⊎ ((k : ℕ) × IsIn (n, k) pairs)
  pub ends : (n : ℕ) (l : Link) (r : Request) → IsIn l ls → IsIn (n, l.connection) pairs
      → nth n rs ≡ Some r → IsBetween l.ap l.intf l.cport (read_svc_ask r.kind r.payload)
  pub first : (n j k : ℕ) (r : Request) → IsIn (n, k) pairs → IsIn (j, k) pairs
      → nth n rs ≡ Some r → creates_one r ≡ true → n ≤ j

-- no two create one connection
pub creates-one : {rs : List Request} {ls : List Link} {pairs : List (ℕ × ℕ)}
    {asked : Option (Asking × ℕ)} → CreatesFit rs ls pairs asked → (n j k : ℕ) (r s : Request)
    → IsIn (n, k) pairs → IsIn (j, k) pairs → nth n rs ≡ Some r → nth j rs ≡ Some s
    → creates_one r ≡ true → creates_one s ≡ true → n ≡ j
creates-one f n j k r s i o made_n made_j is_n is_j =
    let low = f.first n j k r i o made_n is_n in
    let high = f.first j n k s o i made_j is_j in
    omega (arith, low, high)

-- The connection that a request is to create is known, and nothing is remembered of it.
pub record IsPrepared (h : Host) (pairs : List (ℕ × ℕ)) (q : Asking) : Type 0 where
  pub link : Link
  pub found : link_at q.purpose.intf q.purpose.cport h ≡ Some link
  pub none : (n : ℕ) → IsIn (n, link.connection) pairs → ⊥
  pub ends : IsBetween link.ap link.intf link.cport (read_svc_ask q.kind q.payload)

-- an act is ready
abbrev pub IsReady : Host → List (ℕ × ℕ) → Act → Type 0
IsReady h pairs (Act.Ask q) = (is_creating q.purpose.step ≡ true → IsPrepared h pairs q)
    × (is_creating q.purpose.step ≡ false → IsAimed h q)
IsReady h pairs (Act.Make w q) = IsMade w q
IsReady h pairs _ = Unit {0}

-- those that are pending are
abbrev pub AreReady : Host → List (ℕ × ℕ) → List Act → Type 0
AreReady h pairs acts = Each (IsReady h pairs) acts

-- what a turn does is ready
pub orderly-ready : (h : Host) (pairs : List (ℕ × ℕ)) (acts : List Act) → AreOrderly h acts
    → AreReady h pairs acts
orderly-ready h pairs [] all = tt
orderly-ready h pairs (Act.Ask q ∷ acts) all = (
  (λ is. absurd (not-both (is_creating q.purpose.step) is all.0.0), λ e. all.0.1),
  orderly-ready h pairs acts all.1,
)
orderly-ready h pairs (Act.Make w q ∷ acts) all = (all.0, orderly-ready h pairs acts all.1)
orderly-ready h pairs (Act.Shut k ∷ acts) all = (tt, orderly-ready h pairs acts all.1)
orderly-ready h pairs (Act.Leave k ∷ acts) all = (tt, orderly-ready h pairs acts all.1)
orderly-ready h pairs (Act.Tell e ∷ acts) all = (tt, orderly-ready h pairs acts all.1)

-- ---- connections change

-- each connection was known
abbrev pub Came : List Link → List Link → Type 0
Came ls ms = (l : Link) → IsIn l ms → (x : Link) × IsIn x ls × SameLink x l

-- what creates a connection creates it whatever its state
pub at-same : (x l : Link) → SameLink x l → (r : Result SvcAsk PayloadFault)
    → IsBetween x.ap x.intf x.cport r → IsBetween l.ap l.intf l.cport r
at-same x l same r h =
    subst (λ a. IsBetween a l.intf l.cport r) (sym same.ap)
    (subst (λ i. IsBetween x.ap i l.cport r) (sym same.intf)
    (subst (λ c. IsBetween x.ap x.intf c r) (sym same.cport) h))

pub creates-came : {rs : List Request} {ls ms : List Link} {pairs : List (ℕ × ℕ)}
    {asked : Option (Asking × ℕ)} → Came ls ms → CreatesFit rs ls pairs asked
    → CreatesFit rs ms pairs asked
creates-came {pairs} came f = record {
  own = f.own;
  ends = λ n l r i p made. let x = came l i in
      at-same x.0 l x.2 (read_svc_ask r.kind r.payload)
      (f.ends n x.0 r x.1 (subst (λ k. IsIn (n, k) pairs) x.2.connection p) made);
  first = f.first;
}

-- ---- a request is made

pub creates-sent : (d : Draft) (label : ℕ) (b : Bus) (ls : List Link) (pairs : List (ℕ × ℕ))
    (asked now : Option (Asking × ℕ)) → ((n k : ℕ) → IsIn (n, k) pairs → n ≤ length b.requests)
    → ((q : Asking) (n : ℕ) → asked ≡ Some (q, n) → now ≡ Some (q, n))
    → (d.connection ≡ 1 → d.side ≡ side.Ap → creates_one (requested d label) ≡ true
    → (q : Asking) × (now ≡ Some (q, next_number b)))
    → CreatesFit b.requests ls pairs asked → CreatesFit (sent d label b).requests ls pairs now
creates-sent d label b ls pairs asked now below still new f = record {
  own = λ n r made on by_ap is. ⊎_elim (λ old. ⊎_elim (λ a. inl (a.0, still a.0 n a.1)) (λ p. inr p)
      (f.own n r old on by_ap is))
      (λ e. let q = new (ap (λ (x : Request). x.connection) (sym e.1) ∙ on)
      (ap (λ (x : Request). x.side) (sym e.1) ∙ by_ap) (ap creates_one (sym e.1) ∙ is) in
      inl (q.0, q.1 ∙ ap (λ k. Some (q.0, k)) (sym e.0))) (sent-made d label b n r made);
  ends = λ n l r live p made. f.ends n l r live p (before n l.connection r p made);
  first = λ n j k r p o made is. f.first n j k r p o (before n k r p made) is;
}
  where
    before : (n k : ℕ) (r : Request) → IsIn (n, k) pairs → request_of n (sent d label b) ≡ Some r
        → nth n b.requests ≡ Some r
    before n k r p made = ⊎_elim (λ old. old)
        (λ e. let low = below n k p in let high = e.0 in absurd (omega (arith, low, high)))
        (sent-made d label b n r made)
