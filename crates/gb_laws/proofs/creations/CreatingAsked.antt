-- What is known of the requests that create connections stays where a sequence comes to wait
-- for a request.
use Rattle.std.proofs.Common.{Bool, List, None, Option, Some, ap, arith, cond, false, inl, inr}
use Rattle.std.proofs.Common.{refl, subst, sym, true, ℕ, ⊎_elim, [], ◌∙◌, ◌∷◌, ◌≡◌, ◌⊎◌}
use Rattle.std.specs.Prelude.{option_map}
use Rattle.gb_base.specs.declared.interface.Link.{Link}
use Rattle.gb_base.specs.declared.steps.SequenceStep.{SequenceStep}
use Rattle.gb_formats.specs.SvcRecords.{read_svc_ask}
use Rattle.gb_machine.specs.Bus.{Bus, Request, request_of}
use Rattle.gb_machine.specs.Host.{Host, is_link, link_at, with_interface, with_link}
use Rattle.gb_machine.specs.SequenceSteps.{is_enumeration, is_for_connection, kind_of, payload_of}
use Rattle.gb_machine.specs.{Lists.nth, Members.IsIn, Sequences.ap_in, Sequences.target, Turns.Act}
use Rattle.gb_machine.specs.{Turns.Asking, Waits.awaits}
use Rattle.gb_invariants.proofs.Lists.{found-in, in-behind, in-front, in-pushed}
use Rattle.gb_invariants.proofs.{Awaiting.same-some, Found.find-changed, HostChanges.is_creating}
use Rattle.gb_laws.proofs.creations.Creating.{IsBetween, creates_one, creating-for, is_create}
use Rattle.gb_laws.proofs.creations.Creating.{step-between}
use Rattle.gb_laws.proofs.creations.Creating.{step-creating}
use Rattle.gb_laws.proofs.creations.CreatingFacts.{CreatesFit, IsReady, at-same}
use Rattle.gb_laws.proofs.links.LinkLists.{found-its, found-there, one-link}
use Rattle.gb_laws.proofs.links.Links.{HostFits, IsDue, IsFormed, SameLink}
use Rattle.gb_laws.proofs.{links.LinkActs.awaits-fits, links.LinkHosts.awaits-link}
use Rattle.gb_laws.proofs.{links.LinkHosts.same-link}
use Rattle.gb_laws.proofs.{links.LinkSources.from-waiting, creations.Pairs.IsAskedAs}
use Rattle.gb_laws.proofs.{creations.PairsAsked.pairs_then}

-- ---- what is remembered then

in-then : (t : Bool) (o : Option Link) (n : ℕ) (pairs : List (ℕ × ℕ)) (p : ℕ × ℕ) → IsIn p pairs
    → IsIn p (pairs_then t o n pairs)
in-then true (Some l) n pairs p i = in-front p pairs ((n, l.connection) ∷ []) i
in-then true None n pairs p i = i
in-then false o n pairs p i = i

in-last : (t : Bool) (o : Option Link) (n : ℕ) (pairs : List (ℕ × ℕ)) (l : Link) → t ≡ true
    → o ≡ Some l → IsIn (n, l.connection) (pairs_then t o n pairs)
in-last t o n pairs l e f =
    subst (λ u. IsIn (n, l.connection) (pairs_then u o n pairs)) (sym e)
    (subst (λ x. IsIn (n, l.connection) (pairs_then true x n pairs)) (sym f)
    (in-behind (n, l.connection) pairs ((n, l.connection) ∷ []) (inl refl)))

-- a pair was remembered before, or is the new one
record IsNewPair (o : Option Link) (n j k : ℕ) : Type 0 where
  link : Link
  is : o ≡ Some link
  number : j ≡ n
  on : k ≡ link.connection

out-then : (t : Bool) (o : Option Link) (n : ℕ) (pairs : List (ℕ × ℕ)) (j k : ℕ)
    → IsIn (j, k) (pairs_then t o n pairs) → IsIn (j, k) pairs ⊎ IsNewPair o n j k
out-then true (Some l) n pairs j k i = ⊎_elim (λ old. inl old) (λ e. inr (record {
  link = l;
  is = refl;
  number = ap (λ (p : ℕ × ℕ). p.0) e;
  on = ap (λ (p : ℕ × ℕ). p.1) e;
})) (in-pushed (j, k) pairs (n, l.connection) i)
out-then true None n pairs j k i = inl i
out-then false o n pairs j k i = inl i

-- the connection of a purpose is found still
found-then : (i c : ℕ) (w : ℕ × SequenceStep) (h : Host) (l : Link) → link_at i c h ≡ Some l
    → (t : Bool) → (k : Link)
    × (link_at i c (cond t (with_interface i (λ x. record x { awaits = Some w }) h)
    (with_link i c (λ y. record y { awaits = Some w }) h)) ≡ Some k) × SameLink l k
found-then i c w h l e true = (l, e, same-link l)
found-then i c w h l e false = (
  record l { awaits = Some w },
  find-changed (is_link i c) (λ (y : Link). record y { awaits = Some w }) h.links (λ y. refl)
      ∙ ap (option_map (λ (y : Link). record y { awaits = Some w })) e,
  awaits-link (Some w) _,
)

-- ---- a sequence waits

module _ (b : Bus) (h : Host) (pairs : List (ℕ × ℕ)) (q : Asking) (n : ℕ) (fits : HostFits b h)
    (due : IsDue q.purpose.step q.purpose h) (formed : IsFormed q) (asked : IsAskedAs q n b pairs)
    (ready : IsReady h pairs (Act.Ask q))
    (f : CreatesFit b.requests h.links pairs (Some (q, n))) where
  abbrev then : Host
  then = awaits q.purpose n h

  abbrev at : Option Link
  at = link_at q.purpose.intf q.purpose.cport (awaits q.purpose n h)

  -- what it asked is what was to be asked
  same-record : (j : ℕ) (r : Request) → nth j b.requests ≡ Some r → j ≡ n
      → read_svc_ask r.kind r.payload ≡ read_svc_ask q.kind q.payload
  same-record j r made e =
      let same = same-some r asked.request (sym made ∙ ap (λ k. request_of k b) e ∙ asked.made) in
      ap (λ k. read_svc_ask k r.payload) (ap (λ (x : Request). x.kind) same ∙ asked.kind)
      ∙ ap (read_svc_ask q.kind) (ap (λ (x : Request). x.payload) same ∙ asked.payload)

  -- a step asks for a connection to be created where the record does
  creating : is_create (read_svc_ask q.kind q.payload) ≡ true → is_creating q.purpose.step ≡ true
  creating is = step-creating q.purpose.step formed.target
      (ap (λ p. is_create (read_svc_ask (kind_of q.purpose.step) p)) (sym formed.payload)
      ∙ ap (λ k. is_create (read_svc_ask k q.payload)) (sym formed.kind) ∙ is)

  -- that was prepared, and is found
  found : (is : is_creating q.purpose.step ≡ true)
      → (k : Link) × (at ≡ Some k) × SameLink (ready.0 is).link k
  found is = found-then q.purpose.intf q.purpose.cport (n, q.purpose.step) h (ready.0 is).link
      (ready.0 is).found (is_enumeration q.purpose.step)

  same-found : (is : is_creating q.purpose.step ≡ true) {l : Link} → at ≡ Some l
      → SameLink (ready.0 is).link l
  same-found is {l} e =
      let k = found is in
      subst (SameLink (ready.0 is).link) (same-some k.0 l (sym k.1 ∙ e)) k.2

  -- nothing was remembered of it
  alone : (j k : ℕ) (r : Request) → IsNewPair at n j k → nth j b.requests ≡ Some r
      → creates_one r ≡ true → (i : ℕ) → IsIn (i, k) pairs → ⊥
  alone j k r new made is i old =
      let create = creating (ap is_create (sym (same-record j r made new.number)) ∙ is) in
      (ready.0 create).none i (subst (λ x. IsIn (i, x) pairs)
      (new.on ∙ (same-found create new.is).connection) old)

  -- what asks for no new connection speaks of that which is found
  aimed : is_creating q.purpose.step ≡ false → (l : Link) → at ≡ Some l
      → IsBetween l.ap l.intf l.cport (read_svc_ask q.kind q.payload)
  aimed other l e =
      let is = found-its q.purpose.intf q.purpose.cport then.links l e in
      let x = (from-waiting (Some (n, q.purpose.step)) q.purpose h l is.0).from in
      let numbered = fits.links.numbered x.link x.live in
      let was = found-there h.links x.link fits.links.rise x.live (sym x.same.intf ∙ is.1)
      (sym x.same.cport ∙ is.2) in
      at-same x.link l x.same (read_svc_ask q.kind q.payload)
      (subst (λ k. IsBetween x.link.ap x.link.intf x.link.cport (read_svc_ask k q.payload))
      (sym formed.kind) (subst (λ p. IsBetween x.link.ap x.link.intf x.link.cport
      (read_svc_ask (kind_of q.purpose.step) p))
      (sym (ready.1 other ∙ ap (λ o. payload_of q.purpose.step (target (ap_in o) q.purpose h)) was))
      (subst (λ j. IsBetween x.link.ap j x.link.cport (read_svc_ask (kind_of q.purpose.step)
      (payload_of q.purpose.step (target x.link.ap q.purpose h)))) (sym is.1 ∙ x.same.intf)
      (subst (λ c. IsBetween x.link.ap q.purpose.intf c (read_svc_ask (kind_of q.purpose.step)
      (payload_of q.purpose.step (target x.link.ap q.purpose h)))) (sym is.2 ∙ x.same.cport)
      (step-between q.purpose.step (target x.link.ap q.purpose h) numbered.within
      (let low = numbered.cport in omega (arith, low, sym is.2 ∙ x.same.cport)))))))

  pub creates-asked : CreatesFit b.requests then.links
      (pairs_then (is_for_connection q.purpose.step) at n pairs) None
  creates-asked = record {
    own = λ j r made on by_ap is. inr (⊎_elim
        (λ a. here j r made is (sym (ap (λ (w : Asking × ℕ). w.1) (same-some (q, n) (a.0, j) a.1))))
        (λ p. (
          p.0,
          in-then (is_for_connection q.purpose.step) at n pairs (j, p.0) p.1,
        )) (f.own j r made on by_ap is));
    ends = λ j l r live p made. ⊎_elim (λ old. before j l r live made old)
        (λ new. last l r live new (same-record j r made new.number)
        (is_creating q.purpose.step) refl)
        (out-then (is_for_connection q.purpose.step) at n pairs j l.connection p);
    first = λ i j k r p o made is. ⊎_elim (λ old. ⊎_elim (λ old2. f.first i j k r old old2 made is)
        (λ new2. let less = asked.behind i k old in omega (arith, less, new2.number))
        (out-then (is_for_connection q.purpose.step) at n pairs j k o))
        (λ new. ⊎_elim (λ old2. absurd (alone i k r new made is j old2))
        (λ new2. omega (arith, new.number, new2.number))
        (out-then (is_for_connection q.purpose.step) at n pairs j k o))
        (out-then (is_for_connection q.purpose.step) at n pairs i k p);
  }
    where
      here : (j : ℕ) (r : Request) → nth j b.requests ≡ Some r → creates_one r ≡ true → j ≡ n
          → (k : ℕ) × IsIn (j, k) (pairs_then (is_for_connection q.purpose.step) at n pairs)
      here j r made is e =
          let create = creating (ap is_create (sym (same-record j r made e)) ∙ is) in
          let k = found create in (
            k.0.connection,
            subst (λ x. IsIn (x, k.0.connection)
                (pairs_then (is_for_connection q.purpose.step) at n pairs)) (sym e)
                (in-last (is_for_connection q.purpose.step) at n pairs k.0
                (creating-for q.purpose.step create) k.1),
          )

      before : (j : ℕ) (l : Link) (r : Request) → IsIn l then.links → nth j b.requests ≡ Some r
          → IsIn (j, l.connection) pairs
          → IsBetween l.ap l.intf l.cport (read_svc_ask r.kind r.payload)
      before j l r live made p =
          let x = (from-waiting (Some (n, q.purpose.step)) q.purpose h l live).from in
          at-same x.link l x.same (read_svc_ask r.kind r.payload) (f.ends j x.link r x.live
          (subst (λ k. IsIn (j, k) pairs) x.same.connection p) made)

      last : {j : ℕ} (l : Link) (r : Request) → IsIn l then.links → IsNewPair at n j l.connection
          → read_svc_ask r.kind r.payload ≡ read_svc_ask q.kind q.payload
          → (t : Bool) → is_creating q.purpose.step ≡ t
          → IsBetween l.ap l.intf l.cport (read_svc_ask r.kind r.payload)
      last l r live new same t e =
          let rise = (awaits-fits q.purpose n fits due).0.links.rise in
          let i = found-in (is_link q.purpose.intf q.purpose.cport) then.links new.link new.is in
          let is = one-link then.links l new.link rise live i.0 new.on in
          subst (λ (y : Link). IsBetween y.ap y.intf y.cport (read_svc_ask r.kind r.payload))
          (sym is) (subst (IsBetween new.link.ap new.link.intf new.link.cport) (sym same) (by t e))
        where
          by : (t : Bool) → is_creating q.purpose.step ≡ t
              → IsBetween new.link.ap new.link.intf new.link.cport (read_svc_ask q.kind q.payload)
          by true e = at-same (ready.0 e).link new.link (same-found e new.is)
              (read_svc_ask q.kind q.payload) (ready.0 e).ends
          by false e = aimed e new.link new.is
