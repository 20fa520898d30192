-- What is known of remembered requests stays where a sequence comes to wait for one.
use Rattle.std.proofs.Common.{Bool, List, None, Option, Some, ap, arith, false, inl, inr}
use Rattle.std.proofs.Common.{refl, subst, sym, true, ℕ, ⊎_elim, [], ◌++◌, ◌∙◌, ◌∷◌, ◌≡◌, ◌⊎◌}
use Rattle.std.specs.List.{find}
use Rattle.gb_base.specs.declared.interface.Link.{Link}
use Rattle.gb_base.specs.declared.steps.SequenceStep.{SequenceStep}
use Rattle.gb_formats.specs.SvcRecords.{read_svc_ask}
use Rattle.gb_machine.specs.Bus.{Bus, Request, request_of}
use Rattle.gb_machine.specs.Host.{Host, is_link, link_at}
use Rattle.gb_machine.specs.SequenceSteps.{is_enumeration, is_for_connection, kind_of, payload_of}
use Rattle.gb_machine.specs.{Members.IsIn, SvcQueues.is_for_link, SvcQueues.speaks_of_connection}
use Rattle.gb_machine.specs.{Turns.Asking, Waits.awaits}
use Rattle.gb_invariants.proofs.HostChanges.{waiting-by}
use Rattle.gb_invariants.proofs.Awaiting.{none-some, not-both, same-some}
use Rattle.gb_invariants.proofs.Lists.{in-behind, in-front, in-pushed}
use Rattle.gb_invariants.proofs.Found.{in-first}
use Rattle.gb_laws.proofs.links.LinkLists.{found-at, found-its, found-waiting, one-link}
use Rattle.gb_laws.proofs.links.Links.{HostFits, IsDue, IsDueBy, IsFormed}
use Rattle.gb_laws.proofs.creations.Pairs.{IsAskedAs, IsSvcRequest, PairsFit, asks-svc, speaks-of}
use Rattle.gb_laws.proofs.links.LinkActs.{awaits-fits}

-- what is remembered then
abbrev pub pairs_then : Bool → Option Link → ℕ → List (ℕ × ℕ) → List (ℕ × ℕ)
pairs_then true (Some l) n pairs = pairs ++ (n, l.connection) ∷ []
pairs_then true None n pairs = pairs
pairs_then false o n pairs = pairs

module _ (b : Bus) (h : Host) (pairs : List (ℕ × ℕ)) (q : Asking) (n : ℕ) (fits : HostFits b h)
    (due : IsDue q.purpose.step q.purpose h) (formed : IsFormed q)
    (f : PairsFit b h pairs (Some (q, n))) where
  abbrev set : Link → Link
  set l = record l { awaits = Some (n, q.purpose.step) }

  asked : IsAskedAs q n b pairs
  asked = f.asks q n refl

  then : HostFits b (awaits q.purpose n h)
  then = (awaits-fits q.purpose n fits due).0

  -- each connection is one that was known, and waits for the same, or is that of the purpose
  known : (l : Link) → IsIn l (awaits q.purpose n h).links → IsIn l h.links
      ⊎ ((x : Link) × IsIn x h.links × (link_at q.purpose.intf q.purpose.cport h ≡ Some x)
      × (l ≡ set x) × (is_enumeration q.purpose.step ≡ false))
  known l = waiting-by (λ g. IsIn l g.links → IsIn l h.links
      ⊎ ((x : Link) × IsIn x h.links × (link_at q.purpose.intf q.purpose.cport h ≡ Some x)
      × (l ≡ set x) × (is_enumeration q.purpose.step ≡ false))) (Some (n, q.purpose.step)) q.purpose
      h (λ e i. inl i) (λ e i. ⊎_elim (λ o. inl o) (λ v. inr (v.0, v.1, v.2, v.3, e))
      (in-first (is_link q.purpose.intf q.purpose.cport) set h.links l i))

  -- the connection of the purpose, of which the request is remembered
  target-link : (l : Link) → link_at q.purpose.intf q.purpose.cport (awaits q.purpose n h) ≡ Some l
      → IsIn l (awaits q.purpose n h).links × (l.intf ≡ q.purpose.intf)
      × (l.cport ≡ q.purpose.cport)
  target-link l e = found-its q.purpose.intf q.purpose.cport (awaits q.purpose n h).links l e

  come : (l : Link) → IsIn l (awaits q.purpose n h).links
      → (x : Link) × IsIn x h.links × (x.connection ≡ l.connection) × (x.intf ≡ l.intf)
  come l i = ⊎_elim (λ o. (l, o, refl, refl)) (λ v. (
    v.0,
    v.1,
    sym (ap (λ (x : Link). x.connection) v.3),
    sym (ap (λ (x : Link). x.intf) v.3),
  )) (known l i)

  -- a connection of the purpose waits for nothing before
  unwaiting : (l : Link) → IsIn l h.links → l.intf ≡ q.purpose.intf → l.cport ≡ q.purpose.cport
      → (w : ℕ × SequenceStep) → l.awaits ≡ Some w → ⊥
  unwaiting l i intf cport w e = by (is_enumeration q.purpose.step) due
    where
      found : link_at q.purpose.intf q.purpose.cport h ≡ Some l
      found = subst (λ x. find (is_link x q.purpose.cport) h.links ≡ Some l) intf
          (subst (λ x. find (is_link l.intf x) h.links ≡ Some l) cport
          (found-at h.links l fits.links.rise i))

      by : (t : Bool) → IsDueBy t q.purpose.step q.purpose h → ⊥
      by true d = (fits.links.waiting l i w e).0 (cport ∙ d.cport)
      by false d = none-some (sym (d.idle l found) ∙ e)

  -- nothing is remembered of it
  unremembered : (t : Bool) → is_for_connection q.purpose.step ≡ t → (t ≡ true → (l : Link)
      → link_at q.purpose.intf q.purpose.cport (awaits q.purpose n h) ≡ Some l → ⊥)
      → PairsFit b (awaits q.purpose n h) pairs None
  unremembered t e none = record {
    made = f.made;
    given = f.given;
    of = λ k i l r live j made is. let x = come l live in
        sym x.3 ∙ f.of k i x.0 r x.1 (subst (λ c. IsIn (k, c) pairs) (sym x.2) j) made is;
    bound = λ l live w g. ⊎_elim (λ o. f.bound l o w g)
        (λ v. let same = same-some (n, q.purpose.step) w
        (sym (ap (λ (x : Link). x.awaits) v.3) ∙ g) in record {
          last = λ k j. let less = asked.behind k l.connection j in
              omega (arith, less, ap (λ (y : ℕ × SequenceStep). y.0) same);
          own = λ s. absurd (none (sym e ∙ ap (λ (y : ℕ × SequenceStep). is_for_connection y.1) same
              ∙ s) (set v.0)
              (found-waiting (Some (n, q.purpose.step)) q.purpose h v.0 v.4 v.2));
        }) (known l live);
    asks = λ p k g. absurd (none-some g);
  }

  -- it is remembered for that connection
  remembered : (l : Link) → link_at q.purpose.intf q.purpose.cport (awaits q.purpose n h) ≡ Some l
      → is_for_connection q.purpose.step ≡ true
      → PairsFit b (awaits q.purpose n h) (pairs ++ (n, l.connection) ∷ []) None
  remembered l at s = record {
    made = λ j k i. ⊎_elim (λ o. f.made j k o)
        (λ e. subst (λ x. IsSvcRequest x b) (sym (ap (λ (p : ℕ × ℕ). p.0) e)) (record {
          request = asked.request;
          made = asked.made;
          on = asked.on ∙ formed.on (asks-svc q.purpose.step s);
          by_ap = asked.by_ap;
          twoway = asked.twoway;
        })) (in-pushed (j, k) pairs (n, l.connection) i);
    given = λ j k i. ⊎_elim (λ o. f.given j k o) (λ e. let x = come l (target-link l at).0 in
        let low = (fits.links.numbered x.0 x.1).given in
        omega (arith, low, x.2, ap (λ (p : ℕ × ℕ). p.1) e))
        (in-pushed (j, k) pairs (n, l.connection) i);
    of = λ j i y r live p made is. ⊎_elim (λ o. let x = come y live in
        sym x.3 ∙ f.of j i x.0 r x.1 (subst (λ c. IsIn (j, c) pairs) (sym x.2) o) made is)
        (λ e. same-link y live (ap (λ (z : ℕ × ℕ). z.1) e) ∙ (target-link l at).1 ∙ sym formed.intf
        ∙ speaks-of i q.purpose.step formed.target s
        (speaks j i r (ap (λ (z : ℕ × ℕ). z.0) e) made is))
        (in-pushed (j, y.connection) pairs (n, l.connection) p);
    bound = λ y live w g. ⊎_elim (λ o. let old = f.bound y o w g in record {
      last = λ k j. ⊎_elim (λ m. old.last k m)
          (λ e. absurd (here y live (ap (λ (z : ℕ × ℕ). z.1) e) o w g))
          (in-pushed (k, y.connection) pairs (n, l.connection) j);
      own = λ u. in-front (w.0, y.connection) pairs ((n, l.connection) ∷ []) (old.own u);
    }) (λ v. let same = same-some (n, q.purpose.step) w
        (sym (ap (λ (x : Link). x.awaits) v.3) ∙ g) in record {
          last = λ k j. ⊎_elim (λ m. let less = asked.behind k y.connection m in
              omega (arith, less, ap (λ (z : ℕ × SequenceStep). z.0) same)) (λ e. omega (
                arith,
                ap (λ (z : ℕ × ℕ). z.0) e,
                ap (λ (z : ℕ × SequenceStep). z.0) same,
              )) (in-pushed (k, y.connection) pairs (n, l.connection) j);
          own = λ u. in-behind (w.0, y.connection) pairs ((n, l.connection) ∷ [])
              (inl (pair w.0 y.connection (ap (λ (z : ℕ × SequenceStep). z.0) same)
              (number y v.0 v.2 v.4 v.3)));
        }) (known y live);
    asks = λ p k g. absurd (none-some g);
  }
    where
      pair : (j k : ℕ) → n ≡ j → k ≡ l.connection → ◌≡◌ {A = ℕ × ℕ} (j, k) (n, l.connection)
      pair j k e g = ap (λ x. (x, k)) (sym e) ∙ ap (λ x. (n, x)) g

      same-link : (y : Link) → IsIn y (awaits q.purpose n h).links → y.connection ≡ l.connection
          → y.intf ≡ l.intf
      same-link y live e = ap (λ (x : Link). x.intf) (one-link (awaits q.purpose n h).links y l
          then.links.rise live (target-link l at).0 e)

      speaks : (j i : ℕ) (r : Request) → j ≡ n → request_of j b ≡ Some r → is_for_link i r ≡ true
          → speaks_of_connection i (read_svc_ask (kind_of q.purpose.step)
          (payload_of q.purpose.step formed.target)) ≡ true
      speaks j i r e made is =
          let same = same-some r asked.request
          (sym made ∙ ap (λ k. request_of k b) e ∙ asked.made) in
          subst (λ p. speaks_of_connection i (read_svc_ask (kind_of q.purpose.step) p) ≡ true)
          (ap (λ (x : Request). x.payload) same ∙ asked.payload ∙ formed.payload)
          (subst (λ k. speaks_of_connection i (read_svc_ask k r.payload) ≡ true)
          (ap (λ (x : Request). x.kind) same ∙ asked.kind ∙ formed.kind) is)

      here : (y : Link) → IsIn y (awaits q.purpose n h).links → y.connection ≡ l.connection
          → IsIn y h.links → (w : ℕ × SequenceStep) → y.awaits ≡ Some w → ⊥
      here y live e old w g =
          let t = target-link l at in
          let same = one-link (awaits q.purpose n h).links y l then.links.rise live t.0 e in
          unwaiting y old (ap (λ (x : Link). x.intf) same ∙ t.1)
          (ap (λ (x : Link). x.cport) same ∙ t.2) w g

      number : (y x : Link) → link_at q.purpose.intf q.purpose.cport h ≡ Some x
          → is_enumeration q.purpose.step ≡ false → y ≡ set x → y.connection ≡ l.connection
      number y x g u e = ap (λ (z : Link). z.connection) (e ∙ same-some (set x) l
          (sym (found-waiting (Some (n, q.purpose.step)) q.purpose h x u g) ∙ at))

  pub pairs-asked : (t : Bool) (o : Option Link) → is_for_connection q.purpose.step ≡ t
      → link_at q.purpose.intf q.purpose.cport (awaits q.purpose n h) ≡ o
      → PairsFit b (awaits q.purpose n h) (pairs_then t o n pairs) None
  pairs-asked true (Some l) s at = remembered l at s
  pairs-asked true None s at =
      unremembered true s (λ e l g. none-some (sym at ∙ g))
  pairs-asked false o s at = unremembered false s (λ e l g. not-both false e refl)
