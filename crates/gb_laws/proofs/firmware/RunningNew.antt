-- What is known of a download whose next request is made.
use Rattle.std.proofs.Common.{Bool, List, None, Some, ap, append-nil, append_assoc, ap₂, cond}
use Rattle.std.proofs.Common.{false, inl, inr, refl, subst, sym, true, ℕ, ⊎_elim, [], ◌++◌, ◌∙◌}
use Rattle.std.proofs.Common.{◌∷◌, ◌≡◌, ◌≢◌, ◌≤◌}
use Rattle.std.proofs.lemmas.List.Folds.{find-append}
use Rattle.std.specs.List.{find}
use Rattle.std.specs.Option.{option_or}
use Rattle.std.specs.Prelude.{option_map, ◌&&◌, ◌==◌}
use Rattle.gb_base.specs.declared.end.End.TheVariants as end
use Rattle.gb_base.specs.declared.end.Side.TheVariants as side
use Rattle.gb_base.specs.declared.entry.Entry.{Entry}
use Rattle.gb_formats.specs.Loader.{Download}
use Rattle.gb_formats.specs.Results.{success}
use Rattle.gb_formats.specs.ValidEvents.{IsTag}
use Rattle.gb_machine.specs.Bus.{Ask, Bus, Connection, Item, Reply, next_number, request_of}
use Rattle.gb_machine.specs.LawsFirmware.{Follow, IsOnTrail, WasAsked, WasClean, range_of}
use Rattle.gb_machine.specs.LawsFirmware.{ranges_of}
use Rattle.gb_machine.specs.Lists.{behind_first, without}
use Rattle.gb_machine.specs.Loading.{first_trail, is_trail_at, longer_trail}
use Rattle.gb_machine.specs.Members.{Each, IsIn}
use Rattle.gb_machine.specs.Sending.{Draft, requested, sent}
use Rattle.gb_machine.specs.State.{Load, State, Trail}
use Rattle.gb_invariants.proofs.Awaiting.{sent-new}
use Rattle.gb_invariants.proofs.BusChanges.{BusChange, KeepsRequests, requests-after}
use Rattle.gb_invariants.proofs.Found.{find-aside, find-changed, find-left, find-pushed, none-of}
use Rattle.gb_invariants.proofs.Lists.{each-append}
use Rattle.gb_invariants.proofs.Numbers.{same-connection}
use Rattle.gb_invariants.proofs.Outcomes.{both-true, is-same, same-number}
use Rattle.gb_invariants.specs.Facts.{BusFits, Loose}
use Rattle.gb_laws.proofs.firmware.FirmwareQueues.{NoneBehind, OnlyAsk, Queued, behind-new, fewer}
use Rattle.gb_laws.proofs.firmware.FirmwareQueues.{in-fewer, in-queued, lost, more, same}
use Rattle.gb_laws.proofs.firmware.PiecesKnown.{follow-append}
use Rattle.gb_laws.proofs.firmware.Running.{AsksFor, AtNumber, Fits, HasSoFar, IsFresh, QuietAt}
use Rattle.gb_laws.proofs.firmware.Running.{Replied, Running, reached}
use Rattle.gb_laws.proofs.firmware.RunningMoved.{Grows, older, reply-moved, trails-kept}
use Rattle.gb_laws.proofs.removals.QuietBuses.{next-unmade}

-- ---- trails

-- two CPorts are one, or not
abbrev pub Apart : ℕ → ℕ → ℕ → ℕ → Type 0
Apart i c j d = i ≡ j → c ≡ d → ⊥

-- a trail of one CPort is none of another
pub trail-apart : (i c j d : ℕ) (t : Trail) → Apart i c j d → is_trail_at i c t ≡ true
    → is_trail_at j d t ≡ false
trail-apart i c j d t other e = by (is_trail_at j d t) refl
  where
    by : (b : Bool) → is_trail_at j d t ≡ b → b ≡ false
    by false f = refl
    by true f =
        let p = both-true (t.intf == i) (t.cport == c) e in
        let q = both-true (t.intf == j) (t.cport == d) f in
        absurd (other (sym (same-number t.intf i p.0) ∙ same-number t.intf j q.0)
        (sym (same-number t.cport c p.1) ∙ same-number t.cport d q.1))

is-own_trail : (i c k : ℕ) (ns : List ℕ) → is_trail_at i c (record {
  intf = i;
  cport = c;
  connection = k;
  requests = ns;
}) ≡ true
is-own_trail i c k ns = ap (λ t. t && (c == c)) (is-same i) ∙ is-same c

pub first-found : (i c k n : ℕ) (trails : List Trail)
    → find (is_trail_at i c) (first_trail i c k n trails)
    ≡ Some (record { intf = i; cport = c; connection = k; requests = n ∷ [] })
first-found i c k n trails =
    let new : Trail = record { intf = i; cport = c; connection = k; requests = n ∷ [] } in
    find-append (is_trail_at i c) (without (is_trail_at i c) trails) (new ∷ [])
    ∙ ap (λ o. option_or o (find (is_trail_at i c) (new ∷ []))) (none-of (is_trail_at i c) trails)
    ∙ ap (λ t. cond t (Some new) None) (is-own_trail i c k (n ∷ []))

pub first-aside : (i c k n j d : ℕ) (trails : List Trail) → Apart i c j d
    → find (is_trail_at j d) (first_trail i c k n trails) ≡ find (is_trail_at j d) trails
first-aside i c k n j d trails other =
    let new : Trail = record { intf = i; cport = c; connection = k; requests = n ∷ [] } in
    find-pushed (is_trail_at j d) (without (is_trail_at i c) trails) new
    (trail-apart i c j d new other (is-own_trail i c k (n ∷ [])))
    ∙ find-left (is_trail_at j d) (is_trail_at i c) trails
    (λ t e. trail-apart j d i c t (λ a b. other (sym a) (sym b)) e)

-- a trail with one more request
abbrev pub longer : ℕ → Trail → Trail
longer n t = record t { requests = t.requests ++ n ∷ [] }

pub longer-found : (i c n : ℕ) (trails : List Trail) (t : Trail)
    → find (is_trail_at i c) trails ≡ Some t
    → find (is_trail_at i c) (longer_trail i c n trails) ≡ Some (longer n t)
longer-found i c n trails t e =
    find-changed (is_trail_at i c) (longer n) trails (λ t. refl) ∙ ap (option_map (longer n)) e

pub longer-aside : (i c n j d : ℕ) (trails : List Trail) → Apart i c j d
    → find (is_trail_at j d) (longer_trail i c n trails) ≡ find (is_trail_at j d) trails
longer-aside i c n j d trails other =
    find-aside (is_trail_at j d) (is_trail_at i c) (longer n) trails
    (λ t e. let a = trail-apart i c j d t other e in (a, a))

-- ---- the next request

behind-absent : (w : ℕ) (q : List Item) → (IsIn (Ask w) q → ⊥) → NoneBehind w q
behind-absent w [] none = tt
behind-absent w (x ∷ xs) none =
    (λ e. absurd (none (inl (sym e))), behind-absent w xs (λ i. none (inr i)))

module _ (s t : State) (d : Draft) (label : ℕ) (is : t.bus ≡ sent d label s.bus)
    (loose : List Loose) (fits : BusFits loose s.bus) (before : List Loose) (old : State)
    (was : BusFits before old.bus) (onward : KeepsRequests old.bus s.bus) (far : d.side ≡ side.Far)
  where
    abbrev n : ℕ
    n = next_number s.bus

    abbrev k : ℕ
    k = d.connection

    abbrev change : BusChange
    change = BusChange.sends d label

    stay : KeepsRequests s.bus t.bus
    stay = subst (KeepsRequests s.bus) (sym is) (requests-after change s.bus)

    new : request_of n t.bus ≡ Some (requested d label)
    new = subst (λ b. request_of n b ≡ Some (requested d label)) (sym is) (sent-new d label s.bus)

    module _ (made : k ≤ s.bus.made) where
      -- it comes behind all others
      new-behind : AtNumber k t.bus.connections (λ x. NoneBehind n x.to_ap)
      new-behind x i number =
          let o = older change s.bus k x made (subst (λ (b : Bus). IsIn x b.connections) is i)
          number
          in let none : IsIn (Ask n) o.was.to_ap → ⊥ =
          λ j. let w = fits.items.own o.was side.Ap (Ask n) o.live j in next-unmade s.bus w.0 w.1 in
          ⊎_elim (λ e. behind-absent n x.to_ap (λ j. none (subst (λ xs. IsIn (Ask n) xs) e j)))
          (λ q. by o.was.to_ap x.to_ap none q.1) (o.queues side.Ap)
        where
          by : (q after : List Item) → (IsIn (Ask n) q → ⊥) → Queued change s.bus side.Ap q after
              → NoneBehind n after
          by q after none (same e) = subst (NoneBehind n) (sym e) (behind-absent n q none)
          by q after none (fewer e) = subst (NoneBehind n) (sym e)
              (behind-absent n (behind_first q) (λ j. none (in-fewer (Ask n) q j)))
          by q after none (lost e) = subst (NoneBehind n) (sym e) tt
          by q after none (more item e brings) = subst (NoneBehind n) (sym e)
              (subst (λ y. NoneBehind n (q ++ y ∷ [])) (sym brings.1) (behind-new n n q none))

      -- and is alone where none waits
      pub new-only : QuietAt k s.bus → AtNumber k t.bus.connections (λ x. OnlyAsk n x.to_ap)
      new-only quiet x i number j at =
          let o = older change s.bus k x made (subst (λ (b : Bus). IsIn x b.connections) is i)
          number
          in ⊎_elim
          (λ e. absurd (quiet o.was o.live o.number j (subst (λ xs. IsIn (Ask j) xs) e at)))
          (λ q. ⊎_elim (λ old. absurd (quiet o.was o.live o.number j old))
          (λ brings. same-asks j n brings.1) (in-queued (Ask j) q.1 at)) (o.queues side.Ap)
        where
          same-asks : (a b : ℕ) → Ask a ≡ Ask b → a ≡ b
          same-asks a b e = cc

      -- it isn't answered yet
      unanswered : (p : List ℕ) → Replied old.bus.connections t.bus k n p → ⊥
      unanswered p (inr h) =
          let w = was.items.own h.0 side.Far (Reply n success p) h.1 h.3 in
          next-unmade s.bus w.0 (onward n w.0 w.1)
      unanswered p (inl h) = ⊎_elim
          (λ o. let w = fits.items.own o.0 side.Far (Reply n success p) o.1 o.3 in
          next-unmade s.bus w.0 w.1) (λ brings. plain brings.1.1)
          (reply-moved s t change is k n made p h)
        where
          plain : Reply n success p ≡ Ask n → ⊥
          plain e = absurd cc

      -- What is known of a download that made it.
      pub run-new : (told later : List Entry) → Grows told later → (fit : Fits) (l : Load)
          (e : Download) (c : Connection) (u : Trail) (front : List ℕ) (mid : ℕ) → l.request ≡ n
          → IsIn c s.bus.connections → c.number ≡ k → c.peer ≡ end.Module l.intf l.cport
          → u.connection ≡ k → u.requests ≡ front ++ n ∷ []
          → find (is_trail_at l.intf l.cport) t.past.loading ≡ Some u
          → Each (IsOnTrail told s u) front → k ≢ 1 → IsTag e.tag → IsFresh e.awaits e
          → AsksFor e.awaits e (requested d label)
          → WasAsked later n (end.Module u.intf u.cport)
          → (WasClean k t → Follow 0 (ranges_of front s.bus) mid
          × Follow mid (range_of (Some (requested d label))) (reached e.awaits e)
          × HasSoFar fit t n k e.awaits e)
          → Running fit old.bus.connections None later t l e
      run-new told later grows fit l e c u front mid request live number peer on requests found
          trail other tag fresh asked said clean = record {
            trail = u;
            found = found;
            made = subst (Each (IsOnTrail later t u)) (sym requests)
                (each-append (IsOnTrail later t u) front (n ∷ [])
                (trails-kept told later s t u u front grows stay (refl, refl, refl) trail) (
                  record {
                    request = requested d label;
                    is = new;
                    connection = sym on;
                    side = far;
                    asked = said;
                  },
                  tt,
                ));
            request = requested d label;
            is = ap (λ j. request_of j t.bus) request ∙ new;
            connection = sym on;
            side = far;
            asks = asked;
            far = λ x i at. peer-of x i (at ∙ on);
            other = λ one. other (sym on ∙ one);
            tag = tag;
            fresh = fresh;
            clean = λ w. let h = clean (subst (λ j. WasClean j t) on w) in record {
              ranges = subst (λ ns. Follow 0 (ranges_of ns t.bus) (reached e.awaits e))
                  (sym requests)
                  (subst (λ rs. Follow 0 rs (reached e.awaits e)) (sym (split front trail))
                  (follow-append 0 mid (reached e.awaits e) (ranges_of front s.bus)
                  (range_of (Some (requested d label))) h.0 h.1));
              behind = subst (λ j. AtNumber j t.bus.connections (λ x. NoneBehind l.request x.to_ap))
                  (sym on) (subst (λ j. AtNumber k t.bus.connections (λ x. NoneBehind j x.to_ap))
                  (sym request) new-behind);
              has = subst (λ j. HasSoFar fit t l.request j e.awaits e) (sym on)
                  (subst (λ j. HasSoFar fit t j k e.awaits e) (sym request) h.2);
              reply = λ p r. absurd (unanswered p (subst
                  (λ j. Replied old.bus.connections t.bus k j p) request
                  (subst (λ j. Replied old.bus.connections t.bus j l.request p) on r)));
              taken = λ x none at item. absurd cc;
            };
          }
        where
          peer-of : (x : Connection) → IsIn x t.bus.connections → x.number ≡ k
              → x.peer ≡ end.Module l.intf l.cport
          peer-of x i at =
              let o = older change s.bus k x made (subst (λ (b : Bus). IsIn x b.connections) is i)
              at
              in o.peer ∙ ap (λ (y : Connection). y.peer)
              (same-connection s.bus.connections o.was c fits.numbers.rise o.live live
              (o.number ∙ sym number)) ∙ peer

          split : (ns : List ℕ) → Each (IsOnTrail told s u) ns
              → ranges_of (ns ++ n ∷ []) t.bus
              ≡ ranges_of ns s.bus ++ range_of (Some (requested d label))
          split [] h = append-nil (range_of (request_of n t.bus)) ∙ ap range_of new
          split (j ∷ ns) h =
              ap₂ (λ (a b : List (ℕ × ℕ)). a ++ b)
              (ap range_of (stay j h.0.request h.0.is ∙ sym h.0.is)) (split ns h.1)
              ∙ sym (append_assoc (range_of (request_of j s.bus)) (ranges_of ns s.bus)
              (range_of (Some (requested d label))))
