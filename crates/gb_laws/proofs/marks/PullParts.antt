-- What stays on the supervisory controller's connection, and plugged, where a module is pulled.
use Rattle.std.proofs.Common.{Bool, List, None, Some, ap, cond, false, inl, inr, refl, subst, sym}
use Rattle.std.proofs.Common.{true, ℕ, ⊎_elim, [], ◌∙◌, ◌∷◌, ◌≡◌, ◌≢◌}
use Rattle.std.specs.List.{find, list_any}
use Rattle.std.specs.Prelude.{is_some, not, option_map, ◌==◌, ◌||◌}
use Rattle.gb_base.specs.declared.end.End.TheVariants as end
use Rattle.gb_base.specs.declared.end.Side.TheVariants as side
use Rattle.gb_machine.proofs.Opened.{machine_opened}
use Rattle.gb_machine.specs.Bus.{Bus, Connection, connection_of, has_number}
use Rattle.gb_machine.specs.Members.{Each, EachTwo, IsIn}
use Rattle.gb_machine.specs.Modules.{interfaces_of, is_plugged, is_plugged_at, unplugged}
use Rattle.gb_machine.specs.Plugging.{pulls_one, wired_numbers}
use Rattle.gb_machine.specs.{Actions.each, Lists.at_first, Requests.is_used, State.Plugged}
use Rattle.gb_machine.specs.{State.State, Wires.unwires, Wires.with_unwired}
use Rattle.gb_invariants.proofs.{Awaiting.not-both, Drawing.used-unwired, Found.find-left}
use Rattle.gb_invariants.proofs.{Found.none-of, Lists.in-at_first, Lists.in-without}
use Rattle.gb_invariants.proofs.{Lists.stays-without, Lists.two-filter, Outcomes.any-in}
use Rattle.gb_invariants.proofs.{Outcomes.in-any, Outcomes.is-same, Outcomes.same-number}
use Rattle.gb_invariants.proofs.{Selves.module-no-svc}
use Rattle.gb_invariants.proofs.ModuleTurns.{in-span}
use Rattle.gb_laws.proofs.marks.Wholes.{AreElsewhere, AreWhole, HasPart, IsWhole, found-part}
use Rattle.gb_laws.proofs.marks.Wholes.{plugged_at, span-in, whole-only, whole-there}
use Rattle.gb_laws.proofs.points.Points.{IsLive}
use Rattle.gb_laws.proofs.steps.Ticking.{unwired-plugs, wired-live}

-- ---- the supervisory controller's connection

-- what of it, and of what marks rest on but for what is plugged, stays where others are unwired
pub record SameSvc (s t : State) : Type 0 where
  pub connection : connection_of 1 t.bus ≡ connection_of 1 s.bus
  pub used : (label : ℕ) → is_used 1 side.Far t.bus label ≡ is_used 1 side.Far s.bus label
  pub requests : t.bus.requests ≡ s.bus.requests
  pub host : t.host ≡ s.host
  pub started : t.booted ≡ s.booted
  pub pulled : t.past.pulled ≡ s.past.pulled

pub svc-refl : (s : State) → SameSvc s s
svc-refl s = record {
  connection = refl;
  used = λ label. refl;
  requests = refl;
  host = refl;
  started = refl;
  pulled = refl;
}

pub svc-then : {s t u : State} → SameSvc s t → SameSvc t u → SameSvc s u
svc-then a b = record {
  connection = b.connection ∙ a.connection;
  used = λ label. b.used label ∙ a.used label;
  requests = b.requests ∙ a.requests;
  host = b.host ∙ a.host;
  started = b.started ∙ a.started;
  pulled = b.pulled ∙ a.pulled;
}

-- what is found by number 1 stays where a connection with another number changes
find-past : (k : ℕ) (f : Connection → Connection) (cs : List Connection)
    → ((c : Connection) → (f c).number ≡ c.number) → k ≢ 1
    → find (has_number 1) (at_first (has_number k) f cs) ≡ find (has_number 1) cs
find-past k f [] same other = refl
find-past k f (x ∷ xs) same other = by (x.number == k) refl (find-past k f xs same other)
  where
    here : x.number ≡ k → (t : Bool) → (x.number == 1) ≡ t
        → cond t (Some (f x)) (find (has_number 1) xs) ≡ cond t (Some x) (find (has_number 1) xs)
    here on true e = absurd (other (sym on ∙ same-number x.number 1 e))
    here on false e = refl

    by : (t : Bool) → (x.number == k) ≡ t
        → find (has_number 1) (at_first (has_number k) f xs) ≡ find (has_number 1) xs
        → find (has_number 1) (cond t (f x ∷ xs) (x ∷ at_first (has_number k) f xs)) ≡ find
        (has_number 1) (x ∷ xs)
    by true e h = ap (λ n. cond (n == 1) (Some (f x)) (find (has_number 1) xs)) (same x)
        ∙ here (same-number x.number k e) (x.number == 1) refl
    by false e h = ap (λ o. cond (x.number == 1) (Some x) o) h

pub unwires-svc : (ns : List ℕ) {s : State} → Each (λ n. n ≢ 1) ns
    → SameSvc s (each ns unwires s).state
unfolding machine_opened
unwires-svc [] {s} other = svc-refl s
unwires-svc (n ∷ ns) {s} other =
    svc-then (record {
      connection = find-past n (λ c. record c { wired = false; to_ap = []; to_far = [] })
          s.bus.connections (λ c. refl) other.0;
      used = λ label. used-unwired n 1 side.Far s.bus (λ e. other.0 (sym e)) label;
      requests = refl;
      host = refl;
      started = refl;
      pulled = refl;
    }) (unwires-svc ns other.1)

-- connection 1 is to the supervisory controller
abbrev pub OneIsSvc : Bus → Type 0
OneIsSvc b = (c : Connection) → IsIn c b.connections → c.number ≡ 1 → c.peer ≡ end.Svc

one-unwired : (ns : List ℕ) (s : State) → OneIsSvc s.bus → OneIsSvc (each ns unwires s).state.bus
unfolding machine_opened
one-unwired [] s one = one
one-unwired (n ∷ ns) s one = one-unwired ns (with_unwired n s) (λ c i on. ⊎_elim
    (λ o. one c o on) (λ w. ap (λ (x : Connection). x.peer) w.3
    ∙ one w.0 w.1 (sym (ap (λ (x : Connection). x.number) w.3) ∙ on))
    (in-at_first (has_number n) (λ c. record c { wired = false; to_ap = []; to_far = [] })
    s.bus.connections c i))

-- so the numbers of connections to modules aren't 1
pub wired-others : (i : ℕ) (s : State) → OneIsSvc s.bus → Each (λ n. n ≢ 1) (wired_numbers i s.bus)
wired-others i s one =
    all (wired_numbers i s.bus) (wired-live i s.bus s.bus.connections (λ c j. j))
  where
    all : (ns : List ℕ) → Each (λ n. IsLive n true s.bus) ns → Each (λ n. n ≢ 1) ns
    all [] h = tt
    all (n ∷ ns) h = (
      λ e. module-no-svc (sym h.0.peer ∙ one h.0.connection h.0.live (h.0.number ∙ e)),
      all ns h.1,
    )

-- ---- interfaces are pulled

-- what is plugged then
abbrev pub unplugged_all : List ℕ → List Plugged → List Plugged
unplugged_all [] ms = ms
unplugged_all (i ∷ is) ms = unplugged_all is (unplugged i ms)

pub record ArePulledOff (is : List ℕ) (s t : State) : Type 0 where
  pub svc : SameSvc s t
  pub one : OneIsSvc t.bus
  pub modules : t.modules ≡ unplugged_all is s.modules

pub pulls-each : (is : List ℕ) (s : State) → OneIsSvc s.bus
    → ArePulledOff is s (each is pulls_one s).state
unfolding machine_opened
pulls-each [] s one = record { svc = svc-refl s; one = one; modules = refl }
pulls-each (i ∷ is) s one =
    let cut = unwires-svc (wired_numbers i s.bus) (wired-others i s one) in
    let r = pulls-each is (pulls_one i s).state (one-unwired (wired_numbers i s.bus) s one) in
    record {
      svc = svc-then (record {
        connection = cut.connection;
        used = cut.used;
        requests = cut.requests;
        host = cut.host;
        started = cut.started;
        pulled = cut.pulled;
      }) r.svc;
      one = r.one;
      modules = r.modules ∙ ap (λ ms. unplugged_all is (unplugged i ms))
          (unwired-plugs (wired_numbers i s.bus) s).0;
    }

-- ---- what is plugged then

found-left : (i j : ℕ) (ms : List Plugged) → (i == j) ≡ false
    → find (is_plugged_at j) (unplugged i ms) ≡ find (is_plugged_at j) ms
found-left i j ms e = find-left (is_plugged_at j) (is_plugged_at i) ms
    (λ p f. by p (p.intf == i) refl (same-number p.intf j f))
  where
    by : (p : Plugged) → (t : Bool) → (p.intf == i) ≡ t → p.intf ≡ j → t ≡ false
    by p false f same = refl
    by p true f same = absurd (not-both (i == j)
        (ap (λ n. n == j) (sym (same-number p.intf i f) ∙ same) ∙ is-same j) e)

pub pulled-other : (i j : ℕ) (ms : List Plugged) → (i == j) ≡ false
    → is_plugged j (unplugged i ms) ≡ is_plugged j ms
pulled-other i j ms e =
    ap (λ o. is_some (option_map (λ (p : Plugged). p.body) o)) (found-left i j ms e)

-- at an interface that is pulled nothing is plugged
left-none : (j : ℕ) (is : List ℕ) (ms : List Plugged) → find (is_plugged_at j) ms ≡ None
    → find (is_plugged_at j) (unplugged_all is ms) ≡ None
left-none j [] ms e = e
left-none j (i ∷ is) ms e = left-none j is (unplugged i ms) (by (i == j) refl)
  where
    by : (t : Bool) → (i == j) ≡ t → find (is_plugged_at j) (unplugged i ms) ≡ None
    by true f = ap (λ k. find (is_plugged_at k) (unplugged i ms)) (sym (same-number i j f))
        ∙ none-of (is_plugged_at i) ms
    by false f = found-left i j ms f ∙ e

pub left-at : (j : ℕ) (is : List ℕ) (ms : List Plugged) → list_any (λ i. i == j) is ≡ true
    → find (is_plugged_at j) (unplugged_all is ms) ≡ None
left-at j [] ms e = absurd cc
left-at j (i ∷ is) ms e = by (i == j) refl e (left-at j is (unplugged i ms))
  where
    by : (t : Bool) → (i == j) ≡ t → (t || list_any (λ i. i == j) is) ≡ true
        → (list_any (λ i. i == j) is ≡ true
        → find (is_plugged_at j) (unplugged_all is (unplugged i ms)) ≡ None)
        → find (is_plugged_at j) (unplugged_all is (unplugged i ms)) ≡ None
    by true f g rec = left-none j is (unplugged i ms)
        (ap (λ k. find (is_plugged_at k) (unplugged i ms)) (sym (same-number i j f))
        ∙ none-of (is_plugged_at i) ms)
    by false f g rec = rec g

-- and at others what was
pub left-other : (j : ℕ) (is : List ℕ) (ms : List Plugged) → list_any (λ i. i == j) is ≡ false
    → find (is_plugged_at j) (unplugged_all is ms) ≡ find (is_plugged_at j) ms
left-other j [] ms e = refl
left-other j (i ∷ is) ms e = by (i == j) refl e (left-other j is (unplugged i ms))
  where
    by : (t : Bool) → (i == j) ≡ t → (t || list_any (λ i. i == j) is) ≡ false
        → (list_any (λ i. i == j) is ≡ false → find (is_plugged_at j)
        (unplugged_all is (unplugged i ms)) ≡ find (is_plugged_at j) (unplugged i ms))
        → find (is_plugged_at j) (unplugged_all is (unplugged i ms)) ≡ find (is_plugged_at j) ms
    by true f g rec = absurd cc
    by false f g rec = rec g ∙ found-left i j ms f

in-left : (is : List ℕ) (ms : List Plugged) (x : Plugged) → IsIn x (unplugged_all is ms)
    → IsIn x ms × (IsIn x.intf is → ⊥)
in-left [] ms x k = (k, λ j. absurd j)
in-left (i ∷ is) ms x k =
    let r = in-left is (unplugged i ms) x k in
    let o = in-without (is_plugged_at i) ms x r.0 in
    (o.0, λ j. ⊎_elim (λ e. not-both (x.intf == i) (ap (λ n. n == i) e ∙ is-same i) o.1) r.1 j)

left-in : (is : List ℕ) (ms : List Plugged) (x : Plugged) → IsIn x ms → (IsIn x.intf is → ⊥)
    → IsIn x (unplugged_all is ms)
left-in [] ms x k other = k
left-in (i ∷ is) ms x k other = left-in is (unplugged i ms) x
    (stays-without (is_plugged_at i) ms x k (by (x.intf == i) refl)) (λ j. other (inr j))
  where
    by : (t : Bool) → (x.intf == i) ≡ t → t ≡ false
    by false e = refl
    by true e = absurd (other (inl (same-number x.intf i e)))

pub left-differ : (is : List ℕ) (ms : List Plugged) → EachTwo AreElsewhere ms
    → EachTwo AreElsewhere (unplugged_all is ms)
left-differ [] ms differ = differ
left-differ (i ∷ is) ms differ = left-differ is (unplugged i ms)
    (two-filter AreElsewhere (λ p. not (is_plugged_at i p)) ms differ)

-- ---- a module is pulled whole

module _ (ms : List Plugged) (differ : EachTwo AreElsewhere ms) (whole : AreWhole ms)
    (p : Plugged) (here : IsIn p ms) where
  -- its interfaces are those where it is plugged
  pub pulled-there : (j : ℕ) → list_any (λ i. i == j) (interfaces_of p) ≡ true
      → plugged_at j ms ≡ Some p.primary
  pulled-there j e = let r = in-span j p.primary p.count (any-in j (interfaces_of p) e) in
      whole-there ms differ whole p here j r.0 r.1

  pub pulled-only : (j : ℕ) → plugged_at j ms ≡ Some p.primary
      → list_any (λ i. i == j) (interfaces_of p) ≡ true
  pulled-only j e = let r = whole-only ms differ whole p here j e in
      in-any j (interfaces_of p) (span-in j p.primary p.count r.0 r.1)

  pub left-whole : AreWhole (unplugged_all (interfaces_of p) ms)
  left-whole x k =
      let o = in-left (interfaces_of p) ms x k in
      whole-left o.0 o.1
    where
      found : (y : Plugged) → IsIn y ms → plugged_at y.intf ms ≡ Some y.primary
      found y i = ap (option_map (λ (q : Plugged). q.primary)) (found-part ms y differ i)

      -- a part of the module of one that stays is of no module that goes
      stays : IsIn x ms → (IsIn x.intf (interfaces_of p) → ⊥) → (j : ℕ)
          → HasPart j x.primary x.count ms → IsIn j (interfaces_of p) → ⊥
      stays i other j h k = other (any-in x.intf (interfaces_of p) (pulled-only x.intf (found x i
          ∙ sym (ap Some h.primary)
          ∙ sym (found h.part h.there) ∙ ap (λ n. plugged_at n ms) h.intf
          ∙ pulled-there j (in-any j (interfaces_of p) k))))

      whole-left : IsIn x ms → (IsIn x.intf (interfaces_of p) → ⊥)
          → IsWhole (unplugged_all (interfaces_of p) ms) x
      whole-left i other = let w = whole x i in record {
        range = w.range;
        from = w.from;
        below = w.below;
        each = λ j from below. let h = w.each j from below in record {
          part = h.part;
          there = left-in (interfaces_of p) ms h.part h.there
              (λ k. stays i other j h (subst (λ n. IsIn n (interfaces_of p)) h.intf k));
          intf = h.intf;
          primary = h.primary;
          many = h.many;
        };
      }
