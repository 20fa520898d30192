-- While a removal of an interface waits toward the application processor, its power level is at
-- most 1: what holds of its enumeration at each point of a step.
use Rattle.std.proofs.Common.{Bool, List, None, Some, ap, arith, false, inl, inr, refl, subst, sym}
use Rattle.std.proofs.Common.{true, ℕ, ⊎_elim, [], ◌++◌, ◌∙◌, ◌∷◌, ◌≡◌, ◌≤◌, ◌⊎◌}
use Rattle.gb_base.specs.declared.end.Side.TheVariants as side
use Rattle.gb_base.specs.declared.interface.Interface.{Interface}
use Rattle.gb_base.specs.declared.steps.SequenceStep.{SequenceStep}
use Rattle.gb_base.specs.declared.steps.SequenceStep.TheVariants as steps
use Rattle.gb_machine.specs.Bus.{Bus, Request, request_of}
use Rattle.gb_machine.specs.{LawsBus.is_awaited, Lists.behind_first, Members.IsIn, Ports.level_of}
use Rattle.gb_machine.specs.{State.State, SvcQueues.is_reply_to, SvcQueues.svc_items, Turns.Asking}
use Rattle.gb_invariants.proofs.BusChanges.{KeepsRequests}
use Rattle.gb_laws.proofs.enumerations.AskedWaits.{AsksIn, WaitsFewer, is_power_step}
use Rattle.gb_laws.proofs.enumerations.Enums.{AreStarts, IsClean, enums, enums-more, enums_of}
use Rattle.gb_laws.proofs.enumerations.Enums.{removed_in}
use Rattle.gb_laws.proofs.points.PointParts.{Basis, Hand, Point}
use Rattle.gb_laws.proofs.marks.MarkFrame.{asked-toward}

-- ---- what is said

-- a removal of an interface waits
abbrev pub is_removed : ℕ → State → Bool
is_removed i s = removed_in i s.past.pulled (svc_items side.Ap s.bus)

-- the last of some requests has this number, and isn't unidirectional
abbrev pub IsLast : ℕ → List (ℕ × Request) → Type 0
IsLast n [] = Unit {0}
IsLast n (e ∷ []) = (e.0 ≡ n) × (e.1.oneway ≡ false)
IsLast n (e ∷ f ∷ es) = IsLast n (f ∷ es)

-- Request n of the application processor to the supervisory controller is awaited, and no reply to
-- it stands in front of a removal, or is being handled.
pub record IsUnanswered (i n : ℕ) (a : Point) : Type 0 where
  pub clean : IsClean n i a.state.past.pulled (svc_items side.Ap a.state.bus)
  pub hand : (h : Hand) → a.hand ≡ Some h → is_reply_to n h.item ≡ false
  pub request : Request
  pub made : request_of n a.state.bus ≡ Some request
  pub on : request.connection ≡ 1
  pub by_ap : request.side ≡ side.Ap
  pub awaited : is_awaited n a.state.bus ≡ true

-- a removal waits while the power is on
abbrev pub IsHot : ℕ → Point → Type 0
IsHot i a = (is_removed i a.state ≡ true) × (level_of i a.state.ports ≡ 1)

-- An enumeration waits for request n: that is the last that waits to be served, if any does, and it
-- isn't answered where a removal waits while the power is on.
pub record WaitsOn (i n : ℕ) (a : Point) : Type 0 where
  pub last : IsLast n (enums i a.state.bus)
  pub quiet : IsHot i a → IsUnanswered i n a

-- nothing that an enumeration asked waits, and no removal does while the power is on
abbrev pub IsCalm : ℕ → Point → Type 0
IsCalm i a = (enums i a.state.bus ≡ []) × (IsHot i a → ⊥)

-- Of an enumeration's requests that wait to be served each but the first is a start; while a
-- removal waits, power is at most 1, and where it is on, all are starts.
pub record IsLow (i : ℕ) (a : Point) : Type 0 where
  pub restarts : AreStarts (behind_first (enums i a.state.bus))
  pub low : is_removed i a.state ≡ true → level_of i a.state.ports ≤ 1
  pub starts : IsHot i a → AreStarts (enums i a.state.bus)

pub record IsQuiet (i : ℕ) (a : Point) : Type 0 where
  pub low : IsLow i a
  pub waits : (x : Interface) → IsIn x a.state.host.interfaces → x.intf ≡ i
      → (w : ℕ × SequenceStep) → x.awaits ≡ Some w → is_power_step w.1 ≡ true → WaitsOn i w.0 a
  pub due : a.asked ≡ None → (q : Asking) → AsksIn q a.pending → q.purpose.intf ≡ i
      → is_power_step q.purpose.step ≡ true → (q.purpose.step ≡ steps.EnableVsys) ⊎ IsCalm i a
  pub made : (q : Asking) (n : ℕ) → a.asked ≡ Some (q, n) → q.purpose.intf ≡ i
      → is_power_step q.purpose.step ≡ true → WaitsOn i n a

-- ---- lists

pub last-behind : (n : ℕ) (es : List (ℕ × Request)) → IsLast n es → IsLast n (behind_first es)
last-behind n [] h = tt
last-behind n (e ∷ []) h = tt
last-behind n (e ∷ f ∷ es) h = h

pub last-pushed : (n : ℕ) (r : Request) (es : List (ℕ × Request)) → r.oneway ≡ false
    → IsLast n (es ++ (n, r) ∷ [])
last-pushed n r [] twoway = (refl, twoway)
last-pushed n r (e ∷ []) twoway = (refl, twoway)
last-pushed n r (e ∷ f ∷ es) twoway = last-pushed n r (f ∷ es) twoway

-- the last is one of them
pub last-in : (n : ℕ) (e : ℕ × Request) (es : List (ℕ × Request)) → IsLast n (e ∷ es)
    → (r : Request) × IsIn (n, r) (e ∷ es) × (r.oneway ≡ false)
last-in n e [] h = (e.1, inl (ap (λ k. (k, e.1)) (sym h.0)), h.1)
last-in n e (f ∷ es) h = let r = last-in n f es h in (r.0, inr r.1, r.2)

pub starts-behind : (es : List (ℕ × Request)) → AreStarts es → AreStarts (behind_first es)
starts-behind [] h = tt
starts-behind (e ∷ es) h = h.1

pub starts-pushed : (es : List (ℕ × Request)) (e : ℕ × Request) → AreStarts (behind_first es)
    → e.1.kind ≡ 0x21 → AreStarts (behind_first (es ++ e ∷ []))
starts-pushed [] e h is = tt
starts-pushed (f ∷ es) e h is = more es h
  where
    more : (es : List (ℕ × Request)) → AreStarts es → AreStarts (es ++ e ∷ [])
    more [] h = (is, tt)
    more (f ∷ es) h = (h.0, more es h.1)

-- ---- what stays

-- What becomes of the power of an interface and of its removals.
pub data Power (i : ℕ) (a b : Point) : Type 0 where
  -- neither changes, but that a removal may be taken, and what isn't answered stays so
  stays : level_of i b.state.ports ≡ level_of i a.state.ports
      → (is_removed i b.state ≡ true → is_removed i a.state ≡ true)
      → ((n : ℕ) → is_removed i b.state ≡ true → IsUnanswered i n a → IsUnanswered i n b)
      → Power i a b
  -- there is none
  off : level_of i b.state.ports ≡ 0 → Power i a b
  -- no removal waits
  none : (is_removed i b.state ≡ true → ⊥) → Power i a b

-- What is said stays from one point to another.
pub record SameView (i : ℕ) (a b : Point) : Type 0 where
  pub enums : (enums i b.state.bus ≡ enums i a.state.bus)
      ⊎ (enums i b.state.bus ≡ behind_first (enums i a.state.bus))
  pub power : Power i a b

not-hot : (n : ℕ) → n ≡ 0 → n ≡ 1 → ⊥
not-hot n e f = omega (arith, e, f)

-- the same removals and power as before
hot-back : (i : ℕ) (a b : Point) → Power i a b → IsHot i b → IsHot i a
hot-back i a b (stays level removed kept) hot = (removed hot.0, sym level ∙ hot.1)
hot-back i a b (off zero) hot = absurd (not-hot (level_of i b.state.ports) zero hot.1)
hot-back i a b (none h) hot = absurd (h hot.0)

pub low-still : (i : ℕ) (a b : Point) → SameView i a b → IsLow i a → IsLow i b
low-still i a b v h = record {
  restarts = ⊎_elim (λ e. subst (λ es. AreStarts (behind_first es)) (sym e) h.restarts)
      (λ e. subst (λ es. AreStarts (behind_first es)) (sym e) (starts-behind _ h.restarts)) v.enums;
  low = λ r. by v.power r;
  starts = λ hot. let s = h.starts (hot-back i a b v.power hot) in
      ⊎_elim (λ e. subst AreStarts (sym e) s)
      (λ e. subst AreStarts (sym e) (starts-behind (enums i a.state.bus) s)) v.enums;
}
  where
    by : Power i a b → is_removed i b.state ≡ true → level_of i b.state.ports ≤ 1
    by (stays level removed kept) r = subst (λ n. n ≤ 1) (sym level) (h.low (removed r))
    by (off zero) r = omega (arith, zero)
    by (none h) r = absurd (h r)

pub waits-still : (i n : ℕ) (a b : Point) → SameView i a b → WaitsOn i n a → WaitsOn i n b
waits-still i n a b v h = record {
  last = ⊎_elim (λ e. subst (IsLast n) (sym e) h.last)
      (λ e. subst (IsLast n) (sym e) (last-behind n (enums i a.state.bus) h.last)) v.enums;
  quiet = λ hot. by v.power hot;
}
  where
    by : Power i a b → IsHot i b → IsUnanswered i n b
    by (stays level removed kept) hot =
        kept n hot.0 (h.quiet (removed hot.0, sym level ∙ hot.1))
    by (off zero) hot = absurd (not-hot (level_of i b.state.ports) zero hot.1)
    by (none h) hot = absurd (h hot.0)

pub calm-still : (i : ℕ) (a b : Point) → SameView i a b → IsCalm i a → IsCalm i b
calm-still i a b v h = (
  ⊎_elim (λ e. e ∙ h.0) (λ e. e ∙ ap behind_first h.0) v.enums,
  λ hot. h.1 (hot-back i a b v.power hot),
)

-- Where what is said stays, no interface waits for more, and nothing more is to be asked.
pub quiet-still : {i : ℕ} {a b : Point} → SameView i a b → WaitsFewer a.state.host b.state.host
    → b.asked ≡ a.asked → ((q : Asking) → AsksIn q b.pending → AsksIn q a.pending)
    → IsQuiet i a → IsQuiet i b
quiet-still {i} {a} {b} v fewer asked pending h = record {
  low = low-still i a b v h.low;
  waits = λ x j at w e s. let was = fewer x j w e in
      waits-still i w.0 a b v (h.waits was.was was.known (was.intf ∙ at) w (was.awaits ∙ e) s);
  due = λ e q j at s. ⊎_elim (λ k. inl k) (λ calm. inr (calm-still i a b v calm))
      (h.due (sym asked ∙ e) q (pending q j) at s);
  made = λ q n e at s. waits-still i n a b v (h.made q n (sym asked ∙ e) at s);
}

-- ---- where the queues of the supervisory controller's connection stay

pub record SameQueues (b after : Bus) : Type 0 where
  pub keeps : KeepsRequests b after
  pub far : svc_items side.Far after ≡ svc_items side.Far b
  pub ap : svc_items side.Ap after ≡ svc_items side.Ap b

pub enums-same : (i : ℕ) (a : Point) (after : Bus) → Basis a → KeepsRequests a.state.bus after
    → svc_items side.Far after ≡ svc_items side.Far a.state.bus
    → enums i after ≡ enums i a.state.bus
enums-same i a after basis keeps far =
    ap (enums_of i after) far
    ∙ enums-more i a.state.bus after (svc_items side.Far a.state.bus) keeps
    (asked-toward side.Far a basis)

-- where what waits toward the application processor stays, and the pulls that are remembered
pub removed-same : (i : ℕ) (a b : Point)
    → svc_items side.Ap b.state.bus ≡ svc_items side.Ap a.state.bus
    → b.state.past.pulled ≡ a.state.past.pulled → is_removed i b.state ≡ is_removed i a.state
removed-same i a b same pulled =
    ap (removed_in i b.state.past.pulled) same
    ∙ ap (λ ps. removed_in i ps (svc_items side.Ap a.state.bus)) pulled

pub clean-same : (n i : ℕ) (a b : Point)
    → svc_items side.Ap b.state.bus ≡ svc_items side.Ap a.state.bus
    → b.state.past.pulled ≡ a.state.past.pulled
    → IsClean n i a.state.past.pulled (svc_items side.Ap a.state.bus)
    → IsClean n i b.state.past.pulled (svc_items side.Ap b.state.bus)
clean-same n i a b same pulled h =
    subst (IsClean n i b.state.past.pulled) (sym same)
    (subst (λ ps. IsClean n i ps (svc_items side.Ap a.state.bus)) (sym pulled) h)

-- what isn't answered, where it is awaited still
pub unanswered-same : (i n : ℕ) (a b : Point) → KeepsRequests a.state.bus b.state.bus
    → svc_items side.Ap b.state.bus ≡ svc_items side.Ap a.state.bus
    → b.state.past.pulled ≡ a.state.past.pulled
    → ((h : Hand) → b.hand ≡ Some h → is_reply_to n h.item ≡ false)
    → is_awaited n b.state.bus ≡ true → IsUnanswered i n a → IsUnanswered i n b
unanswered-same i n a b keeps same pulled hand awaited u = record {
  clean = clean-same n i a b same pulled u.clean;
  hand = hand;
  request = u.request;
  made = keeps n u.request u.made;
  on = u.on;
  by_ap = u.by_ap;
  awaited = awaited;
}

-- The view stays where the queues and the power do.
pub view-same : {i : ℕ} {a b : Point} → Basis a → SameQueues a.state.bus b.state.bus
    → level_of i b.state.ports ≡ level_of i a.state.ports
    → b.state.past.pulled ≡ a.state.past.pulled
    → ((n : ℕ) → IsUnanswered i n a → (h : Hand) → b.hand ≡ Some h → is_reply_to n h.item ≡ false)
    → ((n : ℕ) → IsUnanswered i n a → is_awaited n b.state.bus ≡ true) → SameView i a b
view-same {i} {a} {b} basis q level pulled hand awaited = record {
  enums = inl (enums-same i a b.state.bus basis q.keeps q.far);
  power = stays level (λ r. sym (removed-same i a b q.ap pulled) ∙ r)
      (λ n r u. unanswered-same i n a b q.keeps q.ap pulled (hand n u) (awaited n u) u);
}
