-- The supervisory controller starts as the machine's does.
use Rattle.std.proofs.Common.{◌≡◌, ◌≤◌, ◌<◌, ◌+◌, ℕ, zero, suc, Bool, true, false, Option, Some}
use Rattle.std.proofs.Common.{None, List, [], ◌∷◌, length, slice_get, drop, add-one, refl, sym, ap}
use Rattle.std.proofs.Common.{◌∙◌, subst, arith, if◌then◌else◌, option_and_then, drop_of_length-le}
use Rattle.gb_base.specs.declared.entry.Entry.{Entry}
use Rattle.gb_base.specs.declared.event.Event.TheVariants as event
use Rattle.gb_base.specs.declared.refusal.Refusal.TheVariants as why
use Rattle.gb_base.specs.declared.served.OwnAsk.{OwnAsk}
use Rattle.gb_formats.specs.SvcRecords.{SvcAsk}
use Rattle.gb_invariants.proofs.Awaiting.{same-some}
use Rattle.gb_machine.proofs.Opened.{machine_opened}
use Rattle.gb_machine.proofs.Steps.{far_asks-beside}
use Rattle.gb_machine.specs.Actions.{Action, Told, change, each, ◌▸◌, nothing}
use Rattle.gb_machine.specs.Lists.{first_met}
use Rattle.gb_machine.specs.Modules.{is_primary}
use Rattle.gb_machine.specs.OwnAsking.{far_asks, svc_asks, svc_own}
use Rattle.gb_machine.specs.Plugging.{tells_inserted}
use Rattle.gb_machine.specs.State.{Plugged, State}
use Rattle.gb_system.proofs.Doings.{does-by_state, does-change, does-then}
use Rattle.gb_system.proofs.Midways.{Midway, each-cons, each-nil, midway-as, midway-end}
use Rattle.gb_system.proofs.Midways.{midway-first, midway-more}
use Rattle.gb_system.proofs.Standing.{rested}
use Rattle.gb_laws.specs.Possible.{IsAskable}
use Rattle.gb_system.specs.Doing.{Does, IsDone, IsRefused}
use Rattle.gb_system.specs.Drafts.{own_ask}
use Rattle.gb_system.specs.Plugging.{span_of, told_span}
use Rattle.gb_system.specs.Stands.{PartiesStand, PartsStand}
use Rattle.gb_system.specs.declared.modules.Span.{Span}
use Rattle.gb_system.specs.declared.parties.Parties.{Parties}
use Rattle.std.specs.List.{filter}

-- ---- modules are no matter of requests

far_asks-modules : (k : ℕ) (own : OwnAsk) (s : State)
    → (far_asks k own s).state.modules ≡ s.modules
far_asks-modules k own s =
    ap (λ (t : Told). t.state.modules) (far_asks-beside k own s.modules s.loads s.past s)

-- ---- the start

-- the supervisory controller has started
abbrev pub started : State → State
started s = record s { booted = true }

-- what it sends first
unfoldable pub greets : Action
greets = change started ▸ svc_asks (SvcAsk.ProtocolVersion 0 1) ▸ svc_asks (SvcAsk.Hello 1 1)

greets-modules : (s : State) → (greets s).state.modules ≡ s.modules
unfolding machine_opened greets
greets-modules s =
    far_asks-modules 1 (svc_own (SvcAsk.Hello 1 1))
    (far_asks 1 (svc_own (SvcAsk.ProtocolVersion 0 1)) (started s)).state
    ∙ far_asks-modules 1 (svc_own (SvcAsk.ProtocolVersion 0 1)) (started s)

-- a request of the supervisory controller, as the code makes it
abbrev pub Asks : Parties → Parties → ℕ → List ℕ → List Entry → List Entry → Type 0
Asks x y kind payload a b = (t : State) → PartsStand [] x t → IsAskable kind payload
    → Does y (far_asks 1 (own_ask kind payload false)) t a b

does-greets : (x y z : Parties) (s : State) {a b c : List Entry} → PartsStand [] x s
    → Asks (record x { booted = true }) y 0x01 (0 ∷ 1 ∷ []) a b
    → Asks y z 0x02 (1 ∷ 0 ∷ 1 ∷ []) b c
    → Does z greets s a c
unfolding machine_opened greets
does-greets x y z s st one two =
    let begun = rested true x.time x.holds true s.now s.holds st
    (record { booted = refl; time = st.rest.time; holds = st.rest.holds }) in
    let first = one (started s) begun (omega arith, omega arith) in
    let second = two _ first.stand (omega arith, omega arith) in
    does-then (does-then (does-change started begun) first) second

-- ---- what is plugged is told

-- MODULE_INSERTED of the module of which this is a part
abbrev pub tells : Plugged → Action
tells p = tells_inserted p.primary p.count

-- the parts at primary interfaces
abbrev pub primaries : List Plugged → List Plugged
primaries ms = filter is_primary ms

-- what a start does at a state
abbrev boots_at : State → Action
boots_at s = greets ▸ each (primaries s.modules) tells

-- Of so many parts that many were looked at, and their modules are told.
pub record IsBooting (x : Parties) (s : State) (i n : ℕ) (before told : List Entry) : Type 0 where
  pub midway : Midway x (boots_at s) (each (primaries (drop i s.modules)) tells) s before told
  pub modules : x.modules ≡ s.modules
  pub count : n ≡ length s.modules

-- at first none is
pub boot-first : (x y z : Parties) (s : State) (n : ℕ) (before b told : List Entry)
    → PartiesStand x s → Asks (record x { booted = true }) y 0x01 (0 ∷ 1 ∷ []) before b
    → Asks y z 0x02 (1 ∷ 0 ∷ 1 ∷ []) b told
    → n ≡ length z.modules → IsBooting z s 0 n before told
boot-first x y z s n before b told st one two count =
    let d = does-greets x y z s st.parts one two in
    let modules = sym d.stand.plugged.modules ∙ greets-modules s in record {
      midway =
          midway-more greets (each (primaries s.modules) tells)
          (midway-first (boots_at s) st.parts) d;
      modules = modules;
      count = count ∙ ap length modules;
    }

-- the primary ones of parts with this one in front
abbrev primaries_by : Bool → Plugged → List Plugged → List Plugged
primaries_by t p ps = if t then p ∷ primaries ps else primaries ps

-- the part at a place, and what is told of it
record IsNext (ms : List Plugged) (i : ℕ) (o : Option Span) : Type 0 where
  part : Plugged
  is : o ≡ told_span part
  next : drop i ms ≡ part ∷ drop (suc i) ms

is-next : (ms : List Plugged) (i : ℕ) (o : Option Span)
    → o ≡ option_and_then told_span (slice_get ms i) → i < length ms → IsNext ms i o
is-next [] i o is within = absurd (omega (arith, within))
is-next (p ∷ ps) zero o is within = record { part = p; is = is; next = refl }
is-next (p ∷ ps) (suc i) o is within =
    let r = is-next ps i o is (omega (arith, within)) in
    record { part = r.part; is = r.is; next = r.next }

-- something is told of the part at a primary interface alone
told-primary : (p : Plugged) (m : Span) (t : Bool) → is_primary p ≡ t
    → Some m ≡ (if t then Some (span_of p) else None) → (is_primary p ≡ true) × (m ≡ span_of p)
told-primary p m true is f = (is, same-some m (span_of p) f)
told-primary p m false is f = absurd cc

untold-other : (p : Plugged) (o : Option Span) (t : Bool) → is_primary p ≡ t
    → o ≡ (if t then Some (span_of p) else None) → ((m : Span) → o ≡ Some m → ⊥)
    → is_primary p ≡ false
untold-other p o true is f none = absurd (none (span_of p) f)
untold-other p o false is f none = is

module _ (x : Parties) (s : State) (i n : ℕ) {before told : List Entry} (o : Option Span)
    (b : IsBooting x s i n before told) (within : i < n)
    (is : o ≡ option_and_then told_span (slice_get x.modules i)) where
  next_part : IsNext s.modules i o
  next_part =
      is-next s.modules i o
      (is ∙ ap (λ ms. option_and_then told_span (slice_get ms i)) b.modules)
      (subst (λ k. i < k) b.count within)

  -- whether it is told decides what is left
  abbrev left-by : (t : Bool) → is_primary next_part.part ≡ t
      → Midway x (boots_at s)
      (each (primaries_by t next_part.part (drop (i + 1) s.modules)) tells) s before told
  left-by t first =
      midway-as (each (primaries_by t next_part.part (drop (i + 1) s.modules)) tells)
      (ap (λ l. each l tells) (ap primaries next_part.next
      ∙ ap (λ u. primaries_by u next_part.part (drop (suc i) s.modules)) first
      ∙ ap (λ k. primaries_by t next_part.part (drop k s.modules)) (sym (add-one i)))) b.midway

  -- the module of one more is told
  pub boot-more : (y : Parties) (m : Span) (more : List Entry) → o ≡ Some m
      → ((t : State) → PartsStand [] x t → Does y (tells_inserted m.primary m.count) t told more)
      → IsBooting y s (i + 1) n before more
  unfolding machine_opened
  boot-more y m more some told_so =
      let p = next_part.part in
      let first = told-primary p m (is_primary p) refl (sym some ∙ next_part.is) in
      let state = b.midway.state in
      let rest = primaries (drop (i + 1) s.modules) in
      let d = subst (λ (k : Span). Does y (tells_inserted k.primary k.count) state told more)
      first.1 (told_so state b.midway.stand) in record {
        midway = midway-more (tells p) (each rest tells)
            (midway-as (tells p ▸ each rest tells) (each-cons p rest tells)
            (left-by true first.0)) d;
        modules = sym d.stand.plugged.modules
            ∙ far_asks-modules 1 (svc_own (SvcAsk.ModuleInserted p.primary p.count 0)) state
            ∙ b.midway.stand.plugged.modules ∙ b.modules;
        count = b.count;
      }

  -- one that isn't at its primary interface is passed over
  pub boot-past : ((m : Span) → o ≡ Some m → ⊥) → IsBooting x s (i + 1) n before told
  boot-past none =
      let p = next_part.part in record {
        midway = left-by false (untold-other p o (is_primary p) refl next_part.is none);
        modules = b.modules;
        count = b.count;
      }

-- ---- the event

-- it has started already
pub boot-again : (x : Parties) (s : State) → PartiesStand x s → x.booted ≡ true
    → IsRefused x s event.Boot why.Occupied
boot-again x s st booted = record {
  refused = ap (λ b. first_met ((b, why.Occupied) ∷ [])) (st.parts.rest.booted ∙ booted);
  stand = st.parts;
}

-- all that is plugged is told
pub boot-done : (x y : Parties) (s : State) (i n : ℕ) {before told : List Entry}
    → PartiesStand x s → x.booted ≡ false → IsBooting y s i n before told → n ≤ i
    → IsDone y s event.Boot before told
unfolding machine_opened greets
boot-done x y s i n st booted m past = record {
  allowed = ap (λ b. first_met ((b, why.Occupied) ∷ [])) (st.parts.rest.booted ∙ booted);
  done =
      does-by_state boots_at (midway-end (midway-as nothing
      (ap (λ ms. each (primaries ms) tells)
      (drop_of_length-le s.modules (subst (λ k. k ≤ i) m.count past)) ∙ each-nil tells) m.midway));
}
