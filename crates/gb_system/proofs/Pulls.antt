-- Modules are pulled as the machine does.
use Rattle.std.proofs.Common.{◌≡◌, ◌≤◌, ◌+◌, ℕ, Bool, true, false, not, Option, None, List, [], ◌∷◌}
use Rattle.std.proofs.Common.{◌++◌, length, drop, drop_of_length-le, refl, sym, ap, ◌∙◌, subst}
use Rattle.std.proofs.Common.{slice_index_or, arith, cond, is_some, map, ◌<◌, ◌-◌, ◌==◌, Some}
use Rattle.std.proofs.Common.{option_map}
use Rattle.gb_base.specs.declared.end.Side.TheVariants as side
use Rattle.gb_base.specs.declared.entry.Entry.{Entry}
use Rattle.gb_base.specs.declared.event.Event.TheVariants as event
use Rattle.gb_base.specs.declared.refusal.Refusal.{Refusal}
use Rattle.gb_base.specs.declared.refusal.Refusal.TheVariants as why
use Rattle.gb_formats.specs.SvcRecords.{SvcAsk}
use Rattle.gb_invariants.proofs.Awaiting.{same-some}
use Rattle.gb_invariants.proofs.Lists.{each-filter}
use Rattle.gb_machine.proofs.Opened.{machine_opened}
use Rattle.gb_machine.specs.Actions.{Action, change, each, nothing, when, ◌▸◌, given}
use Rattle.gb_machine.specs.Bus.{next_number, request_of}
use Rattle.gb_machine.specs.Lists.{first_met, span, without}
use Rattle.gb_machine.specs.Modules.{is_plugged, is_plugged_at, unplugged, interfaces_of, part_at}
use Rattle.gb_machine.specs.OwnAsking.{far_asks, svc_asks}
use Rattle.gb_machine.specs.Plugging.{recalled, tells_removed, wired_numbers, with_pulled}
use Rattle.gb_machine.specs.Plugging.{with_told, pulls_module, pulls_one}
use Rattle.gb_machine.specs.Ports.{unpowered}
use Rattle.gb_machine.specs.Refusals.{has_no_label, refusal}
use Rattle.gb_machine.specs.State.{Load, Plugged, State}
use Rattle.gb_machine.specs.Wires.{unwires, with_unwired}
use Rattle.gb_switch.specs.Stands as switch
use Rattle.gb_switch.specs.declared.ladder.Ladder.{Ladder}
use Rattle.gb_system.proofs.Doings.{does-by_state, does-change, does-then, does-given}
use Rattle.gb_system.proofs.Midways.{Midway, each-cons, each-nil, midway-as, midway-end}
use Rattle.gb_system.proofs.Midways.{drop-number, midway-first, midway-more}
use Rattle.gb_system.proofs.Plugged.{span-all, span-next, span-past}
use Rattle.gb_system.proofs.Standing.{relevelled, replugged, repast}
use Rattle.gb_laws.specs.Possible.{IsAskable}
use Rattle.gb_system.specs.Doing.{Does, IsDone, IsRefused}
use Rattle.gb_system.specs.Drafts.{own_ask}
use Rattle.gb_system.specs.Plugging.{span_of}
use Rattle.gb_system.specs.Stands.{IsShort, PartiesStand, PartsStand}
use Rattle.gb_system.specs.declared.modules.Span.{Span}
use Rattle.gb_system.specs.declared.parties.Parties.{Parties}

-- ---- actions for each of a list, midway

-- one more of them
pub midway-next : {A : Type 0} {x y : Parties} {whole : Action} {s : State} {a b c : List Entry}
    (f : A → Action) (xs : List A) (i : ℕ) (v : A) → drop i xs ≡ v ∷ drop (i + 1) xs
    → (m : Midway x whole (each (drop i xs) f) s a b) → Does y (f v) m.state b c
    → Midway y whole (each (drop (i + 1) xs) f) s a c
midway-next f xs i v next m d =
    midway-more (f v) (each (drop (i + 1) xs) f)
    (midway-as (f v ▸ each (drop (i + 1) xs) f)
    (ap (λ l. each l f) next ∙ each-cons v (drop (i + 1) xs) f) m) d

-- one more of these numbers
pub midway-number : {x y : Parties} {whole : Action} {s : State} {a b c : List Entry}
    (f : ℕ → Action) (ns : List ℕ) (i : ℕ) → i < length ns
    → (m : Midway x whole (each (drop i ns) f) s a b)
    → Does y (f (slice_index_or ns i 0)) m.state b c
    → Midway y whole (each (drop (i + 1) ns) f) s a c
midway-number f ns i within m d =
    midway-next f ns i (slice_index_or ns i 0) (drop-number ns i within) m d

-- all of them
pub midway-all : {A : Type 0} {x : Parties} {whole : Action} {s : State} {a b : List Entry}
    (f : A → Action) (xs : List A) (i : ℕ) → length xs ≤ i
    → Midway x whole (each (drop i xs) f) s a b → Does x whole s a b
midway-all f xs i past m =
    midway-end (midway-as nothing
    (ap (λ l. each l f) (drop_of_length-le xs past) ∙ each-nil f) m)

-- ---- refusals

-- why a pull is refused
abbrev pull_refusal : Bool → Bool → Option Refusal
pull_refusal there spent =
    first_met ((not there, why.NoInterface) ∷ (spent, why.NoLabel) ∷ [])

refusal-is : (s : State) (i : ℕ) → refusal s (event.Pull i)
    ≡ pull_refusal (is_plugged i s.modules) (has_no_label 1 side.Far s)
refusal-is s i = refl

refusal-by : (s : State) (i : ℕ) (there : Bool) → is_plugged i s.modules ≡ there
    → refusal s (event.Pull i) ≡ pull_refusal there (has_no_label 1 side.Far s)
refusal-by s i there is =
    refusal-is s i ∙ ap (λ b. pull_refusal b (has_no_label 1 side.Far s)) is

-- what the code found is a part that is plugged there
pub record IsPart (s : State) (i : ℕ) (m : Span) : Type 0 where
  pub part : Plugged
  pub is : part_at i s.modules ≡ Some part
  pub span_is : m ≡ span_of part

-- by its answer
pub part-is : {x : Parties} (s : State) (i : ℕ) (o : Option Span) (m : Span) → PartsStand [] x s
    → o ≡ option_map span_of (part_at i x.modules) → o ≡ Some m → IsPart s i m
part-is {x} s i o m st is some = by (part_at i s.modules) refl
    (sym some ∙ is
    ∙ ap (λ (ms : List Plugged). option_map span_of (part_at i ms)) (sym st.plugged.modules))
  where
    by : (q : Option Plugged) → part_at i s.modules ≡ q → Some m ≡ option_map span_of q
        → IsPart s i m
    by None e f = absurd cc
    by (Some p) e f = record { part = p; is = e; span_is = same-some m (span_of p) f }

plugged-part : {s : State} {i : ℕ} {m : Span} → IsPart s i m → is_plugged i s.modules ≡ true
plugged-part f = ap (λ q. is_some (option_map (λ (p : Plugged). p.body) q)) f.is

-- nothing is plugged there
pub pull-nothing : {x : Parties} (s : State) (i : ℕ) (o : Option Span) → PartiesStand x s
    → o ≡ option_map span_of (part_at i x.modules) → o ≡ None
    → IsRefused x s (event.Pull i) why.NoInterface
pull-nothing {x} s i o st is none = record {
  refused = refusal-by s i false (by (part_at i s.modules) refl (sym none ∙ is
      ∙ ap (λ (ms : List Plugged). option_map span_of (part_at i ms))
      (sym st.parts.plugged.modules)));
  stand = st.parts;
}
  where
    by : (q : Option Plugged) → part_at i s.modules ≡ q → None ≡ option_map span_of q
        → is_plugged i s.modules ≡ false
    by None e f = ap (λ q. is_some (option_map (λ (p : Plugged). p.body) q)) e
    by (Some p) e f = absurd cc

-- no identifier is left
pub pull-spent : {x : Parties} (s : State) (i : ℕ) (m : Span) → PartiesStand x s → IsPart s i m
    → has_no_label 1 side.Far s ≡ true → IsRefused x s (event.Pull i) why.NoLabel
pull-spent s i m st f spent = record {
  refused = refusal-by s i true (plugged-part f) ∙ ap (pull_refusal true) spent;
  stand = st.parts;
}

-- ---- one interface

-- the state once these connections are unwired
abbrev after_unwiring : List ℕ → State → State
after_unwiring numbers s = (each numbers unwires s).state

-- whether the supervisory controller has started is no matter of connections
unwiring-booted : (numbers : List ℕ) (s : State)
    → (after_unwiring numbers s).booted ≡ s.booted
unfolding machine_opened
unwiring-booted [] s = refl
unwiring-booted (n ∷ ns) s = unwiring-booted ns (with_unwired n s)

-- the parties stand for the state where nothing is plugged there
pulled-stand : (x : Parties) (t : State) (i : ℕ) (modules : List Plugged) (loads : List Load)
    (l : Ladder) → PartsStand [] x t → modules ≡ unplugged i x.modules
    → loads ≡ without (λ w. w.intf == i) x.loads → switch.Stands l (unpowered i t.ports)
    → PartsStand [] (record x { modules = modules; loads = loads; ladder = l }) (with_pulled i t)
pulled-stand x t i modules loads l st is left ports =
    repast (with_pulled i t).past
    (relevelled l (unpowered i t.ports)
    (replugged modules (unplugged i t.modules) loads (with_pulled i t).loads st (record {
      modules = ap (unplugged i) st.plugged.modules ∙ sym is;
      loads = ap (without (λ (w : Load). w.intf == i)) st.plugged.loads ∙ sym left;
      short = each-filter IsShort (λ p. not (is_plugged_at i p)) t.modules st.plugged.short;
    })) ports)

-- What is unwired are all connections of the interface.
pub pulled-one : (x : Parties) (s : State) (i : ℕ) (modules : List Plugged) (loads : List Load)
    (l : Ladder) (before told : List Entry)
    → Does x (each (wired_numbers i s.bus) unwires) s before told
    → modules ≡ unplugged i x.modules → loads ≡ without (λ w. w.intf == i) x.loads
    → switch.Stands l (unpowered i (after_unwiring (wired_numbers i s.bus) s).ports)
    → Does (record x { modules = modules; loads = loads; ladder = l }) (pulls_one i) s before told
unfolding machine_opened
pulled-one x s i modules loads l before told d is left ports =
    does-by_state (λ t. each (wired_numbers i t.bus) unwires ▸ change (with_pulled i))
    (does-then d (does-change (with_pulled i)
    (pulled-stand x (after_unwiring (wired_numbers i s.bus) s) i modules loads l d.stand is left
    ports)))

-- whether the supervisory controller has started is no matter of it
pulling-booted : (is : List ℕ) (s : State) → (each is pulls_one s).state.booted ≡ s.booted
unfolding machine_opened
pulling-booted [] s = refl
pulling-booted (i ∷ is) s =
    pulling-booted is (with_pulled i (after_unwiring (wired_numbers i s.bus) s))
    ∙ unwiring-booted (wired_numbers i s.bus) s

-- ---- what is told

-- which pulls are remembered is no matter of the parties
recalled-stand : {x : Parties} (n : ℕ) (all : List ℕ) (s : State) → PartsStand [] x s
    → PartsStand [] x (recalled n all s)
recalled-stand {x} n all s st = by (is_some (request_of n s.bus))
  where
    by : (t : Bool) → PartsStand [] x (cond t (with_told n all s) s)
    by true = repast (record s.past { pulled = s.past.pulled ++ map (λ i. (n, i)) all }) st
    by false = st

-- MODULE_REMOVED is what the supervisory controller asks
does-svc_removed : {x : Parties} {s : State} {a b : List Entry} (p : ℕ)
    → Does x (far_asks 1 (own_ask 0x20 (p ∷ []) false)) s a b
    → Does x (svc_asks (SvcAsk.ModuleRemoved p)) s a b
unfolding machine_opened
does-svc_removed p d = record { told_is = d.told_is; stand = d.stand }

-- and it is remembered
pub does-removed : {x : Parties} {s : State} {a b : List Entry} (p : ℕ) (all : List ℕ)
    → Does x (far_asks 1 (own_ask 0x20 (p ∷ []) false)) s a b → Does x (tells_removed p all) s a b
unfolding machine_opened
does-removed {x} {s} p all d =
    let e = does-svc_removed p d in
    does-by_state (λ t. svc_asks (SvcAsk.ModuleRemoved p)
    ▸ change (recalled (next_number t.bus) all))
    (does-then e (does-change (recalled (next_number s.bus) all)
    (recalled-stand (next_number s.bus) all (svc_asks (SvcAsk.ModuleRemoved p) s).state e.stand)))

pub removed-askable : (p : ℕ) → IsAskable 0x20 (p ∷ [])
removed-askable p = (omega arith, omega arith)

-- ---- the module

-- The interfaces of a module are pulled one after another; those from one on are left.
abbrev pub IsPulling : Parties → State → ℕ → ℕ → ℕ → List Entry → List Entry → Type 0
IsPulling x s primary count i before told =
    Midway x (each (span primary count) pulls_one)
    (each (span (primary + i) (count - i)) pulls_one) s before told

-- at first all are
pub pulling-first : {x : Parties} {s : State} {told : List Entry} (primary count : ℕ)
    → PartsStand [] x s → IsPulling x s primary count 0 told told
pulling-first primary count st =
    midway-as _ (ap (λ is. each is pulls_one) (sym (span-all primary count)))
    (midway-first (each (span primary count) pulls_one) st)

-- one more is pulled
pub pulling-next : {x y : Parties} {s : State} {before a b : List Entry} (primary count i : ℕ)
    → i < count → (m : IsPulling x s primary count i before a)
    → ((t : State) → PartsStand [] x t → Does y (pulls_one (primary + i)) t a b)
    → IsPulling y s primary count (i + 1) before b
pulling-next primary count i below m pulled =
    let rest = span (primary + (i + 1)) (count - (i + 1)) in
    midway-more (pulls_one (primary + i)) (each rest pulls_one)
    (midway-as (pulls_one (primary + i) ▸ each rest pulls_one)
    (ap (λ is. each is pulls_one) (span-next primary count i below)
    ∙ each-cons (primary + i) rest pulls_one) m) (pulled m.state m.stand)

-- all are
pulling-end : {x : Parties} {s : State} {before told : List Entry} (primary count i : ℕ)
    → count ≤ i → IsPulling x s primary count i before told
    → Does x (each (span primary count) pulls_one) s before told
pulling-end primary count i past m =
    midway-end (midway-as nothing
    (ap (λ is. each is pulls_one) (span-past primary count i past) ∙ each-nil pulls_one) m)

-- MODULE_REMOVED goes where the supervisory controller has started
pub pull-done : (x z : Parties) (s : State) (i : ℕ) (m : Span) (j : ℕ)
    (before told es : List Entry) → IsPart s i m → has_no_label 1 side.Far s ≡ false → m.count ≤ j
    → IsPulling x s m.primary m.count j before told
    → ((t : State) (all : List ℕ) → PartsStand [] x t
    → Does z (when t.booted (tells_removed m.primary all)) t told es)
    → IsDone z s (event.Pull i) before es
unfolding machine_opened
pull-done x z s i m j before told es f spent past pulling removed = record {
  allowed = refusal-by s i true (plugged-part f) ∙ ap (pull_refusal true) spent;
  done = does-by_state (λ t. given (part_at i t.modules) pulls_module)
      (does-given pulls_module f.part f.is (does-by_state (pulls_at f.part) (does-then pulled
      (subst (λ b. Does z (when b (tells_removed p.primary all)) mid told es)
      (pulling-booted all s)
      (subst (λ (k : Span). Does z (when mid.booted (tells_removed k.primary all)) mid told es)
      f.span_is (removed mid all pulled.stand))))));
}
  where
    p : Plugged
    p = f.part

    all : List ℕ
    all = interfaces_of p

    mid : State
    mid = (each all pulls_one s).state

    pulls_at : Plugged → State → Action
    pulls_at q t =
        each (interfaces_of q) pulls_one ▸ when t.booted (tells_removed q.primary (interfaces_of q))

    pulled : Does x (each all pulls_one) s before told
    pulled =
        subst (λ (k : Span). Does x (each (span k.primary k.count) pulls_one) s before told)
        f.span_is (pulling-end m.primary m.count j past pulling)
