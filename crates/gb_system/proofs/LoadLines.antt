-- When a load is refused, as the parties find it out.
use Rattle.std.proofs.Common.{◌≡◌, ℕ, Bool, true, false, not, ◌||◌, Option, Some, None, is_none}
use Rattle.std.proofs.Common.{option_map, Result, Ok, Err, List, [], ◌∷◌, refl, sym, ap, ◌∙◌}
use Rattle.std.specs.Prelude.{option_and_then}
use Rattle.gb_base.specs.declared.end.Side.TheVariants as side
use Rattle.gb_base.specs.declared.refusal.Refusal.{Refusal}
use Rattle.gb_base.specs.declared.refusal.Refusal.TheVariants as why
use Rattle.gb_bus.specs.Wiring.{number_of}
use Rattle.gb_formats.specs.Loader.{Loader, is_running}
use Rattle.gb_formats.specs.Module.{CportState, Module, Off, On, Quiet, cport_state, is_on}
use Rattle.gb_formats.specs.ModuleLoads.{loader_at}
use Rattle.gb_machine.specs.Bus.{Place}
use Rattle.gb_machine.specs.Labels.{next_label}
use Rattle.gb_machine.specs.Lists.{Condition, first_met, holds_of}
use Rattle.gb_machine.specs.Modules.{module_at}
use Rattle.gb_machine.specs.Refusals.{has_no_label, load_conditions, module_place}
use Rattle.gb_machine.specs.State.{State}
use Rattle.gb_module.specs.Loading.{busy_refusal, loader_refusal, refusal_in}
use Rattle.gb_system.proofs.HeldAsks.{is-at}
use Rattle.gb_system.specs.Loading.{LoadsOver, load_way, module_refusal, unwired_why, way_at}
use Rattle.gb_system.specs.Loading.{way_by}
use Rattle.gb_system.specs.Stands.{PartsStand}
use Rattle.gb_system.specs.declared.parties.Parties.{Parties}

-- no identifier is left at a place
abbrev spent_at : State → Option Place → Bool
spent_at s place = holds_of (λ p. has_no_label p.connection.number side.Far s) place

-- the conditions where a module is plugged, by the state of its CPort and its loader
abbrev plugged_conditions : CportState → Option Loader → Bool → Bool → List Condition
plugged_conditions state loader unwired spent =
    (is_none loader, why.NoCport)
    ∷ (not (is_on state) || unwired, why.NoConnection)
    ∷ (holds_of is_running loader, why.Occupied)
    ∷ (spent, why.NoLabel)
    ∷ []

-- those of all loads
abbrev conditions_by : Option Module → ℕ → Bool → Bool → List Condition
conditions_by plugged c unwired spent =
    let loader = option_and_then (λ m. loader_at m c) plugged in
    (is_none plugged, why.NoInterface)
    ∷ (is_none loader, why.NoCport)
    ∷ (not (holds_of (λ m. is_on (cport_state m c)) plugged) || unwired, why.NoConnection)
    ∷ (holds_of is_running loader, why.Occupied)
    ∷ (spent, why.NoLabel)
    ∷ []

conditions-are : (s : State) (i c : ℕ) → load_conditions s i c
    ≡ conditions_by (module_at i s.modules) c (is_none (module_place i c s))
    (spent_at s (module_place i c s))
conditions-are s i c = refl

-- what the module decides, and then whether an identifier is left
abbrev behind_module : Option Refusal → Bool → Option Refusal
behind_module (Some why) spent = Some why
behind_module None true = Some why.NoLabel
behind_module None false = None

-- where the CPort is wired
busy-first : (l : Loader) (spent : Bool) (running : Bool) → is_running l ≡ running
    → first_met ((is_running l, why.Occupied) ∷ (spent, why.NoLabel) ∷ [])
    ≡ behind_module (busy_refusal l) spent
busy-first l true true e = rw e refl
busy-first l false true e = rw e refl
busy-first l true false e = rw e refl
busy-first l false false e = rw e refl

wired-port : (state : CportState) (o : Option Loader) (spent : Bool)
    → first_met (plugged_conditions state o false spent)
    ≡ behind_module (loader_refusal state o) spent
wired-port Off None spent = refl
wired-port On None spent = refl
wired-port Quiet None spent = refl
wired-port Off (Some l) spent = refl
wired-port Quiet (Some l) spent = refl
wired-port On (Some l) spent = busy-first l spent (is_running l) refl

wired-first : (o : Option Module) (c : ℕ) (spent : Bool)
    → first_met (conditions_by o c false spent) ≡ behind_module (module_refusal o c) spent
wired-first None c spent = refl
wired-first (Some m) c spent = wired-port (cport_state m c) (loader_at m c) spent

-- where it isn't
unwired-busy : (l : Loader) (running : Bool) → is_running l ≡ running
    → why.NoConnection ≡ unwired_why (busy_refusal l)
unwired-busy l true e = rw e refl
unwired-busy l false e = rw e refl

unwired-port : (state : CportState) (o : Option Loader) (spent : Bool)
    → first_met (plugged_conditions state o true spent)
    ≡ Some (unwired_why (loader_refusal state o))
unwired-port Off None spent = refl
unwired-port On None spent = refl
unwired-port Quiet None spent = refl
unwired-port Off (Some l) spent = refl
unwired-port Quiet (Some l) spent = refl
unwired-port On (Some l) spent = ap Some (unwired-busy l (is_running l) refl)

unwired-first : (o : Option Module) (c : ℕ) (spent : Bool)
    → first_met (conditions_by o c true spent) ≡ Some (unwired_why (module_refusal o c))
unwired-first None c spent = refl
unwired-first (Some m) c spent = unwired-port (cport_state m c) (loader_at m c) spent

-- ---- a load

-- the conditions by the place
by-place : (s : State) (i c : ℕ) (o : Option Place) → module_place i c s ≡ o
    → first_met (load_conditions s i c)
    ≡ first_met (conditions_by (module_at i s.modules) c (is_none o) (spent_at s o))
by-place s i c o is =
    ap (λ p. first_met (conditions_by (module_at i s.modules) c (is_none p) (spent_at s p))) is

-- the CPort isn't wired
pub load-unwired : (s : State) (i c : ℕ) → module_place i c s ≡ None
    → first_met (load_conditions s i c)
    ≡ Some (unwired_why (module_refusal (module_at i s.modules) c))
load-unwired s i c none =
    by-place s i c None none ∙ unwired-first (module_at i s.modules) c false

-- it is
pub load-wired : (s : State) (i c : ℕ) (p : Place) (refused : Option Refusal) (spent : Bool)
    → module_place i c s ≡ Some p → module_refusal (module_at i s.modules) c ≡ refused
    → has_no_label p.connection.number side.Far s ≡ spent
    → first_met (load_conditions s i c) ≡ behind_module refused spent
load-wired s i c p refused spent some is left =
    by-place s i c (Some p) some
    ∙ wired-first (module_at i s.modules) c (has_no_label p.connection.number side.Far s)
    ∙ ap (λ w. behind_module w (has_no_label p.connection.number side.Far s)) is
    ∙ ap (behind_module refused) left

-- ---- as the parties answer

-- the CPort isn't wired
pub line-unwired : {x : Parties} {s : State} (i c : ℕ) (may : Result Unit Refusal) (o : Option ℕ)
    (refused : Refusal) → PartsStand [] x s
    → module_refusal (module_at i x.modules) c ≡ refusal_in may
    → o ≡ option_map number_of (module_place i c s) → o ≡ None
    → refused ≡ unwired_why (refusal_in may) → LoadsOver s i c (Err refused)
line-unwired {x} {s} i c may o refused st decides named none is =
    load-unwired s i c (none-placed (module_place i c s) (sym none ∙ named))
    ∙ ap (λ ms. Some (unwired_why (module_refusal (module_at i ms) c))) st.plugged.modules
    ∙ ap (λ r. Some (unwired_why r)) decides ∙ ap Some (sym is)
  where
    none-placed : (p : Option Place) → None ≡ option_map number_of p → p ≡ None
    none-placed None e = refl
    none-placed (Some p) e = absurd cc

-- it is wired: what decides then
line-by : {x : Parties} {s : State} (i c k : ℕ) (may : Result Unit Refusal) (o : Option ℕ)
    (spent : Bool) → PartsStand [] x s
    → module_refusal (module_at i x.modules) c ≡ refusal_in may
    → o ≡ option_map number_of (module_place i c s) → o ≡ Some k
    → has_no_label k side.Far s ≡ spent
    → first_met (load_conditions s i c) ≡ behind_module (refusal_in may) spent
line-by {x} {s} i c k may o spent st decides named some left =
    let at = is-at s i c k (sym named ∙ some) in
    load-wired s i c at.place (refusal_in may) spent at.named
    (ap (λ ms. module_refusal (module_at i ms) c) st.plugged.modules ∙ decides)
    (ap (λ j. has_no_label j side.Far s) at.number ∙ left)

-- the module decides
pub line-refused : {x : Parties} {s : State} (i c k : ℕ) (may : Result Unit Refusal)
    (o : Option ℕ) (refused : Refusal) → PartsStand [] x s
    → module_refusal (module_at i x.modules) c ≡ refusal_in may
    → o ≡ option_map number_of (module_place i c s) → o ≡ Some k
    → may ≡ Err refused → LoadsOver s i c (Err refused)
line-refused {x} {s} i c k may o refused st decides named some is =
    line-by i c k may o (has_no_label k side.Far s) st decides named some refl
    ∙ ap (λ r. behind_module (refusal_in r) (has_no_label k side.Far s)) is

-- no identifier is left
pub line-spent : {x : Parties} {s : State} (i c k : ℕ) (may : Result Unit Refusal) (o : Option ℕ)
    (done : Unit) → PartsStand [] x s
    → module_refusal (module_at i x.modules) c ≡ refusal_in may
    → o ≡ option_map number_of (module_place i c s) → o ≡ Some k → may ≡ Ok done
    → has_no_label k side.Far s ≡ true → LoadsOver s i c (Err why.NoLabel)
line-spent {x} {s} i c k may o done st decides named some is left =
    line-by i c k may o true st decides named some left
    ∙ ap (λ r. behind_module (refusal_in r) true) is

-- one is
pub line-free : {x : Parties} {s : State} (i c k : ℕ) (may : Result Unit Refusal) (o : Option ℕ)
    (done : Unit) → PartsStand [] x s
    → module_refusal (module_at i x.modules) c ≡ refusal_in may
    → o ≡ option_map number_of (module_place i c s) → o ≡ Some k → may ≡ Ok done
    → has_no_label k side.Far s ≡ false → LoadsOver s i c (Ok k)
line-free {x} {s} i c k may o done st decides named some is left = (
  line-by i c k may o false st decides named some left
      ∙ ap (λ r. behind_module (refusal_in r) false) is,
  sym named ∙ some,
)

-- ---- the way of a request

-- the CPort isn't wired
pub way-unwired : (s : State) (i c : ℕ) (o : Option ℕ)
    → o ≡ option_map number_of (module_place i c s) → o ≡ None → None ≡ load_way i c s
way-unwired s i c o named none = by (module_place i c s) refl (sym none ∙ named)
  where
    by : (p : Option Place) → module_place i c s ≡ p → None ≡ option_map number_of p
        → None ≡ load_way i c s
    by None e h = ap (λ q. way_at q s.bus) (sym e)
    by (Some p) e h = absurd cc

-- it is, and an identifier is left or isn't
abbrev way_left : Bool → ℕ → Option ℕ
way_left true k = None
way_left false k = Some k

way-is : (s : State) (i c k : ℕ) (o : Option ℕ) (spent : Bool)
    → o ≡ option_map number_of (module_place i c s) → o ≡ Some k
    → spent ≡ is_none (next_label k side.Far s.bus) → way_left spent k ≡ load_way i c s
way-is s i c k o spent named some left =
    let at = is-at s i c k (sym named ∙ some) in
    ap (λ t. way_left t k) left
    ∙ labelled (next_label k side.Far s.bus)
    ∙ ap (λ j. way_by (next_label j side.Far s.bus) j) (sym at.number)
    ∙ ap (λ q. way_at q s.bus) (sym at.named)
  where
    labelled : (l : Option ℕ) → way_left (is_none l) k ≡ way_by l k
    labelled None = refl
    labelled (Some label) = refl

pub way-spent : (s : State) (i c k : ℕ) (o : Option ℕ) (spent : Bool)
    → o ≡ option_map number_of (module_place i c s) → o ≡ Some k
    → spent ≡ is_none (next_label k side.Far s.bus) → spent ≡ true → None ≡ load_way i c s
way-spent s i c k o spent named some left is =
    ap (λ t. way_left t k) (sym is) ∙ way-is s i c k o spent named some left

pub way-free : (s : State) (i c k : ℕ) (o : Option ℕ) (spent : Bool)
    → o ≡ option_map number_of (module_place i c s) → o ≡ Some k
    → spent ≡ is_none (next_label k side.Far s.bus) → spent ≡ false → Some k ≡ load_way i c s
way-free s i c k o spent named some left is =
    ap (λ t. way_left t k) (sym is) ∙ way-is s i c k o spent named some left
