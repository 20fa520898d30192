-- A request is served at a module as the machine does.
use Rattle.std.proofs.Common.{◌≡◌, ◌≤◌, ℕ, Bool, true, false, cond, Option, Some, None, List, []}
use Rattle.std.proofs.Common.{◌∷◌, length, option_map, refl, sym, ap, ◌∙◌, subst, arith}
use Rattle.std.specs.Prelude.{find, Ok}
use Rattle.gb_base.specs.declared.end.End.TheVariants as end
use Rattle.gb_base.specs.declared.end.Side.TheVariants as side
use Rattle.gb_base.specs.declared.entry.Entry.{Entry}
use Rattle.gb_base.specs.declared.served.OwnAsk.{OwnAsk}
use Rattle.gb_base.specs.declared.served.Served.{Served}
use Rattle.gb_bus.specs.Delivering.{MayReply}
use Rattle.gb_bus.specs.declared.answers.Asked.{Asked}
use Rattle.gb_formats.specs.Module.{Module}
use Rattle.gb_formats.specs.ModuleSteps.{module_serve}
use Rattle.gb_formats.specs.Results.{Step, most_payload, nonexistent}
use Rattle.gb_machine.proofs.Opened.{machine_opened}
use Rattle.gb_machine.specs.Actions.{◌▸◌}
use Rattle.gb_machine.specs.Bus.{Connection, Item}
use Rattle.gb_machine.specs.Incoming.{Incoming}
use Rattle.gb_machine.specs.Members.{Each}
use Rattle.gb_machine.specs.Modules.{is_plugged_at, module_at, with_module}
use Rattle.gb_machine.specs.OwnAsking.{far_asks_all}
use Rattle.gb_machine.specs.Responding.{far_response, module_response, module_stepped, replies}
use Rattle.gb_machine.specs.Responding.{responds, responds_plainly, serves}
use Rattle.gb_machine.specs.Serving.{answer, plainly}
use Rattle.gb_machine.specs.State.{Plugged, State}
use Rattle.gb_system.proofs.Doings.{does-as, does-then}
use Rattle.gb_system.proofs.Fits.{module_fits}
use Rattle.gb_system.proofs.Replies.{responds-twoway}
use Rattle.gb_system.proofs.Standing.{modules-stay, stands-with}
use Rattle.gb_system.specs.Acting.{AreAskable}
use Rattle.gb_system.specs.Doing.{Does}
use Rattle.gb_system.specs.Drafts.{IsUpon}
use Rattle.gb_system.specs.Plugging.{ServesThere}
use Rattle.gb_system.specs.Serving.{only}
use Rattle.gb_system.specs.Stands.{IsShort, PartsStand}
use Rattle.gb_system.specs.declared.parties.Parties.{Parties}

-- ---- manifests that fit

pub short-at : (i : ℕ) (ps : List Plugged) (m : Module) → Each IsShort ps → module_at i ps ≡ Some m
    → length m.manifest ≤ most_payload
short-at i [] m h is = absurd cc
short-at i (p ∷ ps) m h is = by (is_plugged_at i p) is (short-at i ps m h.1)
  where
    by : (b : Bool)
        → option_map (λ (q : Plugged). q.body) (cond b (Some p) (find (is_plugged_at i) ps))
        ≡ Some m
        → (module_at i ps ≡ Some m → length m.manifest ≤ most_payload)
        → length m.manifest ≤ most_payload
    by true same later =
        let e : p.body ≡ m = cc in
        subst (λ (n : Module). length n.manifest ≤ most_payload) e h.0
    by false same later = later same

pub short-with : (i : ℕ) (m : Module) (ps : List Plugged) → length m.manifest ≤ most_payload
    → Each IsShort ps → Each IsShort (with_module i m ps)
short-with i m [] short h = h
short-with i m (p ∷ ps) short h = by (is_plugged_at i p) (short-with i m ps short h.1)
  where
    by : (b : Bool) → Each IsShort (with_module i m ps)
        → Each IsShort (cond b (record p { body = m } ∷ ps) (p ∷ with_module i m ps))
    by true later = (short, h.1)
    by false later = (h.0, later)

-- ---- the machine

-- the state with other modules
abbrev pub with_modules : List Plugged → State → State
with_modules ms s = record s { modules = ms }

serves-one : (s : State) (c : Connection) (i cport : ℕ) (q : Incoming) (m : Module)
    → c.peer ≡ end.Module i cport → q.oneway ≡ false → module_at i s.modules ≡ Some m
    → (replies side.Far c q
    (answer (module_serve m cport q.kind q.payload).served.result
    (module_serve m cport q.kind q.payload).served.payload)
    ▸ far_asks_all c.number (module_serve m cport q.kind q.payload).served.asks)
    (with_modules (with_module i (module_serve m cport q.kind q.payload).after s.modules) s)
    ≡ serves side.Far c q s
unfolding machine_opened
serves-one s c i cport q m peer twoway there =
    let stepped = module_stepped c.number i (module_serve m cport q.kind q.payload) in
    sym (ap (λ p. responds side.Far c q (far_response p c.number q s) s) peer
    ∙ ap (λ o. responds side.Far c q (module_response c.number i cport q o) s) there
    ∙ responds-twoway side.Far c q stepped s twoway)

serves-none : (s : State) (c : Connection) (i cport : ℕ) (q : Incoming)
    → c.peer ≡ end.Module i cport → q.oneway ≡ false → module_at i s.modules ≡ None
    → replies side.Far c q (plainly nonexistent) s ≡ serves side.Far c q s
unfolding machine_opened
serves-none s c i cport q peer twoway there =
    sym (ap (λ p. responds side.Far c q (far_response p c.number q s) s) peer
    ∙ ap (λ o. responds side.Far c q (module_response c.number i cport q o) s) there
    ∙ responds-twoway side.Far c q (responds_plainly nonexistent) s twoway)

-- ---- as the parties do it

-- the clause of an answer, at this result and payload
abbrev pub AnswersThere : ℕ → Asked → ℕ → List ℕ → Parties → Parties → List Entry → List Entry
    → Type 0
AnswersThere k asked code payload x y before told =
    (s : State) (c : Connection) (item : Item)
    → PartsStand (only k side.Far item) x s → IsUpon k s.bus c
    → (may : MayReply asked s.bus item) → length payload ≤ most_payload
    → Does y (replies side.Far c may.request (answer code payload)) s before told

-- the clause of requests of its own
abbrev pub AsksThere : ℕ → List OwnAsk → Parties → Parties → List Entry → List Entry → Type 0
AsksThere k asks x y before told =
    (s : State) → PartsStand [] x s → AreAskable asks
    → Does y (far_asks_all k asks) s before told

-- the clause of serving at a module
abbrev pub ServesAtModule : ℕ → ℕ → ℕ → Asked → List ℕ → Parties → Parties → List Entry
    → List Entry → Type 0
ServesAtModule k i cport asked payload x y before told =
    (s : State) (c : Connection) (item : Item)
    → PartsStand (only k side.Far item) x s → IsUpon k s.bus c
    → c.peer ≡ end.Module i cport → (may : MayReply asked s.bus item)
    → payload ≡ may.request.payload → length may.request.payload ≤ most_payload
    → Does y (serves side.Far c may.request) s before told

-- where a module is plugged
pub serves-some : (k i cport : ℕ) (asked : Asked) (payload : List ℕ) (x y z : Parties)
    (mods : List Plugged) (served : Served) (a b d : List Entry)
    → ServesThere i cport asked.kind payload (module_at i x.modules) x.modules mods
    (Ok (Some served))
    → AnswersThere k asked served.result served.payload (record x { modules = mods }) y a b
    → AsksThere k served.asks y z b d
    → ServesAtModule k i cport asked payload x z a d
serves-some k i cport asked payload x y z mods served a b d steps answers asks s c item stand live
    peer may is short = by (module_at i x.modules) refl steps
  where
    q : Incoming
    q = may.request

    number : c.number ≡ k
    number = live.number

    by : (o : Option Module) → module_at i x.modules ≡ o
        → ServesThere i cport asked.kind payload o x.modules mods (Ok (Some served))
        → Does z (serves side.Far c q) s a d
    by None there t = absurd (let e : Some served ≡ None = t.0 in cc)
    by (Some m) there t =
        let step : Step Module = module_serve m cport q.kind q.payload in
        let same : module_serve m cport asked.kind payload ≡ step =
        ap (λ kind. module_serve m cport kind payload) may.names.kind
        ∙ ap (module_serve m cport q.kind) is in
        let found : module_at i s.modules ≡ Some m =
        ap (module_at i) stand.plugged.modules ∙ there in
        let fits = module_fits m cport q.kind q.payload short
        (short-at i s.modules m stand.plugged.short found) in
        let served_is : served ≡ step.served =
        (let e : Some served ≡ Some (module_serve m cport asked.kind payload).served = t.0 in
        let f : served ≡ (module_serve m cport asked.kind payload).served = cc in f)
        ∙ ap (λ (p : Step Module). p.served) same in
        let ms = with_module i step.after s.modules in
        let ms_is : ms ≡ mods =
        ap (with_module i step.after) stand.plugged.modules
        ∙ sym (ap (λ (p : Step Module). with_module i p.after x.modules) same) ∙ sym t.1 in
        let long : length step.after.manifest ≤ most_payload =
        subst (λ (bytes : List ℕ). length bytes ≤ most_payload) (sym fits.manifest)
        (short-at i s.modules m stand.plugged.short found) in
        let t1 = with_modules ms s in
        let stand1 = stands-with ms mods ms_is
        (short-with i step.after s.modules long stand.plugged.short) stand in
        let fit = subst (λ (v : Served). length v.payload ≤ most_payload) (sym served_is)
        fits.served.payload in
        let askable = subst (λ (v : Served). AreAskable v.asks) (sym served_is)
        fits.served.asks in
        let first = answers t1 c item stand1 live may fit in
        let second = asks _ first.stand askable in
        does-as
        (ap (λ (v : Served). (replies side.Far c q (answer v.result v.payload)
        ▸ far_asks_all k v.asks) t1) served_is
        ∙ ap (λ j. (replies side.Far c q
        (answer step.served.result step.served.payload)
        ▸ far_asks_all j step.served.asks) t1) (sym number)
        ∙ serves-one s c i cport q m peer may.twoway found)
        (does-then first second)

-- where none is plugged
pub serves-nowhere : (k i cport : ℕ) (asked : Asked) (payload : List ℕ) (x z : Parties)
    (mods : List Plugged) (a d : List Entry)
    → ServesThere i cport asked.kind payload (module_at i x.modules) x.modules mods (Ok None)
    → AnswersThere k asked nonexistent [] (record x { modules = mods }) z a d
    → ServesAtModule k i cport asked payload x z a d
serves-nowhere k i cport asked payload x z mods a d steps answers s c item stand live peer may is
    short =
    by (module_at i x.modules) refl steps
  where
    q : Incoming
    q = may.request

    by : (o : Option Module) → module_at i x.modules ≡ o
        → ServesThere i cport asked.kind payload o x.modules mods (Ok None)
        → Does z (serves side.Far c q) s a d
    by (Some m) there t =
        absurd (let e : None ≡ Some (module_serve m cport asked.kind payload).served = t.0 in cc)
    by None there t =
        let found : module_at i s.modules ≡ None = ap (module_at i) stand.plugged.modules ∙ there in
        let stand1 = modules-stay mods t.1 stand in
        does-as (serves-none s c i cport q peer may.twoway found)
        (answers s c item stand1 live may (omega arith))
