-- The request of a firmware device ended, and its download goes on as the machine's does.
use Rattle.std.proofs.Common.{◌≡◌, ◌≤◌, ℕ, Option, Some, None, is_some, option_map, List, []}
use Rattle.std.proofs.Common.{◌∷◌, ◌++◌, length, refl, sym, ap, ◌∙◌, subst}
use Rattle.std.specs.Prelude.{option_and_then}
use Rattle.gb_base.specs.declared.download.Next.{Next}
use Rattle.gb_base.specs.declared.download.Next.TheVariants as next
use Rattle.gb_base.specs.declared.end.Side.TheVariants as side
use Rattle.gb_base.specs.declared.entry.Entry.{Entry}
use Rattle.gb_base.specs.declared.entry.Entry.TheVariants as entry
use Rattle.gb_base.specs.declared.outcome.Outcome.{Outcome}
use Rattle.gb_base.specs.declared.outcome.Outcome.TheVariants as outcome
use Rattle.gb_base.specs.declared.served.OwnAsk.{OwnAsk}
use Rattle.gb_formats.specs.Module.{Module}
use Rattle.gb_formats.specs.ModuleLoads.{ModuleLoaded, module_ended}
use Rattle.gb_formats.specs.Results.{most_payload}
use Rattle.gb_invariants.proofs.Awaiting.{same-some}
use Rattle.gb_machine.proofs.Opened.{machine_opened}
use Rattle.gb_machine.specs.Actions.{Action, change, each, given, nothing, ◌▸◌}
use Rattle.gb_machine.specs.Bus.{next_number}
use Rattle.gb_machine.specs.Loading.{goes_on, last_asked, load_follows, load_of}
use Rattle.gb_machine.specs.Modules.{module_at, with_module}
use Rattle.gb_machine.specs.OwnAsking.{far_asks}
use Rattle.gb_machine.specs.Requests.{open_on}
use Rattle.gb_machine.specs.Responding.{disconnects}
use Rattle.gb_machine.specs.State.{Load, Plugged, State}
use Rattle.gb_machine.specs.Wires.{unwires}
use Rattle.gb_system.proofs.Doings.{does-as, does-by_state, does-change, does-given}
use Rattle.gb_system.proofs.Doings.{does-nothing, does-tell, does-then}
use Rattle.gb_system.proofs.Loadings.{GoesWell, can-well, follows-none, follows-not, follows-on}
use Rattle.gb_system.proofs.Loadings.{goes-as, goes-well, past_by, with_followed}
use Rattle.gb_system.proofs.Midways.{Midway, midway-as, midway-first, midway-here, midway-more}
use Rattle.gb_system.proofs.ModuleServes.{short-at, short-with}
use Rattle.gb_system.proofs.Standing.{modules-stay, reloaded, repast, stands-with}
use Rattle.gb_laws.specs.Possible.{IsAskable}
use Rattle.gb_system.specs.Doing.{Does}
use Rattle.gb_system.specs.Loading.{IsFit, LoadsAt, LoadsThere, asks_last, follows_at, follows_by}
use Rattle.gb_system.specs.Loading.{if_can, load_way, whose, with_last}
use Rattle.gb_system.specs.Stands.{PartsStand}
use Rattle.gb_system.specs.declared.parties.Parties.{Parties}

-- ---- whose request it is

-- what the code found is the last request of the firmware device at a CPort
record IsWhose (n i c : ℕ) (loads : List Load) : Type 0 where
  load : Load
  is : load_of n loads ≡ Some load
  intf : load.intf ≡ i
  cport : load.cport ≡ c

is-whose : (n i c : ℕ) (loads : List Load) → Some (i, c) ≡ option_map whose (load_of n loads)
    → IsWhose n i c loads
is-whose n i c loads is = by (load_of n loads) refl is
  where
    by : (o : Option Load) → load_of n loads ≡ o → Some (i, c) ≡ option_map whose o
        → IsWhose n i c loads
    by None e h = absurd cc
    by (Some l) e h =
        let same : (i, c) ≡ whose l = same-some (i, c) (whose l) h in record {
          load = l;
          is = e;
          intf = sym (ap (λ (p : ℕ × ℕ). p.0) same);
          cport = sym (ap (λ (p : ℕ × ℕ). p.1) same);
        }

-- or none is
none-whose : (o : Option Load) → None ≡ option_map whose o → o ≡ None
none-whose None h = refl
none-whose (Some l) h = absurd cc

-- ---- the module, and what follows

-- the parties stand for the state with the module as it is then
followed-stand : {x : Parties} {s : State} (i c : ℕ) (how : Outcome) (way : Option ℕ) (m : Module)
    (t : ModuleLoaded) (mods : List Plugged) → PartsStand [] x s → module_at i s.modules ≡ Some m
    → GoesWell m (if_can (is_some way) c t)
    → mods ≡ with_module i (if_can (is_some way) c t).after x.modules
    → PartsStand [] (record x { modules = mods }) (with_followed i c way t s)
followed-stand {x} {s} i c how way m t mods st there well is =
    let after = (if_can (is_some way) c t).after in
    let short = subst (λ (bytes : List ℕ). length bytes ≤ most_payload) (sym well.manifest)
    (short-at i s.modules m st.plugged.short there) in
    repast (past_by i c way t.next s)
    (stands-with (with_module i after s.modules) mods
    (ap (with_module i after) st.plugged.modules ∙ sym is)
    (short-with i after s.modules short st.plugged.short) st)

module _ {x : Parties} {s : State} (n i c : ℕ) (how : Outcome) (way : Option ℕ)
    (mods : List Plugged) (st : PartsStand [] x s)
    (named : Some (i, c) ≡ option_map whose (load_of n x.loads)) where
  -- the request that ended is the last one of a firmware device
  whose_load : IsWhose n i c x.loads
  whose_load = is-whose n i c x.loads named

  found : load_of n s.loads ≡ Some whose_load.load
  found = ap (load_of n) st.plugged.loads ∙ whose_load.is

  -- what comes of a module there
  abbrev LoadsBy : Option Module → Option Next → Type 0
  LoadsBy o then =
      LoadsAt i (option_and_then (follows_at (is_some way) c how) o) x.modules mods then

  -- The download goes on.
  pub load-goes : {y : Parties} {a b : List Entry} (then : Next) → way ≡ load_way i c s
      → LoadsThere (is_some way) i c how x.modules mods (Some then)
      → ((t : State) → PartsStand [] (record x { modules = mods }) t → IsFit then
      → Does y (follows_by i c way then) t a b)
      → Does y (load_follows n how) s a b
  load-goes {y} {a} {b} then over loads rest = at_module (module_at i x.modules) refl loads
    where
      at_module : (o : Option Module) → module_at i x.modules ≡ o → LoadsBy o (Some then)
          → Does y (load_follows n how) s a b
      at_module None e h = absurd (cc (h.0))
      at_module (Some m) e h = at_loader (module_ended m c how) refl h
        where
          there : module_at i s.modules ≡ Some m
          there = ap (module_at i) st.plugged.modules ∙ e

          at_loader : (o : Option ModuleLoaded) → module_ended m c how ≡ o
              → LoadsAt i (option_map (if_can (is_some way) c) o) x.modules mods (Some then)
              → Does y (load_follows n how) s a b
          at_loader None f g = absurd (cc (g.0))
          at_loader (Some t) f g =
              let w = whose_load in
              let u = if_can (is_some way) c t in
              let well = can-well (is_some way) c m t (goes-well m c how t f) in
              let same : then ≡ u.next = same-some then u.next g.0 in
              let stand = followed-stand i c how way m t mods st there well g.1 in
              let d = rest (with_followed i c way t s) stand (subst IsFit (sym same) well.fit) in
              does-as
              (ap (λ v. follows_by i c way v (with_followed i c way t s)) same
              ∙ ap (λ (v : Option ℕ). follows_by i c v (if_can (is_some v) c t).next
              (with_followed i c v t s)) over
              ∙ goes-as i c t s
              ∙ ap (λ k. goes_on k c t.next t.after s) (sym w.intf)
              ∙ ap (λ k. goes_on w.load.intf k t.next t.after s) (sym w.cport)
              ∙ sym (follows-on n how w.load m t s found
              (ap (λ k. module_at k s.modules) w.intf ∙ there)
              (ap (λ k. module_ended m k how) w.cport ∙ f))) d

  -- no download runs there
  pub load-stays : {a : List Entry} → LoadsThere (is_some way) i c how x.modules mods None
      → Does (record x { modules = mods }) (load_follows n how) s a a
  load-stays {a} loads = at_module (module_at i x.modules) refl loads
    where
      ended_at : Option Module → Option ModuleLoaded
      ended_at o = option_and_then (λ m. module_ended m c how) o

      stays : (o : Option Module) → module_at i x.modules ≡ o → ended_at o ≡ None
          → mods ≡ x.modules → Does (record x { modules = mods }) (load_follows n how) s a a
      stays o e none same =
          does-as {f = nothing}
          (sym (follows-not n how whose_load.load s found
          (ap (λ k. option_and_then (λ m. module_ended m k how)
          (module_at whose_load.load.intf s.modules)) whose_load.cport
          ∙ ap (λ k. ended_at (module_at k s.modules)) whose_load.intf
          ∙ ap (λ ms. ended_at (module_at i ms)) st.plugged.modules ∙ ap ended_at e ∙ none)))
          (does-nothing (modules-stay mods same st))

      at_module : (o : Option Module) → module_at i x.modules ≡ o → LoadsBy o None
          → Does (record x { modules = mods }) (load_follows n how) s a a
      at_module None e h = stays None e refl h.1
      at_module (Some m) e h = at_loader (module_ended m c how) refl h
        where
          at_loader : (o : Option ModuleLoaded) → module_ended m c how ≡ o
              → LoadsAt i (option_map (if_can (is_some way) c) o) x.modules mods None
              → Does (record x { modules = mods }) (load_follows n how) s a a
          at_loader None f g = stays (Some m) e f g.1
          at_loader (Some t) f g = absurd (cc (g.0))

-- it isn't the last request of a firmware device
pub load-nowhere : {x : Parties} {s : State} {a : List Entry} (n : ℕ) (how : Outcome)
    → PartsStand [] x s → None ≡ option_map whose (load_of n x.loads)
    → Does x (load_follows n how) s a a
load-nowhere {x} {s} n how st none =
    does-as {f = nothing}
    (sym (follows-none n how s (ap (load_of n) st.plugged.loads
    ∙ none-whose (load_of n x.loads) none)))
    (does-nothing st)

-- ---- the next request

-- it is made, and its number is kept
pub load-asked : {x y : Parties} {s : State} {a b : List Entry} (way : Option ℕ) (k i c n : ℕ)
    (own : OwnAsk) (loads : List Load) → PartsStand [] x s → way ≡ Some k
    → n ≡ next_number s.bus → loads ≡ last_asked i c n x.loads
    → ((t : State) → PartsStand [] (record x { loads = loads }) t
    → Does y (far_asks k own) t a b)
    → Does y (given way (λ k. asks_last k i c own)) s a b
unfolding machine_opened asks_last
load-asked {x} {y} {s} {a} {b} way k i c n own loads st there number put asks =
    let t = with_last i c (next_number s.bus) s in
    let stand = reloaded loads t.loads st
    (ap (last_asked i c (next_number s.bus)) st.plugged.loads
    ∙ ap (λ j. last_asked i c j x.loads) (sym number) ∙ sym put) in
    does-given (λ k. asks_last k i c own) k there
    (does-by_state (λ u. change (with_last i c (next_number u.bus)) ▸ far_asks k own)
    (does-then (does-change (with_last i c (next_number s.bus)) stand) (asks t stand)))

-- it is the one that is asked where there is a connection for it
pub load-on_way : {y : Parties} {s : State} {a b : List Entry} (k i c : ℕ) (own : OwnAsk)
    → Does y (given (Some k) (λ k. asks_last k i c own)) s a b → Does y (asks_last k i c own) s a b
unfolding machine_opened
load-on_way k i c own d = record { told_is = d.told_is; stand = d.stand }

-- ---- a connection is unwired

-- the download fails whose request ended so
abbrev pub loses : ℕ → Action
loses n = load_follows n outcome.Disconnected

disconnects-is : (k : ℕ) (s : State)
    → disconnects k s ≡ (unwires k ▸ each (open_on k side.Far s.bus) loses) s
unfolding machine_opened
disconnects-is k s = refl

-- once it is unwired, those are left whose requests ended so
pub severed-first : {x y : Parties} {s : State} {a b : List Entry} (k : ℕ) (ns : List ℕ)
    → PartsStand [] x s → ns ≡ open_on k side.Far s.bus → Does y (unwires k) s a b
    → Midway y (disconnects k) (each ns loses) s a b
severed-first {x} {y} {s} {a} {b} k ns st ended d =
    let all = open_on k side.Far s.bus in
    midway-as (each ns loses) (ap (λ ms. each ms loses) (sym ended))
    (midway-more (unwires k) (each all loses)
    (midway-here (unwires k ▸ each all loses) (midway-first (disconnects k) st)
    (disconnects-is k s)) d)

-- ---- what follows, by cases

pub follows-ask : {y : Parties} {s : State} {a b : List Entry} (i c : ℕ) (way : Option ℕ)
    (n : Next) (own : OwnAsk) → n ≡ next.Ask own → IsFit n
    → (IsAskable own.kind own.payload → Does y (given way (λ k. asks_last k i c own)) s a b)
    → Does y (follows_by i c way n) s a b
unfolding follows_by
follows-ask {y} {s} {a} {b} i c way n own is fit asks =
    subst (λ w. Does y (follows_by i c way w) s a b) (sym is) (asks (subst IsFit is fit))

pub follows-done : {x : Parties} {s : State} {a b : List Entry} (i c : ℕ) (way : Option ℕ)
    (n : Next) (tag : List ℕ) (size : ℕ) → n ≡ next.Done tag size → PartsStand [] x s
    → b ≡ a ++ entry.Download i c tag (Some size) ∷ [] → Does x (follows_by i c way n) s a b
unfolding follows_by
follows-done {x} {s} {a} {b} i c way n tag size is st told =
    subst (λ w. Does x (follows_by i c way w) s a b) (sym is)
    (does-tell (entry.Download i c tag (Some size)) st told)

pub follows-failed : {x : Parties} {s : State} {a b : List Entry} (i c : ℕ) (way : Option ℕ)
    (n : Next) (tag : List ℕ) → n ≡ next.Failed tag → PartsStand [] x s
    → b ≡ a ++ entry.Download i c tag None ∷ [] → Does x (follows_by i c way n) s a b
unfolding follows_by
follows-failed {x} {s} {a} {b} i c way n tag is st told =
    subst (λ w. Does x (follows_by i c way w) s a b) (sym is)
    (does-tell (entry.Download i c tag None) st told)
