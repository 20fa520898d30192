-- The downloads of the modules that are plugged, by their places.
use Rattle.std.proofs.Common.{◌≡◌, ℕ, Bool, Option, Some, None, Ok, List, set, refl}
use Rattle.std.proofs.Common.{sym, ap, ◌∙◌, subst}
use Rattle.std.specs.Prelude.{option_and_then}
use Rattle.std.specs.List.{position_from}
use Rattle.gb_base.specs.declared.download.Next.{Next}
use Rattle.gb_base.specs.declared.outcome.Outcome.{Outcome}
use Rattle.gb_base.specs.declared.served.OwnAsk.{OwnAsk}
use Rattle.gb_formats.specs.Loader.{find_ask}
use Rattle.gb_formats.specs.Module.{Module}
use Rattle.gb_formats.specs.ModuleLoads.{ModuleLoaded, module_load}
use Rattle.gb_machine.specs.Modules.{is_plugged_at, module_at, with_module}
use Rattle.gb_machine.specs.State.{Plugged}
use Rattle.gb_module.specs.Loading.{EndsAs, load_refusal}
use Rattle.gb_system.proofs.Plugged.{IsPlaced, none-there}
use Rattle.gb_system.specs.Loading.{BeginsAt, LoadsAt, LoadsThere, follows_at, module_refusal}

-- ---- the end of a request

-- where none is plugged, nothing follows
pub none-ends : (i c : ℕ) (how : Outcome) (can : Bool) (ps : List Plugged) (o : Option ℕ)
    → o ≡ position_from (is_plugged_at i) 0 ps → o ≡ None → LoadsThere can i c how ps ps None
none-ends i c how can ps o first is =
    subst (λ m. LoadsAt i (option_and_then (follows_at can c how) m) ps ps None)
    (sym (none-there i ps o first is)) (refl, refl)

-- what follows at one module, among the others
ends-at : (i : ℕ) (answer : Option ModuleLoaded) (body m : Module) (ps zs : List Plugged)
    (result : Option Next) → EndsAs answer body m (Ok result) → zs ≡ with_module i m ps
    → (m ≡ body → zs ≡ ps) → LoadsAt i answer ps zs result
ends-at i answer body m ps zs None ends changed kept =
    subst (λ o. LoadsAt i o ps zs None) (sym ends.0) (refl, kept ends.1)
ends-at i answer body m ps zs (Some next) ends changed kept =
    subst (λ o. LoadsAt i o ps zs (Some next)) (sym ends) (refl, changed)

-- the module at a place goes on
pub one-ends : (i c : ℕ) (how : Outcome) (can : Bool) {ps zs : List Plugged} {n : ℕ} {x : Plugged}
    (m : Module) (result : Option Next) → IsPlaced i ps zs n x
    → EndsAs (follows_at can c how x.body) x.body m (Ok result)
    → LoadsThere can i c how ps (set zs n (record x { body = m })) result
one-ends i c how can {ps} {zs} {n} {x} m result one ends =
    let after = set zs n (record x { body = m }) in
    subst (λ p. LoadsAt i (option_and_then (follows_at can c how) p) ps after result)
    (sym one.found)
    (ends-at i (follows_at can c how x.body) x.body m ps after result ends (one.changed m)
    (one.kept m))

-- ---- a load

-- where a download can begin, a module is plugged
pub none-begins : (i c : ℕ) (ps : List Plugged) (o : Option ℕ)
    → o ≡ position_from (is_plugged_at i) 0 ps → o ≡ None
    → module_refusal (module_at i ps) c ≡ None → ⊥
none-begins i c ps o first is free =
    cc (ap (λ m. module_refusal m c) (none-there i ps o first is), free)

-- and it can begin there
pub one-free : (i c : ℕ) {ps zs : List Plugged} {n : ℕ} {x : Plugged} → IsPlaced i ps zs n x
    → module_refusal (module_at i ps) c ≡ None → load_refusal x.body c ≡ None
one-free i c one free = sym (ap (λ m. module_refusal m c) one.found) ∙ free

-- the module at a place begins
pub one-begins : (i c : ℕ) (tag : List ℕ) {ps zs : List Plugged} {n : ℕ} {x : Plugged} (m : Module)
    (own : OwnAsk) → IsPlaced i ps zs n x → own ≡ find_ask tag → m ≡ module_load x.body c tag
    → BeginsAt i c tag (module_at i ps) ps (set zs n (record x { body = m })) own
one-begins i c tag {ps} {zs} {n} {x} m own one asks begins =
    subst (λ p. BeginsAt i c tag p ps (set zs n (record x { body = m })) own) (sym one.found)
    (asks, one.changed m ∙ ap (λ k. with_module i k ps) begins)
