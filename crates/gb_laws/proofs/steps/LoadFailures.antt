-- A request that isn't answered with success ends: the download that waited for it fails, and
-- nothing is asked.
use Rattle.std.proofs.Common.{List, None, Option, Some, ap, refl, subst, sym, ℕ, [], ◌++◌, ◌∙◌, ◌∷◌}
use Rattle.std.proofs.Common.{◌≡◌}
use Rattle.gb_base.specs.declared.entry.Entry.{Entry}
use Rattle.gb_base.specs.declared.outcome.Outcome.{Outcome}
use Rattle.gb_base.specs.declared.outcome.Outcome.TheVariants as outcome
use Rattle.gb_formats.specs.Module.{Module}
use Rattle.gb_formats.specs.ModuleLoads.{ModuleLoaded, module_ended}
use Rattle.gb_machine.proofs.Opened.{machine_opened}
use Rattle.gb_machine.specs.Actions.{Told, each, given}
use Rattle.gb_machine.specs.Loading.{goes_on, load_ended, load_follows, load_of}
use Rattle.gb_machine.specs.{Modules.module_at, Modules.with_module, State.Load, State.Plugged}
use Rattle.gb_machine.specs.{State.State}
use Rattle.gb_laws.proofs.points.PointParts.{AreSilent}
use Rattle.gb_laws.proofs.steps.LoaderEnds.{IsSuccess, ModuleFollows, asks, done, failed}
use Rattle.gb_laws.proofs.steps.LoaderEnds.{module-follows}

-- modules alone are others, and what is told is silent
pub record ModulesAlone (s : State) (r : Told) : Type 0 where
  pub modules : List Plugged
  pub state : r.state ≡ record s { modules = modules }
  pub silent : AreSilent r.entries

alone-nothing : (s : State) → ModulesAlone s (record { state = s; entries = [] })
alone-nothing s = record { modules = s.modules; state = refl; silent = tt }

silent-both : (es fs : List Entry) → AreSilent es → AreSilent fs → AreSilent (es ++ fs)
silent-both [] fs h k = k
silent-both (e ∷ es) fs h k = (h.0, silent-both es fs h.1 k)

-- what follows the end of a request
pub load-fails : (n : ℕ) (how : Outcome) (s : State) → (IsSuccess how → ⊥)
    → ModulesAlone s (load_follows n how s)
unfolding machine_opened
load-fails n how s lost = by (load_of n s.loads)
  where
    next : (l : Load) (x : Module) (t : ModuleLoaded) → ModuleFollows x l.cport how t
        → ModulesAlone s (goes_on l.intf l.cport t.next t.after s)
    next l x t (asks own is won low keeps) = absurd (lost won)
    next l x t (done tag size is won) = absurd (lost won)
    next l x t (failed tag is keeps) =
        subst (λ w. ModulesAlone s (goes_on l.intf l.cport w t.after s)) (sym is) (record {
          modules = with_module l.intf t.after s.modules;
          state = refl;
          silent = (refl, tt);
        })

    loaded : (l : Load) (x : Module) (o : Option ModuleLoaded) → module_ended x l.cport how ≡ o
        → ModulesAlone s (given o (λ t. goes_on l.intf l.cport t.next t.after) s)
    loaded l x None e = alone-nothing s
    loaded l x (Some t) e = next l x t (module-follows x l.cport how t e)

    at_module : (l : Load) (o : Option Module) → ModulesAlone s (given o (λ x.
        given (module_ended x l.cport how) (λ t. goes_on l.intf l.cport t.next t.after)) s)
    at_module l None = alone-nothing s
    at_module l (Some x) = loaded l x (module_ended x l.cport how) refl

    by : (o : Option Load) → ModulesAlone s (given o (load_ended how) s)
    by None = alone-nothing s
    by (Some l) = at_module l (module_at l.intf s.modules)

-- so it is behind the end of each of some that were disconnected
pub loads-fail : (ns : List ℕ) (s : State)
    → ModulesAlone s (each ns (λ n. load_follows n outcome.Disconnected) s)
unfolding machine_opened
loads-fail [] s = alone-nothing s
loads-fail (n ∷ ns) s =
    let one = load-fails n outcome.Disconnected s (λ won. absurd (other won.0 won.1)) in
    let rest = loads-fail ns (load_follows n outcome.Disconnected s).state in
    record {
      modules = rest.modules;
      state = rest.state ∙ ap (λ (t : State). record t { modules = rest.modules }) one.state;
      silent = silent-both (load_follows n outcome.Disconnected s).entries
          (each ns (λ k. load_follows k outcome.Disconnected)
          (load_follows n outcome.Disconnected s).state).entries one.silent rest.silent;
    }
  where
    other : (payload : List ℕ) → outcome.Disconnected ≡ outcome.Answered 0 payload → ⊥
    other payload e = absurd cc
