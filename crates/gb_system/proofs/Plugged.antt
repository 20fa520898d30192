-- What is plugged, by its places.
use Rattle.std.proofs.Common.{◌≡◌, ℕ, Bool, true, false, cond, Option, Some, None, List, [], ◌∷◌}
use Rattle.std.proofs.Common.{option_map, suc, get_or, set, refl, sym, ap, ◌∙◌, subst, ◌<◌, ◌≤◌}
use Rattle.std.proofs.Common.{◌+◌, ◌-◌, arith, is_some, option_copied, Bor, ◌||◌}
use Rattle.std.proofs.lemmas.List.{set-get_or}
use Rattle.std.specs.Prelude.{nat_lt, Ok}
use Rattle.std.specs.List.{insert, position_from, list_any}
use Rattle.gb_base.specs.declared.served.Served.{Served}
use Rattle.gb_formats.specs.Module.{Module}
use Rattle.gb_formats.specs.ModuleSteps.{module_serve}
use Rattle.gb_machine.proofs.Positions.{none-stands, standing}
use Rattle.gb_machine.specs.Modules.{is_plugged_at, module_at, part_at, plugged, plugged_before}
use Rattle.gb_machine.specs.Modules.{with_module}
use Rattle.gb_machine.specs.Lists.{in_order, span}
use Rattle.gb_machine.specs.State.{Plugged}
use Rattle.gb_system.specs.Plugging.{ServesThere, place_behind}

-- a part goes in front of those at greater interfaces
inserted : (x : Plugged) (ps : List Plugged) → insert ps (place_behind x.intf ps) x ≡ plugged x ps
inserted x [] = refl
inserted x (p ∷ ps) = by (nat_lt x.intf p.intf) (inserted x ps)
  where
    by : (b : Bool) → insert ps (place_behind x.intf ps) x ≡ in_order plugged_before x ps
        → insert (p ∷ ps) (cond b 0 (suc (place_behind x.intf ps))) x
        ≡ cond b (x ∷ p ∷ ps) (p ∷ in_order plugged_before x ps)
    by true later = refl
    by false later = ap (λ qs. p ∷ qs) later

-- as code finds the place
pub plugs : (x : Plugged) (ps items after : List Plugged) (n : ℕ)
    → items ≡ ps → n ≡ place_behind x.intf ps → after ≡ insert items n x → after ≡ plugged x ps
plugs x ps items after n view first is =
    is ∙ ap (λ l. insert l n x) view ∙ ap (λ k. insert ps k x) first ∙ inserted x ps

-- where nothing is plugged, there is no part
pub no-part : (i : ℕ) (ps : List Plugged) (o : Option ℕ)
    → o ≡ position_from (is_plugged_at i) 0 ps → o ≡ None → part_at i ps ≡ None
no-part i ps o first is = (none-stands (is_plugged_at i) ps (sym first ∙ is)).0

-- the part at a place
pub one-part : (i : ℕ) (ps zs : List Plugged) (o : Option ℕ) (n : ℕ) (x : Plugged)
    → o ≡ position_from (is_plugged_at i) 0 ps → o ≡ Some n → zs ≡ ps → x ≡ get_or zs n x
    → part_at i ps ≡ Some x
one-part i ps zs o n x first is view at =
    (standing (is_plugged_at i) ps n (sym first ∙ is)).found x
    ∙ ap Some (sym (at ∙ ap (λ l. get_or l n x) view))

-- where nothing is plugged, there is no module
pub none-there : (i : ℕ) (ps : List Plugged) (o : Option ℕ)
    → o ≡ position_from (is_plugged_at i) 0 ps → o ≡ None → module_at i ps ≡ None
none-there i ps o first is = ap (option_map (λ (p : Plugged). p.body)) (no-part i ps o first is)

-- the module at a place
pub one-there : (i : ℕ) (ps zs : List Plugged) (o : Option ℕ) (n : ℕ) (x : Plugged)
    → o ≡ position_from (is_plugged_at i) 0 ps → o ≡ Some n → zs ≡ ps → x ≡ get_or zs n x
    → module_at i ps ≡ Some x.body
one-there i ps zs o n x first is view at =
    ap (option_map (λ (p : Plugged). p.body)) (one-part i ps zs o n x first is view at)

-- where none is plugged, none serves
pub none-serves : (i cport kind : ℕ) (payload : List ℕ) (ps : List Plugged) (o : Option ℕ)
    → o ≡ position_from (is_plugged_at i) 0 ps → o ≡ None
    → ServesThere i cport kind payload (module_at i ps) ps ps (Ok None)
none-serves i cport kind payload ps o first is =
    subst (λ m. ServesThere i cport kind payload m ps ps (Ok None))
    (sym (none-there i ps o first is)) (refl, refl)

-- a part, by what the code has of it
abbrev pub part_of : ℕ → ℕ → ℕ → Module → Plugged
part_of intf primary count body =
    record { intf = intf; primary = primary; count = count; body = body }

-- The part at a place is that of an interface, whose module may be changed.
pub record IsPlaced (i : ℕ) (ps zs : List Plugged) (n : ℕ) (x : Plugged) : Type 0 where
  pub found : module_at i ps ≡ Some x.body
  pub changed : (m : Module) → set zs n (record x { body = m }) ≡ with_module i m ps
  pub kept : (m : Module) → m ≡ x.body → set zs n (record x { body = m }) ≡ ps

pub is-placed : (i : ℕ) (ps zs : List Plugged) (o : Option ℕ) (n : ℕ) (b x : Plugged)
    → o ≡ position_from (is_plugged_at i) 0 ps → o ≡ Some n → zs ≡ ps → x ≡ b → b ≡ get_or zs n b
    → IsPlaced i ps zs n x
is-placed i ps zs o n b x first is view same at =
    let stands = standing (is_plugged_at i) ps n (sym first ∙ is) in
    let here : get_or ps n x ≡ x =
    sym (same ∙ at ∙ ap (get_or zs n) (sym same) ∙ ap (λ l. get_or l n x) view) in record {
      found = ap (option_map (λ (p : Plugged). p.body)) (stands.found x ∙ ap Some here);
      changed = λ m.
          ap (λ l. set l n (record x { body = m })) view
          ∙ ap (λ (p : Plugged). set ps n (record p { body = m })) (sym here)
          ∙ sym (stands.changed (λ p. record p { body = m }) x);
      kept = λ m e.
          ap (λ l. set l n (record x { body = m })) view
          ∙ ap (λ k. set ps n (record x { body = k })) e
          ∙ ap (set ps n) (sym here) ∙ set-get_or ps n x;
    }

-- the module at a place serves
pub one-serves : (i cport kind : ℕ) (payload : List ℕ) {ps zs : List Plugged} {n : ℕ} {x : Plugged}
    (m : Module) (served : Served) → IsPlaced i ps zs n x
    → served ≡ (module_serve x.body cport kind payload).served
    → m ≡ (module_serve x.body cport kind payload).after
    → ServesThere i cport kind payload (module_at i ps) ps (set zs n (record x { body = m }))
    (Ok (Some served))
one-serves i cport kind payload {ps} {zs} {n} {x} m served one answer after =
    subst (λ o. ServesThere i cport kind payload o ps (set zs n (record x { body = m }))
    (Ok (Some served))) (sym one.found)
    (ap Some answer, one.changed m ∙ ap (λ k. with_module i k ps) after)

-- ---- the interfaces of a module

-- those from one on are that one, and those from the next on
pub span-next : (n count i : ℕ) → i < count
    → span (n + i) (count - i) ≡ (n + i) ∷ span (n + (i + 1)) (count - (i + 1))
span-next n count i below =
    let more : count - i ≡ suc (count - (i + 1)) = omega (arith, below) in
    let next : (n + i) + 1 ≡ n + (i + 1) = omega arith in
    ap (span (n + i)) more ∙ ap (λ k. (n + i) ∷ span k (count - (i + 1))) next

-- there are no more
pub span-past : (n count i : ℕ) → count ≤ i → span (n + i) (count - i) ≡ []
span-past n count i past =
    let none : count - i ≡ 0 = omega (arith, past) in ap (span (n + i)) none

-- there are all
pub span-all : (n count : ℕ) → span (n + 0) (count - 0) ≡ span n count
span-all n count =
    let same : n + 0 ≡ n = omega arith in
    let all : count - 0 ≡ count = omega arith in ap (λ k. span k (count - 0)) same ∙ ap (span n) all

-- whether a module is there, by the code's answer
pub there-is : (o : Option (Bor Module)) (m : Option Module) (t : Bool) → option_copied o ≡ m
    → t ≡ is_some o → is_some m ≡ t
there-is o m t at is = ap is_some (sym at) ∙ copied o ∙ sym is
  where
    copied : (o : Option (Bor Module)) → is_some (option_copied o) ≡ is_some o
    copied None = refl
    copied (Some m) = refl

-- where a test fails at one, whether it holds at any is told by those behind it
pub any-next : (test : ℕ → Bool) (n count i : ℕ) → i < count → test (n + i) ≡ false
    → list_any test (span (n + i) (count - i)) ≡ list_any test (span n count)
    → list_any test (span (n + (i + 1)) (count - (i + 1))) ≡ list_any test (span n count)
any-next test n count i below free so =
    sym (ap (λ b. b || list_any test (span (n + (i + 1)) (count - (i + 1)))) free)
    ∙ sym (ap (list_any test) (span-next n count i below)) ∙ so
