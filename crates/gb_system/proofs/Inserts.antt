-- Modules are plugged as the machine does.
use Rattle.std.proofs.Common.{◌≡◌, ◌≤◌, ℕ, nat_lt, Bool, true, false, Option, Some, None, is_some}
use Rattle.std.proofs.Common.{option_copied, Bor, List, [], ◌∷◌, length, refl, sym, ap, ◌∙◌, subst}
use Rattle.std.proofs.Common.{arith, map, ◌<◌, ◌+◌, zero, suc, ◌||◌, inl, inr, ◌⊎◌}
use Rattle.std.proofs.lemmas.Bool.Decides.{nat_tests}
use Rattle.gb_base.specs.declared.end.Side.TheVariants as side
use Rattle.gb_base.specs.declared.entry.Entry.{Entry}
use Rattle.gb_base.specs.declared.event.Event.TheVariants as event
use Rattle.gb_base.specs.declared.event.Kind.{Kind}
use Rattle.gb_base.specs.declared.refusal.Refusal.TheVariants as why
use Rattle.gb_formats.specs.Module.{Module, module_of_kind, module_raw}
use Rattle.gb_invariants.proofs.Awaiting.{not-both}
use Rattle.gb_laws.proofs.runs.Reached.{reached-powered}
use Rattle.gb_machine.proofs.Opened.{machine_opened}
use Rattle.gb_machine.specs.Lists.{Condition, first_met, span}
use Rattle.gb_machine.specs.Modules.{is_plugged, module_at}
use Rattle.gb_machine.specs.OwnAsking.{far_asks}
use Rattle.gb_machine.specs.Plugging.{plugs, tells_inserted}
use Rattle.gb_machine.specs.Ports.{is_powered}
use Rattle.gb_machine.specs.Reached.{OfARun}
use Rattle.gb_machine.specs.Refusals.{has_no_label, insert_conditions, longest_manifest}
use Rattle.gb_machine.specs.Refusals.{is_beyond, is_taken}
use Rattle.gb_machine.specs.State.{Plugged, State}
use Rattle.gb_system.proofs.Doings.{does-as}
use Rattle.gb_system.proofs.Plugged.{there-is}
use Rattle.gb_laws.specs.Possible.{IsAskable}
use Rattle.gb_system.specs.Doing.{Does, IsDone}
use Rattle.gb_system.specs.Drafts.{own_ask}
use Rattle.gb_system.specs.Stands.{PartsStand}
use Rattle.gb_system.specs.declared.parties.Parties.{Parties}
use Rattle.std.specs.List.{list_any}
use Rattle.std.proofs.lemmas.Bool.{cases_lt}

-- ---- what runs know

-- nothing is powered where nothing is plugged
pub unpowered-there : (s : State) (i : ℕ) → OfARun s → is_plugged i s.modules ≡ false
    → is_powered i s.ports ≡ false
unpowered-there s i run free = by (is_powered i s.ports) refl
  where
    by : (b : Bool) → is_powered i s.ports ≡ b → b ≡ false
    by true e = absurd (not-both (is_plugged i s.modules) (reached-powered s i run e) free)
    by false e = refl

-- a module is there, by the code's answer
pub plugged-is : (x : Parties) (s : State) (i : ℕ) (o : Option (Bor Module)) (t : Bool)
    → PartsStand [] x s → option_copied o ≡ module_at i x.modules → t ≡ is_some o
    → is_plugged i s.modules ≡ t
plugged-is x s i o t st at is =
    ap (is_plugged i) st.plugged.modules ∙ there-is o (module_at i x.modules) t at is

-- nothing is plugged at so many interfaces, so none of them has power
pub free-spans : (s : State) (i count j : ℕ) → OfARun s → is_taken i count s ≡ false → i ≤ j
    → j < i + count → is_powered j s.ports ≡ false
free-spans s i zero j run free from to = absurd (omega (arith, from, to))
free-spans s i (suc more) j run free from to =
    by (is_plugged i s.modules) refl (cases_lt i j)
    (λ later above. free-spans s (i + 1) more j run later (omega (arith, above))
    (omega (arith, to)))
  where
    by : (t : Bool) → is_plugged i s.modules ≡ t → (i < j) ⊎ (j ≤ i)
        → (is_taken (i + 1) more s ≡ false → i < j → is_powered j s.ports ≡ false)
        → is_powered j s.ports ≡ false
    by true there k later =
        absurd (not-both (is_taken i (suc more) s)
        (ap (λ u. u || is_taken (i + 1) more s) there) free)
    by false there (inl above) later =
        later (sym (ap (λ u. u || is_taken (i + 1) more s) there) ∙ free) above
    by false there (inr least) later =
        let same : i ≡ j = omega (arith, from, least) in
        subst (λ k. is_powered k s.ports ≡ false) same (unpowered-there s i run there)

-- whether something is there, by the code's answer
pub taken-is : (x : Parties) (s : State) (i count : ℕ) (t : Bool) → PartsStand [] x s
    → t ≡ list_any (λ j. is_plugged j x.modules) (span i count) → is_taken i count s ≡ t
taken-is x s i count t st is =
    ap (λ (ms : List Plugged). list_any (λ j. is_plugged j ms) (span i count)) st.plugged.modules
    ∙ sym is

-- ---- what is told

-- MODULE_INSERTED can be asked
pub inserted-askable : (p count : ℕ) → IsAskable 0x1f (p ∷ count ∷ 0 ∷ 0 ∷ [])
inserted-askable p count = (omega arith, omega arith)

-- it is what the supervisory controller asks
pub does-tells_inserted : {x : Parties} {s : State} {a b : List Entry} (p count : ℕ)
    → Does x (far_asks 1 (own_ask 0x1f (p ∷ count ∷ 0 ∷ 0 ∷ []) false)) s a b
    → Does x (tells_inserted p count) s a b
unfolding machine_opened
does-tells_inserted p count d = record { told_is = d.told_is; stand = d.stand }

-- ---- refusals

-- the conditions that refuse an insert, as they are tried
abbrev insert_conditions_by : Bool → Bool → Bool → Bool → List Condition
insert_conditions_by beyond taken large spent =
    (beyond, why.OutOfRange) ∷ (taken, why.Occupied) ∷ (large, why.TooLarge)
    ∷ (spent, why.NoLabel) ∷ []

-- they are the machine's
conditions-are : (s : State) (i count : ℕ) (manifest : List ℕ) (beyond taken large : Bool)
    → is_beyond i count ≡ beyond → is_taken i count s ≡ taken
    → nat_lt longest_manifest (length manifest) ≡ large
    → first_met (insert_conditions s i count manifest)
    ≡ first_met (insert_conditions_by beyond taken large (has_no_label 1 side.Far s))
conditions-are s i count manifest beyond taken large p q r =
    ap (λ b. first_met (insert_conditions_by b (is_taken i count s)
    (nat_lt longest_manifest (length manifest)) (has_no_label 1 side.Far s))) p
    ∙ ap (λ b. first_met (insert_conditions_by beyond b
    (nat_lt longest_manifest (length manifest)) (has_no_label 1 side.Far s))) q
    ∙ ap (λ b. first_met (insert_conditions_by beyond taken b (has_no_label 1 side.Far s))) r

less : (a b : ℕ) → a < b → nat_lt a b ≡ true
less a b below = grind (arith, nat_tests, below)

not-less : (a b : ℕ) → b ≤ a → nat_lt a b ≡ false
not-less a b most = grind (arith, nat_tests, most)

-- it would reach beyond the last interface
pub insert-beyond : (s : State) (i count : ℕ) (manifest : List ℕ) → 32 < i + count
    → Some why.OutOfRange ≡ first_met (insert_conditions s i count manifest)
insert-beyond s i count manifest beyond =
    sym (conditions-are s i count manifest true _ _ (less 32 (i + count) beyond) refl refl)

-- one of its interfaces is taken
pub insert-occupied : (s : State) (i count : ℕ) (manifest : List ℕ) → i + count ≤ 32
    → is_taken i count s ≡ true
    → Some why.Occupied ≡ first_met (insert_conditions s i count manifest)
insert-occupied s i count manifest within taken =
    sym (conditions-are s i count manifest false true _ (not-less 32 (i + count) within) taken refl)

-- its manifest is too long
pub insert-large : (s : State) (i count size : ℕ) (manifest : List ℕ) → i + count ≤ 32
    → is_taken i count s ≡ false → length manifest ≡ size → longest_manifest < size
    → Some why.TooLarge ≡ first_met (insert_conditions s i count manifest)
insert-large s i count size manifest within free same large =
    sym (conditions-are s i count manifest false false true (not-less 32 (i + count) within)
    free (less longest_manifest (length manifest) (omega (arith, same, large))))

-- an identifier is left or not
pub insert-fits : (s : State) (i count size : ℕ) (manifest : List ℕ) → i + count ≤ 32
    → is_taken i count s ≡ false → length manifest ≡ size → size ≤ longest_manifest
    → first_met (insert_conditions s i count manifest)
    ≡ first_met ((has_no_label 1 side.Far s, why.NoLabel) ∷ [])
insert-fits s i count size manifest within free same fits =
    conditions-are s i count manifest false false false
    (not-less 32 (i + count) within) free
    (not-less longest_manifest (length manifest) (omega (arith, same, fits)))

-- An insert that isn't refused is done: by its kinds a module is plugged.
pub inserted-kinds : (y : Parties) (s : State) (i : ℕ) (kinds : List Kind) (before es : List Entry)
    → None ≡ first_met (insert_conditions s i (length kinds) [])
    → Does y (plugs i (map module_of_kind kinds)) s before es
    → IsDone y s (event.Insert i kinds) before es
unfolding machine_opened
inserted-kinds y s i kinds before es allowed d =
    record { allowed = sym allowed; done = does-as refl d }

-- by its manifest
pub inserted-raw : (y : Parties) (s : State) (i : ℕ) (manifest : List ℕ) (before es : List Entry)
    → None ≡ first_met (insert_conditions s i 1 manifest)
    → Does y (plugs i (module_raw manifest ∷ [])) s before es
    → IsDone y s (event.InsertRaw i manifest) before es
unfolding machine_opened
inserted-raw y s i manifest before es allowed d =
    record { allowed = sym allowed; done = does-as refl d }
