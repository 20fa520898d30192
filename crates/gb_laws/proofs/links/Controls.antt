-- No manifest declares CPort 0 outside bundle 0, so no connect speaks of it.
use Rattle.std.proofs.Common.{Bool, List, None, Option, Some, ap, cond, false, inl, inr, length}
use Rattle.std.proofs.Common.{map, not, refl, sym, true, ℕ, [], ◌++◌, ◌∙◌, ◌∷◌, ◌≡◌}
use Rattle.std.specs.List.{find}
use Rattle.std.specs.Prelude.{Err, Ok, Result, drop, option_and_then, option_map, ◌&&◌, ◌==◌}
use Rattle.gb_base.specs.declared.reasons.Reason.{Reason}
use Rattle.gb_base.specs.declared.reasons.Reason.TheVariants as reason
use Rattle.gb_base.specs.declared.interface.Interface.{Interface}
use Rattle.gb_formats.specs.Manifest.{Manifest, check_answer, cport_view, descriptors_from}
use Rattle.gb_formats.specs.Manifest.{header_refusal, manifest_after, manifest_of, manifest_unless}
use Rattle.gb_formats.specs.ManifestRules.{Placed, Refused, breach, first_breach, first_of}
use Rattle.gb_formats.specs.ManifestRules.{is_cport, no_interface, rules_refusal, second_interface}
use Rattle.gb_formats.specs.ManifestRules.{written_rules, wrong_control}
use Rattle.gb_formats.specs.Descriptors.{Descriptor}
use Rattle.gb_machine.specs.Host.{cport_in, cport_of, outside_control}
use Rattle.gb_machine.specs.Members.{IsIn}
use Rattle.gb_invariants.proofs.{Awaiting.same-some, Outcomes.same-number}

-- no rule is broken where there is no first that is
none-broken : (xs : List (Option Refused)) (o : Option Refused) → first_of xs ≡ None → IsIn o xs
    → o ≡ None
none-broken [] o h i = absurd i
none-broken (None ∷ xs) o h (inl e) = e
none-broken (None ∷ xs) o h (inr i) = none-broken xs o h i
none-broken (Some why ∷ xs) o h i = absurd cc

unbroken : (why : Reason) (o : Option ℕ) → breach why o ≡ None → o ≡ None
unbroken why None h = refl
unbroken why (Some place) h = absurd cc

control-ruled : (len : ℕ) (all : List Placed) → rules_refusal len all ≡ None
    → first_breach wrong_control [] all ≡ None
control-ruled len all h =
    unbroken reason.ControlCport (first_breach wrong_control [] all) (none-broken
    (no_interface len all ∷ breach reason.SecondInterface
    (first_breach second_interface [] all) ∷ written_rules all)
    (breach reason.ControlCport (first_breach wrong_control [] all)) h
    (inr (inr (inr (inr (inr (inr (inr (inr (inl refl))))))))))

-- where no CPort 0 is outside bundle 0
inside : (before ds : List Placed) (y : Descriptor) → first_breach wrong_control before ds ≡ None
    → find (is_cport 0) (map (λ (d : Placed). d.descriptor) ds) ≡ Some y → (cport_view y).bundle ≡ 0
inside before [] y none found = absurd cc
inside before (d ∷ ds) y none found = by d.descriptor none found (inside (before ++ d ∷ []) ds y)
  where
    Rest : Type 0
    Rest = first_breach wrong_control (before ++ d ∷ []) ds ≡ None
        → find (is_cport 0) (map (λ (d : Placed). d.descriptor) ds) ≡ Some y
        → (cport_view y).bundle ≡ 0

    cport : (id bundle protocol : ℕ) (t : Bool) → (id == 0) ≡ t → (u : Bool) → (bundle == 0) ≡ u
        → cond (t && not (u && protocol == 0)) (Some d.at)
        (first_breach wrong_control (before ++ d ∷ []) ds) ≡ None
        → cond t (Some (Descriptor.Cport id bundle protocol))
        (find (is_cport 0) (map (λ (d : Placed). d.descriptor) ds)) ≡ Some y
        → Rest → (cport_view y).bundle ≡ 0
    cport id bundle protocol true e true f none found rec =
        ap (λ x. (cport_view x).bundle)
        (sym (same-some (Descriptor.Cport id bundle protocol) y found)) ∙ same-number bundle 0 f
    cport id bundle protocol true e false f none found rec = absurd cc
    cport id bundle protocol false e u f none found rec = rec none found

    by : (x : Descriptor) → cond (wrong_control before x) (Some d.at)
        (first_breach wrong_control (before ++ d ∷ []) ds) ≡ None
        → cond (is_cport 0 x) (Some x) (find (is_cport 0)
        (map (λ (d : Placed). d.descriptor) ds)) ≡ Some y → Rest → (cport_view y).bundle ≡ 0
    by (Descriptor.Cport id bundle protocol) none found rec =
        cport id bundle protocol (id == 0) refl (bundle == 0) refl none found rec
    by _ none found rec = rec none found

-- what an accepted manifest's descriptors break: nothing
record Ruled (bytes : List ℕ) (m : Manifest) : Type 0 where
  placed : List Placed
  ruled : rules_refusal (length bytes) placed ≡ None
  listed : m.descriptors ≡ map (λ (d : Placed). d.descriptor) placed

same-ok : (x y : Manifest) (r : Result Manifest Refused) → r ≡ Ok x → r ≡ Ok y → x ≡ y
same-ok x y r e f = cc

ruled-of : (bytes : List ℕ) (m : Manifest) → check_answer bytes ≡ Ok m → Ruled bytes m
ruled-of bytes m h = headed (header_refusal bytes) h
  where
    unless : (placed : List Placed) (o : Option Refused) → rules_refusal (length bytes) placed ≡ o
        → manifest_unless o bytes placed ≡ Ok m → Ruled bytes m
    unless placed (Some why) e h = absurd cc
    unless placed None e h = record {
      placed = placed;
      ruled = e;
      listed = ap (λ (x : Manifest). x.descriptors)
          (sym (same-ok _ m (manifest_unless None bytes placed) refl h));
    }

    of : (r : Result (List Placed) Refused) → manifest_of bytes r ≡ Ok m → Ruled bytes m
    of (Err why) h = absurd cc
    of (Ok placed) h = unless placed (rules_refusal (length bytes) placed) refl h

    headed : (o : Option Refused) → manifest_after o bytes ≡ Ok m → Ruled bytes m
    headed (Some why) h = absurd cc
    headed None h = of (descriptors_from 0 4 (drop 4 bytes)) h

-- An interface's manifest declares no CPort 0 that may be connected.
pub control-none : (x : Interface) → cport_of 0 x ≡ None
control-none x = by (check_answer x.manifest) refl
  where
    found : (m : Manifest) → check_answer x.manifest ≡ Ok m → (o : Option Descriptor)
        → find (is_cport 0) m.descriptors ≡ o
        → option_and_then outside_control (option_map cport_view o) ≡ None
    found m e None f = refl
    found m e (Some y) f =
        let r = ruled-of x.manifest m e in
        let none = control-ruled (length x.manifest) r.placed r.ruled in
        ap (λ k. cond (k == 0) None (Some (cport_view y)))
        (inside [] r.placed y none (ap (find (is_cport 0)) (sym r.listed) ∙ f))

    by : (r : Result Manifest Refused) → check_answer x.manifest ≡ r
        → option_and_then outside_control (cport_in 0 r) ≡ None
    by (Err why) e = refl
    by (Ok m) e = found m e (find (is_cport 0) m.descriptors) refl
