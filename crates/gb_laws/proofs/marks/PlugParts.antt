-- What is plugged once a module is, part by part.
use Rattle.std.proofs.Common.{Bool, List, None, Option, Some, ap, arith, cond, false, inl, inr}
use Rattle.std.proofs.Common.{length, map, refl, subst, sym, true, ℕ, ⊎_elim, [], ◌+◌, ◌<◌, ◌∙◌}
use Rattle.std.proofs.Common.{◌∷◌, ◌≡◌, ◌≢◌, ◌≤◌, ◌⊎◌}
use Rattle.std.proofs.lemmas.Bool.Decides.{nat_tests}
use Rattle.std.proofs.lemmas.List.{length-map}
use Rattle.std.specs.List.{find, list_any}
use Rattle.std.specs.Prelude.{is_some, option_map, ◌==◌}
use Rattle.gb_base.specs.declared.event.Kind.{Kind}
use Rattle.gb_base.specs.declared.event.Event.TheVariants as event
use Rattle.gb_formats.specs.Module.{Module, module_of_kind, module_raw}
use Rattle.gb_formats.specs.ValidEvents.{IsValid}
use Rattle.gb_machine.proofs.Opened.{machine_opened}
use Rattle.gb_machine.specs.Modules.{is_plugged, is_plugged_at, plugged, plugged_before}
use Rattle.gb_machine.specs.Plugging.{parts_from, parts_of, with_plugged}
use Rattle.gb_machine.specs.State.{Plugged, Port, State}
use Rattle.gb_machine.specs.{Actions.change, Actions.each, Lists.in_order, Lists.span}
use Rattle.gb_machine.specs.{Members.EachTwo, Members.IsIn, Ports.powered}
use Rattle.gb_machine.proofs.{Conditions.free as unmet}
use Rattle.gb_machine.specs.Refusals.{insert_conditions, refusal}
use Rattle.gb_machine.proofs.Conditions.{AreUnmet}
use Rattle.gb_invariants.proofs.{Awaiting.not-both, Found.find-none, Found.in-ordered}
use Rattle.gb_invariants.proofs.{Found.none-any, Lists.each-from, Lists.each-in}
use Rattle.gb_invariants.proofs.{Outcomes.is-same, Outcomes.same-number}
use Rattle.gb_laws.proofs.links.LinkLists.{ordered-in, ordered-stays}
use Rattle.gb_laws.proofs.marks.Wholes.{AreElsewhere, AreWhole, HasPart, IsRange, IsWhole}
use Rattle.gb_laws.proofs.marks.Wholes.{found-part, plugged_at, range-of, span-in, whole-as}

-- ---- one part is plugged

pub plugged-at : (j : ℕ) (p : Plugged) (ms : List Plugged) → (p.intf == j) ≡ true
    → is_plugged j (in_order plugged_before p ms) ≡ true
plugged-at j p [] e = ap (λ t. is_some
    (option_map (λ (x : Plugged). x.body) (cond t (Some p) None))) e
plugged-at j p (q ∷ qs) e = by (plugged_before p q) (plugged-at j p qs e)
  where
    here : (t : Bool) → is_plugged j (in_order plugged_before p qs) ≡ true
        → is_some (option_map (λ (x : Plugged). x.body)
        (cond t (Some q) (find (is_plugged_at j) (in_order plugged_before p qs)))) ≡ true
    here true h = refl
    here false h = h

    by : (t : Bool) → is_plugged j (in_order plugged_before p qs) ≡ true
        → is_plugged j (cond t (p ∷ q ∷ qs) (q ∷ in_order plugged_before p qs)) ≡ true
    by true h = ap (λ t. is_some (option_map (λ (x : Plugged). x.body)
        (cond t (Some p) (find (is_plugged_at j) (q ∷ qs))))) e
    by false h = here (q.intf == j) h

pub found-other : (j : ℕ) (p : Plugged) (ms : List Plugged) → (p.intf == j) ≡ false
    → find (is_plugged_at j) (in_order plugged_before p ms) ≡ find (is_plugged_at j) ms
found-other j p [] e = ap (λ t. cond t (Some p) None) e
found-other j p (q ∷ qs) e = by (plugged_before p q) (found-other j p qs e)
  where
    by : (t : Bool)
        → find (is_plugged_at j) (in_order plugged_before p qs) ≡ find (is_plugged_at j) qs
        → find (is_plugged_at j) (cond t (p ∷ q ∷ qs) (q ∷ in_order plugged_before p qs))
        ≡ find (is_plugged_at j) (q ∷ qs)
    by true h = ap (λ t. cond t (Some p) (find (is_plugged_at j) (q ∷ qs))) e
    by false h = ap (λ o. cond (q.intf == j) (Some q) o) h

pub plugged-other : (j : ℕ) (p : Plugged) (ms : List Plugged) → (p.intf == j) ≡ false
    → is_plugged j (in_order plugged_before p ms) ≡ is_plugged j ms
plugged-other j p ms e =
    ap (λ o. is_some (option_map (λ (x : Plugged). x.body) o)) (found-other j p ms e)

pub in-plugged : (x p : Plugged) (ms : List Plugged) → IsIn x (in_order plugged_before p ms)
    → (x ≡ p) ⊎ IsIn x ms
in-plugged x p ms i = in-ordered plugged_before x p ms i

pub plugged-differ : (p : Plugged) (ms : List Plugged)
    → ((q : Plugged) → IsIn q ms → AreElsewhere p q)
    → EachTwo AreElsewhere ms → EachTwo AreElsewhere (in_order plugged_before p ms)
plugged-differ p [] other differ = (tt, tt)
plugged-differ p (q ∷ qs) other differ =
    by (plugged_before p q) (plugged-differ p qs (λ x i. other x (inr i)) differ.1)
  where
    by : (t : Bool) → EachTwo AreElsewhere (in_order plugged_before p qs)
        → EachTwo AreElsewhere (cond t (p ∷ q ∷ qs) (q ∷ in_order plugged_before p qs))
    by true rec = (each-from (AreElsewhere p) (q ∷ qs) other, differ)
    by false rec = (
      each-from (AreElsewhere q) (in_order plugged_before p qs)
          (λ x i. ⊎_elim (λ e k. other q (inl refl) (sym (k ∙ ap (λ (v : Plugged). v.intf) e)))
          (λ j. each-in (AreElsewhere q) qs x differ.0 j) (in-plugged x p qs i)),
      rec,
    )

pub none-plugged : (i : ℕ) (ms : List Plugged) (q : Plugged) → is_plugged i ms ≡ false → IsIn q ms
    → i ≢ q.intf
none-plugged i ms q e j same = by (find (is_plugged_at i) ms) refl e
  where
    by : (o : Option Plugged) → find (is_plugged_at i) ms ≡ o
        → is_some (option_map (λ (x : Plugged). x.body) o) ≡ false → ⊥
    by None f g = not-both (q.intf == i) (ap (λ n. n == i) (sym same) ∙ is-same i)
        (find-none (is_plugged_at i) ms q f j)
    by (Some x) f g = not-both true refl g

-- ---- parts are plugged

-- what is plugged once these are too, and whose power is off
abbrev pub plugged_all : List Plugged → List Plugged → List Plugged
plugged_all [] ms = ms
plugged_all (p ∷ ps) ms = plugged_all ps (plugged p ms)

abbrev pub powered_all : List Plugged → List Port → List Port
powered_all [] ports = ports
powered_all (p ∷ ps) ports = powered_all ps (powered p.intf ports)

pub all-plugged : (ps : List Plugged) (s : State)
    → (each ps (λ p. change (with_plugged p)) s).state ≡ record s {
      modules = plugged_all ps s.modules;
      ports = powered_all ps s.ports;
    }
unfolding machine_opened
all-plugged [] s = refl
all-plugged (p ∷ ps) s = all-plugged ps (with_plugged p s)

-- what is plugged stays so, and each part is
pub old-plugged : (ps ms : List Plugged) (x : Plugged) → IsIn x ms → IsIn x (plugged_all ps ms)
old-plugged [] ms x i = i
old-plugged (p ∷ ps) ms x i =
    old-plugged ps (plugged p ms) x (ordered-stays plugged_before x p ms i)

pub new-plugged : (ps ms : List Plugged) (x : Plugged) → IsIn x ps → IsIn x (plugged_all ps ms)
new-plugged [] ms x i = absurd i
new-plugged (p ∷ ps) ms x (inl e) = old-plugged ps (plugged p ms) x
    (subst (λ y. IsIn y (plugged p ms)) (sym e) (ordered-in plugged_before p ms))
new-plugged (p ∷ ps) ms x (inr j) = new-plugged ps (plugged p ms) x j

pub in-plugged_all : (ps ms : List Plugged) (x : Plugged) → IsIn x (plugged_all ps ms)
    → IsIn x ps ⊎ IsIn x ms
in-plugged_all [] ms x i = inr i
in-plugged_all (p ∷ ps) ms x i = ⊎_elim (λ j. inl (inr j))
    (λ j. ⊎_elim (λ e. inl (inl e)) (λ k. inr k) (in-plugged x p ms j))
    (in-plugged_all ps (plugged p ms) x i)

-- parts are elsewhere than what is plugged
abbrev pub AreNew : List Plugged → List Plugged → Type 0
AreNew ps ms = (p q : Plugged) → IsIn p ps → IsIn q ms → AreElsewhere p q

pub new-behind : (p : Plugged) (ps ms : List Plugged) → EachTwo AreElsewhere (p ∷ ps)
    → AreNew (p ∷ ps) ms → AreNew ps (plugged p ms)
new-behind p ps ms apart new x y i j = ⊎_elim
    (λ e k. each-in (AreElsewhere p) ps x apart.0 i
    (ap (λ (v : Plugged). v.intf) (sym e) ∙ sym k))
    (λ o. new x y (inr i) o) (in-plugged y p ms j)

pub all-differ : (ps ms : List Plugged) → EachTwo AreElsewhere ps → AreNew ps ms
    → EachTwo AreElsewhere ms → EachTwo AreElsewhere (plugged_all ps ms)
all-differ [] ms apart new differ = differ
all-differ (p ∷ ps) ms apart new differ = all-differ ps (plugged p ms) apart.1
    (new-behind p ps ms apart new) (plugged-differ p ms (λ q j. new p q (inl refl) j) differ)

-- elsewhere the same is plugged as before
pub all-other : (j : ℕ) (ps ms : List Plugged) → ((p : Plugged) → IsIn p ps → p.intf ≢ j)
    → find (is_plugged_at j) (plugged_all ps ms) ≡ find (is_plugged_at j) ms
all-other j [] ms other = refl
all-other j (p ∷ ps) ms other = all-other j ps (plugged p ms) (λ q i. other q (inr i))
    ∙ found-other j p ms (by (p.intf == j) refl)
  where
    by : (t : Bool) → (p.intf == j) ≡ t → t ≡ false
    by false e = refl
    by true e = absurd (other p (inl refl) (same-number p.intf j e))

-- ---- the parts of a module

-- one of the parts of a module
pub record IsOfParts (i p count size : ℕ) (x : Plugged) : Type 0 where
  pub primary : x.primary ≡ p
  pub many : x.count ≡ count
  pub from : i ≤ x.intf
  pub below : x.intf < i + size

pub in-parts : (i p count : ℕ) (ms : List Module) (x : Plugged) → IsIn x (parts_from i p count ms)
    → IsOfParts i p count (length ms) x
in-parts i p count [] x k = absurd k
in-parts i p count (m ∷ ms) x (inl e) = record {
  primary = ap (λ (v : Plugged). v.primary) e;
  many = ap (λ (v : Plugged). v.count) e;
  from = let f = ap (λ (v : Plugged). v.intf) e in omega arith;
  below = let f = ap (λ (v : Plugged). v.intf) e in omega arith;
}
in-parts i p count (m ∷ ms) x (inr k) = let r = in-parts (i + 1) p count ms x k in record {
  primary = r.primary;
  many = r.many;
  from = omega (arith, r.from);
  below = omega (arith, r.below);
}

pub parts-in : (j i p count : ℕ) (ms : List Module) → i ≤ j → j < i + length ms
    → HasPart j p count (parts_from i p count ms)
parts-in j i p count [] from below = absurd (omega (arith, from, below))
parts-in j i p count (m ∷ ms) from below = by (j == i) refl
    (λ above. parts-in j (i + 1) p count ms above (omega (arith, below)))
  where
    by : (t : Bool) → (j == i) ≡ t → (i + 1 ≤ j → HasPart j p count (parts_from (i + 1) p count ms))
        → HasPart j p count (parts_from i p count (m ∷ ms))
    by true e rec = record {
      part = record { intf = i; primary = p; count = count; body = m };
      there = inl refl;
      intf = sym (same-number j i e);
      primary = refl;
      many = refl;
    }
    by false e rec = let h = rec (grind (arith, nat_tests, e, from)) in record {
      part = h.part;
      there = inr h.there;
      intf = h.intf;
      primary = h.primary;
      many = h.many;
    }

pub parts-differ : (i p count : ℕ) (ms : List Module)
    → EachTwo AreElsewhere (parts_from i p count ms)
parts-differ i p count [] = tt
parts-differ i p count (m ∷ ms) = (
  each-from (AreElsewhere (record { intf = i; primary = p; count = count; body = m }))
      (parts_from (i + 1) p count ms)
      (λ x k e. let r = in-parts (i + 1) p count ms x k in omega (arith, r.from, e)),
  parts-differ (i + 1) p count ms,
)

-- nothing is plugged yet where a part is to be
pub parts-free : (i : ℕ) (ms : List Module) (ns : List Plugged)
    → list_any (λ j. is_plugged j ns) (span i (length ms)) ≡ false → (p : Plugged)
    → IsIn p (parts_of i ms) → is_plugged p.intf ns ≡ false
parts-free i ms ns free p k = let r = in-parts i i (length ms) ms p k in
    none-any (λ j. is_plugged j ns) (span i (length ms)) p.intf free
    (span-in p.intf i (length ms) r.from r.below)

-- so they are elsewhere than what is plugged
pub parts-new : (i : ℕ) (ms : List Module) (ns : List Plugged)
    → list_any (λ j. is_plugged j ns) (span i (length ms)) ≡ false → AreNew (parts_of i ms) ns
parts-new i ms ns free p q k j = none-plugged p.intf ns q (parts-free i ms ns free p k) j

-- ---- a module is plugged whole

-- A module can be plugged from an interface on: there are so many, and nothing is plugged there.
pub record CanPlug (i : ℕ) (ms : List Module) (ns : List Plugged) : Type 0 where
  pub range : IsRange i (length ms)
  pub free : list_any (λ j. is_plugged j ns) (span i (length ms)) ≡ false

can-plug : (i : ℕ) (ms : List Module) (s : State) (manifest : List ℕ) → 2 ≤ i → 1 ≤ length ms
    → AreUnmet (insert_conditions s i (length ms) manifest) → CanPlug i ms s.modules
can-plug i ms s manifest two one met =
    record { range = range-of i (length ms) two one met.0; free = met.1.0 }

-- So it is where an insertion isn't refused.
pub kinds-plug : (s : State) (i : ℕ) (kinds : List Kind) → IsValid (event.Insert i kinds)
    → refusal s (event.Insert i kinds) ≡ None → CanPlug i (map module_of_kind kinds) s.modules
kinds-plug s i kinds valid allowed =
    let many : length (map module_of_kind kinds) ≡ length kinds =
    length-map kinds module_of_kind in
    can-plug i (map module_of_kind kinds) s [] valid.0.0 (omega (arith, many, valid.1.0))
    (subst (λ n. AreUnmet (insert_conditions s i n [])) (sym many)
    (unmet s (event.Insert i kinds) allowed))

pub raw-plug : (s : State) (i : ℕ) (manifest : List ℕ) → IsValid (event.InsertRaw i manifest)
    → refusal s (event.InsertRaw i manifest) ≡ None
    → CanPlug i (module_raw manifest ∷ []) s.modules
raw-plug s i manifest valid allowed =
    can-plug i (module_raw manifest ∷ []) s manifest valid.0 (omega arith)
    (unmet s (event.InsertRaw i manifest) allowed)

module _ (i : ℕ) (ms : List Module) (ns : List Plugged) (can : CanPlug i ms ns)
    (differ : EachTwo AreElsewhere ns) where
  abbrev pub now : List Plugged
  now = plugged_all (parts_of i ms) ns

  pub now-differ : EachTwo AreElsewhere now
  now-differ = all-differ (parts_of i ms) ns (parts-differ i i (length ms) ms)
      (parts-new i ms ns can.free) differ

  -- it is plugged at each of its interfaces
  pub now-there : (j : ℕ) → i ≤ j → j < i + length ms → plugged_at j now ≡ Some i
  now-there j from below =
      let h = parts-in j i i (length ms) ms from below in
      ap (λ k. plugged_at k now) (sym h.intf)
      ∙ ap (option_map (λ (p : Plugged). p.primary)) (found-part now h.part now-differ
      (new-plugged (parts_of i ms) ns h.part h.there)) ∙ ap Some h.primary

  -- and elsewhere is what was
  pub now-other : (j : ℕ) → (i ≤ j → j < i + length ms → ⊥) → plugged_at j now ≡ plugged_at j ns
  now-other j other = ap (option_map (λ (p : Plugged). p.primary)) (all-other j (parts_of i ms) ns
      (λ p k e. let r = in-parts i i (length ms) ms p k in
      other (omega (arith, r.from, e)) (omega (arith, r.below, e))))

  pub now-whole : AreWhole ns → AreWhole now
  now-whole whole x k = ⊎_elim here (λ o. whole-as x x refl refl refl
      (λ j p count h. record {
        part = h.part;
        there = old-plugged (parts_of i ms) ns h.part h.there;
        intf = h.intf;
        primary = h.primary;
        many = h.many;
      }) (whole x o)) (in-plugged_all (parts_of i ms) ns x k)
    where
      here : IsIn x (parts_of i ms) → IsWhole (plugged_all (parts_of i ms) ns) x
      here j = let r = in-parts i i (length ms) ms x j in
          let primary = r.primary in let many = r.many in record {
            range = record {
              two = omega (arith, can.range.two);
              one = omega (arith, can.range.one);
              within = omega (arith, can.range.within);
            };
            from = omega (arith, r.from);
            below = omega (arith, r.below);
            each = λ k from below.
                let h = parts-in k i i (length ms) ms (omega arith) (omega arith) in record {
                  part = h.part;
                  there = new-plugged (parts_of i ms) ns h.part h.there;
                  intf = h.intf;
                  primary = h.primary ∙ sym primary;
                  many = h.many ∙ sym many;
                };
          }
