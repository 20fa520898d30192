-- What was told since a connection was opened.
use Rattle.std.proofs.Common.{Bool, List, ap, append_assoc, cond, false, refl, subst, sym, true, ℕ}
use Rattle.std.proofs.Common.{[], ◌++◌, ◌∷◌, ◌≡◌}
use Rattle.std.specs.Prelude.{◌==◌}
use Rattle.gb_base.specs.declared.entry.Entry.{Entry}
use Rattle.gb_base.specs.declared.entry.ConnState.TheVariants as state
use Rattle.gb_base.specs.declared.entry.Entry.TheVariants as entry
use Rattle.gb_machine.specs.{LawsHotPlug.told_since, Members.IsIn}
use Rattle.gb_invariants.proofs.{Lists.in-behind, Lists.in-front, Outcomes.is-same}

-- what an entry does to what was told since connection k was opened
data Since (k : ℕ) (e : Entry) : Type 0 where
  skips : ((es : List Entry) → told_since k (e ∷ es) ≡ told_since k es) → Since k e
  starts : ((es : List Entry) → told_since k (e ∷ es) ≡ es) → Since k e

since : (k : ℕ) (e : Entry) → Since k e
since k (entry.Connection j ap_ i c state.Opening) = by (j == k) refl
  where
    by : (t : Bool) → (j == k) ≡ t → Since k (entry.Connection j ap_ i c state.Opening)
    by true e = starts (λ es. ap (λ b. cond b es (told_since k es)) e)
    by false e = skips (λ es. ap (λ b. cond b es (told_since k es)) e)
since k (entry.Connection j ap_ i c state.Open) = skips (λ es. refl)
since k (entry.Connection j ap_ i c state.Closing) = skips (λ es. refl)
since k (entry.Connection j ap_ i c state.Closed) = skips (λ es. refl)
since k (entry.Connection j ap_ i c state.Failed) = skips (λ es. refl)
since k entry.Done = skips (λ es. refl)
since k _ = skips (λ es. refl)

-- what was told since then is still, once more is told
pub since-more : (k : ℕ) (told es : List Entry) (x : Entry) → IsIn x (told_since k told)
    → IsIn x (told_since k (told ++ es))
since-more k [] es x i = absurd i
since-more k (e ∷ told) es x i = by (since k e) (since-more k told es x)
  where
    by : Since k e → (IsIn x (told_since k told) → IsIn x (told_since k (told ++ es)))
        → IsIn x (told_since k (e ∷ told ++ es))
    by (skips f) rec = subst (IsIn x) (sym (f (told ++ es))) (rec (subst (IsIn x) (f told) i))
    by (starts f) rec =
        subst (IsIn x) (sym (f (told ++ es))) (in-front x told es (subst (IsIn x) (f told) i))

-- A connection was opened: what is told from then on is told since.
abbrev pub IsOpened : ℕ → List Entry → Type 0
IsOpened k told = (es : List Entry) (x : Entry) → IsIn x es → IsIn x (told_since k (told ++ es))

pub opened-more : (k : ℕ) (told more : List Entry) → IsOpened k told → IsOpened k (told ++ more)
opened-more k told more h es x i =
    subst (λ all. IsIn x (told_since k all)) (sym (append_assoc told more es))
    (h (more ++ es) x (in-behind x more es i))

-- where something was told since, it was opened
pub since-opened : (k : ℕ) (told : List Entry) (y : Entry) → IsIn y (told_since k told)
    → IsOpened k told
since-opened k [] y j es x i = absurd j
since-opened k (e ∷ told) y j es x i = by (since k e) (λ l. since-opened k told y l es x i)
  where
    by : Since k e → (IsIn y (told_since k told) → IsIn x (told_since k (told ++ es)))
        → IsIn x (told_since k (e ∷ told ++ es))
    by (skips f) rec = subst (IsIn x) (sym (f (told ++ es))) (rec (subst (IsIn y) (f told) j))
    by (starts f) rec = subst (IsIn x) (sym (f (told ++ es))) (in-behind x told es i)

-- where its opening is told, it is
pub opening-opened : (k ap_ i c : ℕ) (told : List Entry)
    → IsOpened k (told ++ entry.Connection k ap_ i c state.Opening ∷ [])
opening-opened k ap_ i c [] es x j =
    subst (IsIn x) (sym (ap (λ b. cond b es (told_since k es)) (is-same k))) j
opening-opened k ap_ i c (e ∷ told) es x j = by (since k e) (opening-opened k ap_ i c told es x j)
  where
    by : Since k e → IsIn x (told_since k
        ((told ++ entry.Connection k ap_ i c state.Opening ∷ []) ++ es))
        → IsIn x (told_since k (e ∷ (told ++ entry.Connection k ap_ i c state.Opening ∷ []) ++ es))
    by (skips f) rec = subst (IsIn x)
        (sym (f ((told ++ entry.Connection k ap_ i c state.Opening ∷ []) ++ es))) rec
    by (starts f) rec =
        subst (IsIn x) (sym (f ((told ++ entry.Connection k ap_ i c state.Opening ∷ []) ++ es)))
        (in-behind x (told ++ entry.Connection k ap_ i c state.Opening ∷ []) es j)
