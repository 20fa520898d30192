-- Where in a capture a member of its findings or pairs comes from.
use Rattle.std.proofs.Common.{◌≡◌, ℕ, ◌<◌, ◌||◌, Bool, true, false, cond}
use Rattle.std.proofs.Common.{Option, Some, None, List, [], ◌∷◌, ◌++◌, reverse}
use Rattle.std.proofs.Common.{refl, sym, ap, subst, ◌∙◌}
use Rattle.std.specs.List.{cons_option, find, list_any}
use Rattle.gb_capture.specs.Audits.{AreBelow}
use Rattle.gb_capture.specs.Pairing.{AreRising, IsIn}
use Rattle.gb_capture.proofs.Rules.{turned}
use Rattle.gb_formats.specs.Audit.{each_after}
use Rattle.gb_formats.specs.Captures.{Heard}

-- what a rule gave at one of these messages, and what it gave before
pub record ComesFrom {A : Type 0} (rule : List Heard → Heard → Option A) (past ms : List Heard)
    (given : List A) (x : A) : Type 0 where
  pub before : List Heard
  pub at : Heard
  pub behind : List Heard
  pub whole : ms ≡ before ++ at ∷ behind
  pub gave : rule (reverse before ++ past) at ≡ Some x
  pub earlier : each_after rule past before ≡ given

pub comes-from : {A : Type 0} (rule : List Heard → Heard → Option A) (past ms : List Heard)
    (given more : List A) (x : A) → each_after rule past ms ≡ given ++ x ∷ more
    → ComesFrom rule past ms given x
comes-from rule past [] [] more x e = absurd (cc e)
comes-from rule past [] (g ∷ given) more x e = absurd (cc e)
comes-from {A} rule past (m ∷ ms) given more x e =
    by (rule past m) refl given e (λ g. comes-from rule (m ∷ past) ms g more x)
  where
    later : (g : List A) (o : Option A) → rule past m ≡ o
        → ComesFrom rule (m ∷ past) ms g x → ComesFrom rule past (m ∷ ms) (cons_option o g) x
    later g o is f = record {
      before = m ∷ f.before;
      at = f.at;
      behind = f.behind;
      whole = ap (λ xs. m ∷ xs) f.whole;
      gave = ap (λ p. rule p f.at) (sym (turned m f.before past)) ∙ f.gave;
      earlier = ap (λ r. cons_option r (each_after rule (m ∷ past) f.before)) is
          ∙ ap (cons_option o) f.earlier;
    }

    by : (o : Option A) → rule past m ≡ o → (g : List A)
        → cons_option o (each_after rule (m ∷ past) ms) ≡ g ++ x ∷ more
        → ((g' : List A) → each_after rule (m ∷ past) ms ≡ g' ++ x ∷ more
        → ComesFrom rule (m ∷ past) ms g' x)
        → ComesFrom rule past (m ∷ ms) g x
    by None is g e' next = later g None is (next g e')
    by (Some y) is [] e' next = record {
      before = [];
      at = m;
      behind = ms;
      whole = refl;
      gave = is ∙ ap Some (cc e');
      earlier = refl;
    }
    by (Some y) is (z ∷ g) e' next =
        let first : y ≡ z = cc e' in
        let rest : each_after rule (m ∷ past) ms ≡ g ++ x ∷ more = cc e' in
        subst (λ k. ComesFrom rule past (m ∷ ms) (k ∷ g) x) first
        (later g (Some y) is (next g rest))

-- what a rule gives at a message is among all that it gives
pub is-given : {A : Type 0} (rule : List Heard → Heard → Option A) (past before behind : List Heard)
    (m : Heard) (x : A) → rule (reverse before ++ past) m ≡ Some x
    → IsIn x (each_after rule past (before ++ m ∷ behind))
is-given rule past [] behind m x e = record {
  before = [];
  behind = each_after rule (m ∷ past) behind;
  whole = ap (λ o. cons_option o (each_after rule (m ∷ past) behind)) e;
}
is-given {A} rule past (b ∷ before) behind m x e =
    by (rule past b)
    (is-given rule (b ∷ past) before behind m x (ap (λ p. rule p m) (turned b before past) ∙ e))
  where
    by : (o : Option A) → IsIn x (each_after rule (b ∷ past) (before ++ m ∷ behind))
        → IsIn x (cons_option o (each_after rule (b ∷ past) (before ++ m ∷ behind)))
    by None h = h
    by (Some y) h = record {
      before = y ∷ h.before;
      behind = h.behind;
      whole = ap (λ xs. y ∷ xs) h.whole;
    }

-- where a rule gives nothing at all, it gives nothing at any message
pub gives-nothing : {A : Type 0} (rule : List Heard → Heard → Option A)
    (past before behind : List Heard) (m : Heard)
    → each_after rule past (before ++ m ∷ behind) ≡ [] → rule (reverse before ++ past) m ≡ None
gives-nothing rule past [] behind m e = by (rule past m) e
  where
    by : (o : Option _) → cons_option o (each_after rule (m ∷ past) behind) ≡ [] → o ≡ None
    by None e' = refl
    by (Some x) e' = absurd (cc e')
gives-nothing {A} rule past (b ∷ before) behind m e =
    ap (λ p. rule p m) (sym (turned b before past))
    ∙ gives-nothing rule (b ∷ past) before behind m (by (rule past b) e)
  where
    by : (o : Option A)
        → cons_option o (each_after rule (b ∷ past) (before ++ m ∷ behind)) ≡ []
        → each_after rule (b ∷ past) (before ++ m ∷ behind) ≡ []
    by None e' = e'
    by (Some x) e' = absurd (cc e')

-- ---- lines

-- the lines before a message are earlier ones
pub rising-below : (past before behind : List Heard) (m : Heard) (line : ℕ)
    → AreRising line (before ++ m ∷ behind)
    → ((at : ℕ) → line < at → AreBelow at past) → AreBelow m.line (reverse before ++ past)
rising-below past [] behind m line rises below = below m.line rises.0
rising-below past (b ∷ before) behind m line rises below =
    subst (AreBelow m.line) (turned b before past)
    (rising-below (b ∷ past) before behind m b.line rises.1
    (λ at less. (less, below b.line rises.0)))

-- so are those of each front
pub rising-front : (before behind : List Heard) (line : ℕ) → AreRising line (before ++ behind)
    → AreRising line before
rising-front [] behind line rises = tt
rising-front (b ∷ before) behind line rises =
    (rises.0, rising-front before behind b.line rises.1)

-- ---- what is found

-- a message that is found first from the end, and those behind it
pub record FoundAt (test : Heard → Bool) (past : List Heard) (q : Heard) : Type 0 where
  pub later : List Heard
  pub earlier : List Heard
  pub whole : past ≡ later ++ q ∷ earlier
  pub passes : test q ≡ true
  pub others : list_any test later ≡ false

pub found-at : (test : Heard → Bool) (past : List Heard) (q : Heard) → find test past ≡ Some q
    → FoundAt test past q
found-at test [] q e = absurd (cc e)
found-at test (m ∷ past) q e = by (test m) refl e (found-at test past q)
  where
    some-is : (a b : Heard) → Some a ≡ Some b → a ≡ b
    some-is a b h = cc h

    by : (b : Bool) → test m ≡ b → cond b (Some m) (find test past) ≡ Some q
        → (find test past ≡ Some q → FoundAt test past q) → FoundAt test (m ∷ past) q
    by true is e' next =
        subst (FoundAt test (m ∷ past)) (some-is m q e')
        (record { later = []; earlier = past; whole = refl; passes = is; others = refl })
    by false is e' next =
        let f = next e' in record {
          later = m ∷ f.later;
          earlier = f.earlier;
          whole = ap (λ xs. m ∷ xs) f.whole;
          passes = f.passes;
          others = ap (λ b. b || list_any test f.later) is ∙ f.others;
        }

-- it is found, where none behind it passes
pub finds : (test : Heard → Bool) (later earlier : List Heard) (q : Heard)
    → list_any test later ≡ false → test q ≡ true → find test (later ++ q ∷ earlier) ≡ Some q
finds test [] earlier q none is = ap (λ b. cond b (Some q) (find test earlier)) is
finds test (m ∷ later) earlier q none is = by (test m) none (finds test later earlier q)
  where
    by : (b : Bool) → (b || list_any test later) ≡ false
        → (list_any test later ≡ false → test q ≡ true
        → find test (later ++ q ∷ earlier) ≡ Some q)
        → cond b (Some m) (find test (later ++ q ∷ earlier)) ≡ Some q
    by true e next = absurd (cc e)
    by false e next = next e is
