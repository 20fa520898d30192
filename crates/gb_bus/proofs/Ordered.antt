-- The live connections with their entries in order of number, and what is seen of these.
use Rattle.std.proofs.Common.{◌≡◌, ℕ, Bool, true, false, cond, not, ◌==◌, ◌||◌, nat_le, List, []}
use Rattle.std.proofs.Common.{◌∷◌, refl, sym, ap, ◌∙◌}
use Rattle.std.specs.List.{list_any}
use Rattle.std.specs.Prelude.{nat_eq}
use Rattle.indexmap.specs.IndexMap.{get, with_entries}
use Rattle.gb_base.specs.declared.end.End.{End}
use Rattle.gb_base.specs.declared.end.Side.{Side}
use Rattle.gb_bus.proofs.InOrder.{keyed, lookup-sorted, unique-sorted}
use Rattle.gb_bus.specs.Connection.{Connection}
use Rattle.gb_bus.specs.Index.{Ends, Live, MapsAgree}
use Rattle.gb_bus.specs.Numbered.{HasSide}
use Rattle.gb_bus.specs.Parts.{numbered}
use Rattle.gb_bus.specs.Seen.{all_seen, by_number, connection_before, number_before, seen}
use Rattle.gb_bus.specs.declared.connection.Connection as code
use Rattle.gb_machine.specs.Lists.{in_order, without}

-- ---- the same map

abbrev pub ordered : Live → Live
ordered live = with_entries live (by_number live.entries)

pub get-ordered : (live : Live) (k : ℕ) → get nat_eq (ordered live) k ≡ get nat_eq live k
get-ordered live k = lookup-sorted k live.entries

pub agree-ordered : {live : Live} {ends : Ends} {q : List End} → MapsAgree live ends q
    → MapsAgree (ordered live) ends q
agree-ordered {live} m = record {
  unique = unique-sorted live.entries m.unique;
  indexed = λ k x there. m.indexed k x (sym (get-ordered live k) ∙ there);
  numbered = λ at k is.
      let h = m.numbered at k is in
      record { connection = h.connection; there = get-ordered live k ∙ h.there; own = h.own };
  marked = λ k x there. m.marked k x (sym (get-ordered live k) ∙ there);
  owned = m.owned;
}

pub side-ordered : (live : Live) (k : ℕ) (at : End) (s : Side) → HasSide live k at s
    → HasSide (ordered live) k at s
side-ordered live k at s h =
    record { connection = h.connection; there = get-ordered live k ∙ h.there; is = h.is }

-- ---- what is seen

pub seen-in : (e : ℕ × code.Connection) (es : List (ℕ × code.Connection))
    → all_seen (in_order number_before e es)
    ≡ in_order connection_before (seen e.0 e.1) (all_seen es)
seen-in e [] = refl
seen-in e (f ∷ es) = by (nat_le e.0 f.0) (seen-in e es)
  where
    by : (b : Bool)
        → all_seen (in_order number_before e es)
        ≡ in_order connection_before (seen e.0 e.1) (all_seen es)
        → all_seen (cond b (e ∷ f ∷ es) (f ∷ in_order number_before e es))
        ≡ cond b (seen e.0 e.1 ∷ all_seen (f ∷ es))
        (seen f.0 f.1 ∷ in_order connection_before (seen e.0 e.1) (all_seen es))
    by true later = refl
    by false later = ap (λ cs. seen f.0 f.1 ∷ cs) later

pub seen-without : (k : ℕ) (es : List (ℕ × code.Connection))
    → all_seen (without (keyed k) es) ≡ without (numbered k) (all_seen es)
seen-without k [] = refl
seen-without k (e ∷ es) = by (e.0 == k) (seen-without k es)
  where
    by : (b : Bool) → all_seen (without (keyed k) es) ≡ without (numbered k) (all_seen es)
        → all_seen (cond (not b) (e ∷ without (keyed k) es) (without (keyed k) es))
        ≡ cond (not b) (seen e.0 e.1 ∷ without (numbered k) (all_seen es))
        (without (numbered k) (all_seen es))
    by true later = later
    by false later = ap (λ cs. seen e.0 e.1 ∷ cs) later

-- whether one passes doesn't depend on the order
pub any-sorted : (test : Connection → Bool) (es : List (ℕ × code.Connection))
    → list_any test (all_seen (by_number es)) ≡ list_any test (all_seen es)
any-sorted test [] = refl
any-sorted test (e ∷ es) =
    one-more e (by_number es) ∙ ap (λ b. test (seen e.0 e.1) || b) (any-sorted test es)
  where
    turn : (a b c : Bool) → (a || (b || c)) ≡ (b || (a || c))
    turn true true c = refl
    turn true false c = refl
    turn false true c = refl
    turn false false c = refl

    one-more : (e : ℕ × code.Connection) (es : List (ℕ × code.Connection))
        → list_any test (all_seen (in_order number_before e es))
        ≡ (test (seen e.0 e.1) || list_any test (all_seen es))
    one-more e [] = refl
    one-more e (f ∷ es) = by (nat_le e.0 f.0) (one-more e es)
      where
        by : (b : Bool)
            → list_any test (all_seen (in_order number_before e es))
            ≡ (test (seen e.0 e.1) || list_any test (all_seen es))
            → list_any test (all_seen (cond b (e ∷ f ∷ es) (f ∷ in_order number_before e es)))
            ≡ (test (seen e.0 e.1) || (test (seen f.0 f.1) || list_any test (all_seen es)))
        by true later = refl
        by false later =
            ap (λ b. test (seen f.0 f.1) || b) later
            ∙ turn (test (seen f.0 f.1)) (test (seen e.0 e.1)) (list_any test (all_seen es))
