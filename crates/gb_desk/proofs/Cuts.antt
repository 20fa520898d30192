-- Events of a history with their entries.
use Rattle.std.proofs.Common.{◌≡◌, ℕ, suc, ◌≤◌, List, [], ◌∷◌, ◌++◌, length, drop, take, refl, sym}
use Rattle.std.proofs.Common.{ap, ◌∙◌, subst, arith}
use Rattle.std.proofs.lemmas.List.{drop-append-le, drop_all, length-append, take-append-le}
use Rattle.std.proofs.lemmas.List.{take_at}
use Rattle.std.proofs.Math.Seq.{take-length}
use Rattle.gb_base.specs.declared.entry.Entry.{Entry}
use Rattle.gb_base.specs.declared.event.Event.{Event}
use Rattle.gb_base.specs.declared.journal.JournalEntry.{JournalEntry}
use Rattle.gb_desk.specs.Heads.{AreCut, cut}
use Rattle.gb_desk.specs.declared.journal.Head.{Head}

-- there is an event for each head
pub cut_length : (hs : List Head) (es : List Entry) → length (cut hs es) ≡ length hs
cut_length [] es = refl
cut_length (h ∷ hs) es = ap suc (cut_length hs (drop h.count es))

-- one event more, with its entries behind those of the others
pub cut_more : (hs : List Head) (h : Head) (es new : List Entry) → AreCut hs es
    → h.count ≡ length new
    → cut (hs ++ h ∷ []) (es ++ new)
    ≡ cut hs es ++ record { by = h.by; event = h.event; entries = new } ∷ []
cut_more [] h es new none count =
    let all : take h.count (es ++ new) ≡ new =
    ap (λ xs. take h.count (xs ++ new)) none ∙ ap (λ n. take n new) count ∙ take-length new in
    ap (λ (xs : List Entry). record { by = h.by; event = h.event; entries = xs } ∷ []) all
cut_more (g ∷ hs) h es new are count =
    let own : take g.count (es ++ new) ≡ take g.count es = take-append-le g.count es new are.0 in
    let rest : drop g.count (es ++ new) ≡ drop g.count es ++ new =
    drop-append-le g.count es new are.0 in
    ap (λ (xs : List Entry). record { by = g.by; event = g.event; entries = xs }
    ∷ cut (hs ++ h ∷ []) (drop g.count (es ++ new))) own
    ∙ ap (λ (l : List JournalEntry).
    record { by = g.by; event = g.event; entries = take g.count es } ∷ l)
    (ap (λ xs. cut (hs ++ h ∷ []) xs) rest ∙ cut_more hs h (drop g.count es) new are.1 count)

pub are_more : (hs : List Head) (h : Head) (es new : List Entry) → AreCut hs es
    → h.count ≡ length new → AreCut (hs ++ h ∷ []) (es ++ new)
are_more [] h es new none count =
    let all : es ++ new ≡ new = ap (λ xs. xs ++ new) none in
    subst (λ (xs : List Entry). (h.count ≤ length xs) × (drop h.count xs ≡ [])) (sym all)
    (omega (arith, count), ap (λ n. drop n new) count ∙ drop_all (length new) new (omega arith))
are_more (g ∷ hs) h es new are count = (
  (let long = length-append es new in let low = are.0 in omega arith),
  subst (λ (xs : List Entry). AreCut (hs ++ h ∷ []) xs)
      (sym (drop-append-le g.count es new are.0))
      (are_more hs h (drop g.count es) new are.1 count),
)

-- ---- an event was added

pub added : (hs gs ks : List Head) (h : Head) (es ds new : List Entry) → AreCut hs es → gs ≡ hs
    → ks ≡ gs ++ h ∷ [] → ds ≡ es ++ new → h.count ≡ length new → AreCut ks ds
added hs gs ks h es ds new are same more behind count =
    subst (λ (l : List Head). AreCut l ds) (sym (more ∙ ap (λ l. l ++ h ∷ []) same))
    (subst (λ (xs : List Entry). AreCut (hs ++ h ∷ []) xs) (sym behind)
    (are_more hs h es new are count))

pub added_is : (journal : List JournalEntry) (hs gs ks : List Head) (h : Head)
    (es ds new : List Entry) → cut hs es ≡ journal → AreCut hs es → gs ≡ hs
    → ks ≡ gs ++ h ∷ [] → ds ≡ es ++ new → h.count ≡ length new
    → cut ks ds ≡ journal ++ record { by = h.by; event = h.event; entries = new } ∷ []
added_is journal hs gs ks h es ds new view are same more behind count =
    ap (λ l. cut l ds) (more ∙ ap (λ l. l ++ h ∷ []) same)
    ∙ ap (λ xs. cut (hs ++ h ∷ []) xs) behind
    ∙ cut_more hs h es new are count
    ∙ ap (λ (l : List JournalEntry).
    l ++ record { by = h.by; event = h.event; entries = new } ∷ []) view

-- copies of some entries were added
pub front_is : (xs ys zs : List Entry) → zs ≡ xs ++ ys → take (length xs) zs ≡ xs
front_is xs ys zs is = ap (λ l. take (length xs) l) is ∙ take_at xs ys (length xs) refl
