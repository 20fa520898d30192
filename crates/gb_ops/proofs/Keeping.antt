-- What is kept stays so at each change.
use Rattle.std.proofs.Common.{◌≡◌, ◌≢◌, ℕ, Bool, true, false, ◌⊎◌, inl, inr, Option, Some, None}
use Rattle.std.proofs.Common.{is_some, option_map, sym, ap, ◌∙◌, arith}
use Rattle.std.proofs.lemmas.Bool.{cases_eq}
use Rattle.gb_labels.specs.Drawing.{Frees, Marks, Takes}
use Rattle.gb_labels.specs.LabelSet.{LabelSet, is_in_use}
use Rattle.gb_ops.proofs.Maps.{same_some}
use Rattle.gb_table.specs.Table.{Puts}
use Rattle.gb_ops.specs.Places.{pending_among}
use Rattle.gb_ops.specs.Tables.{AllCovered, Enters, Kept, ReleasesAs, holder_in, pending_in}
use Rattle.gb_ops.specs.declared.entries.Holder.{Holder}
use Rattle.gb_ops.specs.declared.entries.Pending.{Pending}
use Rattle.gb_ops.specs.declared.tables.Tables.{Tables}

-- an open request's use of its identifier
abbrev pub open_holder : ℕ → Holder
open_holder n = record { number = n; given_up = false }

-- the use of its identifier by one that was given up
abbrev pub late_holder : ℕ → Holder
late_holder n = record { number = n; given_up = true }

-- identifiers stay marked as they are in use when one of them changes
used_after : (old new : LabelSet) (t u : Tables) (label : ℕ) (b : Bool) (w : Option Holder)
    → is_some w ≡ b
    → ((l : ℕ) → is_in_use old l ≡ is_some (holder_in t l)) → Marks old new label b
    → Puts (holder_in t) (holder_in u) label w → (l : ℕ) → is_in_use new l ≡ is_some (holder_in u l)
used_after old new t u label b w is kept m p l = by (cases_eq l label)
  where
    by : (l ≡ label) ⊎ (l ≡ label → ⊥) → is_in_use new l ≡ is_some (holder_in u l)
    by (inl e) =
        ap (is_in_use new) e ∙ m.here ∙ sym is ∙ ap is_some (sym p.here)
        ∙ ap (λ x. is_some (holder_in u x)) (sym e)
    by (inr ne) = m.others l ne ∙ kept l ∙ ap is_some (sym (p.others l ne))

-- the request that an identifier is in use for is one alone
holder_number : (l m n : ℕ) (t : Tables) → holder_in t l ≡ Some (open_holder m)
    → holder_in t l ≡ Some (open_holder n) → m ≡ n
holder_number l m n t a b =
    ap (λ h. h.number) (same_some (open_holder m) (open_holder n) (sym a ∙ b))

-- A request is begun.
pub begun : (old new : LabelSet) (t u : Tables) (label n d : ℕ) → Kept old t
    → holder_in t label ≡ None
    → pending_in t n ≡ None → Enters t u label n d → Takes old new label → Kept new u
begun old new t u label n d k unheld unknown e w = record {
  used = used_after old new t u label true _ (λ i. true) k.used w.marks e.holder;
  held = λ m p h. held m p h (cases_eq m n);
  opened = λ l m h. opened l m h (cases_eq l label);
  covered = e.covered k.covered;
}
  where
    entered : Pending
    entered = record { label = label; deadline = d }

    is_entered : (m : ℕ) (p : Pending) → pending_in u m ≡ Some p → m ≡ n → entered ≡ p
    is_entered m p h is = same_some entered p (sym e.pending.here ∙ ap (pending_in u) (sym is) ∙ h)

    held : (m : ℕ) (p : Pending) → pending_in u m ≡ Some p → (m ≡ n) ⊎ (m ≡ n → ⊥)
        → holder_in u p.label ≡ Some (open_holder m)
    held m p h (inl is) =
        ap (λ x. holder_in u x.label) (sym (is_entered m p h is)) ∙ e.holder.here
        ∙ ap (λ x. Some (open_holder x)) (sym is)
    held m p h (inr ne) =
        let before = k.held m p (sym (e.pending.others m ne) ∙ h) in
        e.holder.others p.label (λ is. absurd (cc (before, unheld, ap (holder_in t) is))) ∙ before

    opened : (l m : ℕ) → holder_in u l ≡ Some (open_holder m) → (l ≡ label) ⊎ (l ≡ label → ⊥)
        → option_map (λ p. p.label) (pending_in u m) ≡ Some l
    opened l m h (inl is) =
        let same = holder_number label m n u (ap (holder_in u) (sym is) ∙ h) e.holder.here in
        ap (λ x. option_map (λ p. p.label) (pending_in u x)) same
        ∙ ap (option_map (λ p. p.label)) e.pending.here
        ∙ ap Some (sym is)
    opened l m h (inr ne) =
        let before = k.opened l m (sym (e.holder.others l ne) ∙ h) in
        ap (option_map (λ p. p.label))
        (e.pending.others m
        (λ is. absurd
        (cc (before, ap (option_map (λ p. p.label)) (ap (pending_in t) is ∙ unknown)))))
        ∙ before

-- The same, of one that was open already. Its former identifier is free.
pub begun_anew : (old freed new : LabelSet) (t m u : Tables) (label n d : ℕ) (p : Pending)
    (r : Option Holder) → Kept old t → holder_in t label ≡ None
    → pending_in t n ≡ Some p → Enters t m label n d → ReleasesAs m u p.label r
    → Frees old freed p.label → Takes freed new label → Kept new u
begun_anew old freed new t m u label n d p r k unheld there e l f w = record {
  used = λ x. used x (cases_eq x label) (cases_eq x p.label);
  held = λ x q h. held x q (pending_same x q h) (cases_eq x n);
  opened = λ x y h. opened x y h (cases_eq x label) (cases_eq x p.label);
  covered = λ x q h.
      let before = e.covered k.covered x q (pending_same x q h) in
      omega (arith, before, l.soonest);
}
  where
    entered : Pending
    entered = record { label = label; deadline = d }

    pending_same : (x : ℕ) (q : Pending) → pending_in u x ≡ Some q → pending_in m x ≡ Some q
    pending_same x q h = sym (ap (λ b. pending_among b x) l.pending) ∙ h

    -- the two identifiers are two
    other : label ≢ p.label
    other is = absurd (cc (ap (holder_in t) is, unheld, k.held n p there))

    here : holder_in u label ≡ Some (open_holder n)
    here = l.holder.others label other ∙ e.holder.here

    else : (x : ℕ) → x ≢ label → x ≢ p.label → holder_in u x ≡ holder_in t x
    else x ne former = l.holder.others x former ∙ e.holder.others x ne

    used : (x : ℕ) → (x ≡ label) ⊎ (x ≡ label → ⊥) → (x ≡ p.label) ⊎ (x ≡ p.label → ⊥)
        → is_in_use new x ≡ is_some (holder_in u x)
    used x (inl is) either =
        ap (is_in_use new) is ∙ w.marks.here ∙ ap is_some (sym here)
        ∙ ap (λ y. is_some (holder_in u y)) (sym is)
    used x (inr ne) (inl is) =
        w.marks.others x ne ∙ ap (is_in_use freed) is ∙ f.marks.here
        ∙ ap is_some (sym l.holder.here) ∙ ap (λ y. is_some (holder_in u y)) (sym is)
    used x (inr ne) (inr former) =
        w.marks.others x ne ∙ f.marks.others x former ∙ k.used x
        ∙ ap is_some (sym (else x ne former))

    held : (x : ℕ) (q : Pending) → pending_in m x ≡ Some q → (x ≡ n) ⊎ (x ≡ n → ⊥)
        → holder_in u q.label ≡ Some (open_holder x)
    held x q h (inl is) =
        let same = same_some entered q (sym e.pending.here ∙ ap (pending_in m) (sym is) ∙ h) in
        ap (λ y. holder_in u y.label) (sym same) ∙ here ∙ ap (λ y. Some (open_holder y)) (sym is)
    held x q h (inr ne) =
        let before = k.held x q (sym (e.pending.others x ne) ∙ h) in
        else q.label (λ is. absurd (cc (before, unheld, ap (holder_in t) is)))
        (λ is. ne (holder_number p.label x n t (ap (holder_in t) (sym is) ∙ before)
        (k.held n p there))) ∙ before

    opened : (x y : ℕ) → holder_in u x ≡ Some (open_holder y)
        → (x ≡ label) ⊎ (x ≡ label → ⊥) → (x ≡ p.label) ⊎ (x ≡ p.label → ⊥)
        → option_map (λ q. q.label) (pending_in u y) ≡ Some x
    opened x y h (inl is) either =
        let same = holder_number label y n u (ap (holder_in u) (sym is) ∙ h) here in
        ap (λ b. option_map (λ q. q.label) (pending_among b y)) l.pending
        ∙ ap (λ z. option_map (λ q. q.label) (pending_in m z)) same
        ∙ ap (option_map (λ q. q.label)) e.pending.here
        ∙ ap Some (sym is)
    opened x y h (inr ne) (inl is) =
        absurd (cc (h, ap (holder_in u) is, l.holder.here))
    opened x y h (inr ne) (inr former) =
        let before = k.opened x y (sym (else x ne former) ∙ h) in
        ap (λ b. option_map (λ q. q.label) (pending_among b y)) l.pending
        ∙ ap (option_map (λ q. q.label))
        (e.pending.others y
        (λ is. former (sym (same_some p.label x
        (ap (option_map (λ q. q.label)) (sym there ∙ ap (pending_in t) (sym is)) ∙ before)))))
        ∙ before

-- An open request is open no more, and its identifier is given something else that isn't an open
-- request, or nothing.
pub left : (old new : LabelSet) (t u : Tables) (n : ℕ) (p : Pending) (w : Option Holder)
    → Kept old t
    → pending_in t n ≡ Some p → Puts (pending_in t) (pending_in u) n None
    → Puts (holder_in t) (holder_in u) p.label w → ((m : ℕ) → w ≡ Some (open_holder m) → ⊥)
    → Marks old new p.label (is_some w) → (AllCovered t → AllCovered u) → Kept new u
left old new t u n p w k there pending holder over marks covered = record {
  used = used_after old new t u p.label (is_some w) w (λ i. is_some w) k.used marks holder;
  held = λ m q h. held m q h (cases_eq m n);
  opened = λ l m h. opened l m h (cases_eq l p.label);
  covered = covered k.covered;
}
  where
    gone : (m : ℕ) (q : Pending) → pending_in u m ≡ Some q → m ≡ n → ⊥
    gone m q h is = absurd (cc (h, ap (pending_in u) is, pending.here))

    held : (m : ℕ) (q : Pending) → pending_in u m ≡ Some q → (m ≡ n) ⊎ (m ≡ n → ⊥)
        → holder_in u q.label ≡ Some (open_holder m)
    held m q h (inl is) = absurd (gone m q h is)
    held m q h (inr ne) =
        let before = k.held m q (sym (pending.others m ne) ∙ h) in
        holder.others q.label
        (λ is. ne (holder_number p.label m n t (ap (holder_in t) (sym is) ∙ before)
        (k.held n p there))) ∙ before

    opened : (l m : ℕ) → holder_in u l ≡ Some (open_holder m) → (l ≡ p.label) ⊎ (l ≡ p.label → ⊥)
        → option_map (λ q. q.label) (pending_in u m) ≡ Some l
    opened l m h (inl is) = absurd (over m (sym holder.here ∙ ap (holder_in u) (sym is) ∙ h))
    opened l m h (inr ne) =
        let before = k.opened l m (sym (holder.others l ne) ∙ h) in
        ap (option_map (λ q. q.label))
        (pending.others m
        (λ is. ne (sym
        (same_some p.label l
        (ap (option_map (λ q. q.label)) (sym there ∙ ap (pending_in t) (sym is))
        ∙ before)))))
        ∙ before
