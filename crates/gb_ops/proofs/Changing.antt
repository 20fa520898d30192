-- What the maps and the identifiers come to at each call.
use Rattle.std.proofs.Common.{◌≡◌, ℕ, Bool, false, Option, Some, None, is_some, List, Result}
use Rattle.std.proofs.Common.{Ok, Err, option_map, refl, sym, ap, ◌∙◌, subst, arith}
use Rattle.std.specs.BTreeMap.{is_at}
use Rattle.std.specs.Map.{lookup}
use Rattle.std.specs.Ordering.{nat_cmp}
use Rattle.std.specs.Prelude.{is_none, nat_eq}
use Rattle.std.specs.Result.{is_err}
use Rattle.gb_labels.specs.Drawing.{Frees, IsNext, NextAs, Takes}
use Rattle.gb_labels.specs.LabelSet.{LabelSet, next_of}
use Rattle.gb_labels.specs.declared.labels.NoLabel.{NoLabel}
use Rattle.gb_machine.specs.Labels.{free_label, greatest_label, label_after}
use Rattle.gb_ops.proofs.Keeping.{begun, begun_anew, late_holder, left, open_holder}
use Rattle.gb_ops.proofs.Maps.{same_some}
use Rattle.gb_ops.specs.Calls.{Begins, Closes, Ends}
use Rattle.gb_ops.specs.Finding.{IsLeast}
use Rattle.gb_ops.specs.Operations.{Operations, next_label}
use Rattle.gb_table.specs.Table.{Puts}
use Rattle.gb_ops.specs.Tables.{AllCovered, Enters, Kept, Leaves, LeavesAs, MarksAs}
use Rattle.gb_ops.specs.Tables.{ReleasesAs, gave_up, holder_in, pending_in}
use Rattle.gb_ops.specs.declared.entries.Holder.{Holder}
use Rattle.gb_ops.specs.declared.entries.Pending.{Pending}
use Rattle.gb_ops.specs.declared.tables.Tables.{Tables}

-- what contracts see
abbrev pub view : LabelSet → Tables → Operations
view labels t =
    record {
      holders = t.holders;
      pending = t.pending;
      last = labels.last;
    }

-- the identifier that is drawn next is that of the rule
next_same : (labels : LabelSet) (t : Tables) → Kept labels t
    → next_of labels ≡ next_label (view labels t)
next_same labels t k = λ i. free_label (λ l. k.used l i) greatest_label (label_after labels.last)

-- the identifier that is drawn next, as contracts see it
pub next_seen : (labels : LabelSet) (t : Tables) (x : Operations) → Kept labels t
    → view labels t ≡ x → next_of labels ≡ next_label x
next_seen labels t x k is = next_same labels t k ∙ ap next_label is

-- whether no identifier is left
pub spent : (labels : LabelSet) (t : Tables) (x : Operations) (r : Result ℕ NoLabel)
    → Kept labels t → view labels t ≡ x → NextAs labels r → is_err r ≡ is_none (next_label x)
spent labels t x (Ok label) k is next = ap is_none (sym next.next ∙ next_seen labels t x k is)
spent labels t x (Err why) k is none = ap is_none (sym none.next ∙ next_seen labels t x k is)

none_from : {A : Type 0} (o : Option A) → is_some o ≡ false → o ≡ None
none_from None e = λ i. None
none_from (Some a) e = absurd (cc e)

-- how an open request is found by its number
abbrev by_number : ℕ → ℕ → Bool
by_number n = is_at (nat_cmp n)

-- the same through maps with the same entries
puts_from : {X : Type 0} (at : ℕ → ℕ → Bool) (f : ℕ → Option X) (es fs : List (ℕ × X)) (k : ℕ)
    (w : Option X) → fs ≡ es
    → Puts f (λ q. lookup (at q) es) k w → Puts f (λ q. lookup (at q) fs) k w
puts_from at f es fs k w same p = record {
  here = ap (lookup (at k)) same ∙ p.here;
  others = λ q ne. ap (lookup (at q)) same ∙ p.others q ne;
}

puts_to : {X : Type 0} (at : ℕ → ℕ → Bool) (f : ℕ → Option X) (es fs : List (ℕ × X)) (k : ℕ)
    (w : Option X) → fs ≡ es
    → Puts (λ q. lookup (at q) fs) f k w → Puts (λ q. lookup (at q) es) f k w
puts_to at f es fs k w same p = record {
  here = p.here;
  others = λ q ne. p.others q ne ∙ ap (lookup (at q)) same;
}

-- ---- a request is begun

pub begins : (labels after : LabelSet) (t u : Tables) (x : Operations) (label n d : ℕ)
    → Kept labels t
    → view labels t ≡ x → IsNext labels label → pending_in t n ≡ None
    → Enters t u label n d → Takes labels after label
    → Begins x (view after u) n d label
begins labels after t u x label n d k is next none e w =
    subst (λ o. Begins o (view after u) n d label) is (record {
      next = sym (next_same labels t k) ∙ next.next;
      holder = λ new. e.holder;
      again = λ former there. absurd (cc (there, none));
      pending = e.pending;
      last = w.last;
    })

pub begun_kept : (labels after : LabelSet) (t u : Tables) (label n d : ℕ) → Kept labels t
    → IsNext labels label → pending_in t n ≡ None → Enters t u label n d
    → Takes labels after label
    → Kept after u
begun_kept labels after t u label n d k next none e w =
    begun labels after t u label n d k
    (none_from (holder_in t label) (sym (k.used label) ∙ next.unused)) none e w

-- The request was open already, and its former identifier is free.
pub begins_anew : (labels freed after : LabelSet) (t m u : Tables) (x : Operations) (label n d : ℕ)
    (p : Pending) (r : Option Holder) → Kept labels t
    → view labels t ≡ x → IsNext labels label → pending_in t n ≡ Some p
    → Enters t m label n d → ReleasesAs m u p.label r → Takes freed after label
    → Begins x (view after u) n d label
begins_anew labels freed after t m u x label n d p r k is next there e l w =
    subst (λ o. Begins o (view after u) n d label) is (record {
      next = sym (next_same labels t k) ∙ next.next;
      holder = λ none. absurd (cc (there, none));
      again = λ former is. record {
        between = holder_in m;
        taken = e.holder;
        freed = subst (λ (q : Pending). Puts (holder_in m) (holder_in u) q.label None)
            (same_some p former (sym there ∙ is)) l.holder;
      };
      pending = puts_from by_number (pending_in t) m.pending u.pending n
          (Some (record { label = label; deadline = d })) l.pending e.pending;
      last = w.last;
    })

pub begun_anew_kept : (labels freed after : LabelSet) (t m u : Tables) (label n d : ℕ)
    (p : Pending) (r : Option Holder) → Kept labels t → IsNext labels label
    → pending_in t n ≡ Some p → Enters t m label n d → ReleasesAs m u p.label r
    → Frees labels freed p.label → Takes freed after label → Kept after u
begun_anew_kept labels freed after t m u label n d p r k next there e l f w =
    begun_anew labels freed after t m u label n d p r k
    (none_from (holder_in t label) (sym (k.used label) ∙ next.unused)) there e l f w

-- ---- an open request is over or given up

-- an open request is open no more, and its identifier has this
pub record Departs (t u : Tables) (n : ℕ) (p : Pending) (w : Option Holder) : Type 0 where
  pub there : pending_in t n ≡ Some p
  pub pending : Puts (pending_in t) (pending_in u) n None
  pub holder : Puts (holder_in t) (holder_in u) p.label w
  pub covered : AllCovered t → AllCovered u

-- the soonest stays, and what is open
covered_same : (m u : Tables) → u.pending ≡ m.pending → u.soonest ≡ m.soonest
    → AllCovered m → AllCovered u
covered_same m u pending soonest k n p h =
    let after = k n p (sym (ap (lookup (by_number n)) pending) ∙ h) in
    omega (arith, after, soonest)

pub marked : (labels : LabelSet) (t m u : Tables) (n : ℕ) (p : Pending) → Kept labels t
    → Leaves t m n p
    → MarksAs m u p.label → Departs t u n p (Some (late_holder n))
marked labels t m u n p k l w = record {
  there = l.there;
  pending = puts_from by_number (pending_in t) m.pending u.pending n None w.pending l.pending;
  holder = record {
    here =
        w.holder.here
        ∙ ap (option_map gave_up) (ap (lookup (nat_eq p.label)) l.holders ∙ k.held n p l.there);
    others = λ q ne. w.holder.others q ne ∙ ap (lookup (nat_eq q)) l.holders;
  };
  covered = λ k. covered_same m u w.pending w.soonest (l.covered k);
}

pub released : (t m u : Tables) (n : ℕ) (p : Pending) (r : Option Holder) → Leaves t m n p
    → ReleasesAs m u p.label r → Departs t u n p None
released t m u n p r l w = record {
  there = l.there;
  pending = puts_from by_number (pending_in t) m.pending u.pending n None w.pending l.pending;
  holder = puts_to nat_eq (holder_in u) t.holders m.holders p.label None
      l.holders w.holder;
  covered = λ k. covered_same m u w.pending w.soonest (l.covered k);
}

pub given_up_kept : (labels : LabelSet) (t u : Tables) (n : ℕ) (p : Pending) → Kept labels t
    → Departs t u n p (Some (late_holder n)) → Kept labels u
given_up_kept labels t u n p k d =
    left labels labels t u n p (Some (late_holder n)) k d.there d.pending d.holder over
    (record { here = k.used p.label ∙ ap is_some (k.held n p d.there); others = λ q ne. refl })
    d.covered
  where
    over : (m : ℕ) → Some (late_holder n) ≡ Some (open_holder m) → ⊥
    over m e = let clash = ap (λ x. x.given_up) (same_some (late_holder n) (open_holder m) e) in
        absurd (cc clash)

pub ended_kept : (labels after : LabelSet) (t u : Tables) (n : ℕ) (p : Pending) → Kept labels t
    → Departs t u n p None → Frees labels after p.label → Kept after u
ended_kept labels after t u n p k d f =
    left labels after t u n p None k d.there d.pending d.holder
    (λ m e. absurd (cc e)) f.marks d.covered

pub ends : (labels after : LabelSet) (t u : Tables) (x : Operations) (label n : ℕ) (p : Pending)
    → Kept labels t
    → view labels t ≡ x → Departs t u n p None → Frees labels after p.label → p.label ≡ label
    → Ends x (view after u) label n
ends labels after t u x label n p k is d f at =
    subst (λ o. Ends o (view after u) label n) is
    (subst (λ l. Ends (view labels t) (view after u) l n) at (record {
      found = p;
      there = d.there;
      label_is = refl;
      held = k.held n p d.there;
      holder = d.holder;
      pending = d.pending;
      last = f.last;
    }))

pub closes : (labels after : LabelSet) (t u : Tables) (x : Operations) (n : ℕ) (p : Pending)
    → Kept labels t
    → view labels t ≡ x → IsLeast (pending_in t) n → Departs t u n p None
    → Frees labels after p.label
    → Closes x (view after u) n
closes labels after t u x n p k is least d f =
    subst (λ o. Closes o (view after u) n) is (record {
      label = p.label;
      least = least;
      ends = ends labels after t u (view labels t) p.label n p k refl d f refl;
    })

-- ---- an answer

-- the request that an identifier is in use for is open
pub record IsOpened (t : Tables) (label n : ℕ) : Type 0 where
  pub found : Pending
  pub there : pending_in t n ≡ Some found
  pub label_is : found.label ≡ label

opened : (labels : LabelSet) (t : Tables) (label : ℕ) (h : Holder) → Kept labels t
    → Some h ≡ holder_in t label
    → h.given_up ≡ false → IsOpened t label h.number
opened labels t label h k there shut =
    by (pending_in t h.number) refl (k.opened label h.number held)
  where
    held : holder_in t label ≡ Some (open_holder h.number)
    held = sym there ∙ ap (λ b. Some (record { number = h.number; given_up = b })) shut

    by : (o : Option Pending) → pending_in t h.number ≡ o → option_map (λ p. p.label) o ≡ Some label
        → IsOpened t label h.number
    by None e m = absurd (cc m)
    by (Some p) e m = record { found = p; there = e; label_is = same_some p.label label m }

leaves_it : (m u : Tables) (n : ℕ) (p : Pending) (r : Option Pending) → pending_in m n ≡ Some p
    → LeavesAs m u n r
    → Leaves m u n p
leaves_it m u n p None there l = absurd (cc (there, l.0))
leaves_it m u n p (Some q) there l =
    subst (λ z. Leaves m u n z) (same_some q p (sym l.there ∙ there)) l

-- an open request is over by its answer
pub record Answered (t u : Tables) (label n : ℕ) : Type 0 where
  pub found : Pending
  pub label_is : found.label ≡ label
  pub departs : Departs t u n found None

pub answered : (labels : LabelSet) (t m u : Tables) (label : ℕ) (h : Holder) (r : Option Pending)
    → Kept labels t
    → ReleasesAs t m label (Some h) → h.given_up ≡ false → LeavesAs m u h.number r
    → Answered t u label h.number
answered labels t m u label h r k w shut l =
    let is = opened labels t label h k w.there shut in
    let away =
    leaves_it m u h.number is.found r
    (ap (lookup (by_number h.number)) w.pending ∙ is.there) l in
    record {
      found = is.found;
      label_is = is.label_is;
      departs = record {
        there = is.there;
        pending = puts_to by_number (pending_in u) t.pending m.pending h.number None
            w.pending away.pending;
        holder =
            subst (λ x. Puts (holder_in t) (holder_in u) x None) (sym is.label_is)
            (puts_from nat_eq (holder_in t) m.holders u.holders label None
            away.holders w.holder);
        covered = λ k. away.covered (covered_same t m w.pending w.soonest k);
      };
    }

pub answered_kept : (labels after : LabelSet) (t u : Tables) (label n : ℕ) → Kept labels t
    → Answered t u label n
    → Frees labels after label → Kept after u
answered_kept labels after t u label n k a f =
    ended_kept labels after t u n a.found k a.departs
    (subst (λ x. Frees labels after x) (sym a.label_is) f)

pub replies : (labels after : LabelSet) (t u : Tables) (x : Operations) (label n : ℕ)
    → Kept labels t
    → view labels t ≡ x → Answered t u label n → Frees labels after label
    → Ends x (view after u) label n
replies labels after t u x label n k is a f =
    ends labels after t u x label n a.found k is a.departs
    (subst (λ z. Frees labels after z) (sym a.label_is) f)
    a.label_is
