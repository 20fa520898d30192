-- What the sides of connections keep stays what the machine has, where a request is made.
use Rattle.std.proofs.Common.{◌≡◌, ◌⊎◌, ℕ, Bool, true, false, cond, ◌&&◌, ◌||◌, Option, Some, None}
use Rattle.std.proofs.Common.{is_some, is_none, option_and_then, ◌∷◌, refl, sym, ap, ◌∙◌, inl, inr}
use Rattle.std.proofs.Common.{arith}
use Rattle.std.proofs.lemmas.Bool.{cases_eq}
use Rattle.gb_base.specs.declared.end.Side.{Side}
use Rattle.gb_base.specs.declared.outcome.Outcome.TheVariants as outcome
use Rattle.gb_bus.proofs.SideStates.{IsPending, SameSide, Tells, asked, keeps-by, tells}
use Rattle.gb_bus.specs.Stands.{IsHolder, KeepsSide, holding}
use Rattle.gb_invariants.proofs.Awaiting.{is-of, is_of-is, not-both, same-some, sent-after}
use Rattle.gb_invariants.proofs.Awaiting.{sent-awaited, sent-before, sent-made, sent-new}
use Rattle.gb_invariants.proofs.Awaiting.{sent-request, unasked, unended}
use Rattle.gb_invariants.proofs.Drawing.{awaited-used, drawn-is-free, used-in_use}
use Rattle.gb_invariants.proofs.Outcomes.{lookup-past}
use Rattle.gb_invariants.specs.Facts.{OutcomesFit}
use Rattle.gb_machine.proofs.Lists.{nth-within}
use Rattle.gb_machine.specs.Bus.{Bus, Connection, Request, connection_of, is_open, next_number}
use Rattle.gb_machine.specs.Bus.{outcome_of, request_of}
use Rattle.gb_machine.specs.Labels.{cyclic_label, free_label, greatest_label, label_after}
use Rattle.gb_machine.specs.Labels.{last_label}
use Rattle.gb_machine.specs.LawsBus.{is_awaited}
use Rattle.gb_machine.specs.Lists.{lookup}
use Rattle.gb_machine.specs.Requests.{is_given_up, is_of, is_used}
use Rattle.gb_machine.specs.Sending.{Draft, requested, sent}
use Rattle.gb_ops.specs.Calls.{Begins}
use Rattle.gb_ops.specs.Operations.{Operations, holder_of, is_held, next_label, pending_at}
use Rattle.gb_ops.specs.declared.entries.Holder.{Holder}
use Rattle.gb_ops.specs.declared.entries.Pending.{Pending}
use Rattle.gb_table.specs.Table.{Puts}

-- ---- identifiers

-- a request of a side, by its connection and its side
own-is : (k : ℕ) (at : Side) (r : Request) → r.connection ≡ k → at ≡ r.side → is_of k at r ≡ true
own-is k at r on side_is =
    ap (λ j. is_of j at r) (sym on) ∙ ap (λ s. is_of r.connection s r) side_is ∙ is-of r

-- the identifier of a request of a side that is awaited is in use there
pub own-used : (k : ℕ) (at : Side) (b : Bus) (n : ℕ) (r : Request) → request_of n b ≡ Some r
    → is_of k at r ≡ true → is_awaited n b ≡ true → is_used k at b r.label ≡ true
own-used k at b n r made own awaited =
    let h = is_of-is k at r own in
    ap (λ s. is_used k s b r.label) h.1 ∙ ap (λ j. is_used j r.side b r.label) (sym h.0)
    ∙ awaited-used b n r made awaited

same-bool : (x y : Bool) → (x ≡ true → y ≡ true) → (y ≡ true → x ≡ true) → x ≡ y
same-bool true true f g = refl
same-bool false false f g = refl
same-bool true false f g = absurd (not-both false (f refl) refl)
same-bool false true f g = absurd (not-both false (g refl) refl)

-- the same identifiers are in use
pub used-is : (k : ℕ) (at : Side) (x : Operations) (last : ℕ) (b : Bus) → KeepsSide k at x last b
    → (label : ℕ) → is_held x label ≡ is_used k at b label
used-is k at x last b keeps label =
    same-bool (is_held x label) (is_used k at b label) (there (holder_of x label) refl)
    (λ h.
    let u = used-in_use k at b label h in
    ap is_some (ap (holder_of x) (sym u.label_is)
    ∙ keeps.held u.number u.request u.made (own-is k at u.request u.connection u.side) u.awaited))
  where
    there : (o : Option Holder) → holder_of x label ≡ o → is_held x label ≡ true
        → is_used k at b label ≡ true
    there None e h = absurd (not-both (is_held x label) h (ap is_some e))
    there (Some g) e h =
        let q = keeps.used label g e in
        ap (is_used k at b) (sym q.label_is)
        ∙ own-used k at b g.number q.request q.made q.own q.awaited

-- so the same comes next
pub next-is : (k : ℕ) (at : Side) (x : Operations) (c : Connection) (b : Bus)
    → KeepsSide k at x (last_label at c) b → next_label x ≡ cyclic_label k at b c
next-is k at x c b keeps =
    λ i. free_label (λ label. used-is k at x (last_label at c) b keeps label i) greatest_label
    (label_after (keeps.last_is i))

-- an identifier that comes next isn't in use
next-free : (k : ℕ) (at : Side) (x : Operations) (c : Connection) (b : Bus) (label : ℕ)
    → KeepsSide k at x (last_label at c) b → connection_of k b ≡ Some c
    → next_label x ≡ Some label → is_used k at b label ≡ false
next-free k at x c b label keeps live next =
    (drawn-is-free k at b label
    (ap (λ o. option_and_then (cyclic_label k at b) o) live ∙ sym (next-is k at x c b keeps)
    ∙ next)).unused

-- ---- the requests from before

-- a request from before isn't the new one
pub not-next : (b : Bus) (n : ℕ) (r : Request) → request_of n b ≡ Some r → n ≡ next_number b → ⊥
not-next b n r made is = absurd (omega (arith, nth-within n b.requests r made, is))

pub outcome-sent : (d : Draft) (label : ℕ) (b : Bus) (n : ℕ) → (n ≡ next_number b → ⊥)
    → outcome_of n (sent d label b) ≡ outcome_of n b
outcome-sent d label b n other = by d.oneway
  where
    by : (t : Bool)
        → lookup n (cond t ((next_number b, outcome.Sent) ∷ b.outcomes) b.outcomes)
        ≡ lookup n b.outcomes
    by false = refl
    by true = lookup-past (next_number b) n outcome.Sent b.outcomes (λ e. other (sym e))

pub open-sent : (d : Draft) (label : ℕ) (b : Bus) (n : ℕ) (r : Request) → request_of n b ≡ Some r
    → is_open n (sent d label b) ≡ is_open n b
open-sent d label b n r made =
    ap (λ o. is_some o && is_none (outcome_of n (sent d label b))) (sent-request d label b n r made)
    ∙ ap is_none (outcome-sent d label b n (not-next b n r made))
    ∙ sym (ap (λ o. is_some o && is_none (outcome_of n b)) made)

-- A side that doesn't ask is the same, and so is one that asks for a unidirectional request.
pub same-sent : (j : ℕ) (on : Side) (d : Draft) (label : ℕ) (b : Bus) → OutcomesFit b
    → ((d.connection ≡ j → d.side ≡ on → ⊥) ⊎ (d.oneway ≡ true))
    → SameSide j on b (sent d label b)
same-sent j on d label b fits which = record {
  stays = λ n r made own. record {
    made = sent-request d label b n r made;
    unended = open-sent d label b n r made;
    mark = refl;
  };
  back = λ n r made own. back n r own which (sent-made d label b n r made);
}
  where
    unawaited : (n : ℕ) → d.oneway ≡ true → n ≡ next_number b → (t : Bool)
        → is_awaited n (sent d label b) ≡ t → t ≡ false
    unawaited n oneway is false e = refl
    unawaited n oneway is true e = absurd (by (sent-before d label b n fits e))
      where
        by : (is_awaited n b ≡ true) ⊎ ((n ≡ next_number b) × (d.oneway ≡ false)) → ⊥
        by (inl h) =
            not-both (is_awaited n b) h (ap (λ m. is_awaited m b) is ∙ unasked b fits)
        by (inr h) = not-both d.oneway oneway h.1

    back : (n : ℕ) (r : Request) → is_of j on r ≡ true
        → ((d.connection ≡ j → d.side ≡ on → ⊥) ⊎ (d.oneway ≡ true))
        → (request_of n b ≡ Some r) ⊎ ((n ≡ next_number b) × (r ≡ requested d label))
        → (request_of n b ≡ Some r) ⊎ (is_awaited n (sent d label b) ≡ false)
    back n r own w (inl old) = inl old
    back n r own (inl other) (inr new) =
        let h = is_of-is j on (requested d label) (ap (is_of j on) (sym new.1) ∙ own) in
        absurd (other h.0 (sym h.1))
    back n r own (inr oneway) (inr new) =
        inr (unawaited n oneway new.0 (is_awaited n (sent d label b)) refl)

-- ---- the side that asks

pub side-begins : (x y : Operations) (b : Bus) (c : Connection) (d : Draft) (label : ℕ)
    → OutcomesFit b → d.oneway ≡ false → connection_of d.connection b ≡ Some c
    → Begins x y (next_number b) d.deadline label
    → KeepsSide d.connection d.side x (last_label d.side c) b
    → KeepsSide d.connection d.side y label (sent d label b)
side-begins x y b c d label fits twoway live begins keeps =
    keeps-by d.connection d.side y label (sent d label b) begins.last (record {
      entered = λ m r made own unended.
          entered m r own unended (sent-made d label b m r made);
      pending = λ m p h. pending m p h (cases_eq m (next_number b));
      held = λ m r made own awaited.
          held m r own (sent-before d label b m fits awaited) (sent-made d label b m r made);
      used = λ l h e. used l h e (cases_eq l label);
    })
  where
    t : Tells d.connection d.side x b
    t = tells d.connection d.side x (last_label d.side c) b keeps

    free : is_used d.connection d.side b label ≡ false
    free = next-free d.connection d.side x c b label keeps live begins.next

    -- it wasn't open before
    fresh : pending_at x (next_number b) ≡ None
    fresh = by (pending_at x (next_number b)) refl
      where
        by : (o : Option Pending) → pending_at x (next_number b) ≡ o → o ≡ None
        by None e = refl
        by (Some p) e =
            let q = t.pending (next_number b) p e in
            absurd (not-next b (next_number b) q.request q.made refl)

    holds : Puts (holder_of x) (holder_of y) label
        (Some (record { number = next_number b; given_up = false }))
    holds = begins.holder fresh

    first : Holder
    first = record { number = next_number b; given_up = false }

    unmarked : is_given_up (next_number b) b ≡ false
    unmarked = by (is_open (next_number b) b) (is_given_up (next_number b) b) (unasked b fits)
      where
        by : (s t : Bool) → s || t ≡ false → t ≡ false
        by false t h = h
        by true t h = absurd (not-both true refl h)

    first_is : first ≡ holding (next_number b) b
    first_is = ap (λ g. record { number = next_number b; given_up = g }) (sym unmarked)

    entered : (m : ℕ) (r : Request) → is_of d.connection d.side r ≡ true
        → is_open m (sent d label b) ≡ true
        → (request_of m b ≡ Some r) ⊎ ((m ≡ next_number b) × (r ≡ requested d label))
        → pending_at y m ≡ Some (asked r)
    entered m r own unended (inl made) =
        begins.pending.others m (not-next b m r made)
        ∙ t.entered m r made own (sym (open-sent d label b m r made) ∙ unended)
    entered m r own unended (inr new) =
        ap (pending_at y) new.0 ∙ begins.pending.here ∙ ap (λ q. Some (asked q)) (sym new.1)

    opened : is_open (next_number b) (sent d label b) ≡ true
    opened = by (is_open (next_number b) (sent d label b)) (is_given_up (next_number b) b)
        unmarked (sent-awaited d label b fits twoway)
      where
        by : (s t : Bool) → t ≡ false → s || t ≡ true → s ≡ true
        by true t e h = refl
        by false t e h = absurd (not-both t h e)

    pending : (m : ℕ) (p : Pending) → pending_at y m ≡ Some p
        → (m ≡ next_number b) ⊎ (m ≡ next_number b → ⊥)
        → IsPending d.connection d.side m p (sent d label b)
    pending m p h (inl is) = record {
      request = requested d label;
      made = ap (λ n. request_of n (sent d label b)) is ∙ sent-new d label b;
      own = is-of (requested d label);
      unended = ap (λ n. is_open n (sent d label b)) is ∙ opened;
      is = same-some (asked (requested d label)) p
          (sym begins.pending.here ∙ ap (pending_at y) (sym is) ∙ h);
    }
    pending m p h (inr other) =
        let q = t.pending m p (sym (begins.pending.others m other) ∙ h) in record {
          request = q.request;
          made = sent-request d label b m q.request q.made;
          own = q.own;
          unended = open-sent d label b m q.request q.made ∙ q.unended;
          is = q.is;
        }

    held : (m : ℕ) (r : Request) → is_of d.connection d.side r ≡ true
        → (is_awaited m b ≡ true) ⊎ ((m ≡ next_number b) × (d.oneway ≡ false))
        → (request_of m b ≡ Some r) ⊎ ((m ≡ next_number b) × (r ≡ requested d label))
        → holder_of y r.label ≡ Some (holding m b)
    held m r own (inl awaited) (inl made) =
        holds.others r.label
        (λ is. not-both (is_used d.connection d.side b label)
        (ap (is_used d.connection d.side b) (sym is)
        ∙ own-used d.connection d.side b m r made own awaited) free)
        ∙ t.held m r made own awaited
    held m r own awaited (inr new) =
        ap (λ (q : Request). holder_of y q.label) new.1 ∙ holds.here ∙ ap Some first_is
        ∙ ap (λ n. Some (holding n b)) (sym new.0)
    held m r own (inr new) (inl made) = absurd (not-next b m r made new.0)

    used : (l : ℕ) (h : Holder) → holder_of y l ≡ Some h → (l ≡ label) ⊎ (l ≡ label → ⊥)
        → IsHolder d.connection d.side l h (sent d label b)
    used l h e (inl is) =
        let same : first ≡ h = same-some first h
        (sym holds.here ∙ ap (holder_of y) (sym is) ∙ e) in
        let number : next_number b ≡ h.number = ap (λ (g : Holder). g.number) same in record {
          request = requested d label;
          made = ap (λ n. request_of n (sent d label b)) (sym number) ∙ sent-new d label b;
          own = is-of (requested d label);
          label_is = sym is;
          awaited = ap (λ n. is_awaited n (sent d label b)) (sym number)
              ∙ sent-awaited d label b fits twoway;
          is = sym same ∙ first_is ∙ ap (λ n. holding n b) number;
        }
    used l h e (inr other) =
        let q = t.used l h (sym (holds.others l other) ∙ e) in record {
          request = q.request;
          made = sent-request d label b h.number q.request q.made;
          own = q.own;
          label_is = q.label_is;
          awaited = sent-after d label b h.number q.awaited;
          is = q.is;
        }
