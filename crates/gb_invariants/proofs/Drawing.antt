-- The rule for identifiers: one that is drawn is from 1 to the greatest, and isn't in use
-- on its side.
use Rattle.std.proofs.Common.{Bool, List, None, Option, Some, ap, arith, cond, false, inl, inr}
use Rattle.std.proofs.Common.{is_some, option_and_then, refl, suc, sym, true, zero, ℕ, []}
use Rattle.std.proofs.Common.{◌&&◌, ◌==◌, ◌||◌, ◌∙◌, ◌∷◌, ◌≡◌, ◌≤◌}
use Rattle.std.specs.List.{find}
use Rattle.gb_base.specs.declared.end.Side.{Side}
use Rattle.gb_base.specs.declared.end.Side.TheVariants as side
use Rattle.gb_machine.proofs.Labels.{label_after-within}
use Rattle.gb_machine.specs.Bus.{Bus, Connection, Request, connection_of, outcome_of, request_of}
use Rattle.gb_machine.specs.Labels.{cyclic_label, free_label, greatest_label, label_after}
use Rattle.gb_machine.specs.Labels.{last_label, next_label}
use Rattle.gb_machine.specs.Requests.{given_up_with, has_label, is_of, is_used, made_passes}
use Rattle.gb_machine.specs.Requests.{open_requests, open_with, passes}
use Rattle.gb_machine.specs.{LawsBus.is_awaited, Lists.first, Lists.nth, Members.IsIn}
use Rattle.gb_machine.specs.{Wiring.unwired, Wiring.with_connection}
use Rattle.gb_invariants.proofs.Awaiting.{Awaits, AwaitsFewer, awaited, awaits, is-of, is_of-is}
use Rattle.gb_invariants.proofs.Awaiting.{late, not-both, or-right, same-some, side_ended-after}
use Rattle.gb_invariants.proofs.Awaiting.{side_ended-before, still}
use Rattle.gb_invariants.proofs.Outcomes.{both-true, in-open_requests, is-same, open_requests-in}
use Rattle.gb_invariants.proofs.Outcomes.{same-number}
use Rattle.gb_invariants.proofs.Lists.{found-in}

-- An identifier may be drawn on a side of a connection.
pub record IsFree (k : ℕ) (at : Side) (label : ℕ) (b : Bus) : Type 0 where
  pub least : 1 ≤ label
  pub greatest : label ≤ greatest_label
  pub unused : is_used k at b label ≡ false

-- ---- what is in use

-- a request has an identifier on its side
has-label : (r : Request) → has_label r.connection r.side r.label r ≡ true
has-label r = ap (λ t. t && r.label == r.label) (is-of r) ∙ is-same r.label

first-some : (n : ℕ) (ns : List ℕ) → IsIn n ns → is_some (first ns) ≡ true
first-some n [] i = absurd i
first-some n (m ∷ ns) i = refl

found-some : {A : Type 0} (test : A → Bool) (xs : List A) (x : A) → IsIn x xs → test x ≡ true
    → is_some (find test xs) ≡ true
found-some test [] x i h = absurd i
found-some test (y ∷ ys) x i h = by (test y) refl i (found-some test ys x)
  where
    by : (b : Bool) → test y ≡ b → IsIn x (y ∷ ys)
        → (IsIn x ys → test x ≡ true → is_some (find test ys) ≡ true)
        → is_some (cond b (Some y) (find test ys)) ≡ true
    by true e i rec = refl
    by false e (inl is) rec = absurd (not-both (test x) h (ap test is ∙ e))
    by false e (inr later) rec = rec later h

-- the identifier of a request that is awaited and was made is in use
pub awaited-used : (b : Bus) (n : ℕ) (r : Request) → request_of n b ≡ Some r → is_awaited n b ≡ true
    → is_used r.connection r.side b r.label ≡ true
awaited-used b n r made h = by (awaits n b h)
  where
    or-left : (a c : Bool) → a ≡ true → a || c ≡ true
    or-left true c e = refl
    or-left false c e = absurd cc

    by : Awaits n b → is_used r.connection r.side b r.label ≡ true
    by (still q m free) =
        or-left (is_some (open_with r.connection r.side r.label b))
        (is_some (given_up_with r.connection r.side r.label b))
        (first-some n (open_requests (has_label r.connection r.side r.label) b)
        (open_requests-in (has_label r.connection r.side r.label) b n r made (has-label r) free))
    by (late i) =
        or-right (is_some (open_with r.connection r.side r.label b))
        (is_some (given_up_with r.connection r.side r.label b))
        (found-some (passes (has_label r.connection r.side r.label) b) b.given_up n i
        (ap (made_passes (has_label r.connection r.side r.label)) made ∙ has-label r))

-- An identifier that is in use is that of a request that is awaited.
pub record IsInUse (k : ℕ) (at : Side) (b : Bus) (label : ℕ) : Type 0 where
  pub number : ℕ
  pub request : Request
  pub made : request_of number b ≡ Some request
  pub awaited : is_awaited number b ≡ true
  pub connection : request.connection ≡ k
  pub side : at ≡ request.side
  pub label_is : request.label ≡ label

in_use : (k : ℕ) (at : Side) (b : Bus) (label n : ℕ) (r : Request) → request_of n b ≡ Some r
    → is_awaited n b ≡ true → has_label k at label r ≡ true → IsInUse k at b label
in_use k at b label n r made w h =
    let p = both-true (is_of k at r) (r.label == label) h in
    let q = is_of-is k at r p.0 in record {
      number = n;
      request = r;
      made = made;
      awaited = w;
      connection = q.0;
      side = q.1;
      label_is = same-number r.label label p.1;
    }

pub open_with-in_use : (k : ℕ) (at : Side) (label : ℕ) (b : Bus) (n : ℕ)
    → open_with k at label b ≡ Some n
    → (r : Request) × (request_of n b ≡ Some r) × (has_label k at label r ≡ true)
    × (outcome_of n b ≡ None)
open_with-in_use k at label b n h = in-open_requests (has_label k at label) b n
    (head (open_requests (has_label k at label) b) h)
  where
    head : (ns : List ℕ) → first ns ≡ Some n → IsIn n ns
    head [] e = absurd cc
    head (m ∷ ns) e = inl (sym (same-some m n e))

pub given_up_with-is : (k : ℕ) (at : Side) (label : ℕ) (b : Bus) (n : ℕ)
    → given_up_with k at label b ≡ Some n
    → IsIn n b.given_up × ((r : Request) × (request_of n b ≡ Some r)
    × (has_label k at label r ≡ true))
given_up_with-is k at label b n h =
    let f = found-in (passes (has_label k at label) b) b.given_up n h in
    (f.0, by (request_of n b) refl f.1)
  where
    by : (o : Option Request) → request_of n b ≡ o
        → made_passes (has_label k at label) (request_of n b) ≡ true
        → (r : Request) × (request_of n b ≡ Some r) × (has_label k at label r ≡ true)
    by (Some r) e t = (r, e, sym (ap (made_passes (has_label k at label)) e) ∙ t)
    by None e t = absurd (not-both true refl (sym t ∙ ap (made_passes (has_label k at label)) e))

pub used-in_use : (k : ℕ) (at : Side) (b : Bus) (label : ℕ) → is_used k at b label ≡ true
    → IsInUse k at b label
used-in_use k at b label h = by (open_with k at label b) refl (given_up_with k at label b) refl h
  where
    by : (o : Option ℕ) → open_with k at label b ≡ o → (g : Option ℕ)
        → given_up_with k at label b ≡ g → is_used k at b label ≡ true → IsInUse k at b label
    by (Some n) e g f u =
        let w = open_with-in_use k at label b n e in
        in_use k at b label n w.0 w.1 (awaited n b (still w.0 w.1 w.3)) w.2
    by None e (Some n) f u =
        let w = given_up_with-is k at label b n f in
        in_use k at b label n w.1.0 w.1.1 (awaited n b (late w.0)) w.1.2
    by None e None f u =
        absurd (not-both (is_used k at b label) u
        (ap (λ (o : Option ℕ). is_some o || is_some (given_up_with k at label b)) e ∙ ap is_some f))

-- ---- what is drawn

free-unused : (used : ℕ → Bool) (tries start label : ℕ) → 1 ≤ start → start ≤ greatest_label
    → free_label used tries start ≡ Some label
    → (1 ≤ label) × (label ≤ greatest_label) × (used label ≡ false)
unfolding free_label
free-unused used zero start label low high h = absurd cc
free-unused used (suc tries) start label low high h =
    by (used start) refl h (free-unused used tries (label_after start) label)
  where
    by : (t : Bool) → used start ≡ t
        → cond t (free_label used tries (label_after start)) (Some start) ≡ Some label
        → (1 ≤ label_after start → label_after start ≤ greatest_label
        → free_label used tries (label_after start) ≡ Some label
        → (1 ≤ label) × (label ≤ greatest_label) × (used label ≡ false))
        → (1 ≤ label) × (label ≤ greatest_label) × (used label ≡ false)
    by true e h rec = let n = label_after-within start in rec n.0 n.1 h
    by false e h rec =
        let is : start ≡ label = same-some start label h in
        (omega (arith, low, is), omega (arith, high, is), ap used (sym is) ∙ e)

-- An identifier that is drawn is free.
pub drawn-is-free : (k : ℕ) (at : Side) (b : Bus) (label : ℕ) → next_label k at b ≡ Some label
    → IsFree k at label b
drawn-is-free k at b label h = by (connection_of k b) h
  where
    by : (o : Option Connection) → option_and_then (cyclic_label k at b) o ≡ Some label
        → IsFree k at label b
    by None h = absurd cc
    by (Some c) h =
        let n = label_after-within (last_label at c) in
        let f = free-unused (is_used k at b) greatest_label (label_after (last_label at c)) label
        n.0 n.1 h in
        record { least = f.0; greatest = f.1; unused = f.2 }

-- ---- what is in use stays so

same-bool : (x y : Bool) → (x ≡ true → y ≡ true) → (y ≡ true → x ≡ true) → x ≡ y
same-bool true true f g = refl
same-bool false false f g = refl
same-bool true false f g = absurd (not-both false (f refl) refl)
same-bool false true f g = absurd (not-both false (g refl) refl)

-- Where the requests of a side are awaited as before, the same identifiers are in use.
pub used-stays : (k : ℕ) (at : Side) (b after : Bus) → AwaitsFewer b after
    → ((n : ℕ) (r : Request) → request_of n b ≡ Some r → is_of k at r ≡ true → is_awaited n b ≡ true
    → is_awaited n after ≡ true) → (label : ℕ) → is_used k at after label ≡ is_used k at b label
used-stays k at b after fewer stays label =
    same-bool (is_used k at after label) (is_used k at b label)
    (λ h. by (used-in_use k at after label h)) (λ h. back (used-in_use k at b label h))
  where
    used : (c : Bus) (n : ℕ) (r : Request) → request_of n c ≡ Some r → is_awaited n c ≡ true
        → r.connection ≡ k → at ≡ r.side → r.label ≡ label → is_used k at c label ≡ true
    used c n r made w on side_is label_is =
        ap (is_used k at c) (sym label_is) ∙ ap (λ s. is_used k s c r.label) side_is
        ∙ ap (λ j. is_used j r.side c r.label) (sym on) ∙ awaited-used c n r made w

    by : IsInUse k at after label → is_used k at b label ≡ true
    by u = used b u.number u.request (ap (nth u.number) (sym fewer.same) ∙ u.made)
        (fewer.before u.number u.awaited) u.connection u.side u.label_is

    of_side : (r : Request) → r.connection ≡ k → at ≡ r.side → is_of k at r ≡ true
    of_side r on side_is = ap (λ j. is_of j at r) (sym on) ∙ ap (λ s. is_of r.connection s r)
        side_is ∙ is-of r

    back : IsInUse k at b label → is_used k at after label ≡ true
    back u = used after u.number u.request (ap (nth u.number) fewer.same ∙ u.made)
        (stays u.number u.request u.made (of_side u.request u.connection u.side) u.awaited)
        u.connection u.side u.label_is

-- the same identifier comes next where the same are in use and the connection is as before
pub next_label-same : (k : ℕ) (at : Side) (b after : Bus)
    → connection_of k after ≡ connection_of k b
    → ((label : ℕ) → is_used k at after label ≡ is_used k at b label)
    → next_label k at after ≡ next_label k at b
next_label-same k at b after same used = λ i.
    option_and_then (λ c. free_label (λ label. used label i) greatest_label
    (label_after (last_label at c))) (same i)

-- no identifier of another connection is free or taken where one is unwired
pub used-unwired : (j k : ℕ) (at : Side) (b : Bus) → (k ≡ j → ⊥)
    → (label : ℕ) → is_used k at (unwired j b) label ≡ is_used k at b label
used-unwired j k at b other =
    used-stays k at b (unwired j b) (record {
      same = refl;
      before = λ n h. (side_ended-before j side.Far (cut j b)).before n h;
    }) (λ n r made own w. side_ended-after j side.Far (cut j b) n r made (elsewhere r own) w)
  where
    cut : ℕ → Bus → Bus
    cut j b = with_connection j (λ c. record c { wired = false; to_ap = []; to_far = [] }) b

    elsewhere : (r : Request) → is_of k at r ≡ true → is_of j side.Far r ≡ false
    elsewhere r own = by (is_of j side.Far r) refl
      where
        by : (t : Bool) → is_of j side.Far r ≡ t → is_of j side.Far r ≡ false
        by false e = e
        by true e = absurd (other (sym (is_of-is k at r own).0 ∙ (is_of-is j side.Far r e).0))
