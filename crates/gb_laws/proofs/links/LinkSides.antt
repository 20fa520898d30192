-- Whether the application processor's side of a connection is closed, as it goes with the bus.
use Rattle.std.proofs.Common.{Bool, List, None, Option, Some, ap, false, inl, inr, refl, sym, true}
use Rattle.std.proofs.Common.{ℕ, [], ◌++◌, ◌∙◌, ◌∷◌, ◌≡◌, ◌≢◌}
use Rattle.std.specs.List.{find}
use Rattle.std.specs.Prelude.{is_some, option_map, ◌==◌}
use Rattle.gb_base.specs.declared.end.Side.{Side}
use Rattle.gb_base.specs.declared.outcome.Outcome.{Outcome}
use Rattle.gb_base.specs.declared.outcome.Outcome.TheVariants as outcome
use Rattle.gb_machine.specs.Bus.{Bus, Connection, Request, has_number, request_of}
use Rattle.gb_machine.specs.Lists.{at_first, lookup, without}
use Rattle.gb_machine.specs.Requests.{is_of, made_passes, open_on, passes}
use Rattle.gb_machine.specs.{LawsBus.is_awaited, Members.IsIn, Wiring.all_ended, Wiring.side_ended}
use Rattle.gb_invariants.proofs.Awaiting.{Awaits, awaits, late, none-some, not-both, still}
use Rattle.gb_invariants.proofs.BusChanges.{BusChange, bus_after, found-after, goes, leaves}
use Rattle.gb_invariants.proofs.BusChanges.{left_by, made_by, opens, shut_by, shuts}
use Rattle.gb_invariants.proofs.Found.{find-changed, find-left, find-pushed, found-first, none-of}
use Rattle.gb_invariants.proofs.Outcomes.{missing-all, open_requests-in, pair-there, same-number}
use Rattle.gb_invariants.proofs.Outcomes.{there-all}
use Rattle.gb_invariants.proofs.Lists.{in-without}

abbrev pub is_shut : Connection → Bool
is_shut c = c.shut

-- whether the side of the application processor is closed in the first of these that has a number
abbrev pub shut_in : ℕ → List Connection → Option Bool
shut_in n cs = option_map is_shut (find (has_number n) cs)

-- Whether its side of connection n is closed, None where that isn't live.
abbrev pub shut_of : ℕ → Bus → Option Bool
shut_of n b = shut_in n b.connections

-- ---- connections

-- one changes, and its side is as it was
pub shut-first : (k : ℕ) (f : Connection → Connection) (cs : List Connection)
    → ((c : Connection) → (f c).number ≡ c.number) → ((c : Connection) → (f c).shut ≡ c.shut)
    → (n : ℕ) → shut_in n (at_first (has_number k) f cs) ≡ shut_in n cs
shut-first k f cs number shut n =
    found-first n (option_map is_shut) k f cs number (λ c i on one. ap Some (shut c))

-- one is closed, and the others are as they were
pub shut-other : (k : ℕ) (f : Connection → Connection) (cs : List Connection)
    → ((c : Connection) → (f c).number ≡ c.number) → (n : ℕ) → n ≢ k
    → find (has_number n) (at_first (has_number k) f cs) ≡ find (has_number n) cs
shut-other k f cs number n other =
    found-first n (λ o. o) k f cs number (λ c i on one. absurd (other (sym one ∙ on)))

-- its side isn't open then
pub shut-self : (k : ℕ) (cs : List Connection)
    → shut_in k (at_first (has_number k) (λ c. record c { shut = true }) cs) ≢ Some false
shut-self k cs e = by (find (has_number k) cs)
    (ap (option_map is_shut) (sym (find-changed (has_number k) (λ c. record c { shut = true }) cs
    (λ c. refl))) ∙ e)
  where
    closed : Connection → Connection
    closed c = record c { shut = true }

    by : (o : Option Connection)
        → option_map is_shut (option_map (λ (c : Connection). record c { shut = true }) o)
        ≡ Some false → ⊥
    by None f = absurd cc
    by (Some c) f = absurd cc

-- one is there no more
pub shut-left : (k : ℕ) (cs : List Connection) (n : ℕ) → n ≢ k
    → shut_in n (without (has_number k) cs) ≡ shut_in n cs
shut-left k cs n other = ap (option_map is_shut) (find-left (has_number n) (has_number k) cs
    (λ c e. by c (same-number c.number n e) (c.number == k) refl))
  where
    by : (c : Connection) → c.number ≡ n → (t : Bool) → (c.number == k) ≡ t → t ≡ false
    by c e false g = refl
    by c e true g = absurd (other (sym e ∙ same-number c.number k g))

pub shut-gone : (k : ℕ) (cs : List Connection) → shut_in k (without (has_number k) cs) ≢ Some false
shut-gone k cs e = none-some (ap (option_map is_shut) (sym (none-of (has_number k) cs)) ∙ e)

-- one more is there
pub shut-more : (cs : List Connection) (d : Connection) (n : ℕ) → d.number ≢ n
    → shut_in n (cs ++ d ∷ []) ≡ shut_in n cs
shut-more cs d n other =
    ap (option_map is_shut) (find-pushed (has_number n) cs d (by (d.number == n) refl))
  where
    by : (t : Bool) → (d.number == n) ≡ t → t ≡ false
    by false e = refl
    by true e = absurd (other (same-number d.number n e))

-- ---- what becomes of the bus

-- no side is closed, and no connection goes or is made
abbrev pub KeepsShut : BusChange → Type 0
KeepsShut (shuts k) = ⊥
KeepsShut (leaves k) = ⊥
KeepsShut (opens a i c protocol) = ⊥
KeepsShut _ = Unit {0}

pub shut-after : (x : BusChange) (b : Bus) → KeepsShut x → (n : ℕ)
    → shut_of n (bus_after x b) ≡ shut_of n b
shut-after x b well n = found-after n (option_map is_shut) x b (left x well) (made x well)
    (λ c i on one. ap Some ((goes x b c).shut ∙ same x well c.shut))
  where
    left : (x : BusChange) → KeepsShut x → left_by x ≡ Some n → ⊥
    left (leaves k) well e = absurd well
    left _ well e = none-some e

    made : (x : BusChange) → KeepsShut x → (c : Connection) → made_by x b ≡ Some c → c.number ≢ n
    made (opens a i p protocol) well c e = absurd well
    made _ well c e = absurd (none-some e)

    same : (x : BusChange) → KeepsShut x → (t : Bool) → shut_by x t ≡ t
    same (shuts k) well t = absurd well
    same _ well t = refl

-- ---- requests

ended-there : (ns : List ℕ) (n : ℕ) (how : Outcome) (outs : List (ℕ × Outcome)) → IsIn n ns
    → is_some (lookup n (all_ended ns how outs)) ≡ true
ended-there [] n how outs i = absurd i
ended-there (m ∷ ns) n how outs (inl e) = there-all ns n how ((m, how) ∷ outs)
    (ap (λ k. is_some (lookup n ((k, how) ∷ outs))) (sym e) ∙ ap is_some (pair-there n how outs))
ended-there (m ∷ ns) n how outs (inr i) = ended-there ns n how ((m, how) ∷ outs) i

-- none of a side's requests is awaited once they ended
pub side_ended-none : (k : ℕ) (at : Side) (b : Bus) (n : ℕ) (r : Request)
    → request_of n b ≡ Some r → is_of k at r ≡ true → is_awaited n (side_ended k at b) ≡ true → ⊥
side_ended-none k at b n r made of h = by (awaits n (side_ended k at b) h)
  where
    by : Awaits n (side_ended k at b) → ⊥
    by (still q made' free) =
        let open_ = missing-all (open_on k at b) n outcome.Disconnected b.outcomes free in
        not-both (is_some (lookup n (all_ended (open_on k at b) outcome.Disconnected b.outcomes)))
        (ended-there (open_on k at b) n outcome.Disconnected b.outcomes
        (open_requests-in (is_of k at) b n r made of open_)) (ap is_some free)
    by (late i) = not-both (passes (is_of k at) b n) (ap (made_passes (is_of k at)) made ∙ of)
        (in-without (passes (is_of k at) b) b.given_up n i).1
