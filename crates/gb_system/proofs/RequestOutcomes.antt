-- What is told of a request's outcome is that of the state.
use Rattle.std.proofs.Common.{◌≡◌, ◌<◌, ℕ, ◌+◌, Bool, true, false, cond, ◌&&◌, ◌||◌, eqb, nat_lt}
use Rattle.std.proofs.Common.{Option, Some, None, is_some, is_none, option_map, List, [], ◌∷◌, refl}
use Rattle.std.proofs.Common.{sym, ap, ◌∙◌, subst, arith}
use Rattle.std.proofs.lemmas.Bool.Decides.{nat_tests}
use Rattle.gb_base.specs.declared.outcome.Outcome.{Outcome}
use Rattle.gb_bus.specs.Listing.{count}
use Rattle.gb_bus.specs.Naming.{about_of, asked_for, is_asked_for, told_outcome}
use Rattle.gb_bus.specs.Stands.{AreMade}
use Rattle.gb_bus.specs.declared.answers.About.{About}
use Rattle.gb_invariants.specs.Facts.{OutcomesFit}
use Rattle.gb_machine.specs.Bus.{Bus, Request, outcome_of, request_of}
use Rattle.gb_machine.specs.LawsBus.{is_awaited}
use Rattle.gb_machine.specs.Requests.{is_given_up}
use Rattle.gb_machine.specs.State.{State}
use Rattle.gb_system.specs.Outcomes.{outcome_in}
use Rattle.gb_system.specs.Stands.{PartsStand, names_of}
use Rattle.gb_system.specs.declared.parties.Parties.{Parties}

-- a request that is counted was made
counted-made : (n : ℕ) (ns : List ℕ) (b : Bus) → AreMade ns b → 0 < count n ns
    → is_some (request_of n b) ≡ true
counted-made n [] b made some = absurd (omega (arith, some))
counted-made n (m ∷ ns) b made some =
    by (eqb m n) refl some (counted-made n ns b made.1)
  where
    is-same : eqb m n ≡ true → m ≡ n
    is-same e = grind (arith, nat_tests)

    by : (t : Bool) → eqb m n ≡ t → 0 < cond t (count n ns + 1) (count n ns)
        → (0 < count n ns → is_some (request_of n b) ≡ true) → is_some (request_of n b) ≡ true
    by true e more rec = subst (λ k. is_some (request_of k b) ≡ true) (is-same e) made.0
    by false e more rec = rec more

-- one that is open or was given up was made
awaited-made : (n : ℕ) (b : Bus) → OutcomesFit b → is_awaited n b ≡ true
    → is_some (request_of n b) ≡ true
awaited-made n b fits is =
    by (is_some (request_of n b)) (is_none (outcome_of n b)) (is_given_up n b) is
    (λ given. fits.made n (fits.given n given))
  where
    by : (made unended given : Bool) → made && unended || given ≡ true
        → (given ≡ true → made ≡ true) → made ≡ true
    by true unended given e late = refl
    by false unended true e late = late refl
    by false unended false e late = absurd cc

-- one that something asks for was made
asked-made : (x : Parties) (n : ℕ) (s : State) → PartsStand [] x s
    → is_asked_for (names_of s) n s.bus ≡ true → is_some (request_of n s.bus) ≡ true
asked-made x n s st is =
    by (is_awaited n s.bus) (nat_lt 0 (count n (names_of s))) refl refl is
  where
    above : nat_lt 0 (count n (names_of s)) ≡ true → 0 < count n (names_of s)
    above e = grind (arith, nat_tests)

    by : (t u : Bool) → is_awaited n s.bus ≡ t → nat_lt 0 (count n (names_of s)) ≡ u
        → t || u ≡ true → is_some (request_of n s.bus) ≡ true
    by true u awaits named e = awaited-made n s.bus st.bus.facts.fits.outcomes awaits
    by false true awaits named e =
        counted-made n (names_of s) s.bus st.bus.named (above named)
    by false false awaits named e = absurd cc

-- where nothing is said of a request, nothing asks for it
pub told-nothing : (x : Parties) (n : ℕ) (s : State) → PartsStand [] x s
    → None ≡ option_map about_of (asked_for (names_of s) n s.bus) → None ≡ outcome_in n s
told-nothing x n s st none =
    by (is_asked_for (names_of s) n s.bus) refl (sym none)
  where
    gone : (o : Option Request) → is_some o ≡ true → option_map about_of o ≡ None → ⊥
    gone None made e = absurd cc
    gone (Some r) made e = absurd cc

    by : (t : Bool) → is_asked_for (names_of s) n s.bus ≡ t
        → option_map about_of (cond t (request_of n s.bus) None) ≡ None
        → None ≡ cond t (Some (outcome_of n s.bus)) None
    by true is e = absurd (gone (request_of n s.bus) (asked-made x n s st is) e)
    by false is e = refl

-- and else its outcome is told
pub told-outcome : (n : ℕ) (s : State) (about : About) (how : Option Outcome)
    → Some about ≡ option_map about_of (asked_for (names_of s) n s.bus)
    → how ≡ told_outcome (names_of s) n s.bus → Some how ≡ outcome_in n s
told-outcome n s about how is told =
    by (is_asked_for (names_of s) n s.bus) is told
  where
    there : (o : Option Request) → Some about ≡ option_map about_of o
        → cond (is_some o) (outcome_of n s.bus) None ≡ outcome_of n s.bus
    there None e = absurd cc
    there (Some r) e = refl

    by : (t : Bool) → Some about ≡ option_map about_of (cond t (request_of n s.bus) None)
        → how ≡ cond (is_some (cond t (request_of n s.bus) None)) (outcome_of n s.bus) None
        → Some how ≡ cond t (Some (outcome_of n s.bus)) None
    by true e same = ap Some (same ∙ there (request_of n s.bus) e)
    by false e same = absurd cc
