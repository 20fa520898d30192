-- What a name names was made.
use Rattle.std.proofs.Common.{Bool, List, Some, ap, cond, false, sym, true, ℕ, [], ◌∙◌, ◌∷◌, ◌≡◌}
use Rattle.std.specs.Prelude.{is_some}
use Rattle.gb_base.specs.declared.name.Name.{Name}
use Rattle.gb_machine.specs.{Bus.Bus, Bus.request_of, Members.Each, Names.named, Names.same_name}
use Rattle.gb_invariants.proofs.Awaiting.{same-some}

pub made-named : (x : Name) (ps : List (Name × ℕ)) (n : ℕ) (b : Bus)
    → Each (λ (p : Name × ℕ). is_some (request_of p.1 b) ≡ true) ps
    → named x ps ≡ Some n → is_some (request_of n b) ≡ true
made-named x [] n b h e = absurd cc
made-named x (p ∷ ps) n b h e = by (same_name p.0 x) e (made-named x ps n b h.1)
  where
    by : (t : Bool) → cond t (Some p.1) (named x ps) ≡ Some n
        → (named x ps ≡ Some n → is_some (request_of n b) ≡ true) → is_some (request_of n b) ≡ true
    by true e rec = ap (λ k. is_some (request_of k b)) (sym (same-some p.1 n e)) ∙ h.0
    by false e rec = rec e
