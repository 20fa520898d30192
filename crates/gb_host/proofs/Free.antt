-- Numbers that are taken, up to the first that may be free.
use Rattle.std.proofs.Common.{◌≡◌, ◌<◌, ◌≤◌, ℕ, zero, suc, ◌+◌, Bool, true, ap, refl, ◌∙◌, arith}
use Rattle.gb_formats.proofs.FirstFree.{free-next}
use Rattle.gb_machine.specs.Lists.{first_free}

-- numbers up to another are taken
pub free-past : (taken : ℕ → Bool) (k t u n m : ℕ) → t ≡ k + u → m ≡ n + k
    → ((a : ℕ) → n ≤ a → a < m → taken a ≡ true) → first_free taken t n ≡ first_free taken u m
free-past taken zero t u n m e f all =
    let tries : t ≡ u = omega (arith, e) in
    let same : n ≡ m = omega (arith, f) in
    ap (λ w. first_free taken w n) tries ∙ ap (first_free taken u) same
free-past taken (suc k) t u n m e f all =
    let tries : t ≡ suc (k + u) = omega (arith, e) in
    let inside : n < m = omega (arith, f) in
    free-next taken t (k + u) n tries (all n (omega arith) inside)
    ∙ free-past taken k (k + u) u (n + 1) m refl (omega (arith, f)) (λ a h w. all a (omega (
      arith,
      h,
    )) w)
