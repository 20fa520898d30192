-- The made script's generator, one draw further.
use Rattle.std.proofs.Common.{◌≡◌, ◌≤◌, ◌<◌, ℕ, suc, ◌+◌, ◌-◌, ◌*◌, ◌/◌, ◌%◌, true, false}
use Rattle.std.proofs.Common.{refl, sym, ◌∙◌, ap, subst, ◌==◌, arith}
use Rattle.std.proofs.lemmas.Bool.Decides.{nat_tests}
use Rattle.std.specs.Prelude.{nat_le}
use Rattle.gb_formats.specs.Made.{last_named, made, made_by, made_draw, made_drawn, made_number}
use Rattle.gb_formats.specs.Made.{made_row}
use Rattle.gb_script.specs.Making.{AreDrawn}

-- the number of a draw, from that before it
pub made_number-next : (seed k n : ℕ) → n ≡ suc k
    → made_number seed n ≡ (made_number seed k * 1103515245 + 12345) % 2147483648
unfolding made_number
made_number-next seed k n e = rw e refl

-- a draw whose line names a request is the last such
pub last_named-next : (seed k n : ℕ) → n ≡ suc k → made_row seed n ≤ 3 → last_named seed n ≡ n
unfolding last_named
last_named-next seed k n e h =
    let named : nat_le (made_row seed n) 3 ≡ true = grind (arith, nat_tests) in
    subst (λ m. nat_le (made_row seed m) 3 ≡ true → last_named seed m ≡ m) (sym e)
    (λ t. rw t refl) named

-- after another draw the last such is as before
pub last_named-same : (seed k n : ℕ) → n ≡ suc k → 3 < made_row seed n
    → last_named seed n ≡ last_named seed k
unfolding last_named
last_named-same seed k n e h =
    let other : nat_le (made_row seed n) 3 ≡ false = grind (arith, nat_tests) in
    subst (λ m. nat_le (made_row seed m) 3 ≡ false → last_named seed m ≡ last_named seed k) (sym e)
    (λ t. rw t refl) other

-- the line of the table is the one that the generator draws
pub made_drawn-is : (seed k named draw : ℕ) → named ≡ last_named seed (k - 1)
    → draw ≡ made_draw seed k
    → made_by k named (draw % 8) (2 + draw / 8 % 4) (draw / 32 % 8) ≡ made_drawn seed k
made_drawn-is seed k named draw n d = rw (n, d) refl

-- the lines behind the first 23 are drawn, but for the last
pub made-is-drawn : (seed k : ℕ) → 23 < k → k < 20024 → made_drawn seed (k - 23) ≡ made seed k
made-is-drawn seed k low high =
    let a : nat_le k 4 ≡ false = grind (arith, nat_tests) in
    let b : (k == 5) ≡ false = grind (arith, nat_tests) in
    let c : (k == 6) ≡ false = grind (arith, nat_tests) in
    let d : nat_le k 22 ≡ false = grind (arith, nat_tests) in
    let e : (k == 23) ≡ false = grind (arith, nat_tests) in
    let f : nat_le k 20023 ≡ true = grind (arith, nat_tests) in
    rw (a, b, c, d, e, f) refl

-- before the first draw
pub none-drawn : (seed number : ℕ) → number ≡ seed → seed ≤ 2147483647 → AreDrawn seed 0 number 0
unfolding made_number last_named
none-drawn seed number e h = record {
  number_is = e;
  small = omega (arith, e, h);
  named_is = refl;
  most = omega arith;
}

-- the number of the next draw
pub number-next : (seed k n number next : ℕ) → n ≡ suc k → number ≡ made_number seed k
    → next ≡ (number * 1103515245 + 12345) % 2147483648 → next ≡ made_number seed n
number-next seed k n number next e is after =
    after ∙ ap (λ x. (x * 1103515245 + 12345) % 2147483648) is ∙ sym (made_number-next seed k n e)

-- another draw, whose line names a request
pub names-next : (seed k n number named next row : ℕ) → n ≡ suc k → AreDrawn seed k number named
    → next ≡ (number * 1103515245 + 12345) % 2147483648 → next < 2147483648
    → row ≡ next / 65536 % 8 → row ≤ 3 → AreDrawn seed n next n
names-next seed k n number named next row e d after small r h =
    let is = number-next seed k n number next e d.number_is after in
    let low : made_row seed n ≤ 3 = subst (λ x. x ≤ 3) (r ∙ ap (λ x. x / 65536 % 8) is) h in
    record {
      number_is = is;
      small = small;
      named_is = sym (last_named-next seed k n e low);
      most = omega arith;
    }

-- another draw, whose line names none
pub names-same : (seed k n number named next row : ℕ) → n ≡ suc k → AreDrawn seed k number named
    → next ≡ (number * 1103515245 + 12345) % 2147483648 → next < 2147483648
    → row ≡ next / 65536 % 8 → 3 < row → AreDrawn seed n next named
names-same seed k n number named next row e d after small r h =
    let is = number-next seed k n number next e d.number_is after in
    let high : 3 < made_row seed n = subst (λ x. 3 < x) (r ∙ ap (λ x. x / 65536 % 8) is) h in
    record {
      number_is = is;
      small = small;
      named_is = d.named_is ∙ sym (last_named-same seed k n e high);
      most = omega (arith, e, d.most);
    }
