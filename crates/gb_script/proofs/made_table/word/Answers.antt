-- A number of at most five digits is written by them.
use Rattle.std.proofs.Common.{◌≡◌, ◌≤◌, ◌+◌, ◌/◌, ◌%◌, ℕ, List, [], ◌∷◌, ◌++◌, Option}
use Rattle.std.proofs.Common.{refl, sym, ap, ◌∙◌, arith}
use Rattle.std.proofs.lemmas.Fmt.{decimal_digit, decimal_step}
use Rattle.std.specs.Prelude.{Some, None, if◌then◌else◌}
use Rattle.std.specs.Fmt.{decimal}
use Rattle.gb_base.specs.Name.{is_name}
use Rattle.gb_formats.specs.Made.{made_name}
use Rattle.gb_formats.proofs.MadeValid.{made_name-valid}
use Rattle.gb_script.proofs.made_table.word.Goals as goal

-- the word whose bytes are `n` and a number's digits
spelled : (k : ℕ) {digits : List ℕ} {word : Option (List ℕ)} → k ≤ 20000 → digits ≡ decimal k
    → word ≡ (if is_name (110 ∷ digits) then Some (110 ∷ digits) else None)
    → word ≡ Some (made_name k).word
spelled k small is made =
    made ∙ ap (λ ds. if is_name (110 ∷ ds) then Some (110 ∷ ds) else None) is
    ∙ rw (made_name-valid k (omega (arith, small))) refl

-- a number below ten has one digit
one : (n : ℕ) {digit : ℕ} → n / 10 ≡ 0 → digit ≡ 48 + n % 10 → digit ∷ [] ≡ decimal n
one n low is =
    let whole : n % 10 ≡ n = omega (arith, low) in
    rw (is, whole) (sym (decimal_digit n (omega (arith, low))))

-- another number's last digit stands behind those of its tenth
more : (n : ℕ) {digit : ℕ} {digits : List ℕ} → n ≤ 20000 → (n / 10 ≡ 0 → ⊥)
    → digits ≡ decimal (n / 10) → digit ≡ 48 + n % 10 → digits ++ digit ∷ [] ≡ decimal n
more n small high are is =
    rw (are, is) (sym (decimal_step n (omega (arith, high)) (omega (arith, small))))

pub returns-then-tens-eq0 : goal.returns-then-tens-eq0
returns-then-tens-eq0 c =
    let k = c.args.k in
    spelled k c.requires (one k c.if-tens-eq0.true c.digit.ensures) c.from_bytes.ensures

pub returns-then-hundreds-eq0 : goal.returns-then-hundreds-eq0
returns-then-hundreds-eq0 c =
    let k = c.args.k in
    spelled k c.requires
    (more k c.requires c.if-tens-eq0.false
    (one (k / 10) c.if-hundreds-eq0.true c.digit-then-hundreds-eq0.ensures)
    c.digit-then-hundreds-eq0-2.ensures)
    c.from_bytes-then-hundreds-eq0.ensures

pub returns-then-thousands-eq0 : goal.returns-then-thousands-eq0
returns-then-thousands-eq0 c =
    let k = c.args.k in
    spelled k c.requires
    (more k c.requires c.if-tens-eq0.false
    (more (k / 10) (omega (arith, c.requires)) c.if-hundreds-eq0.false
    (one (k / 10 / 10) c.if-thousands-eq0.true c.digit-then-thousands-eq0.ensures)
    c.digit-then-thousands-eq0-2.ensures)
    c.digit-then-thousands-eq0-3.ensures)
    c.from_bytes-then-thousands-eq0.ensures

pub returns-then-ten_thousands-eq0 : goal.returns-then-ten_thousands-eq0
returns-then-ten_thousands-eq0 c =
    let k = c.args.k in
    spelled k c.requires
    (more k c.requires c.if-tens-eq0.false
    (more (k / 10) (omega (arith, c.requires)) c.if-hundreds-eq0.false
    (more (k / 10 / 10) (omega (arith, c.requires)) c.if-thousands-eq0.false
    (one (k / 10 / 10 / 10) c.if-ten_thousands-eq0.true c.digit-then-ten_thousands-eq0.ensures)
    c.digit-then-ten_thousands-eq0-2.ensures)
    c.digit-then-ten_thousands-eq0-3.ensures)
    c.digit-then-ten_thousands-eq0-4.ensures)
    c.from_bytes-then-ten_thousands-eq0.ensures

pub returns : goal.returns
returns c =
    let k = c.args.k in
    spelled k c.requires
    (more k c.requires c.if-tens-eq0.false
    (more (k / 10) (omega (arith, c.requires)) c.if-hundreds-eq0.false
    (more (k / 10 / 10) (omega (arith, c.requires)) c.if-thousands-eq0.false
    (more (k / 10 / 10 / 10) (omega (arith, c.requires)) c.if-ten_thousands-eq0.false
    (one (k / 10 / 10 / 10 / 10) (omega (arith, c.requires)) c.digit-2.ensures)
    c.digit-3.ensures)
    c.digit-4.ensures)
    c.digit-5.ensures)
    c.digit-6.ensures)
    c.from_bytes-2.ensures
