-- What is written of lines, by what is done of them.
use Rattle.std.proofs.Common.{◌≡◌, ℕ, ◌+◌, Bool, true, false, cond, ◌||◌, Option, Some, None, Ok}
use Rattle.std.proofs.Common.{Err, List, [], ◌∷◌, ◌++◌, append-nil, refl, sym, ap, ◌∙◌}
use Rattle.std.specs.Prelude.{is_err, is_some}
use Rattle.gb_base.specs.declared.reasons.CaptureFault.{CaptureFault}
use Rattle.gb_formats.specs.AuditTexts.{audited, closing_text, unless_bad}
use Rattle.gb_formats.specs.Captures.{Captured, bad_by, bad_from, captured, first_bad, heard_from}
use Rattle.gb_formats.specs.Lines.{lines}
use Rattle.gb_machine.specs.Report.{has_bad_line, report, report_from}
use Rattle.gbus.specs.Program.{Audit, LineJob, Report, has_bad, is_bad, is_too_long, last_text}
use Rattle.gbus.specs.Program.{lines_output, lines_text, lines_within}
use Rattle.gbus.specs.Sessions.{Begins}

-- ---- bad lines

or-assoc : (t a b : Bool) → t || (a || b) ≡ (t || a) || b
or-assoc true a b = refl
or-assoc false a b = refl

or-true : (t : Bool) → t || true ≡ true
or-true true = refl
or-true false = refl

-- whether a line of a capture is bad doesn't depend on its number
same-bad : (c : Captured) (n m : ℕ) (a b : Option (ℕ × CaptureFault)) → is_some a ≡ is_some b
    → is_some (bad_by c n a) ≡ is_some (bad_by c m b)
same-bad (Ok x) n m a b h = h
same-bad (Err why) n m a b h = refl

bad-from : (n m : ℕ) (ls : List (List ℕ)) → is_some (bad_from n ls) ≡ is_some (bad_from m ls)
unfolding bad_from
bad-from n m [] = refl
bad-from n m (line ∷ ls) =
    same-bad (captured line) n m (bad_from (n + 1) ls) (bad_from (m + 1) ls)
    (bad-from (n + 1) (m + 1) ls)

bad-by : (c : Captured) (ls : List (List ℕ))
    → is_some (bad_by c 1 (bad_from 2 ls)) ≡ is_err c || is_some (bad_from 1 ls)
bad-by (Ok x) ls = bad-from 2 1 ls
bad-by (Err why) ls = refl

pub bad-none : (j : LineJob) → has_bad j [] ≡ false
unfolding has_bad_line bad_from
bad-none (Report hex) = refl
bad-none Audit = refl

pub bad-one : (j : LineJob) (line : List ℕ) (ls : List (List ℕ))
    → has_bad j (line ∷ ls) ≡ is_bad j line || has_bad j ls
unfolding has_bad_line bad_from
bad-one (Report hex) line ls = refl
bad-one Audit line ls = bad-by (captured line) ls

pub bad-of : (j : LineJob) (xs ys : List (List ℕ))
    → has_bad j (xs ++ ys) ≡ has_bad j xs || has_bad j ys
bad-of j [] ys = ap (λ b. b || has_bad j ys) (sym (bad-none j))
bad-of j (line ∷ xs) ys =
    bad-one j line (xs ++ ys) ∙ ap (λ b. is_bad j line || b) (bad-of j xs ys)
    ∙ or-assoc (is_bad j line) (has_bad j xs) (has_bad j ys)
    ∙ ap (λ b. b || has_bad j ys) (sym (bad-one j line xs))

-- good lines, and then a good one
pub good-more : (j : LineJob) (given : List (List ℕ)) (line : List ℕ) → has_bad j given ≡ false
    → is_bad j line ≡ false → has_bad j (given ++ line ∷ []) ≡ false
good-more j given line h good =
    bad-of j given (line ∷ []) ∙ ap (λ b. b || has_bad j (line ∷ [])) h
    ∙ bad-one j line [] ∙ ap (λ b. b || has_bad j []) good ∙ bad-none j

-- a bad line among others
pub bad-among : (j : LineJob) (given : List (List ℕ)) (line : List ℕ) (ls : List (List ℕ))
    → is_bad j line ≡ true → has_bad j (given ++ line ∷ ls) ≡ true
bad-among j given line ls bad =
    bad-of j given (line ∷ ls)
    ∙ ap (λ b. has_bad j given || b) (bad-one j line ls ∙ ap (λ b. b || has_bad j ls) bad)
    ∙ or-true (has_bad j given)

-- ---- the output

-- nothing is written of no lines
pub text-none : (j : LineJob) → lines_text j [] ≡ []
unfolding report_from heard_from bad_from
text-none (Report hex) = refl
text-none Audit = refl

-- nothing stands behind the first bad line
nothing-last : (long : Bool) (first : Option (ℕ × CaptureFault)) (text closing : List ℕ)
    → is_some first ≡ true → text ++ cond long [] (unless_bad first closing) ≡ text
nothing-last true first text closing bad = append-nil text
nothing-last false (Some first) text closing bad = append-nil text
nothing-last false None text closing bad = absurd cc

-- the last line stands behind good ones
is-last : (first : Option (ℕ × CaptureFault)) (closing : List ℕ) → is_some first ≡ false
    → unless_bad first closing ≡ closing
is-last None closing good = refl
is-last (Some first) closing good = absurd cc

-- it begins with what is written of the lines
pub output-begins : (j : LineJob) (text : List ℕ)
    → Begins (lines_text j (lines (lines_within text))) (lines_output j text)
output-begins (Report hex) text = ([], sym (append-nil (report hex (lines_within text))))
output-begins Audit text = (_, refl)

-- where a line is bad, or more bytes came than may, nothing stands behind that
pub output-refused : (j : LineJob) (text : List ℕ) → has_bad j (lines (lines_within text)) ≡ true
    → lines_output j text ≡ lines_text j (lines (lines_within text))
output-refused (Report hex) text bad = refl
output-refused Audit text bad =
    nothing-last (is_too_long text) (first_bad (lines (lines_within text)))
    (audited (lines (lines_within text))) (closing_text (lines (lines_within text))) bad

pub output-long : (j : LineJob) (text : List ℕ) → is_too_long text ≡ true
    → lines_output j text ≡ lines_text j (lines (lines_within text))
output-long (Report hex) text long = refl
output-long Audit text long =
    ap (λ b. audited (lines (lines_within text))
    ++ cond b [] (unless_bad (first_bad (lines (lines_within text)))
    (closing_text (lines (lines_within text))))) long
    ∙ append-nil (audited (lines (lines_within text)))

-- else the last text does
pub output-whole : (j : LineJob) (text : List ℕ) → has_bad j (lines (lines_within text)) ≡ false
    → is_too_long text ≡ false
    → lines_output j text
    ≡ lines_text j (lines (lines_within text)) ++ last_text j (lines (lines_within text))
output-whole (Report hex) text good short = sym (append-nil (report hex (lines_within text)))
output-whole Audit text good short =
    ap (λ b. audited (lines (lines_within text))
    ++ cond b [] (unless_bad (first_bad (lines (lines_within text)))
    (closing_text (lines (lines_within text))))) short
    ∙ ap (λ t. audited (lines (lines_within text)) ++ t)
    (is-last (first_bad (lines (lines_within text))) (closing_text (lines (lines_within text)))
    good)
