-- The lines of a text, of its front and of what is behind it.
use Rattle.std.proofs.Common.{◌≡◌, ℕ, ◌<◌, ◌||◌, Bool, true, false, cond, List, [], ◌∷◌, ◌++◌}
use Rattle.std.proofs.Common.{length, append_assoc, append-nil, refl, sym, ap, ◌∙◌, arith}
use Rattle.std.specs.List.{list_any}
use Rattle.gb_formats.specs.Lines.{ended_lines, is_lf, last_line, lines, lines_after, without_cr}
use Rattle.gb_script.specs.Pieces.{HasNoLf}

-- ---- where an LF stands

any-plain : (xs raw : List ℕ) → HasNoLf raw → list_any is_lf (xs ++ raw) ≡ list_any is_lf xs
any-plain [] raw h = h
any-plain (b ∷ bs) raw h = ap (λ t. is_lf b || t) (any-plain bs raw h)

or-true : (t : Bool) → t || true ≡ true
or-true true = refl
or-true false = refl

any-lf : (xs : List ℕ) → list_any is_lf (xs ++ 10 ∷ []) ≡ true
any-lf [] = refl
any-lf (b ∷ bs) = ap (λ t. is_lf b || t) (any-lf bs) ∙ or-true (is_lf b)

-- a text that ends with LF has no other line at its end
pub ended-lf : (xs : List ℕ) → ended_lines (xs ++ 10 ∷ []) ≡ xs ++ 10 ∷ []
ended-lf [] = refl
ended-lf (b ∷ bs) =
    ap (λ t. cond t (b ∷ ended_lines (bs ++ 10 ∷ [])) []) (any-lf (b ∷ bs))
    ∙ ap (λ t. b ∷ t) (ended-lf bs)

-- bytes without LF end no line
pub ended-plain : (xs raw : List ℕ) → HasNoLf raw → ended_lines (xs ++ raw) ≡ ended_lines xs
ended-plain [] [] h = refl
ended-plain [] (b ∷ bs) h = ap (λ t. cond t (b ∷ ended_lines bs) []) h
ended-plain (b ∷ bs) raw h =
    ap (λ t. cond t (b ∷ ended_lines (bs ++ raw)) []) (any-plain (b ∷ bs) raw h)
    ∙ ap (λ t. cond (list_any is_lf (b ∷ bs)) (b ∷ t) []) (ended-plain bs raw h)

-- ---- lines

-- one line that ends
after-lf : (front raw : List ℕ)
    → HasNoLf raw → lines_after front (raw ++ 10 ∷ []) ≡ without_cr (front ++ raw) ∷ []
after-lf front [] h = ap (λ f. without_cr f ∷ []) (sym (append-nil front))
after-lf front (b ∷ bs) h = lf-step (is_lf b) (λ g. after-lf (front ++ b ∷ []) bs g) h
  where
    lf-step : (t : Bool)
        → (HasNoLf bs
        → lines_after (front ++ b ∷ []) (bs ++ 10 ∷ []) ≡ without_cr ((front ++ b ∷ []) ++ bs) ∷ [])
        → t || list_any is_lf bs ≡ false
        → cond t (without_cr front ∷ lines_after [] (bs ++ 10 ∷ []))
        (lines_after (front ++ b ∷ []) (bs ++ 10 ∷ []))
        ≡ without_cr (front ++ b ∷ bs) ∷ []
    lf-step true later g = absurd cc
    lf-step false later g = later g ∙ ap (λ f. without_cr f ∷ []) (append_assoc front (b ∷ []) bs)

pub one-line : (raw : List ℕ) → HasNoLf raw → lines (raw ++ 10 ∷ []) ≡ without_cr raw ∷ []
one-line raw h = after-lf [] raw h

-- the last line, which doesn't end
after-plain : (front raw : List ℕ) → HasNoLf raw → lines_after front raw ≡ last_line (front ++ raw)
after-plain front [] h = ap last_line (sym (append-nil front))
after-plain front (b ∷ bs) h = plain-step (is_lf b) (λ g. after-plain (front ++ b ∷ []) bs g) h
  where
    plain-step : (t : Bool)
        → (HasNoLf bs → lines_after (front ++ b ∷ []) bs ≡ last_line ((front ++ b ∷ []) ++ bs))
        → t || list_any is_lf bs ≡ false
        → cond t (without_cr front ∷ lines_after [] bs) (lines_after (front ++ b ∷ []) bs)
        ≡ last_line (front ++ b ∷ bs)
    plain-step true later g = absurd cc
    plain-step false later g = later g ∙ ap last_line (append_assoc front (b ∷ []) bs)

last-some : (raw : List ℕ) → 0 < length raw → last_line raw ≡ raw ∷ []
last-some [] h = absurd (omega arith)
last-some (b ∷ bs) h = refl

pub last-line : (raw : List ℕ) → HasNoLf raw → 0 < length raw → lines raw ≡ raw ∷ []
last-line raw h some = after-plain [] raw h ∙ last-some raw some

-- ---- behind lines that end

-- all but the first byte of a text that ends with LF, where there are others
tail-ended : (b c : ℕ) (bs : List ℕ)
    → ended_lines (b ∷ c ∷ bs) ≡ b ∷ c ∷ bs → ended_lines (c ∷ bs) ≡ c ∷ bs
tail-ended b c bs h = tail-step (list_any is_lf (b ∷ c ∷ bs)) h
  where
    tail-step : (t : Bool)
        → cond t (b ∷ ended_lines (c ∷ bs)) [] ≡ b ∷ c ∷ bs → ended_lines (c ∷ bs) ≡ c ∷ bs
    tail-step true g = cc
    tail-step false g = absurd cc

-- a text of one byte that ends with LF
one-ended : (b : ℕ) → ended_lines (b ∷ []) ≡ b ∷ [] → is_lf b ≡ true
one-ended b h = one-step (is_lf b) h
  where
    one-step : (t : Bool) → cond (t || false) (b ∷ []) [] ≡ b ∷ [] → t ≡ true
    one-step true g = refl
    one-step false g = absurd cc

-- the lines of a text that ends with LF, and those behind it
after-ended : (front : List ℕ) (b : ℕ) (bs more : List ℕ) → ended_lines (b ∷ bs) ≡ b ∷ bs
    → lines_after front ((b ∷ bs) ++ more) ≡ lines_after front (b ∷ bs) ++ lines more
after-ended front b [] more h =
    ap (λ t. cond t (without_cr front ∷ lines more) (lines_after (front ++ b ∷ []) more))
    (one-ended b h)
    ∙ sym (ap (λ t. cond t (without_cr front ∷ []) (lines_after (front ++ b ∷ []) []) ++ lines more)
    (one-ended b h))
after-ended front b (c ∷ bs) more h =
    both (is_lf b) (after-ended [] c bs more (tail-ended b c bs h))
    (after-ended (front ++ b ∷ []) c bs more (tail-ended b c bs h))
  where
    both : (t : Bool) → lines_after [] ((c ∷ bs) ++ more) ≡ lines_after [] (c ∷ bs) ++ lines more
        → lines_after (front ++ b ∷ []) ((c ∷ bs) ++ more)
        ≡ lines_after (front ++ b ∷ []) (c ∷ bs) ++ lines more
        → cond t (without_cr front ∷ lines_after [] ((c ∷ bs) ++ more))
        (lines_after (front ++ b ∷ []) ((c ∷ bs) ++ more))
        ≡ cond t (without_cr front ∷ lines_after [] (c ∷ bs))
        (lines_after (front ++ b ∷ []) (c ∷ bs))
        ++ lines more
    both true p q = ap (λ ls. without_cr front ∷ ls) p
    both false p q = q

pub lines-behind : (done more : List ℕ)
    → ended_lines done ≡ done → lines (done ++ more) ≡ lines done ++ lines more
lines-behind [] more h = refl
lines-behind (b ∷ bs) more h = after-ended [] b bs more h

-- the lines that end in a text that goes on behind lines that end
rest-ended : (b : ℕ) (bs : List ℕ)
    → ended_lines (b ∷ bs) ≡ b ∷ bs → (list_any is_lf (b ∷ bs) ≡ true) × (ended_lines bs ≡ bs)
rest-ended b bs h = rest-step (list_any is_lf (b ∷ bs)) h
  where
    rest-step : (t : Bool)
        → cond t (b ∷ ended_lines bs) [] ≡ b ∷ bs → (t ≡ true) × (ended_lines bs ≡ bs)
    rest-step true g = (refl, cc)
    rest-step false g = absurd cc

any-more : (xs ys : List ℕ) → list_any is_lf xs ≡ true → list_any is_lf (xs ++ ys) ≡ true
any-more [] ys h = absurd cc
any-more (b ∷ bs) ys h = any-step (is_lf b) bs ys (any-more bs ys) h
  where
    any-step : (t : Bool) (xs zs : List ℕ)
        → (list_any is_lf xs ≡ true → list_any is_lf (xs ++ zs) ≡ true)
        → t || list_any is_lf xs ≡ true → t || list_any is_lf (xs ++ zs) ≡ true
    any-step true xs zs later g = refl
    any-step false xs zs later g = later g

pub ended-behind : (done more : List ℕ)
    → ended_lines done ≡ done → ended_lines (done ++ more) ≡ done ++ ended_lines more
ended-behind [] more h = refl
ended-behind (b ∷ bs) more h =
    let r = rest-ended b bs h in
    ap (λ t. cond t (b ∷ ended_lines (bs ++ more)) []) (any-more (b ∷ bs) more r.0)
    ∙ ap (λ t. b ∷ t) (ended-behind bs more r.1)
