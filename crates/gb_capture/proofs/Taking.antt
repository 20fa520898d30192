-- What is heard and written of lines, where one line comes more.
use Rattle.std.proofs.Common.{◌≡◌, ℕ, ◌+◌, ◌≤◌, Bool, true, false, cond, Option, Some, None, Ok}
use Rattle.std.proofs.Common.{Err}
use Rattle.std.proofs.Common.{List, [], ◌∷◌, ◌++◌, length, reverse, take, is_some, refl, sym, ap}
use Rattle.std.proofs.Common.{◌∙◌}
use Rattle.std.proofs.Common.{append_assoc, append-nil, length-append, subst, arith}
use Rattle.std.specs.Prelude.{nat_le, nat_lt}
use Rattle.std.specs.List.{cons_option}
use Rattle.std.proofs.lemmas.List.{reverse-append, take_all}
use Rattle.std.proofs.lemmas.Bool.Decides.{nat_tests}
use Rattle.gb_base.specs.declared.audit.Finding.{Finding}
use Rattle.gb_base.specs.declared.reasons.CaptureFault.{CaptureFault}
use Rattle.gb_base.specs.declared.reasons.CaptureFault.TheVariants as capture
use Rattle.gb_base.specs.declared.reasons.LineReason.TheVariants as bad
use Rattle.gb_capture.specs.Audits.{heard_at}
use Rattle.gb_capture.proofs.Rules.{each-append}
use Rattle.gb_formats.specs.Audit.{Found, at_line, each_after, findings, found_of}
use Rattle.gb_formats.specs.AuditTexts.{audited, bad_capture_text, first_bad_text, found_text}
use Rattle.gb_formats.specs.AuditTexts.{founds_text}
use Rattle.gb_formats.specs.Captures.{Captured, Heard, bad_by, bad_from, by_words, captured}
use Rattle.gb_formats.specs.Captures.{first_bad}
use Rattle.gb_formats.specs.Captures.{heard, heard_by, heard_from, held_by}
use Rattle.gb_formats.specs.Message.{Message}
use Rattle.gb_formats.specs.Script.{bad_place, unless_bad}
use Rattle.gb_formats.specs.Words.{words}
use Rattle.gb_script.specs.LineBuffers.{is_long_text}

-- ---- lines behind good ones

heard-front : (n : ℕ) (given later : List (List ℕ)) → bad_from n given ≡ None
    → heard_from n (given ++ later) ≡ heard_from n given ++ heard_from (n + length given) later
unfolding heard_from bad_from
heard-front n [] later good = ap (λ k. heard_from k later) (omega arith)
heard-front n (l ∷ ls) later good =
    by (captured l) good (heard-front (n + 1) ls later)
    ∙ ap (λ k. heard_by (captured l) n (heard_from (n + 1) ls) ++ heard_from k later) (omega arith)
  where
    by : (c : Captured) → bad_by c n (bad_from (n + 1) ls) ≡ None
        → (bad_from (n + 1) ls ≡ None → heard_from (n + 1) (ls ++ later)
        ≡ heard_from (n + 1) ls ++ heard_from (n + 1 + length ls) later)
        → heard_by c n (heard_from (n + 1) (ls ++ later))
        ≡ heard_by c n (heard_from (n + 1) ls) ++ heard_from (n + 1 + length ls) later
    by (Ok None) e next = next e
    by (Ok (Some (from_ap, m))) e next =
        ap (λ hs. record { line = n; from_ap = from_ap; message = m } ∷ hs) (next e)
    by (Err why) e next = absurd (cc e)

bad-front : (n : ℕ) (given later : List (List ℕ)) → bad_from n given ≡ None
    → bad_from n (given ++ later) ≡ bad_from (n + length given) later
unfolding bad_from
bad-front n [] later good = ap (λ k. bad_from k later) (omega arith)
bad-front n (l ∷ ls) later good =
    by (captured l) good (bad-front (n + 1) ls later)
    ∙ ap (λ k. bad_from k later) (omega arith)
  where
    by : (c : Captured) → bad_by c n (bad_from (n + 1) ls) ≡ None
        → (bad_from (n + 1) ls ≡ None
        → bad_from (n + 1) (ls ++ later) ≡ bad_from (n + 1 + length ls) later)
        → bad_by c n (bad_from (n + 1) (ls ++ later)) ≡ bad_from (n + 1 + length ls) later
    by (Ok m) e next = next e
    by (Err why) e next = absurd (cc e)

-- what a line behind good ones is
heard-behind : (given later : List (List ℕ)) (line : List ℕ) (c : Captured)
    → first_bad given ≡ None → captured line ≡ c
    → heard (given ++ line ∷ later)
    ≡ heard given ++ heard_by c (1 + length given) (heard_from (1 + length given + 1) later)
unfolding heard_from
heard-behind given later line c good is =
    heard-front 1 given (line ∷ later) good
    ∙ ap (λ x. heard given
    ++ heard_by x (1 + length given) (heard_from (1 + length given + 1) later)) is

bad-behind : (given later : List (List ℕ)) (line : List ℕ) (c : Captured)
    → first_bad given ≡ None → captured line ≡ c
    → first_bad (given ++ line ∷ later)
    ≡ bad_by c (1 + length given) (bad_from (1 + length given + 1) later)
unfolding bad_from
bad-behind given later line c good is =
    bad-front 1 given (line ∷ later) good
    ∙ ap (λ x. bad_by x (1 + length given) (bad_from (1 + length given + 1) later)) is

-- ---- texts

founds-append : (fs gs : List Found) → founds_text (fs ++ gs) ≡ founds_text fs ++ founds_text gs
founds-append [] gs = refl
founds-append (f ∷ fs) gs =
    ap (λ t. found_text f ++ t) (founds-append fs gs)
    ∙ sym (append_assoc (found_text f) (founds_text fs) (founds_text gs))

-- what is written of good lines
good-text : (given : List (List ℕ)) → first_bad given ≡ None
    → audited given ≡ founds_text (findings (heard given))
good-text given good =
    ap (λ b. founds_text (findings (heard given)) ++ first_bad_text b) good
    ∙ append-nil (founds_text (findings (heard given)))

-- what a line adds
pub record Adds (given : List (List ℕ)) (line : List ℕ) (messages : List Heard) (text : List ℕ)
    : Type 0 where
  pub heard_is : heard (given ++ line ∷ []) ≡ heard given ++ messages
  pub good : first_bad (given ++ line ∷ []) ≡ None
  pub text_is : audited (given ++ line ∷ []) ≡ audited given ++ text

-- a blank or comment line
pub adds-nothing : (given : List (List ℕ)) (line : List ℕ) → first_bad given ≡ None
    → captured line ≡ Ok None → Adds given line [] []
unfolding heard_from bad_from
adds-nothing given line good is =
    let h = heard-behind given [] line _ good is in
    let g = bad-behind given [] line _ good is in
    record {
      heard_is = h;
      good = g;
      text_is =
          good-text (given ++ line ∷ []) g
          ∙ ap (λ hs. founds_text (findings hs)) (h ∙ append-nil (heard given))
          ∙ sym (good-text given good) ∙ sym (append-nil (audited given));
    }

-- the text of what is found of a message
abbrev pub text_of : Option Found → List ℕ
text_of found = founds_text (cons_option found [])

-- a message
pub adds-message : (given : List (List ℕ)) (line : List ℕ) (from_ap : Bool) (m : Message)
    → first_bad given ≡ None → captured line ≡ Ok (Some (from_ap, m))
    → Adds given line (heard_at (1 + length given) from_ap m ∷ [])
    (text_of (found_of (reverse (heard given)) (heard_at (1 + length given) from_ap m)))
unfolding heard_from bad_from
adds-message given line from_ap m good is =
    let x = heard_at (1 + length given) from_ap m in
    let h = heard-behind given [] line _ good is in
    let g = bad-behind given [] line _ good is in
    record {
      heard_is = h;
      good = g;
      text_is =
          good-text (given ++ line ∷ []) g
          ∙ ap (λ hs. founds_text (findings hs)) h
          ∙ ap founds_text (each-append found_of [] (heard given) (x ∷ []))
          ∙ founds-append (findings (heard given))
          (cons_option (found_of (reverse (heard given) ++ []) x) [])
          ∙ ap (λ past. founds_text (findings (heard given)) ++ text_of (found_of past x))
          (append-nil (reverse (heard given)))
          ∙ ap (λ t. t ++ text_of (found_of (reverse (heard given)) x))
          (sym (good-text given good));
    }

-- a bad line, whatever lines follow
pub record Stops (given : List (List ℕ)) (line : List ℕ) (why : CaptureFault) : Type 0 where
  pub text : (later : List (List ℕ)) → audited (given ++ line ∷ later)
      ≡ audited given ++ bad_capture_text (1 + length given) why
  pub bad : (later : List (List ℕ)) → is_some (first_bad (given ++ line ∷ later)) ≡ true

pub stops-at : (given : List (List ℕ)) (line : List ℕ) (why : CaptureFault)
    → first_bad given ≡ None → captured line ≡ Err why → Stops given line why
stops-at given line why good is = record {
  text = λ later.
      ap (λ hs. founds_text (findings hs) ++ first_bad_text (first_bad (given ++ line ∷ later)))
      (heard-behind given later line _ good is ∙ append-nil (heard given))
      ∙ ap (λ b. founds_text (findings (heard given)) ++ first_bad_text b)
      (bad-behind given later line _ good is)
      ∙ ap (λ t. t ++ bad_capture_text (1 + length given) why) (sym (good-text given good));
  bad = λ later. ap is_some (bad-behind given later line _ good is);
}

-- what is written of good lines is written first of those and more
pub audited-front : (given later : List (List ℕ)) → first_bad given ≡ None
    → (more : List ℕ) × (audited (given ++ later) ≡ audited given ++ more)
audited-front given later good =
    let rest = heard_from (1 + length given) later in
    let found = founds_text (each_after found_of (reverse (heard given) ++ []) rest) in
    let end = first_bad_text (first_bad (given ++ later)) in (
      found ++ end,
      ap (λ hs. founds_text (findings hs) ++ end) (heard-front 1 given later good)
          ∙ ap (λ fs. founds_text fs ++ end) (each-append found_of [] (heard given) rest)
          ∙ ap (λ t. t ++ end) (founds-append (findings (heard given))
          (each_after found_of (reverse (heard given) ++ []) rest))
          ∙ append_assoc (founds_text (findings (heard given))) found end
          ∙ ap (λ t. t ++ (found ++ end)) (sym (good-text given good)),
    )

-- ---- long lines

longer : (n : ℕ) → nat_lt 8192 n ≡ true → nat_le n 8192 ≡ false
longer n e = grind (arith, nat_tests)

pub long-is : (line : List ℕ) → is_long_text line ≡ true → captured line ≡ Err capture.TooLong
long-is line e =
    ap (λ b. by_words
    (cond b (unless_bad (bad_place 1 line) (held_by (words line))) (Err bad.Long)))
    (longer (length line) e)

not-longer : (n : ℕ) → nat_lt 8192 n ≡ false → n ≤ 8192
not-longer n e = grind (arith, nat_tests)

pub whole-is : (bytes line : List ℕ) → bytes ≡ take 8192 line → is_long_text line ≡ false
    → bytes ≡ line
whole-is bytes line e short = e ∙ take_all 8192 line (not-longer (length line) short)

-- ---- an auditor

-- what was appended to nothing
pub written-is : (old new text : List ℕ) → new ≡ old ++ text → old ≡ [] → new ≡ text
written-is old new text e nothing = e ∙ ap (λ o. o ++ text) nothing

pub adds-at : (given : List (List ℕ)) (bytes line : List ℕ) (number : ℕ) (from_ap : Bool)
    (m : Message) → first_bad given ≡ None → bytes ≡ line → captured bytes ≡ Ok (Some (from_ap, m))
    → number ≡ 1 + length given
    → Adds given line (heard_at number from_ap m ∷ [])
    (text_of (found_of (reverse (heard given)) (heard_at number from_ap m)))
adds-at given bytes line number from_ap m good same is e =
    subst (λ k. Adds given line (heard_at k from_ap m ∷ [])
    (text_of (found_of (reverse (heard given)) (heard_at k from_ap m)))) (sym e)
    (adds-message given line from_ap m good (sym (ap captured same) ∙ is))

-- the messages with one more, the last of them first
pub last-first : (given : List (List ℕ)) (line : List ℕ) (h : Heard) (text : List ℕ)
    → Adds given line (h ∷ []) text
    → h ∷ reverse (heard given) ≡ reverse (heard (given ++ line ∷ []))
last-first given line h text adds =
    sym (ap reverse adds.heard_is ∙ reverse-append (heard given) (h ∷ []))

pub same-messages : (given : List (List ℕ)) (line text : List ℕ) → Adds given line [] text
    → reverse (heard given) ≡ reverse (heard (given ++ line ∷ []))
same-messages given line text adds =
    sym (ap reverse (adds.heard_is ∙ append-nil (heard given)))

pub one-longer : (given : List (List ℕ)) (line : List ℕ)
    → length (given ++ line ∷ []) ≡ length given + 1
one-longer given line = length-append given (line ∷ [])

-- what is written where something is found, and where nothing is
pub found-is : (line : ℕ) (found : Option Finding) (f : Finding) → found ≡ Some f
    → text_of (at_line line found) ≡ found_text (line, f)
found-is line found f e = ap (λ o. text_of (at_line line o)) e ∙ append-nil (found_text (line, f))

pub nothing-is : (line : ℕ) (found : Option Finding) → found ≡ None
    → text_of (at_line line found) ≡ []
nothing-is line found e = ap (λ o. text_of (at_line line o)) e

pub stops-as : (given : List (List ℕ)) (line : List ℕ) (why : CaptureFault) (number : ℕ)
    (text : List ℕ) → Stops given line why → number ≡ 1 + length given
    → text ≡ bad_capture_text number why → (later : List (List ℕ))
    → audited (given ++ line ∷ later) ≡ audited given ++ text
stops-as given line why number text stops n t later =
    stops.text later
    ∙ ap (λ x. audited given ++ x) (ap (λ k. bad_capture_text k why) (sym n) ∙ sym t)
