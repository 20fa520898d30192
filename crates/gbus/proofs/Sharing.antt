-- What is run of a script by its requesters, and what is written of an input.
use Rattle.std.proofs.Common.{◌≡◌, ◌≤◌, ℕ, ◌+◌, ◌==◌, ◌||◌, Bool, true, false, cond, Option}
use Rattle.std.proofs.Common.{Some, None, Result, Ok, Err, List, [], ◌∷◌, ◌++◌, length, refl, sym}
use Rattle.std.proofs.Common.{subst, ap, ◌∙◌, arith, length-append}
use Rattle.std.specs.Prelude.{is_some, IfSome}
use Rattle.std.specs.List.{list_any}
use Rattle.std.proofs.lemmas.Bool.Decides.{nat_tests}
use Rattle.gb_base.specs.declared.reasons.LineReason.{LineReason}
use Rattle.gb_base.specs.declared.parts.Asked.{Asked}
use Rattle.gb_base.specs.declared.parts.Parts.{Parts}
use Rattle.gb_formats.specs.Lines.{ended_lines, is_lf, last_line, lines, lines_after}
use Rattle.gb_formats.specs.Lines.{longest_input, without_cr}
use Rattle.gb_formats.specs.Orders.{Merged, Place, first_of, is_by, merge, placed}
use Rattle.gb_formats.specs.Orders.{without_first}
use Rattle.gb_formats.specs.Parts.{Asks, Heading, Nothing, Part, part_of, parts, parts_from}
use Rattle.gb_formats.specs.Parts.{parts_with}
use Rattle.gb_formats.specs.ValidEvents.{IsValid}
use Rattle.gb_machine.specs.Runs as runs
use Rattle.gb_machine.specs.Shared.{done_in}
use Rattle.gb_script.proofs.PartReading.{parts-valid}
use Rattle.gb_script.proofs.TextLines.{ended-lf, ended-plain}
use Rattle.gb_script.specs.PartLines.{AreValidLines}
use Rattle.gbus.proofs.Limits.{beyond_is, cut-input, whole-input, within_is}
use Rattle.gbus.specs.Answers.{SharesInput, shared_status}
use Rattle.gbus.specs.Program.{Share, Shares, Writes, events_in, is_too_long, lines_status}
use Rattle.gbus.specs.Program.{lines_within, verdict}
use Rattle.gbus.specs.Reading.{IsRead}
use Rattle.gbus.specs.declared.input.Input.{Input}
use Rattle.gbus.specs.declared.input.Input.TheVariants as input

-- ---- the lines of a text that end

-- a text that ends with LF
pub ended-at-lf : (xs front : List ℕ) (b : ℕ) → xs ≡ front ++ b ∷ [] → b ≡ 10
    → ended_lines xs ≡ xs
ended-at-lf xs front b is lf =
    let same : xs ≡ front ++ 10 ∷ [] = is ∙ ap (λ c. front ++ c ∷ []) lf in
    ap ended_lines same ∙ ended-lf front ∙ sym same

-- a last byte that is another
pub ended-before : (xs front : List ℕ) (b : ℕ) → xs ≡ front ++ b ∷ [] → (b ≡ 10 → ⊥)
    → ended_lines xs ≡ ended_lines front
ended-before xs front b is other =
    let none : (b == 10) ≡ false = grind (arith, nat_tests) in
    ap ended_lines is ∙ ended-plain front (b ∷ []) (alone (b == 10) none)
  where
    alone : (t : Bool) → t ≡ false → t || false ≡ false
    alone true e = absurd cc
    alone false e = refl

-- they are no more bytes
ended-few : (xs : List ℕ) → length (ended_lines xs) ≤ length xs
ended-few [] = omega arith
ended-few (b ∷ bs) = by (list_any is_lf (b ∷ bs)) (ended-few bs)
  where
    by : (t : Bool) → length (ended_lines bs) ≤ length bs
        → length (cond t (b ∷ ended_lines bs) []) ≤ length (b ∷ bs)
    by true h = omega arith
    by false h = omega arith

pub ended-within : (n : ℕ) (xs held : List ℕ) → held ≡ ended_lines xs → length xs ≤ n
    → length held ≤ n
ended-within n xs held is within =
    let few = ended-few xs in subst (λ l. length l ≤ n) (sym is) (omega arith)

-- ---- the lines are not too many

-- a text has at most as many lines as bytes
last-few : (front : List ℕ) → length (last_line front) ≤ length front
last-few [] = omega arith
last-few (b ∷ bs) = omega arith

lines-few : (front bs : List ℕ) → length (lines_after front bs) ≤ length front + length bs
lines-few front [] = omega (arith, last-few front)
lines-few front (b ∷ bs) = by (b == 10) (lines-few [] bs) (lines-few (front ++ b ∷ []) bs)
  where
    by : (t : Bool) → length (lines_after [] bs) ≤ 0 + length bs
        → length (lines_after (front ++ b ∷ []) bs) ≤ length (front ++ b ∷ []) + length bs
        → length (cond t (without_cr front ∷ lines_after [] bs)
        (lines_after (front ++ b ∷ []) bs)) ≤ length front + length (b ∷ bs)
    by true p q = omega arith
    by false p q = omega (arith, length-append front (b ∷ []))

-- and at most as many of them are events
parts-few : (at who : ℕ) (ls : List (List ℕ)) → length (parts_from at who ls).asked ≤ length ls
parts-few at who [] = omega arith
parts-few at who (line ∷ ls) = by (part_of who line) (λ next. parts-few (at + 1) next ls)
  where
    later : ℕ → Parts
    later next = parts_from (at + 1) next ls

    by : (said : Result Part LineReason) → ((next : ℕ) → length (later next).asked ≤ length ls)
        → length (parts_with at who said later).asked ≤ length (line ∷ ls)
    by (Ok Nothing) more = omega (arith, more who)
    by (Ok (Heading next)) more = omega (arith, more next)
    by (Ok (Asks e)) more = omega (arith, more who)
    by (Err why) more = omega arith

pub few-asked : (text : List ℕ) (p : Parts) → p ≡ parts text → length text ≤ longest_input
    → length p.asked ≤ 1048577
few-asked text p is within =
    subst (λ (q : Parts). length q.asked ≤ 1048577) (sym is)
    (few longest_input (parts-few 1 0 (lines text)) (lines-few [] text) within)
  where
    few : (n : ℕ) → length (parts text).asked ≤ length (lines text)
        → length (lines text) ≤ 0 + length text → length text ≤ n
        → length (parts text).asked ≤ n + 1
    few n a b c = omega arith

-- ---- so is each event that is run, in every order

-- the first line of a requester
first-valid : (who : ℕ) (ls : List Asked) → AreValidLines ls
    → IfSome (first_of who ls) (λ a. IsValid a.event)
first-valid who [] h = tt
first-valid who (a ∷ ls) h = by (is_by who a) (first-valid who ls h.1)
  where
    by : (t : Bool) → IfSome (first_of who ls) (λ b. IsValid b.event)
        → IfSome (cond t (Some a) (first_of who ls)) (λ b. IsValid b.event)
    by true later = h.0
    by false later = later

-- and the lines without it
others-valid : (who : ℕ) (ls : List Asked) → AreValidLines ls → AreValidLines (without_first who ls)
others-valid who [] h = tt
others-valid who (a ∷ ls) h = by (is_by who a) (others-valid who ls h.1)
  where
    by : (t : Bool) → AreValidLines (without_first who ls)
        → AreValidLines (cond t ls (a ∷ without_first who ls))
    by true later = h.1
    by false later = (h.0, later)

placed-valid : (o : Option Asked) (full : Bool) (ms : List Merged) → IfSome o (λ a. IsValid a.event)
    → runs.AreValid (done_in ms) → runs.AreValid (done_in (placed o full ms))
placed-valid None full ms h later = later
placed-valid (Some a) true ms h later = later
placed-valid (Some a) false ms h later = (h, later)

merge-valid : (order : List Place) (ls : List Asked) → AreValidLines ls
    → runs.AreValid (done_in (merge ls order))
merge-valid [] ls h = tt
merge-valid ((who, full) ∷ order) ls h =
    placed-valid (first_of who ls) full (merge (without_first who ls) order)
    (first-valid who ls h) (merge-valid order (without_first who ls) (others-valid who ls h))

pub events-valid : (text : List ℕ) (order : List Place)
    → runs.AreValid (events_in (parts text) order)
events-valid text order = merge-valid order (parts text).asked (parts-valid text)

-- ---- what is written of an input

-- the lines of an input that was read
pub shares-input : (hex : Bool) (i : Input) (text written : List ℕ) → IsRead i text
    → SharesInput hex i written → Writes (Share hex) text written
shares-input hex (input.Whole bytes) text written read h =
    let short = within_is text read.1 in
    subst (λ t. Shares hex (parts (lines_within text)) t written) (sym short)
    (subst (λ l. Shares hex (parts l) false written)
    (sym (whole-input text short ∙ read.0)) h)
shares-input hex (input.TooLong front) text written read h =
    let long = beyond_is text read.1 in
    subst (λ t. Shares hex (parts (lines_within text)) t written) (sym long)
    (subst (λ l. Shares hex (parts l) true written)
    (sym (cut-input text long ∙ ap ended_lines (sym read.0))) h)

-- and how the program ends
verdict-by : (text held : List ℕ) (long : Bool) → is_too_long text ≡ long
    → lines_within text ≡ held → (hex : Bool)
    → verdict (Share hex) text ≡ lines_status (is_some (parts held).bad) long
verdict-by text held long e is hex =
    ap (λ l. lines_status (is_some (parts l).bad) (is_too_long text)) is
    ∙ ap (lines_status (is_some (parts held).bad)) e

pub shared-verdict : (hex : Bool) (i : Input) (text : List ℕ) → IsRead i text
    → verdict (Share hex) text ≡ shared_status i
shared-verdict hex (input.Whole bytes) text read =
    let short = within_is text read.1 in
    verdict-by text bytes.items false short (whole-input text short ∙ read.0) hex
shared-verdict hex (input.TooLong front) text read =
    let long = beyond_is text read.1 in
    verdict-by text (ended_lines front.items) true long
    (cut-input text long ∙ ap ended_lines (sym read.0)) hex
