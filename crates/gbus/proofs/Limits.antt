-- What was read of an input, and what is run and written of it.
use Rattle.std.proofs.Common.{◌≡◌, ℕ, ◌<◌, ◌≤◌, true, false, cond, Option, Some, None, List}
use Rattle.std.proofs.Common.{[], ◌++◌, length, take, append_assoc, length-append, drop}
use Rattle.std.proofs.Common.{length-drop, refl, sym, subst, ap, ◌∙◌, arith}
use Rattle.std.specs.Prelude.{IfSome}
use Rattle.std.specs.Io.KnownBytes.{Consumes}
use Rattle.std.proofs.KnownBytes.{Consumes-nil, Consumes-trans}
use Rattle.std.proofs.lemmas.Bool.Decides.{nat_tests}
use Rattle.std.proofs.Math.Seq.{take-append_seam}
use Rattle.std.proofs.lemmas.List.{length-take, length-take-le, take-append-drop}
use Rattle.gb_base.specs.declared.status.Status.TheVariants as status
use Rattle.gb_formats.specs.Lines.{ended_lines, longest_input}
use Rattle.gbus.specs.Answers.{input_status, input_text}
use Rattle.gbus.specs.Program.{Whole, WholeJob, is_too_long, lines_within, verdict, whole_output}
use Rattle.gbus.specs.Program.{whole_text, whole_verdict}
use Rattle.gbus.specs.Reading.{IsLong, IsRead}
use Rattle.gbus.specs.Runs.{StopsAtLimit}
use Rattle.gbus.specs.declared.input.Input.{Input}
use Rattle.gbus.specs.declared.input.Input.TheVariants as input

-- ---- reading

-- the front of a text
pub cut_at : (n : ℕ) (front others rest : List ℕ) → length front ≡ n
    → take n ((front ++ others) ++ rest) ≡ front
cut_at n front others rest full =
    ap (λ k. take k ((front ++ others) ++ rest)) (sym full)
    ∙ ap (take (length front)) (append_assoc front others rest)
    ∙ take-append_seam front (others ++ rest)

-- a text that is too long
pub beyond : (front others rest : List ℕ) → length front ≡ longest_input → 0 < length others
    → longest_input < length ((front ++ others) ++ rest)
beyond front others rest full more = simp (length-append) (omega arith)

pub long_read : (left after : Option (List ℕ)) (front : List ℕ) → IsLong left after front
    → IfSome left (λ text. (front ≡ take longest_input text) × (longest_input < length text))
long_read None after front w = tt
long_read (Some text) None front w = absurd w.bytes_are
long_read (Some text) (Some rest) front w =
    subst (λ t. (front ≡ take longest_input t) × (longest_input < length t)) (sym w.bytes_are) (
      sym (cut_at longest_input front w.others rest w.full),
      beyond front w.others rest w.full
          w.more,
    )

-- what was read beyond the limit, once it is cut there
pub cut_long : (left after : Option (List ℕ)) (bytes front : List ℕ) → Consumes left after bytes
    → longest_input < length bytes
    → front ≡ take longest_input bytes → IsLong left after front
cut_long left after bytes front read more is = cut_long_at longest_input refl
  where
    cut_long_at : (n : ℕ) → n ≡ longest_input → IsLong left after front
    cut_long_at n e = record {
      others = drop n bytes;
      bytes_are = subst (Consumes left after)
          (sym (take-append-drop n bytes)
          ∙ ap (λ f. f ++ drop n bytes) (ap (λ k. take k bytes) e ∙ sym is)) read;
      full = ap length (is ∙ ap (λ k. take k bytes) (sym e)) ∙ length-take-le n bytes (omega arith)
          ∙ e;
      more = omega (arith, length-drop n bytes);
    }

-- nothing was read
pub nothing-read : (left : Option (List ℕ)) → StopsAtLimit left left
nothing-read left = record { bytes = []; read = Consumes-nil left; few = omega arith }

-- as many bytes as may be were read, and then at most 4,096
pub read-more : (left mid after : Option (List ℕ)) (bytes piece : List ℕ) (n : ℕ)
    → Consumes left mid bytes → Consumes mid after (take n piece)
    → length bytes ≤ longest_input → n ≤ 4096 → StopsAtLimit left after
read-more left mid after bytes piece n first second within few = record {
  bytes = bytes ++ take n piece;
  read = Consumes-trans left mid after bytes (take n piece) first second;
  few = rw (length-append bytes (take n piece), length-take n piece) (omega (arith, within, few));
}

-- ---- what is written

pub within_is : (text : List ℕ) → length text ≤ longest_input → is_too_long text ≡ false
within_is text h = grind (arith, nat_tests)

pub beyond_is : (text : List ℕ) → longest_input < length text → is_too_long text ≡ true
beyond_is text h = grind (arith, nat_tests)

-- the lines of an input within the limit, and of one beyond it
pub whole-input : (text : List ℕ) → is_too_long text ≡ false → lines_within text ≡ text
whole-input text e = ap (λ t. cond t (ended_lines (take longest_input text)) text) e

pub cut-input : (text : List ℕ) → is_too_long text ≡ true
    → lines_within text ≡ ended_lines (take longest_input text)
cut-input text e = ap (λ t. cond t (ended_lines (take longest_input text)) text) e

-- What is written for an input is the output of its bytes.
pub text_is : (j : WholeJob) (i : Input) (text : List ℕ) → IsRead i text
    → whole_output j text ≡ input_text j i
text_is j (input.Whole bytes) text h =
    ap (λ b. cond b [] (whole_text j text)) (within_is text h.1) ∙ ap (whole_text j) h.0
text_is j (input.TooLong front) text h =
    ap (λ b. cond b [] (whole_text j text)) (beyond_is text h.1)

-- How the program ends is the verdict on them.
pub status_is : (j : WholeJob) (i : Input) (text : List ℕ) → IsRead i text
    → verdict (Whole j) text ≡ input_status j i
status_is j (input.Whole bytes) text h =
    ap (λ b. cond b status.TooLong (whole_verdict j text)) (within_is text h.1)
    ∙ ap (whole_verdict j) h.0
status_is j (input.TooLong front) text h =
    ap (λ b. cond b status.TooLong (whole_verdict j text)) (beyond_is text h.1)
