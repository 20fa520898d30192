-- What the lines of an input come to, by what was read, taken and written.
use Rattle.std.proofs.Common.{◌≡◌, ℕ, ◌-◌, ◌<◌, ◌≤◌, Bool, true, false, Option, Some}
use Rattle.std.proofs.Common.{None, Result, Ok, Err, List, [], ◌∷◌, ◌++◌, length, take}
use Rattle.std.proofs.Common.{append_assoc, append-nil, length-append, refl, sym, ap, ◌∙◌, subst}
use Rattle.std.proofs.Common.{arith, inr}
use Rattle.std.specs.Prelude.{IfSome}
use Rattle.std.specs.Io.KnownBytes.{Appends, IsAtEnd, prepend_known}
use Rattle.std.proofs.Math.Seq.{take-append-add}
use Rattle.gb_base.specs.declared.status.Status.TheVariants as status
use Rattle.gb_formats.specs.Lines.{ended_lines, lines, longest_input}
use Rattle.gb_script.proofs.Readings.{consumes-held}
use Rattle.gb_script.proofs.TextLines.{ended-behind, lines-behind}
use Rattle.gb_script.specs.Readers.{EndsAfter, FailsAfter, IsBeyondAfter, Reads, ReadsOn, StandsAt}
use Rattle.gb_script.specs.Readers.{behind, stop_of, stopped}
use Rattle.gb_script.specs.Reading.{to_come}
use Rattle.gb_script.specs.declared.held.LineStop.{LineStop}
use Rattle.gb_script.specs.declared.held.LineStop.TheVariants as stop
use Rattle.gb_script.specs.declared.line_reader.LineReader.{LineReader}
use Rattle.gb_script.specs.declared.line_reader.Progress.{Progress}
use Rattle.gb_script.specs.declared.line_reader.Progress.TheVariants as progress
use Rattle.gbus.proofs.Gathering.{no-part}
use Rattle.gbus.proofs.Limits.{beyond, beyond_is, cut-input, cut_at, whole-input, within_is}
use Rattle.gbus.proofs.LineJobs.{bad-among, output-begins, output-long, output-refused}
use Rattle.gbus.proofs.LineJobs.{output-whole}
use Rattle.gbus.specs.Program.{Audit, ByLine, LineJob, Report, has_bad, is_too_long, last_text}
use Rattle.gbus.specs.Program.{lines_output, lines_status, lines_text, lines_within, verdict}
use Rattle.gbus.specs.Runs.{IsCutOff, IsRefusedAt, IsReported, ReadsTo, StopsAs, StopsAtLimit}
use Rattle.gbus.specs.Sessions.{Begins, IsBehind, RefusesLine}
use Rattle.gbus.specs.Stages.{IsOfOutput}
use Rattle.gbus.specs.declared.session.Session.{Session}

-- ---- the lines of an input, of which a front was read

-- the limit lies behind the lines that were read
take-behind : (n : ℕ) (done rest : List ℕ) → length done ≤ n
    → take n (done ++ rest) ≡ done ++ take (n - length done) rest
take-behind n done rest within =
    ap (λ k. take k (done ++ rest)) (omega (arith, within))
    ∙ take-append-add done rest (n - length done)

-- so the first lines that are taken are these
going-by : (t : Bool) (done rest : List ℕ) → is_too_long (done ++ rest) ≡ t
    → length done ≤ longest_input
    → ended_lines done ≡ done → (more : List (List ℕ))
    × (lines (lines_within (done ++ rest)) ≡ lines done ++ more)
going-by false done rest e within ended =
    (lines rest, ap lines (whole-input (done ++ rest) e) ∙ lines-behind done rest ended)
going-by true done rest e within ended = (
  lines (ended_lines (take (longest_input - length done) rest)),
  ap lines (cut-input (done ++ rest) e
      ∙ ap ended_lines (take-behind longest_input done rest within)
      ∙ ended-behind done (take (longest_input - length done) rest) ended)
      ∙ lines-behind done (ended_lines (take (longest_input - length done) rest)) ended,
)

going-lines : (done rest : List ℕ) → length done ≤ longest_input → ended_lines done ≡ done
    → (more : List (List ℕ)) × (lines (lines_within (done ++ rest)) ≡ lines done ++ more)
going-lines done rest within ended =
    going-by (is_too_long (done ++ rest)) done rest refl within ended

ended-lines : (done rest : List ℕ) → length done ≤ longest_input → rest ≡ []
    → (more : List (List ℕ)) × (lines (lines_within (done ++ rest)) ≡ lines done ++ more)
ended-lines done rest within none =
    let same : done ++ rest ≡ done = ap (λ r. done ++ r) none ∙ append-nil done in (
      [],
      ap (λ t. lines (lines_within t)) same
          ∙ ap lines (whole-input done (within_is done within)) ∙ sym (append-nil (lines done)),
    )

by-progress : (p : Progress) (done rest : List ℕ) → length done ≤ longest_input
    → StandsAt p done (Some rest)
    → (more : List (List ℕ)) × (lines (lines_within (done ++ rest)) ≡ lines done ++ more)
by-progress progress.Going done rest within h = going-lines done rest within h
by-progress progress.Ended done rest within h = ended-lines done rest within h
by-progress (progress.Stopped s) done rest within h = absurd h

-- of which lines were handed out
pub input-lines : (x : LineReader) (text : List ℕ) (now : Option (List ℕ)) (given : List (List ℕ))
    → Reads x (Some text) now given
    → (more : List (List ℕ)) × (lines (lines_within text) ≡ given ++ more)
input-lines x text None given r = absurd r.taken
input-lines x text (Some l) given r =
    let p = by-progress x.progress r.done (behind x ++ l) (omega (arith, r.room)) r.stands in
    (p.0, ap (λ t. lines (lines_within t)) r.taken ∙ p.1 ∙ ap (λ ls. ls ++ p.0) (sym r.given_are))

-- ---- what was written is a front of the output

-- a front of a front
begins-more : (a b c : List ℕ) → Begins a b → Begins b c → Begins a c
begins-more a b c p q =
    (p.0 ++ q.0, q.1 ∙ ap (λ l. l ++ q.0) p.1 ∙ append_assoc a p.0 q.0)

front-of : (x : LineReader) (j : LineJob) (left now : Option (List ℕ)) (given : List (List ℕ))
    (front : List ℕ)
    → Reads x left now given
    → ((more : List (List ℕ)) → Begins front (lines_text j (given ++ more)))
    → IsOfOutput j left front
front-of x j None now given front r goes = tt
front-of x j (Some text) now given front r goes =
    let p = input-lines x text now given r in
    begins-more front (lines_text j (lines (lines_within text))) (lines_output j text)
    (subst (λ ls. Begins front (lines_text j ls)) (sym p.1) (goes p.0)) (output-begins j text)

-- the lines that were taken
pub behind-lines : (x : LineReader) (y : Session) (j : LineJob) (left now : Option (List ℕ))
    (given : List (List ℕ)) → Reads x left now given → IsBehind y j given
    → IsOfOutput j left (lines_text j given)
behind-lines x y j left now given r b = front-of x j left now given (lines_text j given) r b.goes

-- the lines before a line that was read
pub before-line : (x : LineReader) (y : Session) (j : LineJob) (left now : Option (List ℕ))
    (given : List (List ℕ)) (line : List ℕ)
    → Reads x left now (given ++ line ∷ []) → IsBehind y j given
    → IsOfOutput j left (lines_text j given)
before-line x y j left now given line r b =
    front-of x j left now (given ++ line ∷ []) (lines_text j given) r
    (λ more. subst (λ ls. Begins (lines_text j given) (lines_text j ls))
    (sym (append_assoc given (line ∷ []) more)) (b.goes (line ∷ more)))

-- the lines up to a bad one
pub whole-line : (x : LineReader) (new : Session) (j : LineJob) (left now : Option (List ℕ))
    (given : List (List ℕ)) (line : List ℕ)
    → Reads x left now (given ++ line ∷ []) → RefusesLine new j given line
    → IsOfOutput j left (lines_text j (given ++ line ∷ []))
whole-line x new j left now given line r h =
    front-of x j left now (given ++ line ∷ []) (lines_text j (given ++ line ∷ [])) r
    (λ more. (
      [],
      ap (lines_text j) (append_assoc given (line ∷ []) more)
          ∙ h.text more ∙ sym (h.text [])
          ∙ sym (append-nil (lines_text j (given ++ line ∷ []))),
    ))

-- ---- how it ends

-- a line may be left
going-by-progress : (p : Progress) (done : List ℕ) (rest : Option (List ℕ)) → StandsAt p done rest
    → stop_of p ≡ None
going-by-progress progress.Going done rest h = refl
going-by-progress progress.Ended done rest h = refl
going-by-progress (progress.Stopped s) done rest h = absurd h

pub going : (x : LineReader) (left now : Option (List ℕ)) (given : List (List ℕ))
    → Reads x left now given → stopped x ≡ None
going x left now given r = going-by-progress x.progress r.done (to_come x.held now) r.stands

-- what was read up to a line
pub reads-to : (x : LineReader) (left now : Option (List ℕ)) (given : List (List ℕ)) (line : List ℕ)
    → Reads x left now (given ++ line ∷ [])
    → ReadsTo left now given line
reads-to x left now given line r = record {
  done = r.done;
  behind = behind x;
  read = consumes-held left now r.done (behind x) r.taken;
  lines_are = sym r.given_are;
  few = r.few;
}

-- how much was read where lines were handed out, and where one was asked for
pub within-limit : (x : LineReader) (left now : Option (List ℕ)) (given : List (List ℕ))
    → Reads x left now given → StopsAtLimit left now
within-limit x left now given r = record {
  bytes = r.done ++ behind x;
  read = consumes-held left now r.done (behind x) r.taken;
  few = rw (length-append r.done (behind x)) (omega (arith, r.room, r.few));
}

pub asked-within : (x : LineReader) (left now : Option (List ℕ)) (given : List (List ℕ))
    (result : Result Bool LineStop) → ReadsOn x left now given result → StopsAtLimit left now
asked-within x left now given (Ok true) h =
    within-limit x left now (given ++ h.line ∷ []) h.reads
asked-within x left now given (Ok false) h = within-limit x left now given h.reads
asked-within x left now given (Err stop.ReadFault) h = record {
  bytes = h.read;
  read = h.taken;
  few = omega (arith, h.within);
}
asked-within x left now given (Err stop.TooLong) h = record {
  bytes = h.read ++ h.others;
  read = h.taken;
  few = rw (length-append h.read h.others) (omega (arith, h.full, h.few));
}

-- the verdict on an input, by its lines
verdict-is : (j : LineJob) (text : List ℕ) (bad long : Bool)
    → has_bad j (lines (lines_within text)) ≡ bad → is_too_long text ≡ long
    → verdict (ByLine j) text ≡ lines_status bad long
verdict-is j text bad long has e =
    ap (λ b. lines_status b (is_too_long text)) has ∙ ap (lines_status bad) e

-- a line is bad
pub refused : (x : LineReader) (new : Session) (j : LineJob)
    (left now taken later : Option (List ℕ)) (given : List (List ℕ)) (line : List ℕ)
    → Reads x left now (given ++ line ∷ []) → RefusesLine new j given line
    → Appends taken later (lines_text j (given ++ line ∷ []))
    → IsReported j left taken later status.Refused
refused x new j None now taken later given line r h wrote = tt
refused x new j (Some text) now taken later given line r h wrote =
    let p = input-lines x text now (given ++ line ∷ []) r in
    let is = p.1 ∙ append_assoc given (line ∷ []) p.0 in
    let bad = ap (has_bad j) is ∙ bad-among j given line p.0 h.bad in (
      sym (verdict-is j text true (is_too_long text) bad refl),
      subst (Appends taken later)
          (h.text [] ∙ sym (h.text p.0) ∙ sym (ap (lines_text j) is)
          ∙ sym (output-refused j text bad)) wrote,
    )

pub refused-at : (x : LineReader) (old new : Session) (j : LineJob) (left now : Option (List ℕ))
    (given : List (List ℕ)) (line : List ℕ)
    → Reads x left now (given ++ line ∷ []) → IsBehind old j given
    → RefusesLine new j given line → IsRefusedAt j left now
refused-at x old new j left now given line r b h = record {
  earlier = given;
  line = line;
  reads = reads-to x left now given line r;
  good = b.good;
  bad = h.bad;
}

-- the source failed
pub cut-off : (y : Session) (j : LineJob) (left now taken later : Option (List ℕ))
    (given : List (List ℕ))
    → FailsAfter left now given → IsBehind y j given
    → Appends taken later (lines_text j given) → IsCutOff j left now taken later
cut-off y j left now taken later given f b wrote = record {
  bytes = f.read;
  read = f.taken;
  within = f.within;
  wrote = subst (Appends taken later) (ap (lines_text j) f.given_are) wrote;
  good = ap (has_bad j) (sym f.given_are) ∙ b.good;
}

-- more bytes came than may
pub too-long : (y : Session) (j : LineJob) (left now taken later : Option (List ℕ))
    (given : List (List ℕ))
    → IsBeyondAfter left now given → IsBehind y j given
    → Appends taken later (lines_text j given)
    → IsReported j left taken later status.TooLong
too-long y j None now taken later given f b wrote = tt
too-long y j (Some text) None taken later given f b wrote = absurd f.taken
too-long y j (Some text) (Some l) taken later given f b wrote =
    let long : is_too_long text ≡ true =
    beyond_is text (subst (λ t. longest_input < length t) (sym f.taken)
    (beyond f.read f.others l f.full f.more)) in
    let is : lines (lines_within text) ≡ given =
    ap lines (cut-input text long
    ∙ ap ended_lines (ap (take longest_input) f.taken
    ∙ cut_at longest_input f.read f.others l f.full))
    ∙ sym f.given_are in (
      sym (verdict-is j text false true (ap (has_bad j) is ∙ b.good) long),
      subst (Appends taken later) (sym (output-long j text long ∙ ap (lines_text j) is)) wrote,
    )

-- no line is left
end-of : (now : Option (List ℕ)) (held : List ℕ) → IsAtEnd (prepend_known held now) → IsAtEnd now
end-of None held h = tt
end-of (Some l) [] h = h
end-of (Some l) (b ∷ bs) h = absurd cc

pub source-ended : (x : LineReader) (left now : Option (List ℕ)) (given : List (List ℕ))
    → EndsAfter x left now given → IsAtEnd now
source-ended x left now given e =
    end-of now (behind x) (subst
    (λ p. StandsAt p e.reads.done (to_come x.held now)) e.ended e.reads.stands)

-- so the whole input was read
record IsWhole (text : List ℕ) (given : List (List ℕ)) : Type 0 where
  short : is_too_long text ≡ false
  is : lines (lines_within text) ≡ given

is-whole : (x : LineReader) (text l : List ℕ) (given : List (List ℕ))
    → EndsAfter x (Some text) (Some l) given → IsWhole text given
is-whole x text l given e =
    let none : behind x ++ l ≡ [] = subst
    (λ p. StandsAt p e.reads.done (to_come x.held (Some l))) e.ended e.reads.stands in
    let same : text ≡ e.reads.done =
    e.reads.taken ∙ ap (λ r. e.reads.done ++ r) none ∙ append-nil e.reads.done in
    let short : is_too_long text ≡ false = within_is text
    (subst (λ t. length t ≤ longest_input) (sym same) (omega (arith, e.reads.room))) in
    record {
      short = short;
      is = ap lines (whole-input text short ∙ same) ∙ sym e.reads.given_are;
    }

-- and all that is to be written of it is written of its lines, and behind them
whole-output : (j : LineJob) (text : List ℕ) (given : List (List ℕ)) → IsWhole text given
    → has_bad j given ≡ false
    → lines_output j text ≡ lines_text j given ++ last_text j given
whole-output j text given w good =
    output-whole j text (ap (has_bad j) w.is ∙ good) w.short
    ∙ ap (λ ls. lines_text j ls ++ last_text j ls) w.is

pub succeeded : (x : LineReader) (y : Session) (j : LineJob)
    (left now taken later : Option (List ℕ)) (given : List (List ℕ))
    → EndsAfter x left now given → IsBehind y j given
    → Appends taken later (lines_text j given ++ last_text j given)
    → IsReported j left taken later status.Success
succeeded x y j None now taken later given e b wrote = tt
succeeded x y j (Some text) None taken later given e b wrote = absurd e.reads.taken
succeeded x y j (Some text) (Some l) taken later given e b wrote =
    let w = is-whole x text l given e in (
      sym (verdict-is j text false false (ap (has_bad j) w.is ∙ b.good) w.short),
      subst (Appends taken later) (sym (whole-output j text given w b.good)) wrote,
    )

-- this is a front of the output
pub whole-within : (x : LineReader) (y : Session) (j : LineJob) (left now : Option (List ℕ))
    (given : List (List ℕ)) → EndsAfter x left now given → IsBehind y j given
    → IsOfOutput j left (lines_text j given ++ last_text j given)
whole-within x y j None now given e b = tt
whole-within x y j (Some text) None given e b = absurd e.reads.taken
whole-within x y j (Some text) (Some l) given e b =
    let w = is-whole x text l given e in (
      [],
      whole-output j text given w b.good
          ∙ sym (append-nil (lines_text j given ++ last_text j given)),
    )

-- the lines of the whole input were taken
whole-lines : (x : LineReader) (left now : Option (List ℕ)) (given : List (List ℕ))
    → EndsAfter x left now given → IfSome left (λ text. lines text ≡ given)
whole-lines x None now given e = tt
whole-lines x (Some text) None given e = absurd e.reads.taken
whole-lines x (Some text) (Some l) given e =
    let w = is-whole x text l given e in ap lines (sym (whole-input text w.short)) ∙ w.is

-- the sink failed behind all lines
pub stops-last : (x : LineReader) (j : LineJob) (left now taken later : Option (List ℕ))
    (given : List (List ℕ)) → EndsAfter x left now given
    → (front : List ℕ) → (rest : List ℕ) → last_text j given ≡ front ++ rest → 0 < length rest
    → Appends taken later (lines_text j given ++ front)
    → StopsAs j left now taken later
stops-last x (Report hex) left now taken later given e front rest is some wrote =
    no-part front rest is some
stops-last x Audit left now taken later given e front rest is some wrote = inr (record {
  all = given;
  lines_are = whole-lines x left now given e;
  ended = source-ended x left now given e;
  front = front;
  rest = rest;
  whole = is;
  short = some;
  wrote = wrote;
})
