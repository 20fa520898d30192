-- How it goes on, or ends, where a line was asked for.
use Rattle.std.proofs.Common.{◌≡◌, true, false, Option, List, ℕ, [], ◌++◌}
use Rattle.std.proofs.Common.{append-nil, ap, sym, subst, ◌∙◌}
use Rattle.std.specs.Io.KnownBytes.{Appends}
use Rattle.gb_base.specs.declared.status.Status.{Status}
use Rattle.gb_base.specs.declared.status.Status.TheVariants as status
use Rattle.gb_script.specs.Readers.{EndsAfter, holds_line}
use Rattle.gb_script.specs.declared.line_reader.LineReader.{LineReader}
use Rattle.gbus.proofs.Gathering.{gathers-on, no-part}
use Rattle.gbus.proofs.LineEnds.{behind-lines, source-ended, stops-last, succeeded, whole-within}
use Rattle.gbus.specs.Program.{LineJob, last_text, lines_text}
use Rattle.gbus.specs.Runs.{LinesEnd}
use Rattle.gbus.specs.Sessions.{ending_of, written}
use Rattle.gbus.specs.Stages.{Gathers, IsAtLast, IsOfOutput, Stage}
use Rattle.gbus.specs.declared.line_worker.LineWorker.{LineWorker}
use Rattle.gbus.specs.declared.session.Session.{Session}

-- Nothing stands behind what is gathered.
pub none-behind : (x : LineWorker) (j : LineJob) (left now taken after : Option (List ℕ))
    (whole : List ℕ) (s : Status) → ending_of s x.session ≡ []
    → Gathers j left now taken after x.gathered whole → IsOfOutput j left whole
    → ((later : Option (List ℕ)) → Appends taken later whole → LinesEnd j left now taken later s)
    → IsAtLast x j left now taken after s
none-behind x j left now taken after whole s none gathers within ends = record {
  whole = whole;
  gathers = gathers;
  within = subst (IsOfOutput j left) (sym same) within;
  ends = λ later wrote. ends later (subst (Appends taken later) same wrote);
  stops = λ later front rest is some wrote. no-part front rest (sym none ∙ is) some;
}
  where
    same : whole ++ ending_of s x.session ≡ whole
    same = ap (λ l. whole ++ l) none ∙ append-nil whole

module _ (x : LineWorker) (j : LineJob) (left before now taken after : Option (List ℕ))
    (st : Stage x j left before taken after)
    (same : holds_line x.reader ≡ true → now ≡ before)
    (none : holds_line x.reader ≡ false → x.gathered ≡ []) where
  -- nothing is gathered where the source was read
  pub gathers-read : Gathers j left now taken after x.gathered (lines_text j st.given)
  gathers-read =
      gathers-on (holds_line x.reader) j left before now taken after x.gathered
      (lines_text j st.given) same none st.gathers

  -- no line came, and nothing stands behind those that came
  pub at-last : (reader : LineReader) (session : Session) (s : Status) → ending_of s session ≡ []
      → ((later : Option (List ℕ)) → Appends taken later (lines_text j st.given)
      → LinesEnd j left now taken later s)
      → IsAtLast (record x { reader = reader; session = session }) j left now taken after s
  at-last reader session s nothing ends =
      none-behind (record x { reader = reader; session = session }) j left now taken after
      (lines_text j st.given) s nothing gathers-read
      (behind-lines x.reader x.session j left before st.given st.reads st.behind) ends

  -- no line is left, and what stands behind all of them is made
  pub closed-last : (reader : LineReader) (session : Session) → EndsAfter reader left now st.given
      → written session ≡ last_text j st.given
      → IsAtLast (record x { reader = reader; session = session }) j left now taken after
      status.Success
  closed-last reader session ended is = record {
    whole = lines_text j st.given;
    gathers = gathers-read;
    within = subst (λ t. IsOfOutput j left (lines_text j st.given ++ t)) (sym is)
        (whole-within reader x.session j left now st.given ended st.behind);
    ends =
        λ later wrote. (
          succeeded reader x.session j left now taken later st.given ended st.behind
              (subst (λ t. Appends taken later (lines_text j st.given ++ t)) is wrote),
          source-ended reader left now st.given ended,
        );
    stops = λ later front rest part some wrote.
        stops-last reader j left now taken later st.given ended front rest (sym is ∙ part) some
        wrote;
  }
