-- A line that is run goes on as the report does.
use Rattle.std.proofs.Common.{◌≡◌, ℕ, ◌+◌, Bool, true, false, Ok, List, [], ◌∷◌, ◌++◌}
use Rattle.std.proofs.Common.{append_assoc, refl, sym, ap, subst, ◌∙◌}
use Rattle.std.specs.Result.{is_err}
use Rattle.gb_machine.specs.Report.{report_from}
use Rattle.gb_machine.specs.State.{State, first_state}
use Rattle.gb_session.proofs.Reporting.{behind-bad, behind-good}
use Rattle.gb_session.specs.Reporting as reporter
use Rattle.gb_session.specs.Reporting.{RunsAs, TakesLine, line_says, number_of, reported_last}
use Rattle.gb_session.specs.Reporting.{shows_bytes, state_behind}
use Rattle.gb_session.specs.declared.reporter.Ran.{Ran}
use Rattle.gb_session.specs.declared.reporter.Ran.TheVariants as ran
use Rattle.gb_session.specs.declared.reporter.Reporter.{Reporter}
use Rattle.gbus.proofs.LineJobs.{bad-none, good-more}
use Rattle.gbus.specs.Program.{LineJob, Report}
use Rattle.gbus.specs.Sessions.{HasRun, IsBehind, TurnsAs, turn_of}
use Rattle.gbus.specs.declared.session.Session.TheVariants as session

-- nothing is reported of no lines
report_none : (hex : Bool) (n : ℕ) (s : State) → report_from hex n s [] ≡ []
unfolding report_from
report_none hex n s = refl

-- ---- behind a line

-- In these, `old` and `new` are the reporter before a line and behind it.

-- the text of a line is its report, as the reporter before it would have it
its_text : (old new : Reporter) (line : List ℕ) (s : State) → TakesLine new line s
    → number_of new ≡ number_of old + 1 → shows_bytes new ≡ shows_bytes old
    → report_from (shows_bytes old) (number_of old + 1) s (line ∷ []) ≡ reported_last new
its_text old new line s t number same =
    ap (λ k. report_from (shows_bytes old) k s (line ∷ [])) (sym number)
    ∙ ap (λ b. report_from b (number_of new) s (line ∷ [])) (sym same) ∙ sym t.text

-- what is reported of lines, of which this one is the last
up_to : (old new : Reporter) (given : List (List ℕ)) (line : List ℕ) (b : HasRun old given)
    → TakesLine new line b.state → number_of new ≡ number_of old + 1
    → shows_bytes new ≡ shows_bytes old
    → report_from (shows_bytes old) 1 first_state (given ++ line ∷ [])
    ≡ report_from (shows_bytes old) 1 first_state given ++ reported_last new
up_to old new given line b t number same =
    b.goes (line ∷ []) ∙ ap (λ w. report_from (shows_bytes old) 1 first_state given ++ w)
    (its_text old new line b.state t number same)

-- of which this one is good
goes_line : (old new : Reporter) (given : List (List ℕ)) (line : List ℕ) (b : HasRun old given)
    → TakesLine new line b.state → is_err (line_says line) ≡ false
    → number_of new ≡ number_of old + 1 → shows_bytes new ≡ shows_bytes old
    → (ls : List (List ℕ)) → report_from (shows_bytes old) 1 first_state (given ++ line ∷ ls)
    ≡ (report_from (shows_bytes old) 1 first_state given ++ reported_last new)
    ++ report_from (shows_bytes old) (number_of new + 1) (state_behind (line_says line) b.state) ls
goes_line old new given line b t good number same ls =
    let hex = shows_bytes old in
    let before = report_from hex 1 first_state given in
    let after = state_behind (line_says line) b.state in
    b.goes (line ∷ ls)
    ∙ ap (λ w. before ++ w)
    (behind-good hex (number_of old + 1) b.state line ls good
    ∙ ap (λ w. w ++ report_from hex ((number_of old + 1) + 1) after ls)
    (its_text old new line b.state t number same)
    ∙ ap (λ k. reported_last new ++ report_from hex (k + 1) after ls) (sym number))
    ∙ sym (append_assoc before (reported_last new) (report_from hex (number_of new + 1) after ls))

-- of which this one is the first bad one
goes_bad : (old new : Reporter) (given : List (List ℕ)) (line : List ℕ) (b : HasRun old given)
    → TakesLine new line b.state → is_err (line_says line) ≡ true
    → number_of new ≡ number_of old + 1 → shows_bytes new ≡ shows_bytes old
    → (ls : List (List ℕ)) → report_from (shows_bytes old) 1 first_state (given ++ line ∷ ls)
    ≡ report_from (shows_bytes old) 1 first_state given ++ reported_last new
goes_bad old new given line b t bad number same ls =
    b.goes (line ∷ ls)
    ∙ ap (λ w. report_from (shows_bytes old) 1 first_state given ++ w)
    (behind-bad (shows_bytes old) (number_of old + 1) b.state line ls bad
    ∙ its_text old new line b.state t number same)

-- ---- a session that reports

-- these lines were run
pub is_behind : (x : Reporter) (given : List (List ℕ)) → HasRun x given
    → IsBehind (session.Report x) (Report (shows_bytes x)) given
is_behind x given b = record {
  same = refl;
  done = b;
  goes = λ ls. (report_from (shows_bytes x) (number_of x + 1) b.state ls, b.goes ls);
  good = b.good;
}

-- a line was run
has_run : (old new : Reporter) (given : List (List ℕ)) (line : List ℕ) (b : HasRun old given)
    → TakesLine new line b.state → is_err (line_says line) ≡ false
    → number_of new ≡ number_of old + 1 → shows_bytes new ≡ shows_bytes old
    → HasRun new (given ++ line ∷ [])
has_run old new given line b t good number same =
    let after = state_behind (line_says line) b.state in record {
      state = after;
      stands = t.stands;
      goes = λ ls. subst (λ x. report_from x 1 first_state ((given ++ line ∷ []) ++ ls)
          ≡ report_from x 1 first_state (given ++ line ∷ [])
          ++ report_from x (number_of new + 1) after ls) (sym same)
          (ap (report_from (shows_bytes old) 1 first_state) (append_assoc given (line ∷ []) ls)
          ∙ goes_line old new given line b t good number same ls
          ∙ ap (λ w. w ++ report_from (shows_bytes old) (number_of new + 1) after ls)
          (sym (up_to old new given line b t number same)));
      good = good-more (Report (shows_bytes old)) given line b.good good;
    }

-- by cases on what became of it
by_turn : (old new : Reporter) (given : List (List ℕ)) (line : List ℕ) (how : Ran)
    → (b : HasRun old given) → RunsAs new line b.state (Ok how)
    → number_of new ≡ number_of old + 1 → shows_bytes new ≡ shows_bytes old
    → TurnsAs (session.Report new) (Report (shows_bytes old)) given line (Ok (turn_of how))
by_turn old new given line ran.Done b h number same = record {
  behind = subst (λ x. IsBehind (session.Report new) (Report x) (given ++ line ∷ [])) same
      (is_behind new (given ++ line ∷ []) (has_run old new given line b h.1 h.0 number same));
  text = up_to old new given line b h.1 number same;
}
by_turn old new given line ran.Bad b h number same = record {
  bad = h.0;
  text = goes_bad old new given line b h.1 h.0 number same;
}

-- A line that a reporter took was taken by the session.
pub takes_line : (old new : Reporter) (j : LineJob) (given : List (List ℕ)) (line : List ℕ)
    (how : Ran) → IsBehind (session.Report old) j given
    → ((s : State) → reporter.Stands old s → RunsAs new line s (Ok how))
    → number_of new ≡ number_of old + 1 → shows_bytes new ≡ shows_bytes old
    → TurnsAs (session.Report new) j given line (Ok (turn_of how))
takes_line old new j given line how b h number same =
    subst (λ k. TurnsAs (session.Report new) k given line (Ok (turn_of how))) b.same
    (by_turn old new given line how b.done (h b.done.state b.done.stands) number same)

-- before the first line
pub first_behind : (x : Reporter) (hex : Bool) → reporter.Stands x first_state
    → number_of x ≡ 0 → shows_bytes x ≡ hex → IsBehind (session.Report x) (Report hex) []
first_behind x hex stands number same =
    subst (λ h. IsBehind (session.Report x) (Report h) []) same (is_behind x [] (record {
      state = first_state;
      stands = stands;
      goes =
          λ ls. sym (ap (λ w. w ++ report_from (shows_bytes x) (number_of x + 1) first_state ls)
          (report_none (shows_bytes x) 1 first_state)
          ∙ ap (λ n. report_from (shows_bytes x) (n + 1) first_state ls) number);
      good = bad-none (Report (shows_bytes x));
    }))
