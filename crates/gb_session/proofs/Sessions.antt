-- A line that a reporter takes is taken by the session that keeps it.
use Rattle.std.proofs.Common.{◌≡◌, ℕ, ◌+◌, Bool, true, false, Some, List, [], ◌∷◌, sym, ap}
use Rattle.std.proofs.Common.{subst, ◌∙◌, ◌<◌, arith}
use Rattle.std.specs.Prelude.{Option, is_none}
use Rattle.gb_machine.specs.Report.{report_from}
use Rattle.gb_machine.specs.State.{State}
use Rattle.gb_session.specs.Reporting as reporter
use Rattle.gb_session.specs.Reporting.{number_of, reported_last, shows_bytes}
use Rattle.gb_session.specs.Sessions.{EndsAs, Runs, StandsBy, TakesLine, TakesNone}
use Rattle.gb_session.specs.Sessions.{is_wanting, line_in}
use Rattle.gb_session.specs.declared.reporter.Reporter.{Reporter}
use Rattle.gb_session.specs.declared.session.Ended.{Ended}
use Rattle.gb_session.specs.declared.session.Session.{Session}

-- a line was taken by a reporter that is kept
pub takes-line : (old new : Reporter) (hex : Bool) (n : ℕ) (line : List ℕ) (s : State)
    → StandsBy (Some old) hex n s → reporter.TakesLine new line s
    → number_of new ≡ number_of old + 1 → shows_bytes new ≡ shows_bytes old
    → TakesLine (Some new) hex n line s
takes-line old new hex n line s stands t number same =
    let shown : shows_bytes new ≡ hex = same ∙ stands.0 in
    let counted : number_of new ≡ n + 1 = number ∙ ap (λ k. k + 1) stands.1 in record {
      stands = (shown, counted, t.stands);
      text = t.text ∙ ap (λ b. report_from b (number_of new) s (line ∷ [])) shown
          ∙ ap (λ k. report_from hex k s (line ∷ [])) counted;
    }

-- none was taken, since as many were as may be
pub takes-none : (old new : Reporter) (hex : Bool) (n : ℕ) (s : State)
    → StandsBy (Some old) hex n s → number_of old < 4294967296
    → ¬ (number_of old + 1 < 4294967296) → reported_last new ≡ []
    → (reporter.Stands old s → reporter.Stands new s) → number_of new ≡ number_of old
    → shows_bytes new ≡ shows_bytes old → TakesNone (Some new) hex n s
takes-none old new hex n s stands low high text keeps number same =
    let full : number_of old ≡ 4294967295 = omega (arith, low, high) in record {
      spent = sym stands.1 ∙ full;
      stands = (same ∙ stands.0, number ∙ stands.1, keeps stands.2);
      text = text;
    }

-- a line was run where memory was found
pub goes-on : (old : Session) (x new : Reporter) (bytes : List ℕ) (how : Ended)
    → old.reporter ≡ Some x → is_wanting how ≡ false
    → ((hex : Bool) (n : ℕ) (s : State) → StandsBy (Some x) hex n s
    → EndsAs (Some new) hex n (line_in bytes) s how)
    → Runs old (record { reporter = Some new }) bytes how
goes-on old x new bytes how was found ends = record {
  step = λ hex n s stands.
      ends hex n s (subst (λ (k : Option Reporter). StandsBy k hex n s) was stands);
  failed = sym found;
  later = λ failed. let wrong : false ≡ true = ap is_none (sym was) ∙ failed in absurd cc;
}
