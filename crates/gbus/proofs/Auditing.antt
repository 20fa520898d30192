-- A session that audits goes on as its auditor does.
use Rattle.std.proofs.Common.{◌≡◌, ℕ, Bool, true, false, ◌||◌, None, Result, Ok, Err, List}
use Rattle.std.proofs.Common.{[], ◌∷◌, ◌++◌, refl, sym, ap, subst, ◌∙◌}
use Rattle.std.specs.Prelude.{is_some}
use Rattle.gb_base.specs.declared.errors.OutOfMemory.{OutOfMemory}
use Rattle.gb_capture.proofs.Taking.{audited-front}
use Rattle.gb_capture.specs.Auditors as auditors
use Rattle.gb_capture.specs.declared.auditor.Auditor.{Auditor}
use Rattle.gb_capture.specs.declared.auditor.Turn.{Turn}
use Rattle.gb_capture.specs.declared.auditor.Turn.TheVariants as turn
use Rattle.gb_formats.specs.Captures.{first_bad}
use Rattle.gbus.proofs.LineJobs.{bad-none, bad-of, bad-one}
use Rattle.gbus.specs.Program.{Audit, LineJob, has_bad, is_bad}
use Rattle.gbus.specs.Sessions.{IsBehind, TurnsAs}
use Rattle.gbus.specs.declared.session.Session.TheVariants as session

-- these lines were taken
pub audits_behind : (x : Auditor) (given : List (List ℕ)) → auditors.HasTaken x given
    → IsBehind (session.Audit x) Audit given
audits_behind x given taken = record {
  same = refl;
  done = taken;
  goes = λ ls. audited-front given ls taken.good;
  good = ap is_some taken.good;
}

-- a line is bad where there is a bad line once it has come
or-none : (a b c : Bool) → a ≡ false → c ≡ false → a || (b || c) ≡ true → b ≡ true
or-none false true c p q h = refl
or-none false false c p q h = absurd (cc (q, h))
or-none true b c p q h = absurd cc

last-bad : (given : List (List ℕ)) (line : List ℕ) → first_bad given ≡ None
    → is_some (first_bad (given ++ line ∷ [])) ≡ true → is_bad Audit line ≡ true
last-bad given line good bad =
    or-none (has_bad Audit given) (is_bad Audit line) (has_bad Audit []) (ap is_some good)
    (bad-none Audit)
    (ap (λ b. has_bad Audit given || b) (sym (bad-one Audit line []))
    ∙ sym (bad-of Audit given (line ∷ [])) ∙ bad)

-- by cases on what became of a line
by_turn : (old new : Auditor) (given : List (List ℕ)) (line : List ℕ) (turn : Turn)
    → auditors.HasTaken old given → auditors.TurnsAs new given line (Ok turn)
    → TurnsAs (session.Audit new) Audit given line (Ok turn)
by_turn old new given line turn.Next b h = record {
  behind = audits_behind new (given ++ line ∷ []) h.taken;
  text = h.text;
}
by_turn old new given line turn.Refused b h = record {
  bad = last-bad given line b.good (h.bad []);
  text = h.text;
}

-- A line that an auditor took was taken by the session.
audits_line : (old new : Auditor) (j : LineJob) (given : List (List ℕ)) (line : List ℕ)
    (turn : Turn) → IsBehind (session.Audit old) j given
    → (auditors.HasTaken old given → auditors.TurnsAs new given line (Ok turn))
    → TurnsAs (session.Audit new) j given line (Ok turn)
audits_line old new j given line turn b h =
    subst (λ k. TurnsAs (session.Audit new) k given line (Ok turn)) b.same
    (by_turn old new given line turn b.done (h b.done))

-- by cases on the answer
pub audits_as : (old new : Auditor) (answer : Result Turn OutOfMemory) (j : LineJob)
    (given : List (List ℕ)) (line : List ℕ) → IsBehind (session.Audit old) j given
    → (auditors.HasTaken old given → auditors.TurnsAs new given line answer)
    → TurnsAs (session.Audit new) j given line answer
audits_as old new (Ok turn) j given line b h = audits_line old new j given line turn b h
audits_as old new (Err refused) j given line b h = tt
