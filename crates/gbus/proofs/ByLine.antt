-- What is promised where something is done of each line, by how it ends.
use Rattle.std.proofs.Common.{◌≡◌, ℕ, true, false, Option, Some, None, List, refl, ap}
use Rattle.std.proofs.Common.{◌∙◌, subst, inl, inr}
use Rattle.std.specs.Io.KnownBytes.{IsAtEnd}
use Rattle.gb_base.specs.Faults.{Rose}
use Rattle.gb_base.specs.declared.status.Status.{Status}
use Rattle.gb_base.specs.declared.status.Status.TheVariants as status
use Rattle.gbus.specs.Program.{ByLine, IsVerdict, Job, LineJob, is_by_line, lines_output, reads}
use Rattle.gbus.specs.Runs.{FaultRose, IfByLine, IsAnswered, IsComplete, IsCutOff, IsFrontOfOutput}
use Rattle.gbus.specs.Runs.{IsRefusedAt, IsReported, IsWithin, LinesEnd, StopsAs}

-- what was reported was answered
reported : (j : LineJob) (left taken after : Option (List ℕ)) (s : Status)
    → IsReported j left taken after s → IsAnswered (Some (ByLine j)) left taken after s
reported j None taken after s h = tt
reported j (Some text) taken after s h =
    (h.0, record { written = lines_output j text; is_written = refl; appended = h.1 })

-- a status that is the verdict
pub lines-answered : (j : LineJob) (left now taken after : Option (List ℕ)) (s : Status)
    → LinesEnd j left now taken after s
    → IsVerdict s → IsAnswered (Some (ByLine j)) left taken after s
lines-answered j left now taken after status.Success h v =
    reported j left taken after status.Success h.0
lines-answered j left now taken after status.Refused h v =
    reported j left taken after status.Refused h.0
lines-answered j left now taken after status.TooLong h v =
    reported j left taken after status.TooLong h
lines-answered j left now taken after status.Usage h v = absurd v
lines-answered j left now taken after status.ReadFault h v = absurd v
lines-answered j left now taken after status.WriteFault h v = absurd v
lines-answered j left now taken after status.NoMemory h v = absurd v

-- each status by itself
pub lines-end : (j : LineJob) (left now taken after : Option (List ℕ)) (s : Status)
    → LinesEnd j left now taken after s
    → s ≡ status.Success → IsAtEnd now
lines-end j left now taken after s h e = (subst (LinesEnd j left now taken after) e h).1

pub lines-cut : (j : LineJob) (left now taken after : Option (List ℕ)) (s : Status)
    → LinesEnd j left now taken after s
    → s ≡ status.ReadFault → IsCutOff j left now taken after
lines-cut j left now taken after s h e = subst (LinesEnd j left now taken after) e h

pub lines-short : (j : LineJob) (left now taken after : Option (List ℕ)) (s : Status)
    → LinesEnd j left now taken after s
    → s ≡ status.WriteFault → StopsAs j left now taken after
lines-short j left now taken after s h e = subst (LinesEnd j left now taken after) e h

pub lines-refused : (j : LineJob) (left now taken after : Option (List ℕ)) (s : Status)
    → LinesEnd j left now taken after s
    → s ≡ status.Refused → IsRefusedAt j left now
lines-refused j left now taken after s h e = (subst (LinesEnd j left now taken after) e h).1

pub lines-usage : (j : LineJob) (left now taken after : Option (List ℕ)) (s : Status)
    → LinesEnd j left now taken after s
    → s ≡ status.Usage → ⊥
lines-usage j left now taken after s h e = subst (LinesEnd j left now taken after) e h

-- faults
pub lines-read : (reads reads_after writes writes_after : ℕ) (s : Status)
    → FaultRose reads reads_after writes writes_after s
    → s ≡ status.ReadFault → Rose reads reads_after
lines-read reads reads_after writes writes_after s h e =
    subst (FaultRose reads reads_after writes writes_after) e h

pub lines-write : (reads reads_after writes writes_after : ℕ) (s : Status)
    → FaultRose reads reads_after writes writes_after s
    → s ≡ status.WriteFault → Rose writes writes_after
lines-write reads reads_after writes writes_after s h e =
    subst (FaultRose reads reads_after writes writes_after) e h

-- where no count rose
pub lines-complete : (j : LineJob) (left now taken after : Option (List ℕ))
    (reads reads_after writes writes_after : ℕ) (s : Status)
    → LinesEnd j left now taken after s → FaultRose reads reads_after writes writes_after s
    → IsComplete (Some (ByLine j)) left reads reads_after writes writes_after s
lines-complete j None now taken after reads reads_after writes writes_after s h f = tt
lines-complete j (Some t) now taken after reads reads_after writes writes_after
    status.Success h f = λ r w. inl h.0.0
lines-complete j (Some t) now taken after reads reads_after writes writes_after
    status.Refused h f = λ r w. inl h.0.0
lines-complete j (Some t) now taken after reads reads_after writes writes_after
    status.TooLong h f = λ r w. inl h.0
lines-complete j (Some t) now taken after reads reads_after writes writes_after
    status.NoMemory h f = λ r w. inr refl
lines-complete j (Some t) now taken after reads reads_after writes writes_after
    status.ReadFault h f = λ r w. absurd (r f)
lines-complete j (Some t) now taken after reads reads_after writes writes_after
    status.WriteFault h f = λ r w. absurd (w f)
lines-complete j (Some t) now taken after reads reads_after writes writes_after
    status.Usage h f = absurd h

-- ---- what the words ask for being known

-- something is done of each line, and so the source is read
pub by-line-reads : (job : Option Job) (j : LineJob) → Some (ByLine j) ≡ job → reads job ≡ false → ⊥
by-line-reads job j is r = clash (ap reads is ∙ r)
  where
    clash : true ≡ false → ⊥
    clash e = absurd cc

pub by-line-is : (job : Option Job) (j : LineJob) → Some (ByLine j) ≡ job
    → is_by_line job ≡ false → ⊥
by-line-is job j is r = clash (ap is_by_line is ∙ r)
  where
    clash : true ≡ false → ⊥
    clash e = absurd cc

pub by-line-answered : (job : Option Job) (j : LineJob) (left now taken after : Option (List ℕ))
    (s : Status) → Some (ByLine j) ≡ job → LinesEnd j left now taken after s → IsVerdict s
    → IsAnswered job left taken after s
by-line-answered job j left now taken after s is h v =
    subst (λ o. IsAnswered o left taken after s) is
    (lines-answered j left now taken after s h v)

pub by-line-within : (job : Option Job) (j : LineJob) (left taken after : Option (List ℕ))
    → Some (ByLine j) ≡ job → IsFrontOfOutput j left taken after → IsWithin job left taken after
by-line-within job j left taken after is h =
    subst (λ o. IsWithin o left taken after) is (by left h)
  where
    by : (now : Option (List ℕ)) → IsFrontOfOutput j now taken after
        → IsWithin (Some (ByLine j)) now taken after
    by None f = tt
    by (Some text) f =
        inr (record { written = lines_output j text; is_written = refl; part = f })

pub by-line-cut : (job : Option Job) (j : LineJob) (left now taken after : Option (List ℕ))
    (s : Status) → Some (ByLine j) ≡ job → LinesEnd j left now taken after s
    → s ≡ status.ReadFault → IfByLine job (λ k. IsCutOff k left now taken after)
by-line-cut job j left now taken after s is h e =
    subst (λ o. IfByLine o (λ k. IsCutOff k left now taken after)) is
    (lines-cut j left now taken after s h e)

pub by-line-short : (job : Option Job) (j : LineJob) (left now taken after : Option (List ℕ))
    (s : Status) → Some (ByLine j) ≡ job → LinesEnd j left now taken after s
    → s ≡ status.WriteFault → IfByLine job (λ k. StopsAs k left now taken after)
by-line-short job j left now taken after s is h e =
    subst (λ o. IfByLine o (λ k. StopsAs k left now taken after)) is
    (lines-short j left now taken after s h e)

pub by-line-refused : (job : Option Job) (j : LineJob) (left now taken after : Option (List ℕ))
    (s : Status) → Some (ByLine j) ≡ job → LinesEnd j left now taken after s
    → s ≡ status.Refused → IfByLine job (λ k. IsRefusedAt k left now)
by-line-refused job j left now taken after s is h e =
    subst (λ o. IfByLine o (λ k. IsRefusedAt k left now)) is
    (lines-refused j left now taken after s h e)

pub by-line-complete : (job : Option Job) (j : LineJob) (left now taken after : Option (List ℕ))
    (read read_after write write_after : ℕ) (s : Status) → Some (ByLine j) ≡ job
    → LinesEnd j left now taken after s → FaultRose read read_after write write_after s
    → IsComplete job left read read_after write write_after s
by-line-complete job j left now taken after read read_after write write_after s is h f =
    subst (λ o. IsComplete o left read read_after write write_after s) is
    (lines-complete j left now taken after read read_after write write_after s h f)
