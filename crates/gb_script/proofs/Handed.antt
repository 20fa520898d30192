-- What is handed out of a text, line by line.
use Rattle.std.proofs.Common.{◌≡◌, ℕ, ◌+◌, ◌<◌, ◌≤◌, ◌==◌, true, false, Option, Err, List, [], ◌∷◌}
use Rattle.std.proofs.Common.{◌++◌, length, append_assoc, append-nil, length-append, refl, sym, ap}
use Rattle.std.proofs.Common.{◌∙◌, subst, arith}
use Rattle.std.proofs.lemmas.Bool.Decides.{nat_tests}
use Rattle.std.specs.Io.KnownBytes.{Consumes, IsAtEnd}
use Rattle.gb_formats.specs.Lines.{ended_lines, lines, without_cr}
use Rattle.gb_script.proofs.Readings.{consumes-more}
use Rattle.gb_script.proofs.TextLines.{ended-lf, ended-plain, last-line, lines-behind, one-line}
use Rattle.gb_script.specs.Pieces.{HasNoLf}
use Rattle.gb_script.specs.Reading.{ReadsLine, to_come}
use Rattle.gb_script.specs.Readers.{EndsAfter, Gives, Lends, Reads, StandsAt, StopsAfter, behind}
use Rattle.gb_script.specs.declared.held.Held.{Held}
use Rattle.gb_script.specs.declared.held.LineStop.{LineStop}
use Rattle.gb_script.specs.declared.held.LineStop.TheVariants as stop
use Rattle.gb_script.specs.declared.line_reader.LineReader.{LineReader}
use Rattle.gb_script.specs.declared.line_reader.Progress.TheVariants as progress

-- all lines so far ended
so-far : (x : LineReader) (text left : Option (List ℕ)) (given : List (List ℕ))
    (r : Reads x text left given)
    → x.progress ≡ progress.Going
    → ended_lines r.done ≡ r.done
so-far x text left given r e = subst (λ p. StandsAt p r.done (to_come x.held left)) e r.stands

-- a line ended
pub gives-ended : (old new : LineReader) (text left after : Option (List ℕ)) (given : List (List ℕ))
    (raw : List ℕ)
    → Reads old text left given → old.progress ≡ progress.Going → HasNoLf raw
    → Consumes (to_come old.held left) (to_come new.held after) (raw ++ 10 ∷ [])
    → length raw + 1 + new.held.room ≡ old.held.room
    → Lends new (without_cr raw) → new.number ≡ old.number + 1
    → new.progress ≡ old.progress → length (behind new) ≤ 4096 → Gives new text after given
gives-ended old new text left after given raw r going plain taken room lends number same few =
    let line : List ℕ = raw ++ 10 ∷ [] in
    record {
      line = without_cr raw;
      lends = lends;
      reads = record {
        done = r.done ++ line;
        taken = consumes-more text _ _ r.done line r.taken taken;
        given_are =
            sym (lines-behind r.done line (so-far old text left given r going)
            ∙ ap (λ ls. ls ++ lines line) (sym r.given_are)
            ∙ ap (λ ls. given ++ ls) (one-line raw plain));
        stands =
            subst (λ p. StandsAt p (r.done ++ line) (to_come new.held after)) (sym (same ∙ going))
            (ap ended_lines (sym (append_assoc r.done raw (10 ∷ [])))
            ∙ ended-lf (r.done ++ raw)
            ∙ append_assoc r.done raw (10 ∷ []));
        room =
            rw (length-append r.done line, length-append raw (10 ∷ []))
            (omega (arith, r.room, room));
        number = rw (length-append given (without_cr raw ∷ [])) (omega (arith, r.number, number));
        few = few;
      };
    }

-- the last line didn't
pub gives-last : (old new : LineReader) (text left after : Option (List ℕ)) (given : List (List ℕ))
    (raw : List ℕ)
    → Reads old text left given → old.progress ≡ progress.Going → HasNoLf raw
    → Consumes (to_come old.held left) (to_come new.held after) raw
    → IsAtEnd (to_come new.held after)
    → length raw + new.held.room ≡ old.held.room
    → Lends new raw → 0 < length raw → new.number ≡ old.number + 1
    → new.progress ≡ progress.Ended → length (behind new) ≤ 4096 → Gives new text after given
gives-last old new text left after given raw r going plain taken at_end =
    λ room lends some number ended few. record {
      line = raw;
      lends = lends;
      reads = record {
        done = r.done ++ raw;
        taken = consumes-more text _ _ r.done raw r.taken taken;
        given_are =
            sym (lines-behind r.done raw (so-far old text left given r going)
            ∙ ap (λ ls. ls ++ lines raw) (sym r.given_are)
            ∙ ap (λ ls. given ++ ls) (last-line raw plain some));
        stands =
            subst (λ p. StandsAt p (r.done ++ raw) (to_come new.held after)) (sym ended) at_end;
        room = rw (length-append r.done raw) (omega (arith, r.room, room));
        number = rw (length-append given (raw ∷ [])) (omega (arith, r.number, number));
        few = few;
      };
    }

-- there was none
pub ends-after : (old new : LineReader) (text left after : Option (List ℕ)) (given : List (List ℕ))
    (raw : List ℕ)
    → Reads old text left given
    → raw ≡ [] → Consumes (to_come old.held left) (to_come new.held after) raw
    → IsAtEnd (to_come new.held after)
    → length raw + new.held.room ≡ old.held.room → new.number ≡ old.number
    → new.progress ≡ progress.Ended → length (behind new) ≤ 4096 → EndsAfter new text after given
ends-after old new text left after given raw r none taken at_end room number ended few = record {
  ended = ended;
  reads = record {
    done = r.done;
    taken =
        subst (Consumes text (to_come new.held after))
        (ap (λ l. r.done ++ l) none ∙ append-nil r.done)
        (consumes-more text _ _ r.done raw r.taken taken);
    given_are = r.given_are;
    stands = subst (λ p. StandsAt p r.done (to_come new.held after)) (sym ended) at_end;
    room = omega (arith, r.room, room, ap length none);
    number = number ∙ r.number;
    few = few;
  };
}

-- no line came
pub stops-after : (old : LineReader) (mid : Held) (text left after : Option (List ℕ))
    (given : List (List ℕ)) (e : LineStop)
    → Reads old text left given
    → old.progress ≡ progress.Going → ReadsLine old.held mid left after (Err e)
    → StopsAfter text after given e
stops-after old mid text left after given stop.ReadFault r going h = record {
  read = r.done ++ h.raw;
  taken = consumes-more text _ _ r.done h.raw r.taken h.taken;
  given_are =
      r.given_are
      ∙ ap lines (sym (ended-plain r.done h.raw h.plain ∙ so-far old text left given r going));
  within = rw (length-append r.done h.raw) (omega (arith, r.room, h.within));
}
stops-after old mid text left after given stop.TooLong r going h = record {
  read = r.done ++ h.raw;
  others = h.beyond;
  taken =
      subst (Consumes text after) (sym (append_assoc r.done h.raw h.beyond))
      (consumes-more text _ _ r.done (h.raw ++ h.beyond) r.taken h.taken);
  given_are =
      r.given_are
      ∙ ap lines (sym (ended-plain r.done h.raw h.plain ∙ so-far old text left given r going));
  full = length-append r.done h.raw ∙ omega (arith, r.room, h.full);
  more = h.more;
  few = h.few;
}

-- a list without elements, and one with some
zero-is : (n : ℕ) → n == 0 ≡ true → n ≡ 0
zero-is n e = grind (arith, nat_tests)

zero-no : (n : ℕ) → n == 0 ≡ false → 0 < n
zero-no n e = grind (arith, nat_tests)

pub none-of : (raw : List ℕ) → length raw == 0 ≡ true → raw ≡ []
none-of [] e = refl
none-of (b ∷ bs) e = absurd (omega (arith, zero-is (length (b ∷ bs)) e))

pub some-of : (raw : List ℕ) → length raw == 0 ≡ false → 0 < length raw
some-of raw e = zero-no (length raw) e
