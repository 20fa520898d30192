-- What is gathered, and then written.
use Rattle.std.proofs.Common.{◌≡◌, ℕ, ◌<◌, ◌≤◌, Bool, true, false, Option, Some, None, List, []}
use Rattle.std.proofs.Common.{◌∷◌, ◌++◌, length, append_assoc, append-nil, refl, sym, ap, ◌∙◌}
use Rattle.std.proofs.Common.{subst, arith, inl, inr}
use Rattle.std.specs.Io.KnownBytes.{Appends}
use Rattle.gb_base.specs.Faults.{Rose}
use Rattle.gb_base.specs.declared.sink.WriteStop.{WriteStop}
use Rattle.gb_base.specs.declared.sink.WriteStop.TheVariants as stop
use Rattle.gb_base.specs.declared.status.Status.{Status}
use Rattle.gb_base.specs.declared.status.Status.TheVariants as status
use Rattle.gbus.proofs.Fronts.{all_taken, appends_more, nothing_more, part_taken}
use Rattle.gbus.specs.Program.{Audit, LineJob, Report, lines_text}
use Rattle.gbus.specs.Runs.{FaultRose, IsFrontOfOutput, LinesEnd, ReadsTo, StopsAs, StopsShort}
use Rattle.gbus.specs.Runs.{TakesFront}
use Rattle.gbus.specs.Sessions.{ending_of}
use Rattle.gbus.specs.Stages.{Gathers, IsAtLast, IsLeft, IsOfOutput, fault_status}
use Rattle.gbus.specs.Writing.{TakesPart}
use Rattle.gbus.specs.declared.line_worker.LineWorker.{LineWorker}
use Rattle.gbus.specs.declared.session.Session.{Session}

-- of no bytes there is no part
pub no-part : {A : Type 0} (front rest : List ℕ) → [] ≡ front ++ rest → 0 < length rest → A
no-part [] [] e some = absurd (omega arith)
no-part [] (b ∷ bs) e some = absurd cc
no-part (b ∷ bs) rest e some = absurd cc

-- nothing was written or gathered
pub gathers-none : (j : LineJob) (left now taken : Option (List ℕ)) (whole : List ℕ)
    → [] ≡ whole → Gathers j left now taken taken [] whole
gathers-none j left now taken whole none = record {
  written = [];
  wrote = nothing_more taken;
  whole_is = none;
  short = λ front rest e some. no-part front rest e some;
}

-- all that was gathered is written, and so it stays whatever is read
pub all-written : (j : LineJob) (left now next taken after later : Option (List ℕ))
    (held whole : List ℕ)
    → Gathers j left now taken after held whole → Appends after later held
    → Gathers j left next taken later [] whole
all-written j left now next taken after later held whole g wrote = record {
  written = g.written ++ held;
  wrote = appends_more taken after later g.written held g.wrote wrote;
  whole_is = append-nil (g.written ++ held) ∙ g.whole_is;
  short = λ front rest e some. no-part front rest e some;
}

-- where nothing is gathered, or nothing is read, so it stays
pub gathers-on : (has : Bool) (j : LineJob) (left now next taken after : Option (List ℕ))
    (held whole : List ℕ)
    → (has ≡ true → next ≡ now) → (has ≡ false → held ≡ [])
    → Gathers j left now taken after held whole → Gathers j left next taken after held whole
gathers-on true j left now next taken after held whole same none g =
    subst (λ n. Gathers j left n taken after held whole) (sym (same refl)) g
gathers-on false j left now next taken after held whole same none g =
    subst (λ h. Gathers j left next taken after h whole) (sym (none refl))
    (all-written j left now next taken after after [] whole
    (subst (λ h. Gathers j left now taken after h whole) (none refl) g) (nothing_more after))

-- ---- a line more

-- A front of a text and a piece ends within the text, or within the piece.
by-front : {A : Type 0} (held piece front rest : List ℕ)
    → held ++ piece ≡ front ++ rest
    → ((mid : List ℕ) → held ≡ front ++ mid → 0 < length mid → A)
    → ((mid : List ℕ) → front ≡ held ++ mid → piece ≡ mid ++ rest → A) → A
by-front [] piece front rest e within behind = behind front refl e
by-front (h ∷ hs) piece [] rest e within behind = within (h ∷ hs) refl (omega arith)
by-front (h ∷ hs) piece (f ∷ fs) rest e within behind =
    let head : h ≡ f = cc in
    let tail : hs ++ piece ≡ fs ++ rest = cc in
    by-front hs piece fs rest tail
    (λ mid is some. within mid (ap (λ l. h ∷ l) is ∙ ap (λ b. b ∷ (fs ++ mid)) head) some)
    (λ mid is rest_is.
    behind mid (ap (λ l. f ∷ l) is ∙ ap (λ b. b ∷ (hs ++ mid)) (sym head)) rest_is)

-- the report of a line was gathered
pub gathers-more : (j : LineJob) (left now taken after : Option (List ℕ))
    (held piece held_after : List ℕ) (given : List (List ℕ)) (line : List ℕ)
    → Gathers j left now taken after held (lines_text j given) → ReadsTo left now given line
    → lines_text j (given ++ line ∷ []) ≡ lines_text j given ++ piece
    → held_after ≡ held ++ piece
    → Gathers j left now taken after held_after (lines_text j (given ++ line ∷ []))
gathers-more j left now taken after held piece held_after given line g reads is added = record {
  written = g.written;
  wrote = g.wrote;
  whole_is =
      ap (λ l. g.written ++ l) added ∙ sym (append_assoc g.written held piece)
      ∙ ap (λ l. l ++ piece) g.whole_is ∙ sym is;
  short =
      λ front rest e some. by-front held piece front rest (sym added ∙ e)
      (λ mid held_is some_mid. g.short front mid held_is some_mid)
      (λ mid front_is piece_is. record {
        earlier = given;
        line = line;
        reads = reads;
        front = mid;
        rest = rest;
        whole =
            is ∙ ap (λ l. lines_text j given ++ l) piece_is
            ∙ sym (append_assoc (lines_text j given) mid rest);
        short = some;
        text_is =
            ap (λ l. g.written ++ l) front_is ∙ sym (append_assoc g.written held mid)
            ∙ ap (λ l. l ++ mid) g.whole_is;
      });
}

-- ---- writing

-- a front of what is gathered was written
pub front-written : (j : LineJob) (left now taken after later : Option (List ℕ))
    (held whole : List ℕ)
    → Gathers j left now taken after held whole → IsOfOutput j left whole
    → TakesFront after later held → IsFrontOfOutput j left taken later
front-written j None now taken after later held whole g within part = tt
front-written j (Some text) now taken after later held whole g within part = record {
  front = g.written ++ part.front;
  rest = part.rest ++ within.0;
  whole =
      within.1
      ∙ ap (λ l. l ++ within.0) (sym g.whole_is ∙ ap (λ l. g.written ++ l) part.whole
      ∙ sym (append_assoc g.written part.front part.rest))
      ∙ append_assoc (g.written ++ part.front) part.rest within.0;
  taken_is = appends_more taken after later g.written part.front g.wrote part.taken_is;
}

-- the sink failed
stops-short : (j : LineJob) (left now taken after later : Option (List ℕ)) (held whole : List ℕ)
    → Gathers j left now taken after held whole → TakesPart after later held
    → StopsShort j left now taken later
stops-short j left now taken after later held whole g part =
    let at = g.short part.front part.rest part.whole part.short in
    record {
      earlier = at.earlier;
      line = at.line;
      reads = at.reads;
      front = at.front;
      rest = at.rest;
      whole = at.whole;
      short = at.short;
      wrote = subst (Appends taken later) at.text_is
          (appends_more taken after later g.written part.front g.wrote part.taken_is);
    }

-- so it stops, whatever is done of each line
stops-as : (j : LineJob) (left now taken later : Option (List ℕ))
    → StopsShort j left now taken later → StopsAs j left now taken later
stops-as (Report hex) left now taken later h = h
stops-as Audit left now taken later h = inl h

-- a write stopped
stop-ends : (j : LineJob) (left now taken later : Option (List ℕ)) (e : WriteStop)
    → StopsAs j left now taken later → LinesEnd j left now taken later (fault_status e)
stop-ends j left now taken later stop.Failed h = h
stop-ends j left now taken later (stop.Memory refused) h = tt

pub write-stops : (j : LineJob) (left now taken after later : Option (List ℕ))
    (held whole : List ℕ) (e : WriteStop) (s : Status)
    → s ≡ fault_status e → Gathers j left now taken after held whole → IsOfOutput j left whole
    → TakesPart after later held
    → LinesEnd j left now taken later s × IsFrontOfOutput j left taken later
write-stops j left now taken after later held whole e s is g within part = (
  subst (LinesEnd j left now taken later) (sym is)
      (stop-ends j left now taken later e (stops-as j left now taken later
      (stops-short j left now taken after later held whole g part))),
  front-written j left now taken after later held whole g within
      (part_taken after later held part),
)

-- ---- what stands behind all lines

-- a front of a front of the output
pub front-within : (j : LineJob) (left : Option (List ℕ)) (front rest : List ℕ)
    → IsOfOutput j left (front ++ rest) → IsOfOutput j left front
front-within j None front rest h = tt
front-within j (Some text) front rest h =
    (rest ++ h.0, h.1 ∙ append_assoc front rest h.0)

-- all that was gathered was written
pub left-over : (x : LineWorker) (j : LineJob) (left now taken after later : Option (List ℕ))
    (s : Status) → IsAtLast x j left now taken after s → Appends after later x.gathered
    → IsLeft x.session j left now taken later s
left-over x j left now taken after later s h wrote = record {
  whole = h.whole;
  wrote = subst (Appends taken later) h.gathers.whole_is
      (appends_more taken after later h.gathers.written x.gathered h.gathers.wrote wrote);
  within = h.within;
  ends = h.ends;
  stops = h.stops;
}

-- a front of what stands behind it was written
ending-front : (x : Session) (j : LineJob) (left now taken after later : Option (List ℕ))
    (s : Status) → IsLeft x j left now taken after s → TakesFront after later (ending_of s x)
    → IsFrontOfOutput j left taken later
ending-front x j None now taken after later s h part = tt
ending-front x j (Some text) now taken after later s h part = record {
  front = h.whole ++ part.front;
  rest = part.rest ++ h.within.0;
  whole =
      h.within.1
      ∙ ap (λ l. (h.whole ++ l) ++ h.within.0) part.whole
      ∙ ap (λ l. l ++ h.within.0) (sym (append_assoc h.whole part.front part.rest))
      ∙ append_assoc (h.whole ++ part.front) part.rest h.within.0;
  taken_is = appends_more taken after later h.whole part.front h.wrote part.taken_is;
}

-- all of it was written
pub ending-written : (x : Session) (j : LineJob) (left now taken after later : Option (List ℕ))
    (s : Status) → IsLeft x j left now taken after s → Appends after later (ending_of s x)
    → LinesEnd j left now taken later s × IsFrontOfOutput j left taken later
ending-written x j left now taken after later s h wrote = (
  h.ends later (appends_more taken after later h.whole (ending_of s x) h.wrote wrote),
  ending-front x j left now taken after later s h (all_taken after later (ending_of s x) wrote),
)

-- a write of it stopped
pub ending-stops : (x : Session) (j : LineJob) (left now taken after later : Option (List ℕ))
    (s : Status) (e : WriteStop) (t : Status) → t ≡ fault_status e
    → IsLeft x j left now taken after s → TakesPart after later (ending_of s x)
    → LinesEnd j left now taken later t × IsFrontOfOutput j left taken later
ending-stops x j left now taken after later s e t is h part = (
  subst (LinesEnd j left now taken later) (sym is)
      (stop-ends j left now taken later e (h.stops later part.front part.rest part.whole part.short
      (appends_more taken after later h.whole part.front h.wrote part.taken_is))),
  ending-front x j left now taken after later s h (part_taken after later (ending_of s x) part),
)

-- ---- faults

-- what rose since a later moment rose since an earlier one
rose-more : (a b c : ℕ) → a ≤ b → Rose b c → Rose a c
rose-more a b c h (inl more) = inl (omega arith)
rose-more a b c h (inr most) = inr most

pub rose-since : (read read_between read_after write write_between mid write_after : ℕ)
    (s : Status) → read ≤ read_between → write ≤ write_between → write_between ≤ mid
    → FaultRose read_between read_after mid write_after s
    → FaultRose read read_after write write_after s
rose-since a b c w x y z status.ReadFault r l m rose = rose-more a b c r rose
rose-since a b c w x y z status.WriteFault r l m rose =
    rose-more w y z (omega arith) rose
rose-since a b c w x y z status.Success r l m rose = tt
rose-since a b c w x y z status.Refused r l m rose = tt
rose-since a b c w x y z status.TooLong r l m rose = tt
rose-since a b c w x y z status.NoMemory r l m rose = tt
rose-since a b c w x y z status.Usage r l m rose = tt

-- what rose after a write rose since before it
pub rose-later : (reads reads_after writes between writes_after : ℕ) (s : Status)
    → writes ≤ between → FaultRose reads reads_after between writes_after s
    → FaultRose reads reads_after writes writes_after s
rose-later a b w x y status.ReadFault l rose = rose
rose-later a b w x y status.WriteFault l rose = rose-more w x y l rose
rose-later a b w x y status.Success l rose = tt
rose-later a b w x y status.Refused l rose = tt
rose-later a b w x y status.TooLong l rose = tt
rose-later a b w x y status.NoMemory l rose = tt
rose-later a b w x y status.Usage l rose = tt
