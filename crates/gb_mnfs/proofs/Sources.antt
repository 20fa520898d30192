-- What is read of a text, line by line, and what is made of it.
use Rattle.std.proofs.Common.{◌≡◌, ℕ, ◌+◌, List, [], ◌∷◌, refl, sym, ap, ◌∙◌}
use Rattle.std.proofs.Common.{Result, Ok, Err}
use Rattle.gb_base.specs.declared.reasons.MnfsReason.{MnfsReason}
use Rattle.gb_formats.specs.Lines.{lines}
use Rattle.gb_formats.specs.ManifestSpec.{ManifestSpec, write_answer}
use Rattle.gb_formats.specs.Source.{Front, IsSource, Opened, SourceFault, at_start}
use Rattle.gb_formats.specs.Source.{compile_answer, line_then, made_by, made_of}
use Rattle.gb_formats.specs.Source.{made_unless, sections, sections_from, sections_of}
use Rattle.gb_formats.specs.Source.{with_line}
use Rattle.gb_formats.specs.SourceLines.{form_of}
use Rattle.gb_manifest.specs.declared.spec.ManifestSpec as code
use Rattle.gb_mnfs.specs.Answers.{Reads, stop_fault}
use Rattle.gb_mnfs.specs.Drafts.{Finishes, IsTaken, Stands, Takes}
use Rattle.gb_mnfs.specs.declared.draft.Draft.{Draft}
use Rattle.gb_mnfs.specs.declared.mnfs_fault.LineStop.{LineStop}
use Rattle.gb_mnfs.specs.declared.mnfs_fault.LineStop.TheVariants as stop
use Rattle.gb_mnfs.specs.declared.mnfs_fault.MnfsFault.{MnfsFault}
use Rattle.gb_mnfs.specs.declared.mnfs_fault.MnfsFault.TheVariants as fault

-- What has been read of a text: the draft stands for it, and what is left goes on from it.
pub record HasRead (text : List ℕ) (at : ℕ) (x : Draft) (left : List ℕ) : Type 0 where
  pub front : Front
  pub stands : Stands x front
  pub text_is : sections_from at front (lines left) ≡ sections text

-- nothing was read
pub unread : (text : List ℕ) (x : Draft) → Stands x at_start → HasRead text 1 x text
unread text x h = record { front = at_start; stands = h; text_is = refl }

-- a line is next
next : (at : ℕ) (f : Front) (left line : List ℕ) (rest : List ℕ) → lines left ≡ line ∷ lines rest
    → sections_from at f (lines left)
    ≡ line_then at (with_line at (form_of line) f) (λ g. sections_from (at + 1) g (lines rest))
unfolding sections_from
next at f left line rest e = ap (λ ls. sections_from at f ls) e

-- a line was taken
pub read_on : (text : List ℕ) (at : ℕ) (x y : Draft) (left line rest : List ℕ)
    → (h : HasRead text at x left) → lines left ≡ line ∷ lines rest
    → IsTaken (with_line at (form_of line) h.front) y → HasRead text (at + 1) y rest
read_on text at x y left line rest h e t = record {
  front = t.front;
  stands = t.stands;
  text_is =
      sym (next at h.front left line rest e
      ∙ ap (λ r. line_then at r (λ g. sections_from (at + 1) g (lines rest))) t.is)
      ∙ h.text_is;
}

-- a line is bad
bad_told : (text : List ℕ) (at : ℕ) (x : Draft) (left line rest : List ℕ) (why : MnfsReason)
    → (h : HasRead text at x left) → lines left ≡ line ∷ lines rest
    → with_line at (form_of line) h.front ≡ Err why
    → compile_answer text ≡ Err (SourceFault.Line at why)
bad_told text at x left line rest why h e bad =
    let is : sections text ≡ Err (record { line = at; reason = why }) =
    sym h.text_is ∙ next at h.front left line rest e
    ∙ ap (λ r. line_then at r (λ g. sections_from (at + 1) g (lines rest))) bad in
    ap made_by is

-- a line isn't taken
pub stop_told : (text : List ℕ) (at : ℕ) (x y : Draft) (left line rest : List ℕ) (why : LineStop)
    → (h : HasRead text at x left) → lines left ≡ line ∷ lines rest
    → Takes (with_line at (form_of line) h.front) y (Err why)
    → Reads text (Err (stop_fault at why))
stop_told text at x y left line rest (stop.Bad why) h e bad =
    bad_told text at x left line rest why h e bad
stop_told text at x y left line rest (stop.Memory refused) h e bad = tt

-- all lines were read
pub all_read : (text : List ℕ) (at : ℕ) (x : Draft) (left : List ℕ) → (h : HasRead text at x left)
    → lines left ≡ [] → sections text ≡ Ok (sections_of h.front)
unfolding sections_from
all_read text at x left h e =
    sym h.text_is ∙ ap (λ ls. sections_from at h.front ls) e

-- the spec of a text, or what is missing
pub finish_told : (text : List ℕ) (all : List Opened) (r : Result code.ManifestSpec MnfsFault)
    → sections text ≡ Ok all → Finishes all r → Reads text r
finish_told text all (Ok spec) is h =
    record { all = all; sound = is; whole = h.whole; spec_is = h.spec_is }
finish_told text all (Err (fault.Line line reason)) is h =
    ap made_by is ∙ ap (λ m. made_unless m all) h.0
    ∙ ap (λ why. Err (SourceFault.Line line why)) (sym h.1)
finish_told text all (Err (fault.StringLong id)) is h = absurd h
finish_told text all (Err (fault.Rule reason)) is h = absurd h
finish_told text all (Err fault.TooLong) is h = absurd h
finish_told text all (Err (fault.Memory refused)) is h = tt

-- What is made of a text that is a source of a spec is what is written of the spec.
pub made_of_source : (text : List ℕ) (spec : ManifestSpec) → IsSource text spec
    → compile_answer text ≡ made_of (write_answer spec)
made_of_source text spec h =
    ap made_by h.sound
    ∙ ap (λ m. made_unless m h.all) h.whole
    ∙ ap (λ s. made_of (write_answer s)) (sym h.spec_is)
