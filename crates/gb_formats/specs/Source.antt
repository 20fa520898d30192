-- Manifests as texts in sections: which text is a source of which spec, what others are refused
-- for, and what is made of a text.
use Rattle.std.specs.Prelude.{◌≡◌, ℕ, ◌+◌, Bool, true, false, ◌&&◌, if◌then◌else◌}
use Rattle.std.specs.Prelude.{Option, Some, None, unwrap_or, Result, Ok, Err, List, [], ◌∷◌, ◌++◌}
use Rattle.std.specs.List.{list_any}
use Rattle.gb_base.specs.declared.reasons.MnfsReason.{MnfsReason}
use Rattle.gb_base.specs.declared.reasons.MnfsReason.TheVariants as mnfs
use Rattle.gb_formats.specs.Lines.{lines}
use Rattle.gb_formats.specs.ManifestSpec.{ManifestSpec, WriteFault, write_answer}
use Rattle.gb_formats.specs.SourceLines.{Section, Form, form_of, section_with, lacks_key}

-- ---- the sections of a text

-- a section, and the number of its section line
pub record Opened : Type 0 where
  pub line : ℕ
  pub section : Section

-- a line that is refused, and why
pub record BadLine : Type 0 where
  pub line : ℕ
  pub reason : MnfsReason

-- What has been read of a text: the sections before the last one, and the last one.
pub record Front : Type 0 where
  pub closed : List Opened
  pub last : Option Opened

-- nothing has been read
abbrev pub at_start : Front
at_start = record { closed = []; last = None }

-- sections with one more behind them
abbrev pub with_last : List Opened → Option Opened → List Opened
with_last closed None = closed
with_last closed (Some last) = closed ++ last ∷ []

-- the sections that have been read
abbrev pub sections_of : Front → List Opened
sections_of f = with_last f.closed f.last

-- a header section
abbrev pub is_header : Section → Bool
is_header (Section.Header major minor) = true
is_header _ = false

-- an interface section
abbrev pub is_interface_section : Section → Bool
is_interface_section (Section.Interface vendor product features) = true
is_interface_section _ = false

-- whether some section passes a test
abbrev pub some_section : (Section → Bool) → List Opened → Bool
some_section test all = list_any (λ o. test o.section) all

-- whether a section can't stand behind these, since there is one header and one interface
abbrev pub is_second : Section → List Opened → Bool
is_second (Section.Header major minor) all = some_section is_header all
is_second (Section.Interface vendor product features) all = some_section is_interface_section all
is_second _ all = false

-- a section line closes the section before it
abbrev pub with_section : ℕ → Section → List Opened → Result Front MnfsReason
with_section at s all =
    if is_second s all then Err mnfs.Twice
    else Ok (record { closed = all; last = Some (record { line = at; section = s }) })

-- the last section with a key line more
abbrev pub with_changed : List Opened → ℕ → Result Section MnfsReason → Result Front MnfsReason
with_changed closed at (Err why) = Err why
with_changed closed at (Ok s) =
    Ok (record { closed = closed; last = Some (record { line = at; section = s }) })

-- a key line belongs to the last section, and before the first section line to none
abbrev pub with_key : List Opened → Option Opened → List ℕ → List ℕ → Result Front MnfsReason
with_key closed None key value = Err mnfs.NotHere
with_key closed (Some last) key value =
    with_changed closed last.line (section_with last.section key value)

-- What has been read with a line more, which has this number, or why the line is bad.
abbrev pub with_line : ℕ → Form → Front → Result Front MnfsReason
with_line at Form.Nothing f = Ok f
with_line at Form.NoLine f = Err mnfs.NotALine
with_line at (Form.Opens None) f = Err mnfs.BadValue
with_line at (Form.Opens (Some s)) f = with_section at s (sections_of f)
with_line at (Form.Says key value) f = with_key f.closed f.last key value

-- the text goes on behind a line
abbrev pub line_then : ℕ → Result Front MnfsReason → (Front → Result (List Opened) BadLine)
    → Result (List Opened) BadLine
line_then at (Err why) later = Err (record { line = at; reason = why })
line_then at (Ok f) later = later f

-- the sections, where this has been read and the next line has this number
unfoldable pub sections_from : ℕ → Front → List (List ℕ) → Result (List Opened) BadLine
sections_from at f [] = Ok (sections_of f)
sections_from at f (line ∷ more) =
    line_then at (with_line at (form_of line) f) (λ next. sections_from (at + 1) next more)

-- The sections of a text in order, or its first bad line.
abbrev pub sections : List ℕ → Result (List Opened) BadLine
sections text = sections_from 1 at_start (lines text)

-- ---- what is missing

-- the line of the first section that lacks a key
abbrev pub first_lacking : List Opened → Option ℕ
first_lacking [] = None
first_lacking (o ∷ more) =
    let later = first_lacking more in if lacks_key o.section then Some o.line else later

-- Where something is missing: at line 0 the header or the interface, else at the line of the first
-- section that lacks a key.
abbrev pub missing_line : List Opened → Option ℕ
missing_line all =
    if some_section is_header all && some_section is_interface_section all
    then first_lacking all
    else Some 0

-- ---- the spec of a text

-- the spec that nothing is said of
abbrev pub empty_spec : ManifestSpec
empty_spec = record {
  minor = 0;
  vendor = 0;
  product = 0;
  features = 0;
  strings = [];
  bundles = [];
  cports = [];
}

-- what a section adds to a spec: strings, bundles and CPorts at the end
abbrev pub adds : Section → ManifestSpec → ManifestSpec
adds (Section.Header major (Some minor)) spec = record spec { minor = minor }
adds (Section.Interface (Some vendor) (Some product) features) spec =
    record spec { vendor = vendor; product = product; features = unwrap_or features 0 }
adds (Section.Words id (Some bytes)) spec =
    record spec { strings = spec.strings ++ record { id = id; bytes = bytes } ∷ [] }
adds (Section.Bundle id (Some class)) spec =
    record spec { bundles = spec.bundles ++ record { id = id; class = class } ∷ [] }
adds (Section.Cport id (Some bundle) (Some protocol)) spec =
    record spec {
      cports = spec.cports ++ record { id = id; bundle = bundle; protocol = protocol } ∷ [];
    }
adds _ spec = spec

-- a spec with what sections add, in order
abbrev pub spec_with : ManifestSpec → List Opened → ManifestSpec
spec_with spec [] = spec
spec_with spec (o ∷ more) = spec_with (adds o.section spec) more

-- The text is a source of the spec: no line of it is bad, nothing is missing, and the spec has the
-- minor version, the interface, the strings, bundles and CPorts of its sections, in their order.
pub record IsSource (text : List ℕ) (spec : ManifestSpec) : Type 0 where
  pub all : List Opened
  pub sound : sections text ≡ Ok all
  pub whole : missing_line all ≡ None
  pub spec_is : spec ≡ spec_with empty_spec all

-- ---- what is made of a text

-- Why no manifest is made of a text: a line is refused, or the manifest isn't written.
pub data SourceFault : Type 0 where
  Line : ℕ → MnfsReason → SourceFault
  Write : WriteFault → SourceFault

-- what is written of a spec
abbrev pub made_of : Result (List ℕ) WriteFault → Result (List ℕ) SourceFault
made_of (Ok bytes) = Ok bytes
made_of (Err why) = Err (Write why)

-- what is made of sections, unless something is missing
abbrev pub made_unless : Option ℕ → List Opened → Result (List ℕ) SourceFault
made_unless (Some line) all = Err (Line line mnfs.Missing)
made_unless None all = made_of (write_answer (spec_with empty_spec all))

-- what is made of sections, unless a line is bad
abbrev pub made_by : Result (List Opened) BadLine → Result (List ℕ) SourceFault
made_by (Err bad) = Err (Line bad.line bad.reason)
made_by (Ok all) = made_unless (missing_line all) all

-- The manifest that is made of a text, or the first refusal: a bad line, what is missing, and then
-- why its spec isn't written.
abbrev pub compile_answer : List ℕ → Result (List ℕ) SourceFault
compile_answer text = made_by (sections text)
