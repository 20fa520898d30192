-- What a draft stands for, and what is answered where it takes a line.
use Rattle.std.specs.Prelude.{◌≡◌, ℕ, ⊤, if◌then◌else◌, Option, Some, None, option_map, Result}
use Rattle.std.specs.Prelude.{Ok, Err, List}
use Rattle.gb_base.specs.declared.reasons.MnfsReason.{MnfsReason}
use Rattle.gb_base.specs.declared.reasons.MnfsReason.TheVariants as mnfs
use Rattle.gb_formats.specs.Source as source
use Rattle.gb_formats.specs.Source.{Front, empty_spec, first_lacking, is_header, missing_line}
use Rattle.gb_formats.specs.Source.{is_interface_section, sections_of, some_section, spec_with}
use Rattle.gb_formats.specs.SourceLines as formats
use Rattle.gb_formats.specs.SourceLines.{lacks_key}
use Rattle.gb_manifest.specs.Writes.{spec_of}
use Rattle.gb_manifest.specs.declared.spec.ManifestSpec.{ManifestSpec}
use Rattle.gb_mnfs.specs.Sections.{section_of}
use Rattle.gb_mnfs.specs.declared.draft.Draft.{Draft}
use Rattle.gb_mnfs.specs.declared.draft.Opened.{Opened}
use Rattle.gb_mnfs.specs.declared.mnfs_fault.LineStop.{LineStop}
use Rattle.gb_mnfs.specs.declared.mnfs_fault.LineStop.TheVariants as stop
use Rattle.gb_mnfs.specs.declared.mnfs_fault.MnfsFault.{MnfsFault}
use Rattle.gb_mnfs.specs.declared.mnfs_fault.MnfsFault.TheVariants as fault

abbrev pub opened_of : Opened → source.Opened
opened_of o = record { line = o.line; section = section_of o.section }

-- the line of the first section that lacks a key, with one section more
abbrev pub lacking_or : Option ℕ → ℕ → formats.Section → Option ℕ
lacking_or (Some before) line s = Some before
lacking_or None line s = if lacks_key s then Some line else None

-- The draft holds what has been read.
pub record Stands (x : Draft) (f : Front) : Type 0 where
  pub spec : spec_of x.spec ≡ spec_with empty_spec f.closed
  pub lacking : x.lacking ≡ first_lacking f.closed
  pub header : x.has_header ≡ some_section is_header (sections_of f)
  pub interface : x.has_interface ≡ some_section is_interface_section (sections_of f)
  pub last : option_map opened_of x.last ≡ f.last

-- the line is taken, and this has been read
pub record IsTaken (answer : Result Front MnfsReason) (x : Draft) : Type 0 where
  pub front : Front
  pub is : answer ≡ Ok front
  pub stands : Stands x front

-- By cases on the answer: the line is taken, or bad. After want of memory nothing is said.
abbrev pub Takes : Result Front MnfsReason → Draft → Result Unit LineStop → Type 0
Takes answer x (Ok done) = IsTaken answer x
Takes answer x (Err (stop.Bad why)) = answer ≡ Err why
Takes answer x (Err (stop.Memory refused)) = ⊤

-- nothing is missing, and this is the spec of the sections
pub record IsWhole (all : List source.Opened) (spec : ManifestSpec) : Type 0 where
  pub whole : missing_line all ≡ None
  pub spec_is : spec_of spec ≡ spec_with empty_spec all

-- By cases on the answer: the spec, or the line where something is missing. After want of memory
-- nothing is said.
abbrev pub FinishesNot : List source.Opened → MnfsFault → Type 0
FinishesNot all (fault.Line line reason) =
    (missing_line all ≡ Some line) × (reason ≡ mnfs.Missing)
FinishesNot all (fault.StringLong id) = ⊥
FinishesNot all (fault.Rule reason) = ⊥
FinishesNot all fault.TooLong = ⊥
FinishesNot all (fault.Memory refused) = ⊤

abbrev pub Finishes : List source.Opened → Result ManifestSpec MnfsFault → Type 0
Finishes all (Ok spec) = IsWhole all spec
Finishes all (Err why) = FinishesNot all why
