-- What sections and forms of lines in the code stand for.
use Rattle.std.specs.Prelude.{◌≡◌, ℕ, ⊤, Option, Some, None, option_map, Result, Ok, Err, List}
use Rattle.gb_base.specs.declared.reasons.MnfsReason.{MnfsReason}
use Rattle.gb_base.specs.declared.reasons.MnfsReason.TheVariants as mnfs
use Rattle.gb_formats.specs.SourceLines as formats
use Rattle.gb_formats.specs.SourceValues.{source_number}
use Rattle.gb_mnfs.specs.declared.mnfs_fault.LineStop.{LineStop}
use Rattle.gb_mnfs.specs.declared.mnfs_fault.LineStop.TheVariants as stop
use Rattle.gb_mnfs.specs.declared.form.Form.{Form}
use Rattle.gb_mnfs.specs.declared.form.Form.TheVariants as form
use Rattle.gb_mnfs.specs.declared.section.Section.{Section}
use Rattle.gb_mnfs.specs.declared.section.Section.TheVariants as section

abbrev pub section_of : Section → formats.Section
section_of (section.Header major minor) = formats.Section.Header major minor
section_of (section.Interface vendor product features) =
    formats.Section.Interface vendor product features
section_of (section.Words id bytes) = formats.Section.Words id bytes
section_of (section.Bundle id class) = formats.Section.Bundle id class
section_of (section.Cport id bundle protocol) = formats.Section.Cport id bundle protocol

-- the section that a section line opens
abbrev pub opens : Option Section → Option formats.Section
opens s = option_map section_of s

-- the section of a string, a bundle and a CPort with this number
abbrev pub words_heading : List ℕ → Option formats.Section
words_heading n = option_map (λ id. formats.Section.Words id None) (source_number 255 n)

abbrev pub bundle_heading : List ℕ → Option formats.Section
bundle_heading n = option_map (λ id. formats.Section.Bundle id None) (source_number 255 n)

abbrev pub cport_heading : List ℕ → Option formats.Section
cport_heading n = option_map (λ id. formats.Section.Cport id None None) (source_number 65535 n)

abbrev pub form_in : Form → formats.Form
form_in form.Nothing = formats.Form.Nothing
form_in form.NoLine = formats.Form.NoLine
form_in (form.Opens s) = formats.Form.Opens (opens s)
form_in (form.Says key value) = formats.Form.Says key.now value.now

-- By cases on what the key gave before, and on the value: the key gives a number up to the
-- greatest, or its line is bad.
abbrev pub SetsNew : Option ℕ → Result ℕ MnfsReason → Type 0
SetsNew None result = result ≡ Err mnfs.BadValue
SetsNew (Some value) result = result ≡ Ok value

abbrev pub Sets : Option ℕ → ℕ → List ℕ → Result ℕ MnfsReason → Type 0
Sets (Some before) greatest text result = result ≡ Err mnfs.Twice
Sets None greatest text result = SetsNew (source_number greatest text) result

-- the answer is the same, as the code has it
abbrev pub MakesSection : Result formats.Section MnfsReason → Result Section MnfsReason → Type 0
MakesSection answer (Ok s) = answer ≡ Ok (section_of s)
MakesSection answer (Err why) = answer ≡ Err why

-- By cases on the answer: it is the same. After want of memory nothing is said.
abbrev pub GivesSection : Result formats.Section MnfsReason → Result Section LineStop → Type 0
GivesSection answer (Ok s) = answer ≡ Ok (section_of s)
GivesSection answer (Err (stop.Bad why)) = answer ≡ Err why
GivesSection answer (Err (stop.Memory refused)) = ⊤
