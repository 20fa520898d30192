-- The lines of a manifest's text, in the manner of Project Ara's manifesto: section lines, and key
-- lines `KEY = VALUE`.
use Rattle.std.specs.Prelude.{ℕ, ◌-◌, ◌==◌, Bool, true, false, not, ◌&&◌, ◌||◌, if◌then◌else◌}
use Rattle.std.specs.Prelude.{Option, Some, None, option_map, Result, Ok, Err}
use Rattle.std.specs.Prelude.{List, [], ◌∷◌, length, take, drop, slice_index, codes}
use Rattle.std.specs.List.{list_all, list_any}
use Rattle.std.specs.Str.{bytes_eq}
use Rattle.gb_base.specs.declared.reasons.MnfsReason.{MnfsReason}
use Rattle.gb_base.specs.declared.reasons.MnfsReason.TheVariants as mnfs
use Rattle.gb_formats.specs.Script.{is_printable}
use Rattle.gb_formats.specs.SourceValues.{trimmed, parted, source_number, source_string}

-- A section, with the values that its key lines gave so far: the header's major and minor version;
-- the interface's vendor string, product string and features; a string's id and bytes; a bundle's
-- id and class; or a CPort's id, bundle and protocol.
pub data Section : Type 0 where
  Header : Option ℕ → Option ℕ → Section
  Interface : Option ℕ → Option ℕ → Option ℕ → Section
  Words : ℕ → Option (List ℕ) → Section
  Bundle : ℕ → Option ℕ → Section
  Cport : ℕ → Option ℕ → Option ℕ → Section

-- What a line is by its form: nothing, no line of a manifest's text, a section line with its
-- section, None where its number is bad, or a key line with its key and the text of its value.
pub data Form : Type 0 where
  Nothing : Form
  NoLine : Form
  Opens : Option Section → Form
  Says : List ℕ → List ℕ → Form

-- ---- section lines

-- the name of a section that has no number
abbrev pub plain_heading : List ℕ → Form
plain_heading name =
    if bytes_eq name (codes "manifest-header") then Opens (Some (Header None None))
    else if bytes_eq name (codes "interface-descriptor")
    then Opens (Some (Interface None None None))
    else NoLine

-- the name of a section that has a number, and its number
abbrev pub numbered_heading : List ℕ → List ℕ → Form
numbered_heading name n =
    if bytes_eq name (codes "string-descriptor")
    then Opens (option_map (λ id. Words id None) (source_number 255 n))
    else if bytes_eq name (codes "bundle-descriptor")
    then Opens (option_map (λ id. Bundle id None) (source_number 255 n))
    else if bytes_eq name (codes "cport-descriptor")
    then Opens (option_map (λ id. Cport id None None) (source_number 65535 n))
    else NoLine

-- one space parts the name from the number
abbrev pub heading : List ℕ → Option (List ℕ × List ℕ) → Form
heading inner None = plain_heading inner
heading inner (Some (name, n)) = numbered_heading name n

-- a line from `[` to `]`
abbrev pub is_heading : List ℕ → Bool
is_heading line = slice_index line 0 == 91 && slice_index line (length line - 1) == 93

-- what stands between `[` and `]`
abbrev pub heading_text : List ℕ → List ℕ
heading_text line = drop 1 (take (length line - 1) line)

-- ---- key lines

-- the keys of all sections
abbrev pub keys : List (List ℕ)
keys =
    codes "version-major" ∷ codes "version-minor"
    ∷ codes "vendor-string-id" ∷ codes "product-string-id" ∷ codes "features"
    ∷ codes "string" ∷ codes "class" ∷ codes "bundle" ∷ codes "protocol" ∷ []

-- one of the keys
abbrev pub is_key : List ℕ → Bool
is_key w = list_any (λ key. bytes_eq w key) keys

-- a key and the text of a value
abbrev pub key_line : List ℕ → List ℕ → Form
key_line key value = if is_key key then Says key value else NoLine

-- the first `=` parts a key from its value, and spaces around it don't count
abbrev pub key_line_of : Option (List ℕ × List ℕ) → Form
key_line_of None = NoLine
key_line_of (Some (key, value)) = key_line (trimmed key) (trimmed value)

-- ---- lines

-- an empty line, or one that begins with `;` or `#`
abbrev pub is_remark : List ℕ → Bool
is_remark line = length line == 0 || slice_index line 0 == 59 || slice_index line 0 == 35

-- the form of a line without spaces at its ends
abbrev pub trimmed_form : List ℕ → Form
trimmed_form line =
    if is_remark line then Nothing
    else if not (list_all is_printable line) then NoLine
    else if is_heading line then heading (heading_text line) (parted 32 (heading_text line))
    else key_line_of (parted 61 line)

-- The form of a line. Spaces at its ends don't count.
abbrev pub form_of : List ℕ → Form
form_of line = trimmed_form (trimmed line)

-- ---- what a key line says of its section

-- a key gives its value to the section, unless it came before or the value is bad
abbrev pub set : {A : Type 0} → Option A → Option A → (A → Section) → Result Section MnfsReason
set (Some before) value make = Err mnfs.Twice
set None None make = Err mnfs.BadValue
set None (Some value) make = Ok (make value)

-- the header: `version-major` is 0
abbrev pub header_with : Option ℕ → Option ℕ → List ℕ → List ℕ → Result Section MnfsReason
header_with major minor key value =
    if bytes_eq key (codes "version-major")
    then set major (source_number 0 value) (λ x. Header (Some x) minor)
    else if bytes_eq key (codes "version-minor")
    then set minor (source_number 255 value) (λ x. Header major (Some x))
    else Err mnfs.NotHere

-- the interface
abbrev pub interface_with : Option ℕ → Option ℕ → Option ℕ → List ℕ → List ℕ
    → Result Section MnfsReason
interface_with vendor product features key value =
    if bytes_eq key (codes "vendor-string-id")
    then set vendor (source_number 255 value) (λ x. Interface (Some x) product features)
    else if bytes_eq key (codes "product-string-id")
    then set product (source_number 255 value) (λ x. Interface vendor (Some x) features)
    else if bytes_eq key (codes "features")
    then set features (source_number 255 value) (λ x. Interface vendor product (Some x))
    else Err mnfs.NotHere

-- a string
abbrev pub words_with : ℕ → Option (List ℕ) → List ℕ → List ℕ → Result Section MnfsReason
words_with id bytes key value =
    if bytes_eq key (codes "string")
    then set bytes (source_string value) (λ x. Words id (Some x))
    else Err mnfs.NotHere

-- a bundle
abbrev pub bundle_with : ℕ → Option ℕ → List ℕ → List ℕ → Result Section MnfsReason
bundle_with id class key value =
    if bytes_eq key (codes "class")
    then set class (source_number 255 value) (λ x. Bundle id (Some x))
    else Err mnfs.NotHere

-- a CPort
abbrev pub cport_with : ℕ → Option ℕ → Option ℕ → List ℕ → List ℕ → Result Section MnfsReason
cport_with id bundle protocol key value =
    if bytes_eq key (codes "bundle")
    then set bundle (source_number 255 value) (λ x. Cport id (Some x) protocol)
    else if bytes_eq key (codes "protocol")
    then set protocol (source_number 255 value) (λ x. Cport id bundle (Some x))
    else Err mnfs.NotHere

-- The section with a key line more, or why the line is bad there.
abbrev pub section_with : Section → List ℕ → List ℕ → Result Section MnfsReason
section_with (Header major minor) key value = header_with major minor key value
section_with (Interface vendor product features) key value =
    interface_with vendor product features key value
section_with (Words id bytes) key value = words_with id bytes key value
section_with (Bundle id class) key value = bundle_with id class key value
section_with (Cport id bundle protocol) key value = cport_with id bundle protocol key value

-- Whether the section lacks a key. The interface's `features` may be left out.
abbrev pub lacks_key : Section → Bool
lacks_key (Header (Some major) (Some minor)) = false
lacks_key (Interface (Some vendor) (Some product) features) = false
lacks_key (Words id (Some bytes)) = false
lacks_key (Bundle id (Some class)) = false
lacks_key (Cport id (Some bundle) (Some protocol)) = false
lacks_key _ = true
