-- What a draft stands for once a section is closed, and once a key line is taken.
use Rattle.std.proofs.Common.{◌≡◌, ℕ, ◌||◌, Bool, true, false, List, [], ◌∷◌, ◌++◌, refl, sym, ap}
use Rattle.std.proofs.Common.{◌∙◌, subst, Option, Some, None, Result, Ok, Err}
use Rattle.std.specs.Prelude.{if◌then◌else◌, option_map, IfOk, codes}
use Rattle.std.specs.Str.{bytes_eq}
use Rattle.gb_base.specs.declared.reasons.MnfsReason.{MnfsReason}
use Rattle.gb_base.specs.declared.reasons.MnfsReason.TheVariants as mnfs
use Rattle.gb_formats.specs.ManifestSpec as spec
use Rattle.gb_formats.specs.Source.{Front, Opened, adds, empty_spec, first_lacking, is_header}
use Rattle.gb_formats.specs.Source.{is_interface_section, missing_line, sections_of, some_section}
use Rattle.gb_formats.specs.Source.{spec_with}
use Rattle.gb_formats.specs.Source.{with_changed, with_key, with_last}
use Rattle.gb_formats.specs.SourceLines.{Section, lacks_key, section_with, set}
use Rattle.gb_formats.specs.SourceValues.{source_number, source_string}
use Rattle.gb_manifest.specs.Writes.{spec_of}
use Rattle.gb_mnfs.specs.Drafts.{IsTaken, IsWhole, Stands, lacking_or, opened_of}
use Rattle.gb_mnfs.specs.Sections.{section_of}
use Rattle.gb_mnfs.specs.declared.draft.Draft.{Draft}
use Rattle.gb_mnfs.specs.declared.draft.Opened as code

-- ---- one section more

pub spec-more : (spec : spec.ManifestSpec) (all : List Opened) (o : Opened)
    → spec_with spec (all ++ o ∷ []) ≡ adds o.section (spec_with spec all)
spec-more spec [] o = refl
spec-more spec (x ∷ xs) o = spec-more (adds x.section spec) xs o

chosen : (t : Bool) (line : ℕ) (later : Option ℕ) (end : ℕ) (s : Section)
    → (if t then Some line else lacking_or later end s)
    ≡ lacking_or (if t then Some line else later) end s
chosen true line later end s = refl
chosen false line later end s = refl

pub lacking-more : (all : List Opened) (o : Opened)
    → first_lacking (all ++ o ∷ []) ≡ lacking_or (first_lacking all) o.line o.section
lacking-more [] o = refl
lacking-more (x ∷ xs) o =
    ap (λ l. if lacks_key x.section then Some x.line else l) (lacking-more xs o)
    ∙ chosen (lacks_key x.section) x.line (first_lacking xs) o.line o.section

-- whether some section passes a test, which another last section passes too
pub some-changed : (test : Section → Bool) (all : List Opened) (a b : Opened)
    → test b.section ≡ test a.section
    → some_section test (all ++ b ∷ []) ≡ some_section test (all ++ a ∷ [])
some-changed test [] a b e = ap (λ t. t || false) e
some-changed test (x ∷ xs) a b e =
    ap (λ t. test x.section || t) (some-changed test xs a b e)

-- ---- a section is closed

-- what a front has last
last_is : (x : Draft) (f : Front) (o : code.Opened) → Stands x f → x.last ≡ Some o
    → f.last ≡ Some (opened_of o)
last_is x f o h e = sym h.last ∙ ap (λ l. option_map opened_of l) e

all_are : (x : Draft) (f : Front) (o : code.Opened) → Stands x f → x.last ≡ Some o
    → sections_of f ≡ f.closed ++ opened_of o ∷ []
all_are x f o h e = ap (λ l. with_last f.closed l) (last_is x f o h e)

pub closed : (x y : Draft) (f : Front) (o : code.Opened) → Stands x f → x.last ≡ Some o
    → spec_of y.spec ≡ adds (section_of o.section) (spec_of x.spec)
    → y.lacking ≡ lacking_or x.lacking o.line (section_of o.section)
    → y.has_header ≡ x.has_header → y.has_interface ≡ x.has_interface → y.last ≡ None
    → Stands y (record { closed = sections_of f; last = None })
closed x y f o h e spec lacking header interface last =
    let all = all_are x f o h e in
    record {
      spec =
          spec ∙ ap (λ s. adds (section_of o.section) s) h.spec
          ∙ sym (spec-more empty_spec f.closed (opened_of o))
          ∙ ap (λ l. spec_with empty_spec l) (sym all);
      lacking =
          lacking ∙ ap (λ l. lacking_or l o.line (section_of o.section)) h.lacking
          ∙ sym (lacking-more f.closed (opened_of o))
          ∙ ap (λ l. first_lacking l) (sym all);
      header = header ∙ h.header;
      interface = interface ∙ h.interface;
      last = ap (λ l. option_map opened_of l) last;
    }

-- no section was open
pub unopened : (x y : Draft) (f : Front) → Stands x f → x.last ≡ None → y ≡ x
    → Stands y (record { closed = sections_of f; last = None })
unopened x y f h e same =
    let none : f.last ≡ None = sym h.last ∙ ap (λ l. option_map opened_of l) e in
    let all : sections_of f ≡ f.closed = ap (λ l. with_last f.closed l) none in
    subst (λ (z : Draft). Stands z (record { closed = sections_of f; last = None })) (sym same)
    (record {
      spec = h.spec ∙ ap (λ l. spec_with empty_spec l) (sym all);
      lacking = h.lacking ∙ ap (λ l. first_lacking l) (sym all);
      header = h.header;
      interface = h.interface;
      last = ap (λ l. option_map opened_of l) e;
    })

-- ---- a key line is taken

sets : {A : Type 0} (P : Section → Type 0) (before value : Option A) (make : A → Section)
    → ((x : A) → P (make x)) → IfOk (set before value make) P
sets P (Some before) value make p = tt
sets P None None make p = tt
sets P None (Some value) make p = p value

-- the kinds of sections of which there is one are the same
abbrev SameKind : Section → Section → Type 0
SameKind s next =
    (is_header next ≡ is_header s) × (is_interface_section next ≡ is_interface_section s)

-- a key line leaves the kind of its section
header_keeps : (t u : Bool) (major minor v w : Option ℕ) → IfOk
    (if t then set major v (λ x. Section.Header (Some x) minor)
    else if u then set minor w (λ x. Section.Header major (Some x))
    else Err mnfs.NotHere) (SameKind (Section.Header major minor))
header_keeps true u major minor v w =
    sets (SameKind (Section.Header major minor)) major v (λ x. Section.Header (Some x) minor)
    (λ x. (refl, refl))
header_keeps false true major minor v w =
    sets (SameKind (Section.Header major minor)) minor w (λ x. Section.Header major (Some x))
    (λ x. (refl, refl))
header_keeps false false major minor v w = tt

interface_keeps : (t u q : Bool) (vendor product features v w y : Option ℕ) → IfOk
    (if t then set vendor v (λ x. Section.Interface (Some x) product features)
    else if u then set product w (λ x. Section.Interface vendor (Some x) features)
    else if q then set features y (λ x. Section.Interface vendor product (Some x))
    else Err mnfs.NotHere) (SameKind (Section.Interface vendor product features))
interface_keeps true u q vendor product features v w y =
    sets (SameKind (Section.Interface vendor product features)) vendor v
    (λ x. Section.Interface (Some x) product features) (λ x. (refl, refl))
interface_keeps false true q vendor product features v w y =
    sets (SameKind (Section.Interface vendor product features)) product w
    (λ x. Section.Interface vendor (Some x) features) (λ x. (refl, refl))
interface_keeps false false true vendor product features v w y =
    sets (SameKind (Section.Interface vendor product features)) features y
    (λ x. Section.Interface vendor product (Some x)) (λ x. (refl, refl))
interface_keeps false false false vendor product features v w y = tt

words_keeps : (t : Bool) (id : ℕ) (bytes v : Option (List ℕ)) → IfOk
    (if t then set bytes v (λ x. Section.Words id (Some x)) else Err mnfs.NotHere)
    (SameKind (Section.Words id bytes))
words_keeps true id bytes v =
    sets (SameKind (Section.Words id bytes)) bytes v (λ x. Section.Words id (Some x))
    (λ x. (refl, refl))
words_keeps false id bytes v = tt

bundle_keeps : (t : Bool) (id : ℕ) (class v : Option ℕ) → IfOk
    (if t then set class v (λ x. Section.Bundle id (Some x)) else Err mnfs.NotHere)
    (SameKind (Section.Bundle id class))
bundle_keeps true id class v =
    sets (SameKind (Section.Bundle id class)) class v (λ x. Section.Bundle id (Some x))
    (λ x. (refl, refl))
bundle_keeps false id class v = tt

cport_keeps : (t u : Bool) (id : ℕ) (bundle protocol v w : Option ℕ) → IfOk
    (if t then set bundle v (λ x. Section.Cport id (Some x) protocol)
    else if u then set protocol w (λ x. Section.Cport id bundle (Some x))
    else Err mnfs.NotHere) (SameKind (Section.Cport id bundle protocol))
cport_keeps true u id bundle protocol v w =
    sets (SameKind (Section.Cport id bundle protocol)) bundle v
    (λ x. Section.Cport id (Some x) protocol) (λ x. (refl, refl))
cport_keeps false true id bundle protocol v w =
    sets (SameKind (Section.Cport id bundle protocol)) protocol w
    (λ x. Section.Cport id bundle (Some x)) (λ x. (refl, refl))
cport_keeps false false id bundle protocol v w = tt

keeps : (s : Section) (key value : List ℕ) → IfOk (section_with s key value) (SameKind s)
keeps (Section.Header major minor) key value =
    header_keeps (bytes_eq key (codes "version-major")) (bytes_eq key (codes "version-minor")) major
    minor (source_number 0 value) (source_number 255 value)
keeps (Section.Interface vendor product features) key value =
    interface_keeps (bytes_eq key (codes "vendor-string-id"))
    (bytes_eq key (codes "product-string-id")) (bytes_eq key (codes "features")) vendor product
    features (source_number 255 value) (source_number 255 value) (source_number 255 value)
keeps (Section.Words id bytes) key value =
    words_keeps (bytes_eq key (codes "string")) id bytes (source_string value)
keeps (Section.Bundle id class) key value =
    bundle_keeps (bytes_eq key (codes "class")) id class (source_number 255 value)
keeps (Section.Cport id bundle protocol) key value =
    cport_keeps (bytes_eq key (codes "bundle")) (bytes_eq key (codes "protocol")) id bundle protocol
    (source_number 255 value) (source_number 255 value)

at_ok : (P : Section → Type 0) (r : Result Section MnfsReason) (s : Section) → IfOk r P
    → r ≡ Ok s → P s
at_ok P r s h e = subst (λ (x : Result Section MnfsReason). IfOk x P) e h

pub said : (x y : Draft) (f : Front) (o p : code.Opened) (key value : List ℕ) → Stands x f
    → x.last ≡ Some o → section_with (section_of o.section) key value ≡ Ok (section_of p.section)
    → p.line ≡ o.line → spec_of y.spec ≡ spec_of x.spec → y.lacking ≡ x.lacking
    → y.has_header ≡ x.has_header → y.has_interface ≡ x.has_interface → y.last ≡ Some p
    → IsTaken (with_key f.closed f.last key value) y
said x y f o p key value h e gives line spec lacking header interface last =
    let before = last_is x f o h e in
    let all = all_are x f o h e in
    let kind = at_ok (SameKind (section_of o.section))
    (section_with (section_of o.section) key value) (section_of p.section)
    (keeps (section_of o.section) key value) gives in
    record {
      front = record { closed = f.closed; last = Some (opened_of p) };
      is =
          ap (λ l. with_key f.closed l key value) before
          ∙ ap (λ r. with_changed f.closed o.line r) gives
          ∙ ap (λ n. Ok (record {
            closed = f.closed;
            last = Some (record { line = n; section = section_of p.section });
          })) (sym line);
      stands = record {
        spec = spec ∙ h.spec;
        lacking = lacking ∙ h.lacking;
        header =
            header ∙ h.header ∙ ap (λ l. some_section is_header l) all
            ∙ sym (some-changed is_header f.closed (opened_of o) (opened_of p) kind.0);
        interface =
            interface ∙ h.interface ∙ ap (λ l. some_section is_interface_section l) all
            ∙ sym (some-changed is_interface_section f.closed (opened_of o) (opened_of p) kind.1);
        last = ap (λ l. option_map opened_of l) last;
      };
    }

-- ---- all lines are read

-- a spec of sections in which nothing is missing
pub finished : (x : Draft) (all : List Opened) (answer : Option ℕ) → answer ≡ missing_line all
    → answer ≡ None → Stands x (record { closed = all; last = None }) → IsWhole all x.spec
finished x all answer is none h = record { whole = sym is ∙ none; spec_is = h.spec }
