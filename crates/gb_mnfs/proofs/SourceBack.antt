-- The sections of a text that was written are those of its spec.
use Rattle.std.proofs.Common.{◌≡◌, ℕ, ◌+◌, ◌<◌, ◌||◌, ◌^◌, Bool, true, false, List, [], ◌∷◌, ◌++◌}
use Rattle.std.proofs.Common.{refl, sym, ap, ◌∙◌, subst, Some, None, Ok, append_assoc, append-nil}
use Rattle.std.proofs.Common.{arith, codes}
use Rattle.std.specs.Prelude.{if◌then◌else◌, option_map}
use Rattle.std.specs.Fmt.{decimal}
use Rattle.std.specs.List.{flat_map, list_all}
use Rattle.gb_formats.specs.ManifestSpec.{BundleSpec, CportSpec, ManifestSpec, StringSpec}
use Rattle.gb_formats.specs.Script.{is_printable}
use Rattle.gb_formats.specs.Source.{Front, Opened, adds, empty_spec}
use Rattle.gb_formats.specs.Source.{first_lacking, is_header, is_interface_section, line_then}
use Rattle.gb_formats.specs.Source.{sections_from, sections_of, some_section}
use Rattle.gb_formats.specs.Source.{spec_with, with_changed, with_line}
use Rattle.gb_formats.specs.SourceLines.{Form, Section, form_of, lacks_key, section_with, set}
use Rattle.gb_formats.specs.SourceTexts.{bundle_lines, cport_lines, hex_value}
use Rattle.gb_formats.specs.SourceTexts.{pair_line}
use Rattle.gb_formats.specs.SourceTexts.{string_lines, string_value}
use Rattle.gb_base.specs.Bytes.{AreBytes}
use Rattle.gb_mnfs.specs.Fits.{BundlesFit, CportsFit, StringsFit}
use Rattle.gb_mnfs.specs.Drafts.{lacking_or}
use Rattle.gb_mnfs.proofs.Drafts.{lacking-more, spec-more}
use Rattle.gb_mnfs.proofs.Numerals.{decimal_back, hex_back}
use Rattle.gb_mnfs.proofs.SourceForms.{numbered_opens, numbered_printable, pair_printable}
use Rattle.gb_mnfs.proofs.SourceForms.{pair_says}
use Rattle.gb_mnfs.proofs.SourceLinesBack.{ArePrintable}
use Rattle.gb_mnfs.proofs.SourceValues.{IsValue-decimal, IsValue-hex}
use Rattle.gb_mnfs.proofs.StringBack.{IsValue-string, string_back}

-- ---- lines that are read

pub step : (at : ℕ) (f g : Front) (form : Form) (l : List ℕ) (ls : List (List ℕ)) → form_of l ≡ form
    → with_line at form f ≡ Ok g
    → sections_from at f (l ∷ ls) ≡ sections_from (at + 1) g ls
unfolding sections_from
step at f g form l ls e r =
    ap (λ x. line_then at (with_line at x f) (λ n. sections_from (at + 1) n ls)) e
    ∙ ap (λ x. line_then at x (λ n. sections_from (at + 1) n ls)) r

-- a front whose last section is this one
abbrev pub front : List Opened → ℕ → Section → Front
front closed at s = record { closed = closed; last = Some (record { line = at; section = s }) }

pub said : (closed : List Opened) (at : ℕ) (s t : Section) (key value : List ℕ) (n : ℕ)
    → section_with s key value ≡ Ok t
    → with_line n (Form.Says key value) (front closed at s) ≡ Ok (front closed at t)
said closed at s t key value n e = ap (λ r. with_changed closed at r) e

-- ---- what has been read so far

-- nothing is missing so far, and this is the spec
pub record Good (f : Front) (spec : ManifestSpec) : Type 0 where
  pub lacking : first_lacking (sections_of f) ≡ None
  pub header : some_section is_header (sections_of f) ≡ true
  pub interface : some_section is_interface_section (sections_of f) ≡ true
  pub spec_is : spec_with empty_spec (sections_of f) ≡ spec

some-more : (test : Section → Bool) (all : List Opened) (o : Opened)
    → some_section test all ≡ true → some_section test (all ++ o ∷ []) ≡ true
some-more test [] o h = absurd cc
some-more test (x ∷ xs) o h = at (test x.section) h (some-more test xs o)
  where
    at : (t : Bool) → t || some_section test xs ≡ true
        → (some_section test xs ≡ true → some_section test (xs ++ o ∷ []) ≡ true)
        → t || some_section test (xs ++ o ∷ []) ≡ true
    at true h later = refl
    at false h later = later h

whole_section : (o : Opened) → lacks_key o.section ≡ false
    → lacking_or None o.line o.section ≡ None
whole_section o e = ap (λ t. if t then Some o.line else None) e

-- one section more, which lacks no key
more_good : (f : Front) (spec : ManifestSpec) (at : ℕ) (s : Section) → Good f spec
    → lacks_key s ≡ false → Good (front (sections_of f) at s) (adds s spec)
more_good f spec at s h e =
    let all = sections_of f in
    let o : Opened = record { line = at; section = s } in
    record {
      lacking =
          lacking-more all o
          ∙ ap (λ l. lacking_or l at s) h.lacking
          ∙ whole_section o e;
      header = some-more is_header all o h.header;
      interface = some-more is_interface_section all o h.interface;
      spec_is = spec-more empty_spec all o ∙ ap (λ x. adds s x) h.spec_is;
    }

-- from here the text goes on as from another place, with this spec
pub record GoesOn (at : ℕ) (f : Front) (ls more : List (List ℕ)) (spec : ManifestSpec)
    : Type 0 where
  pub at_next : ℕ
  pub next : Front
  pub good : Good next spec
  pub same : sections_from at f ls ≡ sections_from at_next next more

on : (at : ℕ) (f : Front) (ls : List (List ℕ)) (n : ℕ) (g : Front) (rest more : List (List ℕ))
    (spec : ManifestSpec) → sections_from at f ls ≡ sections_from n g rest
    → GoesOn n g rest more spec → GoesOn at f ls more spec
on at f ls n g rest more spec e r =
    record { at_next = r.at_next; next = r.next; good = r.good; same = e ∙ r.same }

other : (at : ℕ) (f : Front) (ls more : List (List ℕ)) (a b : ManifestSpec) → a ≡ b
    → GoesOn at f ls more a → GoesOn at f ls more b
other at f ls more a b e r = subst (λ (s : ManifestSpec). GoesOn at f ls more s) e r

-- ---- numbers that fit

pub byte_small : (n : ℕ) → n < 256 → n < 2 ^ 64
byte_small n h = omega (arith, h)

id_small : (n : ℕ) → n < 65536 → n < 2 ^ 64
id_small n h = omega (arith, h)

-- ---- strings

string_line : (bytes : List ℕ) → AreBytes bytes
    → form_of (pair_line (codes "string") (string_value bytes))
    ≡ Form.Says (codes "string") (string_value bytes)
string_line [] are = refl
string_line (b ∷ bs) are =
    pair_says (codes "string") (string_value (b ∷ bs)) (IsValue-string b bs are) refl refl refl refl
    refl refl refl refl

string_printable : (bytes : List ℕ) → AreBytes bytes
    → list_all is_printable (pair_line (codes "string") (string_value bytes)) ≡ true
string_printable [] are = refl
string_printable (b ∷ bs) are =
    pair_printable (codes "string") (string_value (b ∷ bs)) refl (IsValue-string b bs are)

string_read : (at : ℕ) (f : Front) (s : StringSpec) (ls : List (List ℕ)) → s.id < 256
    → AreBytes s.bytes → sections_from at f (string_lines s ++ ls)
    ≡ sections_from (at + 1 + 1 + 1)
    (front (sections_of f) (at + 1) (Section.Words s.id (Some s.bytes))) ls
string_read at f s ls id are =
    let all = sections_of f in
    let empty = Section.Words s.id None in
    let number = decimal_back 255 s.id (omega (arith, id)) (byte_small s.id id) in
    let head = numbered_opens (codes "string-descriptor") s.id empty refl
    (IsValue-decimal s.id (byte_small s.id id)) refl
    (ap (λ o. Form.Opens (option_map (λ id. Section.Words id None) o)) number) in
    step at f f Form.Nothing [] _ refl refl
    ∙ step (at + 1) f (front all (at + 1) empty) (Form.Opens (Some empty)) _ _ head refl
    ∙ step (at + 1 + 1) (front all (at + 1) empty)
    (front all (at + 1) (Section.Words s.id (Some s.bytes)))
    (Form.Says (codes "string") (string_value s.bytes)) _ _ (string_line s.bytes are)
    (said all (at + 1) empty (Section.Words s.id (Some s.bytes)) (codes "string")
    (string_value s.bytes) (at + 1 + 1)
    (ap (λ v. set None v (λ x. Section.Words s.id (Some x))) (string_back s.bytes are)))

pub strings_read : (ss : List StringSpec) (at : ℕ) (f : Front) (spec : ManifestSpec)
    (ls : List (List ℕ)) → StringsFit ss → Good f spec
    → GoesOn at f (flat_map string_lines ss ++ ls) ls
    (record spec { strings = spec.strings ++ ss })
strings_read [] at f spec ls fit good =
    other at f ls ls spec (record spec { strings = spec.strings ++ [] })
    (ap (λ x. record spec { strings = x }) (sym (append-nil spec.strings)))
    (record { at_next = at; next = f; good = good; same = refl })
strings_read (s ∷ ss) at f spec ls fit good =
    let words = Section.Words s.id (Some s.bytes) in
    let g = front (sections_of f) (at + 1) words in
    let n = at + 1 + 1 + 1 in
    let with_s = adds words spec in
    let later = strings_read ss n g with_s ls fit.2 (more_good f spec (at + 1) words good refl) in
    on at f (flat_map string_lines (s ∷ ss) ++ ls) n g (flat_map string_lines ss ++ ls) ls
    (record spec { strings = spec.strings ++ s ∷ ss })
    (string_read at f s (flat_map string_lines ss ++ ls) fit.0 fit.1)
    (other n g (flat_map string_lines ss ++ ls) ls
    (record with_s { strings = with_s.strings ++ ss })
    (record spec { strings = spec.strings ++ s ∷ ss })
    (ap (λ x. record spec { strings = x }) (append_assoc spec.strings (s ∷ []) ss)) later)

pub strings_printable : (ss : List StringSpec) → StringsFit ss
    → ArePrintable (flat_map string_lines ss)
strings_printable [] fit = tt
strings_printable (s ∷ ss) fit = (
  refl,
  (
    numbered_printable (codes "string-descriptor") s.id refl
        (IsValue-decimal s.id (byte_small s.id fit.0)),
    (
      string_printable s.bytes fit.1,
      strings_printable ss fit.2,
    ),
  ),
)

-- ---- bundles

bundle_read : (at : ℕ) (f : Front) (b : BundleSpec) (ls : List (List ℕ)) → b.id < 256
    → b.class < 256 → sections_from at f (bundle_lines b ++ ls)
    ≡ sections_from (at + 1 + 1 + 1)
    (front (sections_of f) (at + 1) (Section.Bundle b.id (Some b.class))) ls
bundle_read at f b ls id class =
    let all = sections_of f in
    let empty = Section.Bundle b.id None in
    let number = decimal_back 255 b.id (omega (arith, id)) (byte_small b.id id) in
    let head = numbered_opens (codes "bundle-descriptor") b.id empty refl
    (IsValue-decimal b.id (byte_small b.id id)) refl
    (ap (λ o. Form.Opens (option_map (λ id. Section.Bundle id None) o)) number) in
    step at f f Form.Nothing [] _ refl refl
    ∙ step (at + 1) f (front all (at + 1) empty) (Form.Opens (Some empty)) _ _ head refl
    ∙ step (at + 1 + 1) (front all (at + 1) empty)
    (front all (at + 1) (Section.Bundle b.id (Some b.class)))
    (Form.Says (codes "class") (hex_value b.class)) _ _
    (pair_says (codes "class") (hex_value b.class) (IsValue-hex b.class class) refl refl refl refl
    refl refl refl refl)
    (said all (at + 1) empty (Section.Bundle b.id (Some b.class)) (codes "class")
    (hex_value b.class) (at + 1 + 1)
    (ap (λ v. set None v (λ x. Section.Bundle b.id (Some x))) (hex_back b.class class)))

pub bundles_read : (bs : List BundleSpec) (at : ℕ) (f : Front) (spec : ManifestSpec)
    (ls : List (List ℕ)) → BundlesFit bs → Good f spec
    → GoesOn at f (flat_map bundle_lines bs ++ ls) ls
    (record spec { bundles = spec.bundles ++ bs })
bundles_read [] at f spec ls fit good =
    other at f ls ls spec (record spec { bundles = spec.bundles ++ [] })
    (ap (λ x. record spec { bundles = x }) (sym (append-nil spec.bundles)))
    (record { at_next = at; next = f; good = good; same = refl })
bundles_read (b ∷ bs) at f spec ls fit good =
    let bundle = Section.Bundle b.id (Some b.class) in
    let g = front (sections_of f) (at + 1) bundle in
    let n = at + 1 + 1 + 1 in
    let with_b = adds bundle spec in
    let later = bundles_read bs n g with_b ls fit.2 (more_good f spec (at + 1) bundle good refl) in
    on at f (flat_map bundle_lines (b ∷ bs) ++ ls) n g (flat_map bundle_lines bs ++ ls) ls
    (record spec { bundles = spec.bundles ++ b ∷ bs })
    (bundle_read at f b (flat_map bundle_lines bs ++ ls) fit.0 fit.1)
    (other n g (flat_map bundle_lines bs ++ ls) ls
    (record with_b { bundles = with_b.bundles ++ bs })
    (record spec { bundles = spec.bundles ++ b ∷ bs })
    (ap (λ x. record spec { bundles = x }) (append_assoc spec.bundles (b ∷ []) bs)) later)

pub bundles_printable : (bs : List BundleSpec) → BundlesFit bs
    → ArePrintable (flat_map bundle_lines bs)
bundles_printable [] fit = tt
bundles_printable (b ∷ bs) fit = (
  refl,
  (
    numbered_printable (codes "bundle-descriptor") b.id refl
        (IsValue-decimal b.id (byte_small b.id fit.0)),
    (
      pair_printable (codes "class") (hex_value b.class) refl (IsValue-hex b.class fit.1),
      bundles_printable bs fit.2,
    ),
  ),
)

-- ---- CPorts

cport_read : (at : ℕ) (f : Front) (c : CportSpec) (ls : List (List ℕ)) → c.id < 65536
    → c.bundle < 256 → c.protocol < 256 → sections_from at f (cport_lines c ++ ls)
    ≡ sections_from (at + 1 + 1 + 1 + 1)
    (front (sections_of f) (at + 1) (Section.Cport c.id (Some c.bundle) (Some c.protocol))) ls
cport_read at f c ls id bundle protocol =
    let all = sections_of f in
    let empty = Section.Cport c.id None None in
    let half = Section.Cport c.id (Some c.bundle) None in
    let full = Section.Cport c.id (Some c.bundle) (Some c.protocol) in
    let number = decimal_back 65535 c.id (omega (arith, id)) (id_small c.id id) in
    let head = numbered_opens (codes "cport-descriptor") c.id empty refl
    (IsValue-decimal c.id (id_small c.id id)) refl
    (ap (λ o. Form.Opens (option_map (λ id. Section.Cport id None None) o)) number) in
    let in_bundle = decimal_back 255 c.bundle (omega (arith, bundle))
    (byte_small c.bundle bundle) in
    step at f f Form.Nothing [] _ refl refl
    ∙ step (at + 1) f (front all (at + 1) empty) (Form.Opens (Some empty)) _ _ head refl
    ∙ step (at + 1 + 1) (front all (at + 1) empty) (front all (at + 1) half)
    (Form.Says (codes "bundle") (decimal c.bundle)) _ _
    (pair_says (codes "bundle") (decimal c.bundle)
    (IsValue-decimal c.bundle (byte_small c.bundle bundle)) refl refl refl refl refl refl refl refl)
    (said all (at + 1) empty half (codes "bundle") (decimal c.bundle) (at + 1 + 1)
    (ap (λ v. set None v (λ x. Section.Cport c.id (Some x) None)) in_bundle))
    ∙ step (at + 1 + 1 + 1) (front all (at + 1) half) (front all (at + 1) full)
    (Form.Says (codes "protocol") (hex_value c.protocol)) _ _
    (pair_says (codes "protocol") (hex_value c.protocol) (IsValue-hex c.protocol protocol) refl refl
    refl refl refl refl refl refl)
    (said all (at + 1) half full (codes "protocol") (hex_value c.protocol) (at + 1 + 1 + 1)
    (ap (λ v. set None v (λ x. Section.Cport c.id (Some c.bundle) (Some x)))
    (hex_back c.protocol protocol)))

pub cports_read : (cs : List CportSpec) (at : ℕ) (f : Front) (spec : ManifestSpec)
    (ls : List (List ℕ)) → CportsFit cs → Good f spec
    → GoesOn at f (flat_map cport_lines cs ++ ls) ls
    (record spec { cports = spec.cports ++ cs })
cports_read [] at f spec ls fit good =
    other at f ls ls spec (record spec { cports = spec.cports ++ [] })
    (ap (λ x. record spec { cports = x }) (sym (append-nil spec.cports)))
    (record { at_next = at; next = f; good = good; same = refl })
cports_read (c ∷ cs) at f spec ls fit good =
    let cport = Section.Cport c.id (Some c.bundle) (Some c.protocol) in
    let g = front (sections_of f) (at + 1) cport in
    let n = at + 1 + 1 + 1 + 1 in
    let with_c = adds cport spec in
    let later = cports_read cs n g with_c ls fit.3 (more_good f spec (at + 1) cport good refl) in
    on at f (flat_map cport_lines (c ∷ cs) ++ ls) n g (flat_map cport_lines cs ++ ls) ls
    (record spec { cports = spec.cports ++ c ∷ cs })
    (cport_read at f c (flat_map cport_lines cs ++ ls) fit.0 fit.1 fit.2)
    (other n g (flat_map cport_lines cs ++ ls) ls
    (record with_c { cports = with_c.cports ++ cs })
    (record spec { cports = spec.cports ++ c ∷ cs })
    (ap (λ x. record spec { cports = x }) (append_assoc spec.cports (c ∷ []) cs)) later)

pub cports_printable : (cs : List CportSpec) → CportsFit cs
    → ArePrintable (flat_map cport_lines cs)
cports_printable [] fit = tt
cports_printable (c ∷ cs) fit = (
  refl,
  (
    numbered_printable (codes "cport-descriptor") c.id refl
        (IsValue-decimal c.id (id_small c.id fit.0)),
    (
      pair_printable (codes "bundle") (decimal c.bundle) refl
          (IsValue-decimal c.bundle (byte_small c.bundle fit.1)),
      (
        pair_printable (codes "protocol") (hex_value c.protocol) refl
            (IsValue-hex c.protocol fit.2),
        cports_printable cs fit.3,
      ),
    ),
  ),
)
