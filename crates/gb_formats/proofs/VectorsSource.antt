-- Manifests as texts: what is made of a text, and the text of a manifest.
use Rattle.std.proofs.Common.{◌≡◌, ℕ, zero, suc, ◌+◌, List, [], ◌∷◌, refl}
use Rattle.std.specs.Prelude.{Some, None, Ok, Err, ◌++◌, map, replicate, take, drop, codes}
use Rattle.std.specs.Fmt.{digits}
use Rattle.hex.specs.Hex.{encode_with}
use Rattle.gb_base.specs.declared.event.Kind.TheVariants as kind
use Rattle.gb_formats.specs.Kinds.{kind_manifest, kind_spec}
use Rattle.gb_formats.specs.Manifest.{check_answer}
use Rattle.gb_formats.specs.ManifestSpec.{WriteFault}
use Rattle.gb_formats.specs.Source.{SourceFault, compile_answer, sections_from}
use Rattle.gb_formats.specs.SourceTexts.{compile_text, decompile_text, source_text, string_value}
use Rattle.gb_formats.specs.SourceValues.{source_number, source_string, string_after}
use Rattle.gb_formats.proofs.Samples.{text_of}
use Rattle.gb_formats.proofs.VectorsManifest.{bridge_bytes, gpio_bytes}

-- ---- a manifest of an interface alone

-- its bytes
abbrev pub least_bytes : List ℕ
least_bytes = 12 ∷ 0 ∷ 0 ∷ 1 ∷ 8 ∷ 0 ∷ 1 ∷ 0 ∷ 0 ∷ 0 ∷ 0 ∷ 0 ∷ []

-- the lines of its text but the last
abbrev pub seven_lines : List (List ℕ)
seven_lines =
    codes "[manifest-header]"
    ∷ codes "version-major = 0"
    ∷ codes "version-minor = 1"
    ∷ []
    ∷ codes "[interface-descriptor]"
    ∷ codes "vendor-string-id = 0"
    ∷ codes "product-string-id = 0"
    ∷ []

-- its text
abbrev pub least_text : List ℕ
least_text = text_of (seven_lines ++ codes "features = 0" ∷ [])

pub least-decompile : decompile_text (check_answer least_bytes) ≡ least_text
unfolding digits
least-decompile = refl

pub least-compile : compile_answer least_text ≡ Ok least_bytes
unfolding sections_from
least-compile = refl

-- what is made of the seven lines and these behind them
abbrev pub behind_seven : List (List ℕ) → List ℕ
behind_seven more = compile_text (compile_answer (text_of (seven_lines ++ more)))

pub class-too-great : behind_seven (codes "[bundle-descriptor 1]" ∷ codes "class = 0x10a" ∷ [])
    ≡ codes "line 9: bad value" ++ 10 ∷ []
unfolding sections_from digits
class-too-great = refl

pub cport-without-bundle : behind_seven (codes "[bundle-descriptor 1]" ∷ codes "class = 0xa"
    ∷ codes "[cport-descriptor 1]" ∷ codes "bundle = 2" ∷ codes "protocol = 2" ∷ [])
    ≡ codes "refused cport bundle" ++ 10 ∷ []
unfolding sections_from digits
cport-without-bundle = refl

-- ---- the kinds' manifests

-- the text of the gpio manifest
abbrev pub gpio_text : List ℕ
gpio_text = text_of (
    codes "[manifest-header]"
    ∷ codes "version-major = 0"
    ∷ codes "version-minor = 1"
    ∷ []
    ∷ codes "[interface-descriptor]"
    ∷ codes "vendor-string-id = 1"
    ∷ codes "product-string-id = 2"
    ∷ codes "features = 0"
    ∷ []
    ∷ codes "[string-descriptor 1]"
    ∷ codes "string = Greybus"
    ∷ []
    ∷ codes "[string-descriptor 2]"
    ∷ codes "string = GPIO"
    ∷ []
    ∷ codes "[bundle-descriptor 0]"
    ∷ codes "class = 0x00"
    ∷ []
    ∷ codes "[bundle-descriptor 1]"
    ∷ codes "class = 0x0a"
    ∷ []
    ∷ codes "[cport-descriptor 0]"
    ∷ codes "bundle = 0"
    ∷ codes "protocol = 0x00"
    ∷ []
    ∷ codes "[cport-descriptor 1]"
    ∷ codes "bundle = 1"
    ∷ codes "protocol = 0x02"
    ∷ [])

pub gpio-decompile : decompile_text (check_answer gpio_bytes) ≡ gpio_text
unfolding digits encode_with
gpio-decompile = refl

pub gpio-compile : compile_answer gpio_text ≡ Ok gpio_bytes
unfolding sections_from string_after
gpio-compile = refl

pub bridge-back : compile_answer (decompile_text (check_answer bridge_bytes)) ≡ Ok bridge_bytes
unfolding sections_from string_after digits encode_with
bridge-back = refl

pub kinds-back : map (λ k. compile_answer (source_text (kind_spec k)))
    (kind.I2c ∷ kind.Spi ∷ kind.Uart ∷ kind.Loopback ∷ kind.Firmware ∷ [])
    ≡ map (λ k. Ok (kind_manifest k))
    (kind.I2c ∷ kind.Spi ∷ kind.Uart ∷ kind.Loopback ∷ kind.Firmware ∷ [])
unfolding sections_from string_after digits encode_with
kinds-back = refl

-- ---- forms of lines

-- sections and keys in another order, with comments, spaces, a CR and numbers in hex
pub any-order : compile_answer (text_of (
    codes "; a comment"
    ∷ (codes "[interface-descriptor]" ++ 13 ∷ [])
    ∷ codes "  features=0x7  "
    ∷ codes "product-string-id =0x0"
    ∷ codes "vendor-string-id= 0"
    ∷ (35 ∷ 200 ∷ 13 ∷ 1 ∷ [])
    ∷ codes "   "
    ∷ codes " [manifest-header] "
    ∷ codes "version-minor = 0x0001"
    ∷ [])
    ++ codes "version-major = 0")
    ≡ Ok (12 ∷ 0 ∷ 0 ∷ 1 ∷ 8 ∷ 0 ∷ 1 ∷ 0 ∷ 0 ∷ 0 ∷ 7 ∷ 0 ∷ [])
unfolding sections_from
any-order = refl

-- ---- refusals

-- lines behind the seven lines, and what they are refused for
abbrev pub refused_behind : List (List (List ℕ) × List ℕ)
refused_behind =
    (codes "features 1" ∷ [], codes "line 8: not a line")
    ∷ (codes "name = 1" ∷ [], codes "line 8: not a line")
    ∷ (codes "Features = 1" ∷ [], codes "line 8: not a line")
    ∷ (codes "[string-descriptor]" ∷ [], codes "line 8: not a line")
    ∷ (codes "[string-descriptor 1" ∷ [], codes "line 8: not a line")
    ∷ (codes "[manifest-header 1]" ∷ [], codes "line 8: not a line")
    ∷ (codes "[class-descriptor 1]" ∷ [], codes "line 8: not a line")
    ∷ ((codes "features = 1" ++ 127 ∷ []) ∷ [], codes "line 8: not a line")
    ∷ ((codes "features = 1" ++ 13 ∷ 13 ∷ []) ∷ [], codes "line 8: not a line")
    ∷ (codes "class = 1" ∷ [], codes "line 8: not here")
    ∷ (codes "string = a" ∷ [], codes "line 8: not here")
    ∷ (codes "class = 256" ∷ [], codes "line 8: not here")
    ∷ (codes "vendor-string-id = 1" ∷ [], codes "line 8: twice")
    ∷ (codes "vendor-string-id = 256" ∷ [], codes "line 8: twice")
    ∷ (codes "[manifest-header]" ∷ [], codes "line 8: twice")
    ∷ (codes "[interface-descriptor]" ∷ [], codes "line 8: twice")
    ∷ (codes "features = 256" ∷ [], codes "line 8: bad value")
    ∷ (codes "features = 01" ∷ [], codes "line 8: bad value")
    ∷ (codes "features = +1" ∷ [], codes "line 8: bad value")
    ∷ (codes "features = 1 1" ∷ [], codes "line 8: bad value")
    ∷ (codes "features =" ∷ [], codes "line 8: bad value")
    ∷ (codes "features = 0x" ∷ [], codes "line 8: bad value")
    ∷ (codes "features = 0X1" ∷ [], codes "line 8: bad value")
    ∷ (codes "features = 0x00001" ∷ [], codes "line 8: bad value")
    ∷ (codes "features = 0x100" ∷ [], codes "line 8: bad value")
    ∷ (codes "features = 0x1g" ∷ [], codes "line 8: bad value")
    ∷ (codes "[string-descriptor ]" ∷ [], codes "line 8: bad value")
    ∷ (codes "[string-descriptor  1]" ∷ [], codes "line 8: bad value")
    ∷ (codes "[string-descriptor 256]" ∷ [], codes "line 8: bad value")
    ∷ (codes "[bundle-descriptor 256]" ∷ [], codes "line 8: bad value")
    ∷ (codes "[cport-descriptor 65536]" ∷ [], codes "line 8: bad value")
    ∷ (codes "[string-descriptor 1]" ∷ codes "string = a\\q" ∷ [], codes "line 9: bad value")
    ∷ (codes "[string-descriptor 1]" ∷ codes "string = a\\" ∷ [], codes "line 9: bad value")
    ∷ (codes "[string-descriptor 1]" ∷ codes "string = a\\x4" ∷ [], codes "line 9: bad value")
    ∷ (
      codes "[string-descriptor 1]" ∷ codes "string = " ∷ codes "string = " ∷ [],
      codes "line 10: twice",
    )
    ∷ (codes "[string-descriptor 1]" ∷ codes "features = 1" ∷ [], codes "line 9: not here")
    ∷ (codes "[string-descriptor 1]" ∷ [], codes "line 8: missing")
    ∷ (
      codes "[bundle-descriptor 1]" ∷ codes "[bundle-descriptor 2]" ∷ codes "class = 1" ∷ [],
      codes "line 8: missing",
    )
    ∷ (codes "[cport-descriptor 1]" ∷ codes "bundle = 1" ∷ [], codes "line 8: missing")
    ∷ (codes "[string-descriptor 1]" ∷ codes "class" ∷ [], codes "line 9: not a line")
    ∷ (
      codes "[string-descriptor 1]" ∷ (codes "string = " ++ replicate 256 97) ∷ [],
      codes "string 1 too long",
    )
    ∷ (codes "[string-descriptor 0]" ∷ codes "string = a" ∷ [], codes "refused string id")
    ∷ (
      codes "[cport-descriptor 65535]" ∷ codes "bundle = 1" ∷ codes "protocol = 0xB" ∷ [],
      codes "refused cport id",
    )
    ∷ []

pub refused-behind : map (λ row. behind_seven row.0) refused_behind
    ≡ map (λ row. row.1 ++ 10 ∷ []) refused_behind
unfolding sections_from string_after digits
refused-behind = refl

-- whole texts, and what they are refused for
abbrev pub refused_texts : List (List ℕ × List ℕ)
refused_texts =
    ([], codes "line 0: missing")
    ∷ (codes "features = 1", codes "line 1: not here")
    ∷ (codes "[manifest-header]", codes "line 0: missing")
    ∷ (text_of (take 3 seven_lines), codes "line 0: missing")
    ∷ (text_of (drop 4 seven_lines), codes "line 0: missing")
    ∷ (
      text_of (codes "[manifest-header]" ∷ codes "version-major = 1" ∷ []),
      codes "line 2: bad value",
    )
    ∷ (text_of (codes "[manifest-header]" ∷ drop 4 seven_lines), codes "line 1: missing")
    ∷ []

pub refused-texts : map (λ row. compile_text (compile_answer row.0)) refused_texts
    ≡ map (λ row. row.1 ++ 10 ∷ []) refused_texts
unfolding sections_from digits
refused-texts = refl

pub manifest-refused : decompile_text (check_answer (3 ∷ 0 ∷ []))
    ≡ codes "refused 2 short header" ++ 10 ∷ []
unfolding digits
manifest-refused = refl

pub too-long : compile_text (Err (SourceFault.Write WriteFault.TooLong))
    ≡ codes "manifest too long" ++ 10 ∷ []
too-long = refl

-- ---- numbers and strings

pub numbers : map (source_number 65535)
    (codes "0" ∷ codes "65535" ∷ codes "65536" ∷ codes "0x0" ∷ codes "0xfFfF" ∷ codes "0x10000"
    ∷ codes "00" ∷ codes "x" ∷ [])
    ≡ Some 0 ∷ Some 65535 ∷ None ∷ Some 0 ∷ Some 65535 ∷ None ∷ None ∷ None ∷ []
numbers = refl

pub strings : map source_string
    (codes "" ∷ codes "a b" ∷ codes "\\\\" ∷ codes "\\x00\\xfF\\x5c" ∷ codes "\\x"
    ∷ codes "\\n" ∷ [])
    ≡ Some [] ∷ Some (codes "a b") ∷ Some (92 ∷ []) ∷ Some (0 ∷ 255 ∷ 92 ∷ []) ∷ None ∷ None ∷ []
unfolding string_after
strings = refl

pub string-values : map string_value
    ([] ∷ (32 ∷ []) ∷ codes " a b " ∷ codes "\\" ∷ codes "\"=;#[]" ∷ (0 ∷ 31 ∷ 127 ∷ 255 ∷ []) ∷ [])
    ≡ [] ∷ codes "\\x20" ∷ codes "\\x20a b\\x20" ∷ codes "\\\\" ∷ codes "\"=;#[]"
    ∷ codes "\\x00\\x1f\\x7f\\xff" ∷ []
unfolding encode_with
string-values = refl

-- the bytes from this one on, so many
abbrev pub counted : ℕ → ℕ → List ℕ
counted zero first = []
counted (suc n) first = first ∷ counted n (first + 1)

-- a string of 256 bytes with each byte value comes back
pub each-byte : source_string (string_value (counted 256 0)) ≡ Some (counted 256 0)
unfolding string_after encode_with
each-byte = refl
