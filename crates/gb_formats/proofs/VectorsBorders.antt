-- Values at the borders of ranges, and answers that are written out in full.
use Rattle.std.proofs.Common.{◌≡◌, ℕ, false, List, [], ◌∷◌, refl}
use Rattle.std.specs.Prelude.{None, Ok, Err, ◌++◌, codes, replicate}
use Rattle.gb_base.specs.declared.event.Kind.TheVariants as kind
use Rattle.gb_base.specs.declared.reasons.LineReason.TheVariants as bad
use Rattle.gb_base.specs.declared.reasons.WireFault.TheVariants as wire
use Rattle.gb_base.specs.declared.reasons.Reason.TheVariants as reason
use Rattle.gb_formats.specs.Kinds.{kind_manifest}
use Rattle.gb_formats.specs.Manifest.{check_answer}
use Rattle.gb_formats.specs.ManifestRules.{Refused}
use Rattle.gb_formats.specs.Message.{response}
use Rattle.gb_formats.specs.Script.{judged}
use Rattle.gb_formats.specs.UartDevice.{uart_asked, uart_step}
use Rattle.gb_formats.specs.UartRecords.{UartAsk}
use Rattle.gb_formats.specs.Wire.{decode_answer}

-- ---- lines: bytes from 20 to 7e

pub below-printable : judged 0 (codes "# a" ++ 0x1f ∷ []) ≡ Err (bad.BadByte 4)
below-printable = refl

pub tilde-printable : judged 0 (codes "# ~") ≡ Ok None
tilde-printable = refl

pub delete-unprintable : judged 0 (codes "# a" ++ 0x7f ∷ []) ≡ Err (bad.BadByte 4)
delete-unprintable = refl

-- ---- messages: types of requests up to 7f

pub greatest-request : decode_answer (8 ∷ 0 ∷ 1 ∷ 0 ∷ 0x7f ∷ 6 ∷ 0 ∷ 0 ∷ [])
    ≡ Err (wire.RequestResult 6)
greatest-request = refl

pub least-response : decode_answer (8 ∷ 0 ∷ 1 ∷ 0 ∷ 0x80 ∷ 6 ∷ 0 ∷ 0 ∷ [])
    ≡ Ok (response 1 0 6 [], 8)
least-response = refl

-- ---- manifests: bytes that are left

-- this is refused at this place
abbrev refused : ℕ → reason.the_data → Refused
refused at why = record { at = at; reason = why }

pub three-left : check_answer (7 ∷ 0 ∷ 0 ∷ 1 ∷ 4 ∷ 0 ∷ 2 ∷ [])
    ≡ Err (refused 4 reason.ShortDescriptor)
three-left = refl

pub four-left : check_answer (8 ∷ 0 ∷ 0 ∷ 1 ∷ 4 ∷ 0 ∷ 2 ∷ 0 ∷ [])
    ≡ Err (refused 4 reason.DescriptorShort)
four-left = refl

-- ---- the manifests of kinds, byte by byte

-- interface, the vendor's string, and bundles and CPorts after the product's string
abbrev begins : List ℕ
begins =
    8 ∷ 0 ∷ 1 ∷ 0 ∷ 1 ∷ 2 ∷ 0 ∷ 0 ∷ 16 ∷ 0 ∷ 2 ∷ 0 ∷ 7 ∷ 1 ∷ codes "Greybus" ++ 0 ∷ 0 ∷ 0 ∷ []

abbrev bundles : List ℕ
bundles =
    8 ∷ 0 ∷ 3 ∷ 0 ∷ 0 ∷ 0 ∷ 0 ∷ 0 ∷ 8 ∷ 0 ∷ 3 ∷ 0 ∷ 1 ∷ 0x0a ∷ 0 ∷ 0
    ∷ 8 ∷ 0 ∷ 4 ∷ 0 ∷ 0 ∷ 0 ∷ 0 ∷ 0 ∷ []

pub gpio-bytes : kind_manifest kind.Gpio
    ≡ 72 ∷ 0 ∷ 0 ∷ 1 ∷ begins ++ (12 ∷ 0 ∷ 2 ∷ 0 ∷ 4 ∷ 2 ∷ codes "GPIO" ++ 0 ∷ 0 ∷ [])
    ++ bundles ++ 8 ∷ 0 ∷ 4 ∷ 0 ∷ 1 ∷ 0 ∷ 1 ∷ 2 ∷ []
gpio-bytes = refl

pub i2c-bytes : kind_manifest kind.I2c
    ≡ 72 ∷ 0 ∷ 0 ∷ 1 ∷ begins ++ (12 ∷ 0 ∷ 2 ∷ 0 ∷ 3 ∷ 2 ∷ codes "I2C" ++ 0 ∷ 0 ∷ 0 ∷ [])
    ++ bundles ++ 8 ∷ 0 ∷ 4 ∷ 0 ∷ 1 ∷ 0 ∷ 1 ∷ 3 ∷ []
i2c-bytes = refl

pub spi-bytes : kind_manifest kind.Spi
    ≡ 72 ∷ 0 ∷ 0 ∷ 1 ∷ begins ++ (12 ∷ 0 ∷ 2 ∷ 0 ∷ 3 ∷ 2 ∷ codes "SPI" ++ 0 ∷ 0 ∷ 0 ∷ [])
    ++ bundles ++ 8 ∷ 0 ∷ 4 ∷ 0 ∷ 1 ∷ 0 ∷ 1 ∷ 0x0b ∷ []
spi-bytes = refl

pub uart-bytes : kind_manifest kind.Uart
    ≡ 72 ∷ 0 ∷ 0 ∷ 1 ∷ begins ++ (12 ∷ 0 ∷ 2 ∷ 0 ∷ 4 ∷ 2 ∷ codes "UART" ++ 0 ∷ 0 ∷ [])
    ++ bundles ++ 8 ∷ 0 ∷ 4 ∷ 0 ∷ 1 ∷ 0 ∷ 1 ∷ 4 ∷ []
uart-bytes = refl

pub bridge-bytes : kind_manifest kind.Bridge
    ≡ 96 ∷ 0 ∷ 0 ∷ 1 ∷ begins ++ (12 ∷ 0 ∷ 2 ∷ 0 ∷ 6 ∷ 2 ∷ codes "Bridge")
    ++ bundles ++ 8 ∷ 0 ∷ 4 ∷ 0 ∷ 1 ∷ 0 ∷ 1 ∷ 2 ∷ 8 ∷ 0 ∷ 4 ∷ 0 ∷ 2 ∷ 0 ∷ 1 ∷ 3
    ∷ 8 ∷ 0 ∷ 4 ∷ 0 ∷ 3 ∷ 0 ∷ 1 ∷ 0x0b ∷ 8 ∷ 0 ∷ 4 ∷ 0 ∷ 4 ∷ 0 ∷ 1 ∷ 4 ∷ []
bridge-bytes = refl

pub loopback-bytes : kind_manifest kind.Loopback
    ≡ 76 ∷ 0 ∷ 0 ∷ 1 ∷ begins ++ (16 ∷ 0 ∷ 2 ∷ 0 ∷ 8 ∷ 2 ∷ codes "Loopback" ++ 0 ∷ 0 ∷ [])
    ++ (8 ∷ 0 ∷ 3 ∷ 0 ∷ 0 ∷ 0 ∷ 0 ∷ 0 ∷ 8 ∷ 0 ∷ 3 ∷ 0 ∷ 1 ∷ 0x11 ∷ 0 ∷ 0
    ∷ 8 ∷ 0 ∷ 4 ∷ 0 ∷ 0 ∷ 0 ∷ 0 ∷ 0 ∷ 8 ∷ 0 ∷ 4 ∷ 0 ∷ 1 ∷ 0 ∷ 1 ∷ 0x11 ∷ [])
loopback-bytes = refl

pub firmware-bytes : kind_manifest kind.Firmware
    ≡ 76 ∷ 0 ∷ 0 ∷ 1 ∷ begins ++ (16 ∷ 0 ∷ 2 ∷ 0 ∷ 8 ∷ 2 ∷ codes "Firmware" ++ 0 ∷ 0 ∷ [])
    ++ (8 ∷ 0 ∷ 3 ∷ 0 ∷ 0 ∷ 0 ∷ 0 ∷ 0 ∷ 8 ∷ 0 ∷ 3 ∷ 0 ∷ 1 ∷ 0xff ∷ 0 ∷ 0
    ∷ 8 ∷ 0 ∷ 4 ∷ 0 ∷ 0 ∷ 0 ∷ 0 ∷ 0 ∷ 8 ∷ 0 ∷ 4 ∷ 0 ∷ 1 ∷ 0 ∷ 1 ∷ 0x17 ∷ [])
firmware-bytes = refl

-- ---- a UART: 2,037 bytes at most, and what it sends back

pub most-bytes : (uart_asked (UartAsk.SendData (replicate 2037 7))).result ≡ 0
most-bytes = refl

pub too-many-bytes : uart_asked (UartAsk.SendData (replicate 2038 7))
    ≡ record { result = 5; payload = []; asks = [] }
too-many-bytes = refl

-- two bytes come back as RECEIVE_DATA, and credits for two
pub echo-in-full : uart_step 2 (2 ∷ 0 ∷ 0x61 ∷ 0x62 ∷ []) ≡ record {
  result = 0;
  payload = [];
  asks = record { kind = 3; payload = 2 ∷ 0 ∷ 0 ∷ 0x61 ∷ 0x62 ∷ []; oneway = false }
      ∷ record { kind = 8; payload = 2 ∷ 0 ∷ []; oneway = false } ∷ [];
}
echo-in-full = refl
