-- The kinds of module that a script can plug by name, and their manifests.
use Rattle.std.specs.Prelude.{ℕ, List, [], ◌∷◌, codes}
use Rattle.gb_base.specs.declared.event.Kind.{Kind}
use Rattle.gb_base.specs.declared.event.Kind.TheVariants as kind
use Rattle.gb_formats.specs.ManifestSpec.{ManifestSpec, StringSpec, BundleSpec, CportSpec, plain}
use Rattle.gb_formats.specs.Protocols.{control_protocol, firmware_protocol, gpio_protocol}
use Rattle.gb_formats.specs.Protocols.{i2c_protocol, loopback_protocol, spi_protocol, uart_protocol}
use Rattle.gb_formats.specs.Protocols.{bridged_class, control_class, firmware_class, loopback_class}

-- the product string of a kind
abbrev pub product_of : Kind → List ℕ
product_of kind.Gpio = codes "GPIO"
product_of kind.I2c = codes "I2C"
product_of kind.Spi = codes "SPI"
product_of kind.Uart = codes "UART"
product_of kind.Bridge = codes "Bridge"
product_of kind.Loopback = codes "Loopback"
product_of kind.Firmware = codes "Firmware"

-- a string with this id
abbrev pub string_of : ℕ → List ℕ → StringSpec
string_of id bytes = record { id = id; bytes = bytes }

-- a bundle with this id and class
abbrev pub bundle_of : ℕ → ℕ → BundleSpec
bundle_of id class = record { id = id; class = class }

-- a CPort with this id, bundle and protocol
abbrev pub cport_of : ℕ → ℕ → ℕ → CportSpec
cport_of id bundle protocol = record { id = id; bundle = bundle; protocol = protocol }

-- the CPorts of a kind, all in bundle 1
abbrev pub kind_cports : Kind → List CportSpec
kind_cports kind.Gpio = cport_of 1 1 gpio_protocol ∷ []
kind_cports kind.I2c = cport_of 1 1 i2c_protocol ∷ []
kind_cports kind.Spi = cport_of 1 1 spi_protocol ∷ []
kind_cports kind.Uart = cport_of 1 1 uart_protocol ∷ []
kind_cports kind.Bridge =
    cport_of 1 1 gpio_protocol ∷ cport_of 2 1 i2c_protocol ∷ cport_of 3 1 spi_protocol
    ∷ cport_of 4 1 uart_protocol ∷ []
kind_cports kind.Loopback = cport_of 1 1 loopback_protocol ∷ []
kind_cports kind.Firmware = cport_of 1 1 firmware_protocol ∷ []

-- the class of bundle 1
abbrev pub class_of : Kind → ℕ
class_of kind.Loopback = loopback_class
class_of kind.Firmware = firmware_class
class_of _ = bridged_class

-- The spec of a kind's manifest: strings 1 and 2 for vendor and product, bundle 0 with CPort 0 for
-- Control, and bundle 1 with the kind's CPorts.
abbrev pub kind_spec : Kind → ManifestSpec
kind_spec k = record {
  minor = 1;
  vendor = 1;
  product = 2;
  features = 0;
  strings = string_of 1 (codes "Greybus") ∷ string_of 2 (product_of k) ∷ [];
  bundles = bundle_of 0 control_class ∷ bundle_of 1 (class_of k) ∷ [];
  cports = cport_of 0 0 control_protocol ∷ kind_cports k;
}

-- The manifest of a kind.
abbrev pub kind_manifest : Kind → List ℕ
kind_manifest k = plain (kind_spec k)
