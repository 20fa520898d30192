-- What single words of a script mean: numbers, names, hex words, kinds of modules and tags.
use Rattle.std.specs.Prelude.{ℕ, ◌+◌, ◌-◌, ◌*◌, ◌==◌, nat_lt, nat_le, Bool, ◌&&◌, ◌||◌}
use Rattle.std.specs.Prelude.{if◌then◌else◌, Option, Some, None, option_and_then, Result, Ok, Err}
use Rattle.std.specs.Prelude.{List, [], ◌∷◌, length, drop, slice_index, codes}
use Rattle.std.specs.Bool.{then_some}
use Rattle.std.specs.List.{list_all}
use Rattle.std.specs.Str.{bytes_eq}
use Rattle.hex.specs.Hex.{decode_of}
use Rattle.hex.specs.declared.error.FromHexError.{FromHexError}
use Rattle.gb_base.specs.Name.{is_name}
use Rattle.gb_base.specs.Tag.{is_tag}
use Rattle.gb_base.specs.declared.event.Kind.{Kind}
use Rattle.gb_base.specs.declared.event.Kind.TheVariants as kind
use Rattle.gb_base.specs.declared.name.Name.{Name}

-- a name is `@` and its word
abbrev pub is_name_word : List ℕ → Bool
is_name_word w = slice_index w 0 == 64 && is_name (drop 1 w)

-- the name that `@x` is, of requester `who`
abbrev pub name_of : ℕ → List ℕ → Name
name_of who w = record { who = who; word = drop 1 w }

-- `@x`, of requester `who`
abbrev pub name_word : ℕ → List ℕ → Option Name
name_word who w = then_some (is_name_word w) (name_of who w)

-- `0` to `9`
abbrev pub is_digit : ℕ → Bool
is_digit b = nat_le 48 b && nat_le b 57

-- decimal, with no sign and no leading zero but `0` itself
abbrev pub is_number : List ℕ → Bool
is_number w =
    nat_lt 0 (length w) && list_all is_digit w && (nat_lt 48 (slice_index w 0) || length w == 1)

-- the number of decimal digits, where `front` is that of the digits before them
abbrev pub number_after : ℕ → List ℕ → ℕ
number_after front [] = front
number_after front (b ∷ bs) = number_after (front * 10 + (b - 48)) bs

-- the number that decimal digits spell
abbrev pub number_of : List ℕ → ℕ
number_of w = number_after 0 w

-- a number from `least` to `greatest`
abbrev pub number_word : ℕ → ℕ → List ℕ → Option ℕ
number_word least greatest w =
    then_some
    (is_number w && nat_le least (number_of w) && nat_le (number_of w) greatest) (number_of w)

-- I, an interface that a module can have
abbrev pub intf_word : List ℕ → Option ℕ
intf_word = number_word 2 31

-- C or A, a CPort
abbrev pub cport_word : List ℕ → Option ℕ
cport_word = number_word 0 4095

-- a number of one byte
abbrev pub u8_word : List ℕ → Option ℕ
u8_word = number_word 0 255

-- a number of two bytes
abbrev pub u16_word : List ℕ → Option ℕ
u16_word = number_word 0 65535

-- a number of four bytes
abbrev pub u32_word : List ℕ → Option ℕ
u32_word = number_word 0 4294967295

-- MS and K
abbrev pub from_one_word : List ℕ → Option ℕ
from_one_word = number_word 1 4294967295

-- N of `settle`
abbrev pub count_word : List ℕ → Option ℕ
count_word = number_word 1 65535

-- a line of the GPIO device
abbrev pub pin_word : List ℕ → Option ℕ
pin_word = number_word 0 7

-- the level of a GPIO line
abbrev pub level_word : List ℕ → Option ℕ
level_word = number_word 0 1

-- the bytes that hex digits spell, if they do
abbrev pub decoded_bytes : Result (List ℕ) FromHexError → Option (List ℕ)
decoded_bytes (Ok bytes) = Some bytes
decoded_bytes (Err fault) = None

-- the bytes of an even number of hex digits, at least two, in either case
abbrev pub hex_digits : List ℕ → Option (List ℕ)
hex_digits w = if nat_lt 0 (length w) then decoded_bytes (decode_of w) else None

-- HEX: an even number of hex digits, at least two, in either case; or `-` for no bytes
abbrev pub hex_word : List ℕ → Option (List ℕ)
hex_word w = if bytes_eq w (codes "-") then Some [] else hex_digits w

-- one byte below 80
abbrev pub low_byte : List ℕ → Option ℕ
low_byte bytes =
    then_some (length bytes == 1 && nat_lt (slice_index bytes 0) 128) (slice_index bytes 0)

-- TYPE and AA: two hex digits, 00 to 7f
abbrev pub type_word : List ℕ → Option ℕ
type_word w = option_and_then low_byte (hex_word w)

-- the kinds of module that a script can plug by name
abbrev pub kind_word : List ℕ → Option Kind
kind_word w =
    if bytes_eq w (codes "gpio") then Some kind.Gpio
    else if bytes_eq w (codes "i2c") then Some kind.I2c
    else if bytes_eq w (codes "spi") then Some kind.Spi
    else if bytes_eq w (codes "uart") then Some kind.Uart
    else if bytes_eq w (codes "bridge") then Some kind.Bridge
    else if bytes_eq w (codes "loopback") then Some kind.Loopback
    else if bytes_eq w (codes "firmware") then Some kind.Firmware
    else None

-- TAG
abbrev pub tag_word : List ℕ → Option (List ℕ)
tag_word w = then_some (is_tag w) w
