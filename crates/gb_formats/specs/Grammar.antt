-- The script grammar: what the words of a line ask for.
use Rattle.std.specs.Prelude.{ℕ, ◌+◌, ◌==◌, Bool, if◌then◌else◌, Some, None, Ok, Err, List}
use Rattle.std.specs.Prelude.{[], ◌∷◌, ◌++◌, slice_index, codes}
use Rattle.std.specs.Str.{bytes_eq}
use Rattle.gb_base.specs.declared.end.End.TheVariants as end
use Rattle.gb_base.specs.declared.event.Event.{Event}
use Rattle.gb_base.specs.declared.event.Event.TheVariants as event
use Rattle.gb_base.specs.declared.event.Kind.{Kind}
use Rattle.gb_base.specs.declared.reasons.LineReason.TheVariants as bad
use Rattle.gb_base.specs.declared.name.Name.{Name}
use Rattle.gb_formats.specs.BridgeForms.{gpio_form, i2c_form, loopback_form, spi_form, uart_form}
use Rattle.gb_formats.specs.Said.{Rest, next_word, by_word, next_cport, at_end}
use Rattle.gb_formats.specs.WordValues.{name_word, intf_word, cport_word, count_word, from_one_word}
use Rattle.gb_formats.specs.WordValues.{hex_word, type_word, kind_word, tag_word}
pub use Rattle.gb_formats.specs.Said.{Said}
pub use Rattle.gb_formats.specs.WordValues.{is_name_word, name_of}

-- a line whose first word begins with `#` is a comment
abbrev pub is_comment : List ℕ → Bool
is_comment w = slice_index w 0 == 35

-- a request without a stated timeout has 1,000 ms
abbrev pub default_timeout : ℕ
default_timeout = 1000

-- type PING of the SVC protocol
abbrev pub ping : ℕ
ping = 19

-- `send @x svc ping`
abbrev pub ping_event : ℕ → List ℕ → Event
ping_event who name = event.Send (name_of who name) end.Svc ping [] default_timeout

-- ---- interfaces and connections

-- a module with these kinds, or with one kind more
abbrev pub or_more_kinds : (List Kind → Rest → Said) → ℕ → List Kind → Rest → Said
or_more_kinds more i kinds (place, []) = Ok (Some (event.Insert i kinds))
or_more_kinds more i kinds (place, w ∷ ws) =
    next_word kind_word (place, w ∷ ws) (λ kind ws. more (kinds ++ kind ∷ []) ws)

-- behind `insert I` and four kinds
abbrev pub behind_four : ℕ → List Kind → Rest → Said
behind_four i kinds ws = at_end ws (event.Insert i kinds)

-- behind three
abbrev pub behind_three : ℕ → List Kind → Rest → Said
behind_three i kinds ws = or_more_kinds (behind_four i) i kinds ws

-- behind two
abbrev pub behind_two : ℕ → List Kind → Rest → Said
behind_two i kinds ws = or_more_kinds (behind_three i) i kinds ws

-- behind one
abbrev pub behind_one : ℕ → List Kind → Rest → Said
behind_one i kinds ws = or_more_kinds (behind_two i) i kinds ws

-- `insert I KIND ..`, with one kind for each of one to four interfaces
abbrev pub inserting_kinds : ℕ → Rest → Said
inserting_kinds i ws = next_word kind_word ws (λ kind ws. behind_one i (kind ∷ []) ws)

-- `insert I KIND ..`, or `insert I raw HEX`
abbrev pub inserting_what : ℕ → Rest → Said
inserting_what i ws = by_word ws (λ w rest.
    if bytes_eq w (codes "raw")
    then next_word hex_word rest (λ bytes ws. at_end ws (event.InsertRaw i bytes))
    else inserting_kinds i ws)

-- `insert I` and what is inserted
abbrev pub inserting : Rest → Said
inserting ws = next_word intf_word ws (λ i ws. inserting_what i ws)

-- a word and `I`
abbrev pub of_intf : (ℕ → Event) → Rest → Said
of_intf make ws = next_word intf_word ws (λ i ws. at_end ws (make i))

-- a word and `I C`
abbrev pub of_cport : (ℕ → ℕ → Event) → Rest → Said
of_cport make ws = next_cport ws (λ i c ws. at_end ws (make i c))

-- `disconnect I C`, or `disconnect I C drain`
abbrev pub disconnecting_how : ℕ → ℕ → Rest → Said
disconnecting_how i c (place, []) = Ok (Some (event.Disconnect i c))
disconnecting_how i c (place, w ∷ ws) =
    if bytes_eq w (codes "drain") then at_end (place + 1, ws) (event.Drain i c)
    else Err (bad.ExtraWord place)

-- `disconnect I C` and how
abbrev pub disconnecting : Rest → Said
disconnecting ws = next_cport ws disconnecting_how

-- ---- requests

-- a `send` may end with `timeout MS`
abbrev pub timed : Rest → (ℕ → Event) → Said
timed (place, []) make = Ok (Some (make default_timeout))
timed (place, w ∷ ws) make =
    if bytes_eq w (codes "timeout")
    then next_word from_one_word (place + 1, ws) (λ ms ws. at_end ws (make ms))
    else Err (bad.BadWord place)

-- `send @x svc ping`, or `send @x svc TYPE HEX`
abbrev pub sending_svc : Name → Rest → Said
sending_svc x ws = by_word ws (λ w rest.
    if bytes_eq w (codes "ping") then timed rest (λ ms. event.Send x end.Svc ping [] ms)
    else next_word type_word ws (λ kind ws. next_word hex_word ws (λ payload ws.
    timed ws (λ ms. event.Send x end.Svc kind payload ms))))

-- `send @x I C TYPE HEX`
abbrev pub sending_module : Name → Rest → Said
sending_module x ws =
    next_cport ws (λ i c ws. next_word type_word ws (λ kind ws. next_word hex_word ws (λ payload ws.
    timed ws (λ ms. event.Send x (end.Module i c) kind payload ms))))

-- the word behind the name decides to whom
abbrev pub sending_to : Name → Rest → Said
sending_to x ws = by_word ws (λ to rest.
    if bytes_eq to (codes "svc") then sending_svc x rest else sending_module x ws)

-- `send @x` and to whom
abbrev pub sending : ℕ → Rest → Said
sending who ws = next_word (name_word who) ws (λ x ws. sending_to x ws)

-- `cancel @x` and `drop @x`
abbrev pub of_name : ℕ → (Name → Event) → Rest → Said
of_name who make ws = next_word (name_word who) ws (λ x ws. at_end ws (make x))

-- `copy @x @y`
abbrev pub copying : ℕ → Rest → Said
copying who ws =
    next_word (name_word who) ws (λ x ws. next_word (name_word who) ws (λ y ws.
    at_end ws (event.Copy x y)))

-- ---- deliveries

-- `deliver svc`, `deliver ap A`, or `deliver I C`
abbrev pub delivering : Rest → Said
delivering ws = by_word ws (λ at rest.
    if bytes_eq at (codes "svc") then at_end rest (event.Deliver end.Svc)
    else if bytes_eq at (codes "ap")
    then next_word cport_word rest (λ a ws. at_end ws (event.Deliver (end.Ap a)))
    else of_cport (λ i c. event.Deliver (end.Module i c)) ws)

-- `settle N`
abbrev pub settling : Rest → Said
settling ws = next_word count_word ws (λ n ws. at_end ws (event.Settle n))

-- `answer I C K`
abbrev pub answering : Rest → Said
answering ws =
    next_cport ws (λ i c ws. next_word from_one_word ws (λ k ws.
    at_end ws (event.Answer i c k)))

-- `tick MS`
abbrev pub ticking : Rest → Said
ticking ws = next_word from_one_word ws (λ ms ws. at_end ws (event.Tick ms))

-- `inject I C HEX`
abbrev pub injecting : Rest → Said
injecting ws =
    next_cport ws (λ i c ws. next_word hex_word ws (λ bytes ws.
    at_end ws (event.Inject i c bytes)))

-- ---- firmware

-- `image TAG HEX`
abbrev pub giving_image : Rest → Said
giving_image ws =
    next_word tag_word ws (λ tag ws. next_word hex_word ws (λ bytes ws.
    at_end ws (event.Image tag bytes)))

-- `load I C TAG`
abbrev pub loading : Rest → Said
loading ws =
    next_cport ws (λ i c ws. next_word tag_word ws (λ tag ws. at_end ws (event.Load i c tag)))

-- ---- all forms

-- what a line asks for by its first word
abbrev pub by_first : ℕ → List ℕ → Rest → Said
by_first who w ws =
    if is_comment w then Ok None
    else if bytes_eq w (codes "boot") then at_end ws event.Boot
    else if bytes_eq w (codes "insert") then inserting ws
    else if bytes_eq w (codes "pull") then of_intf event.Pull ws
    else if bytes_eq w (codes "connect") then of_cport event.Connect ws
    else if bytes_eq w (codes "disconnect") then disconnecting ws
    else if bytes_eq w (codes "send") then sending who ws
    else if bytes_eq w (codes "deliver") then delivering ws
    else if bytes_eq w (codes "settle") then settling ws
    else if bytes_eq w (codes "hold") then of_cport event.Hold ws
    else if bytes_eq w (codes "answer") then answering ws
    else if bytes_eq w (codes "cancel") then of_name who event.Cancel ws
    else if bytes_eq w (codes "copy") then copying who ws
    else if bytes_eq w (codes "drop") then of_name who event.Forget ws
    else if bytes_eq w (codes "tick") then ticking ws
    else if bytes_eq w (codes "inject") then injecting ws
    else if bytes_eq w (codes "image") then giving_image ws
    else if bytes_eq w (codes "load") then loading ws
    else if bytes_eq w (codes "show") then at_end ws event.Show
    else if bytes_eq w (codes "gpio") then gpio_form who ws
    else if bytes_eq w (codes "i2c") then i2c_form who ws
    else if bytes_eq w (codes "spi") then spi_form who ws
    else if bytes_eq w (codes "uart") then uart_form who ws
    else if bytes_eq w (codes "loopback") then loopback_form who ws
    else Err (bad.BadWord 1)

-- what the words of a line ask for; `who` is the requester
abbrev pub asked_for : ℕ → List (List ℕ) → Said
asked_for who [] = Ok None
asked_for who (w ∷ ws) = by_first who w (2, ws)
