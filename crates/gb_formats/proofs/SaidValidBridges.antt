-- Whatever a bridge line says is an event that the machine may be given.
use Rattle.std.proofs.Common.{◌≤◌, ℕ, ◌+◌, Bool, true, false, List, [], ◌∷◌, ◌++◌, refl, inl, inr}
use Rattle.std.specs.Prelude.{Option, Some, None, ◌&&◌, ◌==◌, if◌then◌else◌, option_map}
use Rattle.std.specs.Prelude.{option_and_then, take, drop, slice_index, codes}
use Rattle.std.specs.Str.{bytes_eq}
use Rattle.gb_base.specs.declared.bridge.BridgeAsk.{BridgeAsk}
use Rattle.gb_base.specs.declared.bridge.BridgeAsk.TheVariants as ask
use Rattle.gb_base.specs.declared.bridge.I2cOp.{I2cOp}
use Rattle.gb_base.specs.declared.bridge.SpiOp.{SpiOp}
use Rattle.gb_base.specs.declared.bridge.SpiOp.TheVariants as spi
use Rattle.gb_base.specs.declared.event.Event.{Event}
use Rattle.gb_base.specs.declared.event.Event.TheVariants as event
use Rattle.gb_formats.specs.BridgeForms.{bridging, begins_with_at, gpio_line, gpio_value}
use Rattle.gb_formats.specs.BridgeForms.{gpio_asking, literal_word, gpio_level}
use Rattle.gb_formats.specs.BridgeForms.{gpio_form, i2c_get, i2c_put, i2c_read_word, i2c_write_word}
use Rattle.gb_formats.specs.BridgeForms.{i2c_op_word, i2c_asking, i2c_form, spi_op_word, spi_asking}
use Rattle.gb_formats.specs.BridgeForms.{spi_form, uart_coding, uart_byte, uart_asking}
use Rattle.gb_formats.specs.BridgeForms.{uart_state, uart_form, loopback_bytes, loopback_asking}
use Rattle.gb_formats.specs.BridgeForms.{loopback_form}
use Rattle.gb_formats.specs.Said.{Said, Rest, each_word}
use Rattle.gb_formats.specs.ValidEvents.{IsValid, HasForm, IsI2cOp, AreI2cOps, IsSpiOp, AreSpiOps}
use Rattle.gb_formats.specs.WordValues.{number_word, u16_word, hex_word, type_word}
use Rattle.gb_formats.proofs.SaidValid.{SaysValid, OfSome, number_word-in, type_word-in}
use Rattle.gb_formats.proofs.SaidValid.{at_end-valid, by_meaning-valid, next_number-valid}
use Rattle.gb_formats.proofs.SaidValid.{next_name-valid, next_any-valid, by_word-valid}
use Rattle.gb_formats.proofs.SaidValid.{next_cport-valid, if-valid}

-- what is made of an ask is valid where the ask has a form
abbrev pub MakesValid : (BridgeAsk → Event) → Type 0
MakesValid make = (what : BridgeAsk) → HasForm what → IsValid (make what)

pub bridging-valid : (who : ℕ) (ws : Rest)
    (asking : (BridgeAsk → Event) → Rest → Said)
    → ((make : BridgeAsk → Event) (ws : Rest) → MakesValid make
    → SaysValid (asking make ws))
    → SaysValid (bridging who ws asking)
bridging-valid who ws asking h =
    next_name-valid who ws _ (λ x ws p. next_cport-valid ws _ (λ i c ws q r.
    h (λ what. event.Bridge x i c what) ws (λ what form. (p, q, r, form))))

-- ---- gpio

pub gpio_line-valid : (make : BridgeAsk → Event) (kind : ℕ) (ws : Rest)
    → ((l : ℕ) → l ≤ 255 → IsValid (make (ask.Gpio kind l 0))) → SaysValid (gpio_line make kind ws)
gpio_line-valid make kind ws h =
    next_number-valid 0 255 ws _ (λ l ws low high.
    at_end-valid ws (make (ask.Gpio kind l 0)) (h l high))

pub gpio_value-valid : (make : BridgeAsk → Event) (kind most : ℕ) (ws : Rest)
    → ((l v : ℕ) → l ≤ 255 → v ≤ most → IsValid (make (ask.Gpio kind l v)))
    → SaysValid (gpio_value make kind (number_word 0 most) ws)
gpio_value-valid make kind most ws h =
    next_number-valid 0 255 ws _ (λ l ws low high. next_number-valid 0 most ws _
    (λ v ws none top. at_end-valid ws (make (ask.Gpio kind l v)) (h l v high top)))

pub gpio_asking-valid : (make : BridgeAsk → Event) (ws : Rest) → MakesValid make
    → SaysValid (gpio_asking make ws)
gpio_asking-valid make ws m = by_word-valid ws _ (λ w rest.
    if-valid (bytes_eq w (codes "count")) _ _
    (at_end-valid rest (make (ask.Gpio 0x02 0 0))
    (m (ask.Gpio 0x02 0 0) (inl (refl, refl, refl))))
    (if-valid (bytes_eq w (codes "activate")) _ _
    (gpio_line-valid make 0x03 rest (λ l h. m (ask.Gpio 0x03 l 0) (inr (inl (inl refl, h, refl)))))
    (if-valid (bytes_eq w (codes "deactivate")) _ _
    (gpio_line-valid make 0x04 rest (λ l h.
    m (ask.Gpio 0x04 l 0) (inr (inl (inr (inl refl), h, refl)))))
    (if-valid (bytes_eq w (codes "direction")) _ _
    (gpio_line-valid make 0x05 rest (λ l h.
    m (ask.Gpio 0x05 l 0) (inr (inl (inr (inr (inl refl)), h, refl)))))
    (if-valid (bytes_eq w (codes "in")) _ _
    (gpio_line-valid make 0x06 rest (λ l h.
    m (ask.Gpio 0x06 l 0) (inr (inl (inr (inr (inr (inl refl))), h, refl)))))
    (if-valid (bytes_eq w (codes "out")) _ _
    (gpio_value-valid make 0x07 255 rest (λ l v h k.
    m (ask.Gpio 0x07 l v) (inr (inr (inl (inl refl, h, k))))))
    (if-valid (bytes_eq w (codes "get")) _ _
    (gpio_line-valid make 0x08 rest (λ l h.
    m (ask.Gpio 0x08 l 0) (inr (inl (inr (inr (inr (inr (inl refl)))), h, refl)))))
    (if-valid (bytes_eq w (codes "set")) _ _
    (gpio_value-valid make 0x09 255 rest (λ l v h k.
    m (ask.Gpio 0x09 l v) (inr (inr (inl (inr (inl refl), h, k))))))
    (if-valid (bytes_eq w (codes "debounce")) _ _
    (gpio_value-valid make 0x0a 65535 rest (λ l v h k.
    m (ask.Gpio 0x0a l v) (inr (inr (inr (refl, h, k))))))
    (if-valid (bytes_eq w (codes "irq")) _ _
    (gpio_value-valid make 0x0b 255 rest (λ l v h k.
    m (ask.Gpio 0x0b l v) (inr (inr (inl (inr (inr refl), h, k))))))
    (if-valid (bytes_eq w (codes "mask")) _ _
    (gpio_line-valid make 0x0c rest (λ l h.
    m (ask.Gpio 0x0c l 0) (inr (inl (inr (inr (inr (inr (inr (inl refl))))), h, refl)))))
    (if-valid (bytes_eq w (codes "unmask")) _ _
    (gpio_line-valid make 0x0d rest (λ l h.
    m (ask.Gpio 0x0d l 0) (inr (inl (inr (inr (inr (inr (inr (inr refl))))), h, refl)))))
    tt))))))))))))

pub gpio_level-valid : (ws : Rest) → SaysValid (gpio_level ws)
gpio_level-valid ws =
    next_cport-valid ws _ (λ i c ws p q. next_any-valid (literal_word (codes "level")) ws _
    (λ w ws. next_number-valid 0 7 ws _ (λ l ws none line. next_number-valid 0 1 ws _
    (λ v ws low high. at_end-valid ws (event.Level i c l v) (p, q, line, high)))))

pub gpio_form-valid : (who : ℕ) (ws : Rest) → SaysValid (gpio_form who ws)
gpio_form-valid who ws = by_word-valid ws _ (λ w rest.
    if-valid (begins_with_at w) _ _ (bridging-valid who ws gpio_asking gpio_asking-valid)
    (gpio_level-valid ws))

-- ---- words of transfers

-- each word of a transfer has a fact, and so have all
pub each_word-valid : {A : Type 0} (P : A → Type 0) (Q : List A → Type 0)
    (meaning : List ℕ → Option A) (make : List A → Event) (front : List A) (ws : Rest)
    → ((w : List ℕ) → OfSome P (meaning w))
    → ((front : List A) (v : A) → Q front → P v → Q (front ++ v ∷ []))
    → ((all : List A) → Q all → IsValid (make all)) → Q front
    → SaysValid (each_word meaning make front ws)
each_word-valid P Q meaning make front (place, []) means grows ends q = ends front q
each_word-valid P Q meaning make front (place, w ∷ ws) means grows ends q =
    by_meaning-valid P place (meaning w) _ (means w) (λ v p.
    each_word-valid P Q meaning make (front ++ v ∷ []) (place + 1, ws) means grows ends
    (grows front v q p))

-- one of two words
pub if-some : {A : Type 0} (P : A → Type 0) (b : Bool) (x y : Option A) → OfSome P x → OfSome P y
    → OfSome P (if b then x else y)
if-some P true x y h k = h
if-some P false x y h k = k

-- ---- i2c

i2c_read_word-in : (w : List ℕ) → OfSome IsI2cOp (i2c_read_word w)
i2c_read_word-in w = at (type_word (take 2 (drop 2 w))) (type_word-in (take 2 (drop 2 w)))
  where
    of : (addr : ℕ) (len : Option ℕ) → addr ≤ 127
        → OfSome (λ n. (0 ≤ n) × (n ≤ 65535)) len → OfSome IsI2cOp (i2c_get addr len)
    of addr None a h = tt
    of addr (Some n) a h = (a, h.1)

    at : (addr : Option ℕ) → OfSome (λ kind. kind ≤ 127) addr
        → OfSome IsI2cOp (option_and_then (λ addr. i2c_get addr (u16_word (drop 5 w))) addr)
    at None h = tt
    at (Some addr) h = of addr (u16_word (drop 5 w)) h (number_word-in 0 65535 (drop 5 w))

i2c_write_word-in : (w : List ℕ) → OfSome IsI2cOp (i2c_write_word w)
i2c_write_word-in w = at (type_word (take 2 (drop 2 w))) (type_word-in (take 2 (drop 2 w)))
  where
    of : (addr : ℕ) (bytes : Option (List ℕ)) → addr ≤ 127 → OfSome IsI2cOp (i2c_put addr bytes)
    of addr None a = tt
    of addr (Some bytes) a = a

    at : (addr : Option ℕ) → OfSome (λ kind. kind ≤ 127) addr
        → OfSome IsI2cOp (option_and_then (λ addr. i2c_put addr (hex_word (drop 5 w))) addr)
    at None h = tt
    at (Some addr) h = of addr (hex_word (drop 5 w)) h

i2c_op_word-in : (w : List ℕ) → OfSome IsI2cOp (i2c_op_word w)
i2c_op_word-in w =
    if-some IsI2cOp (slice_index w 1 == 58 && slice_index w 4 == 58) _ _
    (if-some IsI2cOp (slice_index w 0 == 114) _ _ (i2c_read_word-in w)
    (if-some IsI2cOp (slice_index w 0 == 119) _ _ (i2c_write_word-in w) tt)) tt

i2c_ops-grow : (front : List I2cOp) (v : I2cOp) → AreI2cOps front → IsI2cOp v
    → AreI2cOps (front ++ v ∷ [])
i2c_ops-grow [] v q p = (p, tt)
i2c_ops-grow (op ∷ front) v q p = (q.0, i2c_ops-grow front v q.1 p)

pub i2c_asking-valid : (make : BridgeAsk → Event) (ws : Rest) → MakesValid make
    → SaysValid (i2c_asking make ws)
i2c_asking-valid make ws m = by_word-valid ws _ (λ w rest.
    if-valid (bytes_eq w (codes "functionality")) _ _
    (at_end-valid rest (make ask.I2cFunctionality) (m ask.I2cFunctionality tt))
    (if-valid (bytes_eq w (codes "transfer")) _ _
    (each_word-valid IsI2cOp AreI2cOps i2c_op_word (λ ops. make (ask.I2cTransfer ops)) [] rest
    i2c_op_word-in i2c_ops-grow (λ ops q. m (ask.I2cTransfer ops) q) tt)
    tt))

pub i2c_form-valid : (who : ℕ) (ws : Rest) → SaysValid (i2c_form who ws)
i2c_form-valid who ws = bridging-valid who ws i2c_asking i2c_asking-valid

-- ---- spi

spi_op_word-in : (w : List ℕ) → OfSome IsSpiOp (spi_op_word w)
spi_op_word-in w =
    if-some IsSpiOp (slice_index w 1 == 58) _ _
    (if-some IsSpiOp (slice_index w 0 == 114) _ _
    (get (u16_word (drop 2 w)) (number_word-in 0 65535 (drop 2 w)))
    (if-some IsSpiOp (slice_index w 0 == 119) _ _ (put (hex_word (drop 2 w)))
    (if-some IsSpiOp (slice_index w 0 == 120) _ _ (both (hex_word (drop 2 w))) tt)))
    tt
  where
    get : (len : Option ℕ) → OfSome (λ n. (0 ≤ n) × (n ≤ 65535)) len
        → OfSome IsSpiOp (option_map spi.Get len)
    get None h = tt
    get (Some n) h = h.1

    put : (bytes : Option (List ℕ)) → OfSome IsSpiOp (option_map spi.Put bytes)
    put None = tt
    put (Some bytes) = tt

    both : (bytes : Option (List ℕ)) → OfSome IsSpiOp (option_map spi.Both bytes)
    both None = tt
    both (Some bytes) = tt

spi_ops-grow : (front : List SpiOp) (v : SpiOp) → AreSpiOps front → IsSpiOp v
    → AreSpiOps (front ++ v ∷ [])
spi_ops-grow [] v q p = (p, tt)
spi_ops-grow (op ∷ front) v q p = (q.0, spi_ops-grow front v q.1 p)

pub spi_asking-valid : (make : BridgeAsk → Event) (ws : Rest) → MakesValid make
    → SaysValid (spi_asking make ws)
spi_asking-valid make ws m = by_word-valid ws _ (λ w rest.
    if-valid (bytes_eq w (codes "config")) _ _
    (at_end-valid rest (make ask.SpiConfig) (m ask.SpiConfig tt))
    (if-valid (bytes_eq w (codes "device")) _ _
    (next_number-valid 0 255 rest _ (λ s ws low high.
    at_end-valid ws (make (ask.SpiDevice s)) (m (ask.SpiDevice s) high)))
    (if-valid (bytes_eq w (codes "transfer")) _ _
    (next_number-valid 0 255 rest _ (λ s ws none select. next_number-valid 0 255 ws _
    (λ o ws low high. each_word-valid IsSpiOp AreSpiOps spi_op_word
    (λ ops. make (ask.SpiTransfer s o ops)) [] ws spi_op_word-in spi_ops-grow
    (λ ops q. m (ask.SpiTransfer s o ops) (select, high, q)) tt)))
    tt)))

pub spi_form-valid : (who : ℕ) (ws : Rest) → SaysValid (spi_form who ws)
spi_form-valid who ws = bridging-valid who ws spi_asking spi_asking-valid

-- ---- uart

pub uart_coding-valid : (make : BridgeAsk → Event) (ws : Rest) → MakesValid make
    → SaysValid (uart_coding make ws)
uart_coding-valid make ws m =
    next_number-valid 0 4294967295 ws _ (λ rate ws a0 a. next_number-valid 0 255 ws _
    (λ f ws b0 b. next_number-valid 0 255 ws _ (λ p ws c0 c. next_number-valid 0 255 ws _
    (λ d ws d0 e. next_number-valid 0 255 ws _ (λ w ws e0 g.
    at_end-valid ws (make (ask.UartCoding rate f p d w))
    (m (ask.UartCoding rate f p d w) (a, b, c, e, g)))))))

pub uart_byte-valid : (make : BridgeAsk → Event) (kind : ℕ) (ws : Rest)
    → ((v : ℕ) → v ≤ 255 → IsValid (make (ask.UartByte kind v)))
    → SaysValid (uart_byte make kind ws)
uart_byte-valid make kind ws h =
    next_number-valid 0 255 ws _ (λ v ws low high.
    at_end-valid ws (make (ask.UartByte kind v)) (h v high))

pub uart_asking-valid : (make : BridgeAsk → Event) (ws : Rest) → MakesValid make
    → SaysValid (uart_asking make ws)
uart_asking-valid make ws m = by_word-valid ws _ (λ w rest.
    if-valid (bytes_eq w (codes "send")) _ _
    (next_any-valid hex_word rest _ (λ bytes ws.
    at_end-valid ws (make (ask.UartSend bytes)) (m (ask.UartSend bytes) tt)))
    (if-valid (bytes_eq w (codes "coding")) _ _ (uart_coding-valid make rest m)
    (if-valid (bytes_eq w (codes "control")) _ _
    (uart_byte-valid make 0x05 rest (λ v h. m (ask.UartByte 0x05 v) (inl refl, h)))
    (if-valid (bytes_eq w (codes "break")) _ _
    (uart_byte-valid make 0x06 rest (λ v h. m (ask.UartByte 0x06 v) (inr (inl refl), h)))
    (if-valid (bytes_eq w (codes "flush")) _ _
    (uart_byte-valid make 0x09 rest (λ v h. m (ask.UartByte 0x09 v) (inr (inr refl), h)))
    tt)))))

pub uart_state-valid : (ws : Rest) → SaysValid (uart_state ws)
uart_state-valid ws =
    next_cport-valid ws _ (λ i c ws p q. next_any-valid (literal_word (codes "state")) ws _
    (λ w ws. next_number-valid 0 255 ws _ (λ v ws low high.
    at_end-valid ws (event.SerialState i c v) (p, q, high))))

pub uart_form-valid : (who : ℕ) (ws : Rest) → SaysValid (uart_form who ws)
uart_form-valid who ws = by_word-valid ws _ (λ w rest.
    if-valid (begins_with_at w) _ _ (bridging-valid who ws uart_asking uart_asking-valid)
    (uart_state-valid ws))

-- ---- loopback

pub loopback_bytes-valid : (make : BridgeAsk → Event) (kind : ℕ) (ws : Rest)
    → ((bytes : List ℕ) → IsValid (make (ask.LoopBytes kind bytes)))
    → SaysValid (loopback_bytes make kind ws)
loopback_bytes-valid make kind ws h =
    next_any-valid hex_word ws _ (λ bytes ws.
    at_end-valid ws (make (ask.LoopBytes kind bytes)) (h bytes))

pub loopback_asking-valid : (make : BridgeAsk → Event) (ws : Rest) → MakesValid make
    → SaysValid (loopback_asking make ws)
loopback_asking-valid make ws m = by_word-valid ws _ (λ w rest.
    if-valid (bytes_eq w (codes "ping")) _ _
    (at_end-valid rest (make ask.LoopPing) (m ask.LoopPing tt))
    (if-valid (bytes_eq w (codes "transfer")) _ _
    (loopback_bytes-valid make 0x03 rest (λ bytes. m (ask.LoopBytes 0x03 bytes) (inl refl)))
    (if-valid (bytes_eq w (codes "sink")) _ _
    (loopback_bytes-valid make 0x04 rest (λ bytes. m (ask.LoopBytes 0x04 bytes) (inr refl)))
    tt)))

pub loopback_form-valid : (who : ℕ) (ws : Rest) → SaysValid (loopback_form who ws)
loopback_form-valid who ws = bridging-valid who ws loopback_asking loopback_asking-valid
