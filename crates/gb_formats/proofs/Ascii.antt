-- The texts of the report are ASCII.
use Rattle.std.proofs.Common.{◌≡◌, ℕ, zero, suc, ◌<◌, ◌/◌, ◌%◌, ◌==◌, Bool, true, false}
use Rattle.std.proofs.Common.{if◌then◌else◌, Option, Some, None, List, [], ◌∷◌, ◌++◌, refl, codes}
use Rattle.std.proofs.Common.{nat_lt, IsAscii, ◌∙◌, ◌&&◌, arith}
use Rattle.std.specs.Fmt.{decimal, digits, digits_onto, digit_glyph}
use Rattle.std.specs.List.{list_all}
use Rattle.std.proofs.lemmas.Bool.Decides.{nat_tests}
use Rattle.std.proofs.lemmas.Str.Ascii.{IsAscii-cons, IsAscii-nil}
use Rattle.hex.proofs.HexLemmas.{IsAscii-encode_with}
use Rattle.hex.specs.Hex.{encode_lower, lower_digits}
use Rattle.gb_base.specs.declared.bridge.Reading.{Reading}
use Rattle.gb_base.specs.declared.bridge.Reading.TheVariants as reading
use Rattle.gb_base.specs.declared.end.End.{End}
use Rattle.gb_base.specs.declared.end.End.TheVariants as end
use Rattle.gb_base.specs.declared.entry.ConnState.{ConnState}
use Rattle.gb_base.specs.declared.entry.ConnState.TheVariants as state
use Rattle.gb_base.specs.declared.entry.Entry.{Entry}
use Rattle.gb_base.specs.declared.entry.Entry.TheVariants as entry
use Rattle.gb_base.specs.declared.entry.IntfStage.{IntfStage}
use Rattle.gb_base.specs.declared.entry.IntfStage.TheVariants as stage
use Rattle.gb_base.specs.declared.reasons.LineReason.{LineReason}
use Rattle.gb_base.specs.declared.reasons.LineReason.TheVariants as bad
use Rattle.gb_base.specs.declared.reasons.RawFault.{RawFault}
use Rattle.gb_base.specs.declared.reasons.RawFault.TheVariants as raw
use Rattle.gb_base.specs.declared.reasons.Reason.{Reason}
use Rattle.gb_base.specs.declared.reasons.Reason.TheVariants as reason
use Rattle.gb_base.specs.declared.reasons.WireFault.{WireFault}
use Rattle.gb_base.specs.declared.reasons.WireFault.TheVariants as wire
use Rattle.gb_base.specs.declared.name.Name.{Name}
use Rattle.gb_base.specs.declared.outcome.Outcome.{Outcome}
use Rattle.gb_base.specs.declared.outcome.Outcome.TheVariants as outcome
use Rattle.gb_base.specs.declared.refusal.Refusal.{Refusal}
use Rattle.gb_base.specs.declared.refusal.Refusal.TheVariants as refusal
use Rattle.gb_formats.specs.Bytes.{byte_text, hex_text, joined}
use Rattle.gb_formats.specs.Reasons.{reason_text, refusal_text}
use Rattle.gb_formats.specs.ShowTexts.{connection_line, device_text, interface_line, name_line}
use Rattle.gb_formats.specs.ShowTexts.{now_line, queue_line, requester_text, standing_text}
use Rattle.gb_formats.specs.ShowTexts.{unclean_text}
use Rattle.gb_formats.specs.Texts.{IsWordOf, answer_text, bad_line, bad_text, download_text}
use Rattle.gb_formats.specs.Texts.{dropped_text, end_text, ended}
use Rattle.gb_formats.specs.Texts.{entry_line, entry_text, item_text, lost_text, outcome_text}
use Rattle.gb_formats.specs.Texts.{raw_fault_text, reading_text, refusal_line_text, size_text}
use Rattle.gb_formats.specs.Texts.{stage_text, state_text, wire_fault_text}

-- A text is seen to be ASCII by a test of each byte. What is written in a text computes away, so
-- that its other pieces are left.
abbrev pub is_ascii : List ℕ → Bool
is_ascii bs = list_all (λ b. nat_lt b 128) bs

pub seen : (bs : List ℕ) → is_ascii bs ≡ true → IsAscii bs
seen [] h = IsAscii-nil
seen (b ∷ bs) h = IsAscii-cons b bs (grind (arith, nat_tests)) (seen bs (grind (arith, nat_tests)))

tested : (bs : List ℕ) → IsAscii bs → is_ascii bs ≡ true
tested [] h = refl
tested (b ∷ bs) h =
    let first : b < 128 = h 0 in
    rw (tested bs (λ i. h (suc i))) (grind (arith, nat_tests))

-- two pieces
pub cat : (xs ys : List ℕ) → is_ascii (xs ++ ys) ≡ is_ascii xs && is_ascii ys
cat [] ys = refl
cat (b ∷ bs) ys = rw (cat bs ys) (grind (arith, nat_tests))

both : (xs ys : List ℕ) → is_ascii xs ≡ true → is_ascii ys ≡ true → is_ascii (xs ++ ys) ≡ true
both xs ys x y = cat xs ys ∙ rw (x, y) refl

either : (t : Bool) (xs ys : List ℕ) → is_ascii xs ≡ true → is_ascii ys ≡ true
    → is_ascii (if t then xs else ys) ≡ true
either true xs ys x y = x
either false xs ys x y = y

-- numbers

glyph : (n : ℕ) (acc : List ℕ) → is_ascii acc ≡ true
    → is_ascii (digit_glyph false (n % 10) ∷ acc) ≡ true
glyph n acc h = rw h (grind (arith, nat_tests))

onto : (k n : ℕ) (acc : List ℕ) → is_ascii acc ≡ true
    → is_ascii (digits_onto k 10 false n acc) ≡ true
onto zero n acc h = h
onto (suc k) n acc h =
    let more = glyph n acc h in
    either (n / 10 == 0) _ _ more (onto k (n / 10) _ more)

pub dec : (n : ℕ) → is_ascii (decimal n) ≡ true
unfolding digits
dec n = onto 64 n [] refl

spelled : (bs : List ℕ) → is_ascii (encode_lower bs) ≡ true
spelled bs = tested (encode_lower bs) (IsAscii-encode_with lower_digits bs (seen lower_digits refl))

pub byte : (b : ℕ) → is_ascii (byte_text b) ≡ true
byte b = spelled (b ∷ [])

bytes : (bs : List ℕ) → is_ascii (hex_text bs) ≡ true
bytes [] = refl
bytes (b ∷ bs) = spelled (b ∷ bs)

-- names

refused : (x : Refusal) → is_ascii (refusal_text x) ≡ true
refused refusal.NoInterface = refl
refused refusal.Occupied = refl
refused refusal.NotEnumerated = refl
refused refusal.NoConnection = refl
refused refusal.Closing = refl
refused refusal.Failed = refl
refused refusal.Unsupported = refl
refused refusal.NoLabel = refl
refused refusal.NoCport = refl
refused refusal.CportsSpent = refl
refused refusal.TooLarge = refl
refused refusal.NoName = refl
refused refusal.AlreadyEnded = refl
refused refusal.QueueEmpty = refl
refused refusal.NotHeld = refl
refused refusal.NoCredit = refl
refused refusal.Full = refl
refused refusal.OutOfRange = refl

pub because : (x : Reason) → is_ascii (reason_text x) ≡ true
because reason.ShortHeader = refl
because reason.Size = refl
because reason.Version = refl
because reason.ShortDescriptor = refl
because reason.DescriptorSize = refl
because reason.DescriptorType = refl
because reason.DescriptorShort = refl
because reason.NoInterface = refl
because reason.SecondInterface = refl
because reason.StringId = refl
because reason.StringTwice = refl
because reason.BundleTwice = refl
because reason.CportId = refl
because reason.CportTwice = refl
because reason.CportBundle = refl
because reason.ControlCport = refl
because reason.VendorString = refl
because reason.ProductString = refl

staged : (x : IntfStage) → is_ascii (stage_text x) ≡ true
staged stage.Enumerating = refl
staged stage.Enumerated = refl
staged stage.Failed = refl
staged stage.Removed = refl

stated : (x : ConnState) → is_ascii (state_text x) ≡ true
stated state.Opening = refl
stated state.Open = refl
stated state.Draining = refl
stated state.Closing = refl
stated state.Closed = refl
stated state.Failed = refl

-- parts of lines

place : (e : End) → is_ascii (end_text e) ≡ true
place (end.Ap a) = dec a
place end.Svc = refl
place (end.Module i c) = simp (cat, dec)

numbered : (item : Option ℕ) → is_ascii (item_text item) ≡ true
numbered (Some n) = dec n
numbered None = refl

sized : (hex : Bool) (size : ℕ) (bs : List ℕ) → is_ascii (size_text hex size bs) ≡ true
sized hex size bs =
    either hex (joined (decimal size ∷ codes " " ∷ hex_text bs ∷ [])) (decimal size)
    (simp (cat, dec, bytes)) (dec size)

lost_is : (lost : Bool) → is_ascii (lost_text lost) ≡ true
lost_is lost = either lost (codes " lost") [] refl refl

answer : (result : ℕ) (payload : List ℕ) → is_ascii (answer_text result payload) ≡ true
answer result payload = either (result == 0) (hex_text payload) (codes "-") (bytes payload) refl

how_ended : (how : Outcome) → is_ascii (outcome_text how) ≡ true
how_ended (outcome.Answered result payload) = simp (cat, byte, answer)
how_ended outcome.Cancelled = refl
how_ended outcome.Timeout = refl
how_ended outcome.Disconnected = refl
how_ended outcome.Sent = refl

read_as : (read : Reading) → is_ascii (reading_text read) ≡ true
read_as reading.Nothing = refl
read_as (reading.Number n) = dec n
read_as reading.Out = refl
read_as reading.In = refl
read_as reading.Bad = refl

dropped : (item : Option ℕ) (reply : Bool) → is_ascii (dropped_text item reply) ≡ true
dropped None reply = refl
dropped (Some n) reply =
    let asked = either reply (codes " reply") (codes " ask") refl refl in
    simp (cat, dec, asked)

wire_is : (fault : WireFault) → is_ascii (wire_fault_text fault) ≡ true
wire_is (wire.Short need) = dec need
wire_is (wire.SizeBelowEight size) = dec size
wire_is (wire.RequestResult result) = byte result

raw_is : (fault : RawFault) → is_ascii (raw_fault_text fault) ≡ true
raw_is (raw.Wire fault) = wire_is fault
raw_is (raw.Extra count) = dec count

bad_is : (why : LineReason) → is_ascii (bad_text why) ≡ true
bad_is bad.Long = refl
bad_is (bad.BadByte at) = dec at
bad_is (bad.BadWord at) = dec at
bad_is (bad.MissingWord at) = dec at
bad_is (bad.ExtraWord at) = dec at

-- lines

download : (size : Option ℕ) → is_ascii (download_text size) ≡ true
download (Some n) = dec n
download None = refl

line_is : (line : ℕ) (hex : Bool) (e : Entry) →
    ((text : List ℕ) → IsWordOf text e → is_ascii text ≡ true)
    → is_ascii (entry_line line hex e) ≡ true
line_is line hex entry.Done h = simp (cat, dec)
line_is line hex (entry.Refused why) h = simp (cat, dec, refused)
line_is line hex (entry.Asked n from to kind size bs lost) h =
    simp (cat, dec, place, byte, sized, lost_is)
line_is line hex (entry.Replied item from to result size bs) h =
    simp (cat, numbered, place, byte, sized)
line_is line hex (entry.Held item) h = numbered item
line_is line hex (entry.Ended n how read) h = simp (cat, dec, how_ended, read_as)
line_is line hex (entry.Late n) h = dec n
line_is line hex (entry.LateLabel label) h = dec label
line_is line hex (entry.UnknownLabel label) h = dec label
line_is line hex (entry.Dropped item reply) h = dropped item reply
line_is line hex (entry.Raw from to size bs) h = simp (cat, place, sized)
line_is line hex (entry.BadRaw fault) h = raw_is fault
line_is line hex (entry.Ignored kind) h = byte kind
line_is line hex (entry.Interface i stage) h = simp (cat, dec, staged)
line_is line hex (entry.Manifest i at reason) h = simp (cat, dec, because)
line_is line hex (entry.Connection n ap i c state) h =
    simp (cat, dec, stated)
line_is line hex (entry.Irq i c irq) h = simp (cat, dec)
line_is line hex (entry.Received i c bs) h = simp (cat, dec, bytes)
line_is line hex (entry.Serial i c control) h = simp (cat, dec)
line_is line hex (entry.Credits i c total) h = simp (cat, dec)
line_is line hex (entry.Download i c tag size) h =
    let spelled = h tag refl in simp (cat, dec, spelled, download)
line_is line hex (entry.Settled count) h = dec count
line_is line hex (entry.Shown text) h = h text refl

pub end_of_line : (line : List ℕ) → is_ascii line ≡ true → IsAscii (ended line)
end_of_line line h = seen (ended line) (both line (10 ∷ []) h refl)

-- what the report has for an entry; a text in it must be ASCII
pub IsAscii-entry_text : (line : ℕ) (hex : Bool) (e : Entry)
    → ((text : List ℕ) → IsWordOf text e → IsAscii text) → IsAscii (entry_text line hex e)
IsAscii-entry_text line hex e h =
    end_of_line (entry_line line hex e) (line_is line hex e (λ text is. tested text (h text is)))

-- what the report has for a bad line
pub IsAscii-refusal_line_text : (line : ℕ) (why : LineReason) → IsAscii (refusal_line_text line why)
IsAscii-refusal_line_text line why = end_of_line (bad_line line why) (simp (cat, dec, bad_is))

-- the lines of `show`

device : (id : Option ℕ) → is_ascii (device_text id) ≡ true
device None = refl
device (Some d) = dec d

unclean : (clean : Bool) → is_ascii (unclean_text clean) ≡ true
unclean clean = either clean [] (codes " unclean") refl refl

standing : (how : Option Outcome) → is_ascii (standing_text how) ≡ true
standing None = refl
standing (Some (outcome.Answered result payload)) = byte result
standing (Some outcome.Cancelled) = refl
standing (Some outcome.Timeout) = refl
standing (Some outcome.Disconnected) = refl
standing (Some outcome.Sent) = refl

requester : (who : ℕ) → is_ascii (requester_text who) ≡ true
requester who = either (who == 0) [] (joined (decimal who ∷ codes " " ∷ [])) refl (simp (cat, dec))

pub IsAscii-now_line : (now : ℕ) → IsAscii (now_line now)
IsAscii-now_line now = seen (now_line now) (dec now)

pub IsAscii-interface_line : (i : ℕ) (stage : IntfStage) (id : Option ℕ)
    → IsAscii (interface_line i stage id)
IsAscii-interface_line i stage id =
    seen (interface_line i stage id) (simp (cat, dec, staged, device))

pub IsAscii-connection_line : (k ap : ℕ) (peer : End) (protocol : ℕ) (state : ConnState)
    (clean : Bool) → IsAscii (connection_line k ap peer protocol state clean)
IsAscii-connection_line k ap peer protocol state clean =
    seen (connection_line k ap peer protocol state clean)
    (simp (cat, dec, place, byte, stated, unclean))

pub IsAscii-queue_line : (at : End) (count : ℕ) → IsAscii (queue_line at count)
IsAscii-queue_line at count = seen (queue_line at count) (simp (cat, dec, place))

-- what names a request is ASCII
pub IsAscii-name_line : (name : Name) (n : ℕ) (how : Option Outcome) → IsAscii name.word
    → IsAscii (name_line name n how)
IsAscii-name_line name n how h =
    let word = tested name.word h in
    seen (name_line name n how) (simp (cat, requester, word, dec, standing))
