-- What a feeder has handed out, over one piece more.
use Rattle.std.proofs.Common.{◌≡◌, ℕ, ◌+◌, List, [], ◌∷◌, ◌++◌, take, drop, Result, Err, Option}
use Rattle.std.proofs.Common.{Some, None, inr, refl, sym, ap, subst, ◌∙◌, append_assoc}
use Rattle.std.proofs.lemmas.List.{append-nil, drop-drop, map-append}
use Rattle.gb_base.specs.declared.reasons.WireFault.{WireFault}
use Rattle.gb_base.specs.declared.reasons.WireFault.TheVariants as wire
use Rattle.gb_formats.specs.Message.{Message}
use Rattle.gb_formats.specs.Wire.{Spells, IsRest, IsStream, decode_answer}
use Rattle.gb_wire.specs.MessageOf.{owned_message_of, messages_of}
use Rattle.gb_wire.specs.Streams.{BeginsWith, HandedOut, Held, Part, Stopped, held, lasting}
use Rattle.gb_wire.specs.declared.owned.OwnedMessage.{OwnedMessage}
use Rattle.gb_wire.proofs.StreamDivisions.{stream-cons, stream-join, stream-strip, fault-rest}
use Rattle.gb_wire.proofs.StreamDivisions.{short-is_short, below-begins, result-begins}
use Rattle.gb_wire.proofs.StreamDivisions.{begins-faults, begins-impossible, begins-append}

-- Where the stream goes on behind some messages, and a message stands there, it goes on behind it.
pub stream-more : (bytes here : List ℕ) (used n : ℕ) (m : Message) (old new : List OwnedMessage)
    (owned : OwnedMessage)
    → ((ms : List Message) (rest : List ℕ)
    → IsStream (drop used bytes) ms rest → IsStream bytes (messages_of old ++ ms) rest)
    → here ≡ drop used bytes
    → Spells (take n here) m
    → owned_message_of owned ≡ m
    → new ≡ old ++ owned ∷ []
    → (ms : List Message) (rest : List ℕ)
    → IsStream (drop (used + n) bytes) ms rest → IsStream bytes (messages_of new ++ ms) rest
stream-more bytes here used n m old new owned so_far at s same pushed ms rest h =
    subst (λ (out : List Message). IsStream bytes out rest) (sym listed) (so_far (m ∷ ms) rest step)
  where
    step : IsStream (drop used bytes) (m ∷ ms) rest
    step =
        stream-cons (drop used bytes) n m ms rest
        (subst (λ (xs : List ℕ). Spells (take n xs) m) at s)
        (subst (λ (xs : List ℕ). IsStream xs ms rest) (sym (drop-drop n used bytes)) h)

    listed : messages_of new ++ ms ≡ messages_of old ++ m ∷ ms
    listed =
        ap (λ (out : List OwnedMessage). messages_of out ++ ms) pushed
        ∙ (ap (λ (out : List Message). out ++ ms)
        (map-append owned_message_of old (owned ∷ [])
        ∙ ap (λ (x : Message). messages_of old ++ x ∷ []) same)
        ∙ append_assoc (messages_of old) (m ∷ []) ms)

stops : (fault : WireFault) (bytes left : List ℕ) (ms : List Message)
    → decode_answer left ≡ Err fault → IsStream bytes ms left
    → HandedOut bytes ms (held (lasting fault) left)
stops (wire.Short need) bytes left ms e h = (h, short-is_short left need e)
stops (wire.SizeBelowEight size) bytes left ms e h = (left, h, below-begins left size e)
stops (wire.RequestResult result) bytes left ms e h = (left, h, result-begins left result e)

-- Where the stream goes on behind some messages, and decoding finds a fault there, it stops.
pub stream-stops : (fault : WireFault) (bytes : List ℕ) (used : ℕ) (out : List OwnedMessage)
    (lasts : Option WireFault)
    → ((ms : List Message) (rest : List ℕ)
    → IsStream (drop used bytes) ms rest → IsStream bytes (messages_of out ++ ms) rest)
    → decode_answer (drop used bytes) ≡ Err fault
    → lasts ≡ lasting fault
    → HandedOut bytes (messages_of out) (held lasts (drop used bytes))
stream-stops fault bytes used out lasts so_far e l =
    let left = drop used bytes in
    let whole : IsStream bytes (messages_of out) left =
    subst (λ (ms : List Message). IsStream bytes ms left) (append-nil (messages_of out))
    (so_far [] left (refl, fault-rest fault left e)) in
    subst (λ (o : Option WireFault). HandedOut bytes (messages_of out) (held o left)) (sym l)
    (stops fault bytes left (messages_of out) e whole)

-- ---- a call

-- what is held where there is a fault, and where there is none
pub held-some : (now : Held) (o : Option WireFault) (left : List ℕ) (fault : WireFault)
    → held o left ≡ now → o ≡ Some fault → now ≡ Stopped fault
held-some now o left fault v e = sym v ∙ ap (λ (x : Option WireFault). held x left) e

pub held-none : (now : Held) (o : Option WireFault) (left here : List ℕ)
    → held o left ≡ now → o ≡ None → here ≡ left → now ≡ Part here
held-none now o left here v e same =
    sym v ∙ (ap (λ (x : Option WireFault). held x left) e ∙ ap Part (sym same))

-- behind what was handed out stands what is left with the piece
goes_on : (came left piece : List ℕ) (out : List Message)
    → IsStream came out left → IsRest (left ++ piece) → IsStream (came ++ piece) out (left ++ piece)
goes_on came left piece out h r =
    subst (λ (ms : List Message). IsStream (came ++ piece) ms (left ++ piece)) (append-nil out)
    (stream-join out [] came left piece (left ++ piece) h (refl, r))

-- bytes begin with one fault
pub begins-same : (fault other : WireFault) (bytes : List ℕ)
    → BeginsWith fault bytes → BeginsWith other bytes → fault ≡ other
begins-same fault other bytes b d =
    let both : ◌≡◌ {A = Result (Message × ℕ) WireFault} (Err fault) (Err other) =
    sym (begins-faults fault bytes b) ∙ begins-faults other bytes d in
    cc

-- bytes that begin with a fault are what can be left
begins-rest : (fault : WireFault) (bytes : List ℕ) → BeginsWith fault bytes → IsRest bytes
begins-rest fault bytes b = inr (inr (begins-impossible fault bytes b))

-- A stream that has stopped stays so.
pub stays_stopped : (came piece : List ℕ) (out : List Message) (fault : WireFault)
    → HandedOut came out (Stopped fault) → HandedOut (came ++ piece) out (Stopped fault)
stays_stopped came piece out fault h =
    let begins = begins-append fault h.0 piece h.2 in
    (h.0 ++ piece, goes_on came h.0 piece out h.1 (begins-rest fault (h.0 ++ piece) begins), begins)

-- The fault at which it stopped is the one that is due.
pub stopped-due : (came piece rest : List ℕ) (out : List Message) (fault other : WireFault)
    → HandedOut came out (Stopped fault) → IsStream (came ++ piece) out rest → BeginsWith other rest
    → fault ≡ other
stopped-due came piece rest out fault other h s b =
    begins-same fault other rest
    (subst (BeginsWith fault) (stream-strip out came h.0 piece rest h.1 s)
    (begins-append fault h.0 piece h.2)) b

-- It stops where what is left begins with a fault.
pub stops-first : (came left piece : List ℕ) (out : List Message) (fault : WireFault)
    → HandedOut came out (Part left) → BeginsWith fault (left ++ piece)
    → HandedOut (came ++ piece) out (Stopped fault)
stops-first came left piece out fault h b =
    (left ++ piece, goes_on came left piece out h.0 (begins-rest fault (left ++ piece) b), b)

-- What is due stands in front of what is left.
pub due-first : (came left piece rest : List ℕ) (out : List Message) (fault : WireFault)
    → HandedOut came out (Part left) → IsStream (came ++ piece) out rest → BeginsWith fault rest
    → BeginsWith fault (left ++ piece)
due-first came left piece rest out fault h s b =
    subst (BeginsWith fault) (sym (stream-strip out came left piece rest h.0 s)) b

-- The messages of what is left are the next.
pub hands_out : (came left piece : List ℕ) (out ms : List Message) (new : Held)
    → HandedOut came out (Part left) → HandedOut (left ++ piece) ms new
    → HandedOut (came ++ piece) (out ++ ms) new
hands_out came left piece out ms (Part rest) h d =
    (stream-join out ms came left piece rest h.0 d.0, d.1)
hands_out came left piece out ms (Stopped fault) h d =
    (d.0, stream-join out ms came left piece d.0 h.0 d.1, d.2)
