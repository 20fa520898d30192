-- Whatever a line says is an event that the machine may be given.
use Rattle.std.proofs.Common.{◌≡◌, ◌≤◌, ℕ, ◌+◌, Bool, true, false, List, [], ◌∷◌, ◌++◌, refl, arith}
use Rattle.std.proofs.lemmas.Bool.Decides.{nat_tests}
use Rattle.std.specs.Prelude.{Option, Some, None, Ok, Err, ⊤, ◌&&◌, ◌==◌, nat_le, nat_lt}
use Rattle.std.specs.Prelude.{if◌then◌else◌, option_and_then, length, slice_index, codes}
use Rattle.std.specs.Str.{bytes_eq}
use Rattle.std.specs.Bool.{then_some}
use Rattle.gb_base.specs.declared.end.End.TheVariants as end
use Rattle.gb_base.specs.declared.event.Event.{Event}
use Rattle.gb_base.specs.declared.event.Event.TheVariants as event
use Rattle.gb_base.specs.declared.event.Kind.{Kind}
use Rattle.gb_base.specs.declared.name.Name.{Name}
use Rattle.gb_formats.specs.Grammar.{of_intf, of_cport, of_name, inserting_what, inserting, timed}
use Rattle.gb_formats.specs.Grammar.{sending_svc, sending_module, sending_to, sending, copying}
use Rattle.gb_formats.specs.Grammar.{delivering, settling, answering, ticking, injecting}
use Rattle.gb_formats.specs.Grammar.{disconnecting, disconnecting_how, or_more_kinds}
use Rattle.gb_formats.specs.Grammar.{behind_four, behind_one, behind_three, behind_two}
use Rattle.gb_formats.specs.Said.{Said, Rest, by_meaning, next_word, by_word, next_cport, at_end}
use Rattle.gb_formats.specs.ValidEvents.{IsValid, IsIntf, IsCport, IsName, IsFromOne}
use Rattle.gb_formats.specs.ValidEvents.{HasKinds}
use Rattle.gb_formats.specs.WordValues.{number_word, is_number, number_of, cport_word, name_word}
use Rattle.gb_formats.specs.WordValues.{is_name_word, name_of, type_word, hex_word, low_byte}
use Rattle.gb_formats.specs.WordValues.{kind_word}

-- a line says a valid event, or none, or is bad
abbrev pub SaysValid : Said → Type 0
SaysValid (Ok None) = ⊤
SaysValid (Ok (Some e)) = IsValid e
SaysValid (Err why) = ⊤

-- a fact of the value that there may be
abbrev pub OfSome : {A : Type 0} → (A → Type 0) → Option A → Type 0
OfSome P None = ⊤
OfSome P (Some v) = P v

-- a number word is in its range
pub number_word-in : (least greatest : ℕ) (w : List ℕ)
    → OfSome (λ n. (least ≤ n) × (n ≤ greatest)) (number_word least greatest w)
number_word-in least greatest w = ranged (is_number w) (number_of w)
  where
    ranged : (number : Bool) (n : ℕ)
        → OfSome (λ n. (least ≤ n) × (n ≤ greatest))
        (then_some (number && nat_le least n && nat_le n greatest) n)
    ranged number n = tested (number && nat_le least n && nat_le n greatest)
        (λ h. (grind (arith, nat_tests), grind (arith, nat_tests)))
      where
        tested : (b : Bool) → (b ≡ true → (least ≤ n) × (n ≤ greatest))
            → OfSome (λ n. (least ≤ n) × (n ≤ greatest)) (then_some b n)
        tested true h = h refl
        tested false h = tt

pub at_end-valid : (ws : Rest) (e : Event) → IsValid e → SaysValid (at_end ws e)
at_end-valid (place, []) e h = h
at_end-valid (place, w ∷ ws) e h = tt

pub by_meaning-valid : {A : Type 0} (P : A → Type 0) (place : ℕ) (meaning : Option A)
    (later : A → Said) → OfSome P meaning → ((v : A) → P v → SaysValid (later v))
    → SaysValid (by_meaning place meaning later)
by_meaning-valid P place None later p h = tt
by_meaning-valid P place (Some v) later p h = h v p

pub next_word-valid : {A : Type 0} (P : A → Type 0) (meaning : List ℕ → Option A) (ws : Rest)
    (later : A → Rest → Said)
    → ((w : List ℕ) → OfSome P (meaning w))
    → ((v : A) (ws : Rest) → P v → SaysValid (later v ws))
    → SaysValid (next_word meaning ws later)
next_word-valid P meaning (place, []) later p h = tt
next_word-valid P meaning (place, w ∷ ws) later p h =
    by_meaning-valid P place (meaning w) (λ v. later v (place + 1, ws)) (p w)
    (λ v. h v (place + 1, ws))

-- a number comes next
pub next_number-valid : (least greatest : ℕ) (ws : Rest) (later : ℕ → Rest → Said)
    → ((n : ℕ) (ws : Rest) → least ≤ n → n ≤ greatest → SaysValid (later n ws))
    → SaysValid (next_word (number_word least greatest) ws later)
next_number-valid least greatest ws later h =
    next_word-valid (λ n. (least ≤ n) × (n ≤ greatest)) (number_word least greatest) ws later
    (number_word-in least greatest) (λ n ws p. h n ws p.0 p.1)

-- a name comes next
pub name_word-in : (who : ℕ) (w : List ℕ) → OfSome IsName (name_word who w)
name_word-in who w = tested (is_name_word w) (λ h. grind (arith, nat_tests))
  where
    tested : (b : Bool) → (b ≡ true → IsName (name_of who w))
        → OfSome IsName (then_some b (name_of who w))
    tested true h = h refl
    tested false h = tt

pub next_name-valid : (who : ℕ) (ws : Rest) (later : Name → Rest → Said)
    → ((x : Name) (ws : Rest) → IsName x → SaysValid (later x ws))
    → SaysValid (next_word (name_word who) ws later)
next_name-valid who ws later h =
    next_word-valid IsName (name_word who) ws later (name_word-in who) h

-- a word of which nothing needs to be known comes next
pub next_any-valid : {A : Type 0} (meaning : List ℕ → Option A) (ws : Rest)
    (later : A → Rest → Said)
    → ((v : A) (ws : Rest) → SaysValid (later v ws)) → SaysValid (next_word meaning ws later)
next_any-valid {A = A} meaning ws later h =
    next_word-valid (λ v. ⊤) meaning ws later (λ w. any (meaning w)) (λ v ws p. h v ws)
  where
    any : (o : Option A) → OfSome (λ v. ⊤) o
    any None = tt
    any (Some v) = tt

-- a type comes next
pub type_word-in : (w : List ℕ) → OfSome (λ kind. kind ≤ 127) (type_word w)
type_word-in w = of_bytes (hex_word w)
  where
    tested : (b : Bool) (n : ℕ) → (b ≡ true → n ≤ 127)
        → OfSome (λ kind. kind ≤ 127) (then_some b n)
    tested true n h = h refl
    tested false n h = tt

    of_bytes : (o : Option (List ℕ))
        → OfSome (λ kind. kind ≤ 127) (option_and_then low_byte o)
    of_bytes None = tt
    of_bytes (Some bytes) =
        tested (length bytes == 1 && nat_lt (slice_index bytes 0) 128) (slice_index bytes 0)
        (λ h. grind (arith, nat_tests))

pub next_type-valid : (ws : Rest) (later : ℕ → Rest → Said)
    → ((kind : ℕ) (ws : Rest) → kind ≤ 127 → SaysValid (later kind ws))
    → SaysValid (next_word type_word ws later)
next_type-valid ws later h =
    next_word-valid (λ kind. kind ≤ 127) type_word ws later type_word-in h

-- a word decides how the line goes on
pub by_word-valid : (ws : Rest) (later : List ℕ → Rest → Said)
    → ((w : List ℕ) (rest : Rest) → SaysValid (later w rest)) → SaysValid (by_word ws later)
by_word-valid ws later h = next_any-valid Some ws later h

-- `I C`
pub next_cport-valid : (ws : Rest) (later : ℕ → ℕ → Rest → Said)
    → ((i c : ℕ) (ws : Rest) → IsIntf i → IsCport c → SaysValid (later i c ws))
    → SaysValid (next_cport ws later)
next_cport-valid ws later h =
    next_number-valid 2 31 ws (λ i ws. next_word cport_word ws (λ c ws. later i c ws))
    (λ i ws low high. next_number-valid 0 4095 ws (λ c ws. later i c ws)
    (λ c ws zero most. h i c ws (low, high) most))

-- one of two
pub if-valid : (b : Bool) (x y : Said) → SaysValid x → SaysValid y → SaysValid (if b then x else y)
if-valid true x y h k = h
if-valid false x y h k = k

-- ---- forms of the bus

pub of_intf-valid : (make : ℕ → Event) (ws : Rest)
    → ((i : ℕ) → IsIntf i → IsValid (make i))
    → SaysValid (of_intf make ws)
of_intf-valid make ws h =
    next_number-valid 2 31 ws (λ i ws. at_end ws (make i))
    (λ i ws low high. at_end-valid ws (make i) (h i (low, high)))

pub of_cport-valid : (make : ℕ → ℕ → Event) (ws : Rest)
    → ((i c : ℕ) → IsIntf i → IsCport c → IsValid (make i c)) → SaysValid (of_cport make ws)
of_cport-valid make ws h =
    next_cport-valid ws (λ i c ws. at_end ws (make i c))
    (λ i c ws p q. at_end-valid ws (make i c) (h i c p q))

pub disconnecting-valid : (ws : Rest) → SaysValid (disconnecting ws)
disconnecting-valid ws = next_cport-valid ws disconnecting_how by
  where
    by : (i c : ℕ) (ws : Rest) → IsIntf i → IsCport c → SaysValid (disconnecting_how i c ws)
    by i c (place, []) p q = (p, q)
    by i c (place, w ∷ ws) p q =
        if-valid (bytes_eq w (codes "drain")) _ _
        (at_end-valid (place + 1, ws) (event.Drain i c) (p, q)) tt

pub of_name-valid : (who : ℕ) (make : Name → Event) (ws : Rest)
    → ((x : Name) → IsName x → IsValid (make x)) → SaysValid (of_name who make ws)
of_name-valid who make ws h =
    next_name-valid who ws (λ x ws. at_end ws (make x))
    (λ x ws p. at_end-valid ws (make x) (h x p))

-- kinds, or one more
or_more_kinds-valid : (more : List Kind → Rest → Said) (i : ℕ) (kinds : List Kind) (ws : Rest)
    → IsIntf i → HasKinds kinds
    → ((kind : Kind) (rest : Rest) → SaysValid (more (kinds ++ kind ∷ []) rest))
    → SaysValid (or_more_kinds more i kinds ws)
or_more_kinds-valid more i kinds (place, []) p few h = (p, few)
or_more_kinds-valid more i kinds (place, w ∷ ws) p few h =
    next_any-valid kind_word (place, w ∷ ws) (λ kind ws. more (kinds ++ kind ∷ []) ws) h

behind_four-valid : (i : ℕ) (a b c d : Kind) (ws : Rest) → IsIntf i
    → SaysValid (behind_four i (a ∷ b ∷ c ∷ d ∷ []) ws)
behind_four-valid i a b c d ws p =
    at_end-valid ws (event.Insert i (a ∷ b ∷ c ∷ d ∷ []))
    (p, (omega arith, omega arith))

behind_three-valid : (i : ℕ) (a b c : Kind) (ws : Rest) → IsIntf i
    → SaysValid (behind_three i (a ∷ b ∷ c ∷ []) ws)
behind_three-valid i a b c ws p =
    or_more_kinds-valid (behind_four i) i (a ∷ b ∷ c ∷ []) ws p (omega arith, omega arith)
    (λ d rest. behind_four-valid i a b c d rest p)

behind_two-valid : (i : ℕ) (a b : Kind) (ws : Rest) → IsIntf i
    → SaysValid (behind_two i (a ∷ b ∷ []) ws)
behind_two-valid i a b ws p =
    or_more_kinds-valid (behind_three i) i (a ∷ b ∷ []) ws p (omega arith, omega arith)
    (λ c rest. behind_three-valid i a b c rest p)

behind_one-valid : (i : ℕ) (a : Kind) (ws : Rest) → IsIntf i → SaysValid (behind_one i (a ∷ []) ws)
behind_one-valid i a ws p =
    or_more_kinds-valid (behind_two i) i (a ∷ []) ws p (omega arith, omega arith)
    (λ b rest. behind_two-valid i a b rest p)

pub inserting_what-valid : (i : ℕ) (ws : Rest) → IsIntf i → SaysValid (inserting_what i ws)
inserting_what-valid i ws p = by_word-valid ws _ (λ w rest.
    if-valid (bytes_eq w (codes "raw")) _ _
    (next_any-valid hex_word rest (λ bytes ws. at_end ws (event.InsertRaw i bytes))
    (λ bytes ws. at_end-valid ws (event.InsertRaw i bytes) p))
    (next_any-valid kind_word ws (λ kind ws. behind_one i (kind ∷ []) ws)
    (λ kind ws. behind_one-valid i kind ws p)))

pub inserting-valid : (ws : Rest) → SaysValid (inserting ws)
inserting-valid ws =
    next_number-valid 2 31 ws (λ i ws. inserting_what i ws)
    (λ i ws low high. inserting_what-valid i ws (low, high))

pub timed-valid : (ws : Rest) (make : ℕ → Event)
    → ((ms : ℕ) → IsFromOne ms → IsValid (make ms)) → SaysValid (timed ws make)
timed-valid (place, []) make h = h 1000 (omega arith, omega arith)
timed-valid (place, w ∷ ws) make h =
    if-valid (bytes_eq w (codes "timeout")) _ _
    (next_number-valid 1 4294967295 (place + 1, ws) (λ ms ws. at_end ws (make ms))
    (λ ms ws low high. at_end-valid ws (make ms) (h ms (low, high))))
    tt

pub sending_svc-valid : (x : Name) (ws : Rest) → IsName x → SaysValid (sending_svc x ws)
sending_svc-valid x ws p = by_word-valid ws _ (λ w rest.
    if-valid (bytes_eq w (codes "ping")) _ _
    (timed-valid rest (λ ms. event.Send x end.Svc 19 [] ms) (λ ms q. (p, tt, omega arith, q)))
    (next_type-valid ws _ (λ kind ws r.
    next_any-valid hex_word ws _ (λ payload ws.
    timed-valid ws (λ ms. event.Send x end.Svc kind payload ms)
    (λ ms q. (p, tt, r, q))))))

pub sending_module-valid : (x : Name) (ws : Rest) → IsName x
    → SaysValid (sending_module x ws)
sending_module-valid x ws p =
    next_cport-valid ws _ (λ i c ws a b.
    next_type-valid ws _ (λ kind ws r.
    next_any-valid hex_word ws _ (λ payload ws.
    timed-valid ws (λ ms. event.Send x (end.Module i c) kind payload ms)
    (λ ms q. (p, (a, b), r, q)))))

pub sending_to-valid : (x : Name) (ws : Rest) → IsName x → SaysValid (sending_to x ws)
sending_to-valid x ws p = by_word-valid ws _ (λ to rest.
    if-valid (bytes_eq to (codes "svc")) _ _ (sending_svc-valid x rest p)
    (sending_module-valid x ws p))

pub sending-valid : (who : ℕ) (ws : Rest) → SaysValid (sending who ws)
sending-valid who ws = next_name-valid who ws (λ x ws. sending_to x ws) sending_to-valid

pub copying-valid : (who : ℕ) (ws : Rest) → SaysValid (copying who ws)
copying-valid who ws =
    next_name-valid who ws _ (λ x ws p. next_name-valid who ws _ (λ y ws q.
    at_end-valid ws (event.Copy x y) (p, q)))

pub delivering-valid : (ws : Rest) → SaysValid (delivering ws)
delivering-valid ws = by_word-valid ws _ (λ at rest.
    if-valid (bytes_eq at (codes "svc")) _ _ (at_end-valid rest (event.Deliver end.Svc) tt)
    (if-valid (bytes_eq at (codes "ap")) _ _
    (next_number-valid 0 4095 rest _ (λ a ws low high.
    at_end-valid ws (event.Deliver (end.Ap a)) high))
    (of_cport-valid (λ i c. event.Deliver (end.Module i c)) ws (λ i c p q. (p, q)))))

pub settling-valid : (ws : Rest) → SaysValid (settling ws)
settling-valid ws =
    next_number-valid 1 65535 ws _ (λ n ws low high.
    at_end-valid ws (event.Settle n) (low, high))

pub answering-valid : (ws : Rest) → SaysValid (answering ws)
answering-valid ws =
    next_cport-valid ws _ (λ i c ws p q. next_number-valid 1 4294967295 ws _ (λ k ws low high.
    at_end-valid ws (event.Answer i c k) (p, q, (low, high))))

pub ticking-valid : (ws : Rest) → SaysValid (ticking ws)
ticking-valid ws =
    next_number-valid 1 4294967295 ws _ (λ ms ws low high.
    at_end-valid ws (event.Tick ms) (low, high))

pub injecting-valid : (ws : Rest) → SaysValid (injecting ws)
injecting-valid ws =
    next_cport-valid ws _ (λ i c ws p q. next_any-valid hex_word ws _ (λ bytes ws.
    at_end-valid ws (event.Inject i c bytes) (p, q)))
