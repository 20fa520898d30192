-- Whatever a line of a script says is an event that the machine may be given.
use Rattle.std.proofs.Common.{◌≡◌, ℕ, Bool, true, false, List, [], ◌∷◌, arith, refl, subst}
use Rattle.std.proofs.lemmas.Bool.Decides.{nat_tests}
use Rattle.std.specs.Prelude.{Option, Some, None, Ok, Err, if◌then◌else◌, nat_le, length}
use Rattle.gb_base.specs.declared.event.Event.{Event}
use Rattle.gb_base.specs.declared.reasons.LineReason.TheVariants as bad
use Rattle.gb_formats.specs.Grammar.{Said, by_first, asked_for}
use Rattle.gb_formats.specs.Said.{Rest}
use Rattle.gb_formats.specs.Script.{longest_line, bad_place, unless_bad, judged}
use Rattle.gb_formats.specs.ValidEvents.{IsValid}
use Rattle.gb_formats.specs.Words.{words}
use Rattle.gb_formats.proofs.SaidValid.{SaysValid, at_end-valid, if-valid, of_intf-valid}
use Rattle.gb_formats.proofs.SaidValid.{of_cport-valid, of_name-valid, inserting-valid}
use Rattle.gb_formats.proofs.SaidValid.{sending-valid, copying-valid, delivering-valid}
use Rattle.gb_formats.proofs.SaidValid.{settling-valid, answering-valid, ticking-valid}
use Rattle.gb_formats.proofs.SaidValid.{disconnecting-valid, injecting-valid}
use Rattle.gb_formats.proofs.SaidValidBridges.{gpio_form-valid, i2c_form-valid, spi_form-valid}
use Rattle.gb_formats.proofs.SaidValidBridges.{loopback_form-valid, uart_form-valid}
use Rattle.gb_formats.proofs.SaidValidImages.{AreShort, giving_image-valid, loading-valid}
use Rattle.gb_formats.proofs.SaidValidImages.{words_after-short}

-- what the forms of lines say is valid, whatever the first word is
ruleset forms = (
  if-valid,
  at_end-valid,
  of_intf-valid,
  of_cport-valid,
  of_name-valid,
  inserting-valid,
  disconnecting-valid,
  sending-valid,
  delivering-valid,
  settling-valid,
  answering-valid,
  copying-valid,
  ticking-valid,
  injecting-valid,
  giving_image-valid,
  loading-valid,
  gpio_form-valid,
  i2c_form-valid,
  spi_form-valid,
  uart_form-valid,
  loopback_form-valid,
)

by_first-valid : (who : ℕ) (w : List ℕ) (ws : Rest) → AreShort 8192 ws.1
    → SaysValid (by_first who w ws)
by_first-valid who w ws short = search forms fits 10000 depth 60

asked_for-valid : (who : ℕ) (ws : List (List ℕ)) → AreShort 8192 ws
    → SaysValid (asked_for who ws)
asked_for-valid who [] short = tt
asked_for-valid who (w ∷ ws) short = by_first-valid who w (2, ws) short.1

pub judged-says_valid : (who : ℕ) (line : List ℕ) → SaysValid (judged who line)
judged-says_valid who line = fits (nat_le (length line) longest_line) refl
  where
    unless : (place : Option ℕ) (said : Said) → SaysValid said → SaysValid (unless_bad place said)
    unless None said h = h
    unless (Some place) said h = tt

    fits : (t : Bool) → nat_le (length line) longest_line ≡ t
        → SaysValid (if t then unless_bad (bad_place 1 line) (asked_for who (words line))
        else Err bad.Long)
    fits true is =
        unless (bad_place 1 line) (asked_for who (words line))
        (asked_for-valid who (words line)
        (words_after-short 8192 [] line (grind (arith, nat_tests))))
    fits false is = tt

-- An event that a line says is valid.
pub judged-valid : (who : ℕ) (line : List ℕ) (e : Event) → judged who line ≡ Ok (Some e) → IsValid e
judged-valid who line e is = subst SaysValid is (judged-says_valid who line)
