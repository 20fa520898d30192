-- Scripts with requesters and the made script, and what they are.
use Rattle.std.proofs.Common.{◌≡◌, [], ◌∷◌, refl}
use Rattle.std.specs.Prelude.{Some, None, ◌++◌, map, codes}
use Rattle.std.specs.Fmt.{digits}
use Rattle.hex.specs.Hex.{decode_pairs}
use Rattle.gb_base.specs.declared.bridge.BridgeAsk.TheVariants as ask
use Rattle.gb_base.specs.declared.bridge.I2cOp.TheVariants as i2c
use Rattle.gb_base.specs.declared.end.End.TheVariants as end
use Rattle.gb_base.specs.declared.event.Event.TheVariants as event
use Rattle.gb_base.specs.declared.event.Kind.TheVariants as kind
use Rattle.gb_base.specs.declared.reasons.LineReason.TheVariants as bad
use Rattle.gb_formats.specs.Lines.{lines}
use Rattle.gb_formats.specs.Made.{made, made_number, last_named}
use Rattle.gb_formats.specs.Parts.{parts}
use Rattle.gb_formats.proofs.Samples.{named, text_of}

-- two requesters, with lines before the first heading
pub parts-two : parts (text_of (codes "boot" ∷ codes "requester 1" ∷ codes ""
    ∷ codes "pull 2" ∷ codes "requester 2" ∷ codes "show" ∷ codes "# the end" ∷ []))
    ≡ record {
      asked = record { line = 1; who = 0; event = event.Boot }
          ∷ record { line = 4; who = 1; event = event.Pull 2 }
          ∷ record { line = 6; who = 2; event = event.Show } ∷ [];
      bad = None;
    }
unfolding decode_pairs
parts-two = refl

-- a heading that doesn't rise by one
pub parts-second_first : parts (codes "requester 2")
    ≡ record { asked = []; bad = Some (1, bad.BadWord 2) }
unfolding decode_pairs
parts-second_first = refl

-- a heading alone, and one with a word too many
pub parts-alone : parts (codes " requester")
    ≡ record { asked = []; bad = Some (1, bad.MissingWord 2) }
unfolding decode_pairs
parts-alone = refl

pub parts-extra : parts
    (text_of (codes "boot" ∷ codes "requester 1 x" ∷ codes "boot" ∷ []))
    ≡ record {
      asked = record { line = 1; who = 0; event = event.Boot } ∷ [];
      bad = Some (2, bad.ExtraWord 3);
    }
unfolding decode_pairs
parts-extra = refl

-- a ninth requester
pub parts-ninth : parts (text_of (codes "requester 1" ∷ codes "requester 2"
    ∷ codes "requester 3" ∷ codes "requester 4" ∷ codes "requester 5" ∷ codes "requester 6"
    ∷ codes "requester 7" ∷ codes "requester 8" ∷ codes "requester 9" ∷ []))
    ≡ record { asked = []; bad = Some (9, bad.BadWord 2) }
unfolding decode_pairs
parts-ninth = refl

-- one CR before the LF is left off, and the last line may lack its LF
pub lines-ends : lines (codes "a" ++ 13 ∷ 10 ∷ 13 ∷ 13 ∷ 10 ∷ 10 ∷ codes "b" ++ 13 ∷ [])
    ≡ codes "a" ∷ (13 ∷ []) ∷ [] ∷ (98 ∷ 13 ∷ []) ∷ []
lines-ends = refl

-- one drawn line of each row of the table
pub made-drawn : map (made 1) (24 ∷ 26 ∷ 27 ∷ 30 ∷ 32 ∷ 34 ∷ 35 ∷ [])
    ≡ event.Tick 200
    ∷ event.Bridge (named (codes "n3")) 2 1 (ask.Gpio 0x03 4 0)
    ∷ event.Bridge (named (codes "n4")) 3 4 (ask.UartSend (3 ∷ []))
    ∷ event.Bridge (named (codes "n7")) 2 2
    (ask.I2cTransfer (i2c.Put 0x50 (7 ∷ []) ∷ i2c.Get 0x50 4 ∷ []))
    ∷ event.Settle 5
    ∷ event.Cancel (named (codes "n8"))
    ∷ event.Deliver (end.Module 5 1) ∷ []
unfolding made_number last_named digits
made-drawn = refl

-- the first lines of the made script of seed 1
pub made-first : map (made 1) (1 ∷ 4 ∷ 5 ∷ 6 ∷ 7 ∷ 10 ∷ 11 ∷ 22 ∷ 23 ∷ 20024 ∷ [])
    ≡ event.Insert 2 (kind.Bridge ∷ []) ∷ event.Insert 5 (kind.Bridge ∷ []) ∷ event.Boot
    ∷ event.Settle 60000
    ∷ event.Connect 2 1 ∷ event.Connect 2 4 ∷ event.Connect 3 1 ∷ event.Connect 5 4
    ∷ event.Settle 60000 ∷ event.Settle 60000 ∷ []
unfolding made_number last_named
made-first = refl
