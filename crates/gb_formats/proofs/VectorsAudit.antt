-- What is written of whole captures.
use Rattle.std.proofs.Common.{◌≡◌, ℕ, List, [], ◌∷◌, refl}
use Rattle.std.specs.Prelude.{◌++◌, map, codes}
use Rattle.std.specs.Fmt.{digits}
use Rattle.hex.specs.Hex.{decode_pairs, encode_with}
use Rattle.gb_formats.specs.AuditTexts.{audit_text}
use Rattle.gb_formats.specs.Captures.{bad_from, heard_from}
use Rattle.gb_formats.proofs.Samples.{text_of}

-- the lines of a capture, and those that are written of it
abbrev pub Row : Type 0
Row = List (List ℕ) × List (List ℕ)

-- the ping of the SVC and its answer
abbrev pub ping : List ℕ
ping = codes "> 0800010013000000"

abbrev pub pong : List ℕ
pong = codes "< 0800010093000000"

-- pairs, and each finding
abbrev pub finding_rows : List Row
finding_rows =
    ([], codes "clean pairs 0 open 0" ∷ [])
    ∷ (ping ∷ pong ∷ [], codes "clean pairs 1 open 0" ∷ [])
    ∷ (
      ping
          ∷ pong
          ∷ pong
          ∷ codes "> 0800020013000000"
          ∷ codes "> 0800020013000000"
          ∷ codes "< 08000200a1000000"
          ∷ [],
      codes "line 3 double 1"
          ∷ codes "line 5 reused 4"
          ∷ codes "line 6 type 5"
          ∷ codes "faults 3 pairs 1 open 2"
          ∷ [],
    )
    ∷ (
      codes "< 0800090093000000" ∷ [],
      codes "line 1 orphan" ∷ codes "faults 1 pairs 0 open 0" ∷ [],
    )
    -- identifier 0: a request counts nowhere, and a response is an orphan
    ∷ (
      codes "> 0800000002000000"
          ∷ codes "> 0800000002000000"
          ∷ codes "< 0800000082000000"
          ∷ [],
      codes "line 3 orphan" ∷ codes "faults 1 pairs 0 open 0" ∷ [],
    )
    -- both ways have identifiers of their own
    ∷ (
      ping
          ∷ codes "< 0800010002000000"
          ∷ codes "> 0800010082000000"
          ∷ pong
          ∷ [],
      codes "clean pairs 2 open 0" ∷ [],
    )
    -- a response that goes the way of a request doesn't answer it
    ∷ (
      ping ∷ codes "> 0800010093000000" ∷ [],
      codes "line 2 orphan" ∷ codes "faults 1 pairs 0 open 1" ∷ [],
    )
    -- an identifier that was answered may be used again
    ∷ (ping ∷ pong ∷ ping ∷ pong ∷ ping ∷ [], codes "clean pairs 2 open 1" ∷ [])
    -- a response speaks of the last request with its identifier
    ∷ (
      codes "> 0800010002000000" ∷ ping ∷ pong ∷ codes "< 0800010082000000" ∷ [],
      codes "line 2 reused 1" ∷ codes "line 4 double 2" ∷ codes "faults 2 pairs 1 open 1" ∷ [],
    )
    -- a response of another type leaves its request open, and the right one ends it
    ∷ (
      ping ∷ codes "< 0800010082000000" ∷ pong ∷ codes "< 0800010082000000" ∷ [],
      codes "line 2 type 1" ∷ codes "line 4 double 1" ∷ codes "faults 2 pairs 1 open 0" ∷ [],
    )
    -- lines are counted with blank lines and comments
    ∷ (
      codes "# the ping" ∷ ping ∷ [] ∷ pong ∷ pong ∷ [],
      codes "line 5 double 2" ∷ codes "faults 1 pairs 1 open 0" ∷ [],
    )
    ∷ []

pub finding_rows-audited : map (λ row. audit_text (text_of row.0)) finding_rows
    ≡ map (λ row. text_of row.1) finding_rows
unfolding digits decode_pairs bad_from heard_from
finding_rows-audited = refl

-- a bad line comes behind the findings before it, and nothing behind it
abbrev pub bad_rows : List Row
bad_rows =
    (codes "> 0700010013000000" ∷ [], codes "line 1: size 7" ∷ [])
    ∷ (
      pong ∷ codes "# here" ∷ codes "> -" ∷ pong ∷ [],
      codes "line 1 orphan" ∷ codes "line 3: short 8" ∷ [],
    )
    ∷ (ping ∷ codes "< 0a00010093000000" ∷ [], codes "line 2: short 10" ∷ [])
    ∷ (codes "> 0800010013fe0000" ∷ ping ∷ [], codes "line 1: result fe" ∷ [])
    ∷ (codes "< 080001009300000001" ∷ [], codes "line 1: extra 1" ∷ [])
    ∷ (codes "ping" ∷ codes "pong" ∷ [], codes "line 1: bad word 1" ∷ [])
    ∷ (ping ∷ codes "<" ∷ [], codes "line 2: missing word 2" ∷ [])
    ∷ (ping ∷ codes "< 0g" ∷ [], codes "line 2: bad word 2" ∷ [])
    ∷ (codes "> 0800010013000000 x" ∷ [], codes "line 1: extra word 3" ∷ [])
    ∷ ((codes "> " ++ 7 ∷ []) ∷ [], codes "line 1: bad byte 3" ∷ [])
    ∷ []

pub bad_rows-audited : map (λ row. audit_text (text_of row.0)) bad_rows
    ≡ map (λ row. text_of row.1) bad_rows
unfolding digits decode_pairs encode_with bad_from heard_from
bad_rows-audited = refl
