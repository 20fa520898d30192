-- Where a line stands.
use Rattle.std.proofs.Common.{◌≡◌, ◌≤◌, ◌-◌, ◌==◌, ℕ, Bool, true, false, List, length, take, cond}
use Rattle.std.proofs.Common.{ap, arith, refl, subst, sym, ◌∙◌}
use Rattle.std.proofs.lemmas.List.{length-take-le, take-take}
use Rattle.std.specs.Prelude.{slice_index}
use Rattle.gb_formats.specs.Lines.{without_cr}
use Rattle.gb_script.proofs.LineBuffers.{as-text}
use Rattle.gb_script.specs.Reading.{Gathers, Shows, ShowsWhere, StandsIn}
use Rattle.gb_script.specs.declared.held.Held.{Held}

-- what is gathered stands in the buffer
pub gathered-shows : (h : Held) (raw : List ℕ) → Gathers h raw → Shows h raw
gathered-shows h raw g =
    subst (λ (b : Bool). ShowsWhere b h raw) (sym g.0) (as-text h.buffer raw g.1)

-- what is lent stands in the piece
pub of-piece : (h : Held) (line : List ℕ) → h.lent ≡ true → Shows h line → StandsIn h.piece line
of-piece h line is s = subst (λ (b : Bool). ShowsWhere b h line) is s

-- a line without its CR is a front of the bytes that the line is a front of
cut-front : (t : Bool) (n m : ℕ) (bytes line : List ℕ) → take m bytes ≡ line → n ≤ m
    → length line ≡ m
    → take (length (cond t (take n line) line)) bytes ≡ cond t (take n line) line
cut-front true n m bytes line is less long =
    ap (λ k. take k bytes) (length-take-le n line (omega (arith, less, long)))
    ∙ sym (take-take n m bytes less) ∙ ap (take n) is
cut-front false n m bytes line is less long = ap (λ k. take k bytes) long ∙ is

pub cr-front : (n : ℕ) (bytes : List ℕ) → n ≤ length bytes
    → take (length (without_cr (take n bytes))) bytes ≡ without_cr (take n bytes)
cr-front n bytes within =
    let line = take n bytes in
    cut-front (slice_index line (length line - 1) == 13) (length line - 1) n bytes line refl
    (omega (arith, length-take-le n bytes within)) (length-take-le n bytes within)
