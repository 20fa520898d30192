-- The line that is shown is the front of what was left.
use Rattle.std.proofs.Common.{◌≡◌, ◌≤◌, ◌<◌, ◌∙◌, ℕ, ◌+◌, ◌-◌, List, length, drop, take, ap, sym}
use Rattle.std.proofs.Common.{arith}
use Rattle.std.proofs.lemmas.List.{drop-take, length-drop, length-take, take-take}
use Rattle.gb_formats.specs.Lines.{without_cr}
use Rattle.gb_script.proofs.Shown.{cr-front}
use Rattle.gb_script.specs.Pieces.{PieceBytes}
use Rattle.gb_script.proofs.piece.Piece.take_line.Goals as goal

front-is : (start end n : ℕ) (bytes left : List ℕ) → drop start (take end bytes) ≡ left
    → n < length left → take n (drop start bytes) ≡ take n left
front-is start end n bytes left is within =
    let order : start ≤ end =
    omega (
      arith,
      within,
      ap length is,
      length-drop start (take end bytes),
      length-take end bytes,
    ) in
    let shown : take (end - start) (drop start bytes) ≡ left =
    sym (drop-take start (end - start) bytes)
    ∙ ap (λ k. drop start (take k bytes)) (omega (arith, order)) ∙ is in
    sym (take-take n (end - start) (drop start bytes)
    (omega (arith, within, ap length shown, length-take (end - start) (drop start bytes))))
    ∙ ap (take n) shown

shows : (start end n k : ℕ) (bytes given left cut : List ℕ) → drop start (take end bytes) ≡ left
    → n < length left → given ≡ bytes → k ≡ n → cut ≡ without_cr (take k (drop start given))
    → take (length cut) (drop start bytes) ≡ without_cr (take n left)
shows start end n k bytes given left cut is within same count cut_is =
    let cut_of : cut ≡ without_cr (take n (drop start bytes)) =
    cut_is ∙ ap (λ l. without_cr (take k (drop start l))) same
    ∙ ap (λ m. without_cr (take m (drop start bytes))) count in
    ap (λ l. take (length l) (drop start bytes)) cut_of
    ∙ cr-front n (drop start bytes)
    (omega (
      arith,
      within,
      ap length is,
      length-drop start (take end bytes),
      length-take end bytes,
      length-drop start bytes,
    ))
    ∙ ap without_cr (front-is start end n bytes left is within)

pub returns-clause-line : goal.returns-clause-line
returns-clause-line c =
    let p = c.self.inside in
    c.consume.ensures.line
    ∙ shows p.start p.end c.args.n (p.start + c.args.n - p.start) p.bytes.items c.deref.result.now
    c.args.self.now.left c.without_cr.result.now
    (ap (λ (b : PieceBytes). b.left) c.self.view_is) c.requires.within c.deref.ensures.value
    (omega arith) c.without_cr.ensures
