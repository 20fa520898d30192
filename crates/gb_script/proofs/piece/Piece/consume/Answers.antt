-- What is left begins further on.
use Rattle.std.proofs.Common.{◌≡◌, ◌≤◌, ◌∙◌, ℕ, ◌+◌, ◌-◌, List, length, drop, take, subst, ap, sym}
use Rattle.std.proofs.Common.{arith}
use Rattle.std.proofs.lemmas.List.{drop-take, length-drop, length-take-le}
use Rattle.gb_script.specs.Pieces.{PieceBytes, TellsLf}
use Rattle.gb_script.proofs.piece.Piece.consume.Goals as goal

left-is : (start end : ℕ) (bytes : List ℕ) → start ≤ end
    → take (end - start) (drop start bytes) ≡ drop start (take end bytes)
left-is start end bytes h =
    sym (drop-take start (end - start) bytes)
    ∙ ap (λ n. drop start (take n bytes)) (omega (arith, h))

within : (start end count : ℕ) (bytes now : List ℕ) → drop start (take end bytes) ≡ now
    → start ≤ end → end ≤ length bytes → count ≤ length now → start + count ≤ end
within start end count bytes now is order fits few =
    omega (
      arith,
      order,
      few,
      ap length is,
      length-drop start (take end bytes),
      length-take-le end bytes fits,
    )

pub invariant_of-self : goal.invariant_of-self
invariant_of-self c =
    let i = c.self.invariant in
    let p = c.self.inside in
    let fits = within p.start p.end c.args.count p.bytes.items c.args.self.now.left
    (ap (λ (p : PieceBytes). p.left) c.self.view_is) i.0
    (omega (arith, i.1, i.2)) c.requires in (
      fits,
      i.1,
      i.2,
      i.3,
      subst (λ (l : List ℕ). TellsLf c.first_lf-self-inside.result l)
          (ap (λ l. take (p.end - (p.start + c.args.count)) (drop (p.start + c.args.count) l))
          c.deref.ensures.value ∙ left-is (p.start + c.args.count) p.end p.bytes.items fits)
          c.first_lf-self-inside.ensures,
    )
