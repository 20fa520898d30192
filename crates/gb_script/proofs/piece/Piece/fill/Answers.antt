-- Bytes that are held are handed out again, and none are held where the source is read.
use Rattle.std.proofs.Common.{◌≡◌, ◌≤◌, ◌<◌, ◌∙◌, ℕ, Bool, Option, Some, None, Result, Err, List}
use Rattle.std.proofs.Common.{[]}
use Rattle.std.proofs.Common.{length, drop, take, length-drop, refl, sym, ap, subst, arith}
use Rattle.std.proofs.KnownBytes.{Consumes-kept}
use Rattle.std.proofs.lemmas.Bool.{true≢false}
use Rattle.std.proofs.lemmas.List.{drop_all, length-take, length-take-le}
use Rattle.std.proofs.lemmas.Result.{err_from_is_err_and}
use Rattle.std.specs.Io.KnownBytes.{Consumes, Keeps, prepend_known}
use Rattle.gb_base.specs.declared.errors.Failed.{Failed}
use Rattle.gb_script.specs.Pieces.{Fills, PieceBytes, has_lf}
use Rattle.gb_script.proofs.piece.Piece.fill.Goals as goal

abbrev left_of : PieceBytes → List ℕ
left_of p = p.left

none-held : (start end : ℕ) (bytes now : List ℕ) → drop start (take end bytes) ≡ now → end ≤ start
    → now ≡ []
none-held start end bytes now is order =
    sym is
    ∙ drop_all start (take end bytes) (rw (length-take end bytes) (omega (arith, order)))

some-held : (start end : ℕ) (bytes now : List ℕ) → drop start (take end bytes) ≡ now → start < end
    → end ≤ length bytes → 0 < length now
some-held start end bytes now is order fits =
    omega (
      arith,
      order,
      ap length is,
      length-drop start (take end bytes),
      length-take-le end bytes fits,
    )

takes-none : (a : Option (List ℕ)) → Consumes a a []
takes-none None = tt
takes-none (Some x) = refl

held-none : (a : Option (List ℕ)) → Consumes (prepend_known [] a) a []
held-none None = tt
held-none (Some x) = refl

fails : (now : List ℕ) (left after : Option (List ℕ)) (r : Result Bool Failed) (e : Failed)
    → r ≡ Err e → now ≡ [] → Keeps left after → Fills now [] left after r
fails now left after r e told none kept =
    subst (Fills now [] left after) (sym told)
    (subst (λ (h : List ℕ). Consumes (prepend_known h left) after []) (sym none)
    (Consumes-kept (prepend_known [] left) left after [] (held-none left) kept))

pub returns-then-self-clause-bytes : goal.returns-then-self-clause-bytes
returns-then-self-clause-bytes g c =
    let i = c.self.invariant in
    let p = c.self.inside in (
      takes-none (prepend_known c.args.self.now.left (g.S.Source.left c.args.source.now)),
      some-held p.start p.end p.bytes.items c.args.self.now.left (ap left_of c.self.view_is)
          c.if-self.true (omega (arith, i.1, i.2)),
    )

pub returns-in_err-n-clause-bytes : goal.returns-in_err-n-clause-bytes
returns-in_err-n-clause-bytes g c =
    let p = c.self.inside in
    let e = err_from_is_err_and c.from_residual.result c.from_residual.ensures.1 in
    fails c.args.self.now.left (g.S.Source.left c.args.source.now) (g.S.Source.left c.read.new.self)
    c.from_residual.result e.0 e.1
    (none-held p.start p.end p.bytes.items c.args.self.now.left (ap left_of c.self.view_is)
    (omega (arith, c.if-self.false))) c.in_err-n.ensures.bytes

pub returns-in_err-n-clause-held : goal.returns-in_err-n-clause-held
returns-in_err-n-clause-held g c =
    λ h.
    let p = c.self.inside in
    let none = none-held p.start p.end p.bytes.items c.args.self.now.left
    (ap left_of c.self.view_is) (omega (arith, c.if-self.false)) in
    absurd (true≢false (sym h ∙ ap has_lf none))

pub returns-clause-held : goal.returns-clause-held
returns-clause-held g c =
    λ h.
    let p = c.self.inside in
    let none = none-held p.start p.end p.bytes.items c.args.self.now.left
    (ap left_of c.self.view_is) (omega (arith, c.if-self.false)) in
    absurd (true≢false (sym h ∙ ap has_lf none))
