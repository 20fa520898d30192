-- Names of one requester are one where their words have one number.
use Rattle.std.proofs.Common.{◌&&◌, ◌∙◌, ap, eq-eqb, sym}
use Rattle.std.specs.Str.{bytes_eq}
use Rattle.gb_system.proofs.WordNumbers.{same-words}
use Rattle.gb_system.proofs.key.Key.is_same.Goals as goal

pub returns-then-self-other : goal.returns-then-self-other
returns-then-self-other c =
    let a = c.args.self.now in
    let b = c.args.other.now in
    let requester =
    sym (ap (λ n. n.who) c.self.view_is)
    ∙ c.if-self-other.true
    ∙ ap (λ n. n.who) c.other.view_is
    in
    same-words a.word b.word c.word.result c.word-then-self-other.result c.word.ensures.number
    c.word-then-self-other.ensures.number c.word.ensures.name c.word-then-self-other.ensures.name
    ∙ ap (λ t. t && bytes_eq a.word b.word) (sym (eq-eqb a.who b.who requester))
