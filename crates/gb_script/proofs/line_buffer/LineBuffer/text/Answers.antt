use Rattle.std.proofs.Common.{arith, sym, ◌∙◌, take, ap, length}
use Rattle.std.proofs.lemmas.List.{length-take-le}
use Rattle.gb_script.proofs.LineBuffers.{all-text, first-text}
use Rattle.gb_script.proofs.line_buffer.LineBuffer.text.Goals as goal

pub slice_bounds-result-end-else-self-lt-LONGEST_LINE :
    goal.slice_bounds-result-end-else-self-lt-LONGEST_LINE
slice_bounds-result-end-else-self-lt-LONGEST_LINE c =
    sym (length-take-le 8192 _
    (omega (
      arith,
      ap length c.deref-else-self-lt-LONGEST_LINE.ensures.value,
      c.args.self.now.kept,
    )))

pub returns-then-self-lt-LONGEST_LINE : goal.returns-then-self-lt-LONGEST_LINE
returns-then-self-lt-LONGEST_LINE c = λ line h.
    ap (take c.args.self.now.size) c.deref.ensures.value
    ∙ all-text c.args.self.now.bytes.items c.args.self.now.size 8192
    (omega (arith, c.if-self-lt-LONGEST_LINE.true))
    ∙ h.text

pub returns-else-self-lt-LONGEST_LINE : goal.returns-else-self-lt-LONGEST_LINE
returns-else-self-lt-LONGEST_LINE c = λ line h.
    ap (take 8192) c.deref-else-self-lt-LONGEST_LINE.ensures.value
    ∙ first-text c.args.self.now.bytes.items c.args.self.now.size 8192
    c.if-self-lt-LONGEST_LINE.false
    ∙ h.text
