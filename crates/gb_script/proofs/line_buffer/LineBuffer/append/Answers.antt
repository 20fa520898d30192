use Rattle.std.proofs.Common.{◌∙◌, arith, length-append, length-drop}
use Rattle.gb_script.proofs.LineBuffers.{append-in, append-out}
use Rattle.gb_script.proofs.line_buffer.LineBuffer.append.Goals as goal
use Rattle.gb_script.proofs.line_buffer.LineBuffer.append.Goals.{then-self-lt-KEPT}
use Rattle.gb_script.proofs.line_buffer.LineBuffer.append.Goals.{else-self-lt-KEPT}

pub returns : goal.returns
returns c = λ raw h.
    let f = c.args.self.now in
    let more = c.args.more.now in
    elim c.if-self-lt-KEPT.branch [
      | then-self-lt-KEPT w ↦
          rw (
            w.self-is,
            w.deref_mut.ensures.value,
            w.copy_from_slice.ensures.after,
            w.min-count.ensures,
          ) (record {
            size_is = rw (length-append raw more) (omega (arith, h.size_is));
            kept =
                append-in f.bytes.items raw more _ _ f.size 8193 f.bytes.len h.size_is
                (f.bytes.ok.0 ∙ f.kept) w.if-self-lt-KEPT.true h.kept
                (rw (length-drop, length-drop) (omega (arith, f.kept, w.if-self-lt-KEPT.true)));
          })
      | else-self-lt-KEPT w ↦ rw w.self-is (record {
        size_is = rw (length-append raw more) (omega (arith, h.size_is));
        kept =
            append-out f.bytes.items raw more f.size 8193 h.size_is f.kept w.if-self-lt-KEPT.false
            h.kept;
      })
    ]
