use Rattle.std.proofs.Common.{◌-◌, arith, sym, ◌∙◌}
use Rattle.std.proofs.lemmas.Grind.{get_or_default_zero}
use Rattle.gb_script.proofs.LineBuffers.{as-text, beyond, cr-dropped, no-byte, none-dropped}
use Rattle.gb_script.proofs.line_buffer.LineBuffer.drop_cr.Goals as goal

pub returns-then-index-eq13 : goal.returns-then-index-eq13
returns-then-index-eq13 c = λ raw h.
    let d = cr-dropped c.args.self.now.bytes.items raw c.args.self.now.size h.size_is
    c.if-self-gt0.true c.if-self-le-KEPT.true h.kept
    (sym (get_or_default_zero c.args.self.now.bytes.items (c.args.self.now.size - 1)
    c.index.result.now
    (omega (arith, c.args.self.now.kept, c.if-self-gt0.true, c.if-self-le-KEPT.true)))
    ∙ sym c.index.ensures
    ∙ c.if-index-eq13.true) in
    record { long = d.0; text = d.1 }

pub returns-else-self-gt0 : goal.returns-else-self-gt0
returns-else-self-gt0 c = λ raw h.
    let f = c.args.self.now in
    elim c.else-self-gt0.branch [
      | goal.else-self-gt0-via-then-self-gt0+then-self-le-KEPT+else-index-eq13 w ↦
          rw (
            w.self-is,
            none-dropped f.bytes.items raw f.size h.size_is w.if-self-gt0.true
                w.if-self-le-KEPT.true h.kept
                (λ e. w.if-index-eq13.false (w.index.ensures
                ∙ get_or_default_zero f.bytes.items (f.size - 1) w.index.result.now
                (omega (arith, f.kept, w.if-self-gt0.true, w.if-self-le-KEPT.true))
                ∙ e)),
          ) (as-text f raw h)
      | goal.else-self-gt0-via-then-self-gt0+else-self-le-KEPT w ↦
          let d = beyond f.bytes.items raw f.size h.size_is (omega (arith, w.if-self-le-KEPT.false))
          h.kept in
          rw w.self-is (record { long = d.0; text = d.1 })
      | goal.else-self-gt0-via-else-self-gt0 w ↦
          rw (w.self-is, no-byte raw (omega (arith, h.size_is, w.if-self-gt0.false)))
          (as-text f raw h)
    ]
