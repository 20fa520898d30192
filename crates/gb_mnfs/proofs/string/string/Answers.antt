use Rattle.std.proofs.Common.{◌≡◌, ◌∙◌, Some, None, sym, ap, drop, arith}
use Rattle.std.proofs.lemmas.List.{take_rest}
use Rattle.gb_formats.specs.SourceValues.{first_byte}
use Rattle.gb_mnfs.proofs.Strings.{byte_bad, byte_more, bytes_done, length-take_rest}
use Rattle.gb_mnfs.proofs.string.string.Goals as goal

pub returns-in_default : goal.returns-in_default
returns-in_default c =
    let none : first_byte (drop c.loop-at.at c.args.text.now) ≡ None =
    ap first_byte (sym (take_rest c.args.text.now c.loop-at.at)) ∙ sym c.in_default.ensures.value in
    sym (byte_bad c.args.text.now c.loop-at.string c.loop-at.at c.loop-at-test.true none
    c.loop-at.invariant.read)

pub loop-at-preserved : goal.loop-at-preserved
loop-at-preserved c =
    let some : first_byte (drop c.loop-at.at c.args.text.now)
    ≡ Some (c.in-Some.byte, c.in-Some.more) =
    ap first_byte (sym (take_rest c.args.text.now c.loop-at.at)) ∙ sym c.in-Some.ensures.value in
    record {
      within =
          omega (
            arith,
            c.loop-at-test.true,
            c.in-Some.ensures.within,
            length-take_rest c.args.text.now c.loop-at.at,
          );
      read =
          rw c.in_ok-push.ensures.ok
          (byte_more c.args.text.now c.loop-at.string c.loop-at.at c.in-Some.byte c.in-Some.more
          c.loop-at-test.true some c.loop-at.invariant.read);
    }

pub returns : goal.returns
returns c =
    sym (bytes_done c.args.text.now c.loop-at.string c.loop-at.at c.loop-at-test.false
    c.loop-at.invariant.read)
