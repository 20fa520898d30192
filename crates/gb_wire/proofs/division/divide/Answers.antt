use Rattle.std.proofs.Common.{sym, ◌∙◌, ap, arith, length, length-drop}
use Rattle.std.proofs.lemmas.List.{take_rest}
use Rattle.gb_formats.specs.Wire.{decode_answer}
use Rattle.gb_wire.proofs.Feeding.{stream-more, stream-stops}
use Rattle.gb_wire.proofs.division.divide.Goals as goal

pub loop-message-preserved : goal.loop-message-preserved
loop-message-preserved c =
    let here = take_rest c.args.bytes.now c.loop-message.used in
    record {
      within =
          omega (
            arith,
            c.in-Ok.ensures.found.0,
            ap length here,
            length-drop c.loop-message.used c.args.bytes.now,
          );
      stream =
          stream-more c.args.bytes.now _ c.loop-message.used c.in-Ok.size _ c.loop-message.messages
          c.push.new.self c.in_ok-from_message-in-Ok.field-0 c.loop-message.invariant.stream here
          c.in-Ok.ensures.found.1 c.in_ok-from_message-in-Ok.ensures c.in_ok-push-in-Ok.ensures.ok;
    }

pub returns-in-Err-clause-stream : goal.returns-in-Err-clause-stream
returns-in-Err-clause-stream c =
    let here = take_rest c.args.bytes.now c.loop-message.used in
    stream-stops c.in-Err.fault c.args.bytes.now c.loop-message.used c.loop-message.messages
    c.lasting.result c.loop-message.invariant.stream
    (ap decode_answer (sym here) ∙ sym c.in-Err.ensures.exact) c.lasting.ensures
