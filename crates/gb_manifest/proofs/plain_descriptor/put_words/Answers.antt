use Rattle.std.proofs.Common.{refl}
use Rattle.std.proofs.lemmas.Result.{on_ok_weaker}
use Rattle.gb_manifest.proofs.PlainBytes.{words_bytes}
use Rattle.gb_manifest.proofs.plain_descriptor.put_words.Goals as goal

pub returns : goal.returns
returns c =
    on_ok_weaker c.append-3.result
    (λ e. words_bytes c.args.out.now _ _ _ _ c.args.string.now c.words_size-size.result c.args.id _
    c.words_size-size.ensures c.write_u16.ensures c.in_ok-append.ensures c.in_ok-append-2.ensures
    refl e) c.append-3.ensures
