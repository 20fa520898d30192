use Rattle.std.proofs.Common.{sym}
use Rattle.gb_script.proofs.HexWords.{type_word-none}
use Rattle.gb_script.proofs.hex_words.type_word.Goals as goal

pub returns-in-Err : goal.returns-in-Err
returns-in-Err c = sym (type_word-none c.args.word.now _ (sym c.in-Err.ensures))
