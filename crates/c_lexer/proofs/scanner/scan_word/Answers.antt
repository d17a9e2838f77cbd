use Rattle.c_lexer.proofs.Scans.{word_at_front, word_scanned}
use Rattle.c_lexer.proofs.scanner.scan_word.Goals as goal

pub word_kind-requires : goal.word_kind-requires
word_kind-requires c = word_at_front c.args.bytes.now c.word_length-length.result c.word_length-length.ensures c.requires.some c.requires.letter

pub returns : goal.returns
returns c = word_scanned c.args.bytes.now c.word_length-length.result c.word_kind.result c.word_length-length.ensures c.requires.letter c.word_kind.ensures
