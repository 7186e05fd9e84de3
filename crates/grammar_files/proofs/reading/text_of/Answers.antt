use Rattle.grammar_files.proofs.TextLemmas.{is_utf8_of}
use Rattle.grammar_files.proofs.reading.text_of.Goals as goal

pub unreachable-requires : goal.unreachable-requires
unreachable-requires c = c.in-Err.ensures.cases.0 (is_utf8_of c.args.bytes.now c.requires.0 c.requires.1)
