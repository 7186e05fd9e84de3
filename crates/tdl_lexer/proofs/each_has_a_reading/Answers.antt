use Rattle.tdl_lexer.proofs.Exists.{lexing_of}
use Rattle.tdl_lexer.proofs.each_has_a_reading.Goals as goal

pub returns : goal.returns
returns c source = let r = lexing_of source in (r.tokens, r.end, r.reading)
