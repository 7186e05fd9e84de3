use Rattle.tdl_lexer.proofs.Unique.{one_lexing}
use Rattle.tdl_lexer.proofs.one_reading.Goals as goal

pub returns : goal.returns
returns c = one_lexing
