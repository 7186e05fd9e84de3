use Rattle.std.proofs.Common.{[]}
use Rattle.mrs_spelling.specs.Reading.{done}
use Rattle.mrs_spelling.specs.Grammar.{mrs}
use Rattle.mrs_spelling.proofs.Single.{one_reading}
use Rattle.mrs_spelling.proofs.laws.one_spelling.Goals as goal

pub returns : goal.returns
returns c = λ cs es fs h k. (let s = one_reading mrs [] cs es done cs [] fs done cs [] h.reads k.reads in s.toks)
