use Rattle.mrs_text.specs.Written.{text_of}
use Rattle.mrs_text.proofs.Meant.{says}
use Rattle.mrs_text.proofs.laws.written.Goals as goal

pub returns-clause-says : goal.returns-clause-says
returns-clause-says c = λ m v s. says m v s

pub returns-clause-back : goal.returns-clause-back
returns-clause-back c = λ m k v s u h. c.one_meaning.ensures (text_of m) m k u (says m v s) h
