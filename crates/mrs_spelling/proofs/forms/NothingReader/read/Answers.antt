use Rattle.std.specs.Str.{chars}
use Rattle.mrs_spelling.specs.Forms.{nothing}
use Rattle.mrs_spelling.specs.Reading.{done, reads_nothing}
use Rattle.mrs_spelling.proofs.Scanned.{read_now}
use Rattle.mrs_spelling.proofs.forms.NothingReader.read.Goals as goal

pub returns-clause-read : goal.returns-clause-read
returns-clause-read c = let cs = chars c.args.text.now in read_now nothing done cs cs c.args._tokens.now.items (λ b. (b, reads_nothing b cs))
