use Rattle.std.specs.Str.{chars}
use Rattle.std.proofs.lemmas.Str.{scalars-chars}
use Rattle.mrs_reading.proofs.Meant.{says_valid}
use Rattle.mrs_reading.proofs.laws.all_valid.Goals as goal

pub returns : goal.returns
returns c = λ line m u h. says_valid m (chars line) (scalars-chars line u) h
