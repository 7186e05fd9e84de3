use Rattle.std.specs.Str.{chars}
use Rattle.std.proofs.lemmas.Str.{scalars-chars}
use Rattle.mrs_reading.proofs.Meant.{one_text}
use Rattle.mrs_reading.proofs.laws.one_meaning.Goals as goal

pub returns : goal.returns
returns c = λ line m k u h g. one_text m k (chars line) (scalars-chars line u) h g (c.one_spelling.ensures (chars line) h.toks g.toks h.spelled g.spelled)
