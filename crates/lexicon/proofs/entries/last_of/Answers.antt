use Rattle.std.proofs.Common.{◌∙◌}
use Rattle.lexicon.proofs.GroupLemmas.{last_is}
use Rattle.lexicon.proofs.entries.last_of.Goals as goal

pub returns-in-Some : goal.returns-in-Some
returns-in-Some c = c.as_str.ensures.value ∙ last_is c.args.words.now c.in-Some.word.now c.in-Some.ensures.value
