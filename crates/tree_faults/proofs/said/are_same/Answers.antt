use Rattle.std.proofs.Common.{◌∙◌}
use Rattle.lexicon.proofs.GroupLemmas.{words_compared}
use Rattle.tree_faults.proofs.said.are_same.Goals as goal

pub returns : goal.returns
returns c = c.eq.ensures ∙ words_compared c.args.a.now c.args.b.now
