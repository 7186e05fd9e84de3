use Rattle.derivation.proofs.Counting.{opened}
use Rattle.derivation.proofs.counts.count_of.Goals as goal

pub returns-in-Phrase : goal.returns-in-Phrase
returns-in-Phrase c = λ h. (opened c.args.tree.now c.in-Phrase.rule c.in-Phrase.words c.in-Phrase.daughters c.in-Phrase.is h).0
