use Rattle.morph_analysis.proofs.LineLaws.{line_one, wrong_one, right_or_wrong}
use Rattle.morph_analysis.proofs.laws.one_line.Goals as goal

pub returns-clause-lattice : goal.returns-clause-lattice
returns-clause-lattice c = line_one

pub returns-clause-wrong : goal.returns-clause-wrong
returns-clause-wrong c = wrong_one

pub returns-clause-apart : goal.returns-clause-apart
returns-clause-apart c = right_or_wrong
