use Rattle.mrs_lines.proofs.Unique.{line_one, answer_one}
use Rattle.mrs_lines.proofs.mrs_line_laws.Goals as goal

pub returns-clause-line : goal.returns-clause-line
returns-clause-line c = line_one c.structure_laws.ensures.one c.mrs_is_one.ensures

pub returns-clause-lines : goal.returns-clause-lines
returns-clause-lines c = answer_one c.structure_laws.ensures.one c.mrs_is_one.ensures
