use Rattle.morph_analysis.proofs.LineLemmas.{writes_none}
use Rattle.morph_analysis.proofs.written.step_written.Goals as goal

pub returns-in-None : goal.returns-in-None
returns-in-None c = writes_none c.args.item.now c.in-None.ensures
