use Rattle.std.proofs.Common.{refl}
use Rattle.morph_analysis.proofs.LineLemmas.{noted_step}
use Rattle.morph_analysis.proofs.lattice.note.Goals as goal

pub returns : goal.returns
returns c = noted_step _ c.args.steps.now.keys c.insert.new.self.keys c.args.step c.in_ok-insert.ensures.keys (λ t. refl)
