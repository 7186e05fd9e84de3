use Rattle.std.proofs.Common.{◌∙◌}
use Rattle.morph_analysis.proofs.LineLemmas.{colon_next}
use Rattle.morph_analysis.proofs.written.at_colon.Goals as goal

pub loop-i-preserved : goal.loop-i-preserved
loop-i-preserved c = colon_next c.args.letters.now c.loop-i.i c.index-letters-i.result c.loop-i-test.true (λ e. c.if-letters-i-eq58.false (c.index-letters-i.is ∙ e)) c.loop-i.invariant
