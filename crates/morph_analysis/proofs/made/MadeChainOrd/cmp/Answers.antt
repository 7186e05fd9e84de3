use Rattle.std.proofs.Common.{◌∙◌}
use Rattle.morph_analysis.proofs.OrderLemmas.{chain_cmp}
use Rattle.morph_analysis.proofs.made.MadeChainOrd.cmp.Goals as goal

pub returns : goal.returns
returns g c = c.cmp.ensures ∙ chain_cmp c.args.self.now.chain c.args.other.now.chain
