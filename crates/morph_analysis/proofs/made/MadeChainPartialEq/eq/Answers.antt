use Rattle.std.proofs.Common.{◌∙◌, ap, is_eq}
use Rattle.morph_analysis.proofs.OrderLemmas.{chain_cmp}
use Rattle.morph_analysis.proofs.made.MadeChainPartialEq.eq.Goals as goal

pub returns : goal.returns
returns g c = c.is_eq.ensures ∙ ap is_eq (c.cmp.ensures ∙ chain_cmp c.args.self.now.chain c.args.other.now.chain)
