use Rattle.morph_analysis.proofs.RouteLemmas.{allowed_less}
use Rattle.morph_analysis.proofs.allowed.AllowedMaker.laws.Goals as goal

pub returns-clause-inner : goal.returns-clause-inner
returns-clause-inner c = λ entry rules rule v a. (tt, (allowed_less c.args.self.now.feeds.now entry rules rule a).0)
