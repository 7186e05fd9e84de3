use Rattle.std.proofs.Common.{◌∙◌}
use Rattle.morph_analysis.proofs.RouteLemmas.{follow_last}
use Rattle.morph_analysis.proofs.feeds.Feeds.allows_after.Goals as goal

pub returns-in-Some : goal.returns-in-Some
returns-in-Some c = c.allows_rule.ensures ∙ follow_last c.args.self.now c.args.entry c.args.rules.now c.in-Some.last.now c.args.rule c.in-Some.ensures.value
