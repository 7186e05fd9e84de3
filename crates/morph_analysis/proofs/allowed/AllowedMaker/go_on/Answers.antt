use Rattle.std.proofs.Common.{◌∙◌, sym}
use Rattle.morph_analysis.specs.Allowed.{may_go_on}
use Rattle.morph_analysis.proofs.Lists.{true_not_false}
use Rattle.morph_analysis.proofs.RouteLemmas.{allowed_more, allowed_less}
use Rattle.morph_analysis.proofs.allowed.AllowedMaker.go_on.Goals as goal

pub returns-then-allows_after : goal.returns-then-allows_after
returns-then-allows_after c = allowed_more c.args.self.now.feeds.now c.args.entry c.args.rules.now c.args.rule c.requires (sym c.allows_after.ensures ∙ c.if-allows_after.true)

pub returns-else-allows_after : goal.returns-else-allows_after
returns-else-allows_after c = λ v a.
    true_not_false (may_go_on c.args.self.now.feeds.now c.args.entry c.args.rules.now c.args.rule) (allowed_less c.args.self.now.feeds.now c.args.entry c.args.rules.now c.args.rule a).1 (sym c.allows_after.ensures ∙ c.if-allows_after.false)
