use Rattle.std.proofs.Common.{ap, ◌∙◌}
use Rattle.std.specs.Option.{unwrap_or}
use Rattle.derivation.proofs.Orders.{outermost_is_last}
use Rattle.tree_faults.proofs.endings.outermost.Goals as goal

pub returns : goal.returns
returns c = c.unwrap_or.ensures ∙ ap (λ o. unwrap_or o c.args.entry) (c.copied.ensures ∙ c.last.ensures.value) ∙ outermost_is_last c.args.entry c.args.rules.now
