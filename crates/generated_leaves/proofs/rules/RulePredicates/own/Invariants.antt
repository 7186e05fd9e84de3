use Rattle.std.proofs.Common.{◌≡◌, map, take}
use Rattle.generated_leaves.specs.Given.{own_counts}
use Rattle.generated_leaves.proofs.ListLemmas.{words_of}
use Rattle.generated_leaves.proofs.rules.RulePredicates.own.Given as goal

abbrev pub invariant-loop-preds : goal.invariant-loop-preds
invariant-loop-preds l = l.own.items ≡ own_counts l.bag.places (map words_of (take l.preds-index l.preds-items))
