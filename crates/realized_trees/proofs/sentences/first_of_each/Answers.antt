use Rattle.std.proofs.Common.{rules}
use Rattle.std.proofs.lemmas.Fn.{dedup_same}
use Rattle.realized_trees.specs.TreeInner.{same_text}
use Rattle.realized_trees.proofs.sentences.first_of_each.Goals as goal

pub returns : goal.returns
returns c = dedup_same _ same_text _ (λ x y b f' x' y' k. search rules) _ _ c.dedup_by.ensures.filtered
