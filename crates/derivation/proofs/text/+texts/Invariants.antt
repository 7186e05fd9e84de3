use Rattle.std.proofs.Common.{◌+◌, ◌≡◌, ◌++◌, map, take}
use Rattle.std.specs.String.{string_bytes}
use Rattle.derivation.specs.Text.{daughters_text}
use Rattle.derivation.specs.Views.{derivation_of, in_order}
use Rattle.derivation.proofs.Weights.{weight, weight_of}
use Rattle.derivation.proofs.text.+texts.Given as goal

abbrev pub decreases-put_tree : goal.decreases-put_tree
decreases-put_tree l = weight (derivation_of l.tree.now)

abbrev pub decreases-put_daughters : goal.decreases-put_daughters
decreases-put_daughters l = weight_of l.daughters.now + 1

abbrev pub invariant-put_daughters-loop-daughter : goal.invariant-put_daughters-loop-daughter
invariant-put_daughters-loop-daughter l =
    l.into.items ≡ l.initial.into.items
    ++ daughters_text (map string_bytes l.names) l.asked (in_order (map derivation_of (take l.daughter-index l.daughters)))
