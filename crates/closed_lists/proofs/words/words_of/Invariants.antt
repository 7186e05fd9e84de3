use Rattle.std.proofs.Common.{map, take}
use Rattle.closed_lists.specs.Names.{words_in}
use Rattle.closed_lists.specs.Strings.{AreSpoken}
use Rattle.closed_lists.proofs.words.words_of.Given as goal

abbrev pub invariant-loop-node : goal.invariant-loop-node
invariant-loop-node l = AreSpoken l.types l.graph (map (λ n. n.0) (take l.node-index l.nodes)) (words_in l.out)
