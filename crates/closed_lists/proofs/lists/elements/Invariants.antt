use Rattle.std.proofs.Common.{map}
use Rattle.closed_lists.specs.Names.{names_of}
use Rattle.closed_lists.specs.Inner.Walked.{IsReached}
use Rattle.closed_lists.proofs.ListLemmas.{Passed}
use Rattle.closed_lists.proofs.lists.elements.Given as goal

abbrev pub invariant-loop-turn : goal.invariant-loop-turn
invariant-loop-turn l = record {
  reached : IsReached l.graph l.node.0 l.turn;
  passed : Passed l.types (names_of l.names) l.graph l.fn.start.0 l.node.0 (map (λ n. n.0) l.out.items);
}
