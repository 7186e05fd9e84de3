-- Graphs that are seen to be one, with their bounds; only private clauses cite it.
use Rattle.std.specs.Prelude.{◌≡◌}
use Rattle.book_signs.specs.Trees.{SignTree}
use Rattle.rule_trees.specs.Mothers.{graph_view}
use Rattle.rule_trees.specs.declared.bounded.BoundedGraph.{BoundedGraph}

pub record IsAgain (t : SignTree) (a b : BoundedGraph) : Type 0 where
  pub types : a.types ≡ b.types
  pub feats : a.feats ≡ b.feats
  pub limit : a.limit ≡ b.limit
  pub seen : graph_view t a.plain ≡ graph_view t b.plain
