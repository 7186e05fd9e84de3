use Rattle.std.proofs.Common.{ℕ, ◌≡◌, map, Some}
use Rattle.fs_graph.specs.GraphMap.{node_at}
use Rattle.fs_graph.specs.Facts.{path_of}
use Rattle.relation_fit.specs.Lists.{list_seen, places_seen}
use Rattle.relation_fit.specs.Inner.Links.{open_seen, Linked}
use Rattle.relation_fit.proofs.links.threads.Given as goal

abbrev pub invariant-loop-turn : goal.invariant-loop-turn
invariant-loop-turn l = (n : ℕ) → node_at l.graph (path_of l.path.items) ≡ Some n → Linked l.graph (list_seen l.list) (places_seen l.places) (map open_seen l.left.items) (path_of l.path.items)
