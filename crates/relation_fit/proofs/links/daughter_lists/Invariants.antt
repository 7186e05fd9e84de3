use Rattle.std.proofs.Common.{◌≡◌, map, take}
use Rattle.generate_model.specs.Embedding.{moved_to}
use Rattle.relation_fit.specs.Lists.{list_seen, places_seen}
use Rattle.relation_fit.specs.Inner.Links.{open_seen}
use Rattle.relation_fit.proofs.links.daughter_lists.Given as goal

abbrev pub invariant-loop-k : goal.invariant-loop-k
invariant-loop-k l = map open_seen l.lists.items ≡ map (λ p. moved_to p (list_seen l.list).ends) (places_seen (take l.k l.places))
