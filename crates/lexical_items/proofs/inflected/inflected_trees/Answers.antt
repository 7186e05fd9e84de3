use Rattle.lexical_items.proofs.inflected.inflected_trees.Goals as goal

pub trees_of-requires-clause-routes : goal.trees_of-requires-clause-routes
trees_of-requires-clause-routes g c = (c.args.most, rw c.deref.ensures.value c.in_ok-routes.ensures)

pub returns : goal.returns
returns g c = c.in_ok-trees.ensures c.args.most (rw c.deref.ensures.value c.in_ok-routes.ensures)
