use Rattle.std.proofs.Common.{sym, subst}
use Rattle.fs_graph.specs.GraphMap.{reader_of}
use Rattle.tree_model.specs.Mothers.{Meant}
use Rattle.tree_model.specs.Signs.{rule_system}
use Rattle.book_signs.specs.Trees.{signs_of}
use Rattle.rule_trees.specs.Mothers.{view_in}
use Rattle.relation_fit.specs.Fits.{IsPartOf}
use Rattle.realized_trees.proofs.Exact.{graph_part}
use Rattle.realized_trees.proofs.sifting.leaf_reaches.Goals as goal

pub returns : goal.returns
returns c = λ told.
    let t = c.args.signs.now in
    let g = rule_system (signs_of t) in
    let f = c.args.full.now.graph.plain in
    c.in_ok-yes.ensures told g (view_in t c.args.full.now.graph)
    (subst (λ x. IsPartOf (Meant g (view_in t c.args.full.now.graph)) (reader_of x)) (sym c.graph.ensures)
    (subst (λ m. IsPartOf (Meant g m) (reader_of f)) (sym c.laws.ensures.seen) (graph_part t f c.laws.ensures.short)))
