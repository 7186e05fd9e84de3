use Rattle.derivation.specs.Views.{derivation_of}
use Rattle.tree_model.specs.Structures.{Structure}
use Rattle.tree_model.specs.Trees.{Full}
use Rattle.book_signs.specs.Trees.{SignTree, signs_of}
use Rattle.mrs_places.specs.Paths.{Paths}
use Rattle.engine.specs.Semantic.{ArePathsOf}
use Rattle.line_commands.proofs.Shared.{same-signs, shared-by, mrs-line}
use Rattle.line_commands.proofs.explainer.Explainer.line_of_mrs.Goals as goal

pub line_of_tree-requires-clause-right : goal.line_of_tree-requires-clause-right
line_of_tree-requires-clause-right c = c.new-memo.ensures c.fulls-fulls.result

pub line_of_tree-requires-clause-same : goal.line_of_tree-requires-clause-same
line_of_tree-requires-clause-same c = same-signs c.args.self.now.engine c.args.self.now.lines c.fulls-fulls.result c.args.self.now.written c.fulls-fulls.ensures

pub line_of_tree-requires-clause-full : goal.line_of_tree-requires-clause-full
line_of_tree-requires-clause-full c =
    shared-by c.args.self.now.engine c.args.self.now.lines c.fulls-fulls.result c.args.self.now.written c.fulls-fulls.ensures
    (λ (t : SignTree) (p : Paths). (f : Structure) × Full (signs_of t) (derivation_of c.args.tree.now) f) c.requires.full

pub line_of_tree-requires-clause-paths : goal.line_of_tree-requires-clause-paths
line_of_tree-requires-clause-paths c =
    let paths = shared-by c.args.self.now.engine c.args.self.now.lines c.fulls-fulls.result c.args.self.now.written c.fulls-fulls.ensures ArePathsOf c.laws.ensures.paths in
    paths.are

pub line_of_tree-requires-clause-feats : goal.line_of_tree-requires-clause-feats
line_of_tree-requires-clause-feats c =
    let paths = shared-by c.args.self.now.engine c.args.self.now.lines c.fulls-fulls.result c.args.self.now.written c.fulls-fulls.ensures ArePathsOf c.laws.ensures.paths in
    paths.feats

pub returns : goal.returns
returns c =
    mrs-line c.args.self.now.engine c.args.self.now.lines c.fulls-fulls.result c.args.self.now.written c.fulls-fulls.ensures
    (derivation_of c.args.tree.now) c.in_ok-line.line.items c.in_ok-line.ensures.line
