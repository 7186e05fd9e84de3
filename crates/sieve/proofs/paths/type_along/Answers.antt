use Rattle.std.proofs.Common.{sym}
use Rattle.fs_model.proofs.TableLemmas.{walk_ends}
use Rattle.fs_graph.specs.Facts.{path_of}
use Rattle.fs_graph.specs.GraphMap.{table_of}
use Rattle.sieve.proofs.paths.type_along.Goals as goal

pub ty-requires : goal.ty-requires
ty-requires c =
    let is = c.laws.ensures in
    (walk_ends (table_of c.args.graph.now) is.numbered.table 0 c.in-Some.node.0 (path_of c.args.path.now) is.numbered.filled (sym c.in-Some.ensures)).0
