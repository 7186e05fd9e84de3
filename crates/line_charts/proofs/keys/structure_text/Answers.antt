use Rattle.std.proofs.Common.{length}
use Rattle.type_hierarchy.specs.Table.{count_of}
use Rattle.fs_graph.specs.Facts.{lines_of}
use Rattle.line_charts.proofs.NamedLines.{lines-named}
use Rattle.line_charts.proofs.keys.structure_text.Goals as goal

pub print-requires : goal.print-requires
print-requires c = lines-named (count_of c.args.types.now) (length c.args.feats.now) c.args.graph.now c.laws.ensures c.requires (lines_of c.in-Ok.list) c.in-Ok.ensures
