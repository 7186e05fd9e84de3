use Rattle.std.proofs.Common.{◌<◌, arith}
use Rattle.std.proofs.lemmas.List.Elements.{All-from_get_or}
use Rattle.type_hierarchy.specs.Table.{count_of}
use Rattle.structure_rows.proofs.asked.types_in.Goals as goal

pub returns : goal.returns
returns c =
    λ _.
    let size = c.nodes-nodes.ensures.count in
    let high = c.loop-n-test.false in
    All-from_get_or (λ t. t < count_of c.args.types.now) c.args.graph.now.types 0 (λ k l. c.loop-n.invariant k (omega arith))
