use Rattle.std.proofs.Common.{◌≡◌, map, take}
use Rattle.std.specs.List.{range_with_len, flat_map}
use Rattle.fs_graph.specs.Inner.Renumbering.{starts_of}
use Rattle.fs_graph.proofs.DrawLemmas.{items}
use Rattle.fs_graph.proofs.builder.Builder.finish.Given as goal

abbrev pub invariant-loop-row : goal.invariant-loop-row
invariant-loop-row l =
    record {
      starts : l.starts.items ≡ map (starts_of items l.row-items) (range_with_len 0 l.row-index);
      arcs : l.arcs.items ≡ flat_map items (take l.row-index l.row-items);
    }
