use Rattle.std.proofs.Common.{◌≡◌, map, take}
use Rattle.std.specs.String.{string_bytes}
use Rattle.fs_graph.specs.Facts.{lines_of}
use Rattle.fs_graph.specs.Text.{text_of}
use Rattle.fs_graph.proofs.text.print.Given as goal

abbrev pub invariant-loop-line : goal.invariant-loop-line
invariant-loop-line l = l.text.items ≡ text_of l.types (map string_bytes l.feats) (take l.line-index (lines_of l.list))
