use Rattle.std.proofs.Common.{◌≡◌, ◌++◌, length, map, All, string_bytes}
use Rattle.std.specs.Vec.Iter.{into_iter_items}
use Rattle.type_hierarchy.specs.Table.{count_of}
use Rattle.fs_graph.specs.Facts.{line_of, lines_of}
use Rattle.fs_graph.specs.Text.{IsNamed, line_text}
use Rattle.grammar_commands.proofs.expansion.line_texts.Given as goal

abbrev pub invariant-loop-line : goal.invariant-loop-line
invariant-loop-line l = record {
  named : All (IsNamed (count_of l.types) (length l.feats)) (map line_of (into_iter_items l.line-iterator));
  all : map (line_text l.types (map string_bytes l.feats)) (lines_of l.fn.list) ≡ map (λ t. t.items) l.texts.items ++ map (line_text l.types (map string_bytes l.feats)) (map line_of (into_iter_items l.line-iterator));
}
