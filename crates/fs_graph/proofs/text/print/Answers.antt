use Rattle.std.proofs.Common.{[], length, map, sym, subst}
use Rattle.std.proofs.lemmas.List.Elements.{All-get_or}
use Rattle.std.specs.String.{string_bytes}
use Rattle.type_hierarchy.specs.Table.{count_of}
use Rattle.fs_graph.specs.Facts.{line_of, lines_of}
use Rattle.fs_graph.specs.Text.{IsNamed, line_text}
use Rattle.fs_graph.proofs.TextLemmas.{piece_more, line_at}
use Rattle.fs_graph.proofs.text.print.Goals as goal

pub put_line-requires : goal.put_line-requires
put_line-requires c =
    let at = line_at c.deref-line-items.result.now c.args.list.now c.loop-line.line-index c.line-item.result c.deref-line-items.ensures.value c.loop-line-test.true c.line-item.is in
    subst (IsNamed (count_of c.args.types.now) (length c.args.feats.now)) (sym at.1)
    (All-get_or (IsNamed (count_of c.args.types.now) (length c.args.feats.now)) (lines_of c.args.list.now) c.loop-line.line-index (line_of c.line-item.result) at.0 c.requires)

pub loop-line-preserved : goal.loop-line-preserved
loop-line-preserved c =
    let at = line_at c.deref-line-items.result.now c.args.list.now c.loop-line.line-index c.line-item.result c.deref-line-items.ensures.value c.loop-line-test.true c.line-item.is in
    piece_more (line_text c.args.types.now (map string_bytes c.args.feats.now)) (lines_of c.args.list.now) c.loop-line.line-index (line_of c.line-item.result) []
    c.loop-line.text.items c.put_line.new.into.items at.0 at.1 c.loop-line.invariant c.in_ok-put_line.ensures
