use Rattle.std.proofs.Common.{◌∙◌, ap}
use Rattle.fs_graph.specs.Facts.{path_of}
use Rattle.grammar_shapes.specs.Inner.Tables.{sketch_at}
use Rattle.grammar_shapes.proofs.TableLemmas.{one_place_more}
use Rattle.grammar_shapes.proofs.rule_table.row.Goals as goal

pub loop-place-preserved : goal.loop-place-preserved
loop-place-preserved c =
    let f = sketch_at c.args.checks.now c.args.rule.now in
    one_place_more f c.deref-place-items.result.now c.loop-place.place-index c.place-item.result c.loop-place.row.items c.push.new.self.items c.in_ok-sketch_at.field-0 c.loop-place-test.true c.place-item.is
    c.in_ok-push.ensures.items (c.in_ok-sketch_at.ensures ∙ ap (λ p. f (path_of p)) c.deref.ensures.value) c.loop-place.invariant
