use Rattle.std.proofs.Common.{length, sym, ap, ◌∙◌, subst, arith}
use Rattle.std.proofs.lemmas.List.{get_or-map, length-map}
use Rattle.line_charts.specs.Views.{class_of, IsClassNamed}
use Rattle.line_charts.proofs.texts.put_class_lines.Goals as goal

pub put_class-requires-clause-named : goal.put_class-requires-clause-named
put_class-requires-clause-named c =
    let k = c.index-classes-place.result in
    let low = c.loop-place-test.true in
    let size = length-map c.args.classes.now class_of in
    subst (IsClassNamed c.args.types.now (length c.args.names.now)) (get_or-map class_of c.args.classes.now c.loop-place.place k (class_of k) low ∙ ap class_of (sym c.index-classes-place.is))
    (c.requires c.loop-place.place (class_of k) (omega arith))
