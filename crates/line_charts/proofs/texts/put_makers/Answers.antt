use Rattle.std.proofs.Common.{length, sym, ap, ◌∙◌, subst, arith}
use Rattle.std.proofs.lemmas.List.{get_or-map, length-map}
use Rattle.line_charts.specs.Views.{maker_of, IsMakerNamed}
use Rattle.line_charts.proofs.texts.put_makers.Goals as goal

pub put_maker-requires : goal.put_maker-requires
put_maker-requires c =
    let m = c.maker-item.result in
    let low = c.loop-maker-test.true in
    let size = length-map c.args.makers.now maker_of in
    subst (IsMakerNamed (length c.args.names.now)) (get_or-map maker_of c.args.makers.now c.loop-maker.maker-index m (maker_of m) low ∙ ap maker_of (sym c.maker-item.is))
    (c.requires c.loop-maker.maker-index (maker_of m) (omega arith))
