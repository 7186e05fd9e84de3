use Rattle.std.proofs.Common.{◌≡◌, length, min, sym, ◌∙◌}
use Rattle.std.proofs.lemmas.Slice.Zip.{zip_end}
use Rattle.derivation.proofs.Orders.{slice_cmp-end}
use Rattle.line_charts.specs.Keys.{compare_arcs}
use Rattle.line_charts.proofs.keys.compare_row.Goals as goal

pub returns : goal.returns
returns c =
    let ends : length c.loop-arc.yielded ≡ min (length c.args.arcs.now) (length c.args.others.now) =
    zip_end c.args.arcs.now c.args.others.now c.loop-arc.yielded _ _ c.next.new.self _ (cc) (cc) c.loop-arc.yielded_by c.in-None.is c.next.ensures.steps in
    c.cmp.ensures ∙ sym (slice_cmp-end compare_arcs c.args.arcs.now c.args.others.now _ ends) ∙ sym c.loop-arc.invariant
