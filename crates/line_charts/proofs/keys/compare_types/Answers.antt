use Rattle.std.proofs.Common.{◌≡◌, length, min, sym, ◌∙◌}
use Rattle.std.proofs.lemmas.Slice.Zip.{zip_end}
use Rattle.std.specs.Ordering.{nat_cmp, on}
use Rattle.type_hierarchy.specs.declared.types.Ty.{Ty}
use Rattle.derivation.proofs.Orders.{slice_cmp-end}
use Rattle.line_charts.proofs.keys.compare_types.Goals as goal

pub returns : goal.returns
returns c =
    let ends : length c.loop-ty.yielded ≡ min (length c.args.types.now) (length c.args.others.now) =
    zip_end c.args.types.now c.args.others.now c.loop-ty.yielded _ _ c.next.new.self _ (cc) (cc) c.loop-ty.yielded_by c.in-None.is c.next.ensures.steps in
    c.cmp-2.ensures ∙ sym (slice_cmp-end (on (λ (t : Ty). t.0) nat_cmp) c.args.types.now c.args.others.now _ ends) ∙ sym c.loop-ty.invariant
