use Rattle.std.proofs.Common.{◌≡◌, ◌<◌, ◌≤◌, ◌-◌, false, length, filter, slice_index_or, sym, ◌∙◌, ap, subst, arith}
use Rattle.std.proofs.lemmas.List.{get_or_default, take_all}
use Rattle.type_hierarchy.specs.Table.{is_below}
use Rattle.fs_closing.specs.Rules.{no_rule}
use Rattle.fs_closing.specs.Systems.{rules_of}
use Rattle.fs_closing.specs.Inner.Outlines.{IsEnd}
use Rattle.fs_closing.proofs.OutlineLemmas.{place_in, passed_over, same_above}
use Rattle.fs_closing.proofs.rule_rows.row_above.Goals as goal

pub type_of-requires : goal.type_of-requires
type_of-requires c =
    let order = c.args.outline.now.order.items in
    let i_in : c.loop-i.i < length c.args.outline.now.order.items = omega (arith, c.loop-i-test.true, c.len.ensures) in
    omega (arith, c.index-place.ensures ∙ get_or_default order c.loop-i.i _ 0 i_in, place_in c.args.constraints.now order c.loop-i.i c.requires.outline.same i_in)

pub loop-i-smaller : goal.loop-i-smaller
loop-i-smaller c =
    let outline = c.args.outline.now in
    let i_in : c.loop-i.i < length c.args.outline.now.order.items = omega (arith, c.loop-i-test.true, c.len.ensures) in
    let end = c.requires.outline.each_end.ends_at c.loop-i.i i_in in
    let at = c.index-i.ensures ∙ get_or_default outline.ends.items c.loop-i.i _ 0 (omega (arith, i_in, c.requires.outline.each_end.each)) in
    let smaller : length c.args.outline.now.order.items - c.index-i.result.now < length c.args.outline.now.order.items - c.loop-i.i =
    omega (arith, i_in, at, end.behind, end.within) in
    smaller

pub loop-i-preserved : goal.loop-i-preserved
loop-i-preserved c =
    let types = c.args.types.now in
    let rules = rules_of c.args.constraints.now in
    let outline = c.args.outline.now in
    let order = outline.order.items in
    let i = c.loop-i.i in
    let i_in : c.loop-i.i < length c.args.outline.now.order.items = omega (arith, c.loop-i-test.true, c.len.ensures) in
    let at = c.index-i.ensures ∙ get_or_default outline.ends.items i _ 0 (omega (arith, i_in, c.requires.outline.each_end.each)) in
    let end = subst (IsEnd types rules order i) (sym at) (c.requires.outline.each_end.ends_at i i_in) in
    let place = c.index-place.ensures ∙ get_or_default order i _ 0 i_in in
    let free : is_below c.args.types.now c.args.t
    (slice_index_or (rules_of c.args.constraints.now) (slice_index_or c.args.outline.now.order.items c.loop-i.i 0) no_rule).ty ≡ false =
    ap (λ z. is_below types c.args.t (slice_index_or rules z no_rule).ty) (sym place) ∙ ap (is_below types c.args.t) (sym c.type_of.ensures) ∙ sym c.at_or_below.ensures
    ∙ c.if-at_or_below.false in
    record {
      row_is = c.loop-i.invariant.row_is ∙ sym (passed_over types rules order c.args.t c.laws.ensures.transitive i c.index-i.result.now end free);
      within = end.within;
    }

pub returns : goal.returns
returns c =
    let rules = rules_of c.args.constraints.now in
    let order = c.args.outline.now.order.items in
    let over : length c.args.outline.now.order.items ≤ c.loop-i.i = omega (arith, c.loop-i-test.false, c.len.ensures) in
    same_above c.args.types.now rules c.args.t order c.loop-i.row.items c.requires.outline.same
    (c.loop-i.invariant.row_is ∙ ap (filter (λ k. is_below c.args.types.now c.args.t (slice_index_or rules k no_rule).ty)) (take_all c.loop-i.i order over))
