use Rattle.std.proofs.Common.{sym, ◌∙◌, arith}
use Rattle.type_hierarchy.specs.Table.{count_of}
use Rattle.fs_closing.specs.Systems.{rules_of}
use Rattle.fs_closing.proofs.OutlineLemmas.{place_in, ty_in, end_more}
use Rattle.fs_closing.proofs.outline.end_of.Goals as goal

pub type_of-ty-requires : goal.type_of-ty-requires
type_of-ty-requires c = place_in c.args.constraints.now c.args.order.now c.args.i c.requires.order c.requires.i_in

pub type_of-other-requires : goal.type_of-other-requires
type_of-other-requires c = place_in c.args.constraints.now c.args.order.now c.loop-k.k c.requires.order c.loop-k-test.true

pub at_or_below-requires-clause-a_in : goal.at_or_below-requires-clause-a_in
at_or_below-requires-clause-a_in c =
    omega (
      arith,
      c.type_of-other.ensures,
      ty_in (rules_of c.args.constraints.now) (count_of c.args.types.now) c.args.order.now c.loop-k.k c.requires.types_in c.requires.order c.loop-k-test.true,
    )

pub at_or_below-requires-clause-b_in : goal.at_or_below-requires-clause-b_in
at_or_below-requires-clause-b_in c =
    omega (
      arith,
      c.type_of-ty.ensures,
      ty_in (rules_of c.args.constraints.now) (count_of c.args.types.now) c.args.order.now c.args.i c.requires.types_in c.requires.order c.requires.i_in,
    )

pub loop-k-preserved : goal.loop-k-preserved
loop-k-preserved c = record {
  behind = omega (arith, c.loop-k.invariant.behind);
  below = end_more c.args.types.now (rules_of c.args.constraints.now) c.args.order.now c.args.i c.loop-k.k c.type_of-other.result.0 c.type_of-ty.result.0
      c.type_of-other.ensures c.type_of-ty.ensures (sym c.at_or_below.ensures ∙ c.if-not-at_or_below.false) c.loop-k.invariant.below;
}
