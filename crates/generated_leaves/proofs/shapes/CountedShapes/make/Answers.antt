use Rattle.std.proofs.Common.{sym, subst}
use Rattle.fs_closing.specs.Rules.{system_of}
use Rattle.tree_model.specs.Structures.{IsPartialOrder}
use Rattle.grammar_shapes.proofs.TableLemmas.{ordered}
use Rattle.generated_leaves.proofs.shapes.CountedShapes.make.Goals as goal

pub invariant_of-result : goal.invariant_of-result
invariant_of-result c = record {
  order = subst (λ g. IsPartialOrder (system_of g)) (sym c.requires.system) (ordered c.args.system.now c.types.result.now c.types.ensures c.laws.ensures);
  sized = c.laws_of.ensures.of_covers.one_to_four;
  small = c.requires.small;
  each = c.requires.each;
}
