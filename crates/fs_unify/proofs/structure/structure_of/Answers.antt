use Rattle.std.proofs.Common.{subst}
use Rattle.type_hierarchy.specs.Laws.{HasTypeLaws}
use Rattle.fs_closing.proofs.OrderLemmas.{order_of_laws}
use Rattle.fs_unify.proofs.structure.structure_of.Goals as goal

pub structure-answer-requires-clause-order : goal.structure-answer-requires-clause-order
structure-answer-requires-clause-order c = order_of_laws c.args.system.now (subst HasTypeLaws c.types-types.ensures c.laws.ensures)
