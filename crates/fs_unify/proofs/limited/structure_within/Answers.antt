use Rattle.std.proofs.Common.{subst}
use Rattle.type_hierarchy.specs.Laws.{HasTypeLaws}
use Rattle.fs_closing.proofs.OrderLemmas.{order_of_laws}
use Rattle.fs_unify.proofs.limited.structure_within.Goals as goal

pub structure_few-answer-requires-clause-order : goal.structure_few-answer-requires-clause-order
structure_few-answer-requires-clause-order c = order_of_laws c.args.system.now (subst HasTypeLaws c.types-types.ensures c.laws.ensures)
