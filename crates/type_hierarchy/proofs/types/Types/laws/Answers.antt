use Rattle.std.proofs.Common.{subst}
use Rattle.type_hierarchy.specs.Laws.{HasTypeLaws}
use Rattle.type_hierarchy.proofs.LawLemmas.{type_laws}
use Rattle.type_hierarchy.proofs.types.Types.laws.Goals as goal

pub returns : goal.returns
returns c = subst HasTypeLaws c.self.view_is (type_laws _ c.self.invariant.order c.self.invariant.closed)
