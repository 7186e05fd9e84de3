use Rattle.std.proofs.Common.{◌∙◌}
use Rattle.type_hierarchy.proofs.types.Types.supertypes.Goals as goal

pub returns : goal.returns
returns c = c.in_ok-types_of.ensures ∙ c.deref.ensures.value ∙ c.in_ok-lowest.ensures
