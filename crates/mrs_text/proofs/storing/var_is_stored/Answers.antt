use Rattle.std.proofs.Common.{List, map, subst}
use Rattle.std.specs.List.{All}
use Rattle.mrs_model.specs.declared.Prop.{Prop}
use Rattle.mrs_model.specs.Views.{property_of}
use Rattle.mrs_text.specs.Stored.{IsStoredProperty}
use Rattle.mrs_text.proofs.storing.var_is_stored.Goals as goal

pub returns : goal.returns
returns c = subst (λ (xs : List Prop). All IsStoredProperty (map property_of xs)) c.deref.ensures.value c.props_are_stored.ensures
