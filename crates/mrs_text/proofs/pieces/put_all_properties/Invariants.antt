use Rattle.std.proofs.Common.{◌≡◌, ◌++◌, take, map}
use Rattle.std.specs.List.{flat_map}
use Rattle.mrs_model.specs.Views.{property_of}
use Rattle.mrs_text.specs.Written.{property_text}
use Rattle.mrs_text.proofs.pieces.put_all_properties.Given as goal

abbrev pub invariant-loop-prop : goal.invariant-loop-prop
invariant-loop-prop l = l.into.items ≡ l.initial.into.items ++ flat_map property_text (map property_of (take l.prop-index l.props))
