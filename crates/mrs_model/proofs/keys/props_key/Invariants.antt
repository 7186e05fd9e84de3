use Rattle.std.proofs.Common.{◌≡◌, drop, map}
use Rattle.mrs_model.specs.Views.{property_of}
use Rattle.mrs_model.specs.Digest.{props_key}
use Rattle.mrs_model.proofs.keys.props_key.Given as goal

abbrev pub invariant-loop-prop : goal.invariant-loop-prop
invariant-loop-prop l = props_key l.sum (map property_of (drop l.prop-index l.props)) ≡ props_key l.fn.key (map property_of l.props)
