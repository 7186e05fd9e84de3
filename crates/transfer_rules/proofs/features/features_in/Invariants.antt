use Rattle.std.proofs.Common.{◌≡◌, ◌++◌, drop, map}
use Rattle.std.specs.Option.{option_map}
use Rattle.tdl_reader.specs.Trees.{attrs_of}
use Rattle.tdl_reader.specs.Views.{attr_of}
use Rattle.transfer_rules.specs.Features.{features_in}
use Rattle.transfer_rules.specs.Inner.Views.{feature_of}
use Rattle.transfer_rules.proofs.features.features_in.Given as goal

abbrev pub invariant-loop-attr : goal.invariant-loop-attr
invariant-loop-attr l = option_map (λ fs. map feature_of l.features.items ++ fs) (features_in (attrs_of (map attr_of (drop l.attr-index l.attrs)))) ≡ features_in (attrs_of (map attr_of l.attrs))
