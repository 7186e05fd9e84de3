use Rattle.std.proofs.Common.{◌≡◌, ◌++◌, drop, map}
use Rattle.std.specs.Option.{option_map}
use Rattle.tdl_reader.specs.Trees.{items_of}
use Rattle.tdl_reader.specs.Views.{body_in}
use Rattle.transfer_rules.specs.Features.{elements_in}
use Rattle.transfer_rules.specs.Inner.Views.{features_seen}
use Rattle.transfer_rules.proofs.features.elements_in.Given as goal

abbrev pub invariant-loop-item : goal.invariant-loop-item
invariant-loop-item l = option_map (λ xs. map features_seen l.elements.items ++ xs) (elements_in (items_of (map body_in (drop l.item-index l.items)))) ≡ elements_in (items_of (map body_in l.items))
