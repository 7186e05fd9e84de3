use Rattle.std.proofs.Common.{◌≡◌, ◌++◌, map, take}
use Rattle.mrs_model.specs.Inner.Items.{of_icon}
use Rattle.mrs_model.specs.Inner.State.{elements_of}
use Rattle.mrs_model.proofs.elements.push_icons.Given as goal

abbrev pub invariant-loop-icon : goal.invariant-loop-icon
invariant-loop-icon l = elements_of l.into.items ≡ elements_of l.fn.into.items ++ map of_icon (take l.icon-index l.icons)
