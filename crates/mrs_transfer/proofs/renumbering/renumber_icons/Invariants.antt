use Rattle.std.specs.Prelude.{◌≡◌, ◌++◌, map, take, drop}
use Rattle.mrs_model.specs.Views.{icon_of}
use Rattle.mrs_model.specs.Renaming.{renamed_constraint}
use Rattle.mrs_transfer.proofs.renumbering.renumber_icons.Given as goal

-- those before this one have other numbers
abbrev pub invariant-loop-icon : goal.invariant-loop-icon
invariant-loop-icon l = map icon_of l.icons ≡ map (renamed_constraint l.to) (take l.icon-index (map icon_of l.fn.icons)) ++ drop l.icon-index (map icon_of l.fn.icons)
