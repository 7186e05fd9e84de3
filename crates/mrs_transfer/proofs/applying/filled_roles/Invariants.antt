use Rattle.std.specs.Prelude.{◌≡◌, map, take}
use Rattle.mrs_model.specs.Renaming.{renamed_argument}
use Rattle.mrs_model.specs.Views.{argument_of}
use Rattle.mrs_transfer.proofs.applying.filled_roles.Given as goal

abbrev pub invariant-loop-role : goal.invariant-loop-role
invariant-loop-role l = map argument_of l.all.items ≡ map (renamed_argument l.vars) (map argument_of (take l.role-index l.roles))
