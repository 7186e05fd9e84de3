use Rattle.std.specs.Prelude.{◌≡◌, ◌++◌, map, take, drop}
use Rattle.mrs_model.specs.Views.{argument_of}
use Rattle.mrs_model.specs.Renaming.{renamed_argument}
use Rattle.mrs_transfer.proofs.renumbering.renumber_roles.Given as goal

-- those before this one have other numbers
abbrev pub invariant-loop-role : goal.invariant-loop-role
invariant-loop-role l = map argument_of l.roles ≡ map (renamed_argument l.to) (take l.role-index (map argument_of l.fn.roles)) ++ drop l.role-index (map argument_of l.fn.roles)
