use Rattle.std.specs.Prelude.{◌≡◌, map, take}
use Rattle.std.specs.List.{Any}
use Rattle.mrs_model.specs.Meanings.{of_var}
use Rattle.mrs_model.specs.Views.{argument_of}
use Rattle.mrs_transfer.specs.Inner.Trimming.{IsMarked}
use Rattle.mrs_transfer.proofs.marking.mark_roles.Given as goal

abbrev pub invariant-loop-role : goal.invariant-loop-role
invariant-loop-role l = IsMarked (λ v. Any (λ a. a.filler ≡ of_var v) (map argument_of (take l.role-index l.roles))) l.fn.marks l.marks
