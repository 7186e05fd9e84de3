use Rattle.std.proofs.Common.{◌≡◌, drop, map}
use Rattle.mrs_model.specs.Views.{argument_of}
use Rattle.mrs_model.specs.Digest.{arguments_key}
use Rattle.mrs_model.proofs.keys.roles_key.Given as goal

abbrev pub invariant-loop-role : goal.invariant-loop-role
invariant-loop-role l = arguments_key l.sum (map argument_of (drop l.role-index l.roles)) ≡ arguments_key l.fn.key (map argument_of l.roles)
