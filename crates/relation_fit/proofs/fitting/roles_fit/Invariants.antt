use Rattle.std.proofs.Common.{◌≡◌, take, true}
use Rattle.std.specs.List.{list_all}
use Rattle.relation_fit.specs.Tests.{role_fits}
use Rattle.relation_fit.proofs.fitting.roles_fit.Given as goal

abbrev pub invariant-loop-k : goal.invariant-loop-k
invariant-loop-k l = list_all (role_fits l.types l.graph l.node.0) (take l.k l.roles) ≡ true
