use Rattle.std.proofs.Common.{◌≡◌, map, take}
use Rattle.scope_resolve.specs.Inner.Building.{qeq_from}
use Rattle.mrs_model.specs.Views.{hcon_of}
use Rattle.scope_resolve.proofs.building.qeqs.Given as goal

abbrev pub invariant-loop-hcon : goal.invariant-loop-hcon
invariant-loop-hcon l = l.out.items ≡ map (qeq_from l.numbers) (map hcon_of (take l.hcon-index l.hcons))
