use Rattle.std.specs.Prelude.{◌≡◌, ◌++◌, map, take, drop}
use Rattle.mrs_model.specs.Views.{predication_of}
use Rattle.transfer_model.specs.Applying.{renumbered}
use Rattle.mrs_transfer.proofs.renumbering.renumber_eps.Given as goal

-- those before this one have other numbers
abbrev pub invariant-loop-ep : goal.invariant-loop-ep
invariant-loop-ep l = map predication_of l.eps ≡ map (renumbered l.to) (take l.ep-index (map predication_of l.fn.eps)) ++ drop l.ep-index (map predication_of l.fn.eps)
