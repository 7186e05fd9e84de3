use Rattle.std.proofs.Common.{◌≡◌, ◌++◌, ◌∷◌, take}
use Rattle.std.specs.Fmt.{decimal}
use Rattle.std.specs.List.{flat_map}
use Rattle.tree_faults.proofs.texts.put_steps.Given as goal

abbrev pub invariant-loop-step : goal.invariant-loop-step
invariant-loop-step l = l.into.items ≡ l.initial.into.items ++ flat_map (λ k. 46 ∷ decimal k) (take l.step-index l.place)
