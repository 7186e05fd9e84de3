use Rattle.std.proofs.Common.{◌≡◌, true}
use Rattle.std.specs.Prelude.{IfSome}
use Rattle.type_hierarchy.specs.Table.{is_below}
use Rattle.fs_closing.specs.Constraints.{IsConstraint}
use Rattle.fs_closing.proofs.system.TypeSystem.greatest_above.Given as goal

abbrev pub invariant-loop-rule : goal.invariant-loop-rule
invariant-loop-rule l =
    IfSome l.best (λ k. (is_below l.self.types l.t k.now.ty ≡ true) × IsConstraint l.self k.now.ty k.now.graph)
