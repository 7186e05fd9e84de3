use Rattle.std.proofs.Common.{◌≡◌, ℕ, ◌<◌, ◌++◌, map, take, true}
use Rattle.type_hierarchy.specs.Decls.{declared, texts, number_of}
use Rattle.type_hierarchy.specs.Inner.Parents.{is_known, parent_at}
use Rattle.type_hierarchy.proofs.parents.parent_numbers.Given as goal

abbrev pub invariant-loop-parent : goal.invariant-loop-parent
invariant-loop-parent l =
    record {
      numbers : l.numbers.items ≡ l.initial.numbers.items ++ map (number_of (texts l.names.keys)) (take l.parent-index (declared l.decl).parents);
      known : (i : ℕ) → i < l.parent-index → is_known (texts l.names.keys) (parent_at (declared l.decl) i) ≡ true;
    }
