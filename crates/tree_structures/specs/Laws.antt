-- What holds of full structures of trees.
use Rattle.std.specs.Prelude.{◌≡◌}
use Rattle.fs_model.specs.Claims.{IsOrder}
use Rattle.fs_model.specs.Closure.{AreConsistent}
use Rattle.fs_graph.specs.GraphMap.{GraphMap}
use Rattle.derivation.specs.Trees.{Derivation}
use Rattle.tree_model.specs.Structures.{Structure}
use Rattle.tree_model.specs.Mothers.{Meant}
use Rattle.tree_model.specs.Signs.{Signs, rule_system}
use Rattle.tree_model.specs.Trees.{Full}
use Rattle.rule_trees.specs.Mothers.{IsMade}
use Rattle.tree_structures.specs.Formed.{IsFormed}
use Rattle.tree_structures.specs.Meant.{IsMeantBy}

-- A tree that has a full structure is formed of entries and rules.
abbrev pub FullsAreFormed : Type 0
FullsAreFormed = (g : Signs) (t : Derivation) (f : Structure) → Full g t f → IsFormed g t

-- The full structure of a tree is an entry's, or made by a rule.
abbrev pub FullsAreMade : Type 0
FullsAreMade = (g : Signs) (t : Derivation) (f : Structure) → Full g t f → IsMade g f

-- What the full structure of a tree means is consistent.
abbrev pub FullsAreSound : Type 0
FullsAreSound = (g : Signs) (t : Derivation) (f : Structure) → Full g t f → AreConsistent g.system (Meant (rule_system g) f)

-- What a structure means is one graph.
abbrev pub GraphsAreOne : Type 0
GraphsAreOne = (g : Signs) → IsOrder g.system → (f : Structure) (a b : GraphMap) → IsMeantBy g f a → IsMeantBy g f b → a ≡ b
