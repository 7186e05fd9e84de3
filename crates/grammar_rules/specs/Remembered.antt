-- What lines share: the shapes of full structures.
use Rattle.std.specs.Prelude.{◌≡◌}
use Rattle.tree_model.specs.Structures.{Structure}
use Rattle.tree_model.specs.Mothers.{Meant, IsAbstract}
use Rattle.tree_model.specs.Signs.{rule_system}
use Rattle.book_signs.specs.Trees.{SignTree, signs_of}
use Rattle.grammar_shapes.specs.declared.shapes.GrammarShapes.{GrammarShapes}
use Rattle.grammar_shapes.specs.Shaped.{Shape}
use Rattle.grammar_shapes.specs.Systems.{meaning_of, Belongs}

-- the signs and the shapes of which something is remembered
pub record MemoryTree : Type 0 where
  pub signs : SignTree
  pub shapes : GrammarShapes

-- a shape is one of these, and stands for the abstraction of a full structure
pub record IsFullShape (t : SignTree) (s : GrammarShapes) (full : Structure) (place : Shape) : Type 0 where
  pub belongs : Belongs s place
  pub shape : IsAbstract (rule_system (signs_of t)) (Meant (rule_system (signs_of t)) full) (meaning_of s place)

-- what is remembered is of these signs and these shapes
abbrev pub IsMemoryOf : SignTree → GrammarShapes → MemoryTree → Type 0
IsMemoryOf t s shared = shared ≡ record { signs = t; shapes = s }
