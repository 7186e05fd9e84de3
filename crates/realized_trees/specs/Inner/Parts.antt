-- Daughters that are dropped.
use Rattle.std.specs.Prelude.{List, [], ◌∷◌, Option, Some, None}
use Rattle.std.proofs.Common.{Global}
use Rattle.std.specs.Arc.{arc_value}
use Rattle.std.specs.declared.sync.Arc.{Arc}
use Rattle.fs_model.specs.Claims.{Has}
use Rattle.tree_model.specs.Structures.{Structure}
use Rattle.mrs_places.specs.Paths.{Paths}
use Rattle.book_signs.specs.Trees.{SignTree}
use Rattle.realized_trees.specs.declared.sifting.Sieve.{Sieve}
use Rattle.realized_trees.specs.Sieves.{MayDrop}

-- one of these is dropped
abbrev pub HasDropped : SignTree → Paths → Option Sieve → List Structure → Type 0
HasDropped t p o fs = (f : Structure) × Has f fs × MayDrop t p o f

-- the structure of a daughter, where she is there
abbrev pub of_part : {T : Type 0} → Option (Arc T Global) → List T
of_part None = []
of_part (Some a) = arc_value a ∷ []
