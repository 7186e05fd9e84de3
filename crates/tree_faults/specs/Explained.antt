-- Whether a tree is licensed, and if not, why not (Copestake 2002: structures of phrases, and where they fail).
use Rattle.std.specs.Prelude.{ℕ, ◌≡◌, List}
use Rattle.fs_model.specs.Claims.{Path}
use Rattle.derivation.specs.Trees.{Derivation}
use Rattle.tree_model.specs.Structures.{Structure}
use Rattle.tree_model.specs.Mothers.{Rule, Parts}
use Rattle.tree_model.specs.Signs.{Signs}
use Rattle.tree_model.specs.Lexical.{Words}
use Rattle.tree_model.specs.Trees.{Full, IsRooted}
use Rattle.forced_types.specs.Verdicts.{Verdict, Clash, TooLong, IsVerdict}
use Rattle.tree_faults.specs.Nodes.{Place, StandsAt, instance_of, ComesBefore, IsMadeOf}
use Rattle.tree_faults.specs.Spelled.{AreSpelled, IsFirstMisspelled}

-- of a node its place in the tree and the instance that it names
pub data Explained : Type 0 where
  -- each node has its structure, each lexical tree spells its words, and some root unifies
  Licensed : Explained
  -- this node is the first without a structure: its parts force both types at this path, which have no common subtype
  Clashes : (place : Place) (instance : ℕ) (path : Path) (t u : ℕ) → Explained
  -- this node is the first without a structure: its parts force a path that is too long, and no such types
  GoesTooFar : (place : Place) (instance : ℕ) (path : Path) → Explained
  -- each node has its structure, and this one is the first that doesn't spell the words
  Misspelled : (place : Place) (instance : ℕ) → Explained
  -- each node has its structure, each lexical tree spells its words, and no root unifies
  Unrooted : Explained

abbrev pub HasStructure : Signs → Derivation → Type 0
HasStructure g t = (f : Structure) × Full g t f

-- The node at a place is the first without a structure, and this is the verdict on what it is made of.
pub record IsFirstWithout (g : Signs) (t : Derivation) (place : Place) (instance : ℕ) (verdict : Verdict) : Type 0 where
  pub node : Derivation
  pub stands : StandsAt t place node
  pub named : instance_of node ≡ instance
  pub none : HasStructure g node → ⊥
  pub before : (q : Place) (other : Derivation) → StandsAt t q other → ComesBefore q place → HasStructure g other
  pub rule : Rule
  pub daughters : List Structure
  pub made_of : IsMadeOf g node rule daughters
  pub forced : IsVerdict g.system (Parts g.paths rule daughters) verdict

module _ (g : Signs) (words : Words) (t : Derivation) where
  abbrev pub IsExplained : Explained → Type 0
  IsExplained Licensed = (f : Structure) × Full g t f × AreSpelled words t × IsRooted g f
  IsExplained (Clashes place instance path t1 t2) = IsFirstWithout g t place instance (Clash path t1 t2)
  IsExplained (GoesTooFar place instance path) = IsFirstWithout g t place instance (TooLong path)
  IsExplained (Misspelled place instance) = HasStructure g t × IsFirstMisspelled words t place instance
  IsExplained Unrooted = HasStructure g t × AreSpelled words t × ((f : Structure) → Full g t f → IsRooted g f → ⊥)
