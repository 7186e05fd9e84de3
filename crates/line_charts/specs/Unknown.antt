-- The words of a lattice that no lexical tree covers.
use Rattle.std.specs.Prelude.{ℕ, ◌≡◌, Some, List, [], ◌∷◌, ◌++◌}
use Rattle.derivation.specs.Trees.{Derivation, lexical}
use Rattle.tree_model.specs.Signs.{Signs}
use Rattle.tree_model.specs.Lexical.{Word, Words}
use Rattle.tree_model.specs.Lattices.{Lattice, Step, Carries}
use Rattle.tree_model.specs.Licensed.{IsLeaf}

-- some path that carries the words of a lexical tree from its first node to its last takes this step
pub record Covers (lattice : Lattice) (t : Derivation) (s : Step) : Type 0 where
  pub entry : ℕ
  pub rules : List ℕ
  pub front : List Word
  pub back : List Word
  pub from : ℕ
  pub to : ℕ
  pub is : t ≡ lexical entry rules (front ++ s.word ∷ back) (Some (from, to))
  pub before : Carries lattice from front s.from
  pub after : Carries lattice s.to back to

module _ (g : Signs) (words : Words) (lattice : Lattice) (most : ℕ) where
  -- a lexical tree of at most `most` rules covers the step
  abbrev pub IsKnown : Step → Type 0
  IsKnown s = (t : Derivation) × IsLeaf g words lattice most t × Covers lattice t s

  -- those of some steps that no lexical tree covers, in order
  pub data AreUnknown : List Step → List Step → Type 0 where
    unknown_none : AreUnknown [] []
    unknown_passed : {ss us : List Step} (s : Step) → IsKnown s → AreUnknown ss us → AreUnknown (s ∷ ss) us
    unknown_here : {ss us : List Step} (s : Step) → (IsKnown s → ⊥) → AreUnknown ss us → AreUnknown (s ∷ ss) (s ∷ us)
