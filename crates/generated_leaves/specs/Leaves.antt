-- The leaves of generation for an input: lexical trees whose covers are within the bound; or that one is too deep.
use Rattle.std.specs.Prelude.{ℕ, ◌≡◌, Option, List}
use Rattle.chart_model.specs.At.{At}
use Rattle.chart_model.specs.declared.counts.Counts.{Counts}
use Rattle.derivation.specs.Trees.{Derivation}
use Rattle.tree_model.specs.Structures.{Structure}
use Rattle.tree_model.specs.Signs.{Signs}
use Rattle.tree_model.specs.Lexical.{Words}
use Rattle.tree_model.specs.Trees.{Full}
use Rattle.generate_model.specs.Realizations.{Asked, IsGenLeaf, IsCovering, IsGenTooDeep}

-- a lexical tree with its cover and its full structure
pub record WordLeaf : Type 0 where
  pub tree : Derivation
  pub cover : Counts
  pub full : Structure

-- what is found of the lexical trees for an input: one is too deep, or these are the leaves
pub data GenLexical : Type 0 where
  TooDeep : GenLexical
  Leaves : List WordLeaf → GenLexical

module _ (g : Signs) (words : Words) (asked : Asked) (most_rules most_empty : ℕ) (own : ℕ → Option Counts) where
  -- A leaf is a lexical tree without nodes; of its full structure there is an abstraction, since what it means is consistent.
  pub record IsLeafOf (x : WordLeaf) : Type 0 where
    pub leaf : IsGenLeaf g words asked most_rules most_empty own x.tree
    pub covering : IsCovering g words asked most_rules most_empty own x.tree x.cover
    pub full : Full g x.tree x.full

  -- exactly the leaves, each once
  pub record AreGenLeaves (xs : List WordLeaf) : Type 0 where
    pub each : (n : ℕ) (x : WordLeaf) → At xs n x → IsLeafOf x
    pub all : (t : Derivation) → IsGenLeaf g words asked most_rules most_empty own t → (n : ℕ) × (x : WordLeaf) × At xs n x × (x.tree ≡ t)
    pub once : (n m : ℕ) (x y : WordLeaf) → At xs n x → At xs m y → x.tree ≡ y.tree → n ≡ m

  -- the bag of a lexical tree with exactly one rule too many lies in the input's; or there is none such, and these are the leaves
  abbrev pub IsGenLexical : GenLexical → Type 0
  IsGenLexical TooDeep = IsGenTooDeep g words asked most_rules most_empty own
  IsGenLexical (Leaves xs) = (IsGenTooDeep g words asked most_rules most_empty own → ⊥) × AreGenLeaves xs
