-- The lexical trees of a lattice, as a list.
use Rattle.std.specs.Prelude.{ℕ, ◌≡◌, ◌<◌, List}
use Rattle.chart_model.specs.At.{At}
use Rattle.derivation.specs.Trees.{Derivation}
use Rattle.tree_model.specs.Structures.{Structure}
use Rattle.tree_model.specs.Signs.{Signs}
use Rattle.tree_model.specs.Lexical.{Words}
use Rattle.tree_model.specs.Trees.{Full}
use Rattle.tree_model.specs.Lattices.{Lattice, Spans}
use Rattle.tree_model.specs.Licensed.{IsLeaf, IsTooDeep}

-- a lexical tree with the nodes between which it lies and its full structure
pub record Lexeme : Type 0 where
  pub tree : Derivation
  pub from : ℕ
  pub to : ℕ
  pub full : Structure

-- what is found of the lexical trees of a lattice: one is too deep, or these are they
pub data Lexical : Type 0 where
  TooDeep : Lexical
  Trees : List Lexeme → Lexical

module _ (g : Signs) (words : Words) (lattice : Lattice) (most : ℕ) where
  pub record IsLexeme (x : Lexeme) : Type 0 where
    pub leaf : IsLeaf g words lattice most x.tree
    pub lies : Spans x.tree x.from x.to
    pub forward : x.from < x.to
    pub full : Full g x.tree x.full

  -- exactly the lexical trees of at most `most` rules in the lattice, each once
  pub record AreLexemes (xs : List Lexeme) : Type 0 where
    pub each : (n : ℕ) (x : Lexeme) → At xs n x → IsLexeme x
    pub all : (t : Derivation) → IsLeaf g words lattice most t → (n : ℕ) × (x : Lexeme) × At xs n x × (x.tree ≡ t)
    pub once : (n m : ℕ) (x y : Lexeme) → At xs n x → At xs m y → x.tree ≡ y.tree → n ≡ m

  -- one with exactly one rule more lies in the lattice; or none does, and these are the others
  abbrev pub IsLexicalAnswer : Lexical → Type 0
  IsLexicalAnswer TooDeep = IsTooDeep g words lattice most
  IsLexicalAnswer (Trees xs) = (IsTooDeep g words lattice most → ⊥) × AreLexemes xs
