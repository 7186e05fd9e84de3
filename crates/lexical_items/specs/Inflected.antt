-- The lexical trees of a grammar: its entries under lexical rules, with the words that these spell (Copestake 2002: lexical rules with orthography).
use Rattle.std.specs.Prelude.{ℕ, ◌≡◌, ◌≤◌, List, None, length}
use Rattle.chart_model.specs.At.{At}
use Rattle.derivation.specs.Trees.{Derivation, lexical}
use Rattle.tree_model.specs.Structures.{Structure}
use Rattle.tree_model.specs.Signs.{Signs}
use Rattle.tree_model.specs.Lexical.{Word, Words, Spells, FullLexical}

-- a lexical tree with its full structure
pub record WordTree : Type 0 where
  pub tree : Derivation
  pub full : Structure

module _ (g : Signs) (words : Words) (most : ℕ) where
  -- an entry under at most so many lexical rules, with words that it spells, without nodes
  pub record IsInflected (x : WordTree) : Type 0 where
    pub entry : ℕ
    pub rules : List ℕ
    pub said : List Word
    pub is : x.tree ≡ lexical entry rules said None
    pub spells : Spells words entry rules said
    pub full : FullLexical g entry rules x.full
    pub few : length rules ≤ most

  -- exactly these, each once
  pub record AreInflected (xs : List WordTree) : Type 0 where
    pub each : (n : ℕ) (x : WordTree) → At xs n x → IsInflected x
    pub all : (x : WordTree) → IsInflected x → (n : ℕ) × (y : WordTree) × At xs n y × (y.tree ≡ x.tree)
    pub once : (n m : ℕ) (x y : WordTree) → At xs n x → At xs m y → x.tree ≡ y.tree → n ≡ m
