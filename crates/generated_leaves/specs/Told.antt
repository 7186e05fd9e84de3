-- The lexical trees of a grammar with the predicates that they contribute, made once for a grammar.
use Rattle.std.specs.Prelude.{ℕ, ◌≡◌, List}
use Rattle.chart_model.specs.At.{At}
use Rattle.derivation.specs.Trees.{Derivation}
use Rattle.type_hierarchy.specs.Table.{TypeTable}
use Rattle.mrs_places.specs.Paths.{Paths}
use Rattle.tree_model.specs.Structures.{Structure}
use Rattle.tree_model.specs.Signs.{Signs}
use Rattle.tree_model.specs.Lexical.{Word, Words}
use Rattle.lexical_items.specs.Inflected.{WordTree, IsInflected}
use Rattle.generate_model.specs.Contributions.{Input, Contribution}

-- a lexical tree with its full structure, and the predicates that it contributes
pub record ToldWord : Type 0 where
  pub tree : Derivation
  pub full : Structure
  pub preds : List Word

abbrev pub word_of : ToldWord → WordTree
word_of x = record { tree = x.tree; full = x.full }

-- a leaf of this full structure contributes these, to each input with these types and paths
abbrev pub IsSaid : Signs → TypeTable → Paths → Structure → List Word → Type 0
IsSaid g types paths f ws = (input : Input) → input.types ≡ types → input.paths ≡ paths → Contribution g input f ws

module _ (g : Signs) (words : Words) (types : TypeTable) (paths : Paths) (most : ℕ) where
  pub record IsToldWord (x : ToldWord) : Type 0 where
    pub inflected : IsInflected g words most (word_of x)
    pub said : IsSaid g types paths x.full x.preds

  -- exactly the lexical trees of at most so many rules, each once, with what they contribute
  pub record AreTold (xs : List ToldWord) : Type 0 where
    pub each : (n : ℕ) (x : ToldWord) → At xs n x → IsToldWord x
    pub all : (w : WordTree) → IsInflected g words most w → (n : ℕ) × (x : ToldWord) × At xs n x × (x.tree ≡ w.tree)
    pub once : (n m : ℕ) (x y : ToldWord) → At xs n x → At xs m y → x.tree ≡ y.tree → n ≡ m
