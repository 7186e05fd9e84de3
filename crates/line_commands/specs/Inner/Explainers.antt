-- What an explainer says.
use Rattle.std.specs.Prelude.{ℕ, ◌≡◌, ◌∷◌, Bool, List, length}
use Rattle.derivation.specs.Trees.{Derivation}
use Rattle.tree_faults.specs.Explained.{Explained, IsExplained}
use Rattle.tree_faults.specs.Views.{IsExplainedNamed}
use Rattle.tree_faults.specs.Texts.{explained_line, is_refused}
use Rattle.tree_faults.specs.Lines.{Tree}
use Rattle.engine.specs.Views.{speech_of}
pub use Rattle.line_commands.specs.Views.{IsReadyToExplain}
use Rattle.line_commands.specs.Explaining.{IsFollowedBy, IsExplainLine}
use Rattle.line_commands.specs.Inner.Charters.{types_in, feats_in}
use Rattle.line_commands.specs.declared.explainer.Explainer.{Explainer}

-- what is told of a tree
abbrev pub IsToldOf : Explainer → Derivation → Explained → Type 0
IsToldOf x = IsExplained (speech_of x.engine).signs (speech_of x.engine).words

-- what is told has names
abbrev pub HasNames : Explainer → Explained → Type 0
HasNames x = IsExplainedNamed (types_in x.engine) (length x.engine.grammar.now.book.feats.items) (length x.engine.grammar.now.names.items)

-- its line
abbrev pub line_told : Explainer → ℕ → Explained → List ℕ
line_told x = explained_line (types_in x.engine) (feats_in x.engine) (speech_of x.engine).names

-- the report lines of what is told of a tree
pub record AreLinesOf (x : Explainer) (number : ℕ) (tree : Derivation) (explained : Explained) (lines : List (List ℕ)) : Type 0 where
  pub rest : List (List ℕ)
  pub followed : IsFollowedBy x.mrs (speech_of x.engine) (Tree tree explained) rest
  pub are : lines ≡ line_told x number explained ∷ rest

-- the report on a tree
pub record IsReportOn (x : Explainer) (number : ℕ) (tree : Derivation) (lines : List (List ℕ)) (refused : Bool) : Type 0 where
  pub explained : Explained
  pub told : IsToldOf x tree explained
  pub lines_are : AreLinesOf x number tree explained lines
  pub refused_is : refused ≡ is_refused explained

-- the answer to a line
abbrev pub IsLineOf : Explainer → ℕ → List ℕ → List (List ℕ) → Bool → Type 0
IsLineOf x = IsExplainLine (types_in x.engine) (feats_in x.engine) (speech_of x.engine) x.mrs
