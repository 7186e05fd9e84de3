-- The answer to a line: why its tree is licensed or not, or that it writes none.
use Rattle.std.specs.Prelude.{ℕ, Bool, true, List, take}
use Rattle.std.specs.Str.{IsUtf8, IsValidUpTo}
use Rattle.type_hierarchy.specs.Table.{TypeTable}
use Rattle.derivation.specs.Trees.{Derivation}
use Rattle.tree_model.specs.Signs.{Signs}
use Rattle.tree_model.specs.Lexical.{Words}
use Rattle.tree_reading.specs.Grammars.{TreeGrammar}
use Rattle.tree_reading.specs.Texts.{Writes, IsTreeOf, IsFirstFault}
use Rattle.tree_faults.specs.Explained.{Explained, IsExplained}
use Rattle.tree_faults.specs.Texts.{explained_line, no_tree_line}
use Rattle.tree_faults.specs.Texts as texts

pub data LineExplained : Type 0 where
  -- the line writes no tree; its first fault stands at this byte
  NoTree : ℕ → LineExplained
  Tree : Derivation → Explained → LineExplained

-- The byte of the first fault. Where the line isn't UTF-8, that of its longest front that is, or the end of that front where it writes a tree.
pub data IsNoTree (g : TreeGrammar) (line : List ℕ) : ℕ → Type 0 where
  in_text : (at : ℕ) → IsUtf8 line → IsFirstFault g line at → IsNoTree g line at
  in_front : (n at : ℕ) → (IsUtf8 line → ⊥) → IsValidUpTo line n → IsFirstFault g (take n line) at → IsNoTree g line at
  after_tree : (n : ℕ) (tree : Derivation) → (IsUtf8 line → ⊥) → IsValidUpTo line n → Writes g (take n line) tree → IsNoTree g line n

pub data IsLineExplained (g : Signs) (words : Words) (names : TreeGrammar) (line : List ℕ) : LineExplained → Type 0 where
  no_tree : (at : ℕ) → IsNoTree names line at → IsLineExplained g words names line (NoTree at)
  a_tree : (tree : Derivation) (e : Explained) → IsUtf8 line → IsTreeOf names line tree → IsExplained g words tree e → IsLineExplained g words names line (Tree tree e)

-- the line of the report; with MRSs that of a licensed tree's MRS follows it
abbrev pub line_text : TypeTable → (feats names : List (List ℕ)) → ℕ → LineExplained → List ℕ
line_text types feats names number (NoTree at) = no_tree_line number at
line_text types feats names number (Tree tree e) = explained_line types feats names number e

-- everything but a licensed tree is a refused item
abbrev pub is_refused : LineExplained → Bool
is_refused (NoTree at) = true
is_refused (Tree tree e) = texts.is_refused e
