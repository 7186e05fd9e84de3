-- What `explain` is to do: of each line's tree it is told whether it is licensed, and if not, why not.
use Rattle.std.specs.Prelude.{ℕ, ◌≡◌, Bool, true, List, [], ◌∷◌, Option}
use Rattle.type_hierarchy.specs.Decls.{texts}
use Rattle.type_hierarchy.specs.Table.{TypeTable}
use Rattle.tree_faults.specs.Explained.{Licensed}
use Rattle.tree_faults.specs.Lines.{LineExplained, Tree, IsLineExplained, line_text, is_refused}
use Rattle.tree_names.specs.TreeGrammars.{tree_grammar}
use Rattle.mrs_lines.specs.Lines.{IsMrsLine}
use Rattle.endings.specs.Meanings.{Meaning}
use Rattle.engine.specs.Speeches.{Speech}
use Rattle.line_commands.specs.Lines.{lines_meaning}

-- what follows the line of the report: where MRSs are asked for, the line of a licensed tree's MRS
abbrev pub IsFollowedBy : Bool → Speech → LineExplained → List (List ℕ) → Type 0
IsFollowedBy true speech (Tree tree Licensed) rest = (line : List ℕ) × IsMrsLine speech.signs speech.semantics tree line × (rest ≡ line ∷ [])
IsFollowedBy mrs speech explained rest = rest ≡ []

-- by a grammar as lines see it, and the names of its types and features; `mrs` says whether MRSs are asked for
module _ (types : TypeTable) (feats : List (List ℕ)) (speech : Speech) (mrs : Bool) where
  -- The answer to the line of a number: its report lines, each with its end, and whether it is refused. The line's tree is read over the
  -- names of the grammar's instances.
  pub record IsExplainLine (number : ℕ) (line : List ℕ) (lines : List (List ℕ)) (refused : Bool) : Type 0 where
    pub explained : LineExplained
    pub is : IsLineExplained speech.signs speech.words (tree_grammar speech.signs speech.names) line explained
    pub rest : List (List ℕ)
    pub followed : IsFollowedBy mrs speech explained rest
    pub lines_are : lines ≡ line_text types feats speech.names number explained ∷ rest
    pub refused_is : refused ≡ is_refused explained

-- `explain`: what is told of the lines, one after the other
abbrev pub explain_meaning : List ℕ → Option (List ℕ) → Bool → Bool → Meaning
explain_meaning name settings verbose mrs = lines_meaning (λ g speech. IsExplainLine g.book.system.types (texts g.book.feats.items) speech mrs) name settings verbose
