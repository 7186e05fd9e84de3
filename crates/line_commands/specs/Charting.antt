-- What `chart` is to do: the lines of the input are answered with their packed forests (Oepen and Carroll 2000).
use Rattle.std.specs.Prelude.{ℕ, ◌≡◌, Bool, List, Option}
use Rattle.type_hierarchy.specs.Decls.{texts}
use Rattle.type_hierarchy.specs.Table.{TypeTable}
use Rattle.tree_model.specs.Items.{Limits}
use Rattle.morph_analysis.specs.Lattices.{LatticeTree}
use Rattle.lexical_items.specs.Seen.{lattice_seen}
use Rattle.line_charts.specs.Answers.{ChartAnswer, IsChartAnswer}
use Rattle.line_charts.specs.Texts.{chart_lines, is_refused}
use Rattle.endings.specs.Meanings.{Meaning}
use Rattle.engine.specs.Speeches.{Speech}
use Rattle.line_commands.specs.Lines.{IsLineAnswer, lines_meaning}

-- by a grammar as lines see it, and the names of its types and features, in which structures are written to be put in order; within the
-- limits, `lexical` being the most rules of a lexical tree; `writes` says whether a line writes its lattice
module _ (types : TypeTable) (feats : List (List ℕ)) (speech : Speech) (limits : Limits) (lexical : ℕ) (writes : Bool) where
  -- What is written of the packed forest of a lattice, in the line of a number; it is refused where a limit is broken.
  pub record IsForestReport (number : ℕ) (lattice : LatticeTree) (lines : List (List ℕ)) (refused : Bool) : Type 0 where
    pub answer : ChartAnswer
    pub is : IsChartAnswer speech.signs types feats speech.words (lattice_seen lattice) lexical limits answer
    pub lines_are : lines ≡ chart_lines types speech.names writes number answer
    pub refused_is : refused ≡ is_refused answer

  -- The answer to the line of a number: its report lines, each with its end, and whether it is refused.
  abbrev pub IsChartLine : ℕ → List ℕ → List (List ℕ) → Bool → Type 0
  IsChartLine number = IsLineAnswer writes (IsForestReport number) number

-- `chart`: the packed forests of the lines, one after the other
abbrev pub chart_meaning : List ℕ → Option (List ℕ) → Bool → Limits → ℕ → Bool → Meaning
chart_meaning name settings verbose limits lexical lattice =
    lines_meaning (λ g speech. IsChartLine g.book.system.types (texts g.book.feats.items) speech limits lexical lattice) name settings verbose
