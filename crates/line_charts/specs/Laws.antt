-- What holds of the answers to lattices whose packed forests are asked for.
use Rattle.std.specs.Prelude.{ℕ, ◌≡◌, List, length}
use Rattle.type_hierarchy.specs.Table.{TypeTable}
use Rattle.fs_model.specs.Claims.{IsOrder}
use Rattle.tree_model.specs.Signs.{Signs}
use Rattle.tree_model.specs.Lexical.{Words}
use Rattle.tree_model.specs.Items.{Limits, Answer}
use Rattle.tree_model.specs.Items as item
use Rattle.tree_model.specs.Lattices.{Lattice, Step}
use Rattle.tree_model.specs.Answers.{IsParseAnswer}
use Rattle.line_charts.specs.Unknown.{AreUnknown}
use Rattle.line_charts.specs.Answers.{ChartAnswer, LexicalDepth, ByUnaryChain, ByEdges, Forest, IsChartAnswer}

-- A lattice has one answer.
abbrev pub ChartAnswersAreOne : Type 0
ChartAnswersAreOne = (g : Signs) (types : TypeTable) (feats : List (List ℕ)) (words : Words) (lattice : Lattice) (most : ℕ) (limits : Limits) → IsOrder g.system → (a b : ChartAnswer) →
    IsChartAnswer g types feats words lattice most limits a → IsChartAnswer g types feats words lattice most limits b → a ≡ b

-- The unknown words of steps are one list.
abbrev pub UnknownAreOne : Type 0
UnknownAreOne = (g : Signs) (words : Words) (lattice : Lattice) (most : ℕ) (steps us vs : List Step) → AreUnknown g words lattice most steps us → AreUnknown g words lattice most steps vs → us ≡ vs

-- An answer with trees has as many classes as the packed forest; a limit on lexical rules, chains or classes is one of both.
abbrev pub Matches : ChartAnswer → Answer → Type 0
Matches LexicalDepth (item.LexicalDepth) = Unit {0}
Matches ByUnaryChain (item.ByUnaryChain) = Unit {0}
Matches ByEdges (item.ByEdges) = Unit {0}
Matches (Forest unknown classes) (item.Readings) = Unit {0}
Matches (Forest unknown classes) (item.Trees n trees) = length classes ≡ n
Matches a b = ⊥

abbrev pub ChartsMatchParses : Type 0
ChartsMatchParses = (g : Signs) (types : TypeTable) (feats : List (List ℕ)) (words : Words) (lattice : Lattice) (most : ℕ) (limits : Limits) → IsOrder g.system → (a : ChartAnswer) (b : Answer) →
    IsChartAnswer g types feats words lattice most limits a → IsParseAnswer g words lattice most limits b → Matches a b
