-- The answer to a line that is parsed, over trees and sets of classes alone, and what a finished chart has to do with it.
use Rattle.std.specs.Prelude.{ℕ, ◌↔◌, ◌≡◌, ◌≤◌, List, length}
use Rattle.fs_model.specs.Claims.{IsOrder}
use Rattle.chart_model.specs.Limits.{IsLimitAnswer, UnaryChain, Edges, Within, IsClassCount}
use Rattle.chart_model.specs.declared.span.Span.{Span}
use Rattle.derivation.specs.Trees.{Derivation}
use Rattle.tree_model.specs.Signs.{Signs}
use Rattle.tree_model.specs.Lexical.{Words}
use Rattle.tree_model.specs.Items.{LeafTree, AreLeaves, Limits, calculus, leaves_from, chart_limits, Answer, LexicalDepth, ByUnaryChain, ByEdges, Readings, Trees, AreExactly, AreMoreThan}
use Rattle.tree_model.specs.Forests.{IsForest, IsUnpacked, IsFound}
use Rattle.tree_model.specs.Lattices.{Lattice}
use Rattle.tree_model.specs.Licensed.{IsLicensed, IsTooDeep, parse_item}

-- `most` is the greatest number of rules of a lexical tree
module _ (g : Signs) (words : Words) (lattice : Lattice) (most : ℕ) (limits : Limits) where
  -- by the leaves, where no lexical tree is too deep
  abbrev pub IsAnswerBy : List (LeafTree Span) → Answer → Type 0
  IsAnswerBy ls LexicalDepth = ⊥
  IsAnswerBy ls ByUnaryChain = (n : ℕ) × IsLimitAnswer (calculus g (parse_item g words lattice most)) (chart_limits limits) (leaves_from 0 ls) (UnaryChain n)
  IsAnswerBy ls ByEdges = (n : ℕ) × IsLimitAnswer (calculus g (parse_item g words lattice most)) (chart_limits limits) (leaves_from 0 ls) (Edges n)
  IsAnswerBy ls Readings =
      IsLimitAnswer (calculus g (parse_item g words lattice most)) (chart_limits limits) (leaves_from 0 ls) Within × AreMoreThan (IsLicensed g words lattice most) limits.readings
  IsAnswerBy ls (Trees classes trees) =
      IsLimitAnswer (calculus g (parse_item g words lattice most)) (chart_limits limits) (leaves_from 0 ls) Within
      × IsClassCount (calculus g (parse_item g words lattice most)) (chart_limits limits) (leaves_from 0 ls) classes
      × AreExactly (IsLicensed g words lattice most) trees × (length trees ≤ limits.readings)

  -- the first rule that holds decides: a lexical tree is too deep; a limit on chains or classes is broken, at the least size; too many
  -- trees are licensed; or these are they, in order, with the number of packed classes
  abbrev pub IsParseAnswer : Answer → Type 0
  IsParseAnswer LexicalDepth = IsTooDeep g words lattice most
  IsParseAnswer a = (IsTooDeep g words lattice most → ⊥) × ((ls : List (LeafTree Span)) × AreLeaves g (parse_item g words lattice most) ls × IsAnswerBy ls a)

-- In a finished chart within the limits the forest's accepted trees are exactly the licensed ones.
abbrev pub ForestsAreLicensed : Type 0
ForestsAreLicensed = (g : Signs) (words : Words) (lattice : Lattice) (most : ℕ) (limits : Limits) → IsOrder g.system → (ls : List (LeafTree Span)) →
    AreLeaves g (parse_item g words lattice most) ls → IsForest g (parse_item g words lattice most) limits ls → (t : Derivation) →
    IsUnpacked g (parse_item g words lattice most) limits ls t ↔ IsLicensed g words lattice most t

-- What is found by chart and unpacking is the answer to the line.
abbrev pub FoundIsAnswer : Type 0
FoundIsAnswer = (g : Signs) (words : Words) (lattice : Lattice) (most : ℕ) (limits : Limits) → IsOrder g.system → (IsTooDeep g words lattice most → ⊥) → (ls : List (LeafTree Span)) →
    AreLeaves g (parse_item g words lattice most) ls → (a : Answer) → IsFound g (parse_item g words lattice most) limits ls a → IsParseAnswer g words lattice most limits a

-- A line has one answer.
abbrev pub ParseAnswersAreOne : Type 0
ParseAnswersAreOne = (g : Signs) (words : Words) (lattice : Lattice) (most : ℕ) (limits : Limits) → IsOrder g.system → (a b : Answer) →
    IsParseAnswer g words lattice most limits a → IsParseAnswer g words lattice most limits b → a ≡ b
