-- Hosts with the keys of their rows.
use Rattle.std.specs.Prelude.{ℕ, ◌≡◌, List, All}
use Rattle.chart_model.specs.declared.span.Span.{Span}
use Rattle.type_hierarchy.specs.Table.{TypeTable}
use Rattle.chart_core.specs.declared.ended.Finished.{Finished}
use Rattle.chart_core.specs.Kept.{core_of, rows_in}
use Rattle.chart_core.specs.View as seen
use Rattle.fs_graph.specs.GraphMap.{IsGraph}
use Rattle.fs_trim.specs.Cutting.{IsShort}
use Rattle.fs_unify.specs.Rules.{Grammar}
use Rattle.grammar_shapes.specs.declared.shapes.GrammarShapes.{GrammarShapes}
use Rattle.grammar_shapes.specs.Shaped.{Shape, graph_of}
use Rattle.grammar_shapes.specs.Systems.{grammar_of, rules_of, Belongs}
use Rattle.grammar_shapes.specs.Spanned.{span_calculus}
use Rattle.line_charts.specs.Keys.{Key, IsGraphText}
use Rattle.line_charts.specs.Inner.Hosts.{HasShape, key_of, row_of}
use Rattle.line_charts.specs.declared.hosts.Host.{Host}

-- a graph is in range and short, and has this text
pub record IsKeyIn (g : Grammar) (types : TypeTable) (feats : List (List ℕ)) (key : Key) : Type 0 where
  pub is_graph : IsGraph key.graph
  pub short : IsShort g key.graph
  pub text : IsGraphText types feats key.graph key.text

module _ {X W B : Type 0} (s : GrammarShapes) (f : Finished X Shape Span W B) where
  abbrev pub AreBelonging : Type 0
  AreBelonging = All (seen.Belongs (span_calculus (rules_of s)) (Belongs s)) (rows_in (core_of f))

  -- the key is that of a row
  pub record IsKeyOf (types : TypeTable) (feats : List (List ℕ)) (i : ℕ) (key : Key) : Type 0 where
    pub of_row : HasShape f i
    pub graph : key.graph ≡ graph_of of_row.shape
    pub from : key.from ≡ of_row.row.cover.from
    pub to : key.to ≡ of_row.row.cover.to
    pub level : key.level ≡ of_row.row.level
    pub is : IsKeyIn (grammar_of s) types feats key

  abbrev pub IsHostKeyed : TypeTable → List (List ℕ) → Host → Type 0
  IsHostKeyed types feats h = IsKeyOf types feats (row_of h) (key_of h)
