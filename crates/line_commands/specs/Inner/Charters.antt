-- What a charter says.
use Rattle.std.specs.Prelude.{ℕ, Bool, List}
use Rattle.type_hierarchy.specs.Decls.{texts}
use Rattle.type_hierarchy.specs.Table.{TypeTable}
use Rattle.morph_analysis.specs.Lattices.{LatticeTree}
use Rattle.lexical_items.specs.Seen.{lattice_seen}
use Rattle.packed_items.specs.Answers.{limits_in}
use Rattle.line_charts.specs.Answers.{ChartAnswer, IsChartAnswer}
use Rattle.engine.specs.declared.lent.Engine.{Engine}
use Rattle.engine.specs.Views.{speech_of}
use Rattle.line_commands.specs.Charting.{IsForestReport, IsChartLine}
use Rattle.line_commands.specs.declared.charter.Charter.{Charter}

-- the names of an engine's types and features
abbrev pub types_in : Engine → TypeTable
types_in e = e.grammar.now.book.system.types

abbrev pub feats_in : Engine → List (List ℕ)
feats_in e = texts e.grammar.now.book.feats.items

-- the answer to a lattice
abbrev pub IsForestOf : Charter → LatticeTree → ChartAnswer → Type 0
IsForestOf c lattice = IsChartAnswer (speech_of c.engine).signs (types_in c.engine) (feats_in c.engine) (speech_of c.engine).words (lattice_seen lattice) c.limits.lexical (limits_in c.limits)

-- its lines
abbrev pub IsReportOf : Charter → ℕ → LatticeTree → List (List ℕ) → Bool → Type 0
IsReportOf c = IsForestReport (types_in c.engine) (feats_in c.engine) (speech_of c.engine) (limits_in c.limits) c.limits.lexical c.lattice

-- the answer to a line
abbrev pub IsLineOf : Charter → ℕ → List ℕ → List (List ℕ) → Bool → Type 0
IsLineOf c = IsChartLine (types_in c.engine) (feats_in c.engine) (speech_of c.engine) (limits_in c.limits) c.limits.lexical c.lattice
