-- A lattice has one report of its packed forest.
use Rattle.std.proofs.Common.{ℕ, ◌≡◌, List, Bool, sym, ◌∙◌, ap}
use Rattle.type_hierarchy.specs.Table.{TypeTable}
use Rattle.fs_model.specs.Claims.{IsOrder}
use Rattle.tree_model.specs.Items.{Limits}
use Rattle.morph_analysis.specs.Lattices.{LatticeTree}
use Rattle.lexical_items.specs.Seen.{lattice_seen}
use Rattle.line_charts.specs.Laws.{ChartAnswersAreOne}
use Rattle.line_charts.specs.Texts.{chart_lines, is_refused}
use Rattle.engine.specs.Speeches.{Speech}
use Rattle.line_commands.specs.Charting.{IsForestReport}

pub one-forest : ChartAnswersAreOne → (types : TypeTable) (feats : List (List ℕ)) (s : Speech) → IsOrder s.signs.system → (limits : Limits) (lexical : ℕ) (writes : Bool)
    → (number : ℕ) (lattice : LatticeTree) (own other : List (List ℕ)) (b c : Bool)
    → IsForestReport types feats s limits lexical writes number lattice own b → IsForestReport types feats s limits lexical writes number lattice other c → (own ≡ other) × (b ≡ c)
one-forest answers types feats s order limits lexical writes number lattice own other b c x y =
    let same = answers s.signs types feats s.words (lattice_seen lattice) lexical limits order x.answer y.answer x.is y.is in
    (x.lines_are ∙ ap (chart_lines types s.names writes number) same ∙ sym y.lines_are, x.refused_is ∙ ap is_refused same ∙ sym y.refused_is)
