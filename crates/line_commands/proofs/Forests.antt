-- The packed forest of a lattice by an engine that is ready, in the names of its grammar.
use Rattle.std.proofs.Common.{ℕ, ◌≡◌, List, length, map, string_bytes, sym, subst}
use Rattle.std.specs.Prelude.{String}
use Rattle.std.specs.Global.{Global}
use Rattle.constraint_expand.specs.declared.books.Book.{Book}
use Rattle.tree_model.specs.Lexical.{Words}
use Rattle.tree_model.specs.Items.{Limits}
use Rattle.tree_model.specs.Lattices.{Lattice}
use Rattle.book_signs.specs.Trees.{signs_of}
use Rattle.line_charts.specs.Answers.{ChartAnswer, IsChartAnswer}
use Rattle.line_charts.specs.Views.{IsChartNamed}
use Rattle.engine.specs.declared.lent.Engine.{Engine}
use Rattle.engine.specs.Ready.{IsReady}
use Rattle.line_commands.specs.Inner.Charters.{types_in, feats_in}

module _ (e : Engine) (ready : IsReady e) where
  pub forest-here : (words : Words) (lattice : Lattice) (most : ℕ) (limits : Limits) (a : ChartAnswer) (feats : List (String Global)) → feats ≡ e.grammar.now.book.feats.items
      → IsChartAnswer (signs_of e.signs.now) e.signs.now.book.system.types (map string_bytes feats) words lattice most limits a → IsChartAnswer (signs_of e.signs.now) (types_in e) (feats_in e) words lattice most limits a
  forest-here words lattice most limits a feats is x =
      subst (λ (b : Book). IsChartAnswer (signs_of e.signs.now) b.system.types (feats_in e) words lattice most limits a) ready.book
      (subst (λ (fs : List (String Global)). IsChartAnswer (signs_of e.signs.now) e.signs.now.book.system.types (map string_bytes fs) words lattice most limits a) is x)

  -- each instance has a name
  pub named-here : length e.grammar.now.names.items ≡ length (signs_of e.signs.now).instances → (a : ChartAnswer) → IsChartNamed e.signs.now.book.system.types (length (signs_of e.signs.now).instances) a
      → IsChartNamed (types_in e) (length e.grammar.now.names.items) a
  named-here count a x =
      subst (λ (b : Book). IsChartNamed b.system.types (length e.grammar.now.names.items) a) ready.book (subst (λ n. IsChartNamed e.signs.now.book.system.types n a) (sym count) x)
