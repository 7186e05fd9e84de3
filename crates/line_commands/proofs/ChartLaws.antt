-- What holds of `chart`.
use Rattle.std.proofs.Common.{ℕ, List, Bool, Option, ap, subst}
use Rattle.endings.specs.Meanings.{Lawful}
use Rattle.endings.specs.Reports.{AreAnswers}
use Rattle.type_hierarchy.specs.Decls.{texts}
use Rattle.type_hierarchy.specs.Table.{TypeTable}
use Rattle.fs_unify.specs.Rules.{Grammar}
use Rattle.tree_model.specs.Said.{SameViews}
use Rattle.tree_model.specs.Items.{Limits}
use Rattle.grammar_load.specs.Loaded.{GrammarTree}
use Rattle.line_charts.specs.Laws.{ChartAnswersAreOne}
use Rattle.engine.specs.Speeches.{Speech}
use Rattle.engine.proofs.Speeches.{OneSigns}
use Rattle.engine.proofs.GrammarLaws.{OneGrammar, OneFault, NotBoth, Calm}
use Rattle.line_commands.specs.Lines.{LineAnswers}
use Rattle.line_commands.specs.Charting.{IsForestReport, IsChartLine, chart_meaning}
use Rattle.line_commands.proofs.OneLine.{OneLattice, OneWrong, Apart, one-line}
use Rattle.line_commands.proofs.OneForest.{one-forest}
use Rattle.line_commands.proofs.LineLaws.{Carries, line-laws}

module _ (limits : Limits) (lexical : ℕ) (writes : Bool) where
  abbrev answers_of : GrammarTree → Speech → LineAnswers
  answers_of g s = IsChartLine g.book.system.types (texts g.book.feats.items) s limits lexical writes

  -- grammars that are the same have the same types and the same names of features
  carried : Carries answers_of
  carried g h same s lines pieces refused a =
      let types = ap (λ (r : Grammar). r.types) same.book.system in
      subst (λ (fs : List (List ℕ)). AreAnswers (IsChartLine h.book.system.types fs s limits lexical writes) 1 lines pieces refused) same.book.features
      (subst (λ (t : TypeTable). AreAnswers (IsChartLine t (texts g.book.feats.items) s limits lexical writes) 1 lines pieces refused) types a)

  pub chart-laws : OneGrammar → OneFault → NotBoth → Calm → SameViews → OneSigns → OneLattice → OneWrong → Apart → ChartAnswersAreOne
      → (name : List ℕ) (settings : Option (List ℕ)) (verbose : Bool) → Lawful (chart_meaning name settings verbose limits lexical writes)
  chart-laws one fault both calm views signs lattices wrongs apart answers name settings verbose =
      line-laws one fault both calm views signs answers_of carried (λ g s order n.
      let types = g.book.system.types in
      let feats = texts g.book.feats.items in
      one-line lattices wrongs apart writes (IsForestReport types feats s limits lexical writes n) (one-forest answers types feats s order limits lexical writes n) n) name settings verbose
