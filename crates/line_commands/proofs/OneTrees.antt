-- A lattice has one report of its trees.
use Rattle.std.proofs.Common.{ℕ, ◌≡◌, List, Bool, true, false, sym, ◌∙◌, ap, subst}
use Rattle.fs_model.specs.Claims.{IsOrder}
use Rattle.tree_model.specs.Answers.{ParseAnswersAreOne}
use Rattle.morph_analysis.specs.Lattices.{LatticeTree}
use Rattle.lexical_items.specs.Seen.{lattice_seen}
use Rattle.item_reports.specs.Reports.{is_refused}
use Rattle.tree_model.specs.Items.{Answer}
use Rattle.mrs_lines.specs.Laws.{LinesAreOne}
use Rattle.engine.specs.Speeches.{Speech}
use Rattle.line_commands.specs.Answers.{Asked, AreLinesOf, IsTreesReport}

module _ (answers : ParseAnswersAreOne) (mrss : LinesAreOne) (s : Speech) (order : IsOrder s.signs.system) where
  one-lines : (mrs nodes : Bool) (number : ℕ) (a : Answer) (ls ms : List (List ℕ)) → AreLinesOf mrs s nodes number a ls → AreLinesOf mrs s nodes number a ms → ls ≡ ms
  one-lines false nodes number a ls ms x y = x ∙ sym y
  one-lines true nodes number a ls ms x y = mrss s.signs order s.semantics s.names nodes number a ls ms x y

  pub one-trees : (asked : Asked) (number : ℕ) (lattice : LatticeTree) (own other : List (List ℕ)) (b c : Bool) → IsTreesReport s asked number lattice own b → IsTreesReport s asked number lattice other c → (own ≡ other) × (b ≡ c)
  one-trees asked number lattice own other b c x y =
      let same = answers s.signs s.words (lattice_seen lattice) asked.lexical asked.limits order x.answer y.answer x.is y.is in
      (one-lines asked.mrs asked.lattice number y.answer own other (subst (λ z. AreLinesOf asked.mrs s asked.lattice number z own) same x.lines_are) y.lines_are, x.refused_is ∙ ap is_refused same ∙ sym y.refused_is)
