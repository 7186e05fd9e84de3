-- A tree has one line of its MRS, and an answer one list of lines.
use Rattle.std.proofs.Common.{ℕ, ◌≡◌, Bool, List, ◌∷◌, refl, sym, ap, subst, ◌∙◌}
use Rattle.fs_model.specs.Claims.{IsOrder}
use Rattle.fs_graph.specs.GraphMap.{GraphMap}
use Rattle.derivation.specs.Trees.{Derivation}
use Rattle.tree_model.specs.Structures.{Structure}
use Rattle.tree_model.specs.Signs.{Signs}
use Rattle.tree_model.specs.Trees.{Full}
use Rattle.tree_model.specs.Items.{Answer, LexicalDepth, ByUnaryChain, ByEdges, Readings, Trees}
use Rattle.tree_model.proofs.Once.{one}
use Rattle.item_reports.specs.Reports.{item_line, tree_line}
use Rattle.mrs_extract.specs.Extraction.{Extracts}
use Rattle.mrs_extract.specs.Laws.{MrsIsOne}
use Rattle.tree_structures.specs.Meant.{IsMeantBy}
use Rattle.tree_structures.specs.Laws.{GraphsAreOne}
use Rattle.mrs_lines.specs.Lines.{Semantics, sought_line, IsMrsLine, AreTreeLines, no_trees, a_tree, AreAnswerLines}

module _ (graphs : GraphsAreOne) (mrss : MrsIsOne) (g : Signs) (o : IsOrder g.system) (s : Semantics) where
  -- a tree's structure means one graph
  same_graph : (tree : Derivation) (f h : Structure) (a b : GraphMap) → Full g tree f → Full g tree h → IsMeantBy g f a → IsMeantBy g h b → a ≡ b
  same_graph tree f h a b x y p q = graphs g o f a b p (subst (λ z. IsMeantBy g z b) (sym (one g o x y)) q)

  pub line_one : (tree : Derivation) (a b : List ℕ) → IsMrsLine g s tree a → IsMrsLine g s tree b → a ≡ b
  line_one tree a b x y =
      let same = same_graph tree x.full y.full x.graph y.graph x.is_full y.is_full x.meant y.meant in
      let out : x.outcome ≡ y.outcome = mrss x.graph s.types s.paths x.outcome y.outcome x.extracts (subst (λ z. Extracts z s.types s.paths y.outcome) (sym same) y.extracts) in
      x.line_is ∙ ap sought_line out ∙ sym y.line_is

  module _ (names : List (List ℕ)) (nodes : Bool) where
    trees_one : (trees : List Derivation) (a b : List (List ℕ)) → AreTreeLines g s names nodes trees a → AreTreeLines g s names nodes trees b → a ≡ b
    trees_one _ _ _ no_trees no_trees = refl
    trees_one _ _ _ (a_tree tree x trees xs h all) (a_tree _ y _ ys k others) =
        let e = line_one tree x y h k in
        let rest = trees_one trees xs ys all others in
        λ i. tree_line names nodes tree ∷ e i ∷ rest i

    pub answer_one : (number : ℕ) (answer : Answer) (a b : List (List ℕ)) → AreAnswerLines g s names nodes number answer a → AreAnswerLines g s names nodes number answer b → a ≡ b
    answer_one number LexicalDepth a b x y = x ∙ sym y
    answer_one number ByUnaryChain a b x y = x ∙ sym y
    answer_one number ByEdges a b x y = x ∙ sym y
    answer_one number Readings a b x y = x ∙ sym y
    answer_one number (Trees classes trees) a b x y = x.1 ∙ ap (λ r. item_line number _ ∷ r) (trees_one trees x.0 y.0 x.2 y.2) ∙ sym y.1
