-- Lines of trees, one tree after the other.
use Rattle.std.proofs.Common.{ℕ, ◌≡◌, ◌+◌, ◌<◌, Bool, List, [], ◌∷◌, ◌++◌, length, map, take, get_or, append_assoc, sym, ap, subst, ◌∙◌, Vec, Global}
use Rattle.std.proofs.lemmas.List.{take_more, map-append}
use Rattle.derivation.specs.Trees.{Derivation}
use Rattle.derivation.specs.Views.{derivation_of}
use Rattle.derivation.specs.declared.Tree.{Tree}
use Rattle.tree_model.specs.Signs.{Signs}
use Rattle.item_reports.specs.Reports.{tree_line}
use Rattle.mrs_lines.specs.Lines.{Semantics, IsMrsLine, AreTreeLines, no_trees, a_tree}

module _ (g : Signs) (s : Semantics) (names : List (List ℕ)) (nodes : Bool) where
  push : (trees : List Derivation) (lines : List (List ℕ)) (tree : Derivation) (line : List ℕ) → AreTreeLines g s names nodes trees lines → IsMrsLine g s tree line
      → AreTreeLines g s names nodes (trees ++ tree ∷ []) (lines ++ tree_line names nodes tree ∷ line ∷ [])
  push _ _ tree line no_trees x = a_tree tree line [] [] x no_trees
  push _ _ tree line (a_tree t l ts ls h all) x = a_tree t l (ts ++ tree ∷ []) (ls ++ tree_line names nodes tree ∷ line ∷ []) h (push ts ls tree line all x)

  -- one tree more
  pub lines_more : (trees : List Tree) (k : ℕ) (tree : Tree) (lines : List (List ℕ)) (line : List ℕ) → k < length trees → tree ≡ get_or trees k tree
      → AreTreeLines g s names nodes (map derivation_of (take k trees)) lines → IsMrsLine g s (derivation_of tree) line
      → AreTreeLines g s names nodes (map derivation_of (take (k + 1) trees)) (lines ++ tree_line names nodes (derivation_of tree) ∷ line ∷ [])
  lines_more trees k tree lines line lt at all x =
      let whole : take k trees ++ tree ∷ [] ≡ take (k + 1) trees = ap (λ t. take k trees ++ t ∷ []) at ∙ sym (take_more trees k tree lt) in
      let mapped : map derivation_of (take k trees) ++ derivation_of tree ∷ [] ≡ map derivation_of (take (k + 1) trees)
      = sym (map-append derivation_of (take k trees) (tree ∷ [])) ∙ ap (map derivation_of) whole in
      subst (λ ts. AreTreeLines g s names nodes ts (lines ++ tree_line names nodes (derivation_of tree) ∷ line ∷ [])) mapped (push (map derivation_of (take k trees)) lines (derivation_of tree) line all x)

abbrev items_of : List (Vec ℕ Global) → List (List ℕ)
items_of lines = map (λ l. l.items) lines

-- the bytes of a first line
pub items_first : (w u : List (Vec ℕ Global)) (a : Vec ℕ Global) (x : List ℕ) → w ≡ [] → u ≡ w ++ a ∷ [] → a.items ≡ x → map (λ l. l.items) u ≡ x ∷ []
items_first w u a x none e h = ap items_of (e ∙ ap (λ l. l ++ a ∷ []) none) ∙ ap (λ y. y ∷ []) h

-- the bytes of two lines more
pub items_more : (w u v : List (Vec ℕ Global)) (a b : Vec ℕ Global) (head : List ℕ) (rest : List (List ℕ)) (x : List ℕ) → u ≡ w ++ a ∷ [] → v ≡ u ++ b ∷ []
    → map (λ l. l.items) w ≡ head ∷ rest → a.items ≡ x → map (λ l. l.items) v ≡ head ∷ (rest ++ x ∷ b.items ∷ [])
items_more w u v a b head rest x e f h k =
    ap items_of (f ∙ ap (λ l. l ++ b ∷ []) e) ∙ map-append (λ l. l.items) (w ++ a ∷ []) (b ∷ []) ∙ ap (λ l. l ++ b.items ∷ []) (map-append (λ l. l.items) w (a ∷ []))
    ∙ ap (λ l. (l ++ a.items ∷ []) ++ b.items ∷ []) h ∙ ap (λ l. head ∷ l) (append_assoc rest (a.items ∷ []) (b.items ∷ [])) ∙ ap (λ y. head ∷ (rest ++ y ∷ b.items ∷ [])) k
