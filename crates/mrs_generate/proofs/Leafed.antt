-- Lexical trees as leaves of the item of generation.
use Rattle.std.specs.Prelude.{ℕ, ◌≡◌, Option, List}
use Rattle.std.proofs.Common.{refl, sym, ◌∙◌, ap, subst}
use Rattle.chart_model.specs.Calculus.{along_none, along_more}
use Rattle.chart_model.specs.declared.counts.Counts.{Counts}
use Rattle.chart_model.specs.At.{At, here, there}
use Rattle.tree_model.specs.Structures.{Structure}
use Rattle.tree_model.specs.Signs.{Signs}
use Rattle.tree_model.specs.Lexical.{Words}
use Rattle.tree_model.specs.Items.{LeafTree, IsLeafTree, AreLeaves}
use Rattle.generate_model.specs.Realizations.{Asked, gen_item}
use Rattle.generated_leaves.specs.Leaves.{WordLeaf, AreGenLeaves}
use Rattle.mrs_generate.specs.Inner.Leafed.{leaf_of, leaf_trees, IsShapeOf, AreShapes}

module _ (g : Signs) where
  -- a leaf comes from a lexical tree
  record Comes (xs : List WordLeaf) (n : ℕ) (l : LeafTree Counts) : Type 0 where
    word : WordLeaf
    shape : Structure
    at : At xs n word
    shaped : IsShapeOf g word shape
    is : leaf_of word shape ≡ l

  comes : {xs : List WordLeaf} {ms : List Structure} {n : ℕ} {l : LeafTree Counts} → AreShapes g xs ms → At (leaf_trees xs ms) n l → Comes xs n l
  comes along_none a = elim a [ ]
  comes (along_more {x = x} {y = m} s more) here = record { word = x; shape = m; at = here; shaped = s; is = refl }
  comes (along_more s more) (there a) = let r = comes more a in record { word = r.word; shape = r.shape; at = there r.at; shaped = r.shaped; is = r.is }

  -- and each lexical tree is one
  leaf_at : {xs : List WordLeaf} {ms : List Structure} {n : ℕ} {x : WordLeaf} → AreShapes g xs ms → At xs n x → (l : LeafTree Counts) × At (leaf_trees xs ms) n l × (l.tree ≡ x.tree)
  leaf_at along_none a = elim a [ ]
  leaf_at (along_more {x = x} {y = m} s more) here = (leaf_of x m, here, refl)
  leaf_at (along_more s more) (there a) = let r = leaf_at more a in (r.0, there r.1, r.2)

pub are_leaves : (g : Signs) (words : Words) (asked : Asked) (most_rules most_empty : ℕ) (own : ℕ → Option Counts) (xs : List WordLeaf) (ms : List Structure) →
    AreGenLeaves g words asked most_rules most_empty own xs → AreShapes g xs ms → AreLeaves g (gen_item g words asked most_rules most_empty own) (leaf_trees xs ms)
are_leaves g words asked most_rules most_empty own xs ms are shaped = record {
  each = λ n l a.
      let r = comes g shaped a in
      let x = are.each n r.word r.at in
      subst (IsLeafTree g (gen_item g words asked most_rules most_empty own)) r.is (record { leaf = x.leaf; covered = x.covering; full = x.full; abstract = r.shaped });
  all = λ t leaf.
      let r = are.all t leaf in
      let l = leaf_at g shaped r.2 in
      (r.0, l.0, l.1, l.2 ∙ r.3);
  once = λ n m l k a b e.
      let x = comes g shaped a in
      let y = comes g shaped b in
      are.once n m x.word y.word x.at y.at (ap (λ (z : LeafTree Counts). z.tree) x.is ∙ e ∙ ap (λ (z : LeafTree Counts). z.tree) (sym y.is));
}
